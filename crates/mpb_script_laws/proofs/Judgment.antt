-- A document without a fault says a script, so that every text is a script or refused.
use Rattle.std.proofs.Common.{◌≡◌, ℕ, suc, Bool, true, false, List, [], ◌∷◌, map, length, Option, Some, None, option_map, Result, Ok, Err, codes, ◌⊎◌, inl, inr, refl, sym, ap, ◌∙◌}
use Rattle.std.proofs.lemmas.Bool.{true≢false}
use Rattle.std.proofs.lemmas.Str.{IsUtf8-from_is_utf8, is_utf8-from_IsUtf8}
use Rattle.std.specs.Str.{IsUtf8, is_utf8}
use Rattle.toml.specs.Data.{Data, Members, get, table}
use Rattle.toml.specs.Parse.{parse_document}
use Rattle.mpb_spec.specs.declared.agent.Agent.{Agent}
use Rattle.mpb_spec.specs.declared.agent.Agent.TheVariants as of
use Rattle.mpb_spec.specs.declared.config.DevWord.{DevWord}
use Rattle.mpb_words.specs.declared.refusal.WordWhy.{WordWhy}
use Rattle.mpb_words.specs.Words.{cpu_op_of, device_word_of}
use Rattle.mpb_script.specs.declared.script.Script.{Script}
use Rattle.mpb_script.specs.declared.script.CpuScript.{CpuScript}
use Rattle.mpb_script.specs.declared.script.ScriptFault.{ScriptFault}
use Rattle.mpb_script.specs.declared.script.ScriptFault.TheVariants as fault
use Rattle.mpb_script.specs.Document.{HasDocument, number_in, number_at, elements}
use Rattle.mpb_script.specs.Keys.{◌<|>◌, wrong_key}
use Rattle.mpb_script.specs.Words.{cpu_tables, device_tables, cpu_id, words_of, all_words, many, word_fault, first_some, script_fault_of}
use Rattle.mpb_script.specs.Script.{Describes}
use Rattle.mpb_script.specs.Steps.{fault_from, wrong_word, wrong_cpu_word, wrong_device_word, wrong_words}
use Rattle.mpb_script.proofs.ProgramLemmas.{all_ok}
use Rattle.mpb_script.proofs.WordLemmas.{first_wrong_word}
use Rattle.mpb_script.proofs.FaultLemmas.{none_first, none_second, named_fault}
use Rattle.mpb_script_laws.specs.Laws.{IsScript, IsRefused}

-- what is said, of words that say something
abbrev says : {A : Type 0} → List (Result A WordWhy) → List A
says [] = []
says (Ok a ∷ rs) = a ∷ says rs
says (Err w ∷ rs) = says rs

abbrev cpu_of : Data → CpuScript
cpu_of t = record { id = cpu_id t; words = says (map cpu_op_of (words_of t)) }

abbrev device_of : Data → List DevWord
device_of t = says (map device_word_of (words_of t))

abbrev script_of : Data → Script
script_of d = record {
  page = number_at 255 (codes "page") d;
  elcr = number_at 65535 (codes "elcr") d;
  present = option_map (λ v. map (number_in 254) (elements v)) (get (codes "present") d);
  cpus = map cpu_of (cpu_tables d);
  devices = map device_of (device_tables d);
}

said_first : {A : Type 0} (agent : Agent) (i : ℕ) (r : Result A WordWhy) (rest : Option ScriptFault) (rs : List (Result A WordWhy)) → (fault_from agent i r <|> rest) ≡ None → (rest ≡ None → all_ok (says rs) ≡ rs) → all_ok (says (r ∷ rs)) ≡ r ∷ rs
said_first agent i (Ok a) rest rs none later = ap (λ xs. Ok a ∷ xs) (later none)
said_first agent i (Err w) rest rs none later = cc

said_all : {A : Type 0} (word : List ℕ → Result A WordWhy) (agent : Agent) (i : ℕ) (ws : List (List ℕ)) → wrong_word word agent i ws ≡ None → all_ok (says (map word ws)) ≡ map word ws
said_all word agent i [] none = refl
said_all word agent i (w ∷ ws) none = said_first agent i (word w) (wrong_word word agent (suc i) ws) (map word ws) none (said_all word agent (suc i) ws)

ids_said : (ts : List Data) → map (λ c. c.id) (map cpu_of ts) ≡ map cpu_id ts
ids_said [] = refl
ids_said (t ∷ ts) = ap (λ xs. cpu_id t ∷ xs) (ids_said ts)

cpus_said : (ts : List Data) → wrong_cpu_word ts ≡ None → map (λ c. all_ok c.words) (map cpu_of ts) ≡ map (λ t. map cpu_op_of (words_of t)) ts
cpus_said [] none = refl
cpus_said (t ∷ ts) none =
    let here = said_all cpu_op_of (of.Cpu (cpu_id t)) 0 (words_of t) (none_first (wrong_word cpu_op_of (of.Cpu (cpu_id t)) 0 (words_of t)) (wrong_cpu_word ts) none) in
    let more = cpus_said ts (none_second (wrong_word cpu_op_of (of.Cpu (cpu_id t)) 0 (words_of t)) (wrong_cpu_word ts) none) in
    ap (λ x. x ∷ map (λ c. all_ok c.words) (map cpu_of ts)) here ∙ ap (λ xs. map cpu_op_of (words_of t) ∷ xs) more

devices_said : (n : ℕ) (ts : List Data) → wrong_device_word n ts ≡ None → map all_ok (map device_of ts) ≡ map (λ t. map device_word_of (words_of t)) ts
devices_said n [] none = refl
devices_said n (t ∷ ts) none =
    let here = said_all device_word_of (of.Dev n) 0 (words_of t) (none_first (wrong_word device_word_of (of.Dev n) 0 (words_of t)) (wrong_device_word (suc n) ts) none) in
    let more = devices_said (suc n) ts (none_second (wrong_word device_word_of (of.Dev n) 0 (words_of t)) (wrong_device_word (suc n) ts) none) in
    ap (λ x. x ∷ map all_ok (map device_of ts)) here ∙ ap (λ xs. map device_word_of (words_of t) ∷ xs) more

no_wrong_word : (d : Data) → script_fault_of d ≡ None → wrong_words d ≡ None
unfolding script_fault_of
no_wrong_word d none =
    sym (first_wrong_word d)
    ∙ none_second (many (length (all_words d))) (first_some word_fault (all_words d))
    (none_second (option_map fault.Key (wrong_key d)) (many (length (all_words d)) <|> first_some word_fault (all_words d)) none)

script_says : (d : Data) → script_fault_of d ≡ None → Describes d (script_of d)
unfolding wrong_words
script_says d none =
    let words = no_wrong_word d none in
    record {
      page = refl;
      elcr = refl;
      present = refl;
      cpu_ids = ids_said (cpu_tables d);
      cpu_words = cpus_said (cpu_tables d) (none_first (wrong_cpu_word (cpu_tables d)) (wrong_device_word 0 (device_tables d)) words);
      device_words = devices_said 0 (device_tables d) (none_second (wrong_cpu_word (cpu_tables d)) (wrong_device_word 0 (device_tables d)) words);
    }

judged_document : (text : List ℕ) (ms : Members) → HasDocument text ms → (o : Option ScriptFault) → script_fault_of (table ms) ≡ o → IsScript text ⊎ IsRefused text
judged_document text ms doc None is = inl (script_of (table ms), record { members = ms; document = doc; sound = is; says = script_says (table ms) is })
judged_document text ms doc (Some f) is = inr (f, named_fault text ms f doc is)

judged_parse : (text : List ℕ) → IsUtf8 text → (o : Option Members) → parse_document text ≡ o → IsScript text ⊎ IsRefused text
judged_parse text utf8 None is = inr (fault.NotToml, λ ms doc. no_members ms doc)
  where
    no_members : (ms : Members) → HasDocument text ms → ⊥
    no_members ms doc = let both : Some ms ≡ None = sym doc.1 ∙ is in cc
judged_parse text utf8 (Some ms) is = judged_document text ms (utf8, is) (script_fault_of (table ms)) refl

judged_bytes : (text : List ℕ) (b : Bool) → is_utf8 text ≡ b → IsScript text ⊎ IsRefused text
judged_bytes text true is = judged_parse text (IsUtf8-from_is_utf8 text is) (parse_document text) refl
judged_bytes text false is = inr (fault.NotToml, λ ms doc. true≢false (sym (is_utf8-from_IsUtf8 text doc.0) ∙ is))

pub judged : (text : List ℕ) → IsScript text ⊎ IsRefused text
judged text = judged_bytes text (is_utf8 text) refl
