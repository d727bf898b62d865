-- The parts of a document's first fault, one by one.
use Rattle.std.proofs.Common.{◌≡◌, ℕ, ◌+◌, ◌<◌, ◌≤◌, min, Bool, true, false, not, List, [], ◌∷◌, length, nat_le, cond, codes, Option, Some, None, option_map, refl, sym, ap, subst, ◌∙◌, inl, inr, arith}
use Rattle.std.proofs.lemmas.Bool.{leb-true}
use Rattle.std.proofs.lemmas.Bool.Decides.{nat_tests}
use Rattle.toml.specs.Data.{Data, Members, table, get}
use Rattle.mpb_script.specs.declared.keys.Place.TheVariants as of
use Rattle.mpb_script.specs.declared.script.KeyName.{KeyName}
use Rattle.mpb_script.specs.declared.script.KeyName.TheVariants as key
use Rattle.mpb_words.specs.declared.refusal.WordWhy.{WordWhy}
use Rattle.mpb_script.specs.declared.script.ScriptFault.{ScriptFault}
use Rattle.mpb_script.specs.declared.script.ScriptFault.TheVariants as fault
use Rattle.mpb_script.specs.Document.{HasDocument, elements_at, whole_at, optional, is_whole, is_list_of, is_table}
use Rattle.mpb_script.specs.Keys.{◌<|>◌, unless, is_page, wrong_key, wrong_head, wrong_cpus, wrong_devices, has_further_key}
use Rattle.mpb_script.specs.Words.{PlacedWord, many, cpu_tables, device_tables, all_words, word_why, word_fault, first_some, script_fault_of}
use Rattle.mpb_script.specs.Script.{HasFault}
use Rattle.mpb_script.specs.Answers.{IsCauseOf}
use Rattle.mpb_script.specs.Steps.{IsWrong, word_count, wrong_words, wrong_cpu_word, wrong_device_word}
use Rattle.mpb_script.proofs.WordLemmas.{first_wrong_word, length-all_words}

first_is : {A : Type 0} (a b : Option A) (x : A) → Some x ≡ a → (a <|> b) ≡ Some x
first_is a b x e = ap (λ o. o <|> b) (sym e)

first_isn't : {A : Type 0} (a b : Option A) → None ≡ a → (a <|> b) ≡ b
first_isn't a b e = ap (λ o. o <|> b) (sym e)

pub none_first : {A : Type 0} (a b : Option A) → (a <|> b) ≡ None → a ≡ None
none_first None b e = refl
none_first (Some x) b e = e

pub none_second : {A : Type 0} (a b : Option A) → (a <|> b) ≡ None → b ≡ None
none_second None b e = e
none_second (Some x) b e = cc

pub is_right : (b : Bool) (k : KeyName) → unless b k ≡ None → b ≡ true
is_right true k e = refl
is_right false k e = cc

-- a wrong key
pub fault-key : (d : Data) (k : KeyName) → Some k ≡ wrong_key d → script_fault_of d ≡ Some (fault.Key k)
unfolding script_fault_of
fault-key d k e = first_is _ _ _ (ap (option_map fault.Key) e)

-- too many words
many_words : (m n : ℕ) → n ≡ min m 4294967295 → 8192 < n → many m ≡ Some (fault.Many n)
many_words m n is more =
    let over : nat_le m 8192 ≡ false = grind (arith, nat_tests) in
    rw over (ap (λ k. Some (fault.Many k)) (sym is))

pub fault-many : (d : Data) (n : ℕ) → None ≡ wrong_key d → n ≡ min (word_count (cpu_tables d) + word_count (device_tables d)) 4294967295 → 8192 < n → script_fault_of d ≡ Some (fault.Many n)
unfolding script_fault_of
fault-many d n right is more =
    first_isn't _ _ (ap (option_map fault.Key) right)
    ∙ first_is _ _ _ (sym (many_words (length (all_words d)) n (is ∙ ap (λ k. min k 4294967295) (sym (length-all_words d))) more))

-- a wrong word, or none
few_words : (m : ℕ) → m ≤ 8192 → None ≡ many m
few_words m few =
    let within : nat_le m 8192 ≡ true = grind (arith, nat_tests) in
    rw within

few_in_all : (d : Data) → word_count (cpu_tables d) + word_count (device_tables d) ≤ 8192 → length (all_words d) ≤ 8192
few_in_all d few = let same = length-all_words d in omega arith

pub fault-words : (d : Data) → None ≡ wrong_key d → word_count (cpu_tables d) + word_count (device_tables d) ≤ 8192 → script_fault_of d ≡ wrong_words d
unfolding script_fault_of
fault-words d right few =
    first_isn't _ _ (ap (option_map fault.Key) right)
    ∙ first_isn't _ _ (few_words (length (all_words d)) (few_in_all d few))
    ∙ first_wrong_word d

-- at most four devices, where no key is wrong
last_row : {A : Type 0} (a b c d e f g : Option A) → ((a <|> (b <|> (c <|> (d <|> (e <|> f))))) <|> g) ≡ None → f ≡ None
last_row a b c d e f g none =
    none_second e f (none_second d (e <|> f) (none_second c (d <|> (e <|> f)) (none_second b (c <|> (d <|> (e <|> f))) (none_second a (b <|> (c <|> (d <|> (e <|> f)))) (none_first (a <|> (b <|> (c <|> (d <|> (e <|> f))))) g none)))))

pub few_devices : (d : Data) → None ≡ wrong_key d → length (device_tables d) ≤ 4
unfolding wrong_key wrong_head
few_devices d right =
    let few = last_row
    (unless (is_page (whole_at 255 (codes "page") d)) key.Page)
    (unless (optional (is_whole 65535) (get (codes "elcr") d)) key.Elcr)
    (unless (optional (is_list_of (is_whole 254)) (get (codes "present") d)) key.Present)
    (unless (optional (is_list_of is_table) (get (codes "cpu") d)) key.Cpu)
    (unless (optional (is_list_of is_table) (get (codes "device") d)) key.Device)
    (unless (nat_le (length (elements_at (codes "device") d)) 4) key.Device)
    (wrong_cpus [] (elements_at (codes "cpu") d) <|> (wrong_devices (elements_at (codes "device") d) <|> unless (not (has_further_key of.Document d)) key.Unknown))
    (sym right) in
    leb-true (length (device_tables d)) 4 (is_right (nat_le (length (elements_at (codes "device") d)) 4) key.Device few)

-- a document's fault is none of the text
abbrev IsNamed : Option ScriptFault → Type 0
IsNamed None = Unit {0}
IsNamed (Some fault.NotToml) = ⊥
IsNamed (Some fault.NoMemory) = ⊥
IsNamed (Some e) = Unit {0}

named_first : (a b : Option ScriptFault) → IsNamed a → IsNamed b → IsNamed (a <|> b)
named_first None b here later = later
named_first (Some e) b here later = here

named_key : (o : Option KeyName) → IsNamed (option_map fault.Key o)
named_key None = tt
named_key (Some k) = tt

named_if : (b : Bool) (n : ℕ) → IsNamed (cond b None (Some (fault.Many n)))
named_if true n = tt
named_if false n = tt

named_why : (w : PlacedWord) (o : Option WordWhy) → IsNamed (option_map (λ why. fault.Word w.agent w.index why) o)
named_why w None = tt
named_why w (Some why) = tt

named_words : (ws : List PlacedWord) → IsNamed (first_some word_fault ws)
named_words [] = tt
named_words (w ∷ ws) = named_first (word_fault w) (first_some word_fault ws) (named_why w (word_why w.agent w.text)) (named_words ws)

named : (d : Data) → IsNamed (script_fault_of d)
unfolding script_fault_of
named d =
    named_first (option_map fault.Key (wrong_key d)) (many (length (all_words d)) <|> first_some word_fault (all_words d)) (named_key (wrong_key d))
    (named_first (many (length (all_words d))) (first_some word_fault (all_words d)) (named_if _ _) (named_words (all_words d)))

-- a document's fault is one of its text
pub named_fault : (text : List ℕ) (ms : Members) (f : ScriptFault) → HasDocument text ms → script_fault_of (table ms) ≡ Some f → HasFault text f
named_fault text ms fault.NotToml doc found = absurd (subst IsNamed found (named (table ms)))
named_fault text ms fault.NoMemory doc found = absurd (subst IsNamed found (named (table ms)))
named_fault text ms (fault.Key k) doc found = (ms, doc, found)
named_fault text ms (fault.Many n) doc found = (ms, doc, found)
named_fault text ms (fault.Word a i w) doc found = (ms, doc, found)

-- a refusal of a document is one of the text
refused : (text : List ℕ) (d : Data) (e : ScriptFault) → (ms : Members) × HasDocument text ms × (d ≡ table ms) → script_fault_of d ≡ Some e → (ms : Members) × HasDocument text ms × (script_fault_of (table ms) ≡ Some e)
refused text d e doc found = (doc.0, doc.1, ap script_fault_of (sym doc.2) ∙ found)

found_or : (o : Option ScriptFault) (e : ScriptFault) → (e ≡ fault.NoMemory → ⊥) → IsWrong o e → o ≡ Some e
found_or o e other wrong = elim wrong [ inl memory ↦ absurd (other memory) | inr found ↦ found ]

pub refusal : (text : List ℕ) (d : Data) (e : ScriptFault) → (ms : Members) × HasDocument text ms × (d ≡ table ms) → IsWrong (script_fault_of d) e → IsCauseOf text e
refusal text d fault.NotToml doc wrong = absurd (subst IsNamed (found_or (script_fault_of d) fault.NotToml (λ m. cc) wrong) (named d))
refusal text d (fault.Key k) doc wrong = refused text d (fault.Key k) doc (found_or (script_fault_of d) (fault.Key k) (λ m. cc) wrong)
refusal text d (fault.Many n) doc wrong = refused text d (fault.Many n) doc (found_or (script_fault_of d) (fault.Many n) (λ m. cc) wrong)
refusal text d (fault.Word a i w) doc wrong = refused text d (fault.Word a i w) doc (found_or (script_fault_of d) (fault.Word a i w) (λ m. cc) wrong)
refusal text d fault.NoMemory doc wrong = tt

-- the count of all words, from those of both kinds of table
pub count_both : (a b x y n : ℕ) → x ≡ min a 4294967295 → y ≡ min b 4294967295 → n ≡ min (x + y) 4294967295 → n ≡ min (a + b) 4294967295
count_both a b x y n first second sum = omega arith

-- what a document without a wrong key and with few words is refused for
pub wrong-words : (d : Data) (e : ScriptFault) → None ≡ wrong_key d → word_count (cpu_tables d) + word_count (device_tables d) ≤ 8192 → IsWrong (wrong_words d) e → IsWrong (script_fault_of d) e
wrong-words d e right few wrong = elim wrong [ inl memory ↦ inl memory | inr found ↦ inr (fault-words d right few ∙ found) ]

-- a wrong word of a processor is the first of all
pub wrong_of_cpus : (d : Data) (ts : List Data) (e : ScriptFault) → ts ≡ cpu_tables d → IsWrong (wrong_cpu_word ts) e → IsWrong (wrong_words d) e
unfolding wrong_words
wrong_of_cpus d ts e same wrong = elim wrong [
  | inl memory ↦ inl memory
  | inr found ↦ inr (first_is _ _ _ (sym (ap wrong_cpu_word (sym same) ∙ found)))
]

-- one of a device is, where the processors have none
pub wrong_of_devices : (d : Data) (ts ds : List Data) (e : ScriptFault) → ts ≡ cpu_tables d → ds ≡ device_tables d → wrong_cpu_word ts ≡ None → IsWrong (wrong_device_word 0 ds) e → IsWrong (wrong_words d) e
unfolding wrong_words
wrong_of_devices d ts ds e same others none wrong = elim wrong [
  | inl memory ↦ inl memory
  | inr found ↦ inr (first_isn't _ _ (sym (ap wrong_cpu_word (sym same) ∙ none)) ∙ ap (wrong_device_word 0) (sym others) ∙ found)
]

-- there is none
pub none_wrong : (d : Data) (ts ds : List Data) → ts ≡ cpu_tables d → ds ≡ device_tables d → wrong_cpu_word ts ≡ None → wrong_device_word 0 ds ≡ None → wrong_words d ≡ None
unfolding wrong_words
none_wrong d ts ds same others cpus devices = first_isn't _ _ (sym (ap wrong_cpu_word (sym same) ∙ cpus)) ∙ ap (wrong_device_word 0) (sym others) ∙ devices
