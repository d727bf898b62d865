-- All words of a document, against the words of its tables one by one: how many they are, and the first wrong one.
use Rattle.std.proofs.Common.{◌≡◌, ℕ, ◌+◌, suc, List, [], ◌∷◌, ◌++◌, length, Option, Some, None, option_map, Result, Ok, Err, codes, refl, sym, ap, ◌∙◌, length-append}
use Rattle.std.proofs.lemmas.List.{length-map}
use Rattle.std.proofs.lemmas.List.Sums.{sum_by-cons}
use Rattle.std.specs.List.{flat_map}
use Rattle.toml.specs.Data.{Data}
use Rattle.mpb_spec.specs.declared.agent.Agent.{Agent}
use Rattle.mpb_spec.specs.declared.agent.Agent.TheVariants as of
use Rattle.mpb_words.specs.declared.refusal.WordWhy.{WordWhy}
use Rattle.mpb_words.specs.Words.{cpu_op_of, device_word_of}
use Rattle.mpb_script.specs.declared.script.ScriptFault.TheVariants as fault
use Rattle.mpb_script.specs.Document.{text_of, elements_at}
use Rattle.mpb_script.specs.Keys.{◌<|>◌}
use Rattle.mpb_script.specs.Words.{placed, cpu_words, device_words, all_words, words_of, cpu_id, cpu_tables, device_tables, why_wrong, word_fault, first_some}
use Rattle.mpb_script.specs.Steps.{word_count, fault_from, wrong_word, wrong_cpu_word, wrong_device_word, wrong_words}

or_assoc : {A : Type 0} (a b c : Option A) → ((a <|> b) <|> c) ≡ (a <|> (b <|> c))
or_assoc None b c = refl
or_assoc (Some x) b c = refl

first_some-append : {A B : Type 0} (f : A → Option B) (xs ys : List A) → first_some f (xs ++ ys) ≡ (first_some f xs <|> first_some f ys)
first_some-append f [] ys = refl
first_some-append f (x ∷ xs) ys = ap (λ o. f x <|> o) (first_some-append f xs ys) ∙ sym (or_assoc (f x) (first_some f xs) (first_some f ys))

told : {A : Type 0} (agent : Agent) (i : ℕ) (r : Result A WordWhy) → option_map (λ why. fault.Word agent i why) (why_wrong r) ≡ fault_from agent i r
told agent i (Ok a) = refl
told agent i (Err w) = refl

cpu_program-fault : (id i : ℕ) (ws : List (List ℕ)) → first_some word_fault (placed (of.Cpu id) i ws) ≡ wrong_word cpu_op_of (of.Cpu id) i ws
cpu_program-fault id i [] = refl
cpu_program-fault id i (w ∷ ws) =
    ap (λ o. o <|> first_some word_fault (placed (of.Cpu id) (suc i) ws)) (told (of.Cpu id) i (cpu_op_of w))
    ∙ ap (λ o. fault_from (of.Cpu id) i (cpu_op_of w) <|> o) (cpu_program-fault id (suc i) ws)

device_program-fault : (n i : ℕ) (ws : List (List ℕ)) → first_some word_fault (placed (of.Dev n) i ws) ≡ wrong_word device_word_of (of.Dev n) i ws
device_program-fault n i [] = refl
device_program-fault n i (w ∷ ws) =
    ap (λ o. o <|> first_some word_fault (placed (of.Dev n) (suc i) ws)) (told (of.Dev n) i (device_word_of w))
    ∙ ap (λ o. fault_from (of.Dev n) i (device_word_of w) <|> o) (device_program-fault n (suc i) ws)

cpus-fault : (ts : List Data) → first_some word_fault (flat_map cpu_words ts) ≡ wrong_cpu_word ts
cpus-fault [] = refl
cpus-fault (t ∷ ts) =
    first_some-append word_fault (cpu_words t) (flat_map cpu_words ts)
    ∙ ap (λ o. o <|> first_some word_fault (flat_map cpu_words ts)) (cpu_program-fault (cpu_id t) 0 (words_of t))
    ∙ ap (λ o. wrong_word cpu_op_of (of.Cpu (cpu_id t)) 0 (words_of t) <|> o) (cpus-fault ts)

devices-fault : (n : ℕ) (ts : List Data) → first_some word_fault (device_words n ts) ≡ wrong_device_word n ts
devices-fault n [] = refl
devices-fault n (t ∷ ts) =
    first_some-append word_fault (placed (of.Dev n) 0 (words_of t)) (device_words (suc n) ts)
    ∙ ap (λ o. o <|> first_some word_fault (device_words (suc n) ts)) (device_program-fault n 0 (words_of t))
    ∙ ap (λ o. wrong_word device_word_of (of.Dev n) 0 (words_of t) <|> o) (devices-fault (suc n) ts)

-- the first wrong word is that of the processors, else that of the devices
pub first_wrong_word : (d : Data) → first_some word_fault (all_words d) ≡ wrong_words d
unfolding all_words wrong_words
first_wrong_word d =
    first_some-append word_fault (flat_map cpu_words (cpu_tables d)) (device_words 0 (device_tables d))
    ∙ ap (λ o. o <|> first_some word_fault (device_words 0 (device_tables d))) (cpus-fault (cpu_tables d))
    ∙ ap (λ o. wrong_cpu_word (cpu_tables d) <|> o) (devices-fault 0 (device_tables d))

length-placed : (agent : Agent) (i : ℕ) (ws : List (List ℕ)) → length (placed agent i ws) ≡ length ws
length-placed agent i [] = refl
length-placed agent i (w ∷ ws) = ap suc (length-placed agent (suc i) ws)

length-words : (t : Data) → length (words_of t) ≡ length (elements_at (codes "words") t)
length-words t = length-map (elements_at (codes "words") t) text_of

length-cpu_words : (ts : List Data) → length (flat_map cpu_words ts) ≡ word_count ts
length-cpu_words [] = refl
length-cpu_words (t ∷ ts) =
    let here : length (cpu_words t) ≡ length (elements_at (codes "words") t) = length-placed (of.Cpu (cpu_id t)) 0 (words_of t) ∙ length-words t in
    length-append (cpu_words t) (flat_map cpu_words ts)
    ∙ ap (λ n. n + length (flat_map cpu_words ts)) here
    ∙ ap (λ n. length (elements_at (codes "words") t) + n) (length-cpu_words ts)
    ∙ sym (sum_by-cons (λ x. length (elements_at (codes "words") x)) t ts)

length-device_words : (n : ℕ) (ts : List Data) → length (device_words n ts) ≡ word_count ts
length-device_words n [] = refl
length-device_words n (t ∷ ts) =
    let here : length (placed (of.Dev n) 0 (words_of t)) ≡ length (elements_at (codes "words") t) = length-placed (of.Dev n) 0 (words_of t) ∙ length-words t in
    length-append (placed (of.Dev n) 0 (words_of t)) (device_words (suc n) ts)
    ∙ ap (λ k. k + length (device_words (suc n) ts)) here
    ∙ ap (λ k. length (elements_at (codes "words") t) + k) (length-device_words (suc n) ts)
    ∙ sym (sum_by-cons (λ x. length (elements_at (codes "words") x)) t ts)

-- there are as many words as the tables have
pub length-all_words : (d : Data) → length (all_words d) ≡ word_count (cpu_tables d) + word_count (device_tables d)
unfolding all_words
length-all_words d =
    length-append (flat_map cpu_words (cpu_tables d)) (device_words 0 (device_tables d))
    ∙ ap (λ n. n + length (device_words 0 (device_tables d))) (length-cpu_words (cpu_tables d))
    ∙ ap (λ n. word_count (cpu_tables d) + n) (length-device_words 0 (device_tables d))
