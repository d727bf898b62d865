-- Tables that are read one by one.
use Rattle.std.proofs.Common.{◌≡◌, ℕ, ◌+◌, ◌<◌, ◌≤◌, suc, true, false, List, [], ◌∷◌, ◌++◌, length, map, take, drop, get_or, Option, Some, None, Ok, codes, refl, sym, ap, ◌∙◌, add-one, arith, inl, inr}
use Rattle.std.specs.Prelude.{is_some}
use Rattle.std.proofs.lemmas.List.{at_drop_more, at_drop_all, take_more, take_all, length-map, map_more}
use Rattle.std.proofs.lemmas.List.Sums.{sum_by_more, sum_by_more_le, sum_by-cons}
use Rattle.std.specs.List.{sum_by}
use Rattle.toml.specs.Data.{Data}
use Rattle.toml.specs.View.{view}
use Rattle.toml.specs.declared.value.Value.{Value}
use Rattle.mpb_spec.specs.declared.agent.Agent.TheVariants as of
use Rattle.mpb_script.specs.declared.script.ScriptFault.{ScriptFault}
use Rattle.mpb_spec.specs.declared.config.DevWord.{DevWord}
use Rattle.mpb_script.specs.declared.script.CpuScript.{CpuScript}
use Rattle.mpb_script.specs.Document.{elements_at, text_of}
use Rattle.mpb_script.specs.Steps.{IsWrong, IsProgram, AreCpus, AreDevices, word_count, wrong_word, wrong_cpu_word, wrong_device_word}
use Rattle.mpb_script.specs.Keys.{◌<|>◌, wrong_cpu, wrong_cpus, wrong_device, wrong_devices}
use Rattle.mpb_words.specs.Words.{cpu_op_of, device_word_of}
use Rattle.mpb_script.specs.Words.{words_of, cpu_id}

-- how many words a table has
abbrev pub words_in : Value → ℕ
words_in v = length (elements_at (codes "words") (view v))

word_count-view : (vs : List Value) → word_count (map view vs) ≡ sum_by words_in vs
word_count-view [] = refl
word_count-view (v ∷ vs) = sum_by-cons (λ t. length (elements_at (codes "words") t)) (view v) (map view vs) ∙ ap (λ n. words_in v + n) (word_count-view vs) ∙ sym (sum_by-cons words_in v vs)

pub word_count-more : (vs : List Value) (i : ℕ) (v : Value) → i < length vs → v ≡ get_or vs i v → word_count (map view (take (i + 1) vs)) ≡ word_count (map view (take i vs)) + words_in v
word_count-more vs i v within is =
    word_count-view (take (i + 1) vs) ∙ sum_by_more words_in vs i v within
    ∙ ap (λ n. n + words_in (get_or vs i v)) (sym (word_count-view (take i vs)))
    ∙ ap (λ x. word_count (map view (take i vs)) + words_in x) (sym is)

-- no table has more words than all of them
pub word_count-within : (vs : List Value) (i : ℕ) (v : Value) → i < length vs → v ≡ get_or vs i v → words_in v ≤ word_count (map view vs)
word_count-within vs i v within is =
    let a = sum_by_more_le words_in vs i v within in
    let b = word_count-view vs in
    let c : words_in v ≡ words_in (get_or vs i v) = ap words_in is in
    omega arith

mapped : {A B : Type 0} (f : A → B) (xs : List A) (x : A) → map f (xs ++ x ∷ []) ≡ map f xs ++ f x ∷ []
mapped f [] x = refl
mapped f (y ∷ xs) x = ap (λ ys. f y ∷ ys) (mapped f xs x)

viewed : {B : Type 0} (g : Data → B) (vs : List Value) (v : Value) → map g (map view (vs ++ v ∷ [])) ≡ map g (map view vs) ++ g (view v) ∷ []
viewed g [] v = refl
viewed g (x ∷ vs) v = ap (λ ys. g (view x) ∷ ys) (viewed g vs v)

-- one more table that was read
pub read_on : {A B : Type 0} (f : A → B) (g : Data → B) (xs : List A) (x : A) (vs : List Value) (i : ℕ) (v : Value) → i < length vs → v ≡ get_or vs i v → f x ≡ g (view v)
    → map f xs ≡ map g (map view (take i vs)) → map f (xs ++ x ∷ []) ≡ map g (map view (take (i + 1) vs))
read_on f g xs x vs i v within is same so_far =
    mapped f xs x
    ∙ ap (λ y. map f xs ++ y ∷ []) (same ∙ ap (λ y. g (view y)) is)
    ∙ ap (λ ys. ys ++ g (view (get_or vs i v)) ∷ []) so_far
    ∙ sym (viewed g (take i vs) (get_or vs i v))
    ∙ ap (λ ys. map g (map view ys)) (sym (take_more vs i v within))

-- all were read
pub read_all : {A B : Type 0} (f : A → B) (g : Data → B) (xs : List A) (vs : List Value) (i : ℕ) → length vs ≤ i → map f xs ≡ map g (map view (take i vs)) → map f xs ≡ map g (map view vs)
read_all f g xs vs i over so_far = so_far ∙ ap (λ ys. map g (map view ys)) (take_all i vs over)

-- the fault of a processor's program
abbrev pub cpu_fault : Data → Option ScriptFault
cpu_fault t = wrong_word cpu_op_of (of.Cpu (cpu_id t)) 0 (words_of t)

pub wrong_cpu_word-at : (vs : List Value) (i : ℕ) (v : Value) → i < length vs → v ≡ get_or vs i v → wrong_cpu_word (map view (drop i vs)) ≡ (cpu_fault (view v) <|> wrong_cpu_word (map view (drop (i + 1) vs)))
wrong_cpu_word-at vs i v within is =
    at_drop_more (λ xs. wrong_cpu_word (map view xs)) vs i v within
    ∙ ap (λ x. cpu_fault (view x) <|> wrong_cpu_word (map view (drop (i + 1) vs))) (sym is)

pub wrong_cpu_word-end : (vs : List Value) (i : ℕ) → length vs ≤ i → wrong_cpu_word (map view (drop i vs)) ≡ None
wrong_cpu_word-end vs i over = at_drop_all (λ xs. wrong_cpu_word (map view xs)) vs i over

-- the fault of a device's program
abbrev pub device_fault : ℕ → Data → Option ScriptFault
device_fault n t = wrong_word device_word_of (of.Dev n) 0 (words_of t)

pub wrong_device_word-at : (vs : List Value) (i : ℕ) (v : Value) → i < length vs → v ≡ get_or vs i v → wrong_device_word i (map view (drop i vs)) ≡ (device_fault i (view v) <|> wrong_device_word (i + 1) (map view (drop (i + 1) vs)))
wrong_device_word-at vs i v within is =
    at_drop_more (λ xs. wrong_device_word i (map view xs)) vs i v within
    ∙ ap (λ x. device_fault i (view x) <|> wrong_device_word (suc i) (map view (drop (i + 1) vs))) (sym is)
    ∙ ap (λ k. device_fault i (view v) <|> wrong_device_word k (map view (drop (i + 1) vs))) (sym (add-one i))

pub wrong_device_word-end : (vs : List Value) (i : ℕ) → length vs ≤ i → wrong_device_word i (map view (drop i vs)) ≡ None
wrong_device_word-end vs i over = at_drop_all (λ xs. wrong_device_word i (map view xs)) vs i over

-- what the words of a table fit, with the words as the code has them
pub words_fit : (vs : List Value) (i : ℕ) (v : Value) (ws : List Value) → i < length vs → v ≡ get_or vs i v → map view ws ≡ elements_at (codes "words") (view v) → word_count (map view vs) ≤ 8192 → length ws ≤ 8192
words_fit vs i v ws within is words few =
    let a = word_count-within vs i v within is in
    let b : length (map view ws) ≡ words_in v = ap length words in
    let e : length (map view ws) ≡ length ws = length-map ws view in
    omega arith

-- the processors that were read from the first tables
abbrev pub CpusSoFar : List CpuScript → List Value → ℕ → Type 0
CpusSoFar cs vs i =
    (map (λ c. c.id) cs ≡ map cpu_id (map view (take i vs)))
    × (map (λ c. map Ok c.words) cs ≡ map (λ t. map cpu_op_of (words_of t)) (map view (take i vs)))
    × (wrong_cpu_word (map view (drop i vs)) ≡ wrong_cpu_word (map view vs))

no_fault_first : {A : Type 0} (a b : Option A) → a ≡ None → (a <|> b) ≡ b
no_fault_first None b e = refl
no_fault_first (Some x) b e = cc

fault_first : {A : Type 0} (a b : Option A) (x : A) → a ≡ Some x → (a <|> b) ≡ Some x
fault_first None b x e = cc
fault_first (Some y) b x e = e

cpu_fault-read : (v : Value) (ws : List Value) (n : ℕ) → n ≡ cpu_id (view v) → map view ws ≡ elements_at (codes "words") (view v) → cpu_fault (view v) ≡ wrong_word cpu_op_of (of.Cpu n) 0 (map text_of (map view ws))
cpu_fault-read v ws n id words = ap (λ k. wrong_word cpu_op_of (of.Cpu k) 0 (words_of (view v))) (sym id) ∙ ap (λ ds. wrong_word cpu_op_of (of.Cpu n) 0 (map text_of ds)) (sym words)

pub cpu_on : (cs : List CpuScript) (x : CpuScript) (vs : List Value) (i : ℕ) (v : Value) (ws : List Value) → i < length vs → v ≡ get_or vs i v → x.id ≡ cpu_id (view v)
    → map view ws ≡ elements_at (codes "words") (view v) → IsProgram cpu_op_of (of.Cpu x.id) (map view ws) x.words → CpusSoFar cs vs i → CpusSoFar (cs ++ x ∷ []) vs (i + 1)
cpu_on cs x vs i v ws within is id words program so_far =
    let said : map Ok x.words ≡ map cpu_op_of (words_of (view v)) = sym program.0 ∙ ap (λ ds. map cpu_op_of (map text_of ds)) words in
    let none : cpu_fault (view v) ≡ None = cpu_fault-read v ws x.id id words ∙ program.1 in (
      read_on (λ c. c.id) cpu_id cs x vs i v within is id so_far.0,
      read_on (λ c. map Ok c.words) (λ t. map cpu_op_of (words_of t)) cs x vs i v within is said so_far.1,
      sym (wrong_cpu_word-at vs i v within is ∙ no_fault_first (cpu_fault (view v)) _ none) ∙ so_far.2,
    )

pub cpu_wrong : (vs : List Value) (i : ℕ) (v : Value) (ws : List Value) (n : ℕ) (e : ScriptFault) → i < length vs → v ≡ get_or vs i v → n ≡ cpu_id (view v)
    → map view ws ≡ elements_at (codes "words") (view v) → wrong_cpu_word (map view (drop i vs)) ≡ wrong_cpu_word (map view vs)
    → IsWrong (wrong_word cpu_op_of (of.Cpu n) 0 (map text_of (map view ws))) e → IsWrong (wrong_cpu_word (map view vs)) e
cpu_wrong vs i v ws n e within is id words same wrong = elim wrong [
  | inl memory ↦ inl memory
  | inr found ↦ inr (sym same ∙ wrong_cpu_word-at vs i v within is ∙ fault_first (cpu_fault (view v)) _ e (cpu_fault-read v ws n id words ∙ found))
]

-- the devices that were read from the first tables
abbrev pub DevicesSoFar : List (List DevWord) → List Value → ℕ → Type 0
DevicesSoFar ps vs i =
    (map (λ p. map Ok p) ps ≡ map (λ t. map device_word_of (words_of t)) (map view (take i vs)))
    × (wrong_device_word i (map view (drop i vs)) ≡ wrong_device_word 0 (map view vs))

pub device_on : (ps : List (List DevWord)) (p : List DevWord) (vs : List Value) (i : ℕ) (v : Value) (ws : List Value) → i < length vs → v ≡ get_or vs i v
    → map view ws ≡ elements_at (codes "words") (view v) → IsProgram device_word_of (of.Dev i) (map view ws) p → DevicesSoFar ps vs i → DevicesSoFar (ps ++ p ∷ []) vs (i + 1)
device_on ps p vs i v ws within is words program so_far =
    let said : map Ok p ≡ map device_word_of (words_of (view v)) = sym program.0 ∙ ap (λ ds. map device_word_of (map text_of ds)) words in
    let none : device_fault i (view v) ≡ None = ap (λ ds. wrong_word device_word_of (of.Dev i) 0 (map text_of ds)) (sym words) ∙ program.1 in (
      read_on (λ p. map Ok p) (λ t. map device_word_of (words_of t)) ps p vs i v within is said so_far.0,
      sym (wrong_device_word-at vs i v within is ∙ no_fault_first (device_fault i (view v)) _ none) ∙ so_far.1,
    )

pub device_wrong : (vs : List Value) (i : ℕ) (v : Value) (ws : List Value) (e : ScriptFault) → i < length vs → v ≡ get_or vs i v
    → map view ws ≡ elements_at (codes "words") (view v) → wrong_device_word i (map view (drop i vs)) ≡ wrong_device_word 0 (map view vs)
    → IsWrong (wrong_word device_word_of (of.Dev i) 0 (map text_of (map view ws))) e → IsWrong (wrong_device_word 0 (map view vs)) e
device_wrong vs i v ws e within is words same wrong = elim wrong [
  | inl memory ↦ inl memory
  | inr found ↦ inr (sym same ∙ wrong_device_word-at vs i v within is ∙ fault_first (device_fault i (view v)) _ e (ap (λ ds. wrong_word device_word_of (of.Dev i) 0 (map text_of ds)) (sym words) ∙ found))
]

pub cpus_all : (cs : List CpuScript) (vs : List Value) (i : ℕ) → length vs ≤ i → CpusSoFar cs vs i → AreCpus (map view vs) cs
cpus_all cs vs i over so_far = (
  read_all (λ c. c.id) cpu_id cs vs i over so_far.0,
  read_all (λ c. map Ok c.words) (λ t. map cpu_op_of (words_of t)) cs vs i over so_far.1,
  sym so_far.2 ∙ wrong_cpu_word-end vs i over,
)

pub devices_all : (ps : List (List DevWord)) (vs : List Value) (i : ℕ) → length vs ≤ i → DevicesSoFar ps vs i → AreDevices (map view vs) ps
devices_all ps vs i over so_far = (
  read_all (λ p. map Ok p) (λ t. map device_word_of (words_of t)) ps vs i over so_far.0,
  sym so_far.1 ∙ wrong_device_word-end vs i over,
)

-- ---- wrong keys

-- the first of two faults is there, or it is the other
pub is_here : {A : Type 0} (a b : Option A) → is_some a ≡ true → a ≡ (a <|> b)
is_here None b e = cc
is_here (Some x) b e = refl

pub is_later : {A : Type 0} (a b : Option A) → is_some a ≡ false → (a <|> b) ≡ b
is_later None b e = refl
is_later (Some x) b e = cc

pub wrong_cpus-at : (vs : List Value) (i : ℕ) (v : Value) → i < length vs → v ≡ get_or vs i v
    → wrong_cpus (map view (take i vs)) (map view (drop i vs)) ≡ (wrong_cpu (map view (take i vs)) (view v) <|> wrong_cpus (map view (take (i + 1) vs)) (map view (drop (i + 1) vs)))
wrong_cpus-at vs i v within is =
    let before = map view (take i vs) in
    let after = map view (drop (i + 1) vs) in
    at_drop_more (λ xs. wrong_cpus before (map view xs)) vs i v within
    ∙ ap (λ x. wrong_cpu before (view x) <|> wrong_cpus (before ++ view x ∷ []) after) (sym is)
    ∙ ap (λ ts. wrong_cpu before (view v) <|> wrong_cpus ts after) (sym (map_more view vs i v within ∙ ap (λ x. before ++ view x ∷ []) (sym is)))

pub wrong_cpus-end : (vs : List Value) (i : ℕ) → length vs ≤ i → wrong_cpus (map view (take i vs)) (map view (drop i vs)) ≡ None
wrong_cpus-end vs i over = at_drop_all (λ xs. wrong_cpus (map view (take i vs)) (map view xs)) vs i over

pub wrong_devices-at : (vs : List Value) (i : ℕ) (v : Value) → i < length vs → v ≡ get_or vs i v
    → wrong_devices (map view (drop i vs)) ≡ (wrong_device (view v) <|> wrong_devices (map view (drop (i + 1) vs)))
wrong_devices-at vs i v within is =
    at_drop_more (λ xs. wrong_devices (map view xs)) vs i v within
    ∙ ap (λ x. wrong_device (view x) <|> wrong_devices (map view (drop (i + 1) vs))) (sym is)

pub wrong_devices-end : (vs : List Value) (i : ℕ) → length vs ≤ i → wrong_devices (map view (drop i vs)) ≡ None
wrong_devices-end vs i over = at_drop_all (λ xs. wrong_devices (map view xs)) vs i over
