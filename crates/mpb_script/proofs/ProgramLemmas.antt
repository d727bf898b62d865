-- Words that are read one by one: what they say so far, and the first wrong one of the rest.
use Rattle.std.proofs.Common.{◌≡◌, ℕ, ◌+◌, ◌<◌, ◌≤◌, suc, List, [], ◌∷◌, ◌++◌, length, map, take, drop, get_or, Some, None, Result, Ok, Err, refl, sym, ap, ◌∙◌, add-one}
use Rattle.std.proofs.lemmas.List.{at_drop_more, at_drop_all, take_more, take_all, map-append}
use Rattle.toml.specs.View.{view}
use Rattle.toml.specs.declared.value.Value.{Value}
use Rattle.mpb_spec.specs.declared.agent.Agent.{Agent}
use Rattle.mpb_words.specs.declared.refusal.WordWhy.{WordWhy}
use Rattle.mpb_script.specs.declared.script.ScriptFault.TheVariants as fault
use Rattle.mpb_script.specs.Document.{text_of}
use Rattle.mpb_script.specs.Keys.{◌<|>◌}
use Rattle.mpb_script.specs.Steps.{fault_from, wrong_word}

-- each of these is said
abbrev pub all_ok : {A : Type 0} → List A → List (Result A WordWhy)
all_ok ops = map Ok ops

abbrev pub texts : List Value → List (List ℕ)
texts vs = map text_of (map view vs)

said_more : {A : Type 0} (word : List ℕ → Result A WordWhy) (vs : List Value) (v : Value) → map word (texts (vs ++ v ∷ [])) ≡ map word (texts vs) ++ word (text_of (view v)) ∷ []
said_more word [] v = refl
said_more word (x ∷ vs) v = ap (λ rs. word (text_of (view x)) ∷ rs) (said_more word vs v)

-- one more word that says something
pub said_on : {A : Type 0} (word : List ℕ → Result A WordWhy) (vs : List Value) (i : ℕ) (v : Value) (a : A) (ops : List A) → i < length vs → v ≡ get_or vs i v → word (text_of (view v)) ≡ Ok a
    → map word (texts (take i vs)) ≡ map Ok ops → map word (texts (take (i + 1) vs)) ≡ map Ok (ops ++ a ∷ [])
said_on word vs i v a ops within is says so_far =
    ap (λ xs. map word (texts xs)) (take_more vs i v within)
    ∙ said_more word (take i vs) (get_or vs i v)
    ∙ ap (λ x. map word (texts (take i vs)) ++ word (text_of (view x)) ∷ []) (sym is)
    ∙ ap (λ r. map word (texts (take i vs)) ++ r ∷ []) says
    ∙ ap (λ rs. rs ++ Ok a ∷ []) so_far
    ∙ sym (map-append Ok ops (a ∷ []))

wrong_at : {A : Type 0} (word : List ℕ → Result A WordWhy) (agent : Agent) (vs : List Value) (i : ℕ) (v : Value) (r : Result A WordWhy) → i < length vs → v ≡ get_or vs i v → word (text_of (view v)) ≡ r
    → wrong_word word agent i (texts (drop i vs)) ≡ (fault_from agent i r <|> wrong_word word agent (suc i) (texts (drop (i + 1) vs)))
wrong_at word agent vs i v r within is says =
    at_drop_more (λ xs. wrong_word word agent i (texts xs)) vs i v within
    ∙ ap (λ x. fault_from agent i (word (text_of (view x))) <|> wrong_word word agent (suc i) (texts (drop (i + 1) vs))) (sym is)
    ∙ ap (λ x. fault_from agent i x <|> wrong_word word agent (suc i) (texts (drop (i + 1) vs))) says

-- the first wrong word is a later one
pub wrong_word-on : {A : Type 0} (word : List ℕ → Result A WordWhy) (agent : Agent) (vs : List Value) (i : ℕ) (v : Value) (a : A) → i < length vs → v ≡ get_or vs i v → word (text_of (view v)) ≡ Ok a
    → wrong_word word agent i (texts (drop i vs)) ≡ wrong_word word agent (i + 1) (texts (drop (i + 1) vs))
wrong_word-on word agent vs i v a within is says =
    wrong_at word agent vs i v (Ok a) within is says ∙ ap (λ k. wrong_word word agent k (texts (drop (i + 1) vs))) (sym (add-one i))

-- it is this one
pub wrong_word-here : {A : Type 0} (word : List ℕ → Result A WordWhy) (agent : Agent) (vs : List Value) (i : ℕ) (v : Value) (w : WordWhy) → i < length vs → v ≡ get_or vs i v → word (text_of (view v)) ≡ Err w
    → wrong_word word agent i (texts (drop i vs)) ≡ Some (fault.Word agent i w)
wrong_word-here word agent vs i v w within is says = wrong_at word agent vs i v (Err w) within is says

-- there is none
pub wrong_word-end : {A : Type 0} (word : List ℕ → Result A WordWhy) (agent : Agent) (vs : List Value) (i : ℕ) → length vs ≤ i → wrong_word word agent i (texts (drop i vs)) ≡ None
wrong_word-end word agent vs i over = at_drop_all (λ xs. wrong_word word agent i (texts xs)) vs i over

-- all words were read
pub said_all : {A : Type 0} (word : List ℕ → Result A WordWhy) (vs : List Value) (i : ℕ) (ops : List A) → length vs ≤ i → map word (texts (take i vs)) ≡ map Ok ops → map word (texts vs) ≡ map Ok ops
said_all word vs i ops over so_far = ap (λ xs. map word (texts xs)) (sym (take_all i vs over)) ∙ so_far
