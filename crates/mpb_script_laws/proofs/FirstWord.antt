-- The first wrong word as a split of all words.
use Rattle.std.proofs.Common.{◌≡◌, ◌≤◌, ◌<◌, ◌↔◌, ℕ, Bool, true, false, cond, List, [], ◌∷◌, ◌++◌, length, Option, Some, None, option_map, nat_le, refl, sym, ap, ◌∙◌}
use Rattle.std.proofs.lemmas.Bool.{leb-true, le-leb}
use Rattle.std.specs.List.{AllByRecursion}
use Rattle.toml.specs.Data.{Data}
use Rattle.mpb_spec.specs.declared.agent.Agent.{Agent}
use Rattle.mpb_words.specs.declared.refusal.WordWhy.{WordWhy}
use Rattle.mpb_script.specs.declared.script.KeyName.{KeyName}
use Rattle.mpb_script.specs.declared.script.ScriptFault.{ScriptFault}
use Rattle.mpb_script.specs.declared.script.ScriptFault.TheVariants as fault
use Rattle.mpb_script.specs.Keys.{◌<|>◌, wrong_key}
use Rattle.mpb_script.specs.Words.{PlacedWord, all_words, word_why, word_fault, first_some, many, script_fault_of}
use Rattle.mpb_script_laws.specs.Laws.{IsFirstWrongWord}

-- what the first member has is what a member has after others that have nothing
record SplitAt {A B : Type 0} (f : A → Option B) (xs : List A) (y : B) : Type 0 where
  before : List A
  member : A
  after : List A
  split : xs ≡ before ++ member ∷ after
  nothing : AllByRecursion (λ x. f x ≡ None) before
  here : f member ≡ Some y

split_here : {A B : Type 0} (f : A → Option B) (x : A) (xs : List A) (y : B) (o : Option B) → f x ≡ o → (o <|> first_some f xs) ≡ Some y → (first_some f xs ≡ Some y → SplitAt f xs y) → SplitAt f (x ∷ xs) y
split_here f x xs y None is found later =
    let rest = later found in
    record { before = x ∷ rest.before; member = rest.member; after = rest.after; split = ap (λ zs. x ∷ zs) rest.split; nothing = (is, rest.nothing); here = rest.here }
split_here f x xs y (Some z) is found later = record { before = []; member = x; after = xs; split = refl; nothing = tt; here = is ∙ found }

split_of : {A B : Type 0} (f : A → Option B) (xs : List A) (y : B) → first_some f xs ≡ Some y → SplitAt f xs y
split_of f [] y found = cc
split_of f (x ∷ xs) y found = split_here f x xs y (f x) refl found (split_of f xs y)

first_of_split : {A B : Type 0} (f : A → Option B) (before : List A) (x : A) (after : List A) (y : B) → AllByRecursion (λ z. f z ≡ None) before → f x ≡ Some y → first_some f (before ++ x ∷ after) ≡ Some y
first_of_split f [] x after y nothing here = ap (λ o. o <|> first_some f after) here
first_of_split f (z ∷ before) x after y nothing here = ap (λ o. o <|> first_some f (before ++ x ∷ after)) nothing.0 ∙ first_of_split f before x after y nothing.1 here

-- a word's fault, from its cause and back
fault_of : (w : PlacedWord) (o : Option WordWhy) → option_map (λ why. fault.Word w.agent w.index why) o ≡ None → o ≡ None
fault_of w None e = refl
fault_of w (Some v) e = cc

no_faults : (ws : List PlacedWord) → AllByRecursion (λ w. word_fault w ≡ None) ws → AllByRecursion (λ w. word_why w.agent w.text ≡ None) ws
no_faults [] all = tt
no_faults (w ∷ ws) all = (fault_of w (word_why w.agent w.text) all.0, no_faults ws all.1)

no_causes : (ws : List PlacedWord) → AllByRecursion (λ w. word_why w.agent w.text ≡ None) ws → AllByRecursion (λ w. word_fault w ≡ None) ws
no_causes [] all = tt
no_causes (w ∷ ws) all = (ap (option_map (λ why. fault.Word w.agent w.index why)) all.0, no_causes ws all.1)

cause_of : (w : PlacedWord) (o : Option WordWhy) (agent : Agent) (index : ℕ) (why : WordWhy) → option_map (λ v. fault.Word w.agent w.index v) o ≡ Some (fault.Word agent index why) → (w.agent ≡ agent) × (w.index ≡ index) × (o ≡ Some why)
cause_of w None agent index why e = cc
cause_of w (Some v) agent index why e =
    let whose : w.agent ≡ agent = cc in
    let place : w.index ≡ index = cc in
    let cause : v ≡ why = cc in
    (whose, place, ap Some cause)

-- a fault of a word is neither one of keys nor of the count
no_key : (o : Option KeyName) (rest : Option ScriptFault) (agent : Agent) (index : ℕ) (why : WordWhy) → (option_map fault.Key o <|> rest) ≡ Some (fault.Word agent index why) → (o ≡ None) × (rest ≡ Some (fault.Word agent index why))
no_key None rest agent index why e = (refl, e)
no_key (Some k) rest agent index why e = cc

not_many : (b : Bool) (n m : ℕ) (rest : Option ScriptFault) (agent : Agent) (index : ℕ) (why : WordWhy) → b ≡ nat_le n 8192 → (cond b None (Some (fault.Many m)) <|> rest) ≡ Some (fault.Word agent index why) → (n ≤ 8192) × (rest ≡ Some (fault.Word agent index why))
not_many true n m rest agent index why is e = (leb-true n 8192 (sym is), e)
not_many false n m rest agent index why is e = cc

first_wrong : (d : Data) (agent : Agent) (index : ℕ) (why : WordWhy) → script_fault_of d ≡ Some (fault.Word agent index why) → IsFirstWrongWord d agent index why
unfolding script_fault_of
first_wrong d agent index why e =
    let keys = no_key (wrong_key d) (many (length (all_words d)) <|> first_some word_fault (all_words d)) agent index why e in
    let counts = not_many (nat_le (length (all_words d)) 8192) (length (all_words d)) _ (first_some word_fault (all_words d)) agent index why refl keys.1 in
    let found = split_of word_fault (all_words d) (fault.Word agent index why) counts.1 in
    let cause = cause_of found.member (word_why found.member.agent found.member.text) agent index why found.here in
    record {
      keys = keys.0;
      few = counts.0;
      before = found.before;
      word = found.member;
      after = found.after;
      split = found.split;
      right = no_faults found.before found.nothing;
      whose = cause.0;
      place = cause.1;
      wrong = cause.2;
    }

told : (w : PlacedWord) (agent : Agent) (index : ℕ) (why : WordWhy) → w.agent ≡ agent → w.index ≡ index → word_why w.agent w.text ≡ Some why → word_fault w ≡ Some (fault.Word agent index why)
told w agent index why whose place wrong = ap (option_map (λ v. fault.Word w.agent w.index v)) wrong ∙ ap (λ a. Some (fault.Word a w.index why)) whose ∙ ap (λ i. Some (fault.Word agent i why)) place

not_too_many : (n : ℕ) → n ≤ 8192 → many n ≡ None
not_too_many n few =
    let within : nat_le n 8192 ≡ true = le-leb n 8192 few in
    rw within

its_fault : (d : Data) (agent : Agent) (index : ℕ) (why : WordWhy) → IsFirstWrongWord d agent index why → script_fault_of d ≡ Some (fault.Word agent index why)
unfolding script_fault_of
its_fault d agent index why first =
    let words : first_some word_fault (all_words d) ≡ Some (fault.Word agent index why) =
    ap (first_some word_fault) first.split ∙ first_of_split word_fault first.before first.word first.after (fault.Word agent index why) (no_causes first.before first.right) (told first.word agent index why first.whose first.place first.wrong) in
    let few : many (length (all_words d)) ≡ None = not_too_many (length (all_words d)) first.few in
    ap (λ o. option_map fault.Key o <|> (many (length (all_words d)) <|> first_some word_fault (all_words d))) first.keys
    ∙ ap (λ o. o <|> first_some word_fault (all_words d)) few
    ∙ words

pub first_wrong_word : (d : Data) (agent : Agent) (index : ℕ) (why : WordWhy) → (script_fault_of d ≡ Some (fault.Word agent index why)) ↔ IsFirstWrongWord d agent index why
first_wrong_word d agent index why = (first_wrong d agent index why, its_fault d agent index why)
