-- A form is read from its words: a row of `verbs` and one of `form-read` a form. So words have one form alone, and whether they have one is decided.
use Rattle.std.proofs.Common.{◌≡◌, ℕ, zero, suc, ◌≤◌, ◌<◌, ◌⊎◌, Bool, true, false, if◌then◌else◌, List, [], ◌∷◌, Option, Some, None, refl, sym, subst, ◌∙◌, ap, inl, inr, arith}
use Rattle.std.specs.Prelude.{codes, decimal, bytes_eq, option_map}
use Rattle.std.specs.Str.Parse.{digits_value}
use Rattle.std.proofs.lemmas.Bool.{cases_lt}
use Rattle.std.proofs.lemmas.Fmt.{decimal_is_IsNumeral}
use Rattle.std.proofs.lemmas.Slice.Eq.{bytes_eq-Decides}
use Rattle.mpt_answers.specs.Elcr.{elcr_of}
use Rattle.mptab_walk.specs.Forms.{Form, Show, Audit, Canon, Raise, Madt, Pirmake, Build, Route, Trace, Boot, Drill, Replay, Madtcmp, Pircmp, Pic, IsForm}

-- ---- the number of a drill

-- the number below the bound that the word spells
number_below : ℕ → List ℕ → Option ℕ
number_below zero word = None
number_below (suc n) word = if bytes_eq word (decimal n) then Some n else number_below n word

-- a text spells one number
number_one : (k l : ℕ) → k < 10000 → l < 10000 → decimal k ≡ decimal l → k ≡ l
number_one k l a b same =
    sym (decimal_is_IsNumeral k (omega (arith, a))).1 ∙ ap (digits_value 10) same ∙ (decimal_is_IsNumeral l (omega (arith, b))).1

-- what it answers is spelled
number-spelled : (bound : ℕ) (word : List ℕ) (n : ℕ) → number_below bound word ≡ Some n → (n < bound) × (word ≡ decimal n)
unfolding number_below
number-spelled zero word n e = absurd cc
number-spelled (suc m) word n e = by_test (bytes_eq word (decimal m)) refl e (λ r. number-spelled m word n r)
  where
    by_test : (t : Bool) → bytes_eq word (decimal m) ≡ t → (if t then Some m else number_below m word) ≡ Some n → (number_below m word ≡ Some n → (n < m) × (word ≡ decimal n)) → (n < suc m) × (word ≡ decimal n)
    by_test true is found rest = let same : m ≡ n = cc in (omega (arith, same), (bytes_eq-Decides word (decimal m)).0 is ∙ ap decimal same)
    by_test false is found rest = let r = rest found in let lt = r.0 in (omega (arith, lt), r.1)

-- what is spelled it answers
number-found : (bound : ℕ) (word : List ℕ) (n : ℕ) → bound ≤ 10000 → n < bound → word ≡ decimal n → number_below bound word ≡ Some n
unfolding number_below
number-found zero word n small lt e = absurd (omega (arith, lt))
number-found (suc m) word n small lt e = by_test (bytes_eq word (decimal m)) refl (λ r. number-found m word n (omega (arith, small)) r e)
  where
    by_test : (t : Bool) → bytes_eq word (decimal m) ≡ t → (n < m → number_below m word ≡ Some n) → (if t then Some m else number_below m word) ≡ Some n
    by_test true is rest = ap Some (number_one m n (omega (arith, small)) (omega (arith, lt, small)) (sym ((bytes_eq-Decides word (decimal m)).0 is) ∙ e))
    by_test false is rest = by_number (cases_lt n m)
      where
        by_number : (n < m) ⊎ (m ≤ n) → number_below m word ≡ Some n
        by_number (inl less) = rest less
        by_number (inr more) =
            let same : n ≡ m = omega (arith, lt, more) in
            let both : true ≡ false = sym ((bytes_eq-Decides word (decimal m)).1 (e ∙ ap decimal same)) ∙ is in
            absurd cc

-- ---- the words behind a verb

abbrev Reader : Type 0
Reader = List (List ℕ) → Option Form

abbrev one : (List ℕ → Option Form) → Reader
one f [] = None
one f (a ∷ []) = f a
one f (a ∷ b ∷ rest) = None

abbrev two : (List ℕ → List ℕ → Option Form) → Reader
two f [] = None
two f (a ∷ []) = None
two f (a ∷ b ∷ []) = f a b
two f (a ∷ b ∷ c ∷ rest) = None

abbrev three : (List ℕ → List ℕ → List ℕ → Option Form) → Reader
three f [] = None
three f (a ∷ []) = None
three f (a ∷ b ∷ []) = None
three f (a ∷ b ∷ c ∷ []) = f a b c
three f (a ∷ b ∷ c ∷ d ∷ rest) = None

-- what is read behind the verb is a form with it
abbrev IsSound : List ℕ → Reader → Type 0
IsSound verb reader = (words : List (List ℕ)) (form : Form) → reader words ≡ Some form → IsForm form (verb ∷ words)

one-sound : (verb : List ℕ) (f : List ℕ → Option Form) → ((a : List ℕ) (form : Form) → f a ≡ Some form → IsForm form (verb ∷ a ∷ [])) → IsSound verb (one f)
one-sound verb f is [] form e = absurd cc
one-sound verb f is (a ∷ []) form e = is a form e
one-sound verb f is (a ∷ b ∷ rest) form e = absurd cc

two-sound : (verb : List ℕ) (f : List ℕ → List ℕ → Option Form) → ((a b : List ℕ) (form : Form) → f a b ≡ Some form → IsForm form (verb ∷ a ∷ b ∷ [])) → IsSound verb (two f)
two-sound verb f is [] form e = absurd cc
two-sound verb f is (a ∷ []) form e = absurd cc
two-sound verb f is (a ∷ b ∷ []) form e = is a b form e
two-sound verb f is (a ∷ b ∷ c ∷ rest) form e = absurd cc

three-sound : (verb : List ℕ) (f : List ℕ → List ℕ → List ℕ → Option Form) → ((a b c : List ℕ) (form : Form) → f a b c ≡ Some form → IsForm form (verb ∷ a ∷ b ∷ c ∷ [])) → IsSound verb (three f)
three-sound verb f is [] form e = absurd cc
three-sound verb f is (a ∷ []) form e = absurd cc
three-sound verb f is (a ∷ b ∷ []) form e = absurd cc
three-sound verb f is (a ∷ b ∷ c ∷ []) form e = is a b c form e
three-sound verb f is (a ∷ b ∷ c ∷ d ∷ rest) form e = absurd cc

-- a form that is there for sure
sure : (words : List (List ℕ)) (own form : Form) → Some own ≡ Some form → IsForm own words → IsForm form words
sure words own form e is = let same : own ≡ form = cc in subst (λ (x : Form). IsForm x words) same is

-- a form that is there where a word is understood
where_read : (words : List (List ℕ)) (make : ℕ → Form) (word : Option ℕ) (form : Form) → option_map make word ≡ Some form → ((n : ℕ) → word ≡ Some n → IsForm (make n) words) → IsForm form words
where_read words make None form e is = absurd cc
where_read words make (Some n) form e is = sure words (make n) form e (is n refl)

-- a verb, and the forms that words behind it are
record Verb : Type 0 where
  word : List ℕ
  reader : Reader
  sound : IsSound word reader

-- behind it one file, two or three; a file and an ELCR, or these and a file; a number
abbrev a_file : (verb : List ℕ) (make : List ℕ → Form) → ((a : List ℕ) → IsForm (make a) (verb ∷ a ∷ [])) → Verb
a_file verb make is = record { word = verb; reader = one (λ a. Some (make a)); sound = one-sound verb (λ a. Some (make a)) (λ a form e. sure _ (make a) form e (is a)) }

abbrev two_files : (verb : List ℕ) (make : List ℕ → List ℕ → Form) → ((a b : List ℕ) → IsForm (make a b) (verb ∷ a ∷ b ∷ [])) → Verb
two_files verb make is = record { word = verb; reader = two (λ a b. Some (make a b)); sound = two-sound verb (λ a b. Some (make a b)) (λ a b form e. sure _ (make a b) form e (is a b)) }

abbrev three_files : (verb : List ℕ) (make : List ℕ → List ℕ → List ℕ → Form) → ((a b c : List ℕ) → IsForm (make a b c) (verb ∷ a ∷ b ∷ c ∷ [])) → Verb
three_files verb make is = record { word = verb; reader = three (λ a b c. Some (make a b c)); sound = three-sound verb (λ a b c. Some (make a b c)) (λ a b c form e. sure _ (make a b c) form e (is a b c)) }

abbrev file_and_elcr : (verb : List ℕ) (make : List ℕ → ℕ → Form) → ((a b : List ℕ) (n : ℕ) → elcr_of b ≡ Some n → IsForm (make a n) (verb ∷ a ∷ b ∷ [])) → Verb
file_and_elcr verb make is = record {
  word = verb;
  reader = two (λ a b. option_map (make a) (elcr_of b));
  sound = two-sound verb (λ a b. option_map (make a) (elcr_of b)) (λ a b form e. where_read _ (make a) (elcr_of b) form e (is a b));
}

abbrev file_elcr_and_file : (verb : List ℕ) (make : List ℕ → ℕ → List ℕ → Form) → ((a b c : List ℕ) (n : ℕ) → elcr_of b ≡ Some n → IsForm (make a n c) (verb ∷ a ∷ b ∷ c ∷ [])) → Verb
file_elcr_and_file verb make is = record {
  word = verb;
  reader = three (λ a b c. option_map (λ n. make a n c) (elcr_of b));
  sound = three-sound verb (λ a b c. option_map (λ n. make a n c) (elcr_of b)) (λ a b c form e. where_read _ (λ n. make a n c) (elcr_of b) form e (is a b c));
}

abbrev a_number : (verb : List ℕ) (make : ℕ → Form) → ((n : ℕ) → n < 10000 → IsForm (make n) (verb ∷ decimal n ∷ [])) → Verb
a_number verb make is = record {
  word = verb;
  reader = one (λ a. option_map make (number_below 10000 a));
  sound = one-sound verb (λ a. option_map make (number_below 10000 a))
      (λ a form e. where_read _ make (number_below 10000 a) form e (λ n found. let r = number-spelled 10000 a n found in subst (λ (w : List ℕ). IsForm (make n) (verb ∷ w ∷ [])) (sym r.1) (is n r.0)));
}

-- ---- the rows of the forms

abbrev verbs : List Verb
verbs =
    a_file (codes "show") Show (λ a. refl)
    ∷ a_file (codes "audit") Audit (λ a. refl)
    ∷ a_file (codes "canon") Canon (λ a. refl)
    ∷ a_file (codes "raise") Raise (λ a. refl)
    ∷ file_and_elcr (codes "madt") Madt (λ a b n is. (b, refl, is))
    ∷ a_file (codes "pirmake") Pirmake (λ a. refl)
    ∷ a_file (codes "build") Build (λ a. refl)
    ∷ file_and_elcr (codes "route") Route (λ a b n is. (b, refl, is))
    ∷ two_files (codes "trace") Trace (λ a b. refl)
    ∷ two_files (codes "boot") Boot (λ a b. refl)
    ∷ a_number (codes "drill") Drill (λ n less. (less, refl))
    ∷ three_files (codes "replay") Replay (λ a b c. refl)
    ∷ file_elcr_and_file (codes "madtcmp") Madtcmp (λ a b c n is. (b, refl, is))
    ∷ two_files (codes "pircmp") Pircmp (λ a b. refl)
    ∷ three_files (codes "pic") Pic (λ a b c. refl)
    ∷ []

-- the form that words are behind the first of these verbs that is theirs
abbrev behind : List Verb → List ℕ → Reader
behind [] word words = None
behind (v ∷ vs) word words = if bytes_eq word v.word then v.reader words else behind vs word words

-- the form that the words are
abbrev form_in : List (List ℕ) → Option Form
form_in [] = None
form_in (word ∷ words) = behind verbs word words

-- the words of a form are read as it
form-read : (form : Form) (words : List (List ℕ)) → IsForm form words → form_in words ≡ Some form
form-read (Show i) words e = ap form_in e
form-read (Audit i) words e = ap form_in e
form-read (Canon i) words e = ap form_in e
form-read (Raise i) words e = ap form_in e
form-read (Madt i n) words e = ap form_in e.1 ∙ ap (option_map (Madt i)) e.2
form-read (Pirmake i) words e = ap form_in e
form-read (Build i) words e = ap form_in e
form-read (Route i n) words e = ap form_in e.1 ∙ ap (option_map (Route i)) e.2
form-read (Trace i s) words e = ap form_in e
form-read (Boot i s) words e = ap form_in e
form-read (Drill n) words e = ap form_in e.1 ∙ ap (option_map Drill) (number-found 10000 (decimal n) n (omega arith) e.0 refl)
form-read (Replay i s r) words e = ap form_in e
form-read (Madtcmp i n m) words e = ap form_in e.1 ∙ ap (option_map (λ k. Madtcmp i k m)) e.2
form-read (Pircmp i t) words e = ap form_in e
form-read (Pic i s c) words e = ap form_in e

behind-sound : (vs : List Verb) (word : List ℕ) (words : List (List ℕ)) (form : Form) → behind vs word words ≡ Some form → IsForm form (word ∷ words)
behind-sound [] word words form e = absurd cc
behind-sound (v ∷ vs) word words form e = by_test (bytes_eq word v.word) refl e (λ r. behind-sound vs word words form r)
  where
    by_test : (t : Bool) → bytes_eq word v.word ≡ t → (if t then v.reader words else behind vs word words) ≡ Some form → (behind vs word words ≡ Some form → IsForm form (word ∷ words)) → IsForm form (word ∷ words)
    by_test true is found rest = subst (λ (w : List ℕ). IsForm form (w ∷ words)) (sym ((bytes_eq-Decides word v.word).0 is)) (v.sound words form found)
    by_test false is found rest = rest found

-- what is read is a form of the words
read-form : (words : List (List ℕ)) (form : Form) → form_in words ≡ Some form → IsForm form words
read-form [] form e = absurd cc
read-form (word ∷ words) form e = behind-sound verbs word words form e

-- ---- the two laws

-- words have one form alone
pub same_form : (form other : Form) (words : List (List ℕ)) → IsForm form words → IsForm other words → form ≡ other
same_form form other words is is' = let both : Some form ≡ Some other = sym (form-read form words is) ∙ form-read other words is' in cc

-- whether they have one is decided
pub form_judged : (words : List (List ℕ)) → ((form : Form) × IsForm form words) ⊎ ((form : Form) → ¬ IsForm form words)
form_judged words = by_read (form_in words) refl
  where
    by_read : (o : Option Form) → form_in words ≡ o → ((form : Form) × IsForm form words) ⊎ ((form : Form) → ¬ IsForm form words)
    by_read None e = inr (λ form is. let both : None ≡ Some form = sym e ∙ form-read form words is in cc)
    by_read (Some form) e = inl (form, read-form words form e)
