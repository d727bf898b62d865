-- Parts of a line: a text for each value, and its reading, exact both ways. What is built of exact parts is exact.
use Rattle.std.proofs.Common.{◌≡◌, ℕ, Bool, true, false, cond, List, [], ◌∷◌, ◌++◌, length, take, drop, sym, refl, ap, ◌∙◌, inl, inr, ◌⊎◌, append_assoc}
use Rattle.std.specs.Prelude.{Option, Some, None, Result, Ok, Err, nat_eq, IfSome, IfNone, IfOk, ◌≢◌}
use Rattle.std.specs.Cmp.Lexicographic.{pointwise}
use Rattle.std.proofs.Math.Seq.{take-append_seam, drop-append_seam}
use Rattle.std.proofs.lemmas.List.{take-append-drop}
use Rattle.std.proofs.lemmas.Bool.Decides.{Decides-eqb}
use Rattle.std.proofs.lemmas.Slice.Eq.{slice_eq-Decides}
use Rattle.std.proofs.lemmas.Option.{cond_some}
use Rattle.mpt_line.specs.Reading.{◌>>=◌, Gives, text_in, after, both, ended, seen_as, checked, first_of_two, either}
use Rattle.mpt_line.specs.Lines.{BeginsWith, BeginsWithNone}

-- what two steps gave together, each gave
pub bind_some : {A B : Type 0} (r : Option A) (f : A → Option B) (y : B) → (r >>= f) ≡ Some y → (x : A) × (r ≡ Some x) × (f x ≡ Some y)
bind_some None f y h = absurd (cc)
bind_some (Some x) f y h = (x, refl, h)

pub some_is : {A : Type 0} (x y : A) → Some x ≡ Some y → x ≡ y
some_is x y h = cc

-- the reading of a part is exact: what is written is read again, whatever follows, and what is read is a value that is written so
pub record IsExact {A : Type 0} (text : A → List ℕ) (Value : A → Type 0) (read : List ℕ → Option (A × List ℕ)) : Type 0 where
  pub again : (a : A) (rest : List ℕ) → Value a → read (text a ++ rest) ≡ Some (a, rest)
  pub takes : (line : List ℕ) (a : A) (rest : List ℕ) → read line ≡ Some (a, rest) → Value a × (line ≡ text a ++ rest)

pub text_again : (text rest : List ℕ) → text_in text (text ++ rest) ≡ Some rest
unfolding text_in
text_again text rest =
    let same : pointwise nat_eq (take (length text) (text ++ rest)) text ≡ true = (slice_eq-Decides Decides-eqb (take (length text) (text ++ rest)) text (pointwise nat_eq (take (length text) (text ++ rest)) text) refl).1 (take-append_seam text rest) in
    ap (λ b. cond b (Some (drop (length text) (text ++ rest))) None) same ∙ ap (λ r. Some r) (drop-append_seam text rest)

pub text_takes : (text line rest : List ℕ) → text_in text line ≡ Some rest → line ≡ text ++ rest
unfolding text_in
text_takes text line rest h =
    let k = cond_some (pointwise nat_eq (take (length text) line) text) (drop (length text) line) rest h in
    let front : take (length text) line ≡ text = (slice_eq-Decides Decides-eqb (take (length text) line) text (pointwise nat_eq (take (length text) line) text) refl).0 k.0 in
    sym (take-append-drop (length text) line) ∙ ap (λ x. x ++ drop (length text) line) front ∙ ap (λ x. text ++ x) k.1

-- what a function returned that gives what follows a text
pub text_begins : {X : Type 0} (view : X → List ℕ) (text line : List ℕ) (o : Option X) → Gives view o (text_in text line) → IfSome o (λ x. line ≡ text ++ view x)
text_begins {X} view text line None h = tt
text_begins {X} view text line (Some x) h = text_takes text line (view x) h

pub text_begins_none : {X : Type 0} (view : X → List ℕ) (text line : List ℕ) (o : Option X) → Gives view o (text_in text line) → IfNone o ((rest : List ℕ) → line ≢ text ++ rest)
text_begins_none {X} view text line None h = λ rest e. (let k : None ≡ Some rest = sym h ∙ ap (text_in text) e ∙ text_again text rest in absurd (cc (k)))
text_begins_none {X} view text line (Some x) h = tt

-- what was read, with its value and its rest by other names
read_as : {A : Type 0} (o : Option (A × List ℕ)) (a b : A) (rest left : List ℕ) → o ≡ Some (a, rest) → a ≡ b → rest ≡ left → o ≡ Some (b, left)
read_as o a b rest left is same ends = is ∙ (λ i. Some (same i, ends i))

module _ {A : Type 0} {t : A → List ℕ} {V : A → Type 0} {r : List ℕ → Option (A × List ℕ)} (f : IsExact t V r) where
  pub after-exact : (word : List ℕ) → IsExact (λ a. word ++ t a) V (after word r)
  after-exact word = record {
    again = λ a rest v. ap (λ l. text_in word l >>= r) (append_assoc word (t a) rest) ∙ ap (λ x. x >>= r) (text_again word (t a ++ rest)) ∙ f.again a rest v;
    takes = λ line a rest h.
        let k = bind_some (text_in word line) r (a, rest) h in
        let g = f.takes k.0 a rest k.2 in
        (g.0, text_takes word line k.0 k.1 ∙ ap (λ x. word ++ x) g.1 ∙ sym (append_assoc word (t a) rest));
  }

  pub both-exact : {B : Type 0} {u : B → List ℕ} {W : B → Type 0} {s : List ℕ → Option (B × List ℕ)} → IsExact u W s → IsExact (λ (p : A × B). t p.0 ++ u p.1) (λ p. V p.0 × W p.1) (both r s)
  both-exact {B} {u} {W} {s} g = record {
    again = λ p rest v.
        ap (λ l. r l >>= λ x. s x.1 >>= λ y. Some ((x.0, y.0), y.1)) (append_assoc (t p.0) (u p.1) rest)
        ∙ ap (λ o. o >>= λ x. s x.1 >>= λ y. Some ((x.0, y.0), y.1)) (f.again p.0 (u p.1 ++ rest) v.0)
        ∙ ap (λ o. o >>= λ y. Some ((p.0, y.0), y.1)) (g.again p.1 rest v.1);
    takes = λ line p rest h.
        let k = bind_some (r line) (λ x. s x.1 >>= λ y. Some ((x.0, y.0), y.1)) (p, rest) h in
        let m = bind_some (s k.0.1) (λ y. Some ((k.0.0, y.0), y.1)) (p, rest) k.2 in
        let both_is : ((k.0.0, m.0.0), m.0.1) ≡ (p, rest) = some_is ((k.0.0, m.0.0), m.0.1) (p, rest) m.2 in
        let first : k.0.0 ≡ p.0 = ap (λ x. x.0.0) both_is in
        let second : m.0.0 ≡ p.1 = ap (λ x. x.0.1) both_is in
        let end : m.0.1 ≡ rest = ap (λ x. x.1) both_is in
        let one : r line ≡ Some (p.0, k.0.1) = read_as (r line) k.0.0 p.0 k.0.1 k.0.1 k.1 first refl in
        let two : s k.0.1 ≡ Some (p.1, rest) = read_as (s k.0.1) m.0.0 p.1 m.0.1 rest m.1 second end in
        let a = f.takes line p.0 k.0.1 one in
        let b = g.takes k.0.1 p.1 rest two in
        ((a.0, b.0), a.1 ∙ ap (λ x. t p.0 ++ x) b.1 ∙ sym (append_assoc (t p.0) (u p.1) rest));
  }

  pub seen_as-exact : {B : Type 0} (view : A → B) (back : B → A) → ((a : A) → back (view a) ≡ a) → ((b : B) → view (back b) ≡ b) → IsExact (λ b. t (back b)) (λ b. V (back b)) (seen_as view r)
  seen_as-exact {B} view back one two = record {
    again = λ b rest v. ap (λ o. o >>= λ x. Some (view x.0, x.1)) (f.again (back b) rest v) ∙ ap (λ x. Some (x, rest)) (two b);
    takes = λ line b rest h.
        let k = bind_some (r line) (λ x. Some (view x.0, x.1)) (b, rest) h in
        let both_is : (view k.0.0, k.0.1) ≡ (b, rest) = some_is (view k.0.0, k.0.1) (b, rest) k.2 in
        let value : view k.0.0 ≡ b = ap (λ x. x.0) both_is in
        let end : k.0.1 ≡ rest = ap (λ x. x.1) both_is in
        let origin : k.0.0 ≡ back b = sym (one k.0.0) ∙ ap back value in
        f.takes line (back b) rest (k.1 ∙ ap (λ a. Some (a, k.0.1)) origin ∙ ap (λ x. Some (back b, x)) end);
  }

  pub ended-exact : IsExact (λ a. t a ++ 10 ∷ []) V (ended r)
  ended-exact = record {
    again = λ a rest v.
        ap (λ l. r l >>= λ x. text_in (10 ∷ []) x.1 >>= λ rest. Some (x.0, rest)) (append_assoc (t a) (10 ∷ []) rest)
        ∙ ap (λ o. o >>= λ x. text_in (10 ∷ []) x.1 >>= λ rest. Some (x.0, rest)) (f.again a (10 ∷ rest) v)
        ∙ ap (λ o. o >>= λ rest. Some (a, rest)) (text_again (10 ∷ []) rest);
    takes = λ line a rest h.
        let k = bind_some (r line) (λ x. text_in (10 ∷ []) x.1 >>= λ rest. Some (x.0, rest)) (a, rest) h in
        let m = bind_some (text_in (10 ∷ []) k.0.1) (λ rest. Some (k.0.0, rest)) (a, rest) k.2 in
        let both_is : (k.0.0, m.0) ≡ (a, rest) = some_is (k.0.0, m.0) (a, rest) m.2 in
        let value : k.0.0 ≡ a = ap (λ x. x.0) both_is in
        let end : m.0 ≡ rest = ap (λ x. x.1) both_is in
        let p = f.takes line a k.0.1 (k.1 ∙ ap (λ x. Some (x, k.0.1)) value) in
        (p.0, p.1 ∙ ap (λ x. t a ++ x) (text_takes (10 ∷ []) k.0.1 m.0 m.1 ∙ ap (λ x. 10 ∷ x) end) ∙ sym (append_assoc (t a) (10 ∷ []) rest));
  }

  pub checked-exact : (right : A → Bool) → IsExact t (λ a. V a × (right a ≡ true)) (checked right r)
  checked-exact right = record {
    again = λ a rest v. ap (λ o. o >>= λ x. cond (right x.0) (Some x) None) (f.again a rest v.0) ∙ ap (λ (b : Bool). cond b (Some (a, rest)) None) v.1;
    takes = λ line a rest h.
        let k = bind_some (r line) (λ x. cond (right x.0) (Some x) None) (a, rest) h in
        let m = cond_some (right k.0.0) k.0 (a, rest) k.2 in
        let p = f.takes line a rest (k.1 ∙ ap (λ x. Some x) m.1) in
        ((p.0, ap right (sym (ap (λ x. x.0) m.1)) ∙ m.0), p.1);
  }

  -- seen as a value of a wider kind, whose text it keeps
  pub tagged-exact : {B : Type 0} (u : B → List ℕ) (tag : A → B) → ((a : A) → u (tag a) ≡ t a) → IsExact u (λ b. (a : A) × (b ≡ tag a) × V a) (seen_as tag r)
  tagged-exact {B} u tag same = record {
    again = λ b rest v.
        ap (λ (x : B). seen_as tag r (u x ++ rest)) v.1 ∙ ap (λ x. seen_as tag r (x ++ rest)) (same v.0)
        ∙ ap (λ o. o >>= λ x. Some (tag x.0, x.1)) (f.again v.0 rest v.2) ∙ ap (λ x. Some (x, rest)) (sym v.1);
    takes = λ line b rest h.
        let k = bind_some (r line) (λ x. Some (tag x.0, x.1)) (b, rest) h in
        let both_is : (tag k.0.0, k.0.1) ≡ (b, rest) = some_is (tag k.0.0, k.0.1) (b, rest) k.2 in
        let value : tag k.0.0 ≡ b = ap (λ x. x.0) both_is in
        let p = f.takes line k.0.0 rest (k.1 ∙ ap (λ x. Some (k.0.0, x)) (ap (λ x. x.1) both_is)) in
        ((k.0.0, sym value, p.0), p.1 ∙ ap (λ x. x ++ rest) (sym (same k.0.0) ∙ ap u value));
  }

  -- the same texts, said in another way
  pub text-exact : (u : A → List ℕ) → ((a : A) → V a → u a ≡ t a) → IsExact u V r
  text-exact u same = record {
    again = λ a rest v. ap (λ x. r (x ++ rest)) (same a v) ∙ f.again a rest v;
    takes = λ line a rest h. let p = f.takes line a rest h in (p.0, p.1 ∙ ap (λ x. x ++ rest) (sym (same a p.0)));
  }

  pub value-exact : (W : A → Type 0) → ((a : A) → V a → W a) → ((a : A) → W a → V a) → IsExact t W r
  value-exact W to from = record {
    again = λ a rest w. f.again a rest (from a w);
    takes = λ line a rest h. let p = f.takes line a rest h in (to a p.0, p.1);
  }

  -- the first of two readers, where it refuses the texts of the second
  pub either-exact : {W : A → Type 0} {s : List ℕ → Option (A × List ℕ)} → IsExact t W s → ((a : A) (rest : List ℕ) → W a → r (t a ++ rest) ≡ None) → IsExact t (λ a. V a ⊎ W a) (either r s)
  either-exact {W} {s} g apart = record {
    again = λ a rest v. elim v [
      | inl x ↦ ap (λ o. first_of_two o (s (t a ++ rest))) (f.again a rest x)
      | inr x ↦ ap (λ o. first_of_two o (s (t a ++ rest))) (apart a rest x) ∙ g.again a rest x
    ];
    takes = λ line a rest h. one line a rest (r line) refl h;
  }
    where
      one : (line : List ℕ) (a : A) (rest : List ℕ) (o : Option (A × List ℕ)) → r line ≡ o → first_of_two o (s line) ≡ Some (a, rest) → (V a ⊎ W a) × (line ≡ t a ++ rest)
      one line a rest None e h = let p = g.takes line a rest h in (inr p.0, p.1)
      one line a rest (Some x) e h = let p = f.takes line a rest (e ∙ h) in (inl p.0, p.1)

  -- a text that is read begins with that of a value, and a text of which nothing is read begins with none
  pub reads_none : (line : List ℕ) → r line ≡ None → (a : A) (rest : List ℕ) → V a → line ≡ t a ++ rest → ⊥
  reads_none line h a rest v e = let k : None ≡ Some (a, rest) = sym h ∙ ap r e ∙ f.again a rest v in absurd (cc (k))

  -- what a function returned that gives what reading gives
  pub begins : {X : Type 0} (view : X → A × List ℕ) (text : List ℕ) (o : Option X) → Gives view o (r text) → IfSome o (λ x. BeginsWith t V text (view x).0 (view x).1)
  begins {X} view text None h = tt
  begins {X} view text (Some x) h = let p = f.takes text (view x).0 (view x).1 h in record { right = p.0; whole = p.1 }

  pub begins_none : {X : Type 0} (view : X → A × List ℕ) (text : List ℕ) (o : Option X) → Gives view o (r text) → IfNone o (BeginsWithNone t V text)
  begins_none {X} view text None h = reads_none text h
  begins_none {X} view text (Some x) h = tt

  -- the same of what may have failed for want of memory
  pub ok_begins : {X F : Type 0} (view : X → A × List ℕ) (text : List ℕ) (o : Result (Option X) F) → IfOk o (λ found. Gives view found (r text)) → IfOk o (λ found. IfSome found (λ x. BeginsWith t V text (view x).0 (view x).1))
  ok_begins {X} {F} view text (Ok found) h = begins view text found h
  ok_begins {X} {F} view text (Err e) h = tt

  pub ok_begins_none : {X F : Type 0} (view : X → A × List ℕ) (text : List ℕ) (o : Result (Option X) F) → IfOk o (λ found. Gives view found (r text)) → IfOk o (λ found. IfNone found (BeginsWithNone t V text))
  ok_begins_none {X} {F} view text (Ok found) h = begins_none view text found h
  ok_begins_none {X} {F} view text (Err e) h = tt

  -- two values with one text are one
  pub text_is_one : (a b : A) → V a → V b → t a ≡ t b → a ≡ b
  text_is_one a b v w e =
      let k : Some (a, []) ≡ Some (b, []) = sym (f.again a [] v) ∙ ap (λ x. r (x ++ [])) e ∙ f.again b [] w in
      ap (λ x. x.0) (some_is (a, []) (b, []) k)

-- a value that passes its test, and one that doesn't
pub passes : {A : Type 0} {b : Bool} {x : A} → b ≡ true → cond b (Some x) None ≡ Some x
passes {A} {b} {x} h = ap (λ (b : Bool). cond b (Some x) None) h

pub fails : {A : Type 0} {b : Bool} (x : A) → b ≡ false → cond b (Some x) None ≡ None
fails {A} {b} x h = ap (λ (b : Bool). cond b (Some x) None) h
