-- Further parts of a line are read exactly. The two halves of it apart: what is read stood there, and what stands there is read.
use Rattle.std.proofs.Common.{◌≡◌, ℕ, zero, suc, ◌+◌, ◌-◌, ◌&&◌, ◌^◌, ◌<◌, ◌≤◌, Bool, true, cond, List, [], ◌∷◌, ◌++◌, length, sym, refl, ap, ◌∙◌, subst, append_assoc, append-nil, arith}
use Rattle.std.specs.Prelude.{Option, Some, None, decimal, nat_le, nat_lt}
use Rattle.std.specs.List.{flat_map, AllByRecursion, concat}
use Rattle.std.proofs.lemmas.Bool.Decides.{nat_tests}
use Rattle.std.proofs.lemmas.Option.{cond_some}
use Rattle.std.proofs.lemmas.Fmt.{decimal_digit}
use Rattle.mpt_line.specs.Reading.{◌>>=◌, text_in, both, seen_as, checked, either, first_of_two}
use Rattle.mpt_line.proofs.Exact.{IsExact, bind_some, some_is, text_again, text_takes, value-exact}
use Rattle.mpb_report_line.specs.Reading.{before, named, place_in, up_to_in, run_of, grown_by, items_in}
use Rattle.mpb_report_line.proofs.NumeralLemmas.{BeginsWithNoDigit, up_to-exact, decimal_is}

module _ {A : Type 0} {t : A → List ℕ} {V : A → Type 0} {r : List ℕ → Option (A × List ℕ)} (f : IsExact t V r) where
  -- a text behind a part
  pub before-exact : (stop : List ℕ) → IsExact (λ a. t a ++ stop) V (before r stop)
  before-exact stop = record {
    again = λ a rest v.
        ap (λ l. r l >>= λ x. text_in stop x.1 >>= λ rest. Some (x.0, rest)) (append_assoc (t a) stop rest)
        ∙ ap (λ o. o >>= λ x. text_in stop x.1 >>= λ rest. Some (x.0, rest)) (f.again a (stop ++ rest) v)
        ∙ ap (λ o. o >>= λ rest. Some (a, rest)) (text_again stop rest);
    takes = λ line a rest h.
        let k = bind_some (r line) (λ x. text_in stop x.1 >>= λ rest. Some (x.0, rest)) (a, rest) h in
        let m = bind_some (text_in stop k.0.1) (λ rest. Some (k.0.0, rest)) (a, rest) k.2 in
        let both_is : (k.0.0, m.0) ≡ (a, rest) = some_is (k.0.0, m.0) (a, rest) m.2 in
        let value : k.0.0 ≡ a = ap (λ x. x.0) both_is in
        let end : m.0 ≡ rest = ap (λ x. x.1) both_is in
        let p = f.takes line a k.0.1 (k.1 ∙ ap (λ x. Some (x, k.0.1)) value) in
        (p.0, p.1 ∙ ap (λ x. t a ++ x) (text_takes stop k.0.1 m.0 m.1 ∙ ap (λ x. stop ++ x) end) ∙ sym (append_assoc (t a) stop rest));
  }

  -- the same text, put otherwise
  pub retold : (u : A → List ℕ) → ((a : A) → V a → u a ≡ t a) → IsExact u V r
  retold u same = record {
    again = λ a rest v. ap (λ x. r (x ++ rest)) (same a v) ∙ f.again a rest v;
    takes = λ line a rest h. let p = f.takes line a rest h in (p.0, p.1 ∙ ap (λ x. x ++ rest) (sym (same a p.0)));
  }

-- what is read stood there
abbrev pub IsSound : {A : Type 0} → (A → List ℕ) → (A → Type 0) → (List ℕ → Option (A × List ℕ)) → Type 0
IsSound {A} t V r = (line : List ℕ) (a : A) (rest : List ℕ) → r line ≡ Some (a, rest) → V a × (line ≡ t a ++ rest)

pub either-sound : {A : Type 0} (t : A → List ℕ) (V : A → Type 0) (r s : List ℕ → Option (A × List ℕ)) → IsSound t V r → IsSound t V s → IsSound t V (either r s)
either-sound {A} t V r s p q line a rest h = at (r line) refl h
  where
    at : (o : Option (A × List ℕ)) → r line ≡ o → first_of_two o (s line) ≡ Some (a, rest) → V a × (line ≡ t a ++ rest)
    at None e k = q line a rest k
    at (Some x) e k = p line a rest (e ∙ k)

pub named-sound : {A : Type 0} (t : A → List ℕ) (V : A → Type 0) (text : List ℕ) (a : A) → t a ≡ text → V a → IsSound t V (named text a)
named-sound {A} t V text a same v line b rest h =
    let k = bind_some (text_in text line) (λ rest. Some (a, rest)) (b, rest) h in
    let both_is : (a, k.0) ≡ (b, rest) = some_is (a, k.0) (b, rest) k.2 in
    let value : a ≡ b = ap (λ x. x.0) both_is in
    let end : k.0 ≡ rest = ap (λ x. x.1) both_is in
    (subst V value v, text_takes text line k.0 k.1 ∙ (λ i. sym same i ++ end i) ∙ ap (λ x. t x ++ rest) value)

pub tagged-sound : {A B : Type 0} {t : A → List ℕ} {V : A → Type 0} {r : List ℕ → Option (A × List ℕ)} → IsExact t V r → (u : B → List ℕ) (W : B → Type 0) (tag : A → B) → ((a : A) → V a → u (tag a) ≡ t a) → ((a : A) → V a → W (tag a)) → IsSound u W (seen_as tag r)
tagged-sound {A} {B} {t} {V} {r} f u W tag same to line b rest h =
    let k = bind_some (r line) (λ x. Some (tag x.0, x.1)) (b, rest) h in
    let both_is : (tag k.0.0, k.0.1) ≡ (b, rest) = some_is (tag k.0.0, k.0.1) (b, rest) k.2 in
    let value : tag k.0.0 ≡ b = ap (λ x. x.0) both_is in
    let p = f.takes line k.0.0 rest (k.1 ∙ ap (λ x. Some (k.0.0, x)) (ap (λ x. x.1) both_is)) in
    (subst W value (to k.0.0 p.0), p.1 ∙ ap (λ x. x ++ rest) (sym (same k.0.0 p.0) ∙ ap u value))

pub checked-sound : {A : Type 0} (t : A → List ℕ) (V : A → Type 0) (right : A → Bool) (r : List ℕ → Option (A × List ℕ)) → IsSound t V r → IsSound t (λ a. V a × (right a ≡ true)) (checked right r)
checked-sound {A} t V right r p line a rest h =
    let k = bind_some (r line) (λ x. cond (right x.0) (Some x) None) (a, rest) h in
    let m = cond_some (right k.0.0) k.0 (a, rest) k.2 in
    let q = p line a rest (k.1 ∙ ap (λ x. Some x) m.1) in
    ((q.0, ap right (sym (ap (λ x. x.0) m.1)) ∙ m.0), q.1)

-- what stands there is read
pub record Reads {A : Type 0} (t : A → List ℕ) (a : A) (r : List ℕ → Option (A × List ℕ)) : Type 0 where
  pub reads : (rest : List ℕ) → r (t a ++ rest) ≡ Some (a, rest)

-- by the first of two readers, or by the second, where the first refuses it
pub here : {A : Type 0} {t : A → List ℕ} {a : A} {r : List ℕ → Option (A × List ℕ)} (s : List ℕ → Option (A × List ℕ)) → Reads t a r → Reads t a (either r s)
here {A} {t} {a} {r} s p = record { reads = λ rest. ap (λ o. first_of_two o (s (t a ++ rest))) (p.reads rest) }

pub next : {A : Type 0} {t : A → List ℕ} {a : A} {s : List ℕ → Option (A × List ℕ)} (r : List ℕ → Option (A × List ℕ)) → ((rest : List ℕ) → r (t a ++ rest) ≡ None) → Reads t a s → Reads t a (either r s)
next {A} {t} {a} {s} r refused p = record { reads = λ rest. ap (λ o. first_of_two o (s (t a ++ rest))) (refused rest) ∙ p.reads rest }

pub named-reads : {A : Type 0} (t : A → List ℕ) (text : List ℕ) (a : A) → t a ≡ text → Reads t a (named text a)
named-reads {A} t text a same = record { reads = λ rest. ap (λ (x : List ℕ). named text a (x ++ rest)) same ∙ ap (λ o. o >>= λ rest. Some (a, rest)) (text_again text rest) }

pub tagged-reads : {A B : Type 0} {t : A → List ℕ} {V : A → Type 0} {r : List ℕ → Option (A × List ℕ)} → IsExact t V r → (u : B → List ℕ) (tag : A → B) (a : A) → u (tag a) ≡ t a → V a → Reads u (tag a) (seen_as tag r)
tagged-reads {A} {B} {t} {V} {r} f u tag a same v = record { reads = λ rest. ap (λ (x : List ℕ). seen_as tag r (x ++ rest)) same ∙ ap (λ o. o >>= λ x. Some (tag x.0, x.1)) (f.again a rest v) }

pub checked-reads : {A : Type 0} (t : A → List ℕ) (a : A) (right : A → Bool) (r : List ℕ → Option (A × List ℕ)) → right a ≡ true → Reads t a r → Reads t a (checked right r)
checked-reads {A} t a right r ok p = record { reads = λ rest. ap (λ (o : Option (A × List ℕ)). o >>= λ x. cond (right x.0) (Some x) None) (p.reads rest) ∙ ap (λ (b : Bool). cond {A = Option (A × List ℕ)} b (Some (a, rest)) None) ok }

pub two_halves : {A : Type 0} (t : A → List ℕ) (V : A → Type 0) (r : List ℕ → Option (A × List ℕ)) → ((a : A) → V a → Reads t a r) → IsSound t V r → IsExact t V r
two_halves {A} t V r reads sound = record { again = λ a rest v. (reads a v).reads rest; takes = sound }

-- what is made of a part that refuses a text refuses it
pub before_refuses : {A : Type 0} (r : List ℕ → Option (A × List ℕ)) (stop line : List ℕ) → r line ≡ None → before r stop line ≡ None
before_refuses {A} r stop line h = ap (λ (o : Option (A × List ℕ)). o >>= λ x. text_in stop x.1 >>= λ rest. Some (x.0, rest)) h

pub both_refuses : {A B : Type 0} (r : List ℕ → Option (A × List ℕ)) (s : List ℕ → Option (B × List ℕ)) (line : List ℕ) → r line ≡ None → both r s line ≡ None
both_refuses {A} {B} r s line h = ap (λ (o : Option (A × List ℕ)). o >>= λ x. s x.1 >>= λ y. Some ((x.0, y.0), y.1)) h

pub seen_refuses : {A B : Type 0} (view : A → B) (r : List ℕ → Option (A × List ℕ)) (line : List ℕ) → r line ≡ None → seen_as view r line ≡ None
seen_refuses {A} {B} view r line h = ap (λ (o : Option (A × List ℕ)). o >>= λ x. Some (view x.0, x.1)) h

pub named_refuses : {A : Type 0} (text : List ℕ) (a : A) (line : List ℕ) → text_in text line ≡ None → named text a line ≡ None
named_refuses {A} text a line h = ap (λ (o : Option (List ℕ)). o >>= λ rest. Some (a, rest)) h

-- parts of a text
pub concat-2 : (a b : List ℕ) → concat (a ∷ b ∷ []) ≡ a ++ b
concat-2 a b = ap (λ x. a ++ x) (append-nil b)

pub concat-3 : (a b c : List ℕ) → concat (a ∷ b ∷ c ∷ []) ≡ a ++ (b ++ c)
concat-3 a b c = ap (λ x. a ++ (b ++ x)) (append-nil c)

pub concat-4 : (a b c d : List ℕ) → concat (a ∷ b ∷ c ∷ d ∷ []) ≡ a ++ (b ++ (c ++ d))
concat-4 a b c d = ap (λ x. a ++ (b ++ (c ++ x))) (append-nil d)

-- one of four places
pub place-exact : IsExact decimal (λ a. a < 4) place_in
unfolding place_in
place-exact = record { again = again; takes = takes }
  where
    again : (a : ℕ) (rest : List ℕ) → a < 4 → place_in (decimal a ++ rest) ≡ Some (a, rest)
    again a rest v =
        let digit : (nat_le 48 (48 + a) && nat_lt (48 + a) 52) ≡ true = grind (arith, nat_tests) in
        let same : 48 + a - 48 ≡ a = omega arith in
        ap (λ (x : List ℕ). place_in (x ++ rest)) (decimal_digit a (omega arith))
        ∙ ap (λ (b : Bool). cond {A = Option (ℕ × List ℕ)} b (Some (48 + a - 48, rest)) None) digit
        ∙ ap (λ x. Some (x, rest)) same

    takes : (line : List ℕ) (a : ℕ) (rest : List ℕ) → place_in line ≡ Some (a, rest) → (a < 4) × (line ≡ decimal a ++ rest)
    takes [] a rest h = absurd (cc (h))
    takes (c ∷ cs) a rest h =
        let k = cond_some (nat_le 48 c && nat_lt c 52) (c - 48, cs) (a, rest) h in
        let value : c - 48 ≡ a = ap (λ x. x.0) k.1 in
        let low : 48 ≤ c = grind (arith, nat_tests, k.0) in
        let high : c < 52 = grind (arith, nat_tests, k.0) in
        let small : a < 4 = omega arith in
        let back : c ≡ 48 + a = omega arith in
        (small, (λ i. back i ∷ (k.1 i).1) ∙ ap (λ (x : List ℕ). x ++ rest) (sym (decimal_digit a (omega arith))))

-- a number up to a greatest one, as it is printed
pub number-exact : (most : ℕ) (stop : List ℕ) → most < 2 ^ 64 → BeginsWithNoDigit stop → IsExact (λ n. decimal n ++ stop) (λ n. n ≤ most) (up_to_in most stop)
number-exact most stop small free = retold (up_to-exact most stop free) (λ n. decimal n ++ stop) (λ n v. ap (λ (x : List ℕ). x ++ stop) (decimal_is n (omega arith)))

pub pin-exact : (stop : List ℕ) → BeginsWithNoDigit stop → IsExact (λ n. decimal n ++ stop) (λ n. n < 24) (up_to_in 23 stop)
pin-exact stop free = value-exact (number-exact 23 stop (omega arith) free) (λ n. n < 24) (λ n v. omega arith) (λ n v. omega arith)

-- items, and then a text that begins none
module _ {A : Type 0} {t : A → List ℕ} {V : A → Type 0} {item : List ℕ → Option (A × List ℕ)} (f : IsExact t V item) where
  pub run_again : (stop : List ℕ) → ((rest : List ℕ) → item (stop ++ rest) ≡ None) → (n : ℕ) (xs : List A) (rest : List ℕ) → length xs ≤ n → AllByRecursion V xs → run_of item n (flat_map t xs ++ (stop ++ rest)) ≡ (xs, stop ++ rest)
  unfolding run_of
  run_again stop refused zero [] rest h v = refl
  run_again stop refused zero (x ∷ xs) rest h v = absurd (omega arith)
  run_again stop refused (suc n) [] rest h v = ap (λ o. grown_by o (stop ++ rest) (run_of item n)) (refused rest)
  run_again stop refused (suc n) (x ∷ xs) rest h v =
      let tail : List ℕ = flat_map t xs ++ (stop ++ rest) in
      let one : item ((t x ++ flat_map t xs) ++ (stop ++ rest)) ≡ Some (x, tail) = ap item (append_assoc (t x) (flat_map t xs) (stop ++ rest)) ∙ f.again x tail v.0 in
      ap (λ o. grown_by o ((t x ++ flat_map t xs) ++ (stop ++ rest)) (run_of item n)) one
      ∙ ap (λ (y : List A × List ℕ). (x ∷ y.0, y.1)) (run_again stop refused n xs rest (omega arith) v.1)

  pub record IsRun (n : ℕ) (line : List ℕ) (run : List A × List ℕ) : Type 0 where
    pub short : length run.0 ≤ n
    pub values : AllByRecursion V run.0
    pub whole : line ≡ flat_map t run.0 ++ run.1

  pub run_takes : (n : ℕ) (line : List ℕ) → IsRun n line (run_of item n line)
  unfolding run_of
  run_takes zero line = record { short = omega arith; values = tt; whole = refl }
  run_takes (suc n) line = grows (run_takes n) (item line) refl
    where
      grows : ((l : List ℕ) → IsRun n l (run_of item n l)) → (o : Option (A × List ℕ)) → item line ≡ o → IsRun (suc n) line (grown_by o line (run_of item n))
      grows more None e = record { short = omega arith; values = tt; whole = refl }
      grows more (Some b) e =
          let p = f.takes line b.0 b.1 e in
          let q : IsRun n b.1 (run_of item n b.1) = more b.1 in
          let short : length (run_of item n b.1).0 ≤ n = q.short in
          record {
            short = omega arith;
            values = (p.0, q.values);
            whole = p.1 ∙ ap (λ x. t b.0 ++ x) q.whole ∙ sym (append_assoc (t b.0) (flat_map t (run_of item n b.1).0) (run_of item n b.1).1);
          }

  -- at most n of them
  pub items-again : (stop : List ℕ) → ((rest : List ℕ) → item (stop ++ rest) ≡ None) → (n : ℕ) (xs : List A) (rest : List ℕ) → length xs ≤ n → AllByRecursion V xs → items_in item n stop ((flat_map t xs ++ stop) ++ rest) ≡ Some (xs, rest)
  items-again stop refused n xs rest h v =
      ap (items_in item n stop) (append_assoc (flat_map t xs) stop rest)
      ∙ ap (λ (y : List A × List ℕ). text_in stop y.1 >>= λ rest. Some (y.0, rest)) (run_again stop refused n xs rest h v)
      ∙ ap (λ o. o >>= λ rest. Some (xs, rest)) (text_again stop rest)

  pub items-takes : (stop : List ℕ) (n : ℕ) (line : List ℕ) (xs : List A) (rest : List ℕ) → items_in item n stop line ≡ Some (xs, rest) → ((length xs ≤ n) × AllByRecursion V xs) × (line ≡ (flat_map t xs ++ stop) ++ rest)
  items-takes stop n line xs rest h =
      let run = run_of item n line in
      let k = bind_some (text_in stop run.1) (λ rest. Some (run.0, rest)) (xs, rest) h in
      let both_is : (run.0, k.0) ≡ (xs, rest) = some_is (run.0, k.0) (xs, rest) k.2 in
      let items : run.0 ≡ xs = ap (λ x. x.0) both_is in
      let end : k.0 ≡ rest = ap (λ x. x.1) both_is in
      let q : IsRun n line run = run_takes n line in (
        subst (λ (ys : List A). (length ys ≤ n) × AllByRecursion V ys) items (q.short, q.values),
        q.whole ∙ ap (λ x. flat_map t run.0 ++ x) (text_takes stop run.1 k.0 k.1) ∙ (λ i. flat_map t (items i) ++ (stop ++ end i)) ∙ sym (append_assoc (flat_map t xs) stop rest),
      )

  pub items-exact : (stop : List ℕ) → ((rest : List ℕ) → item (stop ++ rest) ≡ None) → (n : ℕ) → IsExact (λ (xs : List A). flat_map t xs ++ stop) (λ xs. (length xs ≤ n) × AllByRecursion V xs) (items_in item n stop)
  items-exact stop refused n = record { again = λ xs rest v. items-again stop refused n xs rest v.0 v.1; takes = items-takes stop n }
