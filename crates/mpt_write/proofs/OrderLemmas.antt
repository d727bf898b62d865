-- A stable sort by type gives the entries of each type in their order.
use Rattle.std.proofs.Common.{◌≡◌, ℕ, suc, zero, ◌<◌, ◌≤◌, Bool, true, false, List, [], ◌∷◌, ◌++◌, length, sym, refl, ap, ◌∙◌, arith, get_or, add-one}
use Rattle.std.specs.Prelude.{◌==◌, filter}
use Rattle.std.specs.List.{IsAllAdjacentAnswer}
use Rattle.std.specs.Prelude.{◌↔◌, IsTrue}
use Rattle.std.specs.List.Sorted.{IsSortedByKey, IsStableByKey, IsNonDecreasingBy, ties}
use Rattle.std.specs.Ordering.{nat_cmp, is_lt, is_le}
use Rattle.std.proofs.lemmas.List.Sorted.{IsNonDecreasingBy-from_sort}
use Rattle.std.proofs.lemmas.Bool.Decides.{nat_tests}
use Rattle.mpt_spec.specs.declared.entry.Base.{Base}
use Rattle.mpt_spec.specs.declared.entry.Base.TheVariants as base
use Rattle.mpt_spec.specs.Canonical.{base_type, in_type_order, IsInTypeOrder}
use Rattle.mpt_spec.proofs.CanonicalLemmas.{in_type_order-in_order}

pub in_order : (es : List Base) → IsNonDecreasingBy base_type es → IsInTypeOrder es
in_order [] h = tt
in_order (e ∷ []) h = tt
in_order (e ∷ f ∷ es) h = (h 0 1 e (omega arith) (omega arith), in_order (f ∷ es) (λ i j d p q. h (suc i) (suc j) d (omega arith) (omega arith)))

-- entries tie exactly where their types are equal
pub tie_is : (m n : ℕ) → ties (λ (x y : ℕ). is_lt (nat_cmp x y)) m n ≡ (n == m)
tie_is m n = grind (arith, nat_tests)

of_one_type : (xs ys : List Base) → IsStableByKey base_type nat_cmp xs ys → (x : Base) → filter (λ e. base_type e == base_type x) ys ≡ filter (λ e. base_type e == base_type x) xs
of_one_type xs ys h x =
    let same : (λ (e : Base). base_type e == base_type x) ≡ ties (λ (a b : Base). is_lt (nat_cmp (base_type a) (base_type b))) x = λ i e. sym (tie_is (base_type x) (base_type e)) i in
    ap (λ p. filter p ys) same ∙ h x ∙ ap (λ p. filter p xs) (sym same)

pub order_is : (xs ys : List Base) → IsSortedByKey base_type nat_cmp ys → IsStableByKey base_type nat_cmp xs ys → ys ≡ in_type_order xs
order_is xs ys s h =
    let p0 : filter (λ e. base_type e == 0) ys ≡ filter (λ e. base_type e == 0) xs = of_one_type xs ys h (base.Processor (record { apic = 0; version = 0; flags = 0; signature = 0; features = 0; reserved = [] })) in
    let p1 : filter (λ e. base_type e == 1) ys ≡ filter (λ e. base_type e == 1) xs = of_one_type xs ys h (base.Bus (record { id = 0; name = [] })) in
    let p2 : filter (λ e. base_type e == 2) ys ≡ filter (λ e. base_type e == 2) xs = of_one_type xs ys h (base.IoApic (record { id = 0; version = 0; flags = 0; address = 0 })) in
    let p3 : filter (λ e. base_type e == 3) ys ≡ filter (λ e. base_type e == 3) xs = of_one_type xs ys h (base.IoInt (record { kind = 0; flags = 0; bus = 0; irq = 0; dest = 0; pin = 0 })) in
    let p4 : filter (λ e. base_type e == 4) ys ≡ filter (λ e. base_type e == 4) xs = of_one_type xs ys h (base.LocalInt (record { kind = 0; flags = 0; bus = 0; irq = 0; dest = 0; pin = 0 })) in
    sym (in_type_order-in_order ys (in_order ys (IsNonDecreasingBy-from_sort base_type ys s)))
    ∙ (λ i. p0 i ++ (p1 i ++ (p2 i ++ (p3 i ++ (p4 i ++ [])))))

at_place : (es : List Base) → IsInTypeOrder es → (k : ℕ) (d : Base) → suc k < length es → base_type (get_or es k d) ≤ base_type (get_or es (suc k) d)
at_place [] h k d p = absurd (omega arith)
at_place (e ∷ []) h k d p = absurd (omega arith)
at_place (e ∷ f ∷ es) h zero d p = h.0
at_place (e ∷ f ∷ es) h (suc k) d p = at_place (f ∷ es) h.1 k d (omega arith)

from_places : (es : List Base) → ((k : ℕ) (d : Base) → suc k < length es → base_type (get_or es k d) ≤ base_type (get_or es (suc k) d)) → IsInTypeOrder es
from_places [] h = tt
from_places (e ∷ []) h = tt
from_places (e ∷ f ∷ es) h = (h 0 e (omega arith), from_places (f ∷ es) (λ k d p. h (suc k) d (omega arith)))

le_test : (m n : ℕ) → is_le (nat_cmp m n) ≡ true → m ≤ n
le_test m n h = grind (arith, nat_tests)

lt_test : (m n : ℕ) → is_le (nat_cmp m n) ≡ false → n < m
lt_test m n h = grind (arith, nat_tests)

pub answers_order : (es : List Base) (r : Bool) → IsAllAdjacentAnswer (λ x y b. b ≡ is_le (nat_cmp (base_type x) (base_type y))) es r → IsTrue r ↔ IsInTypeOrder es
answers_order es true h = (λ _. from_places es (λ k d p. le_test (base_type (get_or es k d)) (base_type (get_or es (suc k) d)) (rw add-one at (sym (h k d (omega arith))))), λ _. refl)
answers_order es false (k, p, h) = (λ e. absurd (cc), λ o. absurd (wrong o))
  where
    wrong : IsInTypeOrder es → ⊥
    wrong o =
        let d = base.Bus (record { id = 0; name = [] }) in
        let low = at_place es o k d (omega arith) in
        let high = lt_test (base_type (get_or es k d)) (base_type (get_or es (suc k) d)) (rw add-one at (sym (h d))) in
        omega arith
