-- Answers that tell each entry's row or first reason are the routes.
use Rattle.std.proofs.Common.{◌≡◌, ℕ, zero, suc, ◌+◌, ◌<◌, List, [], ◌∷◌, length, take, sym, refl, ap, subst, ◌∙◌, arith, inl, inr}
use Rattle.std.specs.Prelude.{Some, slice_get, ◌⊎◌}
use Rattle.mpt_spec.specs.declared.entry.IntEntry.{IntEntry}
use Rattle.mpt_route.specs.declared.platform.Platform.{Platform}
use Rattle.mpt_route.specs.declared.route.Why.{Why}
use Rattle.mpt_route.specs.declared.route.Answer.{Answer}
use Rattle.mpt_route.specs.declared.route.Answer.TheVariants as answer
use Rattle.mpt_route.specs.Routes.{reasons, routes_of}
use Rattle.mpt_route.specs.Reasons.{place_of, IsAnswerTo, AreRoutesOf}
use Rattle.mpt_route.proofs.ReasonLemmas.{are_routes, listed}
use Rattle.mpt_route_laws.proofs.RowLemmas.{entry_at}

-- reasons at one place are one
same_reason : (w v : Why) → place_of w ≡ place_of v → w ≡ v
same_reason w v e = let both : Some w ≡ Some v = sym (listed w) ∙ ap (slice_get reasons) e ∙ listed v in cc

-- an entry has one answer after the same earlier ones
same_answer : (p : Platform) (elcr : ℕ) (earlier : List Answer) (e : IntEntry) (a b : Answer) → IsAnswerTo p elcr earlier e a → IsAnswerTo p elcr earlier e b → a ≡ b
same_answer p elcr earlier e (answer.Routed r) (answer.Routed s) h k = ap answer.Routed (h.0 ∙ sym k.0)
same_answer p elcr earlier e (answer.Routed r) (answer.Unrouted m v) h k = absurd (h.1 v k.1)
same_answer p elcr earlier e (answer.Unrouted n w) (answer.Routed s) h k = absurd (k.1 w h.1)
same_answer p elcr earlier e (answer.Unrouted n w) (answer.Unrouted m v) h k =
    ap (λ (x : ℕ). answer.Unrouted x w) (h.0 ∙ sym k.0) ∙ ap (answer.Unrouted m) (same_reason w v (places (order (place_of w) (place_of v))))
  where
    order : (x y : ℕ) → (x < y) ⊎ ((y < x) ⊎ (x ≡ y))
    order x y = grind arith

    places : (place_of w < place_of v) ⊎ ((place_of v < place_of w) ⊎ (place_of w ≡ place_of v)) → place_of w ≡ place_of v
    places (inl l) = absurd (k.2 w l h.1)
    places (inr (inl l)) = absurd (h.2 v l k.1)
    places (inr (inr q)) = q

-- lists whose members are the same after the same earlier ones
same_lists : (xs ys : List Answer) → length xs ≡ length ys → ((i : ℕ) (a b : Answer) → take i xs ≡ take i ys → slice_get xs i ≡ Some a → slice_get ys i ≡ Some b → a ≡ b) → xs ≡ ys
same_lists [] [] l h = refl
same_lists [] (y ∷ ys) l h = absurd (omega arith)
same_lists (x ∷ xs) [] l h = absurd (omega arith)
same_lists (x ∷ xs) (y ∷ ys) l h =
    let e : x ≡ y = h 0 x y refl refl refl in
    ap (λ (z : Answer). z ∷ xs) e ∙ ap (λ (zs : List Answer). y ∷ zs)
    (same_lists xs ys (omega arith) (λ i a b t m n. h (suc i) a b (ap (λ (z : Answer). z ∷ take i xs) e ∙ ap (λ (zs : List Answer). y ∷ zs) t) m n))

pub routes_one : (p : Platform) (elcr : ℕ) (answers : List Answer) → AreRoutesOf p elcr answers → answers ≡ routes_of p elcr
routes_one p elcr answers h = same_lists answers (routes_of p elcr) (h.count ∙ sym (are_routes p elcr).count) step
  where
    inside : (x y : Answer) → Some x ≡ Some y → x ≡ y
    inside x y q = cc

    step : (i : ℕ) (a b : Answer) → take i answers ≡ take i (routes_of p elcr) → slice_get answers i ≡ Some a → slice_get (routes_of p elcr) i ≡ Some b → a ≡ b
    step i a b t m n =
        let e : (e : IntEntry) × (slice_get p.ints i ≡ Some e) = entry_at p.ints answers i a h.count m in
        let x : (x : Answer) × (slice_get answers i ≡ Some x) × IsAnswerTo p elcr (take i answers) e.0 x = h.each i e.0 e.1 in
        let y : (y : Answer) × (slice_get (routes_of p elcr) i ≡ Some y) × IsAnswerTo p elcr (take i (routes_of p elcr)) e.0 y = (are_routes p elcr).each i e.0 e.1 in
        inside a x.0 (sym m ∙ x.1)
        ∙ same_answer p elcr (take i (routes_of p elcr)) e.0 x.0 y.0 (subst (λ (earlier : List Answer). IsAnswerTo p elcr earlier e.0 x.0) t x.2) y.2
        ∙ inside y.0 b (sym y.1 ∙ n)
