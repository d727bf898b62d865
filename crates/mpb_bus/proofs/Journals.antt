-- First parts of journals, and an agent's entries.
use Rattle.std.proofs.Common.{◌≡◌, ◌⊎◌, ◌≤◌, true, false, cond, List, [], ◌∷◌, ◌++◌, length, drop, refl, sym, ap, ◌∙◌, inl, inr, ⊎_elim, arith, eq-eqb, append_assoc, append-nil, length-append}
use Rattle.std.proofs.lemmas.List.Elements.{filter-append}
use Rattle.mpb_spec.specs.declared.agent.Agent.{Agent}
use Rattle.mpb_spec.specs.declared.agent.Agent.TheVariants.{Cpu, Io, Dev}
use Rattle.mpb_spec.specs.declared.entry.Entry.{Entry}
use Rattle.mpb_spec.specs.Agents.{is_agent, entries_of, IsPrefix}

pub prefix_refl : (xs : List Entry) → IsPrefix xs xs
prefix_refl xs = ([], sym (append-nil xs))

pub prefix_push : (xs : List Entry) (x : Entry) → IsPrefix xs (xs ++ x ∷ [])
prefix_push xs x = (x ∷ [], refl)

pub prefix_trans : (xs ys zs : List Entry) → IsPrefix xs ys → IsPrefix ys zs → IsPrefix xs zs
prefix_trans xs ys zs p q = (p.0 ++ q.0, q.1 ∙ ap (λ l. l ++ q.0) p.1 ∙ append_assoc xs p.0 q.0)

-- a first part that is no shorter is the whole
pub prefix_whole : (xs ys : List Entry) → IsPrefix xs ys → length ys ≤ length xs → xs ≡ ys
prefix_whole xs ys p le = sym (append-nil xs) ∙ ap (λ l. xs ++ l) (sym (empty p.0 (let e = ap (λ (l : List Entry). length l) p.1 in omega (arith, length-append xs p.0)))) ∙ sym p.1
  where
    empty : (l : List Entry) → length l ≡ 0 → l ≡ []
    empty [] e = refl
    empty (x ∷ l) e = absurd (omega arith)

abbrev rest_of_list : List Entry → List Entry
rest_of_list [] = []
rest_of_list (x ∷ xs) = xs

abbrev first_or : Entry → List Entry → Entry
first_or d [] = d
first_or d (x ∷ xs) = x

-- of two first parts of one journal one is the first part of the other
pub prefixes_order : (xs ys zs : List Entry) → IsPrefix xs zs → IsPrefix ys zs → IsPrefix xs ys ⊎ IsPrefix ys xs
prefixes_order xs ys zs p q = by_lists xs ys p.0 q.0 (sym p.1 ∙ q.1)
  where
    longer : (x y : Entry) (xs ys : List Entry) → x ≡ y → IsPrefix xs ys → IsPrefix (x ∷ xs) (y ∷ ys)
    longer x y xs ys same p = (p.0, ap (λ z. z ∷ ys) (sym same) ∙ ap (λ l. x ∷ l) p.1)

    by_lists : (xs ys p q : List Entry) → xs ++ p ≡ ys ++ q → IsPrefix xs ys ⊎ IsPrefix ys xs
    by_lists [] ys p q e = inl (ys, refl)
    by_lists (x ∷ xs) [] p q e = inr (x ∷ xs, refl)
    by_lists (x ∷ xs) (y ∷ ys) p q e =
        let same = ap (first_or x) e in
        ⊎_elim (λ t. inl (longer x y xs ys same t)) (λ t. inr (longer y x ys xs (sym same) t)) (by_lists xs ys p q (ap rest_of_list e))

pub drop_all : (xs : List Entry) → drop (length xs) xs ≡ []
drop_all [] = refl
drop_all (x ∷ xs) = drop_all xs

pub drop_push : (xs : List Entry) (x : Entry) → drop (length xs) (xs ++ x ∷ []) ≡ x ∷ []
drop_push [] x = refl
drop_push (y ∷ xs) x = drop_push xs x

pub is_agent-itself : (g : Agent) → is_agent g g ≡ true
is_agent-itself (Cpu a) = eq-eqb a a refl
is_agent-itself (Io a) = eq-eqb a a refl
is_agent-itself (Dev a) = eq-eqb a a refl

pub own_entry : (g : Agent) (xs : List Entry) (x : Entry) → x.agent ≡ g → entries_of g (xs ++ x ∷ []) ≡ entries_of g xs ++ x ∷ []
own_entry g xs x e =
    filter-append (λ (y : Entry). is_agent y.agent g) xs (x ∷ [])
    ∙ ap (λ b. entries_of g xs ++ cond b (x ∷ []) []) (ap (λ h. is_agent h g) e ∙ is_agent-itself g)

pub other_entry : (g : Agent) (xs : List Entry) (x : Entry) → is_agent x.agent g ≡ false → entries_of g (xs ++ x ∷ []) ≡ entries_of g xs
other_entry g xs x e =
    filter-append (λ (y : Entry). is_agent y.agent g) xs (x ∷ [])
    ∙ ap (λ b. entries_of g xs ++ cond b (x ∷ []) []) e
    ∙ append-nil (entries_of g xs)
