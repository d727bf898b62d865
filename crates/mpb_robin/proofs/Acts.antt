-- The acts of a device: its ops stand at their positions, and the last act is its end.
use Rattle.std.proofs.Common.{◌≡◌, ◌≢◌, ◌⊎◌, inl, inr, ⊎_elim, ℕ, zero, suc, ◌+◌, ◌<◌, ◌≤◌, List, [], ◌∷◌, ◌++◌, length, take, drop, map, filter_map, slice_get, refl, sym, ap, ◌∙◌, Option, None, Some, arith}
use Rattle.std.proofs.lemmas.List.{length-append}
use Rattle.std.proofs.lemmas.List.Elements.{filter_map-append}
use Rattle.mpb_spec.specs.declared.agent.Op.{Op}
use Rattle.mpb_spec.specs.declared.agent.Op.TheVariants as op
use Rattle.mpb_spec.specs.declared.config.DevWord.{DevWord}
use Rattle.mpb_spec.specs.Plan.{op_of_word, device_program}
use Rattle.mpb_robin.specs.declared.act.Act.{Act}
use Rattle.mpb_robin.specs.declared.act.Act.TheVariants as act
use Rattle.mpb_spec.specs.declared.pulse.Pulse.{Pulse}
use Rattle.mpb_robin.specs.RoundRobin.{acts_of}
use Rattle.mpb_spec.specs.Pulses.{pulse_of, pulses_in}
use Rattle.mpb_robin.specs.Rest.{op_of_act, pulse_of_act}

abbrev pub ops : List Act → List Op
ops acts = filter_map op_of_act acts

abbrev pub pulses : List Act → List Pulse
pulses acts = filter_map pulse_of_act acts

-- one act more
pub take-more : {X : Type 0} (xs : List X) (n : ℕ) (x : X) → slice_get xs n ≡ Some x → take (suc n) xs ≡ take n xs ++ x ∷ []
take-more [] n x e = cc
take-more (y ∷ xs) zero x e = let same : y ≡ x = cc in rw same refl
take-more (y ∷ xs) (suc n) x e = ap (λ ys. y ∷ ys) (take-more xs n x e)

pub take-drop : {X : Type 0} (xs : List X) (n : ℕ) → xs ≡ take n xs ++ drop n xs
take-drop xs zero = refl
take-drop [] (suc n) = refl
take-drop (x ∷ xs) (suc n) = ap (λ ys. x ∷ ys) (take-drop xs n)

pub drop-at : {X : Type 0} (xs : List X) (n : ℕ) (x : X) → slice_get xs n ≡ Some x → drop n xs ≡ x ∷ drop (suc n) xs
drop-at [] n x e = cc
drop-at (y ∷ xs) zero x e = let same : y ≡ x = cc in rw same refl
drop-at (y ∷ xs) (suc n) x e = drop-at xs n x e

pub at-length : {X : Type 0} (xs : List X) (y : X) (ys : List X) → slice_get (xs ++ y ∷ ys) (length xs) ≡ Some y
at-length [] y ys = refl
at-length (x ∷ xs) y ys = at-length xs y ys

-- all ops are those of the acts done and those of the acts left
pub ops-split : (acts : List Act) (n : ℕ) → ops acts ≡ ops (take n acts) ++ ops (drop n acts)
ops-split acts n = ap ops (take-drop acts n) ∙ filter_map-append op_of_act (take n acts) (drop n acts)

-- the next act's op stands at the position behind those of the acts done
pub op-at : (acts : List Act) (n : ℕ) (a : Act) (o : Op) → slice_get acts n ≡ Some a → op_of_act a ≡ Some o → slice_get (ops acts) (length (ops (take n acts))) ≡ Some o
op-at acts n a o e f =
    let split : ops acts ≡ ops (take n acts) ++ o ∷ ops (drop (suc n) acts) = ops-split acts n ∙ ap (λ ys. ops (take n acts) ++ ops ys) (drop-at acts n a e) ∙ ap (λ x. ops (take n acts) ++ Rattle.std.specs.List.cons_option x (ops (drop (suc n) acts))) f in
    ap (λ xs. slice_get xs (length (ops (take n acts)))) split ∙ at-length (ops (take n acts)) o (ops (drop (suc n) acts))

-- the ops and the pulses after one act more
pub ops-more : (acts : List Act) (n : ℕ) (a : Act) → slice_get acts n ≡ Some a → ops (take (suc n) acts) ≡ ops (take n acts) ++ ops (a ∷ [])
ops-more acts n a e = ap ops (take-more acts n a e) ∙ filter_map-append op_of_act (take n acts) (a ∷ [])

pub pulses-more : (acts : List Act) (n : ℕ) (a : Act) → slice_get acts n ≡ Some a → pulses (take (suc n) acts) ≡ pulses (take n acts) ++ pulses (a ∷ [])
pulses-more acts n a e = ap pulses (take-more acts n a e) ∙ filter_map-append pulse_of_act (take n acts) (a ∷ [])

-- behind any act but the last the end is still to come
LastOrNot : Act → List Act → Type 0
LastOrNot a rest = ((a ≡ act.End) × (rest ≡ [])) ⊎ ((before : List Act) × (rest ≡ before ++ act.End ∷ []))

words-last : (ws : List DevWord) (n : ℕ) (a : Act) → slice_get (map act.Word ws ++ act.End ∷ []) n ≡ Some a → LastOrNot a (drop (suc n) (map act.Word ws ++ act.End ∷ []))
unfolding LastOrNot
words-last [] zero a e = let same : act.End ≡ a = cc in inl (sym same, refl)
words-last [] (suc n) a e = cc
words-last (w ∷ ws) zero a e = inr (map act.Word ws, refl)
words-last (w ∷ ws) (suc n) a e = words-last ws n a e

acts-last : (ws : List DevWord) (n : ℕ) (a : Act) → slice_get (acts_of ws) n ≡ Some a → LastOrNot a (drop (suc n) (acts_of ws))
unfolding LastOrNot
acts-last ws zero a e = inr (map act.Word ws, refl)
acts-last ws (suc n) a e = words-last ws n a e

some-ops : (before : List Act) → 0 < length (ops (before ++ act.End ∷ []))
some-ops before = rw (filter_map-append op_of_act before (act.End ∷ []), length-append (ops before) (op.End ∷ [])) (omega arith)

-- the end is the last act: behind it no op is left, and behind every other act one is
pub last-op : (ws : List DevWord) (n : ℕ) (a : Act) → slice_get (acts_of ws) n ≡ Some a
    → ((a ≡ act.End) × (length (ops (take (suc n) (acts_of ws))) ≡ length (ops (acts_of ws)))) ⊎ (length (ops (take (suc n) (acts_of ws))) < length (ops (acts_of ws)))
unfolding LastOrNot
last-op ws n a e =
    let lengths : length (ops (acts_of ws)) ≡ length (ops (take (suc n) (acts_of ws))) + length (ops (drop (suc n) (acts_of ws))) = ap (λ xs. length xs) (ops-split (acts_of ws) (suc n)) ∙ length-append (ops (take (suc n) (acts_of ws))) (ops (drop (suc n) (acts_of ws))) in
    ⊎_elim
    (λ h. inl (h.0, (let z : length (ops (drop (suc n) (acts_of ws))) ≡ 0 = ap (λ xs. length (ops xs)) h.1 in omega arith)))
    (λ h. inr (let z : 0 < length (ops (drop (suc n) (acts_of ws))) = Rattle.std.proofs.Common.subst (λ xs. 0 < length (ops xs)) (sym h.1) (some-ops h.0) in omega arith))
    (acts-last ws n a e)

words-end : (ws : List DevWord) (n : ℕ) → slice_get (map act.Word ws ++ act.End ∷ []) n ≡ Some act.End → drop (suc n) (map act.Word ws ++ act.End ∷ []) ≡ []
words-end [] zero e = refl
words-end [] (suc n) e = cc
words-end (w ∷ ws) zero e = cc
words-end (w ∷ ws) (suc n) e = words-end ws n e

acts-end : (ws : List DevWord) (n : ℕ) → slice_get (acts_of ws) n ≡ Some act.End → drop (suc n) (acts_of ws) ≡ []
acts-end ws zero e = cc
acts-end ws (suc n) e = words-end ws n e

-- no op is left behind the end
pub end-is-last : (ws : List DevWord) (n : ℕ) → slice_get (acts_of ws) n ≡ Some act.End → length (ops (take (suc n) (acts_of ws))) < length (ops (acts_of ws)) → ⊥
end-is-last ws n e l =
    let lengths : length (ops (acts_of ws)) ≡ length (ops (take (suc n) (acts_of ws))) + length (ops (drop (suc n) (acts_of ws))) = ap (λ xs. length xs) (ops-split (acts_of ws) (suc n)) ∙ length-append (ops (take (suc n) (acts_of ws))) (ops (drop (suc n) (acts_of ws))) in
    let z : length (ops (drop (suc n) (acts_of ws))) ≡ 0 = ap (λ xs. length (ops xs)) (acts-end ws n e) in
    absurd (omega arith)

-- where an act is left, an op is left
pub op-left : (ws : List DevWord) (n : ℕ) (a : Act) → slice_get (acts_of ws) n ≡ Some a → length (ops (take n (acts_of ws))) < length (ops (acts_of ws))
op-left ws n a e =
    let more : length (ops (take (suc n) (acts_of ws))) ≡ length (ops (take n (acts_of ws))) + length (ops (a ∷ [])) = ap (λ xs. length xs) (ops-more (acts_of ws) n a e) ∙ length-append (ops (take n (acts_of ws))) (ops (a ∷ [])) in
    ⊎_elim
    (λ h. (let one : length (ops (a ∷ [])) ≡ 1 = ap (λ b. length (ops (b ∷ []))) h.0 in omega arith))
    (λ h. omega arith)
    (last-op ws n a e)

-- a later act than the first follows an op
pub begun-before : (ws : List DevWord) (n : ℕ) → 0 < n → 0 < length (ops (take n (acts_of ws)))
begun-before ws zero l = absurd (omega arith)
begun-before ws (suc n) l = omega arith

-- ---- the acts are those of the words

ops-of_words : (ws : List DevWord) → ops (map act.Word ws) ≡ filter_map op_of_word ws
ops-of_words [] = refl
ops-of_words (w ∷ ws) = ap (λ xs. Rattle.std.specs.List.cons_option (op_of_word w) xs) (ops-of_words ws)

pub program-of_acts : (ws : List DevWord) → device_program ws ≡ ops (acts_of ws)
program-of_acts ws = ap (λ xs. op.Begin ∷ xs) (sym (filter_map-append op_of_act (map act.Word ws) (act.End ∷ []) ∙ ap (λ xs. xs ++ op.End ∷ []) (ops-of_words ws)))

pulses-of_words : (ws : List DevWord) → pulses (map act.Word ws) ≡ pulses_in ws
pulses-of_words [] = refl
pulses-of_words (w ∷ ws) = ap (λ xs. Rattle.std.specs.List.cons_option (pulse_of w) xs) (pulses-of_words ws)

append-nil : {X : Type 0} (xs : List X) → xs ++ [] ≡ xs
append-nil [] = refl
append-nil (x ∷ xs) = ap (λ ys. x ∷ ys) (append-nil xs)

pub pulses-of_acts : (ws : List DevWord) → pulses (acts_of ws) ≡ pulses_in ws
pulses-of_acts ws = filter_map-append pulse_of_act (map act.Word ws) (act.End ∷ []) ∙ append-nil (pulses (map act.Word ws)) ∙ pulses-of_words ws
