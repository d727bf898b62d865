-- The ops that the agents of a config make have numbers that a report can say.
use Rattle.std.proofs.Common.{◌≡◌, ◌⊎◌, ◌==◌, ◌||◌, ℕ, zero, suc, ◌+◌, ◌<◌, ◌≤◌, Bool, true, false, cond, List, [], ◌∷◌, ◌++◌, length, take, drop, map, filter, filter_map, Some, slice_get, refl, subst, inl, inr, arith}
use Rattle.std.specs.List.{AllByRecursion}
use Rattle.std.proofs.lemmas.Bool.{eqb-true}
use Rattle.mpb_spec.specs.declared.agent.Op.{Op}
use Rattle.mpb_spec.specs.declared.agent.Op.TheVariants as op
use Rattle.mpb_spec.specs.declared.config.DevWord.{DevWord}
use Rattle.mpb_spec.specs.declared.config.DevWord.TheVariants as word
use Rattle.mpb_spec.specs.Plan.{CpuPlan, device_program, op_of_word}
use Rattle.mpb_spec.specs.Configs.{IsCpuPlan, IsOpOn, IsWordOn, is_boot_op, is_script_op, boot_ops}
use Rattle.mpb_spec.specs.declared.pulse.Pulse.{Pulse}
use Rattle.mpb_spec.specs.Pulses.{IsInRange, pulses_in}
use Rattle.mpb_report_line.specs.Values.{IsRightOp}
use Rattle.mpb_report_laws.specs.Values.{IsOpValue}

-- lists of which each item has a property
pub all-both : {X : Type 0} (P Q R : X → Type 0) (xs : List X) → ((x : X) → P x → Q x → R x) → AllByRecursion P xs → AllByRecursion Q xs → AllByRecursion R xs
all-both P Q R [] f p q = tt
all-both P Q R (x ∷ xs) f p q = (f x p.0 q.0, all-both P Q R xs f p.1 q.1)

pub all-follow : {X : Type 0} (P Q : X → Type 0) (xs : List X) → ((x : X) → P x → Q x) → AllByRecursion P xs → AllByRecursion Q xs
all-follow P Q [] f h = tt
all-follow P Q (x ∷ xs) f h = (f x h.0, all-follow P Q xs f h.1)

pub all-append : {X : Type 0} (P : X → Type 0) (xs ys : List X) → AllByRecursion P xs → AllByRecursion P ys → AllByRecursion P (xs ++ ys)
all-append P [] ys p q = q
all-append P (x ∷ xs) ys p q = (p.0, all-append P xs ys p.1 q)

pub all-map : {X Y : Type 0} (P : X → Type 0) (Q : Y → Type 0) (f : X → Y) (xs : List X) → ((x : X) → P x → Q (f x)) → AllByRecursion P xs → AllByRecursion Q (map f xs)
all-map P Q f [] g h = tt
all-map P Q f (x ∷ xs) g h = (g x h.0, all-map P Q f xs g h.1)

pub all-filter : {X : Type 0} (P : X → Type 0) (p : X → Bool) (xs : List X) → AllByRecursion P xs → AllByRecursion P (filter p xs)
all-filter P p [] h = tt
all-filter {X} P p (x ∷ xs) h = go (p x) (all-filter P p xs h.1)
  where
    go : (b : Bool) → AllByRecursion P (filter p xs) → AllByRecursion P (cond {A = List X} b (x ∷ filter p xs) (filter p xs))
    go true rest = (h.0, rest)
    go false rest = rest

pub one-at : {X : Type 0} (P : X → Type 0) (xs : List X) (i : ℕ) (x : X) → AllByRecursion P xs → slice_get xs i ≡ Some x → P x
one-at P [] i x h e = absurd (cc (e))
one-at P (y ∷ xs) zero x h e = let same : y ≡ x = cc in subst P same h.0
one-at P (y ∷ xs) (suc i) x h e = one-at P xs i x h.1 e

pub place-below : {X : Type 0} (xs : List X) (i : ℕ) (x : X) → slice_get xs i ≡ Some x → i < length xs
place-below [] i x e = absurd (cc (e))
place-below (y ∷ xs) zero x e = omega arith
place-below (y ∷ xs) (suc i) x e = let more : i < length xs = place-below xs i x e in omega arith

both-parts : {X : Type 0} (P : X → Type 0) (n : ℕ) (xs : List X) → AllByRecursion P (take n xs) → AllByRecursion P (drop n xs) → AllByRecursion P xs
both-parts P zero xs a b = b
both-parts P (suc n) [] a b = tt
both-parts P (suc n) (x ∷ xs) a b = (a.0, both-parts P n xs a.1 b)

-- an op of a boot program or of a script
one-of : (n : ℕ) → ((n == 0) || (n == 15)) ≡ true → (n ≡ 0) ⊎ (n ≡ 15)
one-of n e = go (n == 0) refl e where
  go : (b : Bool) → (n == 0) ≡ b → (b || (n == 15)) ≡ true → (n ≡ 0) ⊎ (n ≡ 15)
  go true w h = inl (eqb-true n 0 w)
  go false w h = inr (eqb-true n 15 h)

boot-right : (n : ℕ) (o : Op) → n ≤ 4 → is_boot_op o ≡ true → IsOpOn n o → IsOpValue o → IsRightOp o
boot-right n op.Imcr le e on v = tt
boot-right n (op.Warm page) le e on v = v
boot-right n (op.Init d) le e on v = v
boot-right n (op.Startup d page) le e on v = v
boot-right n (op.Check d) le e on v = v
boot-right n (op.Pause t) le e on v = v
boot-right n (op.IoSel a r) le e on v = (omega arith, v.1)
boot-right n (op.IoWin a x) le e on v = (omega arith, v.1)
boot-right n o le e on v = absurd (cc (e))

script-right : (n : ℕ) (o : Op) → n ≤ 4 → is_script_op o ≡ true → IsOpOn n o → IsOpValue o → IsRightOp o
script-right n (op.Ipi d u) le e on v = v
script-right n (op.Ipl d u) le e on v = v
script-right n (op.Nmi d) le e on v = v
script-right n op.Take le e on v = tt
script-right n op.Poll le e on v = tt
script-right n op.Eoi le e on v = tt
script-right n (op.Tpr t) le e on v = v
script-right n (op.Ldr t) le e on v = v
script-right n (op.Dfr t) le e on v = one-of t e
script-right n (op.IoSel a r) le e on v = (omega arith, v.1)
script-right n (op.IoWin a x) le e on v = (omega arith, v.1)
script-right n (op.IoRead a) le e on v = omega arith
script-right n (op.Pause t) le e on v = v
script-right n o le e on v = absurd (cc (e))

-- every op of a processor of a config
pub program_right : (boot boot_len ios page : ℕ) (p : CpuPlan) → ios ≤ 4 → IsCpuPlan boot boot_len ios page p → AllByRecursion IsOpValue p.program → AllByRecursion IsRightOp p.program
program_right boot boot_len ios page p le h v =
    let n : ℕ = boot_ops boot boot_len p in
    let Kind : Op → Type 0 = λ o. (is_boot_op o ≡ true) ⊎ (is_script_op o ≡ true) in
    let kinds : AllByRecursion Kind p.program =
    both-parts Kind n p.program
    (all-follow (λ o. is_boot_op o ≡ true) Kind (take n p.program) (λ o e. inl e) h.starts)
    (all-follow (λ o. is_script_op o ≡ true) Kind (drop n p.program) (λ o e. inr e) h.goes_on)
    in
    let placed : AllByRecursion (λ o. IsOpOn ios o × IsOpValue o) p.program = all-both (IsOpOn ios) IsOpValue (λ o. IsOpOn ios o × IsOpValue o) p.program (λ o a b. (a, b)) h.places v in
    all-both Kind (λ o. IsOpOn ios o × IsOpValue o) IsRightOp p.program (λ o k w. elim k [ inl e ↦ boot-right ios o le e w.0 w.1 | inr e ↦ script-right ios o le e w.0 w.1 ]) kinds placed

-- and of a device
words-right : (n : ℕ) (words : List DevWord) → n ≤ 4 → AllByRecursion (IsWordOn n) words → AllByRecursion IsRightOp (filter_map op_of_word words)
words-right n [] le h = tt
words-right n (word.Pulse a pin ∷ words) le h = words-right n words le h.1
words-right n (word.High a pin ∷ words) le h = let on = h.0 in ((omega (arith, on.0), on.1), words-right n words le h.1)
words-right n (word.Low a pin ∷ words) le h = let on = h.0 in ((omega (arith, on.0), on.1), words-right n words le h.1)

pub device_right : (n : ℕ) (words : List DevWord) → n ≤ 4 → AllByRecursion (IsWordOn n) words → AllByRecursion IsRightOp (device_program words)
device_right n words le h = (tt, all-append IsRightOp (filter_map op_of_word words) (op.End ∷ []) (words-right n words le h) (tt, tt))

-- the pulses of a device are on pins of four I/O APICs
pub pulses_right : (n : ℕ) (words : List DevWord) → n ≤ 4 → AllByRecursion (IsWordOn n) words → AllByRecursion (IsInRange 4) (pulses_in words)
pulses_right n [] le h = tt
pulses_right n (word.Pulse a pin ∷ words) le h = let on = h.0 in ((omega (arith, on.0), on.1), pulses_right n words le h.1)
pulses_right n (word.High a pin ∷ words) le h = pulses_right n words le h.1
pulses_right n (word.Low a pin ∷ words) le h = pulses_right n words le h.1
