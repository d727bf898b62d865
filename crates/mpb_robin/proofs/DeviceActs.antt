-- What a device does: its ops are its program, its pulses are those of its words, and it ends with an op.
use Rattle.std.proofs.Common.{◌≡◌, ◌==◌, ℕ, suc, ◌+◌, ◌<◌, ◌≤◌, ◌&&◌, cond, List, [], ◌∷◌, ◌++◌, length, map, get_or, take, refl, sym, ap, ap₂, ◌∙◌, arith, Option, Some, None, slice_get, sum_by, count_by, inl, inr}
use Rattle.std.specs.List.{filter_map}
use Rattle.std.proofs.lemmas.Bool.{eq-eqb, ne_eqb, cases_eq, cases_lt}
use Rattle.std.proofs.lemmas.List.{length-take, take_all}
use Rattle.std.proofs.lemmas.List.Sums.{sum_by-cons, sum_by-take-le}
use Rattle.mpb_spec.specs.declared.agent.Op.{Op}
use Rattle.mpb_spec.specs.declared.config.DevWord.{DevWord}
use Rattle.mpb_spec.specs.declared.config.DevWord.TheVariants as word
use Rattle.mpb_spec.specs.State.{Device}
use Rattle.mpb_spec.proofs.Planned.{pulses_on}
use Rattle.mpb_spec.specs.declared.pulse.Pulse.{Pulse}
use Rattle.mpb_spec.specs.declared.pulse.Hit.{Hit}
use Rattle.mpb_spec.specs.Pulses.{is_on, pulses_of, new_hits_in, hits, pulses_in}
use Rattle.mpb_spec.proofs.Logs.{news-le-hits}
use Rattle.mpb_robin.specs.declared.act.Act.{Act}
use Rattle.mpb_robin.specs.declared.act.Act.TheVariants as act
use Rattle.mpb_robin.specs.RoundRobin.{acts_of}
use Rattle.mpb_robin.specs.Rest.{op_of_act, pulse_of_act, IsDeviceRun}
use Rattle.mpb_robin.proofs.Places.{is-there}
use Rattle.mpb_robin.proofs.Acts.{op-at, op-left, pulses-of_acts}

-- sums of two lists, member by member
pub sums-le : {X Y : Type 0} (f : X → ℕ) (g : Y → ℕ) (xs : List X) (ys : List Y) (d : X) (e : Y) → length xs ≡ length ys → ((k : ℕ) → k < length xs → f (get_or xs k d) ≤ g (get_or ys k e)) → sum_by f xs ≤ sum_by g ys
sums-le f g [] ys d e same each = omega arith
sums-le f g (x ∷ xs) [] d e same each = absurd (omega arith)
sums-le f g (x ∷ xs) (y ∷ ys) d e same each =
    let rest = sums-le f g xs ys d e (omega (arith, same)) (λ k lt. each (suc k) (omega (arith, lt))) in
    rw (sum_by-cons f x xs, sum_by-cons g y ys) (omega (arith, rest, each 0 (omega arith)))

-- ---- pulses

-- how many pulses an act is on the pin
abbrev act_hits : ℕ → ℕ → Act → ℕ
act_hits a pin act.Begin = 0
act_hits a pin (act.Word w) = pulses_on a pin w
act_hits a pin act.End = 0

abbrev hit : ℕ → ℕ → Pulse → ℕ
hit a pin p = cond (is_on a pin p) 1 0

hit-is : (a pin b p : ℕ) → hit a pin (record { io = b; pin = p }) ≡ pulses_on a pin (word.Pulse b p)
hit-is a pin b p = refl

acts-hits : (a pin : ℕ) (xs : List Act) → count_by (is_on a pin) (filter_map pulse_of_act xs) ≡ sum_by (act_hits a pin) xs
acts-hits a pin [] = refl
acts-hits a pin (act.Begin ∷ xs) = rw (sum_by-cons (act_hits a pin) act.Begin xs) (omega (arith, acts-hits a pin xs))
acts-hits a pin (act.End ∷ xs) = rw (sum_by-cons (act_hits a pin) act.End xs) (omega (arith, acts-hits a pin xs))
acts-hits a pin (act.Word (word.Pulse b p) ∷ xs) =
    rw (sum_by-cons (hit a pin) (record { io = b; pin = p }) (filter_map pulse_of_act xs), sum_by-cons (act_hits a pin) (act.Word (word.Pulse b p)) xs)
    (omega (arith, hit-is a pin b p, acts-hits a pin xs))
acts-hits a pin (act.Word (word.High b p) ∷ xs) = rw (sum_by-cons (act_hits a pin) (act.Word (word.High b p)) xs) (omega (arith, acts-hits a pin xs))
acts-hits a pin (act.Word (word.Low b p) ∷ xs) = rw (sum_by-cons (act_hits a pin) (act.Word (word.Low b p)) xs) (omega (arith, acts-hits a pin xs))

words-hits : (a pin : ℕ) (ws : List DevWord) → sum_by (act_hits a pin) (map act.Word ws ++ act.End ∷ []) ≡ sum_by (pulses_on a pin) ws
words-hits a pin [] = refl
words-hits a pin (w ∷ ws) = rw (sum_by-cons (act_hits a pin) (act.Word w) (map act.Word ws ++ act.End ∷ []), sum_by-cons (pulses_on a pin) w ws) (omega (arith, words-hits a pin ws))

program-hits : (a pin : ℕ) (ws : List DevWord) → sum_by (act_hits a pin) (acts_of ws) ≡ sum_by (pulses_on a pin) ws
program-hits a pin ws = rw (sum_by-cons (act_hits a pin) act.Begin (map act.Word ws ++ act.End ∷ [])) (omega (arith, words-hits a pin ws))

log-hits : (a pin : ℕ) (log : List (Pulse × Hit)) → hits a pin log ≡ count_by (is_on a pin) (pulses_of log)
log-hits a pin [] = refl
log-hits a pin (x ∷ xs) = rw (sum_by-cons (λ (y : Pulse × Hit). hit a pin y.0) x xs, sum_by-cons (hit a pin) x.0 (pulses_of xs)) (omega (arith, log-hits a pin xs))

-- a device has no more hits on a pin than its words have pulses there
pub hits-le-planned : (a pin n : ℕ) (ws : List DevWord) (log : List (Pulse × Hit)) (v : Device) → IsDeviceRun (acts_of ws) n log v → new_hits_in a pin log ≤ sum_by (pulses_on a pin) ws
hits-le-planned a pin n ws log v is =
    let same : count_by (is_on a pin) (pulses_of log) ≡ count_by (is_on a pin) (filter_map pulse_of_act (take n (acts_of ws))) = ap (λ (l : List Pulse). count_by (is_on a pin) l) is.pulses in
    omega (arith, news-le-hits a pin log, log-hits a pin log, same, acts-hits a pin (take n (acts_of ws)), sum_by-take-le (act_hits a pin) (acts_of ws) n, program-hits a pin ws)

-- ---- lengths

filtered-le : {X Y : Type 0} (f : X → Option Y) (xs : List X) → length (filter_map f xs) ≤ length xs
filtered-le f [] = omega arith
filtered-le {X = X} {Y = Y} f (x ∷ xs) = go (f x) (filtered-le f xs) where
  go : (o : Option Y) → length (filter_map f xs) ≤ length xs → length (Rattle.std.specs.List.cons_option o (filter_map f xs)) ≤ suc (length xs)
  go None h = omega (arith, h)
  go (Some y) h = omega (arith, h)

words-long : (ws : List DevWord) → length (map act.Word ws ++ act.End ∷ []) ≡ length ws + 1
words-long [] = refl
words-long (w ∷ ws) = omega (arith, words-long ws)

pub acts-long : (ws : List DevWord) → length (acts_of ws) ≡ length ws + 2
acts-long ws = omega (arith, words-long ws)

log-long : (log : List (Pulse × Hit)) → length (pulses_of log) ≡ length log
log-long [] = refl
log-long (x ∷ xs) = ap suc (log-long xs)

-- a log is no longer than its device's words, Begin and End
pub log-le : (n : ℕ) (ws : List DevWord) (log : List (Pulse × Hit)) (v : Device) → IsDeviceRun (acts_of ws) n log v → length log ≤ length ws + 2
log-le n ws log v is =
    let same : length (pulses_of log) ≡ length (filter_map pulse_of_act (take n (acts_of ws))) = ap (λ (l : List Pulse). length l) is.pulses in
    omega (arith, log-long log, same, filtered-le pulse_of_act (take n (acts_of ws)), length-take n (acts_of ws), acts-long ws)

-- ---- ops

-- the next act, where it is an op, is the next op
pub next_op_is : (acts : List Act) (n : ℕ) (log : List (Pulse × Hit)) (v : Device) (x : Act) (o : Op) → IsDeviceRun acts n log v → slice_get acts n ≡ Some x → op_of_act x ≡ Some o → slice_get v.program v.position ≡ Some o
next_op_is acts n log v x o is at op = rw (is.program, is.position) (op-at acts n x o at op)

-- a device that has done all its acts is at its end
pub done_is_over : (acts : List Act) (n : ℕ) (log : List (Pulse × Hit)) (v : Device) → IsDeviceRun acts n log v → length acts ≤ n → v.position ≡ length v.program
done_is_over acts n log v is le = rw (is.program, is.position, take_all n acts le) refl

-- and one at its end has done them all, since where an act is left, an op is left
pub over_is_done : (ws : List DevWord) (n : ℕ) (log : List (Pulse × Hit)) (v : Device) → IsDeviceRun (acts_of ws) n log v → length v.program ≤ v.position → n ≡ length (acts_of ws)
over_is_done ws n log v is over = elim (cases_lt n (length (acts_of ws))) [
  | inl lt ↦
      let x = is-there n (acts_of ws) lt in
      absurd (omega (arith, op-left ws n x.0 x.1, ap (λ (l : List Op). length l) is.program, is.position, over))
  | inr le ↦ omega (arith, le, is.within)
]

-- then its log has all pulses of its words
pub done_has_all : (ws : List DevWord) (n : ℕ) (log : List (Pulse × Hit)) (v : Device) → IsDeviceRun (acts_of ws) n log v → n ≡ length (acts_of ws) → pulses_of log ≡ pulses_in ws
done_has_all ws n log v is all = is.pulses ∙ ap (λ (l : List Act). filter_map pulse_of_act l) (take_all n (acts_of ws) (omega (arith, all))) ∙ pulses-of_acts ws
