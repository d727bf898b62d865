-- The pulses that devices plan on a pin, word by word.
use Rattle.std.proofs.Common.{◌≡◌, ℕ, ◌+◌, List, [], ◌∷◌, map, sum_by, refl, sym, ap, ◌∙◌, arith}
use Rattle.std.proofs.lemmas.List.Sums.{sum_by-cons}
use Rattle.mpb_spec.specs.declared.config.DevWord.{DevWord}
use Rattle.mpb_spec.specs.declared.config.DevWord.TheVariants as word
use Rattle.mpb_spec.specs.declared.pulse.Pulse.{Pulse}
use Rattle.mpb_spec.specs.Lists.{one_if}
use Rattle.mpb_spec.specs.Pulses.{is_on, planned_in, planned, pulses_in}

-- 1 where the word is a pulse on the pin
abbrev pub pulses_on : ℕ → ℕ → DevWord → ℕ
pulses_on a pin (word.Pulse b p) = one_if (is_on a pin (record { io = b; pin = p }))
pulses_on a pin (word.High b p) = 0
pulses_on a pin (word.Low b p) = 0

-- what all devices plan there
abbrev pub planned_by : List (List DevWord) → ℕ → ℕ → ℕ
planned_by devices a pin = planned a pin (map pulses_in devices)

one_more : (a pin b p : ℕ) (ps : List Pulse) → planned_in a pin (record { io = b; pin = p } ∷ ps) ≡ one_if (is_on a pin (record { io = b; pin = p })) + planned_in a pin ps
one_more a pin b p ps = sum_by-cons (λ (q : Pulse). one_if (is_on a pin q)) (record { io = b; pin = p }) ps

pub planned_by_words : (a pin : ℕ) (ws : List DevWord) → planned_in a pin (pulses_in ws) ≡ sum_by (pulses_on a pin) ws
planned_by_words a pin [] = refl
planned_by_words a pin (word.Pulse b p ∷ ws) = omega (arith, one_more a pin b p (pulses_in ws), sum_by-cons (pulses_on a pin) (word.Pulse b p) ws, planned_by_words a pin ws)
planned_by_words a pin (word.High b p ∷ ws) = omega (arith, sum_by-cons (pulses_on a pin) (word.High b p) ws, planned_by_words a pin ws)
planned_by_words a pin (word.Low b p ∷ ws) = omega (arith, sum_by-cons (pulses_on a pin) (word.Low b p) ws, planned_by_words a pin ws)

-- one device more
pub planned_by_more : (a pin : ℕ) (ws : List DevWord) (ds : List (List DevWord)) → planned_by (ws ∷ ds) a pin ≡ sum_by (pulses_on a pin) ws + planned_by ds a pin
planned_by_more a pin ws ds = omega (arith, sum_by-cons (planned_in a pin) (pulses_in ws) (map pulses_in ds), planned_by_words a pin ws)

pub planned_by_devices : (a pin : ℕ) (ds : List (List DevWord)) → planned_by ds a pin ≡ sum_by (λ ws. sum_by (pulses_on a pin) ws) ds
planned_by_devices a pin [] = refl
planned_by_devices a pin (ws ∷ ds) = omega (arith, planned_by_more a pin ws ds, sum_by-cons (λ (vs : List DevWord). sum_by (pulses_on a pin) vs) ws ds, planned_by_devices a pin ds)
