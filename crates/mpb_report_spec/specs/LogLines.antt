-- The line of a device's log, this project's own: its pulses, each with the latch's answer.
--     pulse_text x      a pulse and its answer, after a space
--     pulses_text log   all of them, or that there is none
--     log_line d log    the line of device d
use Rattle.std.specs.Prelude.{ℕ, List, [], ◌∷◌, codes, decimal}
use Rattle.std.specs.List.{concat, flat_map}
use Rattle.mpt_listing.specs.Listing.{line}
use Rattle.mpb_spec.specs.declared.pulse.Pulse.{Pulse}
use Rattle.mpb_spec.specs.declared.pulse.Hit.{Hit}
use Rattle.mpb_spec.specs.declared.pulse.Hit.TheVariants.{New, Merged}

-- what the latch answered
abbrev pub hit_text : Hit → List ℕ
hit_text New = codes "new"
hit_text Merged = codes "merged"

-- a pulse after a space: the place of its I/O APIC, its pin, and the answer
abbrev pub pulse_text : Pulse × Hit → List ℕ
pulse_text x = concat (codes " " ∷ decimal x.0.io ∷ codes "." ∷ decimal x.0.pin ∷ codes "=" ∷ hit_text x.1 ∷ [])

-- the pulses of a log, in order
abbrev pub pulses_text : List (Pulse × Hit) → List ℕ
pulses_text [] = codes " none"
pulses_text (x ∷ xs) = flat_map pulse_text (x ∷ xs)

-- the line of device d, counted from 0
abbrev pub log_line : ℕ → List (Pulse × Hit) → List ℕ
log_line d log = line (codes "log " ∷ decimal d ∷ codes " :" ∷ pulses_text log ∷ [])
