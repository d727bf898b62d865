-- The lines of logs are read exactly.
use Rattle.std.proofs.Common.{◌≡◌, ℕ, ◌≤◌, true, List, [], ◌∷◌, ◌++◌, length, sym, refl, ap, ◌∙◌, append_assoc, append-nil, length-append, arith}
use Rattle.std.specs.Prelude.{codes, decimal, Option, Some, None}
use Rattle.std.specs.List.{flat_map}
use Rattle.mpt_line.specs.Reading.{text_in, checked}
use Rattle.mpt_line.proofs.Exact.{IsExact, text_takes, after-exact, both-exact, seen_as-exact, checked-exact, value-exact}
use Rattle.mpb_spec.specs.declared.pulse.Pulse.{Pulse}
use Rattle.mpb_spec.specs.declared.pulse.Hit.{Hit}
use Rattle.mpb_spec.specs.declared.pulse.Hit.TheVariants.{New, Merged}
use Rattle.mpb_spec.specs.Pulses.{IsInRange}
use Rattle.mpb_report_spec.specs.LogLines.{hit_text, pulse_text, pulses_text, log_line}
use Rattle.mpb_report_line.specs.Values.{IsRightLog}
use Rattle.mpb_report_line.specs.Reading.{named, place_in, is_filled, items_in}
use Rattle.mpb_report_line.specs.Forms.{colon, hit_in, pulse_in, pulses_in, log_in}
use Rattle.mpb_report_line.proofs.NumeralLemmas.{BeginsWithNoDigit}
use Rattle.mpb_report_line.proofs.Parts.{retold, IsSound, either-sound, named-sound, Reads, here, next, named-reads, two_halves, named_refuses, place-exact, pin-exact, items-again, items-takes}
use Rattle.std.specs.Prelude.{⊤}

hit-reads : (h : Hit) → ⊤ → Reads hit_text h hit_in
unfolding hit_in text_in
hit-reads New v = here _ (named-reads hit_text (codes "new") New refl)
hit-reads Merged v = next (named (codes "new") New) (λ rest. refl) (named-reads hit_text (codes "merged") Merged refl)

hit-sound : IsSound hit_text (λ h. ⊤) hit_in
unfolding hit_in
hit-sound = either-sound hit_text (λ h. ⊤) _ _ (named-sound hit_text (λ h. ⊤) (codes "new") New refl tt) (named-sound hit_text (λ h. ⊤) (codes "merged") Merged refl tt)

hit-exact : IsExact hit_text (λ h. ⊤) hit_in
hit-exact = two_halves hit_text (λ h. ⊤) hit_in hit-reads hit-sound

equals_free : BeginsWithNoDigit (codes "=")
equals_free = (omega arith, refl)

regroup : (gap io dot pin eq hit : List ℕ) → gap ++ (io ++ (dot ++ (pin ++ (eq ++ (hit ++ []))))) ≡ (gap ++ io) ++ ((dot ++ (pin ++ eq)) ++ hit)
regroup gap io dot pin eq hit = simp (append_assoc, append-nil)

abbrev IsRightPulse : Pulse × Hit → Type 0
IsRightPulse x = IsInRange 4 x.0

pulse-exact : IsExact pulse_text IsRightPulse pulse_in
unfolding pulse_in
pulse-exact =
    value-exact
    (retold
    (seen_as-exact (both-exact (after-exact place-exact (codes " ")) (both-exact (after-exact (pin-exact (codes "=") equals_free) (codes ".")) hit-exact))
    (λ v. (record { io = v.0; pin = v.1.0 }, v.1.1))
    (λ (x : Pulse × Hit). (x.0.io, (x.0.pin, x.1))) (λ _. refl) (λ _. refl))
    pulse_text
    (λ x v. regroup (codes " ") (decimal x.0.io) (codes ".") (decimal x.0.pin) (codes "=") (hit_text x.1)))
    IsRightPulse
    (λ x v. (v.0, v.1.0))
    (λ x v. (v.0, (v.1, tt)))

no_pulse : (rest : List ℕ) → pulse_in (10 ∷ rest) ≡ None
unfolding pulse_in text_in
no_pulse rest = refl

pulse_some : (x : Pulse × Hit) → 1 ≤ length (pulse_text x)
pulse_some x = omega arith

-- there are no more pulses than bytes
pulses_short : (xs : List (Pulse × Hit)) → length xs ≤ length (flat_map pulse_text xs)
pulses_short [] = omega arith
pulses_short (x ∷ xs) = omega (arith, length-append (pulse_text x) (flat_map pulse_text xs), pulse_some x, pulses_short xs)

abbrev some_pulses_in : List ℕ → Option (List (Pulse × Hit) × List ℕ)
some_pulses_in line = items_in pulse_in (length line) (10 ∷ []) line

some-exact : IsExact (λ (xs : List (Pulse × Hit)). flat_map pulse_text xs ++ 10 ∷ []) IsRightLog some_pulses_in
some-exact = record {
  again = λ xs rest v.
      items-again pulse-exact (10 ∷ []) no_pulse (length ((flat_map pulse_text xs ++ 10 ∷ []) ++ rest)) xs rest
      (omega (arith, pulses_short xs, length-append (flat_map pulse_text xs ++ 10 ∷ []) rest, length-append (flat_map pulse_text xs) (10 ∷ []))) v;
  takes = λ line xs rest h. let p = items-takes pulse-exact (10 ∷ []) (length line) line xs rest h in (p.0.1, p.1);
}

-- a log, and the line feed behind it
abbrev log_end : List (Pulse × Hit) → List ℕ
log_end xs = pulses_text xs ++ 10 ∷ []

abbrev filled_in : List ℕ → Option (List (Pulse × Hit) × List ℕ)
filled_in = checked is_filled some_pulses_in

filled-exact : IsExact (λ (xs : List (Pulse × Hit)). flat_map pulse_text xs ++ 10 ∷ []) (λ xs. IsRightLog xs × (is_filled xs ≡ true)) filled_in
filled-exact = checked-exact some-exact is_filled

filled_text : (xs : List (Pulse × Hit)) → is_filled xs ≡ true → log_end xs ≡ flat_map pulse_text xs ++ 10 ∷ []
filled_text [] h = absurd (cc (h))
filled_text (x ∷ xs) h = refl

-- no place is called `none`
none_pulse : (rest : List ℕ) → pulse_in (codes " none\n" ++ rest) ≡ None
unfolding pulse_in text_in place_in
none_pulse rest = refl

not_none : (x : Pulse × Hit) (xs : List (Pulse × Hit)) (rest : List ℕ) → IsRightPulse x → text_in (codes " none\n") ((flat_map pulse_text (x ∷ xs) ++ 10 ∷ []) ++ rest) ≡ None
not_none x xs rest v = at (text_in (codes " none\n") ((flat_map pulse_text (x ∷ xs) ++ 10 ∷ []) ++ rest)) refl
  where
    split : (a b c d : List ℕ) → ((a ++ b) ++ c) ++ d ≡ a ++ (b ++ (c ++ d))
    split a b c d = simp append_assoc

    at : (o : Option (List ℕ)) → text_in (codes " none\n") ((flat_map pulse_text (x ∷ xs) ++ 10 ∷ []) ++ rest) ≡ o → text_in (codes " none\n") ((flat_map pulse_text (x ∷ xs) ++ 10 ∷ []) ++ rest) ≡ None
    at None e = e
    at (Some r) e =
        let tail : List ℕ = flat_map pulse_text xs ++ (10 ∷ [] ++ rest) in
        let whole : (flat_map pulse_text (x ∷ xs) ++ 10 ∷ []) ++ rest ≡ codes " none\n" ++ r = text_takes (codes " none\n") ((flat_map pulse_text (x ∷ xs) ++ 10 ∷ []) ++ rest) r e in
        let read : pulse_in ((flat_map pulse_text (x ∷ xs) ++ 10 ∷ []) ++ rest) ≡ Some (x, tail) = ap pulse_in (split (pulse_text x) (flat_map pulse_text xs) (10 ∷ []) rest) ∙ pulse-exact.again x tail v in
        let both_ways : None ≡ Some (x, tail) = sym (none_pulse r) ∙ ap pulse_in (sym whole) ∙ read in
        absurd (cc (both_ways))

log_end-reads : (xs : List (Pulse × Hit)) → IsRightLog xs → Reads log_end xs pulses_in
unfolding pulses_in
log_end-reads [] v = here _ (named-reads log_end (codes " none\n") [] refl)
log_end-reads (x ∷ xs) v = next (named (codes " none\n") []) (λ rest. named_refuses (codes " none\n") [] (log_end (x ∷ xs) ++ rest) (not_none x xs rest v.0)) (record { reads = λ rest. filled-exact.again (x ∷ xs) rest (v, refl) })

log_end-sound : IsSound log_end IsRightLog pulses_in
unfolding pulses_in
log_end-sound = either-sound log_end IsRightLog _ _ (named-sound log_end IsRightLog (codes " none\n") [] refl tt)
    (λ line xs rest h. (let p = filled-exact.takes line xs rest h in (p.0.0, p.1 ∙ ap (λ x. x ++ rest) (sym (filled_text xs p.0.1)))))

log_end-exact : IsExact log_end IsRightLog pulses_in
log_end-exact = two_halves log_end IsRightLog pulses_in log_end-reads log_end-sound

regroup_log : (word d c xs end : List ℕ) → word ++ (d ++ (c ++ (xs ++ end))) ≡ word ++ ((d ++ c) ++ (xs ++ end))
regroup_log word d c xs end = simp append_assoc

pub log-exact : (d : ℕ) → IsExact (log_line d) IsRightLog (log_in d)
unfolding log_in
log-exact d =
    retold (after-exact (after-exact log_end-exact (decimal d ++ colon)) (codes "log ")) (log_line d)
    (λ xs v. regroup_log (codes "log ") (decimal d) (codes " :") (pulses_text xs) (10 ∷ []))
