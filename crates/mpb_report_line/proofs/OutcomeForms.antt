-- Outcomes are read exactly.
use Rattle.std.proofs.Common.{◌≡◌, ℕ, ◌^◌, ◌<◌, ◌≤◌, Bool, true, false, cond, List, [], ◌∷◌, ◌++◌, length, sym, refl, ap, ◌∙◌, subst, append_assoc}
use Rattle.std.specs.Prelude.{codes, Option, None, ⊤}
use Rattle.std.specs.List.{concat, flat_map, AllByRecursion}
use Rattle.std.proofs.lemmas.Bool.{false≢true}
use Rattle.mpt_listing.specs.Listing.{hex}
use Rattle.mpt_line.specs.Reading.{text_in, digit_in, hex_in, field_in, after, both, either, seen_as}
use Rattle.mpt_line.proofs.Exact.{IsExact, after-exact, both-exact, checked-exact, value-exact}
use Rattle.mpt_line.proofs.Digits.{hex-exact, field-exact}
use Rattle.mpb_spec.specs.declared.entry.Outcome.{Outcome}
use Rattle.mpb_spec.specs.declared.entry.What.{What}
use Rattle.mpb_spec.specs.declared.entry.What.TheVariants as what
use Rattle.mpb_report_spec.specs.EntryLines.{trigger_text, what_text, has_target, outcome_text, further_outcome}
use Rattle.mpb_report_line.specs.Values.{IsRightWhat, IsRightTarget, IsRightOutcome}
use Rattle.mpb_report_line.specs.Reading.{before, named, is_filled}
use Rattle.mpb_report_line.specs.Forms.{target_word_in, target_what_in, trigger_in, bare_word_in, bare_what_in, outcome_in, outcomes_in}
use Rattle.mpb_report_line.proofs.Parts.{before-exact, retold, IsSound, either-sound, named-sound, tagged-sound, Reads, here, next, named-reads, tagged-reads, two_halves, before_refuses, both_refuses, seen_refuses, concat-2, concat-3, concat-4, items-exact}

-- a number behind a word
word-exact : (word : List ℕ) (k : ℕ) → IsExact (λ n. concat (word ∷ hex k n ∷ [])) (λ n. n < 16 ^ k) (field_in word k)
word-exact word k = retold (field-exact word k) (λ n. concat (word ∷ hex k n ∷ [])) (λ n v. concat-2 word (hex k n))

-- what came of an op at a target
abbrev IsTargetWhat : What → Type 0
IsTargetWhat w = (has_target w ≡ true) × IsRightWhat w

target : (text : List ℕ) (w : What) → what_text w ≡ text → Reads what_text w (named text w)
target text w same = named-reads what_text text w same

target-reads : (w : What) → IsTargetWhat w → Reads what_text w target_what_in
unfolding target_what_in target_word_in field_in text_in hex_in digit_in
target-reads what.Set v = here _ (here _ (target (codes "set") what.Set refl))
target-reads what.Merged v = here _ (next (named (codes "set") what.Set) (λ rest. refl) (here _ (target (codes "merged") what.Merged refl)))
target-reads what.Illegal v = here _ (next (named (codes "set") what.Set) (λ rest. refl) (next (named (codes "merged") what.Merged) (λ rest. refl) (here _ (target (codes "illegal") what.Illegal refl))))
target-reads what.Asleep v = here _ (next (named (codes "set") what.Set) (λ rest. refl) (next (named (codes "merged") what.Merged) (λ rest. refl) (next (named (codes "illegal") what.Illegal) (λ rest. refl) (here _ (target (codes "asleep") what.Asleep refl)))))
target-reads what.Absent v = here _ (next (named (codes "set") what.Set) (λ rest. refl) (next (named (codes "merged") what.Merged) (λ rest. refl) (next (named (codes "illegal") what.Illegal) (λ rest. refl) (next (named (codes "asleep") what.Asleep) (λ rest. refl) (here _ (target (codes "absent") what.Absent refl))))))
target-reads what.Waiting v = here _ (next (named (codes "set") what.Set) (λ rest. refl) (next (named (codes "merged") what.Merged) (λ rest. refl) (next (named (codes "illegal") what.Illegal) (λ rest. refl) (next (named (codes "asleep") what.Asleep) (λ rest. refl) (next (named (codes "absent") what.Absent) (λ rest. refl) (here _ (target (codes "waiting") what.Waiting refl)))))))
target-reads what.Ignored v = here _ (next (named (codes "set") what.Set) (λ rest. refl) (next (named (codes "merged") what.Merged) (λ rest. refl) (next (named (codes "illegal") what.Illegal) (λ rest. refl) (next (named (codes "asleep") what.Asleep) (λ rest. refl) (next (named (codes "absent") what.Absent) (λ rest. refl) (next (named (codes "waiting") what.Waiting) (λ rest. refl) (here _ (target (codes "ignored") what.Ignored refl))))))))
target-reads what.Nmi v = here _ (next (named (codes "set") what.Set) (λ rest. refl) (next (named (codes "merged") what.Merged) (λ rest. refl) (next (named (codes "illegal") what.Illegal) (λ rest. refl) (next (named (codes "asleep") what.Asleep) (λ rest. refl) (next (named (codes "absent") what.Absent) (λ rest. refl) (next (named (codes "waiting") what.Waiting) (λ rest. refl) (next (named (codes "ignored") what.Ignored) (λ rest. refl) (here _ (target (codes "nmi") what.Nmi refl)))))))))
target-reads what.Passed v = here _ (next (named (codes "set") what.Set) (λ rest. refl) (next (named (codes "merged") what.Merged) (λ rest. refl) (next (named (codes "illegal") what.Illegal) (λ rest. refl) (next (named (codes "asleep") what.Asleep) (λ rest. refl) (next (named (codes "absent") what.Absent) (λ rest. refl) (next (named (codes "waiting") what.Waiting) (λ rest. refl) (next (named (codes "ignored") what.Ignored) (λ rest. refl) (next (named (codes "nmi") what.Nmi) (λ rest. refl) (target (codes "passed") what.Passed refl)))))))))
target-reads (what.Started p) v = next (target_word_in) (λ rest. refl) (here _ (tagged-reads (word-exact (codes "started.") 2) what_text what.Started p refl v.1))
target-reads (what.Runs p) v = next (target_word_in) (λ rest. refl) (next (seen_as what.Started (field_in (codes "started.") 2)) (λ rest. refl) (here _ (tagged-reads (word-exact (codes "runs.") 2) what_text what.Runs p refl v.1)))
target-reads what.RunsFirst v = next (target_word_in) (λ rest. refl) (next (seen_as what.Started (field_in (codes "started.") 2)) (λ rest. refl) (next (seen_as what.Runs (field_in (codes "runs.") 2)) (λ rest. refl) (target (codes "runs.first") what.RunsFirst refl)))
target-reads what.Done v = absurd (false≢true v.0)
target-reads what.Unheard v = absurd (false≢true v.0)
target-reads what.Nothing v = absurd (false≢true v.0)
target-reads what.Plain v = absurd (false≢true v.0)
target-reads what.Due v = absurd (false≢true v.0)
target-reads what.Withdrawn v = absurd (false≢true v.0)
target-reads (what.Taken n) v = absurd (false≢true v.0)
target-reads (what.Ended n l) v = absurd (false≢true v.0)
target-reads (what.Read n) v = absurd (false≢true v.0)
target-reads (what.Pins n m) v = absurd (false≢true v.0)

target_word-sound : IsSound what_text IsTargetWhat target_word_in
unfolding target_word_in
target_word-sound =
    either-sound what_text IsTargetWhat _ _ (named-sound what_text IsTargetWhat (codes "set") what.Set refl (refl, tt))
    (either-sound what_text IsTargetWhat _ _ (named-sound what_text IsTargetWhat (codes "merged") what.Merged refl (refl, tt))
    (either-sound what_text IsTargetWhat _ _ (named-sound what_text IsTargetWhat (codes "illegal") what.Illegal refl (refl, tt))
    (either-sound what_text IsTargetWhat _ _ (named-sound what_text IsTargetWhat (codes "asleep") what.Asleep refl (refl, tt))
    (either-sound what_text IsTargetWhat _ _ (named-sound what_text IsTargetWhat (codes "absent") what.Absent refl (refl, tt))
    (either-sound what_text IsTargetWhat _ _ (named-sound what_text IsTargetWhat (codes "waiting") what.Waiting refl (refl, tt))
    (either-sound what_text IsTargetWhat _ _ (named-sound what_text IsTargetWhat (codes "ignored") what.Ignored refl (refl, tt))
    (either-sound what_text IsTargetWhat _ _ (named-sound what_text IsTargetWhat (codes "nmi") what.Nmi refl (refl, tt))
    (named-sound what_text IsTargetWhat (codes "passed") what.Passed refl (refl, tt)))))))))

target-sound : IsSound what_text IsTargetWhat target_what_in
unfolding target_what_in
target-sound =
    either-sound what_text IsTargetWhat _ _ (target_word-sound)
    (either-sound what_text IsTargetWhat _ _ (tagged-sound (word-exact (codes "started.") 2) what_text IsTargetWhat what.Started (λ a v. refl) (λ a v. (refl, v)))
    (either-sound what_text IsTargetWhat _ _ (tagged-sound (word-exact (codes "runs.") 2) what_text IsTargetWhat what.Runs (λ a v. refl) (λ a v. (refl, v)))
    (named-sound what_text IsTargetWhat (codes "runs.first") what.RunsFirst refl (refl, tt))))

target-exact : IsExact what_text IsTargetWhat target_what_in
target-exact = two_halves what_text IsTargetWhat target_what_in target-reads target-sound

-- how an interrupt was triggered
trigger-reads : (b : Bool) → ⊤ → Reads trigger_text b trigger_in
unfolding trigger_in text_in
trigger-reads false v = here _ (named-reads trigger_text (codes "edge") false refl)
trigger-reads true v = next (named (codes "edge") false) (λ rest. refl) (named-reads trigger_text (codes "level") true refl)

trigger-exact : IsExact trigger_text (λ b. ⊤) trigger_in
unfolding trigger_in
trigger-exact = two_halves trigger_text (λ b. ⊤) (either (named (codes "edge") false) (named (codes "level") true)) trigger-reads
    (either-sound trigger_text (λ b. ⊤) _ _ (named-sound trigger_text (λ b. ⊤) (codes "edge") false refl tt) (named-sound trigger_text (λ b. ⊤) (codes "level") true refl tt))

-- what came of it without one
abbrev IsBareWhat : What → Type 0
IsBareWhat w = (has_target w ≡ false) × IsRightWhat w

ended-exact : IsExact (λ (v : ℕ × Bool). concat (codes "ended." ∷ hex 2 v.0 ∷ codes "." ∷ trigger_text v.1 ∷ [])) (λ v. v.0 < 256) (both (field_in (codes "ended.") 2) (after (codes ".") trigger_in))
ended-exact =
    value-exact
    (retold (both-exact (field-exact (codes "ended.") 2) (after-exact trigger-exact (codes "."))) (λ (v : ℕ × Bool). concat (codes "ended." ∷ hex 2 v.0 ∷ codes "." ∷ trigger_text v.1 ∷ []))
    (λ v _. concat-4 (codes "ended.") (hex 2 v.0) (codes ".") (trigger_text v.1) ∙ sym (append_assoc (codes "ended.") (hex 2 v.0) (codes "." ++ trigger_text v.1))))
    (λ v. v.0 < 256) (λ v w. w.0) (λ v w. (w, tt))

pins-exact : IsExact (λ (v : ℕ × ℕ). concat (codes "pins." ∷ hex 6 v.0 ∷ codes "." ∷ hex 6 v.1 ∷ [])) (λ v. (v.0 < 16 ^ 6) × (v.1 < 16 ^ 6)) (both (field_in (codes "pins.") 6) (field_in (codes ".") 6))
pins-exact =
    retold (both-exact (field-exact (codes "pins.") 6) (field-exact (codes ".") 6)) (λ (v : ℕ × ℕ). concat (codes "pins." ∷ hex 6 v.0 ∷ codes "." ∷ hex 6 v.1 ∷ []))
    (λ v _. concat-4 (codes "pins.") (hex 6 v.0) (codes ".") (hex 6 v.1) ∙ sym (append_assoc (codes "pins.") (hex 6 v.0) (codes "." ++ hex 6 v.1)))

bare-reads : (w : What) → IsBareWhat w → Reads what_text w bare_what_in
unfolding bare_what_in bare_word_in field_in text_in
bare-reads what.Done v = here _ (here _ (target (codes "done") what.Done refl))
bare-reads what.Unheard v = here _ (next (named (codes "done") what.Done) (λ rest. refl) (here _ (target (codes "unheard") what.Unheard refl)))
bare-reads what.Nothing v = here _ (next (named (codes "done") what.Done) (λ rest. refl) (next (named (codes "unheard") what.Unheard) (λ rest. refl) (here _ (target (codes "nothing") what.Nothing refl))))
bare-reads what.Plain v = here _ (next (named (codes "done") what.Done) (λ rest. refl) (next (named (codes "unheard") what.Unheard) (λ rest. refl) (next (named (codes "nothing") what.Nothing) (λ rest. refl) (here _ (target (codes "plain") what.Plain refl)))))
bare-reads what.Due v = here _ (next (named (codes "done") what.Done) (λ rest. refl) (next (named (codes "unheard") what.Unheard) (λ rest. refl) (next (named (codes "nothing") what.Nothing) (λ rest. refl) (next (named (codes "plain") what.Plain) (λ rest. refl) (here _ (target (codes "due") what.Due refl))))))
bare-reads what.Withdrawn v = here _ (next (named (codes "done") what.Done) (λ rest. refl) (next (named (codes "unheard") what.Unheard) (λ rest. refl) (next (named (codes "nothing") what.Nothing) (λ rest. refl) (next (named (codes "plain") what.Plain) (λ rest. refl) (next (named (codes "due") what.Due) (λ rest. refl) (target (codes "withdrawn") what.Withdrawn refl))))))
bare-reads (what.Taken n) v = next (bare_word_in) (λ rest. refl) (here _ (tagged-reads (word-exact (codes "taken.") 2) what_text what.Taken n refl v.1))
bare-reads (what.Read n) v = next (bare_word_in) (λ rest. refl) (next (seen_as what.Taken (field_in (codes "taken.") 2)) (λ rest. refl) (here _ (tagged-reads (word-exact (codes "read.") 8) what_text what.Read n refl v.1)))
bare-reads (what.Ended n l) v = next (bare_word_in) (λ rest. refl) (next (seen_as what.Taken (field_in (codes "taken.") 2)) (λ rest. refl) (next (seen_as what.Read (field_in (codes "read.") 8)) (λ rest. refl) (here _ (tagged-reads ended-exact what_text (λ v. what.Ended v.0 v.1) (n, l) refl v.1))))
bare-reads (what.Pins n m) v = next (bare_word_in) (λ rest. refl) (next (seen_as what.Taken (field_in (codes "taken.") 2)) (λ rest. refl) (next (seen_as what.Read (field_in (codes "read.") 8)) (λ rest. refl) (next (seen_as (λ v. what.Ended v.0 v.1) (both (field_in (codes "ended.") 2) (after (codes ".") trigger_in))) (λ rest. refl) (tagged-reads pins-exact what_text (λ v. what.Pins v.0 v.1) (n, m) refl v.1))))
bare-reads what.Set v = absurd (false≢true (sym v.0))
bare-reads what.Merged v = absurd (false≢true (sym v.0))
bare-reads what.Illegal v = absurd (false≢true (sym v.0))
bare-reads what.Asleep v = absurd (false≢true (sym v.0))
bare-reads what.Absent v = absurd (false≢true (sym v.0))
bare-reads what.Waiting v = absurd (false≢true (sym v.0))
bare-reads what.Ignored v = absurd (false≢true (sym v.0))
bare-reads what.Nmi v = absurd (false≢true (sym v.0))
bare-reads what.Passed v = absurd (false≢true (sym v.0))
bare-reads what.RunsFirst v = absurd (false≢true (sym v.0))
bare-reads (what.Started p) v = absurd (false≢true (sym v.0))
bare-reads (what.Runs p) v = absurd (false≢true (sym v.0))

bare_word-sound : IsSound what_text IsBareWhat bare_word_in
unfolding bare_word_in
bare_word-sound =
    either-sound what_text IsBareWhat _ _ (named-sound what_text IsBareWhat (codes "done") what.Done refl (refl, tt))
    (either-sound what_text IsBareWhat _ _ (named-sound what_text IsBareWhat (codes "unheard") what.Unheard refl (refl, tt))
    (either-sound what_text IsBareWhat _ _ (named-sound what_text IsBareWhat (codes "nothing") what.Nothing refl (refl, tt))
    (either-sound what_text IsBareWhat _ _ (named-sound what_text IsBareWhat (codes "plain") what.Plain refl (refl, tt))
    (either-sound what_text IsBareWhat _ _ (named-sound what_text IsBareWhat (codes "due") what.Due refl (refl, tt))
    (named-sound what_text IsBareWhat (codes "withdrawn") what.Withdrawn refl (refl, tt))))))

bare-sound : IsSound what_text IsBareWhat bare_what_in
unfolding bare_what_in
bare-sound =
    either-sound what_text IsBareWhat _ _ (bare_word-sound)
    (either-sound what_text IsBareWhat _ _ (tagged-sound (word-exact (codes "taken.") 2) what_text IsBareWhat what.Taken (λ a v. refl) (λ a v. (refl, v)))
    (either-sound what_text IsBareWhat _ _ (tagged-sound (word-exact (codes "read.") 8) what_text IsBareWhat what.Read (λ a v. refl) (λ a v. (refl, v)))
    (either-sound what_text IsBareWhat _ _ (tagged-sound ended-exact what_text IsBareWhat (λ v. what.Ended v.0 v.1) (λ a v. refl) (λ a v. (refl, v)))
    (tagged-sound pins-exact what_text IsBareWhat (λ v. what.Pins v.0 v.1) (λ a v. refl) (λ a v. (refl, v))))))

bare-exact : IsExact what_text IsBareWhat bare_what_in
bare-exact = two_halves what_text IsBareWhat bare_what_in bare-reads bare-sound

-- no word begins with a digit
no_hex : (w : What) (rest : List ℕ) → has_target w ≡ false → hex_in 2 (what_text w ++ rest) ≡ None
unfolding hex_in digit_in
no_hex what.Done rest h = refl
no_hex what.Unheard rest h = refl
no_hex what.Nothing rest h = refl
no_hex what.Plain rest h = refl
no_hex what.Due rest h = refl
no_hex what.Withdrawn rest h = refl
no_hex (what.Taken n) rest h = refl
no_hex (what.Read n) rest h = refl
no_hex (what.Ended n l) rest h = refl
no_hex (what.Pins n m) rest h = refl
no_hex what.Set rest h = absurd (false≢true (sym h))
no_hex what.Merged rest h = absurd (false≢true (sym h))
no_hex what.Illegal rest h = absurd (false≢true (sym h))
no_hex what.Asleep rest h = absurd (false≢true (sym h))
no_hex what.Absent rest h = absurd (false≢true (sym h))
no_hex what.Waiting rest h = absurd (false≢true (sym h))
no_hex what.Ignored rest h = absurd (false≢true (sym h))
no_hex what.Nmi rest h = absurd (false≢true (sym h))
no_hex what.Passed rest h = absurd (false≢true (sym h))
no_hex what.RunsFirst rest h = absurd (false≢true (sym h))
no_hex (what.Started p) rest h = absurd (false≢true (sym h))
no_hex (what.Runs p) rest h = absurd (false≢true (sym h))

-- an outcome, with its target and without one
abbrev at_target : ℕ × What → Outcome
at_target v = record { at = v.0; what = v.1 }

abbrev at_none : What → Outcome
at_none w = record { at = 0; what = w }

abbrev two_in : List ℕ → Option (Outcome × List ℕ)
two_in = either (seen_as at_target (both (before (hex_in 2) (codes "=")) target_what_in)) (seen_as at_none bare_what_in)

at-exact : IsExact (λ (v : ℕ × What). concat (hex 2 v.0 ∷ codes "=" ∷ what_text v.1 ∷ [])) (λ v. (v.0 < 256) × IsTargetWhat v.1) (both (before (hex_in 2) (codes "=")) target_what_in)
at-exact =
    retold (both-exact (before-exact (hex-exact 2) (codes "=")) target-exact) (λ (v : ℕ × What). concat (hex 2 v.0 ∷ codes "=" ∷ what_text v.1 ∷ []))
    (λ v _. concat-3 (hex 2 v.0) (codes "=") (what_text v.1) ∙ sym (append_assoc (hex 2 v.0) (codes "=") (what_text v.1)))

with_target : (o : Outcome) → has_target o.what ≡ true → outcome_text o ≡ concat (hex 2 o.at ∷ codes "=" ∷ what_text o.what ∷ [])
with_target o h = ap (λ (b : Bool). cond b (concat (hex 2 o.at ∷ codes "=" ∷ what_text o.what ∷ [])) (what_text o.what)) h

without_target : (o : Outcome) → has_target o.what ≡ false → outcome_text o ≡ what_text o.what
without_target o h = ap (λ (b : Bool). cond b (concat (hex 2 o.at ∷ codes "=" ∷ what_text o.what ∷ [])) (what_text o.what)) h

two-reads : (o : Outcome) → IsRightOutcome o → Reads outcome_text o two_in
two-reads o v = at (has_target o.what) refl v.0
  where
    none : (rest : List ℕ) → has_target o.what ≡ false → seen_as at_target (both (before (hex_in 2) (codes "=")) target_what_in) (outcome_text o ++ rest) ≡ None
    none rest h =
        ap (λ (x : List ℕ). seen_as at_target (both (before (hex_in 2) (codes "=")) target_what_in) (x ++ rest)) (without_target o h)
        ∙ seen_refuses at_target (both (before (hex_in 2) (codes "=")) target_what_in) (what_text o.what ++ rest)
        (both_refuses (before (hex_in 2) (codes "=")) target_what_in (what_text o.what ++ rest) (before_refuses (hex_in 2) (codes "=") (what_text o.what ++ rest) (no_hex o.what rest h)))

    at : (b : Bool) → has_target o.what ≡ b → IsRightTarget b o.at → Reads outcome_text o two_in
    at true h w = here _ (tagged-reads at-exact outcome_text at_target (o.at, o.what) (with_target o h) (w, (h, v.1)))
    at false h w =
        let is : o ≡ at_none o.what = (λ i. record { at = w i; what = o.what }) in
        next (seen_as at_target (both (before (hex_in 2) (codes "=")) target_what_in)) (λ rest. none rest h) (subst (λ (x : Outcome). Reads outcome_text x (seen_as at_none bare_what_in)) (sym is) (tagged-reads bare-exact outcome_text at_none o.what (without_target (at_none o.what) h) (h, v.1)))

right_target : (at : ℕ) (w : What) → has_target w ≡ true → at < 256 → IsRightTarget (has_target w) at
right_target at w h l = subst (λ (b : Bool). IsRightTarget b at) (sym h) l

right_none : (w : What) → has_target w ≡ false → IsRightTarget (has_target w) 0
right_none w h = subst (λ (b : Bool). IsRightTarget b 0) (sym h) refl

two-sound : IsSound outcome_text IsRightOutcome two_in
two-sound =
    either-sound outcome_text IsRightOutcome _ _
    (tagged-sound at-exact outcome_text IsRightOutcome at_target (λ v p. with_target (at_target v) p.1.0) (λ v p. (right_target v.0 v.1 p.1.0 p.0, p.1.1)))
    (tagged-sound bare-exact outcome_text IsRightOutcome at_none (λ w p. without_target (at_none w) p.0) (λ w p. (right_none w p.0, p.1)))

pub outcome-exact : IsExact further_outcome IsRightOutcome outcome_in
unfolding outcome_in
outcome-exact = after-exact (two_halves outcome_text IsRightOutcome two_in two-reads two-sound) (codes " ")

no_outcome : (rest : List ℕ) → outcome_in (10 ∷ rest) ≡ None
unfolding outcome_in text_in
no_outcome rest = refl

-- one outcome to eight
abbrev pub AreRightOutcomes : List Outcome → Type 0
AreRightOutcomes os = ((length os ≤ 8) × AllByRecursion IsRightOutcome os) × (is_filled os ≡ true)

pub outcomes-exact : IsExact (λ (os : List Outcome). flat_map further_outcome os ++ 10 ∷ []) AreRightOutcomes outcomes_in
unfolding outcomes_in
outcomes-exact = checked-exact (items-exact outcome-exact (10 ∷ []) no_outcome 8) is_filled
