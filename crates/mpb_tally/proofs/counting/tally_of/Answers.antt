use Rattle.std.proofs.Common.{ap, ◌∙◌, List, length, sum_by}
use Rattle.mpb_spec.specs.declared.entry.Entry.{Entry}
use Rattle.mpb_spec.specs.declared.pulse.Pulse.{Pulse}
use Rattle.mpb_spec.specs.declared.pulse.Hit.{Hit}
use Rattle.mpb_spec.specs.Pulses.{is_new}
use Rattle.mpb_tally.specs.Tally.{is_started, is_set, is_taken, is_merged, outcomes_by, hits_in}
use Rattle.mpb_tally.proofs.CountLemmas.{sum_of_made}
use Rattle.mpb_tally.proofs.counting.tally_of.Goals as goal

pub returns : goal.returns
returns c =
    let journal = c.journal-journal.ensures.journal in
    let outcomes = c.count_outcomes-outcomes.ensures in
    let hits = c.count_hits-hits.ensures in
    let logs = c.as_slice.ensures.value in
    let made = c.args.account.now.logs.items in
    let entries = ap (λ (l : List Entry). length l) journal in
    let started = outcomes.started ∙ ap (outcomes_by is_started) journal in
    let sets = outcomes.sets ∙ ap (outcomes_by is_set) journal in
    let takes = outcomes.takes ∙ ap (outcomes_by is_taken) journal in
    let pulses = hits.pulses ∙ ap (λ ls. sum_by (λ l. length l.items) ls) logs ∙ sum_of_made (λ (l : List (Pulse × Hit)). length l) (λ l. l.items) made in
    let fresh = hits.fresh ∙ ap (λ ls. sum_by (λ l. hits_in is_new l.items) ls) logs ∙ sum_of_made (hits_in is_new) (λ l. l.items) made in
    let merged = hits.merged ∙ ap (λ ls. sum_by (λ l. hits_in is_merged l.items) ls) logs ∙ sum_of_made (hits_in is_merged) (λ l. l.items) made in
    record { tally = λ i. record { entries = entries i; started = started i; pulses = pulses i; fresh = fresh i; merged = merged i; sets = sets i; takes = takes i } }
