use Rattle.std.proofs.Common.{◌≡◌, ◌≤◌, ◌*◌, take}
use Rattle.mpb_tally.specs.Tally.{is_started, is_set, is_taken, outcomes_by}
use Rattle.mpb_tally.proofs.counting.count_outcomes.Given as goal

abbrev pub invariant-loop-entry : goal.invariant-loop-entry
invariant-loop-entry l = record {
  started : l.started ≡ outcomes_by is_started (take l.entry-index l.journal);
  sets : l.sets ≡ outcomes_by is_set (take l.entry-index l.journal);
  takes : l.takes ≡ outcomes_by is_taken (take l.entry-index l.journal);
  few_started : l.started ≤ 8 * l.entry-index;
  few_sets : l.sets ≤ 8 * l.entry-index;
  few_takes : l.takes ≤ 8 * l.entry-index;
}
