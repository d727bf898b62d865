use Rattle.std.proofs.Common.{◌≡◌, ◌≤◌, length, sum_by, take}
use Rattle.mpb_spec.specs.Pulses.{is_new}
use Rattle.mpb_tally.specs.Tally.{is_merged, hits_in}
use Rattle.mpb_tally.proofs.counting.count_hits.Given as goal

abbrev pub invariant-loop-log : goal.invariant-loop-log
invariant-loop-log l = record {
  pulses : l.pulses ≡ sum_by (λ v. length v.items) (take l.log-index l.logs);
  fresh : l.fresh ≡ sum_by (λ v. hits_in is_new v.items) (take l.log-index l.logs);
  merged : l.merged ≡ sum_by (λ v. hits_in is_merged v.items) (take l.log-index l.logs);
  few_fresh : l.fresh ≤ l.pulses;
  few_merged : l.merged ≤ l.pulses;
}
