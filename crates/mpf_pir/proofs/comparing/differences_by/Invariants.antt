use Rattle.std.proofs.Common.{ℕ}
use Rattle.mpf_pir.specs.Progress.{AreDifferencesBelow, IsSeen, seen_at}
use Rattle.mpf_pir.proofs.comparing.differences_by.Given as goal

abbrev pub invariant-loop-number : goal.invariant-loop-number
invariant-loop-number l = record {
  below : AreDifferencesBelow l.p l.t l.number l.found.items;
  seen : (link : ℕ) → IsSeen l.p l.t l.number link (seen_at l.seen link);
}
