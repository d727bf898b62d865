use Rattle.std.proofs.Common.{◌≡◌, ◌≤◌, take, length}
use Rattle.mpf_madt.specs.Translation.{ios_of}
use Rattle.mpf_madt.proofs.translation.ios.Given as goal

abbrev pub invariant-loop-io : goal.invariant-loop-io
invariant-loop-io l = (l.entries.items ≡ ios_of (take l.io-index l.ios)) × (length l.entries.items ≤ l.io-index)
