use Rattle.std.proofs.Common.{length}
use Rattle.mpb_replay.proofs.made.+op_of_cpu.Given as goal

abbrev pub decreases-op_of_cpu : goal.decreases-op_of_cpu
decreases-op_of_cpu l = length l.cpus.now
