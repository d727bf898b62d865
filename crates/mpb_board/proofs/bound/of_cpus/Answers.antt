use Rattle.std.proofs.Common.{length, count_by, ap, arith, ◌∙◌, sum_by, take_all}
use Rattle.std.proofs.lemmas.List.Sums.{sum_by_more}
use Rattle.mpb_spec.specs.Room.{is_write, is_eoi}
use Rattle.mpb_board.proofs.bound.of_cpus.Goals as goal

pub loop-cpu-preserved : goal.loop-cpu-preserved
loop-cpu-preserved c =
    let cpus = c.args.cpus.now in
    let i = c.loop-cpu.cpu-index in
    let cpu = c.cpu-item.result in
    let t = c.loop-cpu-test.true in
    let so_far = c.loop-cpu.invariant in
    let part = c.of_cpu-part.ensures in
    record {
      ops = let more = sum_by_more (λ p. length p.program) cpus i cpu t in let is = ap (λ p. length p.program) c.cpu-item.is in omega arith;
      writes = let more = sum_by_more (λ p. count_by is_write p.program) cpus i cpu t in let is = ap (λ p. count_by is_write p.program) c.cpu-item.is in omega arith;
      ends = let more = sum_by_more (λ p. count_by is_eoi p.program) cpus i cpu t in let is = ap (λ p. count_by is_eoi p.program) c.cpu-item.is in omega arith;
      few_writes = omega arith;
      few_ends = omega arith;
    }

pub returns-clause-ops : goal.returns-clause-ops
returns-clause-ops c = c.loop-cpu.invariant.ops ∙ ap (sum_by (λ p. length p.program)) (take_all c.loop-cpu.cpu-index c.args.cpus.now c.loop-cpu-test.false)

pub returns-clause-writes : goal.returns-clause-writes
returns-clause-writes c = c.loop-cpu.invariant.writes ∙ ap (sum_by (λ p. count_by is_write p.program)) (take_all c.loop-cpu.cpu-index c.args.cpus.now c.loop-cpu-test.false)

pub returns-clause-ends : goal.returns-clause-ends
returns-clause-ends c = c.loop-cpu.invariant.ends ∙ ap (sum_by (λ p. count_by is_eoi p.program)) (take_all c.loop-cpu.cpu-index c.args.cpus.now c.loop-cpu-test.false)

pub returns-clause-few_writes : goal.returns-clause-few_writes
returns-clause-few_writes c = c.loop-cpu.invariant.few_writes

pub returns-clause-few_ends : goal.returns-clause-few_ends
returns-clause-few_ends c = c.loop-cpu.invariant.few_ends
