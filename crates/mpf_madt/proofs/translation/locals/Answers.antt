use Rattle.std.proofs.Common.{◌<◌, [], length, arith}
use Rattle.mpt_spec.specs.declared.entry.Processor.{Processor}
use Rattle.mpf_madt.proofs.TranslationLemmas.{local_pushed}
use Rattle.mpf_madt.proofs.translation.locals.Goals as goal

-- what the code's indexing names past the end
d : Processor
d = record { apic = 0; version = 0; flags = 0; signature = 0; features = 0; reserved = [] }

pub loop-e-preserved : goal.loop-e-preserved
unfolding d
loop-e-preserved c =
    let es = c.args.processors.now in
    let i = c.loop-e.e-index in
    let inside : i < length es = omega (arith, c.loop-e-test.true) in (
      local_pushed es i c.len-uid.result c.from.result d c.loop-e.locals.items c.push.new.self.items inside (omega (arith, c.loop-e.invariant.1)) c.from.ensures c.loop-e.invariant.0 c.in-Ok.ensures.items,
      omega (arith, c.loop-e.invariant.1, c.in-Ok.ensures.len),
    )
