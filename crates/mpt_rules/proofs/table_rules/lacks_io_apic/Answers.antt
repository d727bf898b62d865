use Rattle.std.proofs.Common.{below_more, sym, refl, ◌∙◌, arith}
use Rattle.std.proofs.lemmas.Bool.{false≢true}
use Rattle.std.proofs.lemmas.Option.{slice_get_within}
use Rattle.mpt_rules.specs.Entries.{IsEnabledIoApic}
use Rattle.mpt_rules.proofs.PlaceLemmas.{not_here, holds_here, no_entry}
use Rattle.mpt_rules.proofs.table_rules.lacks_io_apic.Goals as goal

pub returns-then-is_enabled_io_apic : goal.returns-then-is_enabled_io_apic
returns-then-is_enabled_io_apic c = (λ t. absurd (false≢true t), λ n. absurd (n c.loop-i.i (holds_here IsEnabledIoApic c.args.entries.now c.loop-i.i no_entry (omega arith) (c.is_enabled_io_apic.ensures.0 c.if-is_enabled_io_apic.true))))

pub loop-i-preserved : goal.loop-i-preserved
loop-i-preserved c = below_more _ _ c.loop-i.invariant (not_here IsEnabledIoApic c.args.entries.now c.loop-i.i no_entry (λ h. false≢true (sym c.if-is_enabled_io_apic.false ∙ c.is_enabled_io_apic.ensures.1 h)))

pub returns : goal.returns
returns c = (λ t k h. c.loop-i.invariant k (let l = slice_get_within c.args.entries.now k h.0 h.1 in omega (arith, c.loop-i-test.false)) h, λ n. refl)
