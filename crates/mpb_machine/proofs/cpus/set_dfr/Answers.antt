use Rattle.std.proofs.Common.{◌∙◌, sym}
use Rattle.mpb_spec.specs.LocalApic.{LocalApic}
use Rattle.mpb_spec.specs.Steps.{with_apic}
use Rattle.mpb_spec.proofs.StateLemmas.{found, none_changed}
use Rattle.mpb_machine.proofs.cpus.set_dfr.Goals as goal

pub returns-in-Some : goal.returns-in-Some
returns-in-Some c = (found c.args.id c.args.cpus.now c.in-Some.place (sym c.in-Some.is ∙ c.find.ensures.place)).changed (with_apic (λ (a : LocalApic). record a { dfr = c.args.model })) _ _ c.set_dfr.ensures

pub returns-in_default : goal.returns-in_default
returns-in_default c = none_changed c.args.id (with_apic (λ (a : LocalApic). record a { dfr = c.args.model })) c.args.cpus.now (sym c.in_default.is ∙ c.find.ensures.place)
