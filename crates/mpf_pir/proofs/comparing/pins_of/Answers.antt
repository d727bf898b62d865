use Rattle.std.proofs.Common.{ap, ◌∙◌}
use Rattle.mpf_pir.specs.declared.pins.By.TheVariants as by
use Rattle.mpf_pir.specs.Made.{firsts}
use Rattle.mpf_pir.specs.Index.{is_same_by}
use Rattle.mpf_pir.proofs.WiringLemmas.{pins_are}
use Rattle.mpf_pir.proofs.comparing.pins_of.Goals as goal

pub returns-in-Ok-firsts_by-clause-pins : goal.returns-in-Ok-firsts_by-clause-pins
returns-in-Ok-firsts_by-clause-pins c = c.in-Ok-firsts_by.ensures.are.firsts_are ∙ ap (firsts (is_same_by by.Pin)) (c.as_slice.ensures.value ∙ c.in-Ok.ensures.ints) ∙ pins_are c.args.p.now
