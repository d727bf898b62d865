use Rattle.std.proofs.Common.{◌∙◌, rules, tests}
use Rattle.std.specs.Prelude.{◌==◌}
use Rattle.std.proofs.lemmas.Iterator.{YieldsList-from_slice}
use Rattle.std.proofs.lemmas.Iterator.Search.{find_from_yields_List}
use Rattle.mpf_madt.proofs.routed.first_bus.Goals as goal

pub returns : goal.returns
returns c =
    c.copied.ensures ∙ find_from_yields_List (λ b. b.id == c.args.id) _ _ c.find.result c.find.ensures.ran (YieldsList-from_slice c.args.buses.now cc) (λ x b q k. search (rules, tests))
