use Rattle.std.proofs.Common.{◌∙◌, rules, tests}
use Rattle.std.proofs.lemmas.Iterator.{YieldsList-from_slice}
use Rattle.std.proofs.lemmas.Iterator.Search.{find_from_yields_List}
use Rattle.mpt_route.specs.Platform.{is_boot_processor}
use Rattle.mpt_route.proofs.platform.first_boot_processor.Goals as goal

pub returns : goal.returns
returns c =
    c.copied.ensures ∙ find_from_yields_List is_boot_processor _ _ c.find.result c.find.ensures.ran (YieldsList-from_slice c.args.processors.now cc) (λ x b q k. search (rules, tests))
