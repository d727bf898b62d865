use Rattle.std.proofs.Common.{sym, subst}
use Rattle.std.specs.Prelude.{IsTrue, ◌↔◌}
use Rattle.mpt_rules.specs.Rules.{HasUnknownBus}
use Rattle.mpt_rules.specs.Entries.{IsBusOf}
use Rattle.mpt_rules.proofs.PlaceLemmas.{lacks_nowhere}
use Rattle.mpt_rules.proofs.base_rules.has_unknown_bus.Goals as goal

pub returns-in-IoInt : goal.returns-in-IoInt
returns-in-IoInt c =
    let es = c.args.entries.now in
    subst (λ e. IsTrue c.lacks.result ↔ HasUnknownBus es e) (sym c.in-IoInt.is) (lacks_nowhere (IsBusOf c.in-IoInt.e.bus) es _ _ (c.requires.buses c.in-IoInt.e.bus) c.lacks.ensures)

pub returns-in-LocalInt : goal.returns-in-LocalInt
returns-in-LocalInt c =
    let es = c.args.entries.now in
    subst (λ e. IsTrue c.lacks-in-LocalInt.result ↔ HasUnknownBus es e) (sym c.in-LocalInt.is) (lacks_nowhere (IsBusOf c.in-LocalInt.e.bus) es _ _ (c.requires.buses c.in-LocalInt.e.bus) c.lacks-in-LocalInt.ensures)
