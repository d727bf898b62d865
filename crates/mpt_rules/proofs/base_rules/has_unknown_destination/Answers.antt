use Rattle.std.proofs.Common.{sym, subst}
use Rattle.std.specs.Prelude.{IsTrue, ◌↔◌}
use Rattle.mpt_rules.specs.Rules.{HasUnknownDestination}
use Rattle.mpt_rules.specs.Entries.{IsIoApicOf, IsProcessorOf}
use Rattle.mpt_rules.proofs.PlaceLemmas.{lacks_nowhere}
use Rattle.mpt_rules.proofs.base_rules.has_unknown_destination.Goals as goal

pub returns-then-e : goal.returns-then-e
returns-then-e c =
    let es = c.args.entries.now in
    let l = lacks_nowhere (IsIoApicOf c.in-IoInt.e.dest) es _ _ (c.requires.ios c.in-IoInt.e.dest) c.lacks.ensures in
    subst (λ e. IsTrue c.lacks.result ↔ HasUnknownDestination es e) (sym c.in-IoInt.is) (λ t. (c.if-e.true, l.0 t), λ h. l.1 h.1)

pub returns-then-e-2 : goal.returns-then-e-2
returns-then-e-2 c =
    let es = c.args.entries.now in
    let l = lacks_nowhere (IsProcessorOf c.in-LocalInt.e.dest) es _ _ (c.requires.processors c.in-LocalInt.e.dest) c.lacks-then-e-2.ensures in
    subst (λ e. IsTrue c.lacks-then-e-2.result ↔ HasUnknownDestination es e) (sym c.in-LocalInt.is) (λ t. (c.if-e-2.true, l.0 t), λ h. l.1 h.1)
