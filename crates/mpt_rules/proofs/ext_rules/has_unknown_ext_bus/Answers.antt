use Rattle.std.proofs.Common.{sym, subst, ◌∙◌, inl, inr}
use Rattle.std.specs.Prelude.{IsTrue, ◌↔◌}
use Rattle.std.proofs.lemmas.Bool.{false≢true}
use Rattle.mpt_rules.specs.Entries.{IsBusOf}
use Rattle.mpt_rules.specs.Rules.{HasUnknownExtBus}
use Rattle.mpt_rules.proofs.PlaceLemmas.{lacks_nowhere}
use Rattle.mpt_rules.proofs.ext_rules.has_unknown_ext_bus.Goals as goal

pub returns-in-Space : goal.returns-in-Space
returns-in-Space c =
    let es = c.args.entries.now in
    subst (λ e. IsTrue c.lacks.result ↔ HasUnknownExtBus es e) (sym c.in-Space.is) (lacks_nowhere (IsBusOf c.in-Space.e.bus) es _ _ (c.requires.buses c.in-Space.e.bus) c.lacks.ensures)

pub returns-then-lacks : goal.returns-then-lacks
returns-then-lacks c =
    let es = c.args.entries.now in
    let l = lacks_nowhere (IsBusOf c.in-Hierarchy.e.bus) es _ _ (c.requires.buses c.in-Hierarchy.e.bus) c.lacks-in-Hierarchy.ensures in
    subst (λ e. IsTrue c.lacks-in-Hierarchy.result ↔ HasUnknownExtBus es e) (sym c.in-Hierarchy.is) (λ t. inl (l.0 t), λ h. c.if-lacks.true)

pub returns-else-lacks : goal.returns-else-lacks
returns-else-lacks c =
    let es = c.args.entries.now in
    let l = lacks_nowhere (IsBusOf c.in-Hierarchy.e.bus) es _ _ (c.requires.buses c.in-Hierarchy.e.bus) c.lacks-in-Hierarchy.ensures in
    let m = lacks_nowhere (IsBusOf c.in-Hierarchy.e.parent) es _ _ (c.requires.buses c.in-Hierarchy.e.parent) c.lacks-else-lacks.ensures in
    subst (λ e. IsTrue c.lacks-else-lacks.result ↔ HasUnknownExtBus es e) (sym c.in-Hierarchy.is)
    (λ t. inr (m.0 t), λ h. elim h [ inl x ↦ absurd (false≢true (sym c.if-lacks.false ∙ l.1 x)) | inr x ↦ m.1 x ])

pub returns-in-Modifier : goal.returns-in-Modifier
returns-in-Modifier c =
    let es = c.args.entries.now in
    subst (λ e. IsTrue c.lacks-in-Modifier.result ↔ HasUnknownExtBus es e) (sym c.in-Modifier.is) (lacks_nowhere (IsBusOf c.in-Modifier.e.bus) es _ _ (c.requires.buses c.in-Modifier.e.bus) c.lacks-in-Modifier.ensures)
