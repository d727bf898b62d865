use Rattle.std.proofs.Common.{below_more, sym, ◌∙◌, refl, arith}
use Rattle.std.proofs.lemmas.Bool.{false≢true}
use Rattle.std.proofs.lemmas.Option.{get_or_from_slice_get}
use Rattle.mpt_rules.specs.Entries.{known_buses}
use Rattle.mpt_rules.proofs.base_rules.is_known_bus.Goals as goal

pub returns-then-is_same_name : goal.returns-then-is_same_name
returns-then-is_same_name c =
    let e = get_or_from_slice_get known_buses c.loop-k.k c.known_bus-known.result c.args.name.now c.known_bus-known.ensures in
    (λ t. (c.loop-k.k, omega arith, e ∙ c.is_same_name.ensures.0 c.if-is_same_name.true), λ h. refl)

pub loop-k-preserved : goal.loop-k-preserved
loop-k-preserved c =
    let e = get_or_from_slice_get known_buses c.loop-k.k c.known_bus-known.result c.args.name.now c.known_bus-known.ensures in
    below_more _ _ c.loop-k.invariant (λ h. false≢true (sym c.if-is_same_name.false ∙ c.is_same_name.ensures.1 (sym e ∙ h)))

pub returns : goal.returns
returns c = (λ t. absurd (false≢true t), λ h. absurd (c.loop-k.invariant h.0 (omega (arith, c.loop-k-test.false, h.1)) h.2))
