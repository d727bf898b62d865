use Rattle.std.proofs.Common.{◌-◌, ◌+◌, refl, subst, arith, eq-eqb}
use Rattle.std.proofs.lemmas.Bool.{false≢true}
use Rattle.std.proofs.lemmas.Bool.Decides.{nat_tests}
use Rattle.mpt_rules.specs.Index.{IsParent}
use Rattle.mpt_rules.proofs.MeetLemmas.{arrived, stuck, up, ends}
use Rattle.mpt_rules.proofs.ext_rules.reaches.Goals as goal

pub returns-then-bus-to : goal.returns-then-bus-to
returns-then-bus-to c = (λ t. c.loop.invariant.0 (arrived (c.args.steps - c.loop.counter) c.args.entries.now c.loop.bus c.args.to c.if-bus-to.true), λ h. refl)

pub returns-in-None : goal.returns-in-None
returns-in-None c =
    let none = subst (IsParent c.args.entries.now c.loop.bus) c.in-None.is (c.requires c.loop.bus (omega arith)) in
    (λ t. absurd (false≢true t), λ h. absurd (stuck (c.args.steps - c.loop.counter) c.args.entries.now c.loop.bus c.args.to c.if-bus-to.false none (c.loop.invariant.1 h)))

pub loop-preserved : goal.loop-preserved
loop-preserved c =
    let one = subst (IsParent c.args.entries.now c.loop.bus) c.in-Some.is (c.requires c.loop.bus (omega arith)) in
    let u = up (c.args.steps - c.loop.counter) (c.args.steps - (c.loop.counter + 1)) c.args.entries.now c.loop.bus c.in-Some.parent c.args.to (omega (arith, c.loop-test.true)) c.if-bus-to.false one in
    (λ h. c.loop.invariant.0 (u.0 h), λ h. u.1 (c.loop.invariant.1 h))

pub returns : goal.returns
returns c = (
  λ t. c.loop.invariant.0 (arrived (c.args.steps - c.loop.counter) c.args.entries.now c.loop.bus c.args.to (grind (arith, nat_tests))),
  λ h. eq-eqb c.loop.bus c.args.to (ends (c.args.steps - c.loop.counter) c.args.entries.now c.loop.bus c.args.to (omega (arith, c.loop-test.false)) (c.loop.invariant.1 h)),
)
