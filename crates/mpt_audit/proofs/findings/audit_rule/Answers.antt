use Rattle.std.proofs.Common.{◌≡◌, ℕ, ◌+◌, ap, sym, ◌∙◌, subst, arith}
use Rattle.mpt_audit.specs.Progress.{AreFindingsBefore}
use Rattle.mpt_rules.specs.Rules.{BreaksRule}
use Rattle.mpt_audit.proofs.FindingLemmas.{passed, found, next, broken_place}
use Rattle.mpt_audit.proofs.findings.audit_rule.Goals as goal
use Rattle.mpt_audit.proofs.findings.audit_rule.Goals.{in-Some+in_ok-push, in_default}

pub loop-i-init : goal.loop-i-init
loop-i-init c =
    let p = c.args.pointer.now in
    let t = c.args.table.now in
    let r = c.rule_at-rule.result in
    passed p t c.args.n 0 c.places_of-from.result.0 r _ c.rule_at-rule.ensures (omega arith)
    (λ m j l h b. let a = c.places_of-from.ensures.all m (broken_place p t r m j b) in omega (arith, a.0, h)) c.requires.before

pub loop-i-preserved : goal.loop-i-preserved
loop-i-preserved c =
    let p = c.args.pointer.now in
    let t = c.args.table.now in
    let r = c.rule_at-rule.result in
    let i = c.loop-i.i in
    elim c.match-other_of.branch [
      | in-Some+in_ok-push w ↦ subst (AreFindingsBefore p t c.args.n (i + 1)) (sym (ap (λ v. v.items) w.out-is ∙ w.in_ok-push.ensures.items))
          (found p t c.args.n i w.in-Some.other r c.loop-i.out.items c.rule_at-rule.ensures w.in-Some.ensures c.loop-i.invariant)
      | in_default w ↦ subst (AreFindingsBefore p t c.args.n (i + 1)) (sym (ap (λ v. v.items) w.out-is))
          (passed p t c.args.n i (i + 1) r c.loop-i.out.items c.rule_at-rule.ensures (omega arith)
          (λ m j l h b. let here : m ≡ i = omega arith in w.in_default.ensures j (subst (λ (k : ℕ). BreaksRule p t r k j) here b)) c.loop-i.invariant)
    ]

pub returns : goal.returns
returns c =
    let p = c.args.pointer.now in
    let t = c.args.table.now in
    let r = c.rule_at-rule.result in
    next p t c.args.n c.loop-i.i r c.loop-i.out.items c.rule_at-rule.ensures
    (λ m j b. let a = c.places_of-from.ensures.all m (broken_place p t r m j b) in omega (arith, a.1, c.loop-i-test.false)) c.loop-i.invariant
