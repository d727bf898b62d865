use Rattle.std.proofs.Common.{ℕ, ap, sym, ◌∙◌, append-nil, arith, ◌≡◌}
use Rattle.std.specs.Prelude.{Option}
use Rattle.mpf_madt.specs.declared.madt.MadtEntry.{MadtEntry}
use Rattle.mpf_madt.specs.Lines.{source_of}
use Rattle.mpf_madt.specs.Translation.{override_for}
use Rattle.mpf_madt.proofs.FirstLemmas.{none_of}
use Rattle.mpf_madt.proofs.TranslationLemmas.{number_leaves, number_appends}
use Rattle.mpf_madt.proofs.translation.push_overrides.Goals as goal
use Rattle.mpf_madt.proofs.translation.push_overrides.Goals.{in-Some+in-Ok, in_default}

pub loop-irq-preserved : goal.loop-irq-preserved
loop-irq-preserved c =
    let i = c.loop-irq.irq in
    let g : ℕ → Option MadtEntry = λ n. override_for n (source_of c.args.p.now c.args.answers.now n) in
    let here = ap (override_for i) (sym c.source.ensures) ∙ sym c.override_for.ensures in
    elim c.match-override_for.branch [
      | in-Some+in-Ok w ↦ number_appends g i w.in-Some.entry c.args.out.now.items c.loop-irq.out.items c.match-override_for.out.items (here ∙ w.in-Some.is) c.loop-irq.invariant (ap (λ v. v.items) w.out-is ∙ w.in-Ok.ensures.items)
      | in_default w ↦ number_leaves g i c.args.out.now.items c.loop-irq.out.items c.match-override_for.out.items (here ∙ none_of c.override_for.result w.in_default.not-Some) (ap (λ v. v.items) w.out-is) c.loop-irq.invariant
    ]

pub loop-irq-init : goal.loop-irq-init
loop-irq-init c = sym (append-nil c.args.out.now.items)

pub returns : goal.returns
returns c =
    let all : c.loop-irq.irq ≡ 16 = omega arith in
    rw all at c.loop-irq.invariant
