use Rattle.std.proofs.Common.{◌≡◌, ℕ, List, IfNone, take, ap, subst, ◌∙◌}
use Rattle.mpt_base.specs.Bytes.{part}
use Rattle.mpt_spec.specs.declared.pointer.Pointer.{Pointer}
use Rattle.mpt_spec.specs.Pointer.{IsFloatingPointer}
use Rattle.mpt_pointer.proofs.reading.pointer_at.Goals as goal

pub returns-in-Some-clause-none : goal.returns-in-Some-clause-none
returns-in-Some-clause-none c =
    let same : c.in-Some.bytes.now ≡ part c.args.image.now c.args.at 16 = c.in-Some.ensures.cases.same ∙ ap (take 16) c.split_at.ensures.back in
    subst (λ (b : List ℕ). IfNone c.read_pointer.result ((p : Pointer) → ¬ IsFloatingPointer p b)) same c.read_pointer.ensures.none
