use Rattle.std.proofs.Common.{◌∙◌, ℕ, List, ap, arith, get_or, length, map}
use Rattle.mpb_spec.specs.Plan.{Plan}
use Rattle.mpb_run.proofs.run.Run.new.Goals as goal

pub invariant_of-result : goal.invariant_of-result
invariant_of-result c d =
    let rooms = c.in-Ok.ensures.room ∙ ap (λ (p : Plan). map (λ words. length words) p.devices) c.config-3.ensures.same in
    let same = ap (λ (l : List ℕ). get_or l d 0) rooms in
    omega arith
