use Rattle.std.proofs.Common.{ℕ, List, ◌∷◌, [], ap, ◌∙◌, ◌≡◌, arith}
use Rattle.mpb_spec.specs.declared.agent.Op.{Op}
use Rattle.mpb_spec.specs.declared.agent.Op.TheVariants.{Take, Eoi}
use Rattle.mpb_drill.specs.Drill.{takes}
use Rattle.mpb_drill.proofs.ListLemmas.{grows_by}
use Rattle.mpb_drill.proofs.script.takes.Goals as goal

pub loop-preserved : goal.loop-preserved
loop-preserved c =
    let none : List Op = [] in
    grows_by (λ (_ : ℕ). Take ∷ Eoi ∷ []) c.loop.counter none c.loop.words.items c.extend_from_slice.new.self.items c.loop.invariant c.in-Ok.ensures.items

pub returns : goal.returns
returns c =
    let all : c.loop.counter ≡ c.args.count = omega arith in
    c.loop.invariant ∙ ap takes all
