use Rattle.std.proofs.Common.{◌+◌, ap, ◌∙◌, ◌≡◌, ◌∷◌, replicate, arith}
use Rattle.mpb_spec.specs.declared.agent.Op.TheVariants.{Ipi, Pause}
use Rattle.mpb_drill.proofs.ListLemmas.{repeats_behind}
use Rattle.mpb_drill.proofs.script.sends.Goals as goal

pub loop-preserved : goal.loop-preserved
loop-preserved c = repeats_behind c.loop.counter (Ipi 0 (0x80 + c.args.id)) (Pause 1) c.loop.words.items c.push-in-loop.new.self.items c.loop.invariant c.in-Ok-push.ensures.items

pub returns : goal.returns
returns c =
    let all : c.loop.counter ≡ c.args.pauses = omega arith in
    c.loop.invariant ∙ ap (λ n. Ipi 0 (0x80 + c.args.id) ∷ replicate n (Pause 1)) all
