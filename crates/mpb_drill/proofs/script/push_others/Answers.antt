use Rattle.std.proofs.Common.{ap, ℕ, List, ◌+◌, ◌∙◌, ◌++◌, ◌∷◌, [], sym}
use Rattle.mpb_spec.specs.declared.agent.Op.{Op}
use Rattle.mpb_script.specs.declared.script.CpuScript.{CpuScript}
use Rattle.mpb_drill.specs.Drill.{sends}
use Rattle.std.proofs.lemmas.List.{append-nil}
use Rattle.mpb_drill.proofs.ListLemmas.{grows, at_end}
use Rattle.mpb_drill.proofs.script.push_others.Goals as goal

pub loop-k-preserved : goal.loop-k-preserved
loop-k-preserved c =
    let now = c.loop-k.cpus.items in
    let made : ℕ → List Op → CpuScript = λ k words. record { id = 1 + k; words = words } in
    grows (λ k. made k (sends c.args.pauses (1 + k))) c.loop-k.k c.args.cpus.now.items now c.push.new.self.items c.loop-k.invariant
    (c.in-Ok-push.ensures.items ∙ ap (λ (words : List Op). now ++ made c.loop-k.k words ∷ []) (c.new-words.ensures ∙ c.in-Ok.ensures))

pub loop-k-init : goal.loop-k-init
loop-k-init c = sym (append-nil c.args.cpus.now.items)

pub returns : goal.returns
returns c =
    at_end (λ k. record { id = 1 + k; words = sends c.args.pauses (1 + k) }) c.args.count c.loop-k.k c.args.cpus.now.items c.loop-k.cpus.items c.loop-k.auto.k-end c.loop-k-test.false c.loop-k.invariant
