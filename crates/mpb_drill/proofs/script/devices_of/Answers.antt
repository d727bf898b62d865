use Rattle.std.proofs.Common.{ap, List, ◌∙◌, ◌++◌, ◌∷◌, [], ◌≡◌, map, arith}
use Rattle.mpb_spec.specs.declared.config.DevWord.{DevWord}
use Rattle.mpb_drill.specs.Drill.{pulses_of}
use Rattle.std.specs.List.{range_with_len}
use Rattle.mpb_drill.proofs.ListLemmas.{grows}
use Rattle.mpb_drill.proofs.script.devices_of.Goals as goal

pub loop-j-preserved : goal.loop-j-preserved
loop-j-preserved c =
    let none : List (List DevWord) = [] in
    let now = c.loop-j.devices.items in
    grows (pulses_of c.args.ioapics c.args.count) c.loop-j.j none now c.push.new.self.items c.loop-j.invariant
    (c.in-Ok-push.ensures.items ∙ ap (λ (words : List DevWord). now ++ words ∷ []) (c.new.ensures ∙ c.in-Ok.ensures))

pub returns : goal.returns
returns c =
    let all : c.loop-j.j ≡ c.args.count = omega arith in
    c.loop-j.invariant ∙ ap (λ n. map (pulses_of c.args.ioapics c.args.count) (range_with_len 0 n)) all
