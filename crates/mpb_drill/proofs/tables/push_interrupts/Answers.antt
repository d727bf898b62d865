use Rattle.std.proofs.Common.{◌+◌, map, sym, ap, ◌∙◌, ◌++◌, ◌≡◌, arith}
use Rattle.std.specs.List.{range_with_len, flat_map}
use Rattle.mpb_drill.specs.Drill.{interrupt}
use Rattle.std.proofs.lemmas.List.{append-nil}
use Rattle.mpb_drill.proofs.ListLemmas.{grows_by}
use Rattle.mpb_drill.proofs.tables.push_interrupts.Goals as goal

pub loop-place-preserved : goal.loop-place-preserved
loop-place-preserved c =
    grows_by (λ a. map (interrupt (c.args.first + a) a) (range_with_len 0 24)) c.loop-place.place c.args.entries.now.items c.loop-place.entries.items c.push_pins.new.entries.items c.loop-place.invariant c.in-Ok.ensures

pub loop-place-init : goal.loop-place-init
loop-place-init c = sym (append-nil c.args.entries.now.items)

pub returns : goal.returns
returns c =
    let all : c.loop-place.place ≡ c.args.count = omega arith in
    c.loop-place.invariant ∙ ap (λ n. c.args.entries.now.items ++ flat_map (λ a. map (interrupt (c.args.first + a) a) (range_with_len 0 24)) (range_with_len 0 n)) all
