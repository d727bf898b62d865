use Rattle.std.proofs.Common.{◌≡◌, ◌<◌, [], length, get_or, ap, sym, not, ◌∙◌, arith}
use Rattle.std.specs.Prelude.{None}
use Rattle.mpt_spec.specs.declared.entry.Bus.{Bus}
use Rattle.std.proofs.lemmas.List.{get_or_read}
use Rattle.mpt_route.proofs.PlatformLemmas.{no_bus, notes_bus, keeps_bus, none_of, some_of}
use Rattle.mpt_route.proofs.routing.first_buses.Goals as goal
use Rattle.mpt_route.proofs.routing.first_buses.Goals.{then-is_none, else-is_none}

-- what the code's indexing names past the end
d : Bus
d = record { id = 0; name = [] }

pub loop-b-init : goal.loop-b-init
loop-b-init c = no_bus c.in-Ok.table.items c.in-Ok.ensures

pub loop-b-preserved : goal.loop-b-preserved
unfolding d
loop-b-preserved c =
    let bs = c.args.buses.now in
    let i = c.loop-b.b-index in
    let inside : i < length bs = omega (arith, c.loop-b-test.true) in
    let t = c.loop-b.table.items in
    let whole : length t ≡ 256 = c.loop-b.invariant.whole in
    let small : c.from-id.result < 256 = omega arith in
    let read : c.index.result.now ≡ get_or t c.from-id.result None = get_or_read t c.from-id.result c.index.result.now (omega arith) c.index.ensures None in
    elim c.if-is_none.branch [
      | then-is_none w ↦ notes_bus t c.if-is_none.table.items bs i c.from-id.result d w.bus_kind.result inside c.from-id.ensures w.bus_kind.ensures small
          (sym read ∙ none_of c.index.result.now (c.is_none.ensures ∙ ap not w.if-is_none.true)) (ap (λ v. v.items) w.table-is) c.loop-b.invariant
      | else-is_none w ↦ let z = some_of c.index.result.now (c.is_none.ensures ∙ ap not w.if-is_none.false) in
          keeps_bus t c.if-is_none.table.items bs i c.from-id.result d z.0 inside c.from-id.ensures (sym read ∙ z.1) (ap (λ v. v.items) w.table-is) c.loop-b.invariant
    ]
