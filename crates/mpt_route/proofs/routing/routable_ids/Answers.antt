use Rattle.std.proofs.Common.{List, ap, sym, length, map, take, take_all, arith, ◌∙◌}
use Rattle.std.specs.Prelude.{filter}
use Rattle.std.proofs.lemmas.List.{length-take, length-map}
use Rattle.mpt_spec.specs.declared.entry.IoApic.{IoApic}
use Rattle.mpt_route.specs.Routes.{is_enabled}
use Rattle.mpt_route.proofs.ListLemmas.{one_of_first, behind_first, not_first}
use Rattle.mpt_route.proofs.routing.routable_ids.Goals as goal
use Rattle.mpt_route.proofs.routing.routable_ids.Goals.{then-is_enabled+then-len-lt-ROUTED_IO_APICS+in-Ok, else-is_enabled, else-is_enabled-via-then-is_enabled+else-len-lt-ROUTED_IO_APICS, else-is_enabled-via-else-is_enabled}

-- what the code's indexing names past the end
d : IoApic
d = record { id = 0; version = 0; flags = 0; address = 0 }

pub loop-io-init : goal.loop-io-init
loop-io-init c = c.new-ids.ensures.items

pub loop-io-preserved : goal.loop-io-preserved
unfolding d
loop-io-preserved c =
    let ios = c.args.ios.now in
    let i = c.loop-io.io-index in
    let now = c.loop-io.ids.items in
    let id = λ (io : IoApic). io.id in
    let lt = c.loop-io-test.true in
    elim c.if-is_enabled.branch [
      | then-is_enabled+then-len-lt-ROUTED_IO_APICS+in-Ok w ↦
          one_of_first is_enabled id 4 ios i d now lt c.loop-io.invariant c.if-is_enabled.ids.items (sym c.is_enabled.ensures ∙ w.if-is_enabled.true) (omega arith) (ap (λ v. v.items) w.ids-is ∙ w.in-Ok.ensures.items)
      | else-is_enabled w ↦
          ap (λ v. v.items) w.ids-is
          ∙ elim w.else-is_enabled.branch [
            | else-is_enabled-via-then-is_enabled+else-len-lt-ROUTED_IO_APICS x ↦ behind_first is_enabled id 4 ios i d now lt c.loop-io.invariant (sym c.is_enabled.ensures ∙ x.if-is_enabled.true) (omega arith)
            | else-is_enabled-via-else-is_enabled x ↦ not_first is_enabled id 4 ios i d now lt c.loop-io.invariant (sym c.is_enabled.ensures ∙ x.if-is_enabled.false)
          ]
    ]

pub returns : goal.returns
returns c =
    let ios = c.args.ios.now in
    let first = λ (xs : List IoApic). take 4 (filter is_enabled xs) in
    let id = λ (io : IoApic). io.id in
    let value = c.loop-io.invariant ∙ ap (λ xs. map id (first xs)) (take_all c.loop-io.io-index ios c.loop-io-test.false) in
    record { value = value; few = omega (arith, ap length value, length-map (first ios) id, length-take 4 (filter is_enabled ios)) }
