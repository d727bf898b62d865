use Rattle.std.proofs.Common.{◌==◌, ◌&&◌, ◌++◌, not, filter, sym, ap, ◌∙◌}
use Rattle.std.proofs.lemmas.List.{take_all}
use Rattle.std.specs.List.{flat_map}
use Rattle.mpt_spec.specs.declared.entry.Processor.{Processor}
use Rattle.mpb_setup.specs.Boot.{is_enabled, start_ops}
use Rattle.mpb_setup.proofs.PushLemmas.{flat_map_passed, flat_map_failed}
use Rattle.mpb_setup.proofs.boot.push_starts.Goals as goal
use Rattle.mpb_setup.proofs.boot.push_starts.Goals.{then-is_other+in_default, else-is_other}

pub loop-e-preserved : goal.loop-e-preserved
loop-e-preserved c =
    let p = λ (e : Processor). is_enabled e && not (e.apic == c.args.boot) in
    elim c.if-is_other.branch [
      | then-is_other+in_default w ↦
          flat_map_passed (start_ops c.args.page) p c.args.ops.now.items c.loop-e.ops.items c.if-is_other.ops.items c.args.processors.now c.loop-e.e-index _ c.loop-e-test.true (sym c.is_other.ensures ∙ w.if-is_other.true) (ap (λ v. v.items) w.ops-is ∙ w.in_default.ensures) c.loop-e.invariant
      | else-is_other w ↦
          flat_map_failed (start_ops c.args.page) p c.args.ops.now.items c.loop-e.ops.items c.if-is_other.ops.items c.args.processors.now c.loop-e.e-index _ c.loop-e-test.true (sym c.is_other.ensures ∙ w.if-is_other.false) (ap (λ v. v.items) w.ops-is) c.loop-e.invariant
    ]

pub returns : goal.returns
returns c =
    let p = λ (e : Processor). is_enabled e && not (e.apic == c.args.boot) in
    c.loop-e.invariant ∙ ap (λ es. c.args.ops.now.items ++ flat_map (start_ops c.args.page) (filter p es)) (take_all c.loop-e.e-index c.args.processors.now c.loop-e-test.false)
