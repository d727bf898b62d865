use Rattle.std.proofs.Common.{◌*◌, ◌<◌, length, ap, sym, ◌∙◌, arith}
use Rattle.std.proofs.lemmas.List.{take_all}
use Rattle.mpt_spec.specs.declared.entry.IoApic.{IoApic}
use Rattle.mpf_madt.specs.Translation.{ios_of}
use Rattle.mpf_madt.proofs.TranslationLemmas.{io_pushed, io_passed}
use Rattle.mpf_madt.proofs.translation.ios.Goals as goal
use Rattle.mpf_madt.proofs.translation.ios.Goals.{then-is_enabled+in-Ok, else-is_enabled}

-- what the code's indexing names past the end
d : IoApic
d = record { id = 0; version = 0; flags = 0; address = 0 }

pub loop-io-preserved : goal.loop-io-preserved
unfolding d
loop-io-preserved c =
    let es = c.args.ios.now in
    let i = c.loop-io.io-index in
    let inside : i < length es = omega (arith, c.loop-io-test.true) in
    let was = c.loop-io.invariant in
    elim c.if-is_enabled.branch [
      | then-is_enabled+in-Ok w ↦ (
        ap (λ v. v.items) w.entries-is ∙ io_pushed es i w.len-place.result (24 * w.len-place.result) d c.loop-io.entries.items w.push.new.self.items inside (sym c.is_enabled.ensures ∙ w.if-is_enabled.true) (omega arith) (omega arith) was.0 w.in-Ok.ensures.items,
        omega (arith, was.1, ap (λ v. length v.items) w.entries-is, w.in-Ok.ensures.items),
      )
      | else-is_enabled w ↦ (
        ap (λ v. v.items) w.entries-is ∙ io_passed es i d c.loop-io.entries.items inside (sym c.is_enabled.ensures ∙ w.if-is_enabled.false) was.0,
        omega (arith, was.1, ap (λ v. length v.items) w.entries-is),
      )
    ]

pub loop-io-init : goal.loop-io-init
loop-io-init c = (c.new-entries.ensures.items, omega (arith, ap length c.new-entries.ensures.items))

pub returns : goal.returns
returns c = c.loop-io.invariant.0 ∙ ap ios_of (take_all c.loop-io.io-index c.args.ios.now c.loop-io-test.false)
