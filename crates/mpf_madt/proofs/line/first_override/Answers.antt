use Rattle.std.proofs.Common.{◌<◌, length, ap, sym, ◌∙◌, arith}
use Rattle.std.proofs.lemmas.List.{get_or_read}
use Rattle.mpf_madt.specs.Lines.{override_of}
use Rattle.mpf_madt.proofs.FirstLemmas.{first_some-finds, first_some-passes, none_of}
use Rattle.mpf_madt.proofs.line.first_override.Goals as goal

pub returns-in-Some : goal.returns-in-Some
returns-in-Some c =
    let es = c.args.entries.now in
    let i = c.loop-entry.entry-index in
    let inside : i < length es = omega (arith, c.loop-entry-test.true) in
    let e = c.entry-item.result in
    sym (first_some-finds (override_of c.args.irq) es i e c.in-Some.line inside c.loop-entry.invariant (ap (override_of c.args.irq) (sym (get_or_read es i e inside c.entry-item.is e)) ∙ sym c.override_of.ensures ∙ c.in-Some.is))

pub loop-entry-preserved : goal.loop-entry-preserved
loop-entry-preserved c =
    let es = c.args.entries.now in
    let i = c.loop-entry.entry-index in
    let inside : i < length es = omega (arith, c.loop-entry-test.true) in
    let e = c.entry-item.result in
    first_some-passes (override_of c.args.irq) es i e inside c.loop-entry.invariant (ap (override_of c.args.irq) (sym (get_or_read es i e inside c.entry-item.is e)) ∙ sym c.override_of.ensures ∙ none_of c.override_of.result c.in_default.not-Some)
