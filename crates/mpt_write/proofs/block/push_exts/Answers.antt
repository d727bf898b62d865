use Rattle.std.proofs.Common.{◌++◌, length, ap, ◌∙◌, ◌+◌, arith}
use Rattle.std.specs.Prelude.{sum_by}
use Rattle.std.proofs.lemmas.List.{take_all}
use Rattle.mpt_base.proofs.AppendLemmas.{appended_more, appended_all}
use Rattle.mpt_spec.specs.Extended.{ext_length}
use Rattle.mpt_spec.specs.Image.{ext_bytes}
use Rattle.mpt_write.proofs.SizeLemmas.{summed_more}
use Rattle.mpt_write.proofs.block.push_exts.Goals as goal

pub loop-entry-preserved : goal.loop-entry-preserved
loop-entry-preserved c =
    let entries = c.args.entries.now in
    let i = c.loop-entry.entry-index in
    let entry = c.entry-item.result in (
      appended_more ext_bytes entries i entry c.args.out.now.items c.loop-entry.out.items c.write_ext.new.out.items (omega (arith, c.loop-entry-test.true)) c.loop-entry.invariant.0
          (c.in-Ok.ensures.ok ∙ ap (λ x. c.loop-entry.out.items ++ ext_bytes x) c.entry-item.is),
      summed_more ext_length entries i entry (length c.args.out.now.items) (length c.loop-entry.out.items) (length c.write_ext.new.out.items) (omega (arith, c.loop-entry-test.true)) c.loop-entry.invariant.1
          (c.in-Ok.ensures.size ∙ ap (λ x. length c.loop-entry.out.items + ext_length x) c.entry-item.is),
    )

pub returns-clause-bytes : goal.returns-clause-bytes
returns-clause-bytes c = appended_all ext_bytes c.args.entries.now c.loop-entry.entry-index c.args.out.now.items c.loop-entry.out.items (omega (arith, c.loop-entry-test.false)) c.loop-entry.invariant.0

pub returns-clause-size : goal.returns-clause-size
returns-clause-size c = c.loop-entry.invariant.1 ∙ ap (λ es. length c.args.out.now.items + sum_by ext_length es) (take_all c.loop-entry.entry-index c.args.entries.now (omega (arith, c.loop-entry-test.false)))
