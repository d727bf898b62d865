use Rattle.std.proofs.Common.{◌≡◌, ◌++◌, ◌+◌, ◌-◌, ◌/◌, ◌∙◌, ap, arith}
use Rattle.std.specs.Int.{div_ceil}
use Rattle.mpt_rows.proofs.PieceLemmas.{multiples, no_multiples, multiples_more}
use Rattle.mpt_rows.proofs.plain.push_places.Goals as goal

pub loop-paragraph-init : goal.loop-paragraph-init
loop-paragraph-init c =
    let low = (c.args.area.from + 15) / 16 in
    let same : div_ceil c.args.area.from 16 ≡ low = omega arith in
    (omega (arith, same, c.div_ceil-paragraph.ensures), no_multiples c.args.out.now.items low (c.div_ceil-paragraph.result - low) (omega (arith, same, c.div_ceil-paragraph.ensures)))

pub loop-paragraph-preserved : goal.loop-paragraph-preserved
loop-paragraph-preserved c =
    let low = (c.args.area.from + 15) / 16 in
    let same : div_ceil c.args.area.from 16 ≡ low = omega arith in
    let k = c.loop-paragraph.paragraph in (
      omega (arith, c.loop-paragraph-test.true),
      multiples_more c.loop-paragraph.out.items c.args.out.now.items c.push.new.self.items low (k - low) (k + 1 - low) k
          (omega (arith, same, c.div_ceil-paragraph.ensures, c.loop-paragraph.auto.paragraph)) (omega (arith, same, c.div_ceil-paragraph.ensures, c.loop-paragraph.auto.paragraph))
          c.loop-paragraph.invariant.1 c.in_ok-push.ensures.items,
    )

pub returns : goal.returns
returns c =
    let low = (c.args.area.from + 15) / 16 in
    let same : div_ceil c.args.area.from 16 ≡ low = omega arith in
    let k = c.loop-paragraph.paragraph in
    let end : k - low ≡ c.args.area.to / 16 - low = omega (arith, same, c.div_ceil-paragraph.ensures, c.loop-paragraph.auto.paragraph, c.loop-paragraph.invariant.0, c.loop-paragraph-test.false) in
    c.loop-paragraph.invariant.1 ∙ ap (λ n. c.args.out.now.items ++ multiples low n) end
