use Rattle.std.proofs.Common.{◌≡◌, [], ◌∷◌, ◌++◌, append_assoc, arith}
use Rattle.std.specs.List.{flat_map}
use Rattle.mpt_base.proofs.AppendLemmas.{appended_more, appended_all}
use Rattle.mpt_listing.specs.Part.{part_text}
use Rattle.mpt_listing.proofs.TextLemmas.{line_of_parts}
use Rattle.mpt_listing.proofs.text.push_line.Goals as goal

pub loop-part-preserved : goal.loop-part-preserved
loop-part-preserved c =
    appended_more part_text c.args.parts.now c.loop-part.part-index _ c.args.out.now.items c.loop-part.out.items c.push_part.new.out.items (omega (arith, c.loop-part-test.true)) c.loop-part.invariant c.in-Ok.ensures

pub returns : goal.returns
returns c =
    let written : c.loop-part.out.items ≡ c.args.out.now.items ++ flat_map part_text c.args.parts.now = appended_all part_text c.args.parts.now c.loop-part.part-index c.args.out.now.items c.loop-part.out.items (omega (arith, c.loop-part-test.false)) c.loop-part.invariant in
    let ended : c.push.new.self.items ≡ c.loop-part.out.items ++ 10 ∷ [] = c.in-Ok-push.ensures.items in
    rw (ended, written, line_of_parts part_text c.args.parts.now)
    (append_assoc c.args.out.now.items (flat_map part_text c.args.parts.now) (10 ∷ []))
