use Rattle.std.proofs.Common.{◌≡◌, [], ◌∷◌, ◌++◌, ◌∙◌, ap, append_assoc, arith}
use Rattle.std.specs.List.{flat_map}
use Rattle.mpt_base.proofs.AppendLemmas.{appended_more, appended_all}
use Rattle.mpt_listing.specs.Listing.{quoted_byte, quoted}
use Rattle.mpt_listing.proofs.text.push_quoted.Goals as goal

pub loop-byte-preserved : goal.loop-byte-preserved
loop-byte-preserved c =
    appended_more quoted_byte c.args.bytes.now c.loop-byte.byte-index 0 c.push.new.self.items c.loop-byte.out.items c.push_quoted_byte.new.out.items (omega (arith, c.loop-byte-test.true)) c.loop-byte.invariant c.in-Ok-push_quoted_byte.ensures

pub returns : goal.returns
unfolding quoted
returns c =
    let before = c.args.out.now.items in
    let inner = flat_map quoted_byte c.args.bytes.now in
    let written : c.loop-byte.out.items ≡ c.push.new.self.items ++ inner = appended_all quoted_byte c.args.bytes.now c.loop-byte.byte-index c.push.new.self.items c.loop-byte.out.items (omega (arith, c.loop-byte-test.false)) c.loop-byte.invariant in
    c.in-Ok-push.ensures.items
    ∙ ap (λ xs. xs ++ 34 ∷ []) (written ∙ ap (λ xs. xs ++ inner) c.in-Ok.ensures.items ∙ append_assoc before (34 ∷ []) inner)
    ∙ append_assoc before (34 ∷ inner) (34 ∷ [])
