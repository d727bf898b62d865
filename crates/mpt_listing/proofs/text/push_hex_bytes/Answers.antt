use Rattle.std.proofs.Common.{rules, ◌≡◌, ◌++◌, ◌∙◌, ℕ, List, subst}
use Rattle.std.specs.Prelude.{OnOk}
use Rattle.mpt_base.specs.Bytes.{IsByteList}
use Rattle.mpt_listing.specs.Listing.{hex_bytes}
use Rattle.mpt_listing.proofs.HexLemmas.{encode_upper-hex_bytes}
use Rattle.mpt_listing.proofs.text.push_hex_bytes.Goals as goal

pub returns : goal.returns
returns c =
    let bytes : IsByteList c.args.bytes.now = λ i. search (rules, c.type_inv.bytes i) in
    let digits : c.as_bytes.result.now ≡ hex_bytes c.args.bytes.now = c.as_bytes.ensures.value ∙ c.in-Ok.ensures ∙ encode_upper-hex_bytes c.args.bytes.now bytes in
    subst (λ (text : List ℕ). OnOk c.extend_from_slice.result (c.extend_from_slice.new.self.items ≡ c.args.out.now.items ++ text)) digits (search rules)
