use Rattle.std.proofs.Common.{List, ℕ, [], ◌∷◌, ◌++◌, codes, append_assoc, ap, ◌∙◌}
use Rattle.std.specs.List.{concat}
use Rattle.mpt_listing.specs.Listing.{hex}
use Rattle.mpb_report.proofs.DigitLemmas.{pair_piece, extended}
use Rattle.mpb_report.proofs.entry_lines.push_pair.Goals as goal

pub returns : goal.returns
returns c =
    let old = c.args.out.now.items in
    let name = c.args.name.now in
    let digits = c.digit.result ∷ c.digit-2.result ∷ 32 ∷ c.digit-3.result ∷ c.digit-4.result ∷ [] in
    let piece = pair_piece name c.args.one c.args.other c.digit.result c.digit-2.result c.digit-3.result c.digit-4.result c.digit.ensures c.digit-2.ensures c.digit-3.ensures c.digit-4.ensures in
    let named = c.in_default.ensures in
    extended c.extend_from_slice.result c.extend_from_slice.new.self.items c.push_text.new.out.items digits (old ++ concat (name ∷ hex 2 c.args.one ∷ codes " " ∷ hex 2 c.args.other ∷ [])) c.extend_from_slice.ensures.items (
    ap (λ (t : List ℕ). t ++ digits) named ∙ append_assoc old name digits ∙ ap (λ (t : List ℕ). old ++ t) piece
    )
