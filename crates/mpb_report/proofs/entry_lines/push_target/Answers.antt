use Rattle.std.proofs.Common.{List, ℕ, [], ◌∷◌, ◌++◌, codes, ap}
use Rattle.mpt_listing.specs.Listing.{hex}
use Rattle.mpb_report.proofs.DigitLemmas.{target_piece, extended}
use Rattle.mpb_report.proofs.entry_lines.push_target.Goals as goal

pub returns : goal.returns
returns c =
    let piece = target_piece c.args.id c.digit.result c.digit-2.result c.digit.ensures c.digit-2.ensures in
    let old = c.args.out.now.items in
    extended c.extend_from_slice.result c.extend_from_slice.new.self.items old (32 ∷ c.digit.result ∷ c.digit-2.result ∷ 61 ∷ []) (old ++ (codes " " ++ (hex 2 c.args.id ++ codes "="))) c.extend_from_slice.ensures.items (ap (λ (t : List ℕ). old ++ t) piece)
