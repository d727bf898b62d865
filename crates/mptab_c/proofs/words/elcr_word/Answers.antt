use Rattle.std.proofs.Common.{subst, sym, ap, ◌∙◌, ◌++◌, List, ℕ}
use Rattle.std.specs.Prelude.{IsUtf8}
use Rattle.mpt_listing.specs.Listing.{hex}
use Rattle.mptab_c.proofs.DigitLemmas.{IsUtf8-hex}
use Rattle.mptab_c.proofs.words.elcr_word.Goals as goal

pub text_of-requires : goal.text_of-requires
text_of-requires c = subst IsUtf8 (sym (c.in-Ok.ensures ∙ ap (λ (l : List ℕ). l ++ hex 4 c.args.elcr) c.new-digits.ensures.items)) (IsUtf8-hex 4 c.args.elcr)
