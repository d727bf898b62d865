use Rattle.std.proofs.Common.{subst, sym, ap, ◌∙◌, ◌++◌, List, ℕ, ◌<◌, ◌^◌, arith}
use Rattle.std.specs.Prelude.{IsUtf8, decimal}
use Rattle.std.proofs.lemmas.Str.{IsUtf8-from_ascii}
use Rattle.std.proofs.lemmas.Fmt.{IsAscii-decimal}
use Rattle.mptab_c.proofs.words.decimal_word.Goals as goal

pub text_of-requires : goal.text_of-requires
text_of-requires c =
    let fits : c.args.number < 2 ^ 16 = c.ranges.number.fits in
    let small : c.args.number < 2 ^ 64 = omega arith in
    subst IsUtf8 (sym (c.in-Ok.ensures ∙ ap (λ (l : List ℕ). l ++ decimal c.args.number) c.new-digits.ensures.items)) (IsUtf8-from_ascii (decimal c.args.number) (IsAscii-decimal c.args.number small))
