use Rattle.std.proofs.Common.{arith, ◌<◌, ◌^◌, ◌+◌, ◌∷◌, [], length, take, subst, sym, ap, map}
use Rattle.std.proofs.lemmas.List.{length-map}
use Rattle.mpb_latch.specs.Rule.{IsBalanced, opening_view}
use Rattle.mpb_latch.proofs.Cuts.{opens}
use Rattle.mpb_latch.proofs.opening.open_words.Goals as goal

pub of_words-requires : goal.of_words-requires
of_words-requires c =
    let items = c.args.plans.now.items in
    let ios = c.args.ios in
    let short : length (map (λ p. p.items) items) < 2 ^ 64 = (let l = length-map items (λ p. p.items) in let r = c.requires.1 in omega arith) in
    let same = ap (λ v. map (λ p. p.items) v.items) c.of.ensures in
    subst (λ ps. IsBalanced ios ps (Rattle.atomic_table.specs.Table.opening (take (ios + 1) (0 ∷ 0 ∷ 0 ∷ 0 ∷ 0 ∷ [])) [] (opening_view ios ps))) (sym same) (opens ios (map (λ p. p.items) items) c.requires.0 short)
