use Rattle.std.proofs.Common.{◌++◌, List, get_or, take, sym, ap, ◌∙◌, arith}
use Rattle.std.specs.List.{flat_map}
use Rattle.std.proofs.lemmas.List.{take_more, flat_map_more, append-nil}
use Rattle.mpt_base.proofs.AppendLemmas.{appended_all}
use Rattle.mpf_pir.specs.declared.comparing.Difference.{Difference}
use Rattle.mpf_pir.specs.declared.comparing.Odd.TheVariants as odd
use Rattle.mpf_answers.specs.PinLines.{pin_line}
use Rattle.mpf_answers.proofs.pin_lines.push_lines.Goals as goal

-- what the code's indexing names past the end
d : Difference
d = record { bus = 0; device = 0; pin = 0; why = odd.OnlyPir }

pub loop-difference-preserved : goal.loop-difference-preserved
unfolding d
loop-difference-preserved c =
    let xs = c.args.differences.now in
    let i = c.loop-difference.difference-index in
    let start = c.args.out.now.items in
    c.in-Ok.ensures ∙ ap (λ text. text ++ pin_line (get_or xs i d)) c.loop-difference.invariant ∙ flat_map_more pin_line start (take i xs) (get_or xs i d)
    ∙ ap (λ (ys : List Difference). start ++ flat_map pin_line ys) (sym (take_more xs i d (omega (arith, c.loop-difference-test.true))))

pub loop-difference-init : goal.loop-difference-init
loop-difference-init c = sym (append-nil c.args.out.now.items)

pub returns : goal.returns
returns c = appended_all pin_line c.args.differences.now c.loop-difference.difference-index c.args.out.now.items c.loop-difference.out.items c.loop-difference-test.false c.loop-difference.invariant
