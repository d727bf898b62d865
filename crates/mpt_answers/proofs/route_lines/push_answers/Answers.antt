use Rattle.std.proofs.Common.{◌++◌, List, get_or, take, sym, ap, ◌∙◌, arith}
use Rattle.std.specs.List.{flat_map}
use Rattle.std.proofs.lemmas.List.{take_more, flat_map_more, append-nil}
use Rattle.mpt_base.proofs.AppendLemmas.{appended_all}
use Rattle.mpt_route.specs.declared.route.Answer.{Answer}
use Rattle.mpt_route.specs.declared.route.Answer.TheVariants as answer
use Rattle.mpt_answers.specs.RouteLines.{route_line}
use Rattle.mpt_answers.proofs.route_lines.push_answers.Goals as goal

-- what the code's indexing names past the end
d : Answer
d = answer.Routed (record { io = 0; pin = 0; vector = 0; low = 0; high = 0; entry = 0 })

pub loop-answer-preserved : goal.loop-answer-preserved
unfolding d
loop-answer-preserved c =
    let xs = c.args.answers.now in
    let i = c.loop-answer.answer-index in
    let start = c.args.out.now.items in
    c.in-Ok.ensures ∙ ap (λ text. text ++ route_line (get_or xs i d)) c.loop-answer.invariant ∙ flat_map_more route_line start (take i xs) (get_or xs i d)
    ∙ ap (λ (ys : List Answer). start ++ flat_map route_line ys) (sym (take_more xs i d (omega (arith, c.loop-answer-test.true))))

pub loop-answer-init : goal.loop-answer-init
loop-answer-init c = sym (append-nil c.args.out.now.items)

pub returns : goal.returns
returns c = appended_all route_line c.args.answers.now c.loop-answer.answer-index c.args.out.now.items c.loop-answer.out.items c.loop-answer-test.false c.loop-answer.invariant
