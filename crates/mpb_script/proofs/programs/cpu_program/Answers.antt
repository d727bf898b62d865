use Rattle.std.proofs.Common.{◌≡◌, List, map, Ok, Err, sym, ap, ◌∙◌, inr, subst}
use Rattle.mpb_spec.specs.declared.agent.Op.{Op}
use Rattle.mpb_script.specs.Steps.{IsProgram}
use Rattle.toml.specs.View.{view}
use Rattle.mpb_script.specs.Document.{text_of}
use Rattle.mpb_words.specs.Words.{cpu_op_of}
use Rattle.mpb_script.proofs.ProgramLemmas.{said_on, said_all, wrong_word-on, wrong_word-here, wrong_word-end}
use Rattle.mpb_script.proofs.programs.cpu_program.Goals as goal

pub loop-index-preserved : goal.loop-index-preserved
loop-index-preserved c =
    let words = c.args.words.now in
    let i = c.loop-index.index in
    let v = c.index-words-index.result in
    let op = c.in-Ok.op in
    let says : cpu_op_of (text_of (view v)) ≡ Ok op = ap cpu_op_of (sym c.text.ensures) ∙ sym c.in-Ok.ensures.says in (
      said_on cpu_op_of words i v op c.loop-index.program.items c.loop-index-test.true c.index-words-index.is says c.loop-index.invariant.0 ∙ ap (map Ok) (sym c.in-Ok-push.ensures.items),
      sym (wrong_word-on cpu_op_of c.args.agent words i v op c.loop-index-test.true c.index-words-index.is says) ∙ c.loop-index.invariant.1,
    )

pub returns-in-Err-clause-wrong : goal.returns-in-Err-clause-wrong
returns-in-Err-clause-wrong c =
    let words = c.args.words.now in
    let i = c.loop-index.index in
    let v = c.index-words-index.result in
    let says : cpu_op_of (text_of (view v)) ≡ Err c.in-Err.why = ap cpu_op_of (sym c.text.ensures) ∙ sym c.in-Err.ensures.says in
    inr (sym c.loop-index.invariant.1 ∙ wrong_word-here cpu_op_of c.args.agent words i v c.in-Err.why c.loop-index-test.true c.index-words-index.is says)

pub returns-clause-program : goal.returns-clause-program
returns-clause-program c =
    let words = c.args.words.now in
    let i = c.loop-index.index in
    subst (λ (ops : List Op). IsProgram cpu_op_of c.args.agent (map view words) ops) (sym c.new.ensures) (
      said_all cpu_op_of words i c.loop-index.program.items c.loop-index-test.false c.loop-index.invariant.0,
      sym c.loop-index.invariant.1 ∙ wrong_word-end cpu_op_of c.args.agent words i c.loop-index-test.false,
    )
