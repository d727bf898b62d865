use Rattle.std.proofs.Common.{refl, sym, ap, ◌∙◌, ◌++◌, append-nil}
use Rattle.mpt_parse.specs.Listings.{end_line}
use Rattle.mpt_parse.proofs.Prefix.{end_stop, late}
use Rattle.mpt_parse.proofs.EntryLines.{no_bytes, some_bytes}
use Rattle.mpt_parse.proofs.parsing.end_fault.Goals as goal

pub returns-in-None-clause-some : goal.returns-in-None-clause-some
returns-in-None-clause-some c = end_stop c.args.rest.now c.args.before c.unfinished.result c.in-None.ensures.none c.unfinished.ensures

pub returns-in-Some-clause-none : goal.returns-in-Some-clause-none
returns-in-Some-clause-none c =
    c.in-Some.ensures.some ∙ ap (λ x. end_line ++ x) (no_bytes c.in-Some.rest.now (sym c.is_empty.ensures ∙ c.if-is_empty.true)) ∙ append-nil end_line

pub returns-in-Some-2-clause-some : goal.returns-in-Some-2-clause-some
returns-in-Some-2-clause-some c = (2, refl, late c.args.rest.now c.in-Some.rest.now c.args.before c.in-Some.ensures.some (some_bytes c.in-Some.rest.now (sym c.is_empty.ensures ∙ c.if-is_empty.false)))
