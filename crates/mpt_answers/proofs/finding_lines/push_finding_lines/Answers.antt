use Rattle.std.proofs.Common.{◌++◌, List, get_or, take, sym, ap, ◌∙◌, arith}
use Rattle.std.specs.List.{flat_map}
use Rattle.std.proofs.lemmas.List.{take_more, flat_map_more, append-nil}
use Rattle.mpt_base.proofs.AppendLemmas.{appended_all}
use Rattle.mpt_rules.specs.declared.rule.Finding.{Finding}
use Rattle.mpt_answers.specs.FindingLines.{finding_line}
use Rattle.mpt_answers.proofs.finding_lines.push_finding_lines.Goals as goal

-- what the code's indexing names past the end
d : Finding
d = record { rule = 0; entry = 0; other = 0 }

pub loop-finding-preserved : goal.loop-finding-preserved
unfolding d
loop-finding-preserved c =
    let xs = c.args.findings.now in
    let i = c.loop-finding.finding-index in
    let start = c.args.out.now.items in
    c.in-Ok.ensures ∙ ap (λ text. text ++ finding_line (get_or xs i d)) c.loop-finding.invariant ∙ flat_map_more finding_line start (take i xs) (get_or xs i d)
    ∙ ap (λ (ys : List Finding). start ++ flat_map finding_line ys) (sym (take_more xs i d (omega (arith, c.loop-finding-test.true))))

pub loop-finding-init : goal.loop-finding-init
loop-finding-init c = sym (append-nil c.args.out.now.items)

pub returns : goal.returns
returns c = appended_all finding_line c.args.findings.now c.loop-finding.finding-index c.args.out.now.items c.loop-finding.out.items c.loop-finding-test.false c.loop-finding.invariant
