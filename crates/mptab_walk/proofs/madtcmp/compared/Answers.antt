use Rattle.std.proofs.Common.{◌≡◌, ◌∙◌, List, subst}
use Rattle.mpf_answers.specs.declared.differing_lines.LineDifference.{LineDifference}
use Rattle.mpf_answers.specs.LineDifferences.{line_differences_text}
use Rattle.mptab_walk.specs.Commands.{status_of}
use Rattle.mptab_walk.proofs.madtcmp.compared.Goals as goal

pub returns-in-Ok-print_line_differences : goal.returns-in-Ok-print_line_differences
returns-in-Ok-print_line_differences c = subst (λ (found : List LineDifference). (c.status_of.result ≡ status_of found) × (c.in-Ok-print_line_differences.text.items ≡ line_differences_text found)) (c.as_slice-differences.ensures.value ∙ c.in-Ok.ensures) (c.status_of.ensures, c.in-Ok-print_line_differences.ensures)
