use Rattle.std.proofs.Common.{◌≡◌, ℕ, subst, ap, ◌∙◌}
use Rattle.mpb_spec.specs.Plan.{Plan}
use Rattle.mpb_spec.specs.Pulses.{logs_of}
use Rattle.mpb_robin.specs.RoundRobin.{IsRoundRobinOf}
use Rattle.mpb_tally.specs.Tally.{tally_of}
use Rattle.mpb_tally.specs.Summary.{summary_of, IsSummaryOf}
use Rattle.mpb_tally.proofs.CountLemmas.{answer_only}
use Rattle.mpb_tally.proofs.summary.drill_summary.Goals as goal

pub returns : goal.returns
returns c =
    let n = c.args.n in
    let journal = c.in-Ok-ran.ran.board.journal in
    let logs = logs_of c.in-Ok-ran.ran.account in
    let counted = λ (routes : ℕ). summary_of n routes (tally_of journal logs) in
    record {
      summary = answer_only c.counted.result (λ text. text.items ≡ counted c.in-Ok.routes) (λ text. IsSummaryOf n text.items)
          (λ text is. (
            journal,
            logs,
            subst (λ (p : Plan). IsRoundRobinOf p journal logs) c.in-Ok.ensures.board c.in-Ok-ran.ensures.robin,
            is ∙ ap counted c.in-Ok.ensures.routes,
          ))
          c.counted.ensures.text;
    }
