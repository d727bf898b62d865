-- The text that is printed of a run reports it.
use Rattle.std.proofs.Common.{◌≡◌, ℕ, List, Result, Ok, Err, IfOk, ap, ◌∙◌, Vec, Global}
use Rattle.mpt_base.specs.declared.outside.NoMemory.{NoMemory}
use Rattle.mpb_spec.specs.declared.entry.Entry.{Entry}
use Rattle.mpb_spec.specs.Plan.{Plan}
use Rattle.mpb_spec.specs.Configs.{IsStartableAt}
use Rattle.mpb_spec.specs.Journal.{IsComplete}
use Rattle.mpb_start_laws.specs.Starts.{IsStartedOnce}
use Rattle.mpb_spec.specs.declared.pulse.Pulse.{Pulse}
use Rattle.mpb_spec.specs.declared.pulse.Hit.{Hit}
use Rattle.mpb_robin.specs.Account.{AccountsForPulses}
use Rattle.mpb_robin.specs.RoundRobin.{IsRoundRobinOf}
use Rattle.mpb_report_spec.specs.Report.{report_of}
use Rattle.mpb_boards.specs.Boot.{IsTraceOf, IsWholeRunOf, IsBootOf}

module _ (c p : Plan) (journal : List Entry) (logs : List (List (Pulse × Hit))) (plan : p ≡ c) where
  said : (text : List ℕ) → text ≡ report_of p journal logs → text ≡ report_of c journal logs
  said text e = e ∙ ap (λ q. report_of q journal logs) plan

  pub traced : (r : Result (Vec ℕ Global) NoMemory) → IfOk r (λ t. t.items ≡ report_of p journal logs) → IsRoundRobinOf c journal logs → IfOk r (λ t. IsTraceOf c t.items)
  traced (Ok t) e robin = (journal, logs, robin, said t.items e)
  traced (Err m) e robin = tt

  module _ (complete : IsComplete c journal) (accounts : AccountsForPulses c journal logs) (started : (page : ℕ) → IsStartableAt page c → IsStartedOnce page c journal) where
    pub whole : (r : Result (Vec ℕ Global) NoMemory) → IfOk r (λ t. t.items ≡ report_of p journal logs) → IfOk r (λ t. IsWholeRunOf c t.items)
    whole (Ok t) e = (journal, logs, record { complete = complete; accounts = accounts; started = started }, said t.items e)
    whole (Err m) e = tt

    pub booted : (r : Result (Vec ℕ Global) NoMemory) → IfOk r (λ t. t.items ≡ report_of p journal logs) → IfOk r (λ t. (page : ℕ) → IsStartableAt page c → IsBootOf page c t.items)
    booted (Ok t) e = λ page startable. (journal, logs, record { complete = complete; started = started page startable; accounts = accounts }, said t.items e)
    booted (Err m) e = tt
