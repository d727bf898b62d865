-- The text that is played behind a run is that of its board.
use Rattle.std.proofs.Common.{◌≡◌, ℕ, List, Result, Ok, Err, IfOk, ap, ◌∙◌, Vec, Global}
use Rattle.mpt_base.specs.declared.outside.NoMemory.{NoMemory}
use Rattle.mpt_route.specs.declared.platform.Platform.{Platform}
use Rattle.mpb_spec.specs.declared.entry.Entry.{Entry}
use Rattle.mpb_spec.specs.Plan.{Plan}
use Rattle.mpb_spec.specs.Journal.{final_state_of}
use Rattle.mpb_spec.specs.declared.pulse.Pulse.{Pulse}
use Rattle.mpb_spec.specs.declared.pulse.Hit.{Hit}
use Rattle.mpb_robin.specs.RoundRobin.{IsRoundRobinOf}
use Rattle.mpf_pic_lines.specs.declared.op.PicOp.{PicOp}
use Rattle.mpf_pic.specs.Wiring.{WiringState, wiring_of}
use Rattle.mpf_pic.specs.Play.{pic_text}
use Rattle.mpf_played.specs.Played.{IsPlayedBehind}

pub played : (c q : Plan) (p : Platform) (journal : List Entry) (logs : List (List (Pulse × Hit))) (w : WiringState) (ops : List PicOp) (r : Result (Vec ℕ Global) NoMemory) → q ≡ c → w ≡ wiring_of q.boot p (final_state_of q journal)
    → IsRoundRobinOf c journal logs → IfOk r (λ t. t.items ≡ pic_text w ops) → IfOk r (λ t. IsPlayedBehind c p ops t.items)
played c q p journal logs w ops (Ok t) plan wired robin e = (journal, logs, robin, e ∙ ap (λ v. pic_text v ops) (wired ∙ ap (λ (x : Plan). wiring_of x.boot p (final_state_of x journal)) plan))
played c q p journal logs w ops (Err m) plan wired robin e = tt
