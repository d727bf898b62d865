-- Calls of the pair of 8259A behind the round robin of a board (this project's own).
--     IsPlayedBehind c p ops text    the text is that of the calls, wired as the round robin leaves the board
use Rattle.std.specs.Prelude.{◌≡◌, ℕ, List}
use Rattle.mpt_route.specs.declared.platform.Platform.{Platform}
use Rattle.mpb_spec.specs.declared.entry.Entry.{Entry}
use Rattle.mpb_spec.specs.Plan.{Plan}
use Rattle.mpb_spec.specs.Journal.{final_state_of}
use Rattle.mpb_spec.specs.declared.pulse.Pulse.{Pulse}
use Rattle.mpb_spec.specs.declared.pulse.Hit.{Hit}
use Rattle.mpb_robin.specs.RoundRobin.{IsRoundRobinOf}
use Rattle.mpf_pic_lines.specs.declared.op.PicOp.{PicOp}
use Rattle.mpf_pic.specs.Wiring.{wiring_of}
use Rattle.mpf_pic.specs.Play.{pic_text}

-- the text is that of the calls on a pair at power-on; its INTR is wired to the boot processor as the journal of the round robin
-- leaves the board
abbrev pub IsPlayedBehind : Plan → Platform → List PicOp → List ℕ → Type 0
IsPlayedBehind c p ops text =
    (journal : List Entry) × (logs : List (List (Pulse × Hit))) × IsRoundRobinOf c journal logs × (text ≡ pic_text (wiring_of c.boot p (final_state_of c journal)) ops)
