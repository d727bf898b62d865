-- A board of tables and a script, and the report of its boot (this project's own).
--     board_of tables s              the board's config
--     fault_of tables s              why there is none
--     IsTraceOf c text               the report of the round robin
--     IsWholeRunOf c text            the report of one run to the board's end
--     IsBootOf page c text           the report of one complete boot
use Rattle.std.specs.Prelude.{◌≡◌, ℕ, List, Option}
use Rattle.mpt_spec.specs.declared.tables.Tables.{Tables}
use Rattle.mpt_route.specs.Platform.{platform_of}
use Rattle.mpt_route.specs.Routes.{routes_of}
use Rattle.mpb_spec.specs.declared.entry.Entry.{Entry}
use Rattle.mpb_spec.specs.declared.fault.BoardError.{BoardError}
use Rattle.mpb_spec.specs.Plan.{Plan}
use Rattle.mpb_spec.specs.Configs.{IsStartableAt}
use Rattle.mpb_spec.specs.Journal.{IsComplete}
use Rattle.mpb_script.specs.declared.script.Script.{Script}
use Rattle.mpb_setup.specs.Board.{board_config_of}
use Rattle.mpb_setup.specs.Faults.{board_fault_of}
use Rattle.mpb_start_laws.specs.Starts.{IsStartedOnce}
use Rattle.mpb_spec.specs.declared.pulse.Pulse.{Pulse}
use Rattle.mpb_spec.specs.declared.pulse.Hit.{Hit}
use Rattle.mpb_robin.specs.Account.{AccountsForPulses}
use Rattle.mpb_robin.specs.RoundRobin.{IsRoundRobinOf}
use Rattle.mpb_report_spec.specs.Report.{report_of}

-- the board that the tables and the script describe
abbrev pub board_of : Tables → Script → Plan
board_of tables s = board_config_of (platform_of tables) (routes_of (platform_of tables) s.elcr) s

-- why they describe none
abbrev pub fault_of : Tables → Script → Option BoardError
fault_of tables s = board_fault_of (platform_of tables) s

-- the text reports the round robin of the board
abbrev pub IsTraceOf : Plan → List ℕ → Type 0
IsTraceOf c text = (journal : List Entry) × (logs : List (List (Pulse × Hit))) × IsRoundRobinOf c journal logs × (text ≡ report_of c journal logs)

-- journal and logs are those of a run of the board to its end, whatever its config: a complete legal history, in which every
-- pulse is accounted for; where the boot program starts each other processor at a page, each is started exactly once there
pub record IsWholeRun (c : Plan) (journal : List Entry) (logs : List (List (Pulse × Hit))) : Type 0 where
  pub complete : IsComplete c journal
  pub accounts : AccountsForPulses c journal logs
  pub started : (page : ℕ) → IsStartableAt page c → IsStartedOnce page c journal

-- the text reports one run of the board to its end
abbrev pub IsWholeRunOf : Plan → List ℕ → Type 0
IsWholeRunOf c text = (journal : List Entry) × (logs : List (List (Pulse × Hit))) × IsWholeRun c journal logs × (text ≡ report_of c journal logs)

-- journal and logs are those of a boot: a complete legal history of the board, in which each other processor is started exactly
-- once at the page, and every pulse is accounted for
pub record IsBoot (page : ℕ) (c : Plan) (journal : List Entry) (logs : List (List (Pulse × Hit))) : Type 0 where
  pub complete : IsComplete c journal
  pub started : IsStartedOnce page c journal
  pub accounts : AccountsForPulses c journal logs

-- the text reports one boot of the board
abbrev pub IsBootOf : ℕ → Plan → List ℕ → Type 0
IsBootOf page c text = (journal : List Entry) × (logs : List (List (Pulse × Hit))) × IsBoot page c journal logs × (text ≡ report_of c journal logs)
