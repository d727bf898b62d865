-- The walk over an image and the script of a board, as code says it. Only private functions of the crate cite this.
--     IsDescribed told image script tables c    the tables are the image's, and the config is that of the board that the two files describe
--     IsBoardIn tables text c               the config is that of the board that the text of a script describes with the tables
--     RefusesScript tables text status answer    what is said of a text that is no script, or of one that describes no board with the tables
--     IsBoardGiven told image script c       the config is that of the board that the two files describe
--     board_ending_status e, board_ending_text image script e    the status, and the line
--     IsBoardEnding told s image script e    the walk ends at one of the two files for this reason
--     HasAskedForEnd told before after image script e    it asked for no more than the files up to its end
use Rattle.std.specs.Prelude.{◌≤◌, ◌<◌, ℕ, ◌+◌, ◌^◌, List, Option, Some, None, ◌≡◌, ◌⊎◌}
use Rattle.mpt_base.specs.Outside.{Files}
use Rattle.mpt_spec.specs.declared.tables.Tables.{Tables}
use Rattle.mpt_spec.specs.Canonical.{IsWellFormed}
use Rattle.mpb_spec.specs.Plan.{Plan, plan_size}
use Rattle.mpb_spec.specs.Configs.{IsStartableAt}
use Rattle.mpb_spec.specs.declared.fault.BoardError.{BoardError}
use Rattle.mpb_script.specs.declared.script.Script.{Script as AScript}
use Rattle.mpb_script.specs.declared.script.ScriptFault.{ScriptFault}
use Rattle.mpb_script.specs.Script.{IsScriptOf, HasFault}
use Rattle.mpb_script.specs.Values.{HasScriptValues}
use Rattle.mpb_boards.specs.Boot.{board_of, fault_of}
use Rattle.mpb_boards.specs.Lines.{script_fault_line, board_fault_line, IsScriptFault}
use Rattle.mptab_walk.specs.declared.board.BoardEnding.{BoardEnding}
use Rattle.mptab_walk.specs.declared.board.BoardEnding.TheVariants.{AtImage, AtScript}
use Rattle.mptab_walk.specs.Forms.{Image, Script}
use Rattle.mptab_walk.specs.Commands.{ImageGives, IsGivenBoard}
use Rattle.mptab_walk.specs.Walk.{most_of}
use Rattle.mptab_walk.specs.Ending.{Shelves, ending_status, ending_text, IsEnding}

-- the tables are those that the image gives, and the config is that of their board with the script
pub record IsDescribed (told : Option Files) (image script : List ℕ) (tables : Tables) (c : Plan) : Type 0 where
  pub well_formed : IsWellFormed tables
  pub low : tables.at < 2 ^ 32
  pub gives : ImageGives told image tables
  pub board : IsGivenBoard told image script tables c

-- the config is that of the tables and of the script that the text is
pub record IsBoardIn (tables : Tables) (text : List ℕ) (c : Plan) : Type 0 where
  pub script : AScript
  pub values : HasScriptValues script
  pub reads : IsScriptOf text script
  pub sound : fault_of tables script ≡ None
  pub config : c ≡ board_of tables script
  pub startable : IsStartableAt script.page c
  pub small : plan_size c < 2 ^ 32

-- the text has a first fault, or it is a script that describes no board with the tables
abbrev pub RefusesScript : Tables → List ℕ → ℕ → List ℕ → Type 0
RefusesScript tables text status answer =
    ((status ≡ 8) × (f : ScriptFault) × IsScriptFault f × HasFault text f × (answer ≡ script_fault_line f))
    ⊎ ((status ≡ 11) × (s : AScript) × HasScriptValues s × IsScriptOf text s × (e : BoardError) × (fault_of tables s ≡ Some e) × (answer ≡ board_fault_line e))

-- the config is that of the tables that the image gives and of the script
pub record IsBoardGiven (told : Option Files) (image script : List ℕ) (c : Plan) : Type 0 where
  pub tables : Tables
  pub described : IsDescribed told image script tables c

abbrev pub board_ending_status : BoardEnding → ℕ
board_ending_status (AtImage e) = ending_status e
board_ending_status (AtScript e) = ending_status e

abbrev pub board_ending_text : List ℕ → List ℕ → BoardEnding → List ℕ
board_ending_text image script (AtImage e) = ending_text image e
board_ending_text image script (AtScript e) = ending_text script e

-- the walk ends at the image, or, behind an image that gives tables, at the script
abbrev pub IsBoardEnding : Option Files → Shelves → List ℕ → List ℕ → BoardEnding → Type 0
IsBoardEnding told s image script (AtImage e) = IsEnding told s (Image image) e
IsBoardEnding told s image script (AtScript e) = IsEnding told s (Script image script) e × (tables : Tables) × ImageGives told image tables

-- it asked for no more than the image, or than image and script
abbrev pub HasAskedForEnd : Option Files → ℕ → ℕ → List ℕ → List ℕ → BoardEnding → Type 0
HasAskedForEnd told before after image script (AtImage e) = after ≤ before + most_of told (Image image)
HasAskedForEnd told before after image script (AtScript e) = after ≤ before + (most_of told (Image image) + most_of told (Script image script))
