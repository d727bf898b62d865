-- What the answer of `config` says. Where memory ran out, it says nothing.
--     IsCauseOf p s f            the refusal has its cause in the platform and the script
--     AnswersConfig result c     the answer is this config
--     AnswersFault result f      the answer is this fault
use Rattle.std.specs.Prelude.{◌≡◌, Some, Result, Ok, Err, ⊤}
use Rattle.mpt_route.specs.declared.platform.Platform.{Platform}
use Rattle.mpb_spec.specs.declared.fault.BoardError.{BoardError}
use Rattle.mpb_spec.specs.declared.fault.BoardError.TheVariants as fault
use Rattle.mpb_spec.specs.Plan.{Plan}
use Rattle.mpb_script.specs.declared.script.Script.{Script}
use Rattle.mpb_setup.specs.Faults.{board_fault_of}

-- the refusal is the first cause, unless memory ran out
abbrev pub IsCauseOf : Platform → Script → BoardError → Type 0
IsCauseOf p s fault.NoMemory = ⊤
IsCauseOf p s f = board_fault_of p s ≡ Some f

-- the answer is this config, unless memory ran out
abbrev pub AnswersConfig : Result Plan BoardError → Plan → Type 0
AnswersConfig (Ok found) c = found ≡ c
AnswersConfig (Err fault.NoMemory) c = ⊤
AnswersConfig (Err _) c = ⊥

-- the answer is this fault, unless memory ran out
abbrev pub AnswersFault : Result Plan BoardError → BoardError → Type 0
AnswersFault (Ok c) f = ⊥
AnswersFault (Err fault.NoMemory) f = ⊤
AnswersFault (Err found) f = found ≡ f
