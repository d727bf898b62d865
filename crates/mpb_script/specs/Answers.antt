-- What the answer of the reader of a script says. Where memory ran out, it says nothing.
--     IsCauseOf text f           the refusal has its cause in the text
--     AnswersScript result s     the answer is this script
--     AnswersFault result f      the answer is this fault
use Rattle.std.specs.Prelude.{◌≡◌, ℕ, List, Result, Ok, Err, ⊤}
use Rattle.mpb_script.specs.declared.script.Script.{Script}
use Rattle.mpb_script.specs.declared.script.ScriptFault.{ScriptFault}
use Rattle.mpb_script.specs.declared.script.ScriptFault.TheVariants as fault
use Rattle.mpb_script.specs.Script.{HasFault}

-- the refusal has its cause in the text, unless memory ran out
abbrev pub IsCauseOf : List ℕ → ScriptFault → Type 0
IsCauseOf text fault.NoMemory = ⊤
IsCauseOf text f = HasFault text f

-- the answer is this script, unless memory ran out
abbrev pub AnswersScript : Result Script ScriptFault → Script → Type 0
AnswersScript (Ok found) s = found ≡ s
AnswersScript (Err fault.NoMemory) s = ⊤
AnswersScript (Err _) s = ⊥

-- the answer is this fault, unless memory ran out
abbrev pub AnswersFault : Result Script ScriptFault → ScriptFault → Type 0
AnswersFault (Ok s) f = ⊥
AnswersFault (Err fault.NoMemory) f = ⊤
AnswersFault (Err found) f = found ≡ f
