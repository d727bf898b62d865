-- The words in which laws are said of the definitions of scripts.
--     IsScript text, IsRefused text             the text is some script, has some first fault
--     IsFirstWrongWord d agent index why        the first wrong word of a document whose keys and count of words are right
use Rattle.std.specs.Prelude.{◌≡◌, ◌≤◌, ℕ, List, ◌∷◌, ◌++◌, length, Some, None}
use Rattle.std.specs.List.{AllByRecursion}
use Rattle.toml.specs.Data.{Data}
use Rattle.mpb_spec.specs.declared.agent.Agent.{Agent}
use Rattle.mpb_words.specs.declared.refusal.WordWhy.{WordWhy}
use Rattle.mpb_script.specs.declared.script.Script.{Script}
use Rattle.mpb_script.specs.declared.script.ScriptFault.{ScriptFault}
use Rattle.mpb_script.specs.Keys.{wrong_key}
use Rattle.mpb_script.specs.Words.{PlacedWord, all_words, word_why}
use Rattle.mpb_script.specs.Script.{IsScriptOf, HasFault}

-- the text is some script
abbrev pub IsScript : List ℕ → Type 0
IsScript text = (s : Script) × IsScriptOf text s

-- the text has some first fault
abbrev pub IsRefused : List ℕ → Type 0
IsRefused text = (f : ScriptFault) × HasFault text f

-- keys and the count of words are right, the words before this one are right, and it is wrong for this cause
pub record IsFirstWrongWord (d : Data) (agent : Agent) (index : ℕ) (why : WordWhy) : Type 0 where
  pub keys : wrong_key d ≡ None
  pub few : length (all_words d) ≤ 8192
  pub before : List PlacedWord
  pub word : PlacedWord
  pub after : List PlacedWord
  pub split : all_words d ≡ before ++ word ∷ after
  pub right : AllByRecursion (λ w. word_why w.agent w.text ≡ None) before
  pub whose : word.agent ≡ agent
  pub place : word.index ≡ index
  pub wrong : word_why word.agent word.text ≡ Some why
