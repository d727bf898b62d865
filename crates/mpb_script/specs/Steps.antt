-- What steps of the reader give. Only private functions cite it.
use Rattle.std.specs.Prelude.{◌≡◌, ◌⊎◌, ℕ, suc, List, [], ◌∷◌, length, map, codes, Option, Some, None, Result, Ok, Err, sum_by}
use Rattle.toml.specs.Data.{Data}
use Rattle.mpb_spec.specs.declared.agent.Agent.{Agent}
use Rattle.mpb_spec.specs.declared.agent.Agent.TheVariants as of
use Rattle.mpb_spec.specs.declared.config.DevWord.{DevWord}
use Rattle.mpb_words.specs.declared.refusal.WordWhy.{WordWhy}
use Rattle.mpb_words.specs.Words.{cpu_op_of, device_word_of}
use Rattle.mpb_script.specs.declared.script.ScriptFault.{ScriptFault}
use Rattle.mpb_script.specs.declared.script.ScriptFault.TheVariants as fault
use Rattle.mpb_script.specs.declared.script.CpuScript.{CpuScript}
use Rattle.mpb_script.specs.Document.{text_of, elements_at}
use Rattle.mpb_script.specs.Keys.{◌<|>◌}
use Rattle.mpb_script.specs.Words.{cpu_id, words_of, cpu_tables, device_tables}

-- how many words the tables have
abbrev pub word_count : List Data → ℕ
word_count tables = sum_by (λ t. length (elements_at (codes "words") t)) tables

-- the fault of a word, from what it says
abbrev pub fault_from : {A : Type 0} → Agent → ℕ → Result A WordWhy → Option ScriptFault
fault_from agent index (Ok op) = None
fault_from agent index (Err why) = Some (fault.Word agent index why)

-- the first wrong word of a program, whose words are counted from `index`
abbrev pub wrong_word : {A : Type 0} → (List ℕ → Result A WordWhy) → Agent → ℕ → List (List ℕ) → Option ScriptFault
wrong_word word agent index [] = None
wrong_word word agent index (w ∷ ws) = fault_from agent index (word w) <|> wrong_word word agent (suc index) ws

-- the first wrong word of the processors
abbrev pub wrong_cpu_word : List Data → Option ScriptFault
wrong_cpu_word [] = None
wrong_cpu_word (t ∷ ts) = wrong_word cpu_op_of (of.Cpu (cpu_id t)) 0 (words_of t) <|> wrong_cpu_word ts

-- the first wrong word of the devices, which are counted from `number`
abbrev pub wrong_device_word : ℕ → List Data → Option ScriptFault
wrong_device_word number [] = None
wrong_device_word number (t ∷ ts) = wrong_word device_word_of (of.Dev number) 0 (words_of t) <|> wrong_device_word (suc number) ts

-- the first wrong word: the processors come before the devices
unfoldable pub wrong_words : Data → Option ScriptFault
wrong_words d = wrong_cpu_word (cpu_tables d) <|> wrong_device_word 0 (device_tables d)

-- want of memory, or the fault that is found
abbrev pub IsWrong : Option ScriptFault → ScriptFault → Type 0
IsWrong found e = (e ≡ fault.NoMemory) ⊎ (found ≡ Some e)

-- a program without a wrong word, and what its words say
abbrev pub IsProgram : {A : Type 0} → (List ℕ → Result A WordWhy) → Agent → List Data → List A → Type 0
IsProgram word agent ds ops = (map word (map text_of ds) ≡ map Ok ops) × (wrong_word word agent 0 (map text_of ds) ≡ None)

-- processors without a wrong word, and what their tables say
abbrev pub AreCpus : List Data → List CpuScript → Type 0
AreCpus ts cs = (map (λ c. c.id) cs ≡ map cpu_id ts) × (map (λ c. map Ok c.words) cs ≡ map (λ t. map cpu_op_of (words_of t)) ts) × (wrong_cpu_word ts ≡ None)

-- devices likewise
abbrev pub AreDevices : List Data → List (List DevWord) → Type 0
AreDevices ts ps = (map (map Ok) ps ≡ map (λ t. map device_word_of (words_of t)) ts) × (wrong_device_word 0 ts ≡ None)
