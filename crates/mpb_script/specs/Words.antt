-- The words of a script, and the first wrong one (this project's own format).
--     all_words d            the words of a document, processors before devices
--     script_fault_of d      the first fault of a document: of its keys, its count of words, its words
use Rattle.std.specs.Prelude.{ℕ, suc, min, ◌-◌, ◌^◌, List, [], ◌∷◌, ◌++◌, length, map, codes, Option, Some, None, option_map, Result, Ok, Err, nat_le, if◌then◌else◌}
use Rattle.std.specs.List.{flat_map}
use Rattle.toml.specs.Data.{Data}
use Rattle.mpb_spec.specs.declared.agent.Agent.{Agent}
use Rattle.mpb_spec.specs.declared.agent.Agent.TheVariants as of
use Rattle.mpb_words.specs.declared.refusal.WordWhy.{WordWhy}
use Rattle.mpb_words.specs.Words.{cpu_op_of, device_word_of}
use Rattle.mpb_script.specs.declared.script.ScriptFault.{ScriptFault}
use Rattle.mpb_script.specs.declared.script.ScriptFault.TheVariants as fault
use Rattle.mpb_script.specs.Document.{text_of, number_at, elements_at}
use Rattle.mpb_script.specs.Keys.{wrong_key, ◌<|>◌}

-- the tables of the processors
abbrev pub cpu_tables : Data → List Data
cpu_tables d = elements_at (codes "cpu") d

-- the tables of the devices
abbrev pub device_tables : Data → List Data
device_tables d = elements_at (codes "device") d

-- the id of a `cpu` table
abbrev pub cpu_id : Data → ℕ
cpu_id t = number_at 254 (codes "id") t

-- the texts of a table's words
abbrev pub words_of : Data → List (List ℕ)
words_of t = map text_of (elements_at (codes "words") t)

-- a word of a document: whose it is, its index in the program from 0, and its text
pub record PlacedWord : Type 0 where
  pub agent : Agent
  pub index : ℕ
  pub text : List ℕ

-- the words of a program, counted from `index`
abbrev pub placed : Agent → ℕ → List (List ℕ) → List PlacedWord
placed agent index [] = []
placed agent index (w ∷ ws) = record { agent = agent; index = index; text = w } ∷ placed agent (suc index) ws

-- the words of a `cpu` table
abbrev pub cpu_words : Data → List PlacedWord
cpu_words t = placed (of.Cpu (cpu_id t)) 0 (words_of t)

-- the words of the `device` tables, which are counted from `number`
abbrev pub device_words : ℕ → List Data → List PlacedWord
device_words number [] = []
device_words number (t ∷ ts) = placed (of.Dev number) 0 (words_of t) ++ device_words (suc number) ts

-- all words, in the order in which they are judged: the processors come before the devices
unfoldable pub all_words : Data → List PlacedWord
all_words d = flat_map cpu_words (cpu_tables d) ++ device_words 0 (device_tables d)

-- why a word is wrong, from what it says
abbrev pub why_wrong : {A : Type 0} → Result A WordWhy → Option WordWhy
why_wrong (Ok says) = None
why_wrong (Err why) = Some why

-- a word is judged as one of its agent's kind; an I/O APIC has none
abbrev pub word_why : Agent → List ℕ → Option WordWhy
word_why (of.Cpu id) text = why_wrong (cpu_op_of text)
word_why (of.Dev number) text = why_wrong (device_word_of text)
word_why (of.Io place) text = None

-- its fault, where it is wrong
abbrev pub word_fault : PlacedWord → Option ScriptFault
word_fault w = option_map (λ why. fault.Word w.agent w.index why) (word_why w.agent w.text)

-- what the first member has that has any
abbrev pub first_some : {A B : Type 0} → (A → Option B) → List A → Option B
first_some f [] = None
first_some f (x ∷ xs) = f x <|> first_some f xs

-- more than 8,192 words, with their number, which stops at the end of u32
abbrev pub many : ℕ → Option ScriptFault
many n = if nat_le n 8192 then None else Some (fault.Many (min n (2 ^ 32 - 1)))

-- the first fault of a document: a wrong or missing key, too many words, the first wrong word
unfoldable pub script_fault_of : Data → Option ScriptFault
script_fault_of d = option_map fault.Key (wrong_key d) <|> many (length (all_words d)) <|> first_some word_fault (all_words d)
