-- What a script is, and why a text is none (this project's own format).
--     IsScriptOf text s     the text is this script
--     HasFault text f       the text is refused, and this is its first fault
use Rattle.std.specs.Prelude.{◌≡◌, ℕ, List, Some, None, option_map, codes, map, Ok}
use Rattle.toml.specs.Data.{Data, Members, get, table}
use Rattle.mpb_words.specs.Words.{cpu_op_of, device_word_of}
use Rattle.mpb_script.specs.declared.script.ScriptFault.{ScriptFault}
use Rattle.mpb_script.specs.declared.script.ScriptFault.TheVariants as fault
use Rattle.mpb_script.specs.declared.script.Script.{Script}
use Rattle.mpb_script.specs.Document.{HasDocument, number_in, number_at, elements}
use Rattle.mpb_script.specs.Words.{cpu_tables, device_tables, cpu_id, words_of, script_fault_of}

-- a document says this script, table by table and word by word
pub record Describes (d : Data) (s : Script) : Type 0 where
  pub page : s.page ≡ number_at 255 (codes "page") d
  pub elcr : s.elcr ≡ number_at 65535 (codes "elcr") d
  pub present : s.present ≡ option_map (λ v. map (number_in 254) (elements v)) (get (codes "present") d)
  pub cpu_ids : map (λ c. c.id) s.cpus ≡ map cpu_id (cpu_tables d)
  pub cpu_words : map (λ c. map Ok c.words) s.cpus ≡ map (λ t. map cpu_op_of (words_of t)) (cpu_tables d)
  pub device_words : map (map Ok) s.devices ≡ map (λ t. map device_word_of (words_of t)) (device_tables d)

-- the text is a document without a fault, and says this script
pub record IsScriptOf (text : List ℕ) (s : Script) : Type 0 where
  pub members : Members
  pub document : HasDocument text members
  pub sound : script_fault_of (table members) ≡ None
  pub says : Describes (table members) s

-- the text is no document, or a document whose first fault is this one
abbrev pub HasFault : List ℕ → ScriptFault → Type 0
HasFault text fault.NotToml = (ms : Members) → HasDocument text ms → ⊥
HasFault text fault.NoMemory = ⊥
HasFault text f = (ms : Members) × HasDocument text ms × (script_fault_of (table ms) ≡ Some f)
