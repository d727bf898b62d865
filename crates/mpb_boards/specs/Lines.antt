-- The lines for a script or a board that is refused, and for the verdict on a report, this project's own.
--     script_fault_line f    the script is refused
--     board_fault_line f     tables and script describe no board
--     IsScriptFault f, IsBoardFault f    it is no want of memory
--     verdict_line v         the verdict on a report
use Rattle.std.specs.Prelude.{ℕ, List, [], ◌∷◌, codes, decimal, ⊤}
use Rattle.mpt_listing.specs.Listing.{line, hex}
use Rattle.mpb_spec.specs.declared.fault.BoardError.{BoardError}
use Rattle.mpb_spec.specs.declared.fault.BoardError.TheVariants as board
use Rattle.mpb_words.specs.declared.refusal.WordWhy.{WordWhy}
use Rattle.mpb_words.specs.declared.refusal.WordWhy.TheVariants as why
use Rattle.mpb_script.specs.declared.script.KeyName.{KeyName}
use Rattle.mpb_script.specs.declared.script.KeyName.TheVariants as key
use Rattle.mpb_script.specs.declared.script.ScriptFault.{ScriptFault}
use Rattle.mpb_script.specs.declared.script.ScriptFault.TheVariants as fault
use Rattle.mpb_report_spec.specs.EntryLines.{agent_text}
use Rattle.mpb_replay_laws.specs.declared.verdict.BadWhy.{BadWhy}
use Rattle.mpb_replay_laws.specs.declared.verdict.BadWhy.TheVariants as bad_why
use Rattle.mpb_replay_laws.specs.declared.verdict.Verdict.{Verdict}
use Rattle.mpb_replay_laws.specs.declared.verdict.Verdict.TheVariants as verdict

-- the name of a key
abbrev pub key_text : KeyName → List ℕ
key_text key.Page = codes "page"
key_text key.Elcr = codes "elcr"
key_text key.Present = codes "present"
key_text key.Cpu = codes "cpu"
key_text key.CpuId = codes "cpu.id"
key_text key.CpuWords = codes "cpu.words"
key_text key.Device = codes "device"
key_text key.DeviceWords = codes "device.words"
key_text key.Unknown = codes "unknown"

-- why a word is refused
abbrev pub word_why_text : WordWhy → List ℕ
word_why_text why.Name = codes "Name"
word_why_text why.Count = codes "Count"
word_why_text why.Number = codes "Number"
word_why_text why.Range = codes "Range"

-- want of memory is no fault, and has no line
abbrev pub IsScriptFault : ScriptFault → Type 0
IsScriptFault fault.NoMemory = ⊥
IsScriptFault f = ⊤

abbrev pub IsBoardFault : BoardError → Type 0
IsBoardFault board.NoMemory = ⊥
IsBoardFault e = ⊤

-- the script's first fault
abbrev pub script_fault_line : ScriptFault → List ℕ
script_fault_line fault.NotToml = line (codes "mptab: script not toml" ∷ [])
script_fault_line (fault.Key name) = line (codes "mptab: script key " ∷ key_text name ∷ [])
script_fault_line (fault.Many n) = line (codes "mptab: script many " ∷ decimal n ∷ [])
script_fault_line (fault.Word agent index w) = line (codes "mptab: script word " ∷ agent_text agent ∷ codes " index " ∷ decimal index ∷ codes " " ∷ word_why_text w ∷ [])
script_fault_line fault.NoMemory = []

-- why tables and script describe no board
abbrev pub board_fault_line : BoardError → List ℕ
board_fault_line board.NoBoot = line (codes "mptab: board no boot processor" ∷ [])
board_fault_line (board.DoubleId id) = line (codes "mptab: board double id " ∷ hex 2 id ∷ [])
board_fault_line (board.WideId id) = line (codes "mptab: board wide id " ∷ hex 2 id ∷ [])
board_fault_line (board.BootWide id) = line (codes "mptab: board boot wide " ∷ hex 2 id ∷ [])
board_fault_line (board.BootAbsent id) = line (codes "mptab: board boot absent " ∷ hex 2 id ∷ [])
board_fault_line (board.ManyCpus n) = line (codes "mptab: board many processors " ∷ decimal n ∷ [])
board_fault_line (board.ManyIo n) = line (codes "mptab: board many ioapics " ∷ decimal n ∷ [])
board_fault_line (board.NoIo place) = line (codes "mptab: board no ioapic " ∷ decimal place ∷ [])
board_fault_line board.NoMemory = []

-- why an entry is no step
abbrev pub bad_why_text : BadWhy → List ℕ
bad_why_text bad_why.NoAgent = codes "NoAgent"
bad_why_text bad_why.Waits = codes "Waits"
bad_why_text bad_why.Program = codes "Program"
bad_why_text bad_why.Outcome = codes "Outcome"

-- the verdict on a report
abbrev pub verdict_line : Verdict → List ℕ
verdict_line verdict.Legal = line (codes "replay legal" ∷ [])
verdict_line (verdict.Bad entry w) = line (codes "replay bad " ∷ decimal entry ∷ codes " " ∷ bad_why_text w ∷ [])
verdict_line (verdict.Unfinished agent) = line (codes "replay unfinished " ∷ agent_text agent ∷ [])
verdict_line (verdict.Log device) = line (codes "replay log " ∷ decimal device ∷ [])
verdict_line (verdict.Accounts io pin) = line (codes "replay accounts " ∷ decimal io ∷ codes " " ∷ decimal pin ∷ [])
verdict_line (verdict.State n) = line (codes "replay state " ∷ decimal n ∷ [])
