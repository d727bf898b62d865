-- The words of a script: which names there are, their numbers, and what each says (this project's own format).
--     cpu_op_of word        the operation that a processor's word says, or why it is wrong
--     device_word_of word   what a device's word says, or why it is wrong
use Rattle.std.specs.Prelude.{ℕ, ◌==◌, ◌||◌, Bool, true, List, [], ◌∷◌, Option, Some, None, codes, bytes_eq, if◌then◌else◌, Result, Ok, Err}
use Rattle.std.specs.List.{slice_split}
use Rattle.mpb_spec.specs.declared.agent.Op.{Op}
use Rattle.mpb_spec.specs.declared.agent.Op.TheVariants as op
use Rattle.mpb_spec.specs.declared.config.DevWord.{DevWord}
use Rattle.mpb_spec.specs.declared.config.DevWord.TheVariants as dev
use Rattle.mpb_words.specs.declared.refusal.WordWhy.{WordWhy}
use Rattle.mpb_words.specs.declared.refusal.WordWhy.TheVariants as why
use Rattle.mpb_words.specs.declared.names.CpuName.{CpuName}
use Rattle.mpb_words.specs.declared.names.CpuName.TheVariants as cpu
use Rattle.mpb_words.specs.declared.names.DeviceName.{DeviceName}
use Rattle.mpb_words.specs.declared.names.DeviceName.TheVariants as device
use Rattle.mpb_words.specs.Numbers.{numbers_of}

-- a word is cut at each of its spaces; a part may be empty
abbrev pub parts_of : List ℕ → List (List ℕ)
parts_of word = slice_split (λ b. b == 32) word

-- the names of a processor's words
abbrev pub cpu_name_of : List ℕ → Option CpuName
cpu_name_of t =
    if bytes_eq t (codes "ipi") then Some cpu.Ipi
    else if bytes_eq t (codes "ipl") then Some cpu.Ipl
    else if bytes_eq t (codes "nmi") then Some cpu.Nmi
    else if bytes_eq t (codes "take") then Some cpu.Take
    else if bytes_eq t (codes "poll") then Some cpu.Poll
    else if bytes_eq t (codes "eoi") then Some cpu.Eoi
    else if bytes_eq t (codes "tpr") then Some cpu.Tpr
    else if bytes_eq t (codes "ldr") then Some cpu.Ldr
    else if bytes_eq t (codes "dfr") then Some cpu.Dfr
    else if bytes_eq t (codes "iosel") then Some cpu.IoSel
    else if bytes_eq t (codes "iowin") then Some cpu.IoWin
    else if bytes_eq t (codes "ioread") then Some cpu.IoRead
    else if bytes_eq t (codes "pause") then Some cpu.Pause
    else None

-- the greatest values of its numbers
abbrev pub cpu_limits : CpuName → List ℕ
cpu_limits cpu.Ipi = 255 ∷ 255 ∷ []
cpu_limits cpu.Ipl = 255 ∷ 255 ∷ []
cpu_limits cpu.Nmi = 255 ∷ []
cpu_limits cpu.Take = []
cpu_limits cpu.Poll = []
cpu_limits cpu.Eoi = []
cpu_limits cpu.Tpr = 255 ∷ []
cpu_limits cpu.Ldr = 255 ∷ []
cpu_limits cpu.Dfr = 15 ∷ []
cpu_limits cpu.IoSel = 3 ∷ 255 ∷ []
cpu_limits cpu.IoWin = 3 ∷ 4294967295 ∷ []
cpu_limits cpu.IoRead = 3 ∷ []
cpu_limits cpu.Pause = 1000000 ∷ []

-- within them all numbers are in range, but for those of a model of logical destinations: it is 0 or 15
abbrev pub is_in_range : CpuName → ℕ → Bool
is_in_range cpu.Dfr a = (a == 0) || (a == 15)
is_in_range _ a = true

-- the operation of a name and its numbers
abbrev pub cpu_op : CpuName → ℕ → ℕ → Op
cpu_op cpu.Ipi a b = op.Ipi a b
cpu_op cpu.Ipl a b = op.Ipl a b
cpu_op cpu.Nmi a b = op.Nmi a
cpu_op cpu.Take a b = op.Take
cpu_op cpu.Poll a b = op.Poll
cpu_op cpu.Eoi a b = op.Eoi
cpu_op cpu.Tpr a b = op.Tpr a
cpu_op cpu.Ldr a b = op.Ldr a
cpu_op cpu.Dfr a b = op.Dfr a
cpu_op cpu.IoSel a b = op.IoSel a b
cpu_op cpu.IoWin a b = op.IoWin a b
cpu_op cpu.IoRead a b = op.IoRead a
cpu_op cpu.Pause a b = op.Pause a

-- the names of a device's words
abbrev pub device_name_of : List ℕ → Option DeviceName
device_name_of t =
    if bytes_eq t (codes "pulse") then Some device.Pulse
    else if bytes_eq t (codes "high") then Some device.High
    else if bytes_eq t (codes "low") then Some device.Low
    else None

-- the greatest values of its numbers: an I/O APIC's place and a pin
abbrev pub device_limits : DeviceName → List ℕ
device_limits _ = 3 ∷ 23 ∷ []

-- the word of a name and its numbers
abbrev pub device_word : DeviceName → ℕ → ℕ → DevWord
device_word device.Pulse a b = dev.Pulse a b
device_word device.High a b = dev.High a b
device_word device.Low a b = dev.Low a b

-- what a name and its numbers say
abbrev pub said : {A : Type 0} → (ℕ → ℕ → A) → Result (ℕ × ℕ) WordWhy → Result A WordWhy
said f (Err w) = Err w
said f (Ok n) = Ok (f n.0 n.1)

-- the numbers of a name, where they are in range
abbrev pub ranged : CpuName → Result (ℕ × ℕ) WordWhy → Result (ℕ × ℕ) WordWhy
ranged name (Err w) = Err w
ranged name (Ok n) = if is_in_range name n.0 then Ok n else Err why.Range

-- the first part is the name, and all others stand for numbers
abbrev pub cpu_op_named : Option CpuName → List (List ℕ) → Result Op WordWhy
cpu_op_named None parts = Err why.Name
cpu_op_named (Some name) parts = said (cpu_op name) (ranged name (numbers_of (cpu_limits name) parts))

-- what the parts of a processor's word say: the first is the name
abbrev pub cpu_op_in : List (List ℕ) → Result Op WordWhy
cpu_op_in [] = Err why.Name
cpu_op_in (t ∷ parts) = cpu_op_named (cpu_name_of t) parts

-- what a processor's word says
unfoldable pub cpu_op_of : List ℕ → Result Op WordWhy
cpu_op_of word = cpu_op_in (parts_of word)

-- what a name and the parts after it say, of a device
abbrev pub device_word_named : Option DeviceName → List (List ℕ) → Result DevWord WordWhy
device_word_named None parts = Err why.Name
device_word_named (Some name) parts = said (device_word name) (numbers_of (device_limits name) parts)

-- what the parts of a device's word say: the first is the name
abbrev pub device_word_in : List (List ℕ) → Result DevWord WordWhy
device_word_in [] = Err why.Name
device_word_in (t ∷ parts) = device_word_named (device_name_of t) parts

-- what a device's word says
unfoldable pub device_word_of : List ℕ → Result DevWord WordWhy
device_word_of word = device_word_in (parts_of word)
