-- Why a platform and a script make no board (this project's own).
--     board_fault_of p s     the first cause, none where there is a board
use Rattle.std.specs.Prelude.{ℕ, ◌==◌, ◌&&◌, ◌||◌, not, Bool, false, if◌then◌else◌, nat_le, nat_lt, List, length, find, count_by, Option, None, Some, option_map, is_some}
use Rattle.std.specs.Option.{option_or}
use Rattle.std.specs.List.{range_with_len, list_any}
use Rattle.mpt_route.specs.declared.platform.Platform.{Platform}
use Rattle.mpt_route.specs.Platform.{boot_processor_of}
use Rattle.mpb_spec.specs.declared.agent.Op.{Op}
use Rattle.mpb_spec.specs.declared.agent.Op.TheVariants as op
use Rattle.mpb_spec.specs.declared.config.DevWord.{DevWord}
use Rattle.mpb_spec.specs.declared.config.DevWord.TheVariants as word
use Rattle.mpb_spec.specs.declared.fault.BoardError.{BoardError}
use Rattle.mpb_spec.specs.declared.fault.BoardError.TheVariants as fault
use Rattle.mpb_spec.specs.Numbers.{has}
use Rattle.mpb_script.specs.declared.script.Script.{Script}
use Rattle.mpb_setup.specs.Boot.{boot_id_of}
use Rattle.mpb_setup.specs.Board.{enabled_ids, io_ids, is_present, all_ids, board_ids}

infixr 20 ◌<|>◌
-- the first of two faults
abbrev pub ◌<|>◌ : {A : Type 0} → Option A → Option A → Option A
a <|> b = option_or a b

-- the fault where the test holds
abbrev pub fault_if : Bool → BoardError → Option BoardError
fault_if b f = if b then Some f else None

-- the least id that two of them share
abbrev pub least_double : List ℕ → Option ℕ
least_double ids = find (λ id. nat_lt 1 (count_by (λ x. x == id) ids)) all_ids

-- the op names the I/O APIC at the place
abbrev pub is_op_at : ℕ → Op → Bool
is_op_at a (op.IoSel b r) = b == a
is_op_at a (op.IoWin b v) = b == a
is_op_at a (op.IoRead b) = b == a
is_op_at a o = false

-- the word of a device names the I/O APIC at the place
abbrev pub is_word_at : ℕ → DevWord → Bool
is_word_at a (word.Pulse b pin) = b == a
is_word_at a (word.High b pin) = b == a
is_word_at a (word.Low b pin) = b == a

-- a word of a device or of a processor with one of the ids names the place
abbrev pub names_place : List ℕ → Script → ℕ → Bool
names_place ids s a = list_any (λ c. has c.id ids && list_any (is_op_at a) c.words) s.cpus || list_any (list_any (is_word_at a)) s.devices

-- the least such place of the four that words may name at which there is none of n I/O APICs
abbrev pub least_absent_place : ℕ → List ℕ → Script → Option ℕ
least_absent_place n ids s = find (λ a. nat_le n a && names_place ids s a) (range_with_len 0 4)

-- the first cause: no boot processor; an id of two enabled processors, or of two enabled I/O APICs; the id 255; a boot id of 15
-- or above; a boot processor that isn't present; more than 8 processors; more than 4 I/O APICs; a place that isn't there
unfoldable pub board_fault_of : Platform → Script → Option BoardError
board_fault_of p s =
    fault_if (not (is_some (boot_processor_of p))) fault.NoBoot
    <|> option_map fault.DoubleId (least_double (enabled_ids p))
    <|> option_map fault.DoubleId (least_double (io_ids p))
    <|> fault_if (has 255 (enabled_ids p)) (fault.WideId 255)
    <|> fault_if (nat_le 15 (boot_id_of p)) (fault.BootWide (boot_id_of p))
    <|> fault_if (not (is_present s.present (boot_id_of p))) (fault.BootAbsent (boot_id_of p))
    <|> fault_if (nat_lt 8 (length (board_ids p s))) (fault.ManyCpus (length (board_ids p s)))
    <|> fault_if (nat_lt 4 (length (io_ids p))) (fault.ManyIo (length (io_ids p)))
    <|> option_map fault.NoIo (least_absent_place (length (io_ids p)) (board_ids p s) s)
