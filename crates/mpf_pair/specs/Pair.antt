-- Two 8259A interrupt controllers in cascade: the slave's output is the master's line 2 (a profile after the 8259A
-- datasheet; rotation, polling, automatic EOI, special modes and spurious requests are left out). Lines 0 to 7 are the
-- master's, 8 to 15 the slave's.
--     PairState                 how each controller is set, the requests, the marks in service, and the lines that are up
--     power_on                  nothing is set, requested or marked
--     after_put port v s        after a write of a port
--     value_at port s           what a read of a port gives
--     after_line n up s         after a line is driven
--     is_asked n s              the slave asks for its line
--     is_eligible n s           the line may be acknowledged
--     intr_of s                 INTR holds
--     first_eligible s          the first of them, which an acknowledgement takes
--     vector_of n s             its vector
--     acknowledged n s          and what that leaves
--     IsPair s                  what the type of a pair keeps
use Rattle.std.specs.Prelude.{◌≡◌, ◌==◌, ◌<◌, ℕ, ◌+◌, ◌-◌, ◌*◌, ◌/◌, ◌%◌, ◌^◌, Bool, true, false, not, ◌&&◌, List, [], ◌++◌, Option, None, Some, option_map, find, filter, sum_by, nat_lt, nat_le, if◌then◌else◌}
use Rattle.std.specs.Int.{bit_at}
use Rattle.std.specs.List.{list_any, range_with_len, AllByRecursion}
use Rattle.mpb_spec.specs.Numbers.{has, with_number, without, IsAscending}
use Rattle.mpf_pair.specs.declared.port.Port.{Port}
use Rattle.mpf_pair.specs.declared.port.Port.TheVariants as port
use Rattle.mpf_pair.specs.declared.settings.Side.{Side}
use Rattle.mpf_pair.specs.declared.settings.Side.TheVariants.{Master, Slave}
use Rattle.mpf_pair.specs.declared.settings.Stage.{Stage}
use Rattle.mpf_pair.specs.declared.settings.Stage.TheVariants.{Off, Second, Third, Fourth, Ready}
use Rattle.mpf_pair.specs.declared.settings.Register.{Register}
use Rattle.mpf_pair.specs.declared.settings.Register.TheVariants.{Irr, Isr}
use Rattle.mpf_pair.specs.declared.settings.Settings.{Settings}

-- each controller's settings; requests, marks in service and lines that are up, each list strictly ascending over 0 to
-- 15, where 2 is no request, and as a mark the cascade
pub record PairState : Type 0 where
  pub master : Settings
  pub slave : Settings
  pub requests : List ℕ
  pub marks : List ℕ
  pub lines : List ℕ

-- a controller at power-on: not ready, base 0, mask 0, IRR is read
abbrev pub unset : Settings
unset = record { stage = Off; base = 0; mask = 0; read = Irr }

-- at power-on
abbrev pub power_on : PairState
power_on = record { master = unset; slave = unset; requests = []; marks = []; lines = [] }

-- bit n of a number
abbrev pub is_bit : ℕ → ℕ → Bool
is_bit n v = bit_at v n == 1

-- the line is the controller's
abbrev pub is_of : Side → ℕ → Bool
is_of Master n = nat_lt n 8
is_of Slave n = nat_le 8 n

-- the controller's line at a place
abbrev pub line_at : Side → ℕ → ℕ
line_at Master place = place
line_at Slave place = 8 + place

-- the other controller's lines
abbrev pub others : Side → List ℕ → List ℕ
others side ns = filter (λ n. not (is_of side n)) ns

-- with other settings of a controller
abbrev pub with_settings : Side → (Settings → Settings) → PairState → PairState
with_settings Master f s = record s { master = f s.master }
with_settings Slave f s = record s { slave = f s.slave }

-- a controller's settings after the first initialisation word: mask 0, IRR is read, and the second word is next; bit 0
-- says whether there is a fourth
abbrev pub started : ℕ → Settings → Settings
started v c = record c { stage = Second (is_bit 0 v); mask = 0; read = Irr }

-- the pair after it: this controller's requests and marks go
abbrev pub after_start : Side → ℕ → PairState → PairState
after_start side v s = with_settings side (started v) (record s { requests = others side s.requests; marks = others side s.marks })

-- a controller's settings after a write of its data port: the second initialisation word, whose bits 7:3 are the base, the
-- third, and the fourth where there is one, after which the controller is ready; at any other time the mask
abbrev pub data_written : Stage → ℕ → Settings → Settings
data_written (Second fourth) v c = record c { stage = Third fourth; base = v / 8 * 8 }
data_written (Third true) v c = record c { stage = Fourth }
data_written (Third false) v c = record c { stage = Ready }
data_written Fourth v c = record c { stage = Ready }
data_written Off v c = record c { mask = v }
data_written Ready v c = record c { mask = v }

-- the same of its own stage
abbrev pub after_data : ℕ → Settings → Settings
after_data v c = data_written c.stage v c

-- the line whose mark the second operation word removes: bits 7:5 = 001 the controller's least mark, 011 that of bits 2:0
abbrev pub ended_line : Side → ℕ → List ℕ → Option ℕ
ended_line side v marks = if v / 32 == 1 then find (is_of side) marks else (if v / 32 == 3 then Some (line_at side (v % 8)) else None)

-- without that line
abbrev pub without_line : Option ℕ → List ℕ → List ℕ
without_line None ns = ns
without_line (Some n) ns = without n ns

-- after the second operation word
abbrev pub after_end : Side → ℕ → PairState → PairState
after_end side v s = record s { marks = without_line (ended_line side v s.marks) s.marks }

-- the register that is read after the third operation word: where bit 1 is set, bit 0 chooses ISR, else IRR
abbrev pub chosen : ℕ → Settings → Settings
chosen v c = if is_bit 1 v then (record c { read = if is_bit 0 v then Isr else Irr }) else c

-- after a write of a controller's first port: bit 4 makes it the first initialisation word, bit 3 tells the third operation
-- word from the second
abbrev pub after_command : Side → ℕ → PairState → PairState
after_command side v s =
    if is_bit 4 v then after_start side v s
    else (if is_bit 3 v then with_settings side (chosen v) s else after_end side v s)

-- after a write of a port
abbrev pub after_put : Port → ℕ → PairState → PairState
after_put port.Master v s = after_command Master v s
after_put port.Slave v s = after_command Slave v s
after_put port.MasterData v s = with_settings Master (after_data v) s
after_put port.SlaveData v s = with_settings Slave (after_data v) s

-- after a rise of a line: it is requested
abbrev pub risen : ℕ → PairState → PairState
risen n s = record s { requests = with_number n s.requests; lines = with_number n s.lines }

-- after a fall: a request stays
abbrev pub fallen : ℕ → PairState → PairState
fallen n s = record s { lines = without n s.lines }

-- after a line is driven: one that is up doesn't rise
abbrev pub after_line : ℕ → Bool → PairState → PairState
after_line n true s = if has n s.lines then s else risen n s
after_line n false s = fallen n s

-- the bit of a line in a byte of the master and one of the slave
abbrev pub is_line : ℕ → ℕ → ℕ → Bool
is_line master slave n = if nat_lt n 8 then is_bit n master else is_bit (n - 8) slave

-- the line is masked
abbrev pub is_masked : ℕ → PairState → Bool
is_masked n s = is_line s.master.mask s.slave.mask n

-- a mark of the line's controller is at or below it
abbrev pub is_held : ℕ → PairState → Bool
is_held n s = list_any (λ m. (m / 8 == n / 8) && nat_le m n) s.marks

-- the line's controller lets it through: it is unmasked, and no mark of that controller is at or below it
abbrev pub is_open : ℕ → PairState → Bool
is_open n s = not (is_masked n s) && not (is_held n s)

-- the controller is ready
abbrev pub is_ready : Stage → Bool
is_ready Ready = true
is_ready Off = false
is_ready (Second fourth) = false
is_ready (Third fourth) = false
is_ready Fourth = false

-- the slave asks for its line: it is ready, and the line is requested and let through
abbrev pub is_asked : ℕ → PairState → Bool
is_asked n s = is_ready s.slave.stage && (has n s.requests && is_open n s)

-- a line is eligible where the master is ready and, of the master, it is requested and let through; of the slave, it is
-- asked and line 2 let through
abbrev pub is_eligible : ℕ → PairState → Bool
is_eligible n s = is_ready s.master.stage && (if nat_lt n 8 then has n s.requests && is_open n s else is_asked n s && is_open 2 s)

-- the lines by priority: the slave's stand in the place of line 2
abbrev pub by_priority : List ℕ
by_priority = (range_with_len 0 2 ++ range_with_len 8 8) ++ range_with_len 3 5

-- INTR holds where a line is eligible
abbrev pub intr_of : PairState → Bool
intr_of s = list_any (λ n. is_eligible n s) by_priority

-- the first eligible line, which an acknowledgement takes
abbrev pub first_eligible : PairState → Option ℕ
first_eligible s = find (λ n. is_eligible n s) by_priority

-- its vector: the base, and the line's place in its controller
abbrev pub vector_of : ℕ → PairState → ℕ
vector_of n s = if nat_lt n 8 then s.master.base + n else s.slave.base + (n - 8)

-- after its acknowledgement: its request goes, and its mark comes, of a slave line mark 2 too
abbrev pub acknowledged : ℕ → PairState → PairState
acknowledged n s = record s { requests = without n s.requests; marks = if nat_lt n 8 then with_number n s.marks else with_number 2 (with_number n s.marks) }

-- the answer of an acknowledgement, and what it leaves
abbrev pub ack_answer : PairState → Option ℕ
ack_answer s = option_map (λ n. vector_of n s) (first_eligible s)

abbrev pub acknowledged_of : Option ℕ → PairState → PairState
acknowledged_of None s = s
acknowledged_of (Some n) s = acknowledged n s

abbrev pub after_ack : PairState → PairState
after_ack s = acknowledged_of (first_eligible s) s

-- the byte of the places at which a test holds
abbrev pub byte_where : (ℕ → Bool) → ℕ
byte_where test = sum_by (λ place. if test place then 2 ^ place else 0) (range_with_len 0 8)

-- whether the slave asks for a line
abbrev pub slave_asks : PairState → Bool
slave_asks s = list_any (λ n. is_asked n s) (range_with_len 8 8)

-- IRR as it is read: the requests, where the master's bit 2 is whether the slave asks
abbrev pub irr_of : Side → PairState → ℕ
irr_of Master s = byte_where (λ place. if place == 2 then slave_asks s else has place s.requests)
irr_of Slave s = byte_where (λ place. has (8 + place) s.requests)

-- ISR as it is read: the marks
abbrev pub isr_of : Side → PairState → ℕ
isr_of side s = byte_where (λ place. has (line_at side place) s.marks)

-- the register that is read
abbrev pub register_of : Register → Side → PairState → ℕ
register_of Irr side s = irr_of side s
register_of Isr side s = isr_of side s

-- what a read of a port gives
abbrev pub value_at : Port → PairState → ℕ
value_at port.Master s = register_of s.master.read Master s
value_at port.Slave s = register_of s.slave.read Slave s
value_at port.MasterData s = s.master.mask
value_at port.SlaveData s = s.slave.mask

-- what the type of a pair keeps: requests, marks and lines are sets of lines, and 2 is neither a request nor a device's line
pub record IsPair (s : PairState) : Type 0 where
  pub requests : IsAscending s.requests × AllByRecursion (λ n. n < 16) s.requests
  pub marks : IsAscending s.marks × AllByRecursion (λ n. n < 16) s.marks
  pub lines : IsAscending s.lines × AllByRecursion (λ n. n < 16) s.lines
  pub no_request : has 2 s.requests ≡ false
  pub no_line : has 2 s.lines ≡ false
