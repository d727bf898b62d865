-- Calls of the pair of controllers as a text, one line each (this project's own format).
--     port_number port          the number of a port
--     op_line op                the line of a call
--     IsPlayable op             its line of interrupt, or its port, is one of those that there are
--     IsRightOp op              that, and its value is a byte
--     IsTextOf ops text         the text is the lines of the calls, in order
--     IsFirstBadLine text n     line n is the first that is the line of no call
--     IsJudged text             the text is that of some calls, or has a first bad line
--     HasOneReading text        it is that of one list of calls, or one line is the first bad one, and never both
--     IsCauseOf text fault      the fault has its cause in the text
--     IsNoMemory fault          it is want of memory
--     IsThisLine n fault        it is that of line n, or want of memory
use Rattle.std.specs.Prelude.{◌≡◌, ◌≢◌, ℕ, ◌+◌, ◌^◌, ◌<◌, ◌⊎◌, List, [], ◌∷◌, ◌++◌, length, codes, decimal, ⊤}
use Rattle.std.specs.List.{AllByRecursion, flat_map}
use Rattle.mpt_listing.specs.Listing.{line, hex}
use Rattle.mpt_line.specs.Lines.{BeginsWithNone}
use Rattle.mpf_pair.specs.declared.port.Port.{Port}
use Rattle.mpf_pair.specs.declared.port.Port.TheVariants as port
use Rattle.mpf_pic_lines.specs.declared.op.PicOp.{PicOp}
use Rattle.mpf_pic_lines.specs.declared.op.PicOp.TheVariants.{Put, Get, Imcr, Up, Down, Ack}
use Rattle.mpf_pic_lines.specs.declared.op.PicFault.{PicFault}
use Rattle.mpf_pic_lines.specs.declared.op.PicFault.TheVariants as fault

-- the number of a port
abbrev pub port_number : Port → ℕ
port_number port.Master = 0x20
port_number port.MasterData = 0x21
port_number port.Slave = 0xA0
port_number port.SlaveData = 0xA1

-- the line of a call: ports and values have two upper case hexadecimal digits
abbrev pub op_line : PicOp → List ℕ
op_line (Put p v) = line (codes "out " ∷ hex 2 (port_number p) ∷ codes " " ∷ hex 2 v ∷ [])
op_line (Imcr p v) = line (codes "out " ∷ hex 2 p ∷ codes " " ∷ hex 2 v ∷ [])
op_line (Get p) = line (codes "in " ∷ hex 2 (port_number p) ∷ [])
op_line (Up n) = line (codes "irq " ∷ decimal n ∷ codes " up" ∷ [])
op_line (Down n) = line (codes "irq " ∷ decimal n ∷ codes " down" ∷ [])
op_line Ack = line (codes "ack" ∷ [])

-- a line of interrupt that a device has: 0 to 15 without 2
abbrev pub IsDeviceLine : ℕ → Type 0
IsDeviceLine n = (n < 16) × (n ≢ 2)

-- a port of the interrupt mode register
abbrev pub IsImcrPort : ℕ → Type 0
IsImcrPort p = (p ≡ 0x22) ⊎ (p ≡ 0x23)

-- the call's line of interrupt or its port is one of those
abbrev pub IsPlayable : PicOp → Type 0
IsPlayable (Put p v) = ⊤
IsPlayable (Get p) = ⊤
IsPlayable (Imcr p v) = IsImcrPort p
IsPlayable (Up n) = IsDeviceLine n
IsPlayable (Down n) = IsDeviceLine n
IsPlayable Ack = ⊤

-- the value that a call writes is a byte
abbrev pub HasByte : PicOp → Type 0
HasByte (Put p v) = v < 2 ^ 8
HasByte (Imcr p v) = v < 2 ^ 8
HasByte (Get p) = ⊤
HasByte (Up n) = ⊤
HasByte (Down n) = ⊤
HasByte Ack = ⊤

-- both
abbrev pub IsRightOp : PicOp → Type 0
IsRightOp op = IsPlayable op × HasByte op

-- the text is the lines of the calls, in order
abbrev pub IsTextOf : List PicOp → List ℕ → Type 0
IsTextOf ops text = AllByRecursion IsRightOp ops × (text ≡ flat_map op_line ops)

-- line n, counted from 1, is the first that is the line of no call with its line feed: those before it are
pub record IsFirstBadLine (text : List ℕ) (n : ℕ) : Type 0 where
  pub before : List PicOp
  pub rest : List ℕ
  pub right : AllByRecursion IsRightOp before
  pub whole : text ≡ flat_map op_line before ++ rest
  pub some : rest ≢ []
  pub bad : BeginsWithNone op_line IsRightOp rest
  pub number : n ≡ length before + 1

-- the text is that of some calls, or has a first bad line
abbrev pub IsJudged : List ℕ → Type 0
IsJudged text = ((ops : List PicOp) × IsTextOf ops text) ⊎ ((n : ℕ) × IsFirstBadLine text n)

-- it is the text of one list of calls at most, it has one first bad line at most, and never both
pub record HasOneReading (text : List ℕ) : Type 0 where
  pub ops : (xs ys : List PicOp) → IsTextOf xs text → IsTextOf ys text → xs ≡ ys
  pub line : (m n : ℕ) → IsFirstBadLine text m → IsFirstBadLine text n → m ≡ n
  pub never_both : (xs : List PicOp) (n : ℕ) → IsTextOf xs text → IsFirstBadLine text n → ⊥

-- the fault has its cause in the text
abbrev pub IsCauseOf : List ℕ → PicFault → Type 0
IsCauseOf text (fault.Line n) = IsFirstBadLine text n
IsCauseOf text fault.NoMemory = ⊤

-- the fault is want of memory
abbrev pub IsNoMemory : PicFault → Type 0
IsNoMemory (fault.Line n) = ⊥
IsNoMemory fault.NoMemory = ⊤

-- the fault is this line's, or want of memory
abbrev pub IsThisLine : ℕ → PicFault → Type 0
IsThisLine n (fault.Line m) = m ≡ n
IsThisLine n fault.NoMemory = ⊤
