-- A list of calls played on a pair at power-on with a wiring: the lines of what is read and acknowledged (this project's own
-- format).
--     ack_of s              the vector that an acknowledgement gets on the way that there is
--     after_op op s         the pair and the wiring after a call
--     answer_of op s        the line of its answer, if it has one
--     play_text s ops       the whole text
--     pic_text w ops        that of a pair at power-on with this wiring
--     AcknowledgesByRule    a vector is acknowledged only where the way isn't closed and INTR holds
use Rattle.std.specs.Prelude.{◌≡◌, ◌≢◌, ℕ, true, false, List, [], ◌∷◌, ◌++◌, Option, None, Some, IfSome, codes, decimal}
use Rattle.mpt_listing.specs.Listing.{line, hex}
use Rattle.mpf_pair.specs.Pair.{PairState, power_on, after_put, after_line, after_ack, ack_answer, value_at, intr_of}
use Rattle.mpf_pic_lines.specs.declared.op.PicOp.{PicOp}
use Rattle.mpf_pic_lines.specs.declared.op.PicOp.TheVariants.{Put, Get, Imcr, Up, Down, Ack}
use Rattle.mpf_pic_lines.specs.Lines.{port_number}
use Rattle.mpf_pic.specs.declared.path.Path.{Path}
use Rattle.mpf_pic.specs.declared.path.Path.TheVariants.{Direct, Lint, Io, Closed}
use Rattle.mpf_pic.specs.declared.playing.WiredPair.{WiredPair}
use Rattle.mpf_pic.specs.Wiring.{WiringState, path_of, after_write}

-- on a closed way nothing is acknowledged
abbrev pub ack_on : Path → PairState → Option ℕ
ack_on Closed s = None
ack_on Direct s = ack_answer s
ack_on Lint s = ack_answer s
ack_on (Io a n) s = ack_answer s

abbrev pub after_ack_on : Path → PairState → PairState
after_ack_on Closed s = s
after_ack_on Direct s = after_ack s
after_ack_on Lint s = after_ack s
after_ack_on (Io a n) s = after_ack s

-- the vector that an acknowledgement gets, and what it leaves
abbrev pub ack_of : WiredPair → Option ℕ
ack_of s = ack_on (path_of s.wiring) s.pair

abbrev pub after_ack_of : WiredPair → WiredPair
after_ack_of s = record s { pair = after_ack_on (path_of s.wiring) s.pair }

-- the pair and the wiring after a call
abbrev pub after_op : PicOp → WiredPair → WiredPair
after_op (Put port v) s = record s { pair = after_put port v s.pair }
after_op (Get port) s = s
after_op (Imcr port v) s = record s { wiring = after_write port v s.wiring }
after_op (Up n) s = record s { pair = after_line n true s.pair }
after_op (Down n) s = record s { pair = after_line n false s.pair }
after_op Ack s = after_ack_of s

-- the line of an acknowledgement: the vector and the way, or that there is none
abbrev pub ack_line : Option ℕ → Path → List ℕ
ack_line None p = line (codes "ack none" ∷ [])
ack_line (Some v) Direct = line (codes "ack " ∷ hex 2 v ∷ codes " direct" ∷ [])
ack_line (Some v) Lint = line (codes "ack " ∷ hex 2 v ∷ codes " lint" ∷ [])
ack_line (Some v) (Io a n) = line (codes "ack " ∷ hex 2 v ∷ codes " io " ∷ decimal a ∷ codes " " ∷ decimal n ∷ [])
ack_line (Some v) Closed = line (codes "ack none" ∷ [])

-- the line of a read
abbrev pub read_line : ℕ → ℕ → List ℕ
read_line port v = line (codes "in " ∷ hex 2 port ∷ codes " = " ∷ hex 2 v ∷ [])

-- the line of a call's answer, if it has one
abbrev pub answer_of : PicOp → WiredPair → List ℕ
answer_of (Get port) s = read_line (port_number port) (value_at port s.pair)
answer_of Ack s = ack_line (ack_of s) (path_of s.wiring)
answer_of (Put port v) s = []
answer_of (Imcr port v) s = []
answer_of (Up n) s = []
answer_of (Down n) s = []

-- the answers in order
abbrev pub answers_of : WiredPair → List PicOp → List ℕ
answers_of s [] = []
answers_of s (op ∷ ops) = answer_of op s ++ answers_of (after_op op s) ops

-- after all calls
abbrev pub after_ops : WiredPair → List PicOp → WiredPair
after_ops s [] = s
after_ops s (op ∷ ops) = after_ops (after_op op s) ops

-- the whole text: the answers, and the line `end`
abbrev pub play_text : WiredPair → List PicOp → List ℕ
play_text s ops = answers_of s ops ++ line (codes "end" ∷ [])

-- a vector is acknowledged only where the way isn't closed, and INTR holds: after any calls, from any state on
abbrev pub AcknowledgesByRule : Type 0
AcknowledgesByRule = (s : WiredPair) (ops : List PicOp) → IfSome (ack_of (after_ops s ops)) (λ v. (path_of (after_ops s ops).wiring ≢ Closed) × (intr_of (after_ops s ops).pair ≡ true))

-- the text of calls on a pair at power-on with this wiring
abbrev pub pic_text : WiringState → List PicOp → List ℕ
pic_text w ops = play_text (record { pair = power_on; wiring = w }) ops
