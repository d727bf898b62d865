-- The reading of a call's line from the left: the call, and what follows its line feed. Only private functions cite it.
use Rattle.std.specs.Prelude.{ℕ, ◌+◌, ◌*◌, ◌==◌, ◌&&◌, not, nat_lt, Bool, true, false, List, Option, None, Some, if◌then◌else◌, codes}
use Rattle.mpt_line.specs.Reading.{◌>>=◌, text_in, digit_in, after, both, ended, checked, either}
use Rattle.mpf_pair.specs.declared.port.Port.{Port}
use Rattle.mpf_pair.specs.declared.port.Port.TheVariants as port
use Rattle.mpf_pic_lines.specs.declared.op.PicOp.{PicOp}
use Rattle.mpf_pic_lines.specs.declared.op.PicOp.TheVariants.{Put, Get, Imcr, Up, Down, Ack}

-- a byte of two digits
unfoldable pub byte_in : List ℕ → Option (ℕ × List ℕ)
byte_in line = digit_in line >>= λ high. digit_in high.1 >>= λ low. Some (16 * high.0 + low.0, low.1)

-- a part whose value names another, where it does
abbrev pub naming : {A B : Type 0} → (A → Option B) → (List ℕ → Option (A × List ℕ)) → List ℕ → Option (B × List ℕ)
naming f part line = part line >>= λ x. f x.0 >>= λ y. Some (y, x.1)

-- a text that says this
abbrev pub saying : {A : Type 0} → A → List ℕ → List ℕ → Option (A × List ℕ)
saying a text line = text_in text line >>= λ rest. Some (a, rest)

-- the port of a number
abbrev pub port_of : ℕ → Option Port
port_of n =
    if n == 0x20 then Some port.Master
    else (if n == 0x21 then Some port.MasterData
    else (if n == 0xA0 then Some port.Slave
    else (if n == 0xA1 then Some port.SlaveData else None)))

-- a write of the pair's port, or of the interrupt mode register's
abbrev pub put_of : Option Port → ℕ → ℕ → Option PicOp
put_of (Some p) n v = Some (Put p v)
put_of None n v = if n == 0x22 then Some (Imcr n v) else (if n == 0x23 then Some (Imcr n v) else None)

abbrev pub out_of : ℕ × ℕ → Option PicOp
out_of x = put_of (port_of x.0) x.0 x.1

unfoldable pub out_in : List ℕ → Option (PicOp × List ℕ)
out_in = naming out_of (after (codes "out ") (both byte_in (after (codes " ") (ended byte_in))))

-- a read of a port
abbrev pub get_of : ℕ → Option PicOp
get_of n = port_of n >>= λ p. Some (Get p)

unfoldable pub get_in : List ℕ → Option (PicOp × List ℕ)
get_in = naming get_of (after (codes "in ") (ended byte_in))

-- whether the line is driven up or down
unfoldable pub way_in : List ℕ → Option (Bool × List ℕ)
way_in = either (saying true (codes " up\n")) (saying false (codes " down\n"))

-- a line of interrupt that is driven
abbrev pub drive_of : ℕ × Bool → Option PicOp
drive_of (n, true) = Some (Up n)
drive_of (n, false) = Some (Down n)

-- of one digit, without 2
abbrev pub is_low : ℕ → Bool
is_low n = nat_lt n 10 && not (n == 2)

unfoldable pub low_irq_in : List ℕ → Option (PicOp × List ℕ)
low_irq_in = naming drive_of (after (codes "irq ") (both (checked is_low digit_in) way_in))

-- of two digits
abbrev pub high_drive_of : ℕ × Bool → Option PicOp
high_drive_of x = drive_of (10 + x.0, x.1)

unfoldable pub high_irq_in : List ℕ → Option (PicOp × List ℕ)
high_irq_in = naming high_drive_of (after (codes "irq 1") (both (checked (λ n. nat_lt n 6) digit_in) way_in))

-- a call
unfoldable pub op_in : List ℕ → Option (PicOp × List ℕ)
op_in = either out_in (either get_in (either low_irq_in (either high_irq_in (saying Ack (codes "ack\n")))))
