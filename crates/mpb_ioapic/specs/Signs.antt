-- The pins by their redirections and three rows of bits. Only private functions cite these words.
--     place_of s n        where the rows have pin n's bit of a sign
--     shows s p           the pin has the sign
--     pins_of rows es     the pins, of their redirections and the rows
--     HasNoStatus p       the low half is one that was written
use Rattle.std.specs.Prelude.{◌≡◌, ℕ, ◌+◌, Bool, List, [], ◌∷◌}
use Rattle.std.specs.Int.{bit_at}
use Rattle.mpb_spec.specs.Numbers.{has}
use Rattle.mpb_spec.specs.declared.apic.Pin.{Pin}
use Rattle.mpb_ioapic.specs.declared.redirection.Redirection.{Redirection}
use Rattle.mpb_ioapic.specs.declared.sign.Sign.{Sign}
use Rattle.mpb_ioapic.specs.declared.sign.Sign.TheVariants.{Line, Due, Remote}

-- the rows begin at 0, 32 and 64
abbrev pub place_of : Sign → ℕ → ℕ
place_of Line n = n
place_of Due n = 32 + n
place_of Remote n = 64 + n

-- the pin has the sign
abbrev pub shows : Sign → Pin → Bool
shows Line p = p.line
shows Due p = p.due
shows Remote p = p.remote

-- pin n, of its redirection and the rows
abbrev pub pin_of : List ℕ → ℕ → Redirection → Pin
pin_of rows n e = record { low = e.low; high = e.high; line = has (place_of Line n) rows; due = has (place_of Due n) rows; remote = has (place_of Remote n) rows }

-- the pins from pin n on
abbrev pub pins_from : List ℕ → ℕ → List Redirection → List Pin
pins_from rows n [] = []
pins_from rows n (e ∷ es) = pin_of rows n e ∷ pins_from rows (n + 1) es

-- all pins
unfoldable pub pins_of : List ℕ → List Redirection → List Pin
pins_of rows es = pins_from rows 0 es

-- the low half is without the delivery status and remote IRR
abbrev pub HasNoStatus : Pin → Type 0
HasNoStatus p = (bit_at p.low 12 ≡ 0) × (bit_at p.low 14 ≡ 0)
