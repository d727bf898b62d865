use Rattle.std.proofs.Common.{◌≡◌, ℕ, ◌≤◌, ◌<◌, true, false, arith}
use Rattle.std.specs.Prelude.{nat_le}
use Rattle.std.proofs.lemmas.Bool.Decides.{nat_tests}
use Rattle.mpt_line.specs.Forms.{opaque_in}
use Rattle.mpt_line.proofs.Exact.{passes, fails}
use Rattle.mpt_line.proofs.ext_lines.read_opaque.Goals as goal

is_high : (kind : ℕ) → 131 ≤ kind → nat_le 131 kind ≡ true
is_high kind h = grind (arith, nat_tests)

is_low : (kind : ℕ) → kind < 131 → nat_le 131 kind ≡ false
is_low kind h = grind (arith, nat_tests)

pub returns : goal.returns
unfolding opaque_in
returns c = rw (c.new.ensures, c.in-Some.ensures, c.in-Some-read_part.ensures, (rw c.in-Some-found.is at c.in-Ok.ensures), c.in-Some-read_end.ensures) (passes (is_high c.in-Some.kind c.if-kind-lt131.false))

pub returns-then-kind-lt131 : goal.returns-then-kind-lt131
unfolding opaque_in
returns-then-kind-lt131 c = rw (c.in-Some.ensures, c.in-Some-read_part.ensures, (rw c.in-Some-found.is at c.in-Ok.ensures), c.in-Some-read_end.ensures) (fails _ (is_low c.in-Some.kind c.if-kind-lt131.true))

pub returns-in_default : goal.returns-in_default
unfolding opaque_in
returns-in_default c = rw c.in_default.ensures

pub returns-in_default-read_part : goal.returns-in_default-read_part
unfolding opaque_in
returns-in_default-read_part c = rw (c.in-Some.ensures, c.in_default-read_part.ensures)

pub returns-in_default-found : goal.returns-in_default-found
unfolding opaque_in
returns-in_default-found c = rw (c.in-Some.ensures, c.in-Some-read_part.ensures, (rw c.in_default-found.is at c.in-Ok.ensures))

pub returns-in_default-read_end : goal.returns-in_default-read_end
unfolding opaque_in
returns-in_default-read_end c = rw (c.in-Some.ensures, c.in-Some-read_part.ensures, (rw c.in-Some-found.is at c.in-Ok.ensures), c.in_default-read_end.ensures)
