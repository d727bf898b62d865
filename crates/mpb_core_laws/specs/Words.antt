-- The words in which laws are said of the definitions. What works with APICs cites the other files.
--     IsOrdered a            each list of a local APIC is strictly ascending
--     HoldsBytes a           each member of these lists is below 256
--     NamesByte o            the vector that the op names is below 256
--     IsGreatest v xs        v is a member, and no member is above it
--     has_bit mask n         bit n of the mask is set
--     where_named b p        a pin after a pulse, where it is named
--     IsDueLeast m pins      m is the message of the least due pin
--     IsQuietWhereMasked p   the pin isn't due where it is masked
--     SharesBit k x y        some bit of the lowest k is set in both
--     IsOfLowestPriority to ps q   q is the one of lowest priority
use Rattle.std.specs.Prelude.{◌≡◌, ◌==◌, ℕ, ◌≤◌, ◌<◌, Bool, true, false, List, take, Some, slice_get, if◌then◌else◌}
use Rattle.std.specs.List.{AllByRecursion}
use Rattle.std.specs.Int.{bit_at}
use Rattle.mpb_spec.specs.declared.apic.Message.{Message}
use Rattle.mpb_spec.specs.declared.apic.Pin.{Pin}
use Rattle.mpb_spec.specs.IoApic.{is_masked, message_of, with_pulse}
use Rattle.mpb_spec.specs.declared.apic.Destination.{Destination}
use Rattle.mpb_spec.specs.LocalApic.{LocalApic, ppr}
use Rattle.mpb_spec.specs.State.{Processor, runs}
use Rattle.mpb_spec.specs.Delivery.{is_named, is_ready}
use Rattle.mpb_spec.specs.declared.agent.Op.{Op}
use Rattle.mpb_spec.specs.declared.agent.Op.TheVariants as op
use Rattle.mpb_spec.specs.Numbers.{has, IsAscending, AreBytes}

-- each list of a local APIC is strictly ascending
pub record IsOrdered (a : LocalApic) : Type 0 where
  pub irr : IsAscending a.irr
  pub isr : IsAscending a.isr
  pub tmr : IsAscending a.tmr

-- each member of these lists is below 256
pub record HoldsBytes (a : LocalApic) : Type 0 where
  pub irr : AreBytes a.irr
  pub isr : AreBytes a.isr
  pub tmr : AreBytes a.tmr

-- the vector that a processor's message names is below 256
abbrev pub NamesByte : Op → Type 0
NamesByte (op.Ipi d v) = v < 256
NamesByte (op.Ipl d v) = v < 256
NamesByte o = Unit {0}

-- v is a member, and no member is above it
pub record IsGreatest (v : ℕ) (xs : List ℕ) : Type 0 where
  pub member : has v xs ≡ true
  pub above_all : AllByRecursion (λ u. u ≤ v) xs

-- bit n of the mask is set
abbrev pub has_bit : ℕ → ℕ → Bool
has_bit mask n = bit_at mask n == 1

-- a pin after a pulse, where it is named
abbrev pub where_named : Bool → Pin → Pin
where_named named p = if named then with_pulse p else p

-- m is the message of the least due pin: that pin is there and due, and none before it is
pub record IsDueLeast (m : Message) (pins : List Pin) : Type 0 where
  pub pin : Pin
  pub here : slice_get pins m.pin ≡ Some pin
  pub due : pin.due ≡ true
  pub message : m ≡ message_of m.pin pin
  pub none_before : AllByRecursion (λ p. p.due ≡ false) (take m.pin pins)

-- the pin isn't due where it is masked
abbrev pub IsQuietWhereMasked : Pin → Type 0
IsQuietWhereMasked p = is_masked p ≡ true → p.due ≡ false

-- some bit of the lowest k is set in both
abbrev pub SharesBit : ℕ → ℕ → ℕ → Type 0
SharesBit k x y = (n : ℕ) × (n < k) × (has_bit x n ≡ true) × (has_bit y n ≡ true)

-- of these processors, q is the one of lowest priority among those that the destination names and that run: no other has a lower
-- processor priority, and none of the same a lower id
pub record IsOfLowestPriority (to : Destination) (ps : List Processor) (q : Processor) : Type 0 where
  pub named : is_named to q ≡ true
  pub running : runs q.life ≡ true
  pub lowest : AllByRecursion (λ p. is_ready to p ≡ true → ppr q.apic ≤ ppr p.apic) ps
  pub least : AllByRecursion (λ p. is_ready to p ≡ true → ppr p.apic ≡ ppr q.apic → q.id ≤ p.id) ps
