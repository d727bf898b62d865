-- Where there is no fault, none of its causes stands.
use Rattle.std.proofs.Common.{◌≡◌, ℕ, ◌<◌, ◌≤◌, Bool, true, false, not, length, Option, None, Some, option_map, is_some, nat_le, nat_lt, refl, arith}
use Rattle.mpt_route.specs.declared.platform.Platform.{Platform}
use Rattle.mpt_route.specs.Platform.{boot_processor_of}
use Rattle.mpb_spec.specs.declared.fault.BoardError.{BoardError}
use Rattle.mpb_spec.specs.declared.fault.BoardError.TheVariants as fault
use Rattle.mpb_spec.specs.Numbers.{has}
use Rattle.mpb_script.specs.declared.script.Script.{Script}
use Rattle.mpb_setup.specs.Boot.{boot_id_of}
use Rattle.mpb_setup.specs.Board.{enabled_ids, io_ids, is_present, board_ids}
use Rattle.mpb_setup.specs.Faults.{◌<|>◌, fault_if, least_double, least_absent_place, board_fault_of}

-- no cause stands
pub record HasNoFault (p : Platform) (s : Script) : Type 0 where
  pub boot : is_some (boot_processor_of p) ≡ true
  pub processors : least_double (enabled_ids p) ≡ None
  pub ios : least_double (io_ids p) ≡ None
  pub narrow : has 255 (enabled_ids p) ≡ false
  pub low : boot_id_of p < 15
  pub present : is_present s.present (boot_id_of p) ≡ true
  pub few : length (board_ids p s) ≤ 8
  pub few_ios : length (io_ids p) ≤ 4
  pub places : least_absent_place (length (io_ids p)) (board_ids p s) s ≡ None

all_none : (a b c d e f g h i : Option BoardError) → (a <|> b <|> c <|> d <|> e <|> f <|> g <|> h <|> i) ≡ None → (a ≡ None) × (b ≡ None) × (c ≡ None) × (d ≡ None) × (e ≡ None) × (f ≡ None) × (g ≡ None) × (h ≡ None) × (i ≡ None)
all_none (Some x) b c d e f g h i q = cc
all_none None (Some x) c d e f g h i q = cc
all_none None None (Some x) d e f g h i q = cc
all_none None None None (Some x) e f g h i q = cc
all_none None None None None (Some x) f g h i q = cc
all_none None None None None None (Some x) g h i q = cc
all_none None None None None None None (Some x) h i q = cc
all_none None None None None None None None (Some x) i q = cc
all_none None None None None None None None None (Some x) q = cc
all_none None None None None None None None None None q = (refl, refl, refl, refl, refl, refl, refl, refl, refl)

off : (b : Bool) (f : BoardError) → fault_if b f ≡ None → b ≡ false
off true f e = cc
off false f e = refl

on : (b : Bool) (f : BoardError) → fault_if (not b) f ≡ None → b ≡ true
on true f e = refl
on false f e = cc

unnamed : {X : Type 0} (f : X → BoardError) (o : Option X) → option_map f o ≡ None → o ≡ None
unnamed f None e = refl
unnamed f (Some x) e = cc

below : (n : ℕ) → nat_le 15 n ≡ false → n < 15
below n e = grind arith

within : (m n : ℕ) → nat_lt m n ≡ false → n ≤ m
within m n e = grind arith

pub no_fault : (p : Platform) (s : Script) → board_fault_of p s ≡ None → HasNoFault p s
unfolding board_fault_of
no_fault p s e =
    let boot = boot_id_of p in
    let n = length (board_ids p s) in
    let i = length (io_ids p) in
    let h =
    all_none (fault_if (not (is_some (boot_processor_of p))) fault.NoBoot) (option_map fault.DoubleId (least_double (enabled_ids p))) (option_map fault.DoubleId (least_double (io_ids p)))
    (fault_if (has 255 (enabled_ids p)) (fault.WideId 255)) (fault_if (nat_le 15 boot) (fault.BootWide boot)) (fault_if (not (is_present s.present boot)) (fault.BootAbsent boot))
    (fault_if (nat_lt 8 n) (fault.ManyCpus n)) (fault_if (nat_lt 4 i) (fault.ManyIo i)) (option_map fault.NoIo (least_absent_place i (board_ids p s) s)) e in
    record {
      boot = on (is_some (boot_processor_of p)) fault.NoBoot h.0;
      processors = unnamed fault.DoubleId (least_double (enabled_ids p)) h.1;
      ios = unnamed fault.DoubleId (least_double (io_ids p)) h.2;
      narrow = off (has 255 (enabled_ids p)) (fault.WideId 255) h.3;
      low = below boot (off (nat_le 15 boot) (fault.BootWide boot) h.4);
      present = on (is_present s.present boot) (fault.BootAbsent boot) h.5;
      few = within 8 n (off (nat_lt 8 n) (fault.ManyCpus n) h.6);
      few_ios = within 4 i (off (nat_lt 4 i) (fault.ManyIo i) h.7);
      places = unnamed fault.NoIo (least_absent_place i (board_ids p s) s) h.8;
    }
