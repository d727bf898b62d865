-- The first fault of a table is the first wherever its bytes are.
use Rattle.std.proofs.Common.{◌≡◌, ℕ, ◌+◌, ◌-◌, ◌≤◌, List, subst, arith}
use Rattle.mpt_base.specs.declared.fault.Reason.{Reason}
use Rattle.mpt_spec.specs.Faults.{HasTableFaultAt, IsLeastFault}
use Rattle.mpt_spec.proofs.FirstFaultLemmas.{HasTableFaultAt-offset}
use Rattle.mpt_spec.proofs.TableWindowLemmas.{HasTableBytes, HasTableBytes-sym, HasTableFaultAt-moved}

pub IsLeastFault-moved : (a b : List ℕ) (i j n k : ℕ) (w : Reason) → HasTableBytes a b i j n → IsLeastFault (HasTableFaultAt a i) (i + k) w → IsLeastFault (HasTableFaultAt b j) (j + k) w
IsLeastFault-moved a b i j n k w same h = record {
  stands = HasTableFaultAt-moved a b i j n k w same h.stands;
  least = λ x other there.
      let from : j ≤ x = omega (arith, HasTableFaultAt-offset b j x other there) in
      let place : x ≡ j + (x - j) = omega arith in
      let back = HasTableFaultAt-moved b a j i n (x - j) other (HasTableBytes-sym a b i j n same) (subst (λ (y : ℕ). HasTableFaultAt b j y other) place there) in
      omega (arith, h.least (i + (x - j)) other back, from);
}
