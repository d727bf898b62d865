-- A table has no fault, and a first fault is one.
use Rattle.std.proofs.Common.{◌≡◌, ◌≢◌, ◌+◌, ◌*◌, ◌%◌, ◌≤◌, ◌<◌, ℕ, List, [], ◌∷◌, length, codes, ap, refl, ◌∙◌, inl, inr, arith}
use Rattle.mpt_base.specs.Bytes.{part}
use Rattle.mpf_pir.specs.declared.table.Pir.{Pir}
use Rattle.mpf_pir.specs.declared.table.PirReason.{PirReason}
use Rattle.mpf_pir.specs.declared.table.PirReason.TheVariants as why
use Rattle.mpf_pir.specs.Layout.{IsPir}
use Rattle.mpf_pir.specs.Faults.{HasPirFaultAt, IsFirstPirFault, pir_fault_order}
use Rattle.mpf_pir.proofs.LayoutLemmas.{AreSlots-size}

-- ---- each fault is the first where those before it don't stand

least_short : (bytes : List ℕ) (k : ℕ) (w : PirReason) → HasPirFaultAt bytes k w → 31 ≤ pir_fault_order k w
least_short bytes k why.Short h = omega arith
least_short bytes k why.BadSignature h = omega arith
least_short bytes k why.BadVersion h = omega arith
least_short bytes k why.BadSize h = omega arith
least_short bytes k why.BadSum h = omega arith

least_signature : (bytes : List ℕ) → 32 ≤ length bytes → (k : ℕ) (w : PirReason) → HasPirFaultAt bytes k w → 32 ≤ pir_fault_order k w
least_signature bytes whole k why.Short h = absurd (omega (arith, h.1))
least_signature bytes whole k why.BadSignature h = omega arith
least_signature bytes whole k why.BadVersion h = omega arith
least_signature bytes whole k why.BadSize h = omega arith
least_signature bytes whole k why.BadSum h = omega arith

least_version : (bytes : List ℕ) → 32 ≤ length bytes → part bytes 0 4 ≡ codes "$PIR" → (k : ℕ) (w : PirReason) → HasPirFaultAt bytes k w → 289 ≤ pir_fault_order k w
least_version bytes whole signature k why.Short h = absurd (omega (arith, h.1))
least_version bytes whole signature k why.BadSignature h = absurd (h.2 signature)
least_version bytes whole signature k why.BadVersion h = omega (arith, h.0)
least_version bytes whole signature k why.BadSize h = omega (arith, h.0)
least_version bytes whole signature k why.BadSum h = omega (arith, h.0)

pub first_short : (bytes : List ℕ) → length bytes < 32 → IsFirstPirFault bytes 0 why.Short
first_short bytes short = record { stands = (refl, short); least = least_short bytes }

pub first_signature : (bytes : List ℕ) → 32 ≤ length bytes → part bytes 0 4 ≢ codes "$PIR" → IsFirstPirFault bytes 0 why.BadSignature
first_signature bytes whole other = record { stands = (refl, whole, other); least = least_signature bytes whole }

pub first_version : (bytes : List ℕ) → 32 ≤ length bytes → part bytes 0 4 ≡ codes "$PIR" → part bytes 4 2 ≢ 0 ∷ 1 ∷ [] → IsFirstPirFault bytes 4 why.BadVersion
first_version bytes whole signature other = record { stands = (refl, whole, other); least = least_version bytes whole signature }

-- a size is a multiple of 16
multiple : (long n : ℕ) → 32 + 16 * n ≡ long → long % 16 ≡ 0
multiple long n e = omega arith

pub IsPir-faultless : (t : Pir) (bytes : List ℕ) → IsPir t bytes → (at : ℕ) (reason : PirReason) → HasPirFaultAt bytes at reason → ⊥
IsPir-faultless t bytes is at why.Short h = let size : 32 + 16 * length t.slots ≡ length bytes = AreSlots-size t.slots bytes 32 (length bytes) is.slots in omega (arith, h.1)
IsPir-faultless t bytes is at why.BadSignature h = h.2 is.header.signature
IsPir-faultless t bytes is at why.BadVersion h = h.2 is.header.version
IsPir-faultless t bytes is at why.BadSize (e, w, inl h) =
    h (ap (λ n. n % 16) is.header.size ∙ multiple (length bytes) (length t.slots) (AreSlots-size t.slots bytes 32 (length bytes) is.slots))
IsPir-faultless t bytes is at why.BadSize (e, w, inr h) = h is.header.size
IsPir-faultless t bytes is at why.BadSum h = h.2 is.checksum
