-- A table stands, and is at fault, wherever its bytes are: nothing else of an image matters but whether its parts lie inside.
--     HasTableBytes a b i j n     the n bytes from i on in a and from j on in b are one table's, as far as it lies inside
--     IsConfigurationTable-moved, HasTableFaultAt-moved
use Rattle.std.proofs.Common.{◌≡◌, ℕ, ◌+◌, ◌≤◌, ◌<◌, List, ◌∷◌, length, replicate, refl, sym, ap, ◌∙◌, subst, inl, inr, arith}
use Rattle.std.specs.Prelude.{slice_index}
use Rattle.std.proofs.lemmas.Bool.{cases_lt}
use Rattle.mpt_base.specs.Bytes.{number_at, part, SumsToZero}
use Rattle.mpt_base.specs.declared.fault.Reason.{Reason}
use Rattle.mpt_base.specs.declared.fault.Reason.TheVariants as why
use Rattle.mpt_spec.specs.declared.tables.Table.{Table}
use Rattle.mpt_spec.specs.declared.entry.Base.{Base}
use Rattle.mpt_spec.specs.Entries.{AreBaseEntries, IsBaseFaultIn}
use Rattle.mpt_spec.specs.Extended.{AreExtEntries, IsExtFaultIn}
use Rattle.mpt_spec.specs.Revision.{IsKnownRevision, by_revision}
use Rattle.mpt_spec.specs.Table.{base_length_at, ext_length_at, count_at, revision_at, base_end, ext_end, HasBaseInside, HasExtInside, HasChecksum, IsConfigurationTable}
use Rattle.mpt_spec.specs.Faults.{HasTableFaultAt}
use Rattle.mpt_spec.proofs.WindowLemmas.{Agree, Agree-sym, Agree-front, Agree-number, AreBaseEntries-moved, IsBaseFaultIn-moved, AreExtEntries-moved, IsExtFaultIn-moved}

-- the n bytes from i on in a and from j on in b are the same, and hold the parts of a table there that lie inside
pub record HasTableBytes (a b : List ℕ) (i j n : ℕ) : Type 0 where
  pub agree : Agree a b i j n
  pub header : 44 ≤ n
  pub fits_a : i + n ≤ length a
  pub fits_b : j + n ≤ length b
  pub base_a : HasBaseInside a i → base_length_at a i ≤ n
  pub base_b : HasBaseInside b j → base_length_at b j ≤ n
  pub ext_a : HasExtInside a i → base_length_at a i + ext_length_at a i ≤ n
  pub ext_b : HasExtInside b j → base_length_at b j + ext_length_at b j ≤ n

pub HasTableBytes-sym : (a b : List ℕ) (i j n : ℕ) → HasTableBytes a b i j n → HasTableBytes b a j i n
HasTableBytes-sym a b i j n w = record {
  agree = Agree-sym a b i j n w.agree;
  header = w.header;
  fits_a = w.fits_b;
  fits_b = w.fits_a;
  base_a = w.base_b;
  base_b = w.base_a;
  ext_a = w.ext_b;
  ext_b = w.ext_a;
}

-- the bytes of the extended part are as many
pub Agree-ext_length : (a b : List ℕ) (i j n : ℕ) → 44 ≤ n → Agree a b i j n → ext_length_at a i ≡ ext_length_at b j
Agree-ext_length a b i j n header agree =
    ap (λ (r : ℕ). by_revision r 0 (number_at 2 a (i + 40))) (agree.byte 6 (omega (arith, header))) ∙ ap (λ (m : ℕ). by_revision (revision_at b j) 0 m) (Agree-number 2 a b i j n 40 (omega (arith, header)) agree)

-- the lengths in the header are the same
record HasSameLengths (a b : List ℕ) (i j : ℕ) : Type 0 where
  base : base_length_at a i ≡ base_length_at b j
  ext : ext_length_at a i ≡ ext_length_at b j
  count : count_at a i ≡ count_at b j

same_lengths : (a b : List ℕ) (i j n : ℕ) → HasTableBytes a b i j n → HasSameLengths a b i j
same_lengths a b i j n w = record {
  base = Agree-number 2 a b i j n 4 (omega (arith, w.header)) w.agree;
  ext = Agree-ext_length a b i j n w.header w.agree;
  count = Agree-number 2 a b i j n 34 (omega (arith, w.header)) w.agree;
}

base_inside_moved : (a b : List ℕ) (i j n : ℕ) → HasTableBytes a b i j n → HasBaseInside a i → HasBaseInside b j
base_inside_moved a b i j n w h =
    let same = same_lengths a b i j n w in
    record { header = omega (arith, h.header, same.base); inside = omega (arith, w.base_a h, w.fits_b, same.base) }

ext_inside_moved : (a b : List ℕ) (i j n : ℕ) → HasTableBytes a b i j n → HasExtInside a i → HasExtInside b j
ext_inside_moved a b i j n w h =
    let same = same_lengths a b i j n w in
    record { base = base_inside_moved a b i j n w h.base; inside = omega (arith, w.ext_a h, w.fits_b, same.base, same.ext) }

checksum_moved : (a b : List ℕ) (i j n : ℕ) → HasTableBytes a b i j n → HasBaseInside a i → HasChecksum a i → HasChecksum b j
checksum_moved a b i j n w inside h =
    let same = same_lengths a b i j n w in
    let bytes : part a i (base_length_at a i) ≡ part b j (base_length_at a i) = Agree-front a b i j n (base_length_at a i) (w.base_a inside) w.agree in
    subst SumsToZero (bytes ∙ ap (λ (m : ℕ). part b j m) same.base) h

ext_bytes : (a b : List ℕ) (i j n : ℕ) → HasTableBytes a b i j n → HasExtInside a i
    → slice_index a (i + 42) ∷ part a (base_end a i) (ext_length_at a i) ≡ slice_index b (j + 42) ∷ part b (base_end b j) (ext_length_at b j)
ext_bytes a b i j n w inside =
    let same = same_lengths a b i j n w in
    let first : slice_index a (i + 42) ≡ slice_index b (j + 42) = w.agree.byte 42 (omega (arith, w.header)) in
    let bytes : part a (base_end a i) (ext_length_at a i) ≡ part b (j + base_length_at a i) (ext_length_at a i) = w.agree.parts (base_length_at a i) (ext_length_at a i) (w.ext_a inside) in
    let moved : part b (j + base_length_at a i) (ext_length_at a i) ≡ part b (base_end b j) (ext_length_at b j) = rw (same.base, same.ext) refl in
    ap (λ (x : ℕ). x ∷ part a (base_end a i) (ext_length_at a i)) first ∙ ap (λ (xs : List ℕ). slice_index b (j + 42) ∷ xs) (bytes ∙ moved)

base_entries_moved : (es : List Base) (a b : List ℕ) (i j n : ℕ) → HasTableBytes a b i j n → HasBaseInside a i → AreBaseEntries es a (i + 44) (base_end a i) → AreBaseEntries es b (j + 44) (base_end b j)
base_entries_moved es a b i j n w inside h =
    let same = same_lengths a b i j n w in
    subst (λ (m : ℕ). AreBaseEntries es b (j + 44) (j + m)) same.base (AreBaseEntries-moved es a b i j n 44 (base_length_at a i) w.agree (w.base_a inside) h)

-- a table stands wherever its bytes are
pub IsConfigurationTable-moved : (t : Table) (a b : List ℕ) (i j n : ℕ) → HasTableBytes a b i j n → IsConfigurationTable t a i → IsConfigurationTable t b j
IsConfigurationTable-moved t a b i j n w h =
    let same = same_lengths a b i j n w in
    let g = w.agree in
    let x = base_length_at a i in
    let y = ext_length_at a i in
    let all = w.ext_a h.inside in
    let revision : revision_at a i ≡ revision_at b j = g.byte 6 (omega (arith, w.header)) in
    let past : i + x + y ≡ i + (x + y) = omega arith in
    let behind : j + (x + y) ≡ j + x + y = omega arith in
    let exts : AreExtEntries t.ext b (j + x) (j + (x + y)) = AreExtEntries-moved t.ext a b i j n x (x + y) g all (subst (λ (m : ℕ). AreExtEntries t.ext a (i + x) m) past h.ext) in
    record {
      inside = ext_inside_moved a b i j n w h.inside;
      header = record {
        signature = sym (Agree-front a b i j n 4 (omega (arith, w.header)) g) ∙ h.header.signature;
        revision = h.header.revision ∙ revision;
        oem = h.header.oem ∙ g.parts 8 8 (omega (arith, w.header));
        product = h.header.product ∙ g.parts 16 12 (omega (arith, w.header));
        oem_table = h.header.oem_table ∙ Agree-number 4 a b i j n 28 (omega (arith, w.header)) g;
        oem_size = h.header.oem_size ∙ Agree-number 2 a b i j n 32 (omega (arith, w.header)) g;
        local_address = h.header.local_address ∙ Agree-number 4 a b i j n 36 (omega (arith, w.header)) g;
        reserved = h.header.reserved ∙ ap (λ (r : ℕ). by_revision r 0 (slice_index a (i + 43))) revision ∙ ap (λ (c : ℕ). by_revision (revision_at b j) 0 c) (g.byte 43 (omega (arith, w.header)));
        old = h.header.old ∙ ap (λ (r : ℕ). by_revision r (part a (i + 40) 4) (replicate 4 0)) revision ∙ ap (λ (xs : List ℕ). by_revision (revision_at b j) xs (replicate 4 0)) (g.parts 40 4 (omega (arith, w.header)));
      };
      revision = h.revision;
      checksum = checksum_moved a b i j n w h.inside.base h.checksum;
      count = h.count ∙ same.count;
      base = base_entries_moved t.base a b i j n w h.inside.base h.base;
      ext_checksum = λ new. subst SumsToZero (ext_bytes a b i j n w h.inside) (h.ext_checksum (λ e. new (sym revision ∙ e)));
      ext = rw (behind, same.base, same.ext) at exts;
    }

-- where the base table passes the end of one, it passes that of the other
base_past : (a b : List ℕ) (i j n : ℕ) → HasTableBytes a b i j n → 44 ≤ base_length_at a i → length a < base_end a i → length b < base_end b j
base_past a b i j n w long past =
    let same = same_lengths a b i j n w in
    elim (cases_lt (length b) (base_end b j)) [
      | inl h ↦ h
      | inr inside ↦
          let there : HasBaseInside b j = record { header = omega (arith, same.base, long); inside = inside } in
          absurd (omega (arith, past, w.base_b there, w.fits_a, same.base))
    ]

ext_past : (a b : List ℕ) (i j n : ℕ) → HasTableBytes a b i j n → HasBaseInside a i → length a < ext_end a i → length b < ext_end b j
ext_past a b i j n w base past =
    let same = same_lengths a b i j n w in
    elim (cases_lt (length b) (ext_end b j)) [
      | inl h ↦ h
      | inr inside ↦
          let there : HasExtInside b j = record { base = base_inside_moved a b i j n w base; inside = inside } in
          absurd (omega (arith, past, w.ext_b there, w.fits_a, same.base, same.ext))
    ]

base_fault_moved : (a b : List ℕ) (i j n k : ℕ) (v : Reason) → HasTableBytes a b i j n → HasBaseInside a i → IsBaseFaultIn a (i + 44) (base_end a i) (i + k) v → IsBaseFaultIn b (j + 44) (base_end b j) (j + k) v
base_fault_moved a b i j n k v w inside h =
    let same = same_lengths a b i j n w in
    subst (λ (m : ℕ). IsBaseFaultIn b (j + 44) (j + m) (j + k) v) same.base (IsBaseFaultIn-moved a b i j n 44 (base_length_at a i) k v w.agree (w.base_a inside) h)

ext_fault_moved : (a b : List ℕ) (i j n k : ℕ) (v : Reason) → HasTableBytes a b i j n → HasExtInside a i → IsExtFaultIn a (base_end a i) (ext_end a i) (i + k) v → IsExtFaultIn b (base_end b j) (ext_end b j) (j + k) v
ext_fault_moved a b i j n k v w inside h =
    let same = same_lengths a b i j n w in
    let x = base_length_at a i in
    let y = ext_length_at a i in
    let past : i + x + y ≡ i + (x + y) = omega arith in
    let behind : j + (x + y) ≡ j + x + y = omega arith in
    let moved : IsExtFaultIn b (j + x) (j + (x + y)) (j + k) v = IsExtFaultIn-moved a b i j n x (x + y) k v w.agree (w.ext_a inside) (subst (λ (m : ℕ). IsExtFaultIn a (i + x) m (i + k) v) past h) in
    rw (behind, same.base, same.ext) at moved

-- a table is at fault wherever its bytes are
pub HasTableFaultAt-moved : (a b : List ℕ) (i j n k : ℕ) (v : Reason) → HasTableBytes a b i j n → HasTableFaultAt a i (i + k) v → HasTableFaultAt b j (j + k) v
HasTableFaultAt-moved a b i j n k why.BadSignature w h =
    let same = Agree-front a b i j n 4 (omega (arith, w.header)) w.agree in
    (omega (arith, h.0), λ e. h.1 (same ∙ e))
HasTableFaultAt-moved a b i j n k why.ShortLength w h =
    let same = same_lengths a b i j n w in (omega (arith, h.0), omega (arith, h.1, same.base))
HasTableFaultAt-moved a b i j n k why.LengthOutside w h =
    let same = same_lengths a b i j n w in (omega (arith, h.0), omega (arith, h.1, same.base), base_past a b i j n w h.1 h.2)
HasTableFaultAt-moved a b i j n k why.BadRevision w h =
    let same = w.agree.byte 6 (omega (arith, w.header)) in (omega (arith, h.0), λ known. h.1 (subst (λ (r : ℕ). IsKnownRevision r) (sym same) known))
HasTableFaultAt-moved a b i j n k why.BadSum w h =
    let back = HasTableBytes-sym a b i j n w in
    let inside = base_inside_moved a b i j n w h.1 in
    (omega (arith, h.0), inside, λ c. h.2 (checksum_moved b a j i n back inside c))
HasTableFaultAt-moved a b i j n k why.BadCount w h =
    let same = same_lengths a b i j n w in
    (omega (arith, h.0), base_inside_moved a b i j n w h.1, h.2, base_entries_moved h.2 a b i j n w h.1 h.3, λ e. h.4 (e ∙ sym same.count))
HasTableFaultAt-moved a b i j n k why.ExtOutside w h =
    (omega (arith, h.0), base_inside_moved a b i j n w h.1, ext_past a b i j n w h.1 h.2)
HasTableFaultAt-moved a b i j n k why.BadExtSum w h =
    let same = w.agree.byte 6 (omega (arith, w.header)) in
    (omega (arith, h.0), ext_inside_moved a b i j n w h.1, λ e. h.2 (same ∙ e), λ c. h.3 (subst SumsToZero (sym (ext_bytes a b i j n w h.1)) c))
HasTableFaultAt-moved a b i j n k why.UnknownEntry w h = (base_inside_moved a b i j n w h.0, base_fault_moved a b i j n k why.UnknownEntry w h.0 h.1)
HasTableFaultAt-moved a b i j n k why.CutEntry w h = (base_inside_moved a b i j n w h.0, base_fault_moved a b i j n k why.CutEntry w h.0 h.1)
HasTableFaultAt-moved a b i j n k why.BadExtType w h = (ext_inside_moved a b i j n w h.0, ext_fault_moved a b i j n k why.BadExtType w h.0 h.1)
HasTableFaultAt-moved a b i j n k why.BadExtLength w h = (ext_inside_moved a b i j n w h.0, ext_fault_moved a b i j n k why.BadExtLength w h.0 h.1)
HasTableFaultAt-moved a b i j n k why.CutExtEntry w h = (ext_inside_moved a b i j n w h.0, ext_fault_moved a b i j n k why.CutExtEntry w h.0 h.1)
HasTableFaultAt-moved a b i j n k _ w h = absurd h
