-- A table that bytes are is lawful: its opaque entries have a length that a byte can say, and it is as long as the bytes.
use Rattle.std.proofs.Common.{◌≡◌, ℕ, ◌+◌, ◌≤◌, List, [], ◌∷◌, length, arith}
use Rattle.std.specs.Prelude.{sum_by, Result, Ok, Err, IfOk}
use Rattle.std.specs.List.{AllByRecursion}
use Rattle.std.proofs.lemmas.List.Sums.{sum_by-cons}
use Rattle.mpt_base.specs.Bytes.{IsByteList}
use Rattle.mpf_madt.specs.declared.madt.Madt.{Madt}
use Rattle.mpf_madt.specs.declared.madt.MadtEntry.{MadtEntry}
use Rattle.mpf_madt.specs.declared.madt.MadtEntry.TheVariants as entry
use Rattle.mpf_madt.specs.Entries.{IsMadtEntryAt, entry_length, AreMadtEntries}
use Rattle.mpf_madt.specs.Table.{IsMadt}
use Rattle.mpf_madt.specs.Lawful.{IsLawfulEntry, IsLawfulMadt}

lawful_entry : (e : MadtEntry) (bytes : List ℕ) (at : ℕ) → IsByteList bytes → IsMadtEntryAt e bytes at → IsLawfulEntry e
lawful_entry (entry.Other e) bytes at b h = (h.other, omega (arith, b (at + 1), h.length_byte))
lawful_entry (entry.Local u a f) bytes at b h = tt
lawful_entry (entry.Io i r a g) bytes at b h = tt
lawful_entry (entry.Override i r a g) bytes at b h = tt
lawful_entry (entry.Nmi u a f) bytes at b h = tt

lawful_entries : (es : List MadtEntry) (bytes : List ℕ) (from to : ℕ) → IsByteList bytes → AreMadtEntries es bytes from to → AllByRecursion IsLawfulEntry es
lawful_entries [] bytes from to b h = tt
lawful_entries (e ∷ es) bytes from to b h = (lawful_entry e bytes from b h.0, lawful_entries es bytes (from + entry_length e) to b h.1)

-- entries end to end are as long as their range
pub AreMadtEntries-size : (es : List MadtEntry) (bytes : List ℕ) (from to : ℕ) → AreMadtEntries es bytes from to → from + sum_by entry_length es ≡ to
AreMadtEntries-size [] bytes from to h = omega (arith, h)
AreMadtEntries-size (e ∷ es) bytes from to h = omega (arith, sum_by-cons entry_length e es, AreMadtEntries-size es bytes (from + entry_length e) to h.1)

pub IsMadt-lawful : (m : Madt) (bytes : List ℕ) → IsByteList bytes → length bytes ≤ 1048576 → IsMadt m bytes → IsLawfulMadt m
IsMadt-lawful m bytes b l t = record {
  lawful = lawful_entries m.entries bytes 44 (length bytes) b t.entries;
  fits = omega (arith, AreMadtEntries-size m.entries bytes 44 (length bytes) t.entries);
}

pub IsLawfulMadt-read : {E : Type 0} (bytes : List ℕ) (r : Result Madt E) → IsByteList bytes → length bytes ≤ 1048576 → IfOk r (λ m. IsMadt m bytes) → IfOk r (λ m. IsLawfulMadt m)
IsLawfulMadt-read bytes (Ok m) b l t = IsMadt-lawful m bytes b l t
IsLawfulMadt-read bytes (Err e) b l t = tt
