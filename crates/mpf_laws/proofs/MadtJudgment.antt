-- Every list of bytes is a MADT, or has a first fault.
use Rattle.std.proofs.Common.{◌≡◌, ℕ, zero, suc, ◌+◌, ◌-◌, ◌<◌, ◌≤◌, ◌⊎◌, List, [], ◌∷◌, length, sum, sym, refl, ap, subst, inl, inr, arith}
use Rattle.std.specs.Prelude.{slice_index, ◌%◌, codes}
use Rattle.std.proofs.lemmas.Bool.{cases_lt}
use Rattle.mpt_base.specs.Bytes.{part, number_at, SumsToZero}
use Rattle.mpt_spec.proofs.SpellingLemmas.{length-part}
use Rattle.mpt_laws.proofs.EntryJudgment.{Decided, decided-eq, decided-list}
use Rattle.mpf_madt.specs.declared.madt.MadtEntry.{MadtEntry}
use Rattle.mpf_madt.specs.declared.madt.MadtEntry.TheVariants as entry
use Rattle.mpf_madt.specs.declared.refusal.MadtReason.{MadtReason}
use Rattle.mpf_madt.specs.declared.refusal.MadtReason.TheVariants as why
use Rattle.mpf_madt.specs.Entries.{IsMadtEntryAt, entry_length, AreMadtEntries, IsLengthOfType, IsEntryFaultIn}
use Rattle.mpf_madt.specs.Own.{HasSoundHeader}
use Rattle.mpf_madt.proofs.EntryLemmas.{IsEntryFaultIn-after}
use Rattle.mpf_madt.proofs.FaultLemmas.{none_before_short, none_before_signature, none_before_length, none_before_checksum, IsEntryFaultIn-first}
use Rattle.mpf_laws.specs.Laws.{HasMadt, HasFirstMadtFault}

-- a length byte is that of its type or isn't
decided-length : (t n : ℕ) → Decided (IsLengthOfType t n)
decided-length t n = by_size (cases_lt n 2)
  where
    by_nmi : 2 ≤ n → ¬ (t ≡ 0) → ¬ (t ≡ 1) → ¬ (t ≡ 2) → Decided (t ≡ 4) → Decided (n ≡ 6) → Decided (IsLengthOfType t n)
    by_nmi w a b c (inl e) (inl l) = inl (record { whole = w; local = λ u. absurd (a u); io = λ u. absurd (b u); override = λ u. absurd (c u); nmi = λ u. l })
    by_nmi w a b c (inl e) (inr m) = inr (λ h. m (h.nmi e))
    by_nmi w a b c (inr d) _ = inl (record { whole = w; local = λ u. absurd (a u); io = λ u. absurd (b u); override = λ u. absurd (c u); nmi = λ u. absurd (d u) })

    by_override : 2 ≤ n → ¬ (t ≡ 0) → ¬ (t ≡ 1) → Decided (t ≡ 2) → Decided (n ≡ 10) → Decided (IsLengthOfType t n)
    by_override w a b (inl e) (inl l) = inl (record { whole = w; local = λ u. absurd (a u); io = λ u. absurd (b u); override = λ u. l; nmi = λ u. absurd (omega (arith, e, u)) })
    by_override w a b (inl e) (inr m) = inr (λ h. m (h.override e))
    by_override w a b (inr c) _ = by_nmi w a b c (decided-eq t 4) (decided-eq n 6)

    by_io : 2 ≤ n → ¬ (t ≡ 0) → Decided (t ≡ 1) → Decided (n ≡ 12) → Decided (IsLengthOfType t n)
    by_io w a (inl e) (inl l) = inl (record { whole = w; local = λ u. absurd (a u); io = λ u. l; override = λ u. absurd (omega (arith, e, u)); nmi = λ u. absurd (omega (arith, e, u)) })
    by_io w a (inl e) (inr m) = inr (λ h. m (h.io e))
    by_io w a (inr b) _ = by_override w a b (decided-eq t 2) (decided-eq n 10)

    by_local : 2 ≤ n → Decided (t ≡ 0) → Decided (n ≡ 8) → Decided (IsLengthOfType t n)
    by_local w (inl e) (inl l) = inl (record { whole = w; local = λ u. l; io = λ u. absurd (omega (arith, e, u)); override = λ u. absurd (omega (arith, e, u)); nmi = λ u. absurd (omega (arith, e, u)) })
    by_local w (inl e) (inr m) = inr (λ h. m (h.local e))
    by_local w (inr a) _ = by_io w a (decided-eq t 1) (decided-eq n 12)

    by_size : (n < 2) ⊎ (2 ≤ n) → Decided (IsLengthOfType t n)
    by_size (inl short) = inr (λ h. omega (arith, short, h.whole))
    by_size (inr w) = by_local w (decided-eq t 0) (decided-eq n 8)

-- the entry at a place whose length byte is right
record HasEntryAt (bytes : List ℕ) (at : ℕ) : Type 0 where
  own : MadtEntry
  there : IsMadtEntryAt own bytes at
  long : slice_index bytes (at + 1) ≡ entry_length own

entry_at : (bytes : List ℕ) (at : ℕ) → IsLengthOfType (slice_index bytes at) (slice_index bytes (at + 1)) → at + slice_index bytes (at + 1) ≤ length bytes → HasEntryAt bytes at
entry_at bytes at right room = by_type (decided-eq (slice_index bytes at) 0) (decided-eq (slice_index bytes at) 1) (decided-eq (slice_index bytes at) 2) (decided-eq (slice_index bytes at) 4)
  where
    by_type : Decided (slice_index bytes at ≡ 0) → Decided (slice_index bytes at ≡ 1) → Decided (slice_index bytes at ≡ 2) → Decided (slice_index bytes at ≡ 4) → HasEntryAt bytes at
    by_type (inl t) _ _ _ = record {
      own = entry.Local (slice_index bytes (at + 2)) (slice_index bytes (at + 3)) (number_at 4 bytes (at + 4));
      there = record { type_byte = t; length_byte = right.local t; uid_there = refl; apic_there = refl; flags_there = refl };
      long = right.local t;
    }
    by_type (inr _) (inl t) _ _ = record {
      own = entry.Io (slice_index bytes (at + 2)) (slice_index bytes (at + 3)) (number_at 4 bytes (at + 4)) (number_at 4 bytes (at + 8));
      there = record { type_byte = t; length_byte = right.io t; id_there = refl; reserved_there = refl; address_there = refl; base_there = refl };
      long = right.io t;
    }
    by_type (inr _) (inr _) (inl t) _ = record {
      own = entry.Override (slice_index bytes (at + 2)) (slice_index bytes (at + 3)) (number_at 4 bytes (at + 4)) (number_at 2 bytes (at + 8));
      there = record { type_byte = t; length_byte = right.override t; bus_there = refl; source_there = refl; gsi_there = refl; flags_there = refl };
      long = right.override t;
    }
    by_type (inr _) (inr _) (inr _) (inl t) = record {
      own = entry.Nmi (slice_index bytes (at + 2)) (number_at 2 bytes (at + 3)) (slice_index bytes (at + 5));
      there = record { type_byte = t; length_byte = right.nmi t; uid_there = refl; flags_there = refl; lint_there = refl };
      long = right.nmi t;
    }
    by_type (inr a) (inr b) (inr c) (inr d) =
        let count : ℕ = slice_index bytes (at + 1) - 2 in
        let rest : List ℕ = part bytes (at + 2) count in
        let whole : 2 ≤ slice_index bytes (at + 1) = right.whole in
        let size : length rest ≡ count = length-part bytes (at + 2) count (omega arith) in
        record {
          own = entry.Other (record { kind = slice_index bytes at; rest = rest });
          there = record { type_byte = refl; other = (a, b, c, d); length_byte = omega arith; rest = ap (λ n. part bytes (at + 2) n) (sym size) };
          long = omega arith;
        }

-- entries end to end, or the fault of them
abbrev AreJudged : List ℕ → ℕ → ℕ → Type 0
AreJudged bytes from to = ((es : List MadtEntry) × AreMadtEntries es bytes from to) ⊎ ((k : ℕ) × (w : MadtReason) × IsEntryFaultIn bytes from to k w)

entry_length-some : (e : MadtEntry) → 1 ≤ entry_length e
entry_length-some (entry.Local u a f) = omega arith
entry_length-some (entry.Io i r a b) = omega arith
entry_length-some (entry.Override b s g f) = omega arith
entry_length-some (entry.Nmi u f l) = omega arith
entry_length-some (entry.Other e) = omega arith

-- one entry further
entry_step : (bytes : List ℕ) (from to : ℕ) → to ≤ length bytes → from < to → ((e : MadtEntry) → IsMadtEntryAt e bytes from → from + entry_length e ≤ to → AreJudged bytes (from + entry_length e) to) → AreJudged bytes from to
entry_step bytes from to inside some rest = by_bytes (cases_lt to (from + 2))
  where
    joined : (e : MadtEntry) → IsMadtEntryAt e bytes from → AreJudged bytes (from + entry_length e) to → AreJudged bytes from to
    joined e there (inl es) = inl (e ∷ es.0, (there, es.1))
    joined e there (inr f) = inr (f.0, f.1, IsEntryFaultIn-after (e ∷ []) bytes from (from + entry_length e) to f.0 f.1 (there, refl) f.2)

    taken : (h : HasEntryAt bytes from) → from + slice_index bytes (from + 1) ≤ to → AreJudged bytes from to
    taken h room = joined h.own h.there (rest h.own h.there (subst (λ n. from + n ≤ to) h.long room))

    by_room : IsLengthOfType (slice_index bytes from) (slice_index bytes (from + 1)) → (to < from + slice_index bytes (from + 1)) ⊎ (from + slice_index bytes (from + 1) ≤ to) → AreJudged bytes from to
    by_room right (inl cut) = inr (from, why.CutEntry, (record { entries = []; are_entries = refl; more = some }, inr (right, cut)))
    by_room right (inr room) = taken (entry_at bytes from right (omega arith)) room

    by_length : from + 2 ≤ to → Decided (IsLengthOfType (slice_index bytes from) (slice_index bytes (from + 1))) → AreJudged bytes from to
    by_length two (inl right) = by_room right (cases_lt to (from + slice_index bytes (from + 1)))
    by_length two (inr wrong) = inr (from + 1, why.BadEntryLength, (from, refl, record { entries = []; are_entries = refl; more = some }, two, wrong))

    by_bytes : (to < from + 2) ⊎ (from + 2 ≤ to) → AreJudged bytes from to
    by_bytes (inl one) = inr (from, why.CutEntry, (record { entries = []; are_entries = refl; more = some }, inl (omega arith)))
    by_bytes (inr two) = by_length two (decided-length (slice_index bytes from) (slice_index bytes (from + 1)))

entries_judged : (fuel : ℕ) (bytes : List ℕ) (from to : ℕ) → to ≤ length bytes → from ≤ to → to ≤ from + fuel → AreJudged bytes from to
entries_judged zero bytes from to inside low high = inl ([], omega arith)
entries_judged (suc fuel) bytes from to inside low high =
    by_end (cases_lt from to) (λ some. entry_step bytes from to inside some (λ e there room. entries_judged fuel bytes (from + entry_length e) to inside room (omega (arith, entry_length-some e))))
  where
    by_end : (from < to) ⊎ (to ≤ from) → (from < to → AreJudged bytes from to) → AreJudged bytes from to
    by_end (inl some) go = go some
    by_end (inr none) go = inl ([], omega arith)

AreMadtEntries-judged : (bytes : List ℕ) (from to : ℕ) → to ≤ length bytes → from ≤ to → AreJudged bytes from to
AreMadtEntries-judged bytes from to inside low = entries_judged (to - from) bytes from to inside low (omega arith)

-- the entries behind a sound header make the table, or have the first fault
sound-judged : (bytes : List ℕ) → HasSoundHeader bytes → AreJudged bytes 44 (length bytes) → HasMadt bytes ⊎ HasFirstMadtFault bytes
sound-judged bytes s (inl es) = inl (
  record {
    revision = slice_index bytes 8;
    oem = part bytes 10 6;
    table = part bytes 16 8;
    oem_revision = number_at 4 bytes 24;
    creator = part bytes 28 4;
    creator_revision = number_at 4 bytes 32;
    local_address = number_at 4 bytes 36;
    flags = number_at 4 bytes 40;
    entries = es.0;
  },
  record {
    whole = s.whole;
    size = s.size;
    checksum = s.checksum;
    header = record { signature = s.signature; revision = refl; oem = refl; table = refl; oem_revision = refl; creator = refl; creator_revision = refl; local_address = refl; flags = refl };
    entries = es.1;
  },
)
sound-judged bytes s (inr f) = inr (f.0, f.1, IsEntryFaultIn-first bytes f.0 f.1 s f.2)

-- every list of bytes is a table, or has a first fault
pub madt-judged : (bytes : List ℕ) → HasMadt bytes ⊎ HasFirstMadtFault bytes
madt-judged bytes = by_size (cases_lt (length bytes) 44)
  where
    by_checksum : 44 ≤ length bytes → part bytes 0 4 ≡ codes "APIC" → number_at 4 bytes 4 ≡ length bytes → Decided (sum bytes % 256 ≡ 0) → HasMadt bytes ⊎ HasFirstMadtFault bytes
    by_checksum w g l (inr n) = inr (9, why.BadSum, record { stands = (refl, w, n); least = none_before_checksum bytes w g l })
    by_checksum w g l (inl c) = sound-judged bytes (record { whole = w; signature = g; size = l; checksum = c }) (AreMadtEntries-judged bytes 44 (length bytes) (omega arith) w)

    by_length : 44 ≤ length bytes → part bytes 0 4 ≡ codes "APIC" → Decided (number_at 4 bytes 4 ≡ length bytes) → HasMadt bytes ⊎ HasFirstMadtFault bytes
    by_length w g (inr n) = inr (4, why.BadLength, record { stands = (refl, w, n); least = none_before_length bytes w g })
    by_length w g (inl l) = by_checksum w g l (decided-eq (sum bytes % 256) 0)

    by_signature : 44 ≤ length bytes → Decided (part bytes 0 4 ≡ codes "APIC") → HasMadt bytes ⊎ HasFirstMadtFault bytes
    by_signature w (inr n) = inr (0, why.BadSignature, record { stands = (refl, w, n); least = none_before_signature bytes w })
    by_signature w (inl g) = by_length w g (decided-eq (number_at 4 bytes 4) (length bytes))

    by_size : (length bytes < 44) ⊎ (44 ≤ length bytes) → HasMadt bytes ⊎ HasFirstMadtFault bytes
    by_size (inl short) = inr (0, why.Short, record { stands = (refl, short); least = none_before_short bytes })
    by_size (inr w) = by_signature w (decided-list (part bytes 0 4) (codes "APIC"))
