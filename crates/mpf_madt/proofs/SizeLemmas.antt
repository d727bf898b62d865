-- The table of a platform is lawful: it has no opaque entry, and few enough entries of each kind.
use Rattle.std.proofs.Common.{◌≡◌, ℕ, suc, ◌+◌, ◌*◌, ◌%◌, ◌≤◌, Bool, true, false, cond, List, [], ◌∷◌, ◌++◌, length, map, refl, sym, subst, arith}
use Rattle.std.specs.Prelude.{Option, Some, None, filter, filter_map, sum_by, option_map, ◌==◌}
use Rattle.std.specs.List.{enumerate_from, cons_option, range_with_len, AllByRecursion}
use Rattle.std.proofs.lemmas.List.Sums.{sum_by-cons, sum_by-append}
use Rattle.mpt_spec.specs.declared.entry.IoApic.{IoApic}
use Rattle.mpt_spec.specs.declared.entry.IntEntry.{IntEntry}
use Rattle.mpt_spec.specs.declared.entry.Processor.{Processor}
use Rattle.mpt_route.specs.declared.platform.Platform.{Platform}
use Rattle.mpt_route.specs.declared.route.Answer.{Answer}
use Rattle.mpt_route.specs.Routes.{is_enabled}
use Rattle.mpf_madt.specs.declared.line.Line.{Line}
use Rattle.mpf_madt.specs.declared.madt.MadtEntry.{MadtEntry}
use Rattle.mpf_madt.specs.declared.madt.MadtEntry.TheVariants as entry
use Rattle.mpf_madt.specs.Entries.{entry_length}
use Rattle.mpf_madt.specs.Lawful.{IsLawfulEntry, IsLawfulMadt}
use Rattle.mpf_madt.specs.Lines.{source_of}
use Rattle.mpf_madt.specs.Translation.{local_of, io_of, is_plain, flags_of, override_for, uid_of, nmi_of, locals_of, ios_of, overrides_of, nmis_of, apics_of, interrupts_of, madt_of}
use Rattle.mpt_route.specs.Platform.{IsSmallPlatform}

-- entries are lawful, and have at most so many bytes
record IsWithin (n : ℕ) (es : List MadtEntry) : Type 0 where
  lawful : AllByRecursion IsLawfulEntry es
  fits : sum_by entry_length es ≤ n

all-append : (xs ys : List MadtEntry) → AllByRecursion IsLawfulEntry xs → AllByRecursion IsLawfulEntry ys → AllByRecursion IsLawfulEntry (xs ++ ys)
all-append [] ys h g = g
all-append (x ∷ xs) ys h g = (h.0, all-append xs ys h.1 g)

within-append : (n m : ℕ) (xs ys : List MadtEntry) → IsWithin n xs → IsWithin m ys → IsWithin (n + m) (xs ++ ys)
within-append n m xs ys h g = record {
  lawful = all-append xs ys h.lawful g.lawful;
  fits = omega (arith, sum_by-append entry_length xs ys, h.fits, g.fits);
}

within-cons : (n m : ℕ) (e : MadtEntry) (es : List MadtEntry) → IsLawfulEntry e → entry_length e ≤ n → IsWithin m es → IsWithin (n + m) (e ∷ es)
within-cons n m e es l k g = record { lawful = (l, g.lawful); fits = omega (arith, sum_by-cons entry_length e es, k, g.fits) }

within-more : (n m : ℕ) (es : List MadtEntry) → n ≤ m → IsWithin n es → IsWithin m es
within-more n m es l h = record { lawful = h.lawful; fits = omega (arith, h.fits) }

none_within : (n : ℕ) → IsWithin n []
none_within n = record { lawful = tt; fits = omega arith }

locals_within : (n : ℕ) (es : List Processor) → IsWithin (8 * length es) (map local_of (enumerate_from n es))
locals_within n [] = none_within 0
locals_within n (e ∷ es) =
    let next : ℕ = n + 1 in
    within-more (8 + 8 * length es) (8 * length (e ∷ es)) (map local_of (enumerate_from n (e ∷ es))) (omega arith)
    (within-cons 8 (8 * length es) (entry.Local n e.apic _) (map local_of (enumerate_from next es)) tt (omega arith) (locals_within next es))

ios_within : (n : ℕ) (ios : List IoApic) → IsWithin (12 * length ios) (map io_of (enumerate_from n ios))
ios_within n [] = none_within 0
ios_within n (io ∷ ios) =
    let next : ℕ = n + 1 in
    within-more (12 + 12 * length ios) (12 * length (io ∷ ios)) (map io_of (enumerate_from n (io ∷ ios))) (omega arith)
    (within-cons 12 (12 * length ios) (entry.Io io.id 0 io.address _) (map io_of (enumerate_from next ios)) tt (omega arith) (ios_within next ios))

filter_count : (ios : List IoApic) → length (filter is_enabled ios) ≤ length ios
filter_count [] = omega arith
filter_count (io ∷ ios) = go (is_enabled io) (filter_count ios)
  where
    go : (b : Bool) → length (filter is_enabled ios) ≤ length ios → length (cond b (io ∷ filter is_enabled ios) (filter is_enabled ios)) ≤ length (io ∷ ios)
    go true l = omega arith
    go false l = omega arith

-- of each member at most one entry of so many bytes
module _ {X : Type 0} (n : ℕ) (h : X → Option MadtEntry) (one : (x : X) (e : MadtEntry) → h x ≡ Some e → IsLawfulEntry e × (entry_length e ≤ n)) where
  chosen_within : (xs : List X) → IsWithin (n * length xs) (filter_map h xs)
  chosen_within [] = within-more 0 (n * 0) [] (omega arith) (none_within 0)
  chosen_within (x ∷ xs) = go (h x) refl (chosen_within xs)
    where
      more : n * length (x ∷ xs) ≡ n + n * length xs
      more = let e : n * suc (length xs) ≡ n + n * length xs = grind arith in e

      go : (o : Option MadtEntry) → h x ≡ o → IsWithin (n * length xs) (filter_map h xs) → IsWithin (n * length (x ∷ xs)) (cons_option o (filter_map h xs))
      go None e rest = within-more (n * length xs) (n * length (x ∷ xs)) (filter_map h xs) (omega (arith, more)) rest
      go (Some y) e rest =
          let fits = one x y e in
          within-more (n + n * length xs) (n * length (x ∷ xs)) (y ∷ filter_map h xs) (omega (arith, more)) (within-cons n (n * length xs) y (filter_map h xs) fits.0 fits.1 rest)

override_small : (irq : ℕ) (o : Option Line) (e : MadtEntry) → override_for irq o ≡ Some e → IsLawfulEntry e × (entry_length e ≤ 10)
override_small irq None e h = absurd cc
override_small irq (Some l) e h = go (is_plain irq l) h
  where
    go : (b : Bool) → cond b None (Some (entry.Override 0 irq l.gsi (flags_of l))) ≡ Some e → IsLawfulEntry e × (entry_length e ≤ 10)
    go true g = absurd cc
    go false g =
        let same : entry.Override 0 irq l.gsi (flags_of l) ≡ e = cc in
        subst (λ (x : MadtEntry). IsLawfulEntry x × (entry_length x ≤ 10)) same (tt, omega arith)

nmi_small : (processors : List Processor) (i : IntEntry) (e : MadtEntry) → nmi_of processors i ≡ Some e → IsLawfulEntry e × (entry_length e ≤ 6)
nmi_small processors i e h = go (i.kind == 1) (uid_of processors i.dest) h
  where
    go : (b : Bool) (o : Option ℕ) → cond b (option_map (λ (uid : ℕ). entry.Nmi uid (i.flags % 16) i.pin) o) None ≡ Some e → IsLawfulEntry e × (entry_length e ≤ 6)
    go false o g = absurd cc
    go true None g = absurd cc
    go true (Some uid) g =
        let same : entry.Nmi uid (i.flags % 16) i.pin ≡ e = cc in
        subst (λ (x : MadtEntry). IsLawfulEntry x × (entry_length x ≤ 6)) same (tt, omega arith)

-- the table of a small platform of at most 255 processors
pub madt_of-small : (p : Platform) (answers : List Answer) → IsSmallPlatform p → length p.processors ≤ 255 → IsLawfulMadt (madt_of p answers)
madt_of-small p answers s few =
    let ios : List IoApic = filter is_enabled p.ios in
    let count : length ios ≤ length p.ios = filter_count p.ios in
    let all : IsWithin (8 * length p.processors + 12 * length ios + (10 * 16 + 6 * length p.lints)) (apics_of p ++ interrupts_of p answers) =
    within-append (8 * length p.processors + 12 * length ios) (10 * 16 + 6 * length p.lints) (apics_of p) (interrupts_of p answers)
    (within-append (8 * length p.processors) (12 * length ios) (locals_of p.processors) (ios_of p.ios) (locals_within 0 p.processors) (ios_within 0 ios))
    (within-append (10 * 16) (6 * length p.lints) (overrides_of p answers) (nmis_of p.processors p.lints)
    (chosen_within 10 (λ irq. override_for irq (source_of p answers irq)) (λ irq e h. override_small irq (source_of p answers irq) e h) (range_with_len 0 16))
    (chosen_within 6 (nmi_of p.processors) (λ i e h. nmi_small p.processors i e h) p.lints)) in
    record { lawful = all.lawful; fits = omega (arith, all.fits, s.processors, s.ios, s.lints, count) }

pub madt_of-lawful : (p : Platform) (answers : List Answer) (es : List MadtEntry) → IsSmallPlatform p → length p.processors ≤ 255 → es ≡ apics_of p ++ interrupts_of p answers → IsLawfulMadt (record (madt_of p answers) { entries = es })
madt_of-lawful p answers es s few e = subst (λ (xs : List MadtEntry). IsLawfulMadt (record (madt_of p answers) { entries = xs })) (sym e) (madt_of-small p answers s few)
