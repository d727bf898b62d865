-- In the table of a platform each ISA interrupt that has a source has its line.
use Rattle.std.proofs.Common.{◌≡◌, ℕ, zero, suc, ◌+◌, ◌/◌, ◌%◌, ◌<◌, ◌≤◌, ◌⊎◌, Bool, true, false, cond, List, [], ◌∷◌, map, refl, sym, ap, ◌∙◌, inl, inr, arith}
use Rattle.std.specs.Prelude.{Option, Some, None, filter, filter_map, option_map, unwrap_or, ◌==◌, not, ◌&&◌, ◌||◌}
use Rattle.std.specs.List.{enumerate_from, cons_option, range_with_len}
use Rattle.std.specs.Option.{option_or}
use Rattle.std.proofs.lemmas.Bool.{eq-eqb, cases_lt}
use Rattle.std.proofs.lemmas.Bool.Decides.{nat_tests}
use Rattle.mpt_spec.specs.declared.entry.IoApic.{IoApic}
use Rattle.mpt_spec.specs.declared.entry.IntEntry.{IntEntry}
use Rattle.mpt_spec.specs.declared.entry.Processor.{Processor}
use Rattle.mpt_route.specs.declared.platform.Platform.{Platform}
use Rattle.mpt_route.specs.declared.route.Answer.{Answer}
use Rattle.mpt_route.specs.Routes.{is_enabled}
use Rattle.mpf_madt.specs.declared.line.Line.{Line}
use Rattle.mpf_madt.specs.declared.madt.MadtEntry.{MadtEntry}
use Rattle.mpf_madt.specs.declared.madt.MadtEntry.TheVariants as entry
use Rattle.mpf_madt.specs.Lines.{first_some, override_of, plain_line, isa_of, source_of, Differs}
use Rattle.mpf_madt.specs.Translation.{local_of, io_of, is_plain, flags_of, override_for, uid_of, nmi_of, locals_of, ios_of, overrides_of, nmis_of, apics_of, interrupts_of, madt_of}
use Rattle.mpf_madt.proofs.FirstLemmas.{first_some-append}

-- what a function gives of what there is
abbrev bind : {A B : Type 0} → Option A → (A → Option B) → Option B
bind None f = None
bind (Some x) f = f x

module _ (irq : ℕ) where
  locals_none : (n : ℕ) (es : List Processor) → first_some (override_of irq) (map local_of (enumerate_from n es)) ≡ None
  locals_none n [] = refl
  locals_none n (e ∷ es) = locals_none (n + 1) es

  ios_none : (n : ℕ) (ios : List IoApic) → first_some (override_of irq) (map io_of (enumerate_from n ios)) ≡ None
  ios_none n [] = refl
  ios_none n (io ∷ ios) = ios_none (n + 1) ios

  first_of_option : (o : Option MadtEntry) (es : List MadtEntry) → first_some (override_of irq) (cons_option o es) ≡ option_or (bind o (override_of irq)) (first_some (override_of irq) es)
  first_of_option None es = refl
  first_of_option (Some e) es = refl

  nmi_none : (processors : List Processor) (i : IntEntry) → bind (nmi_of processors i) (override_of irq) ≡ None
  nmi_none processors i = go (i.kind == 1) (uid_of processors i.dest)
    where
      go : (b : Bool) (o : Option ℕ) → bind (cond b (option_map (λ (uid : ℕ). entry.Nmi uid (i.flags % 16) i.pin) o) None) (override_of irq) ≡ None
      go false o = refl
      go true None = refl
      go true (Some uid) = refl

  nmis_none : (processors : List Processor) (lints : List IntEntry) → first_some (override_of irq) (filter_map (nmi_of processors) lints) ≡ None
  nmis_none processors [] = refl
  nmis_none processors (i ∷ lints) =
      first_of_option (nmi_of processors i) (filter_map (nmi_of processors) lints)
      ∙ ap (λ (o : Option Line). option_or o (first_some (override_of irq) (filter_map (nmi_of processors) lints))) (nmi_none processors i) ∙ nmis_none processors lints

  -- the override of another interrupt says nothing of this one
  other_none : (k : ℕ) (o : Option Line) → (k == irq) ≡ false → bind (override_for k o) (override_of irq) ≡ None
  other_none k None e = refl
  other_none k (Some l) e = go (is_plain k l)
    where
      go : (b : Bool) → bind (cond b None (Some (entry.Override 0 k l.gsi (flags_of l)))) (override_of irq) ≡ None
      go true = refl
      go false = ap (λ (t : Bool). cond t (Some (record { gsi = l.gsi; level = flags_of l / 4 % 4 == 3; low = flags_of l % 4 == 3 })) None) e

  abbrev has : List ℕ → Bool
  has [] = false
  has (k ∷ ks) = (k == irq) || has ks

  or_self : {B : Type 0} (b : Bool) (o : Option B) → option_or o (cond b o None) ≡ o
  or_self true None = refl
  or_self false None = refl
  or_self b (Some x) = refl

  overrides_scan : (g : ℕ → Option Line) (ks : List ℕ)
      → first_some (override_of irq) (filter_map (λ (k : ℕ). override_for k (g k)) ks) ≡ cond (has ks) (bind (override_for irq (g irq)) (override_of irq)) None
  overrides_scan g [] = refl
  overrides_scan g (k ∷ ks) =
      first_of_option (override_for k (g k)) (filter_map (λ (j : ℕ). override_for j (g j)) ks)
      ∙ ap (option_or (bind (override_for k (g k)) (override_of irq))) (overrides_scan g ks) ∙ go (k == irq) refl
    where
      own : Option Line
      own = bind (override_for irq (g irq)) (override_of irq)

      go : (b : Bool) → (k == irq) ≡ b → option_or (bind (override_for k (g k)) (override_of irq)) (cond (has ks) own None) ≡ cond (b || has ks) own None
      go true e =
          let same : k ≡ irq = grind (arith, nat_tests) in
          ap (λ (j : ℕ). option_or (bind (override_for j (g j)) (override_of irq)) (cond (has ks) own None)) same ∙ or_self (has ks) own
      go false e = ap (λ (o : Option Line). option_or o (cond (has ks) own None)) (other_none k (g k) e)

  has_range : (from len : ℕ) → from ≤ irq → irq < from + len → has (range_with_len from len) ≡ true
  has_range from zero l h = absurd (omega arith)
  has_range from (suc len) l h = go (cases_lt from irq) (λ m k. has_range (from + 1) len m k)
    where
      or_true : (b : Bool) → (b || true) ≡ true
      or_true true = refl
      or_true false = refl

      go : (from < irq) ⊎ (irq ≤ from) → (from + 1 ≤ irq → irq < from + 1 + len → has (range_with_len (from + 1) len) ≡ true) → ((from == irq) || has (range_with_len (from + 1) len)) ≡ true
      go (inl before) rest = ap (λ (t : Bool). (from == irq) || t) (rest (omega arith) (omega arith)) ∙ or_true (from == irq)
      go (inr here) rest = ap (λ (t : Bool). t || has (range_with_len (from + 1) len)) (eq-eqb from irq (omega arith))

  self : (irq == irq) ≡ true
  self = eq-eqb irq irq refl

  -- the override of an interrupt says its line
  own_line : (l : Line) → unwrap_or (bind (override_for irq (Some l)) (override_of irq)) (plain_line irq) ≡ l
  own_line l = plain (is_plain irq l) refl
    where
      written : (level low : Bool) → unwrap_or (cond (irq == irq) (Some (record { gsi = l.gsi; level = flags_of (record { gsi = l.gsi; level = level; low = low }) / 4 % 4 == 3; low = flags_of (record { gsi = l.gsi; level = level; low = low }) % 4 == 3 })) None) (plain_line irq)
          ≡ record { gsi = l.gsi; level = level; low = low }
      written true true = ap (λ (t : Bool). unwrap_or (cond t (Some (record { gsi = l.gsi; level = true; low = true })) None) (plain_line irq)) self
      written true false = ap (λ (t : Bool). unwrap_or (cond t (Some (record { gsi = l.gsi; level = true; low = false })) None) (plain_line irq)) self
      written false true = ap (λ (t : Bool). unwrap_or (cond t (Some (record { gsi = l.gsi; level = false; low = true })) None) (plain_line irq)) self
      written false false = ap (λ (t : Bool). unwrap_or (cond t (Some (record { gsi = l.gsi; level = false; low = false })) None) (plain_line irq)) self

      is_it : (level low : Bool) → ((l.gsi == irq) && (not level && not low)) ≡ true → plain_line irq ≡ record { gsi = l.gsi; level = level; low = low }
      is_it false false e = λ i. record { gsi = number i; level = false; low = false }
        where
          number : irq ≡ l.gsi
          number = grind (arith, nat_tests)
      is_it true low e = absurd (false_and (l.gsi == irq) e)
        where
          false_and : (b : Bool) → (b && false) ≡ true → ⊥
          false_and true h = cc
          false_and false h = cc
      is_it false true e = absurd (false_and (l.gsi == irq) e)
        where
          false_and : (b : Bool) → (b && false) ≡ true → ⊥
          false_and true h = cc
          false_and false h = cc

      plain : (b : Bool) → is_plain irq l ≡ b → unwrap_or (bind (cond b None (Some (entry.Override 0 irq l.gsi (flags_of l)))) (override_of irq)) (plain_line irq) ≡ l
      plain true e = is_it l.level l.low e
      plain false e = written l.level l.low

  -- in the whole table the first override is that of the interrupt
  isa_of-own : (p : Platform) (answers : List Answer) → irq < 16 → isa_of (madt_of p answers) irq ≡ unwrap_or (bind (override_for irq (source_of p answers irq)) (override_of irq)) (plain_line irq)
  isa_of-own p answers low =
      let f : MadtEntry → Option Line = override_of irq in
      let apics : first_some f (apics_of p) ≡ None =
      first_some-append f (locals_of p.processors) (ios_of p.ios) ∙ ap (λ (o : Option Line). option_or o (first_some f (ios_of p.ios))) (locals_none 0 p.processors) ∙ ios_none 0 (filter is_enabled p.ios) in
      let own : Option Line = bind (override_for irq (source_of p answers irq)) f in
      let scanned : first_some f (overrides_of p answers) ≡ own =
      overrides_scan (source_of p answers) (range_with_len 0 16) ∙ ap (λ (t : Bool). cond t own None) (has_range 0 16 (omega arith) (omega arith)) in
      let interrupts : first_some f (interrupts_of p answers) ≡ own =
      first_some-append f (overrides_of p answers) (nmis_of p.processors p.lints) ∙ ap (option_or (first_some f (overrides_of p answers))) (nmis_none p.processors p.lints)
      ∙ or_none (first_some f (overrides_of p answers)) ∙ scanned in
      ap (λ (o : Option Line). unwrap_or o (plain_line irq)) (first_some-append f (apics_of p) (interrupts_of p answers) ∙ ap (λ (o : Option Line). option_or o (first_some f (interrupts_of p answers))) apics ∙ interrupts)
    where
      or_none : (o : Option Line) → option_or o None ≡ o
      or_none None = refl
      or_none (Some x) = refl

-- an ISA interrupt that has a source has its line in the table of the platform
pub isa_of-source : (p : Platform) (answers : List Answer) (irq : ℕ) (l : Line) → irq < 16 → source_of p answers irq ≡ Some l → isa_of (madt_of p answers) irq ≡ l
isa_of-source p answers irq l low h =
    isa_of-own irq p answers low ∙ ap (λ (o : Option Line). unwrap_or (bind (override_for irq o) (override_of irq)) (plain_line irq)) h ∙ own_line irq l

-- so the table of the platform differs nowhere
pub madt_of-no_difference : (p : Platform) (answers : List Answer) (irq : ℕ) → irq < 16 → Differs p answers (madt_of p answers) irq → ⊥
madt_of-no_difference p answers irq low d = d.2 (sym (isa_of-source p answers irq d.0 low d.1))
