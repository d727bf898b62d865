-- Nothing speaks against the board of a drill.
use Rattle.std.proofs.Common.{◌≡◌, ◌≤◌, ◌<◌, ℕ, zero, suc, ◌+◌, ◌-◌, ◌*◌, ◌/◌, ◌%◌, ◌==◌, ◌&&◌, ◌||◌, Bool, true, false, cond, List, [], ◌∷◌, ◌++◌, length, map, filter, filter_map, replicate, Option, None, Some, refl, ap, ◌∙◌, arith}
use Rattle.std.specs.Prelude.{find, nat_le, nat_lt, not, is_some, unwrap_or, option_map}
use Rattle.std.specs.Option.{option_or}
use Rattle.std.proofs.lemmas.Bool.{leb-true, le-ltb, ne_eqb}
use Rattle.mpb_spec.specs.declared.fault.BoardError.{BoardError}
use Rattle.mpb_spec.specs.declared.fault.BoardError.TheVariants as fault
use Rattle.std.specs.List.{range_with_len, flat_map, list_any, AllByRecursion}
use Rattle.std.proofs.lemmas.List.FromFn.{length-map-range_with_len}
use Rattle.mpt_spec.specs.declared.entry.Processor.{Processor}
use Rattle.mpt_spec.specs.declared.entry.Base.{Base}
use Rattle.mpt_route.specs.declared.platform.Platform.{Platform}
use Rattle.mpt_route.specs.Platform.{platform_of, processor_in, io_in, boot_processor_of}
use Rattle.mpt_route.specs.Routes as routes
use Rattle.mpb_spec.specs.declared.agent.Op.TheVariants as op
use Rattle.mpb_spec.specs.declared.config.DevWord.TheVariants as word
use Rattle.mpb_spec.specs.Numbers.{has}
use Rattle.mpb_script.specs.declared.script.Script.{Script}
use Rattle.mpb_script.specs.declared.script.CpuScript.{CpuScript}
use Rattle.mpb_setup.specs.Boot.{is_enabled, boot_id_of}
use Rattle.mpb_setup.specs.Board.{enabled_ids, io_ids, is_present, all_ids, board_ids}
use Rattle.mpb_setup.specs.Faults.{least_double, is_op_at, is_word_at, names_place, least_absent_place, fault_if, board_fault_of}
use Rattle.mpb_drill.specs.Drill.{processor_entry, processor, isa_bus, ioapic, interrupt, tables_of, takes, sends, cpus_of, pulses_of, script_of}

-- ---- who is there

-- entries of which none is of a kind are passed over
skip : {B : Type 0} (h : Base → Option B) (f : ℕ → Base) → ((k : ℕ) → h (f k) ≡ None) → (xs : List ℕ) (ys : List Base) → filter_map h (map f xs ++ ys) ≡ filter_map h ys
skip h f none [] ys = refl
skip h f none (x ∷ xs) ys = rw (none x) (skip h f none xs ys)

skip_all : {B : Type 0} (h : Base → Option B) (g : ℕ → ℕ → Base) → ((a k : ℕ) → h (g a k) ≡ None) → (xs ps : List ℕ) → filter_map h (flat_map (λ a. map (g a) ps) xs) ≡ []
skip_all h g none [] ps = refl
skip_all h g none (x ∷ xs) ps = skip h (g x) (none x) ps (flat_map (λ a. map (g a) ps) xs) ∙ skip_all h g none xs ps

keeps : {A : Type 0} (p : A → Bool) (x : A) (xs : List A) → p x ≡ true → filter p (x ∷ xs) ≡ x ∷ filter p xs
keeps p x xs pass = ap (λ b. cond b (x ∷ filter p xs) (filter p xs)) pass

on : (b : Bool) → ((cond b 0x03 0x01) % 2 == 1) ≡ true
on true = refl
on false = refl

-- each processor is enabled
processors : (xs : List ℕ) (ys : List Base) → filter_map processor_in ys ≡ [] → map (λ e. e.apic) (filter is_enabled (filter_map processor_in (map processor xs ++ ys))) ≡ xs
processors [] ys none = ap (λ l. map (λ (e : Processor). e.apic) (filter is_enabled l)) none
processors (x ∷ xs) ys none =
    ap (map (λ (e : Processor). e.apic)) (keeps is_enabled (processor_entry x) (filter_map processor_in (map processor xs ++ ys)) (on (x == 0)))
    ∙ ap (λ l. x ∷ l) (processors xs ys none)

-- and each I/O APIC
places : (c : ℕ) (xs : List ℕ) (ys : List Base) → filter_map io_in ys ≡ [] → map (λ io. io.id) (filter routes.is_enabled (filter_map io_in (map (λ a. ioapic (c + a)) xs ++ ys))) ≡ map (λ a. c + a) xs
places c [] ys none = ap (λ l. map (λ io. io.id) (filter routes.is_enabled l)) none
places c (x ∷ xs) ys none = ap (λ l. (c + x) ∷ l) (places c xs ys none)

module _ (c i : ℕ) where
  abbrev pins : List Base
  pins = flat_map (λ a. map (interrupt (c + a) a) (range_with_len 0 24)) (range_with_len 0 i)

  pub enabled : enabled_ids (platform_of (tables_of c i)) ≡ range_with_len 0 c
  enabled = processors (range_with_len 0 c) (isa_bus ∷ (map (λ a. ioapic (c + a)) (range_with_len 0 i) ++ pins))
      (skip processor_in (λ a. ioapic (c + a)) (λ k. refl) (range_with_len 0 i) pins ∙ skip_all processor_in (λ a. interrupt (c + a) a) (λ a k. refl) (range_with_len 0 i) (range_with_len 0 24))

  ios : io_ids (platform_of (tables_of c i)) ≡ map (λ a. c + a) (range_with_len 0 i)
  ios =
      ap (λ l. map (λ io. io.id) (filter routes.is_enabled l)) (skip io_in processor (λ k. refl) (range_with_len 0 c) (isa_bus ∷ (map (λ a. ioapic (c + a)) (range_with_len 0 i) ++ pins)))
      ∙ places c (range_with_len 0 i) pins (skip_all io_in (λ a. interrupt (c + a) a) (λ a k. refl) (range_with_len 0 i) (range_with_len 0 24))

boots : (m i : ℕ) → boot_processor_of (platform_of (tables_of (suc m) i)) ≡ Some (processor_entry 0)
boots m i = refl

-- ---- which places words name

nothing : {A : Type 0} (f : A → Bool) → ((x : A) → f x ≡ false) → (xs : List A) → find f xs ≡ None
nothing f none [] = refl
nothing f none (x ∷ xs) = rw (none x) (nothing f none xs)

none_of : {A : Type 0} (f : A → Bool) (g : ℕ → A) → ((k : ℕ) → f (g k) ≡ false) → (xs : List ℕ) → list_any f (map g xs) ≡ false
none_of f g none [] = refl
none_of f g none (x ∷ xs) = rw (none x) (none_of f g none xs)

never : (b : Bool) → (b && false) ≡ false
never true = refl
never false = refl

takes_name : (a : ℕ) (xs : List ℕ) → list_any (is_op_at a) (flat_map (λ _. op.Take ∷ op.Eoi ∷ []) xs) ≡ false
takes_name a [] = refl
takes_name a (x ∷ xs) = takes_name a xs

pauses_name : (a n : ℕ) → list_any (is_op_at a) (replicate n (op.Pause 1)) ≡ false
pauses_name a zero = refl
pauses_name a (suc n) = pauses_name a n

-- a word of a processor names no place
cpus_name : (ids : List ℕ) (a c i pauses : ℕ) → list_any (λ (e : CpuScript). has e.id ids && list_any (is_op_at a) e.words) (cpus_of c i pauses) ≡ false
cpus_name ids a c i pauses =
    let first : (has 0 ids && list_any (is_op_at a) (takes (24 * i + c - 1))) ≡ false = ap (λ b. has 0 ids && b) (takes_name a (range_with_len 0 (24 * i + c - 1))) ∙ never (has 0 ids) in
    let others = none_of (λ (e : CpuScript). has e.id ids && list_any (is_op_at a) e.words) (λ k. record { id = 1 + k; words = sends pauses (1 + k) })
    (λ k. ap (λ b. has (1 + k) ids && b) (pauses_name a pauses) ∙ never (has (1 + k) ids)) (range_with_len 0 (c - 1)) in
    ap (λ b. b || list_any (λ (e : CpuScript). has e.id ids && list_any (is_op_at a) e.words) (map (λ k. record { id = 1 + k; words = sends pauses (1 + k) }) (range_with_len 0 (c - 1)))) first ∙ others

pub below : (a n b : ℕ) → a + n ≡ b → AllByRecursion (λ k. k < b) (range_with_len a n)
below a zero b is = tt
below a (suc n) b is = (omega (arith, is), below (a + 1) n b (omega (arith, is)))

other : (k i a : ℕ) → k < 24 * i → i ≤ a → (k / 24 == a) ≡ false
other k i a lt le = ne_eqb (k / 24) a (λ e. omega (arith, e, lt, le))

-- a pulse names the place of an I/O APIC that is there
pulses_name : (f : ℕ → Bool) (i a : ℕ) → i ≤ a → (xs : List ℕ) → AllByRecursion (λ k. k < 24 * i) xs → list_any (is_word_at a) (map (λ k. word.Pulse (k / 24) (k % 24)) (filter f xs)) ≡ false
pulses_name f i a le [] all = refl
pulses_name f i a le (x ∷ xs) all = go (f x) (pulses_name f i a le xs all.1) where
  go : (b : Bool) → list_any (is_word_at a) (map (λ k. word.Pulse (k / 24) (k % 24)) (filter f xs)) ≡ false → list_any (is_word_at a) (map (λ k. word.Pulse (k / 24) (k % 24)) (cond b (x ∷ filter f xs) (filter f xs))) ≡ false
  go true rest = rw (other x i a all.0 le) rest
  go false rest = rest

devices_name : (i d a : ℕ) → i ≤ a → list_any (list_any (is_word_at a)) (map (pulses_of i d) (range_with_len 0 d)) ≡ false
devices_name i d a le = none_of (list_any (is_word_at a)) (pulses_of i d) (λ j. pulses_name (λ k. k % d == j) i a le (range_with_len 0 (24 * i)) (below 0 (24 * i) (24 * i) (omega arith))) (range_with_len 0 d)

-- so no place is wanting
absent : (ids : List ℕ) (c i d pauses : ℕ) → least_absent_place i ids (script_of c i d pauses) ≡ None
absent ids c i d pauses = nothing (λ a. nat_le i a && names_place ids (script_of c i d pauses) a) each (range_with_len 0 4) where
  each : (a : ℕ) → (nat_le i a && names_place ids (script_of c i d pauses) a) ≡ false
  each a = by_place (nat_le i a) refl where
    by_place : (b : Bool) → nat_le i a ≡ b → (b && names_place ids (script_of c i d pauses) a) ≡ false
    by_place true is = ap (λ b. b || list_any (list_any (is_word_at a)) (map (pulses_of i d) (range_with_len 0 d))) (cpus_name ids a c i pauses) ∙ devices_name i d a (leb-true i a is)
    by_place false is = refl

-- ---- the numbers

pub by_7 : (P : ℕ → Type 0) → P 0 → P 1 → P 2 → P 3 → P 4 → P 5 → P 6 → (k : ℕ) → k < 7 → P k
by_7 P a b c d e f g zero lt = a
by_7 P a b c d e f g (suc zero) lt = b
by_7 P a b c d e f g (suc (suc zero)) lt = c
by_7 P a b c d e f g (suc (suc (suc zero))) lt = d
by_7 P a b c d e f g (suc (suc (suc (suc zero)))) lt = e
by_7 P a b c d e f g (suc (suc (suc (suc (suc zero))))) lt = f
by_7 P a b c d e f g (suc (suc (suc (suc (suc (suc zero)))))) lt = g
by_7 P a b c d e f g (suc (suc (suc (suc (suc (suc (suc k))))))) lt = absurd (omega arith)

by_4 : (P : ℕ → Type 0) → P 0 → P 1 → P 2 → P 3 → (k : ℕ) → k < 4 → P k
by_4 P a b c d zero lt = a
by_4 P a b c d (suc zero) lt = b
by_4 P a b c d (suc (suc zero)) lt = c
by_4 P a b c d (suc (suc (suc zero))) lt = d
by_4 P a b c d (suc (suc (suc (suc k)))) lt = absurd (omega arith)

-- so many processors are one board's
record AreFine (c : ℕ) : Type 0 where
  pub single : least_double (range_with_len 0 c) ≡ None
  pub narrow : has 255 (range_with_len 0 c) ≡ false
  pub few : nat_lt 8 (length (filter (λ id. has id (range_with_len 0 c) && true) all_ids)) ≡ false

fine : (k : ℕ) → k < 7 → AreFine (2 + k)
unfolding all_ids
fine k lt = by_7 (λ k. AreFine (2 + k)) (record { single = refl; narrow = refl; few = refl }) (record { single = refl; narrow = refl; few = refl }) (record { single = refl; narrow = refl; few = refl }) (record { single = refl; narrow = refl; few = refl }) (record { single = refl; narrow = refl; few = refl }) (record { single = refl; narrow = refl; few = refl }) (record { single = refl; narrow = refl; few = refl }) k lt

abbrev AreSingle : ℕ → ℕ → Type 0
AreSingle c j = least_double (map (λ a. c + a) (range_with_len 0 (1 + j))) ≡ None

-- the ids of so many I/O APICs behind them are distinct
single : (k : ℕ) → k < 7 → (j : ℕ) → j < 4 → AreSingle (2 + k) j
unfolding all_ids
single k lt = by_7 (λ k. (j : ℕ) → j < 4 → AreSingle (2 + k) j) (by_4 (AreSingle 2) refl refl refl refl) (by_4 (AreSingle 3) refl refl refl refl) (by_4 (AreSingle 4) refl refl refl refl) (by_4 (AreSingle 5) refl refl refl refl) (by_4 (AreSingle 6) refl refl refl refl) (by_4 (AreSingle 7) refl refl refl refl) (by_4 (AreSingle 8) refl refl refl refl) k lt

-- ---- the whole

-- nothing speaks against a board of which all this holds
record IsFine (p : Platform) (s : Script) (e : Processor) : Type 0 where
  pub boot : boot_processor_of p ≡ Some e
  pub first : e.apic ≡ 0
  pub single : least_double (enabled_ids p) ≡ None
  pub apart : least_double (io_ids p) ≡ None
  pub narrow : has 255 (enabled_ids p) ≡ false
  pub present : s.present ≡ None
  pub few : nat_lt 8 (length (board_ids p s)) ≡ false
  pub fit : nat_lt 4 (length (io_ids p)) ≡ false
  pub there : least_absent_place (length (io_ids p)) (board_ids p s) s ≡ None

no_other : (a b : Option BoardError) → a ≡ None → b ≡ None → option_or a b ≡ None
no_other a b none others = ap (λ o. option_or o b) none ∙ others

sound : (p : Platform) (s : Script) (e : Processor) → IsFine p s e → board_fault_of p s ≡ None
unfolding board_fault_of
sound p s e f =
    let first : boot_id_of p ≡ 0 = ap (λ o. unwrap_or (option_map (λ (x : Processor). x.apic) o) 0) f.boot ∙ f.first in
    no_other _ _ (ap (λ o. fault_if (not (is_some o)) fault.NoBoot) f.boot)
    (no_other _ _ (ap (option_map fault.DoubleId) f.single)
    (no_other _ _ (ap (option_map fault.DoubleId) f.apart)
    (no_other _ _ (ap (λ b. fault_if b (fault.WideId 255)) f.narrow)
    (no_other _ _ (ap (λ i. fault_if (nat_le 15 i) (fault.BootWide i)) first)
    (no_other _ _ (ap (λ o. fault_if (not (is_present o (boot_id_of p))) (fault.BootAbsent (boot_id_of p))) f.present)
    (no_other _ _ (ap (λ b. fault_if b (fault.ManyCpus (length (board_ids p s)))) f.few)
    (no_other _ _ (ap (λ b. fault_if b (fault.ManyIo (length (io_ids p)))) f.fit)
    (ap (option_map fault.NoIo) f.there))))))))

module _ (k j d pauses : ℕ) (few : k < 7) (ios_few : j < 4) where
  abbrev p : Platform
  p = platform_of (tables_of (2 + k) (1 + j))

  abbrev s : Script
  s = script_of (2 + k) (1 + j) d pauses

  count : length (io_ids p) ≡ 1 + j
  count = ap (λ (l : List ℕ). length l) (ios (2 + k) (1 + j)) ∙ length-map-range_with_len (λ a. 2 + k + a) 0 (1 + j)

  boot : boot_processor_of p ≡ Some (processor_entry 0)
  boot = let next : 2 + k ≡ suc (1 + k) = omega arith in ap (λ c. boot_processor_of (platform_of (tables_of c (1 + j)))) next ∙ boots (1 + k) (1 + j)

  fine_of : AreFine (2 + k)
  fine_of = fine k few

  pub no_fault : board_fault_of p s ≡ None
  no_fault = sound p s (processor_entry 0) (record {
    boot = boot;
    first = refl;
    single = ap least_double (enabled (2 + k) (1 + j)) ∙ fine_of.single;
    apart = ap least_double (ios (2 + k) (1 + j)) ∙ single k few j ios_few;
    narrow = ap (has 255) (enabled (2 + k) (1 + j)) ∙ fine_of.narrow;
    present = refl;
    few = ap (λ (l : List ℕ). nat_lt 8 (length (filter (λ id. has id l && true) all_ids))) (enabled (2 + k) (1 + j)) ∙ fine_of.few;
    fit = ap (λ n. nat_lt 4 n) count ∙ le-ltb 4 (1 + j) (omega (arith, ios_few));
    there = ap (λ n. least_absent_place n (board_ids p s) s) count ∙ absent (board_ids p s) (2 + k) (1 + j) d pauses;
  })
