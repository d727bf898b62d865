-- The script of a drill has the values of one that was read, and its tables fit.
use Rattle.std.proofs.Common.{◌≡◌, ◌≤◌, ◌<◌, ℕ, zero, suc, ◌+◌, ◌-◌, ◌*◌, ◌/◌, ◌%◌, ◌==◌, Bool, true, false, cond, List, [], ◌∷◌, ◌++◌, length, map, filter, replicate, refl, inl, inr, rules, arith}
use Rattle.std.specs.Prelude.{sum_by, nat_eq}
use Rattle.std.specs.List.{range_with_len, flat_map, AllByRecursion, IsDistinct}
use Rattle.std.proofs.lemmas.List.{length-replicate, length-map}
use Rattle.std.proofs.lemmas.List.FromFn.{length-map-range_with_len, length-range_with_len}
use Rattle.std.proofs.lemmas.List.Sums.{sum_by-append, sum_by-cons}
use Rattle.std.proofs.Math.Nat.{suc-mul}
use Rattle.mpt_spec.specs.declared.entry.Base.{Base}
use Rattle.mpt_spec.specs.Entries.{base_length}
use Rattle.mpt_spec.specs.Canonical.{FitsInImage}
use Rattle.mpb_spec.specs.declared.agent.Op.TheVariants as op
use Rattle.mpb_spec.specs.declared.config.DevWord.{DevWord}
use Rattle.mpb_spec.specs.declared.config.DevWord.TheVariants as word
use Rattle.mpb_words.specs.Values.{IsCpuWord, IsDeviceWord}
use Rattle.mpb_script.specs.declared.script.CpuScript.{CpuScript}
use Rattle.mpb_script.specs.Values.{HasScriptValues}
use Rattle.mpb_drill.proofs.SoundLemmas.{below, by_7}
use Rattle.mpb_drill.specs.Drill.{processor, isa_bus, ioapic, interrupt, entries, tables_of, takes, sends, cpus_of, pulses_of, script_of}

-- what holds of each number below n holds of what a list is made of
each : {A : Type 0} (P : A → Type 0) (g : ℕ → A) (n : ℕ) → ((k : ℕ) → k < n → P (g k)) → (xs : List ℕ) → AllByRecursion (λ k. k < n) xs → AllByRecursion P (map g xs)
each P g n f [] all = tt
each P g n f (x ∷ xs) all = (f x all.0, each P g n f xs all.1)

-- a sum of terms of at most m
sum-map-le : {A : Type 0} (f : A → ℕ) (g : ℕ → A) (m : ℕ) → ((k : ℕ) → f (g k) ≤ m) → (xs : List ℕ) → sum_by f (map g xs) ≤ length xs * m
sum-map-le f g m small [] = omega arith
sum-map-le f g m small (x ∷ xs) = let a = small x in let b = sum-map-le f g m small xs in let c = sum_by-cons f (g x) (map g xs) in let d = suc-mul (length xs) m in omega (arith, a, b, c, d)

-- the same where each is below a number
sum-map-below : {A : Type 0} (f : A → ℕ) (g : ℕ → A) (m n : ℕ) → ((k : ℕ) → k < n → f (g k) ≤ m) → (xs : List ℕ) → AllByRecursion (λ k. k < n) xs → sum_by f (map g xs) ≤ length xs * m
sum-map-below f g m n small [] all = omega arith
sum-map-below f g m n small (x ∷ xs) all = let a = small x all.0 in let b = sum-map-below f g m n small xs all.1 in let c = sum_by-cons f (g x) (map g xs) in let d = suc-mul (length xs) m in omega (arith, a, b, c, d)

-- ---- words

takes_are : (xs : List ℕ) → AllByRecursion IsCpuWord (flat_map (λ _. op.Take ∷ op.Eoi ∷ []) xs)
takes_are [] = tt
takes_are (x ∷ xs) = (tt, (tt, takes_are xs))

pauses_are : (n : ℕ) → AllByRecursion IsCpuWord (replicate n (op.Pause 1))
pauses_are zero = tt
pauses_are (suc n) = (omega arith, pauses_are n)

pulses_are : (f : ℕ → Bool) (i : ℕ) → i ≤ 4 → (xs : List ℕ) → AllByRecursion (λ k. k < 24 * i) xs → AllByRecursion IsDeviceWord (map (λ k. word.Pulse (k / 24) (k % 24)) (filter f xs))
pulses_are f i le [] all = tt
pulses_are f i le (x ∷ xs) all = go (f x) (pulses_are f i le xs all.1) where
  go : (b : Bool) → AllByRecursion IsDeviceWord (map (λ k. word.Pulse (k / 24) (k % 24)) (filter f xs)) → AllByRecursion IsDeviceWord (map (λ k. word.Pulse (k / 24) (k % 24)) (cond b (x ∷ filter f xs) (filter f xs)))
  go true rest = let lt = all.0 in ((omega (arith, lt, le), omega arith), rest)
  go false rest = rest

-- ---- counts

takes_count : (xs : List ℕ) → length (flat_map (λ _. op.Take ∷ op.Eoi ∷ []) xs) ≡ 2 * length xs
takes_count [] = refl
takes_count (x ∷ xs) = let rest = takes_count xs in omega (arith, rest)

filter_le : (f : ℕ → Bool) (xs : List ℕ) → length (filter f xs) ≤ length xs
filter_le f [] = omega arith
filter_le f (x ∷ xs) = go (f x) (filter_le f xs) where
  go : (b : Bool) → length (filter f xs) ≤ length xs → length (cond b (x ∷ filter f xs) (filter f xs)) ≤ suc (length xs)
  go true rest = omega (arith, rest)
  go false rest = omega (arith, rest)

-- ---- ids

-- the ids of the processors are distinct
abbrev AreApart : ℕ → ℕ → ℕ → Type 0
AreApart i pauses k = IsDistinct nat_eq (map (λ (e : CpuScript). e.id) (cpus_of (2 + k) i pauses))

apart : (i pauses k : ℕ) → k < 7 → AreApart i pauses k
unfolding IsDistinct
apart i pauses k lt = by_7 (AreApart i pauses) (search rules) (search rules) (search rules) (search rules) (search rules) (search rules) (search rules) k lt

-- ---- the script

module _ (k i d pauses : ℕ) (few : k < 7) (ios : i ≤ 4) (most : d ≤ 4) (short : pauses < 1000) where
  abbrev others : ℕ → CpuScript
  others j = record { id = 1 + j; words = sends pauses (1 + j) }

  up_to : (n : ℕ) → AllByRecursion (λ j. j < n) (range_with_len 0 n)
  up_to n = below 0 n n (omega arith)

  of_first : length (takes (24 * i + (2 + k) - 1)) ≤ 206
  of_first =
      let n = takes_count (range_with_len 0 (24 * i + (2 + k) - 1)) in
      let m = length-range_with_len 0 (24 * i + (2 + k) - 1) in
      omega (arith, n, m, few, ios)

  of_others : sum_by (λ (e : CpuScript). length e.words) (map others (range_with_len 0 (2 + k - 1))) ≤ 7000
  of_others =
      let one : (j : ℕ) → suc (length (replicate pauses (op.Pause 1))) ≤ 1000 = λ j. (let n = length-replicate pauses (op.Pause 1) in omega (arith, n, short)) in
      let le = sum-map-le (λ (e : CpuScript). length e.words) others 1000 one (range_with_len 0 (2 + k - 1)) in
      let n = length-range_with_len 0 (2 + k - 1) in
      omega (arith, le, n, few)

  of_devices : sum_by (λ (words : List DevWord). length words) (map (pulses_of i d) (range_with_len 0 d)) ≤ 384
  of_devices =
      let one : (j : ℕ) → length (pulses_of i d j) ≤ 96 = λ j. (
      let l = length-map (filter (λ n. n % d == j) (range_with_len 0 (24 * i))) (λ n. word.Pulse (n / 24) (n % 24)) in
      let f = filter_le (λ n. n % d == j) (range_with_len 0 (24 * i)) in
      let n = length-range_with_len 0 (24 * i) in
      omega (arith, l, f, n, ios)) in
      let le = sum-map-le (λ (words : List DevWord). length words) (pulses_of i d) 96 one (range_with_len 0 d) in
      let n = length-range_with_len 0 d in
      omega (arith, le, n, most)

  of_cpus : sum_by (λ (e : CpuScript). length e.words) (cpus_of (2 + k) i pauses) ≤ 7206
  of_cpus =
      let c = sum_by-cons (λ (e : CpuScript). length e.words) (record { id = 0; words = takes (24 * i + (2 + k) - 1) }) (map others (range_with_len 0 (2 + k - 1))) in
      omega (arith, c, of_first, of_others)

  pub values : HasScriptValues (script_of (2 + k) i d pauses)
  values = record {
    page = inl (omega arith);
    elcr = omega arith;
    present = tt;
    ids = (omega arith, each (λ (e : CpuScript). e.id < 255) others (2 + k - 1) (λ j lt. omega (arith, lt, few)) (range_with_len 0 (2 + k - 1)) (up_to (2 + k - 1)));
    distinct = apart i pauses k few;
    cpu_words = (
      takes_are (range_with_len 0 (24 * i + (2 + k) - 1)),
      each (λ (e : CpuScript). AllByRecursion IsCpuWord e.words) others (2 + k - 1) (λ j lt. ((omega arith, omega (arith, lt, few)), pauses_are pauses)) (range_with_len 0 (2 + k - 1)) (up_to (2 + k - 1)),
    );
    device_words = each (λ (words : List DevWord). AllByRecursion IsDeviceWord words) (pulses_of i d) d (λ j lt. pulses_are (λ n. n % d == j) i ios (range_with_len 0 (24 * i)) (up_to (24 * i))) (range_with_len 0 d) (up_to d);
    few_devices = let n = length-map-range_with_len (pulses_of i d) 0 d in omega (arith, n, most);
    few_words = omega (arith, of_cpus, of_devices);
  }

-- ---- the tables

module _ (c i : ℕ) (few : c ≤ 8) (ios : i ≤ 4) where
  of_processors : sum_by base_length (map processor (range_with_len 0 c)) ≤ 160
  of_processors = let le = sum-map-le base_length processor 20 (λ k. omega arith) (range_with_len 0 c) in let n = length-range_with_len 0 c in omega (arith, le, n, few)

  of_ioapics : sum_by base_length (map (λ a. ioapic (c + a)) (range_with_len 0 i)) ≤ 32
  of_ioapics = let le = sum-map-le base_length (λ a. ioapic (c + a)) 8 (λ k. omega arith) (range_with_len 0 i) in let n = length-range_with_len 0 i in omega (arith, le, n, ios)

  of_pins : (xs : List ℕ) → sum_by base_length (flat_map (λ a. map (interrupt (c + a) a) (range_with_len 0 24)) xs) ≤ length xs * 192
  of_pins [] = omega arith
  of_pins (x ∷ xs) =
      let one = sum-map-le base_length (interrupt (c + x) x) 8 (λ k. omega arith) (range_with_len 0 24) in
      let rest = of_pins xs in
      let both = sum_by-append base_length (map (interrupt (c + x) x) (range_with_len 0 24)) (flat_map (λ a. map (interrupt (c + a) a) (range_with_len 0 24)) xs) in
      omega (arith, one, rest, both)

  abbrev pins : List Base
  pins = flat_map (λ a. map (interrupt (c + a) a) (range_with_len 0 24)) (range_with_len 0 i)

  size : sum_by base_length (entries c i) ≤ 968
  size =
      let p = of_pins (range_with_len 0 i) in
      let n = length-range_with_len 0 i in
      let a = sum_by-append base_length (map processor (range_with_len 0 c)) (isa_bus ∷ (map (λ a. ioapic (c + a)) (range_with_len 0 i) ++ pins)) in
      let b = sum_by-cons base_length isa_bus (map (λ a. ioapic (c + a)) (range_with_len 0 i) ++ pins) in
      let d = sum_by-append base_length (map (λ a. ioapic (c + a)) (range_with_len 0 i)) pins in
      omega (arith, p, n, a, b, d, of_processors, of_ioapics, ios)

  pub fits : FitsInImage (tables_of c i)
  fits = record {
    well_formed = record {
      revision = inr refl;
      body = (refl, (λ e. omega (arith, e)), record { revision = inl (refl, refl); lawful = tt; base_fits = omega (arith, size); ext_fits = omega arith });
      paragraph = refl;
    };
    low = omega arith;
    high = omega arith;
    block = record { low = omega arith; high = omega (arith, size); apart = inr (omega arith) };
  }
