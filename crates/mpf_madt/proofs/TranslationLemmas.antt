-- The entries of the table of a platform, one more at a time, and how many there are.
use Rattle.std.proofs.Common.{◌≡◌, ℕ, suc, ◌+◌, ◌*◌, ◌%◌, ◌<◌, Bool, true, false, cond, List, [], ◌∷◌, ◌++◌, length, take, get_or, map, refl, sym, ap, ◌∙◌, arith, append-nil, append_assoc}
use Rattle.std.specs.Prelude.{Option, Some, None, filter, filter_map, option_to_list}
use Rattle.std.specs.List.{enumerate_from, cons_option, range_with_len}
use Rattle.std.proofs.lemmas.List.{take_more, length-take}
use Rattle.std.proofs.lemmas.List.Elements.{filter_map-append, filter-append}
use Rattle.std.proofs.lemmas.List.FromFn.{length-enumerate_from}
use Rattle.mpt_spec.specs.declared.entry.IoApic.{IoApic}
use Rattle.mpt_spec.specs.declared.entry.Processor.{Processor}
use Rattle.mpt_route.specs.Routes.{is_enabled}
use Rattle.mpt_route.proofs.ListLemmas.{passes, range_more, takes}
use Rattle.mpf_madt.specs.declared.madt.MadtEntry.{MadtEntry}
use Rattle.mpf_madt.specs.declared.madt.MadtEntry.TheVariants as entry
use Rattle.mpf_madt.specs.Translation.{local_of, io_of, locals_of, ios_of}

-- one more member with its place
enumerate-append : {X Y : Type 0} (f : ℕ × X → Y) (n : ℕ) (xs : List X) (x : X) → map f (enumerate_from n (xs ++ x ∷ [])) ≡ map f (enumerate_from n xs) ++ f (n + length xs, x) ∷ []
enumerate-append f n [] x = ap (λ (k : ℕ). f (k, x) ∷ []) (omega arith)
enumerate-append {X} {Y} f n (y ∷ xs) x =
    ap (λ (ys : List Y). f (n, y) ∷ ys) (enumerate-append f (n + 1) xs x ∙ ap (λ (k : ℕ). map f (enumerate_from (n + 1) xs) ++ f (k, x) ∷ []) (omega arith))

enumerate_last : {X Y : Type 0} (f : ℕ × X → Y) (xs : List X) (x : X) → map f (enumerate_from 0 (xs ++ x ∷ [])) ≡ map f (enumerate_from 0 xs) ++ f (length xs, x) ∷ []
enumerate_last f xs x = let start : 0 + length xs ≡ length xs = omega arith in enumerate-append f 0 xs x ∙ ap (λ (k : ℕ). map f (enumerate_from 0 xs) ++ f (k, x) ∷ []) start

-- one local APIC more
pub local_pushed : (es : List Processor) (i n f : ℕ) (d : Processor) (old new : List MadtEntry) → i < length es → n ≡ i → f ≡ (get_or es i d).flags % 2 → old ≡ locals_of (take i es)
    → new ≡ old ++ entry.Local n (get_or es i d).apic f ∷ [] → new ≡ locals_of (take (i + 1) es)
local_pushed es i n f d old new l ne fe was now =
    let e : Processor = get_or es i d in
    let size : length (take i es) ≡ i = length-take i es ∙ omega arith in
    now ∙ ap (λ (xs : List MadtEntry). xs ++ entry.Local n e.apic f ∷ []) was
    ∙ ap (λ (k : ℕ). locals_of (take i es) ++ entry.Local k e.apic f ∷ []) (ne ∙ sym size)
    ∙ ap (λ (k : ℕ). locals_of (take i es) ++ entry.Local (length (take i es)) e.apic k ∷ []) fe
    ∙ sym (ap locals_of (take_more es i d l) ∙ enumerate_last local_of (take i es) e)

enabled_more : (ios : List IoApic) (i : ℕ) (d : IoApic) (b : Bool) → i < length ios → is_enabled (get_or ios i d) ≡ b → filter is_enabled (take (i + 1) ios) ≡ filter is_enabled (take i ios) ++ cond b (get_or ios i d ∷ []) []
enabled_more ios i d b l e =
    ap (filter is_enabled) (take_more ios i d l) ∙ filter-append is_enabled (take i ios) (get_or ios i d ∷ [])
    ∙ ap (λ (t : Bool). filter is_enabled (take i ios) ++ cond t (get_or ios i d ∷ []) []) e

length-map : {X Y : Type 0} (f : X → Y) (xs : List X) → length (map f xs) ≡ length xs
length-map f [] = refl
length-map f (x ∷ xs) = ap suc (length-map f xs)

-- one enabled I/O APIC more
pub io_pushed : (ios : List IoApic) (i place base : ℕ) (d : IoApic) (old new : List MadtEntry) → i < length ios → is_enabled (get_or ios i d) ≡ true → place ≡ length old → base ≡ 24 * place → old ≡ ios_of (take i ios)
    → new ≡ old ++ entry.Io (get_or ios i d).id 0 (get_or ios i d).address base ∷ [] → new ≡ ios_of (take (i + 1) ios)
io_pushed ios i place base d old new l on pe be was now =
    let io : IoApic = get_or ios i d in
    let chosen : List IoApic = filter is_enabled (take i ios) in
    let size : length old ≡ length chosen = ap length was ∙ length-map io_of (enumerate_from 0 chosen) ∙ length-enumerate_from 0 chosen in
    let start : base ≡ 24 * length chosen = be ∙ ap (λ (k : ℕ). 24 * k) (pe ∙ size) in
    now ∙ ap (λ (xs : List MadtEntry). xs ++ entry.Io io.id 0 io.address base ∷ []) was
    ∙ ap (λ (k : ℕ). ios_of (take i ios) ++ entry.Io io.id 0 io.address k ∷ []) start
    ∙ sym (ap (λ (xs : List IoApic). map io_of (enumerate_from 0 xs)) (enabled_more ios i d true l on) ∙ enumerate_last io_of chosen io)

-- and one that isn't enabled
pub io_passed : (ios : List IoApic) (i : ℕ) (d : IoApic) (old : List MadtEntry) → i < length ios → is_enabled (get_or ios i d) ≡ false → old ≡ ios_of (take i ios) → old ≡ ios_of (take (i + 1) ios)
io_passed ios i d old l on was =
    was ∙ sym (ap (λ (xs : List IoApic). map io_of (enumerate_from 0 xs)) (enabled_more ios i d false l on ∙ append-nil (filter is_enabled (take i ios))))

-- the numbers below one more, of each what a function gives of it
module _ {Y : Type 0} (g : ℕ → Option Y) where
  one : (o : Option Y) → cons_option o [] ≡ option_to_list o
  one None = refl
  one (Some y) = refl

  numbers_more : (i : ℕ) → filter_map g (range_with_len 0 (i + 1)) ≡ filter_map g (range_with_len 0 i) ++ option_to_list (g i)
  numbers_more i =
      ap (filter_map g) (range_more i) ∙ filter_map-append g (range_with_len 0 i) (i ∷ []) ∙ ap (λ (ys : List Y). filter_map g (range_with_len 0 i) ++ ys) (one (g i))

  pub number_passes : (i : ℕ) (old new : List Y) → g i ≡ None → new ≡ old → old ≡ filter_map g (range_with_len 0 i) → new ≡ filter_map g (range_with_len 0 (i + 1))
  number_passes i old new none same was =
      same ∙ was ∙ sym (numbers_more i ∙ ap (λ (o : Option Y). filter_map g (range_with_len 0 i) ++ option_to_list o) none ∙ append-nil (filter_map g (range_with_len 0 i)))

  pub number_takes : (i : ℕ) (y : Y) (old new : List Y) → g i ≡ Some y → old ≡ filter_map g (range_with_len 0 i) → new ≡ old ++ y ∷ [] → new ≡ filter_map g (range_with_len 0 (i + 1))
  number_takes i y old new is was now =
      now ∙ ap (λ (ys : List Y). ys ++ y ∷ []) was ∙ sym (numbers_more i ∙ ap (λ (o : Option Y). filter_map g (range_with_len 0 i) ++ option_to_list o) is)

  -- the same behind what was there
  pub number_leaves : (i : ℕ) (start old new : List Y) → g i ≡ None → new ≡ old → old ≡ start ++ filter_map g (range_with_len 0 i) → new ≡ start ++ filter_map g (range_with_len 0 (i + 1))
  number_leaves i start old new none same was = same ∙ was ∙ ap (λ (ys : List Y). start ++ ys) (number_passes i (filter_map g (range_with_len 0 i)) (filter_map g (range_with_len 0 i)) none refl refl)

  pub number_appends : (i : ℕ) (y : Y) (start old new : List Y) → g i ≡ Some y → old ≡ start ++ filter_map g (range_with_len 0 i) → new ≡ old ++ y ∷ [] → new ≡ start ++ filter_map g (range_with_len 0 (i + 1))
  number_appends i y start old new is was now =
      now ∙ ap (λ (ys : List Y). ys ++ y ∷ []) was ∙ append_assoc start (filter_map g (range_with_len 0 i)) (y ∷ [])
      ∙ ap (λ (ys : List Y). start ++ ys) (number_takes i y (filter_map g (range_with_len 0 i)) (filter_map g (range_with_len 0 i) ++ y ∷ []) is refl refl)

-- the members before one more, of each what a function gives of it, behind what was there
module _ {X Y : Type 0} (h : X → Option Y) where
  pub member_leaves : (xs : List X) (i : ℕ) (d : X) (start old : List Y) → i < length xs → h (get_or xs i d) ≡ None → old ≡ start ++ filter_map h (take i xs) → old ≡ start ++ filter_map h (take (i + 1) xs)
  member_leaves xs i d start old l none was = was ∙ ap (λ (ys : List Y). start ++ ys) (passes h xs i d (filter_map h (take i xs)) l none refl)

  pub member_appends : (xs : List X) (i : ℕ) (d : X) (y : Y) (start old new : List Y) → i < length xs → h (get_or xs i d) ≡ Some y → old ≡ start ++ filter_map h (take i xs) → new ≡ old ++ y ∷ [] → new ≡ start ++ filter_map h (take (i + 1) xs)
  member_appends xs i d y start old new l is was now =
      now ∙ ap (λ (ys : List Y). ys ++ y ∷ []) was ∙ append_assoc start (filter_map h (take i xs)) (y ∷ [])
      ∙ ap (λ (ys : List Y). start ++ ys) (takes h xs i d y (filter_map h (take i xs)) (filter_map h (take i xs) ++ y ∷ []) l is refl refl)
