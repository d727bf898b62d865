-- The numbers of a platform whose tables have values that fit, and of its routes.
use Rattle.std.proofs.Common.{◌≡◌, ℕ, zero, suc, ◌+◌, ◌*◌, ◌^◌, ◌<◌, ◌≤◌, Bool, true, false, cond, List, [], ◌∷◌, ◌++◌, length, map, get_or, refl, arith}
use Rattle.std.specs.Prelude.{Option, Some, None, filter, filter_map, find, position, take, unwrap_or, fold, ◌==◌, ⊤, if◌then◌else◌}
use Rattle.std.specs.List.{AllByRecursion, range_with_len}
use Rattle.std.proofs.lemmas.List.{length-take}
use Rattle.std.proofs.lemmas.List.Quantifiers.{position-Some}
use Rattle.mpt_spec.specs.declared.entry.Processor.{Processor}
use Rattle.mpt_spec.specs.declared.entry.IoApic.{IoApic}
use Rattle.mpt_spec.specs.declared.entry.IntEntry.{IntEntry}
use Rattle.mpt_spec.specs.declared.entry.Base.{Base}
use Rattle.mpt_spec.specs.declared.entry.Base.TheVariants as base
use Rattle.mpt_spec.specs.declared.tables.Body.{Body}
use Rattle.mpt_spec.specs.declared.tables.Body.TheVariants as body
use Rattle.mpt_spec.specs.declared.tables.Tables.{Tables}
use Rattle.mpt_spec.specs.Values.{IsBaseValue, IsBodyValue, IsTablesValue}
use Rattle.mpt_route.specs.declared.platform.Platform.{Platform}
use Rattle.mpt_route.specs.declared.route.Route.{Route}
use Rattle.mpt_route.specs.declared.route.Why.{Why}
use Rattle.mpt_route.specs.declared.route.Answer.{Answer}
use Rattle.mpt_route.specs.declared.route.Answer.TheVariants as answer
use Rattle.mpt_route.specs.Defaults.{int_row, is_connected}
use Rattle.mpt_route.specs.Platform.{processor_in, io_in, int_in, lint_in, platform_of, platform_of_body}
use Rattle.mpt_route.specs.Routes.{is_enabled, io_place_in, answer_unless, answer_after, own_row, bus_kind_in, high_word_of, routes_after, routes_of}
use Rattle.mpf_laws.proofs.ByteLists.{all-append}

abbrev pub IsLowProcessor : Processor → Type 0
IsLowProcessor e = e.apic < 256

abbrev pub IsLowIoApic : IoApic → Type 0
IsLowIoApic io = (io.id < 256) × (io.address < 2 ^ 32)

pub record IsLowInt (e : IntEntry) : Type 0 where
  pub bus : e.bus < 256
  pub pin : e.pin < 256

-- the numbers fit their fields
pub record IsLowPlatform (p : Platform) : Type 0 where
  pub processors : AllByRecursion IsLowProcessor p.processors
  pub ios : AllByRecursion IsLowIoApic p.ios
  pub ints : AllByRecursion IsLowInt p.ints
  pub lints : AllByRecursion IsLowInt p.lints
  pub local_address : p.local_address < 2 ^ 32

low_processors : (es : List Base) → AllByRecursion IsBaseValue es → AllByRecursion IsLowProcessor (filter_map processor_in es)
low_processors [] h = tt
low_processors (base.Processor e ∷ es) h = (h.0.apic, low_processors es h.1)
low_processors (base.Bus e ∷ es) h = low_processors es h.1
low_processors (base.IoApic e ∷ es) h = low_processors es h.1
low_processors (base.IoInt e ∷ es) h = low_processors es h.1
low_processors (base.LocalInt e ∷ es) h = low_processors es h.1

low_ios : (es : List Base) → AllByRecursion IsBaseValue es → AllByRecursion IsLowIoApic (filter_map io_in es)
low_ios [] h = tt
low_ios (base.Processor e ∷ es) h = low_ios es h.1
low_ios (base.Bus e ∷ es) h = low_ios es h.1
low_ios (base.IoApic e ∷ es) h = ((h.0.id, h.0.address), low_ios es h.1)
low_ios (base.IoInt e ∷ es) h = low_ios es h.1
low_ios (base.LocalInt e ∷ es) h = low_ios es h.1

low_ints : (es : List Base) → AllByRecursion IsBaseValue es → AllByRecursion IsLowInt (filter_map int_in es)
low_ints [] h = tt
low_ints (base.Processor e ∷ es) h = low_ints es h.1
low_ints (base.Bus e ∷ es) h = low_ints es h.1
low_ints (base.IoApic e ∷ es) h = low_ints es h.1
low_ints (base.IoInt e ∷ es) h = (record { bus = h.0.bus; pin = h.0.pin }, low_ints es h.1)
low_ints (base.LocalInt e ∷ es) h = low_ints es h.1

low_lints : (es : List Base) → AllByRecursion IsBaseValue es → AllByRecursion IsLowInt (filter_map lint_in es)
low_lints [] h = tt
low_lints (base.Processor e ∷ es) h = low_lints es h.1
low_lints (base.Bus e ∷ es) h = low_lints es h.1
low_lints (base.IoApic e ∷ es) h = low_lints es h.1
low_lints (base.IoInt e ∷ es) h = low_lints es h.1
low_lints (base.LocalInt e ∷ es) h = (record { bus = h.0.bus; pin = h.0.pin }, low_lints es h.1)

-- the rows of a default configuration
low_row : (irq : ℕ) → irq < 16 → IsLowInt (int_row irq)
low_row irq h = record { bus = omega arith; pin = go (irq == 0) }
  where
    go : (b : Bool) → (if b then 2 else irq) < 256
    go true = omega arith
    go false = omega arith

low_rows : (test : ℕ → Bool) (from len : ℕ) → from + len ≤ 16 → AllByRecursion IsLowInt (map int_row (filter test (range_with_len from len)))
low_rows test from zero l = tt
low_rows test from (suc len) l = go (test from) (low_rows test (from + 1) len (omega arith))
  where
    go : (b : Bool) → AllByRecursion IsLowInt (map int_row (filter test (range_with_len (from + 1) len))) → AllByRecursion IsLowInt (map int_row (cond b (from ∷ filter test (range_with_len (from + 1) len)) (filter test (range_with_len (from + 1) len))))
    go true r = (low_row from (omega arith), r)
    go false r = r

low_body : (imcr : Bool) (b : Body) → IsBodyValue b → IsLowPlatform (platform_of_body imcr b)
low_body imcr (body.Listed t) h = record {
  processors = low_processors t.base h.base;
  ios = low_ios t.base h.base;
  ints = low_ints t.base h.base;
  lints = low_lints t.base h.base;
  local_address = h.local_address;
}
low_body imcr (body.Default n) h = record {
  processors = (omega arith, (omega arith, tt));
  ios = ((omega arith, omega arith), tt);
  ints = (record { bus = omega arith; pin = omega arith }, low_rows (is_connected n) 0 16 (omega arith));
  lints = (record { bus = omega arith; pin = omega arith }, (record { bus = omega arith; pin = omega arith }, tt));
  local_address = omega arith;
}

-- the numbers of a platform fit, where those of its tables do
pub platform_of-low : (t : Tables) → IsTablesValue t → IsLowPlatform (platform_of t)
platform_of-low t v = low_body _ t.body v.body

-- the row of an answer has a low place and a low pin
abbrev pub HasLowRow : Answer → Type 0
HasLowRow (answer.Routed r) = (r.io < 4) × (r.pin < 256)
HasLowRow (answer.Unrouted n why) = ⊤

place_low : (ios : List IoApic) (id : ℕ) → unwrap_or (io_place_in ios id) 0 < 4
place_low ios id = go (io_place_in ios id) refl
  where
    d : IoApic
    d = record { id = 0; version = 0; flags = 0; address = 0 }

    four : List IoApic
    four = take 4 (filter is_enabled ios)

    go : (o : Option ℕ) → io_place_in ios id ≡ o → unwrap_or o 0 < 4
    go None e = omega arith
    go (Some i) e =
        let within : i < length (take 4 (filter is_enabled ios)) = (position-Some (λ (io : IoApic). io.id == id) (take 4 (filter is_enabled ios)) i (record { id = 0; version = 0; flags = 0; address = 0 }) e).0 in
        omega (arith, within, length-take 4 (filter is_enabled ios))

answer_low : (o : Option Why) (r : Route) → r.io < 4 → r.pin < 256 → HasLowRow (answer_unless o r)
answer_low None r h k = (h, k)
answer_low (Some why) r h k = tt

answers_low : (p : Platform) (elcr : ℕ) (es : List IntEntry) (earlier : List Answer) → AllByRecursion IsLowInt es → AllByRecursion HasLowRow earlier → AllByRecursion HasLowRow (fold (routes_after p elcr) earlier es)
answers_low p elcr [] earlier v h = h
answers_low p elcr (e ∷ es) earlier v h =
    answers_low p elcr es (routes_after p elcr earlier e) v.1
    (all-append HasLowRow earlier (answer_after p elcr earlier e ∷ []) h
    (answer_low _ (own_row (bus_kind_in p.buses e.bus) (io_place_in p.ios e.dest) (high_word_of p.processors) elcr (length earlier) e) (place_low p.ios e.dest) v.0.pin, tt))

pub routes_of-low : (p : Platform) (elcr : ℕ) → IsLowPlatform p → AllByRecursion HasLowRow (routes_of p elcr)
routes_of-low p elcr h = answers_low p elcr p.ints [] h.ints tt
