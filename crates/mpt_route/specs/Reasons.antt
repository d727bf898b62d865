-- Why an entry has no route, each reason as a sentence, and what an answer says. The reasons are this project's own.
--     asked_row p elcr earlier e                  the row that an entry asks for, after the answers to those before it
--     IsUnroutedBecause p elcr earlier e why      the reason holds of the entry
--     IsAnswerTo p elcr earlier e answer          its row where no reason holds, else the first reason that does
--     AreRoutesOf p elcr answers                  one answer to each entry, in order
use Rattle.std.specs.Prelude.{◌≡◌, ◌≢◌, ℕ, ◌/◌, ◌%◌, ◌<◌, ◌⊎◌, List, length, take, filter, Some, slice_get}
use Rattle.std.specs.List.{AllByRecursion}
use Rattle.mpt_spec.specs.declared.entry.IntEntry.{IntEntry}
use Rattle.mpt_route.specs.declared.bus.BusKind.TheVariants as bus
use Rattle.mpt_route.specs.declared.platform.Platform.{Platform}
use Rattle.mpt_route.specs.declared.route.Route.{Route}
use Rattle.mpt_route.specs.declared.route.Why.{Why}
use Rattle.mpt_route.specs.declared.route.Why.TheVariants as why
use Rattle.mpt_route.specs.declared.route.Answer.{Answer}
use Rattle.mpt_route.specs.declared.route.Answer.TheVariants as answer
use Rattle.mpt_route.specs.Routes.{is_enabled, bus_kind_in, io_place_in, high_word_of, own_row}

-- the row that an entry asks for
abbrev pub asked_row : Platform → ℕ → List Answer → IntEntry → Route
asked_row p elcr earlier e = own_row (bus_kind_in p.buses e.bus) (io_place_in p.ios e.dest) (high_word_of p.processors) elcr (length earlier) e

-- an earlier answer has the route on the pin of the row that the entry asks for
pub record IsOnAskedPin (p : Platform) (elcr : ℕ) (earlier : List Answer) (e : IntEntry) (r : Route) : Type 0 where
  pub place : ℕ
  pub there : slice_get earlier place ≡ Some (answer.Routed r)
  pub io : r.io ≡ (asked_row p elcr earlier e).io
  pub pin : r.pin ≡ e.pin

-- a reason holds of an entry, after the answers to those before it
abbrev pub IsUnroutedBecause : Platform → ℕ → List Answer → IntEntry → Why → Type 0
IsUnroutedBecause p elcr earlier e why.DestWide = e.dest ≡ 255
IsUnroutedBecause p elcr earlier e why.UnknownBus = AllByRecursion (λ b. b.id ≢ e.bus) p.buses
IsUnroutedBecause p elcr earlier e why.UnknownIo = AllByRecursion (λ io. io.id ≢ e.dest) (take 4 (filter is_enabled p.ios))
IsUnroutedBecause p elcr earlier e why.PinRange = 23 < e.pin
IsUnroutedBecause p elcr earlier e why.UnknownKind = 3 < e.kind
IsUnroutedBecause p elcr earlier e why.ReservedFlag = (e.flags % 4 ≡ 2) ⊎ (e.flags / 4 % 4 ≡ 2)
IsUnroutedBecause p elcr earlier e why.Conforms = (bus_kind_in p.buses e.bus ≡ Some bus.Other) × ((e.flags % 4 ≡ 0) ⊎ (e.flags / 4 % 4 ≡ 0))
IsUnroutedBecause p elcr earlier e why.Clash = (r : Route) × IsOnAskedPin p elcr earlier e r × (r.low ≢ (asked_row p elcr earlier e).low)
IsUnroutedBecause p elcr earlier e why.Shared = (r : Route) × IsOnAskedPin p elcr earlier e r × (r.low ≡ (asked_row p elcr earlier e).low)

-- the place of a reason in their order
abbrev pub place_of : Why → ℕ
place_of why.DestWide = 0
place_of why.UnknownBus = 1
place_of why.UnknownIo = 2
place_of why.PinRange = 3
place_of why.UnknownKind = 4
place_of why.ReservedFlag = 5
place_of why.Conforms = 6
place_of why.Clash = 7
place_of why.Shared = 8

-- the answer to an entry: its row where no reason holds, else its number and the first reason that does
abbrev pub IsAnswerTo : Platform → ℕ → List Answer → IntEntry → Answer → Type 0
IsAnswerTo p elcr earlier e (answer.Routed r) = (r ≡ asked_row p elcr earlier e) × ((other : Why) → ¬ IsUnroutedBecause p elcr earlier e other)
IsAnswerTo p elcr earlier e (answer.Unrouted n reason) =
    (n ≡ length earlier) × IsUnroutedBecause p elcr earlier e reason × ((other : Why) → place_of other < place_of reason → ¬ IsUnroutedBecause p elcr earlier e other)

-- one answer to each entry, in order
pub record AreRoutesOf (p : Platform) (elcr : ℕ) (answers : List Answer) : Type 0 where
  pub count : length answers ≡ length p.ints
  pub each : (i : ℕ) (e : IntEntry) → slice_get p.ints i ≡ Some e → (a : Answer) × (slice_get answers i ≡ Some a) × IsAnswerTo p elcr (take i answers) e a
