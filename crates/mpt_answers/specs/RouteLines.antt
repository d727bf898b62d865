-- The text of routes: a line for each I/O interrupt entry, this project's own.
--     route_line answer     the line of an answer
--     routes_text answers   all lines, in order
use Rattle.std.specs.Prelude.{ℕ, List, [], ◌∷◌, codes, decimal}
use Rattle.std.specs.List.{flat_map}
use Rattle.mpt_listing.specs.Listing.{line, hex}
use Rattle.mpt_route.specs.declared.route.Route.{Route}
use Rattle.mpt_route.specs.declared.route.Why.{Why}
use Rattle.mpt_route.specs.declared.route.Why.TheVariants as why
use Rattle.mpt_route.specs.declared.route.Answer.{Answer}
use Rattle.mpt_route.specs.declared.route.Answer.TheVariants as answer

-- the name of a reason
abbrev pub why_name : Why → List ℕ
why_name why.DestWide = codes "DestWide"
why_name why.UnknownBus = codes "UnknownBus"
why_name why.UnknownIo = codes "UnknownIo"
why_name why.PinRange = codes "PinRange"
why_name why.UnknownKind = codes "UnknownKind"
why_name why.ReservedFlag = codes "ReservedFlag"
why_name why.Conforms = codes "Conforms"
why_name why.Clash = codes "Clash"
why_name why.Shared = codes "Shared"

-- the line of a row: entry, I/O APIC and pin in decimal, the rest hexadecimal
abbrev pub row_line : Route → List ℕ
row_line r =
    line (codes "route " ∷ decimal r.entry ∷ codes " io " ∷ decimal r.io ∷ codes " pin " ∷ decimal r.pin ∷ codes " vector " ∷ hex 2 r.vector
    ∷ codes " low " ∷ hex 8 r.low ∷ codes " high " ∷ hex 8 r.high ∷ [])

-- the line of an answer
abbrev pub route_line : Answer → List ℕ
route_line (answer.Routed r) = row_line r
route_line (answer.Unrouted n reason) = line (codes "unrouted " ∷ decimal n ∷ codes " " ∷ why_name reason ∷ [])

-- the lines of the answers
abbrev pub routes_text : List Answer → List ℕ
routes_text answers = flat_map route_line answers
