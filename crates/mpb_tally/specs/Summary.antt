-- The summary of a drill: a text of seven lines (this project's own).
--     summary_of n routes tally    the text, of the routed answers and the tally
--     IsSummaryOf n text           it is that of the round robin of the drill's board
use Rattle.std.specs.Prelude.{◌≡◌, ℕ, Bool, true, false, List, [], ◌∷◌, ◌++◌, count_by, codes, decimal}
use Rattle.std.specs.List.{concat}
use Rattle.mpt_listing.specs.Listing.{line}
use Rattle.mpt_route.specs.declared.route.Answer.{Answer}
use Rattle.mpt_route.specs.declared.route.Answer.TheVariants as answer
use Rattle.mpt_route.specs.Platform.{platform_of}
use Rattle.mpt_route.specs.Routes.{routes_of}
use Rattle.mpb_spec.specs.declared.entry.Entry.{Entry}
use Rattle.mpb_spec.specs.Plan.{Plan}
use Rattle.mpb_setup.specs.Board.{board_config_of}
use Rattle.mpb_spec.specs.declared.pulse.Pulse.{Pulse}
use Rattle.mpb_spec.specs.declared.pulse.Hit.{Hit}
use Rattle.mpb_robin.specs.RoundRobin.{IsRoundRobinOf}
use Rattle.mpb_drill.specs.Drill.{drill_processors, drill_ioapics, drill_tables, drill_script}
use Rattle.mpb_tally.specs.declared.tally.Tally.{Tally}
use Rattle.mpb_tally.specs.Tally.{tally_of}

-- an interrupt has a route
abbrev pub is_routed : Answer → Bool
is_routed (answer.Routed route) = true
is_routed a = false

-- the lines of its sizes, each with its line feed
abbrev pub size_lines : ℕ → ℕ → ℕ → ℕ → ℕ → List (List ℕ)
size_lines n processors started ioapics routes =
    line (codes "drill " ∷ decimal n ∷ [])
    ∷ line (codes "processors " ∷ decimal processors ∷ codes " started " ∷ decimal started ∷ [])
    ∷ line (codes "ioapics " ∷ decimal ioapics ∷ codes " routes " ∷ decimal routes ∷ [])
    ∷ []

-- those of its counts, and the last
abbrev pub count_lines : Tally → List (List ℕ)
count_lines t =
    line (codes "entries " ∷ decimal t.entries ∷ [])
    ∷ line (codes "pulses " ∷ decimal t.pulses ∷ codes " new " ∷ decimal t.fresh ∷ codes " merged " ∷ decimal t.merged ∷ [])
    ∷ line (codes "set " ∷ decimal t.sets ∷ codes " taken " ∷ decimal t.takes ∷ [])
    ∷ line (codes "end" ∷ [])
    ∷ []

-- the text
abbrev pub summary_of : ℕ → ℕ → Tally → List ℕ
summary_of n routes t = concat (size_lines n (drill_processors n) t.started (drill_ioapics n) routes) ++ concat (count_lines t)

-- the answers to the interrupts of the drill's tables, and its board
abbrev pub drill_routes : ℕ → List Answer
drill_routes n = routes_of (platform_of (drill_tables n)) 0

abbrev pub drill_board : ℕ → Plan
drill_board n = board_config_of (platform_of (drill_tables n)) (drill_routes n) (drill_script n)

-- the text sums up the round robin of the drill's board
abbrev pub IsSummaryOf : ℕ → List ℕ → Type 0
IsSummaryOf n text = (journal : List Entry) × (logs : List (List (Pulse × Hit))) × IsRoundRobinOf (drill_board n) journal logs × (text ≡ summary_of n (count_by is_routed (drill_routes n)) (tally_of journal logs))
