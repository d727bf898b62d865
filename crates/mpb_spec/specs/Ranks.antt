-- How the first processor of a message of lowest priority is found: by the least rank. What delivers cites it alone; a law
-- (proofs/Ranks) turns it into the targets of a message.
--     least_rank to ps         the least rank among those that the destination names and that run
--     rank_sought aim ps       that of a message of lowest priority
--     is_chosen to rank p      the processor is a target, where this rank is sought
use Rattle.std.specs.Prelude.{◌==◌, ℕ, Bool, ◌&&◌, ◌||◌, List, [], ◌∷◌, Option, None, Some, if◌then◌else◌, nat_lt}
use Rattle.mpb_spec.specs.declared.apic.Aim.{Aim}
use Rattle.mpb_spec.specs.declared.apic.Destination.{Destination}
use Rattle.mpb_spec.specs.LocalApic.{ppr}
use Rattle.mpb_spec.specs.State.{Processor}
use Rattle.mpb_spec.specs.Delivery.{is_named, is_ready}

-- a processor's rank: its priority, then its id
abbrev pub rank_of : Processor → ℕ × ℕ
rank_of p = (ppr p.apic, p.id)

-- by priority, then by id
abbrev pub is_less : ℕ × ℕ → ℕ × ℕ → Bool
is_less x y = nat_lt x.0 y.0 || ((x.0 == y.0) && nat_lt x.1 y.1)

-- the lesser of a rank and another, where there is another
abbrev pub lesser : ℕ × ℕ → Option (ℕ × ℕ) → ℕ × ℕ
lesser x None = x
lesser x (Some y) = if is_less y x then y else x

-- the least among those that the destination names and that run
abbrev pub least_rank : Destination → List Processor → Option (ℕ × ℕ)
least_rank to [] = None
least_rank to (p ∷ ps) = if is_ready to p then Some (lesser (rank_of p) (least_rank to ps)) else least_rank to ps

-- that of a message of lowest priority
abbrev pub rank_sought : Aim → List Processor → Option (ℕ × ℕ)
rank_sought aim ps = if aim.lowest then least_rank aim.at ps else None

-- the processor is a target: it is named where no rank is sought, else it runs too and has the rank
abbrev pub is_chosen : Destination → Option (ℕ × ℕ) → Processor → Bool
is_chosen to None p = is_named to p
is_chosen to (Some rank) p = is_ready to p && ((rank.0 == ppr p.apic) && (rank.1 == p.id))
