-- A vector is acknowledged by rule.
use Rattle.std.proofs.Common.{◌≡◌, ◌≢◌, ℕ, true, Option, None, Some, option_map, sym}
use Rattle.std.specs.Prelude.{is_some, IfSome}
use Rattle.mpf_pair.specs.Pair.{PairState, is_eligible, by_priority, intr_of, first_eligible, vector_of, ack_answer}
use Rattle.mpf_pair.proofs.LineLemmas.{some-find}
use Rattle.mpf_pic.specs.declared.path.Path.{Path}
use Rattle.mpf_pic.specs.declared.path.Path.TheVariants.{Direct, Lint, Io, Closed}
use Rattle.mpf_pic.specs.Wiring.{path_of}
use Rattle.mpf_pic.specs.Play.{ack_on, after_ops, AcknowledgesByRule}

-- an answer comes of a line
answered : (p : Path) (s : PairState) → p ≢ Closed → (o : Option ℕ) → is_some o ≡ intr_of s → IfSome (option_map (λ n. vector_of n s) o) (λ v. (p ≢ Closed) × (intr_of s ≡ true))
answered p s ne None e = tt
answered p s ne (Some n) e = (ne, sym e)

by_intr : (p : Path) (s : PairState) → p ≢ Closed → IfSome (ack_answer s) (λ v. (p ≢ Closed) × (intr_of s ≡ true))
by_intr p s ne = answered p s ne (first_eligible s) (some-find (λ n. is_eligible n s) by_priority)

on_way : (p : Path) (s : PairState) → IfSome (ack_on p s) (λ v. (p ≢ Closed) × (intr_of s ≡ true))
on_way Closed s = tt
on_way Direct s = by_intr Direct s (λ e. cc)
on_way Lint s = by_intr Lint s (λ e. cc)
on_way (Io a n) s = by_intr (Io a n) s (λ e. cc)

pub acknowledges : AcknowledgesByRule
acknowledges s ops = on_way (path_of (after_ops s ops).wiring) (after_ops s ops).pair
