use Rattle.std.proofs.Common.{refl}
use Rattle.mpb_spec.specs.declared.pulse.Pulse.{Pulse}
use Rattle.mpb_spec.specs.declared.pulse.Hit.{Hit}
use Rattle.mpb_replay.proofs.PlaceLemmas.{got_one, got_none, both, right}
use Rattle.mpb_replay.proofs.logs.has_pulse.Goals as goal

pub returns-in-Some : goal.returns-in-Some
returns-in-Some c =
    both c.same_pulse.result c.in-Some.made.now.0 c.args.pulse _ _
    (got_one (λ (x : Pulse × Hit). x.0) c.args.place c.args.log.now c.in-Some.made.now c.in-Some.ensures.lookup.3.0 c.in-Some.ensures.lookup.1) refl c.same_pulse.ensures

pub returns-in-None : goal.returns-in-None
returns-in-None c = right c.args.pulse _ _ (got_none (λ (x : Pulse × Hit). x.0) c.args.place c.args.log.now c.in-None.ensures.lookup.0) refl
