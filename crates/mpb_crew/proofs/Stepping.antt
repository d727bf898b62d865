-- A turn that was made.
use Rattle.std.proofs.Common.{◌≡◌, ◌+◌, [], ◌∷◌, ◌++◌, ap}
use Rattle.mpb_spec.specs.declared.agent.Offer.{Offer}
use Rattle.mpb_spec.specs.declared.entry.Entry.{Entry}
use Rattle.mpb_spec.specs.Journal.{final_state_of}
use Rattle.mpb_bus.specs.Seats.{AgentSeat}
use Rattle.mpb_bus.specs.Turns.{Stepped}
use Rattle.mpb_crew.specs.declared.answer.Answer.TheVariants.{Made}
use Rattle.mpb_crew.specs.Workers.{Took}

pub made : (old : AgentSeat) (f : Offer) (x : Entry) (new : AgentSeat) → new ≡ record old { seen = new.seen; mine = new.mine; turns = old.turns + 1 }
    → new.mine ≡ old.mine ++ x ∷ [] → Stepped old f x new → Took old f Made new
made old f x new same grows stepped = record {
  same = (ap (λ (s : AgentSeat). s.bus) same, ap (λ (s : AgentSeat). s.agent) same, ap (λ (s : AgentSeat). s.plan) same);
  tells = (x, grows, stepped.agent, (final_state_of old.plan stepped.before, stepped.op));
}
