use Rattle.std.proofs.Common.{◌∙◌, sym, ap}
use Rattle.mpb_board.specs.BoardView.{BoardView}
use Rattle.mpb_spec.specs.Agents.{agents_of}
use Rattle.mpb_bus.specs.Seats.{SharedBus}
use Rattle.mpb_bus.proofs.Starts.{fresh_are_all}
use Rattle.mpb_bus.proofs.bus.Bus.new.Goals as goal

pub returns-clause-all : goal.returns-clause-all
returns-clause-all c =
    let words = c.in-Ok-open_words.words in
    let start = words.shared.key.value in
    let bus : SharedBus = record { bus = words.shared.table_id; plan = start.plan } in
    fresh_are_all bus start.journal c.as_slice.result.now c.in-Ok-seats_of.seats.items c.in-Ok-seats_of.ensures
    (c.as_slice.ensures.value ∙ c.in-Ok.ensures ∙ ap agents_of c.config.ensures.same ∙ sym (ap (λ (b : BoardView). agents_of b.plan) c.in-Ok-open_words.ensures.table.2))
