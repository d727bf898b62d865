use Rattle.mpt_rules.proofs.PlaceLemmas.{on_ok}
use Rattle.mpt_rules.proofs.SenseLemmas.{noted_second}
use Rattle.mpt_rules.proofs.base_index.note_second_sense.Goals as goal

pub returns-then-has_second_sense : goal.returns-then-has_second_sense
returns-then-has_second_sense c =
    on_ok c.note_pin.result (λ n q. noted_second c.args.entries.now q c.args.entry.now _ _ c.args.i (c.has_second_sense.ensures.0 c.if-has_second_sense.true) (n q)) c.note_pin.ensures
