use Rattle.std.proofs.Common.{refl}
use Rattle.mpb_crew.proofs.Makings.{word_at, step_left, next_pulse, pulsed, raised, lowered}
use Rattle.mpb_crew.proofs.devices.make_word.Goals as goal

pub pulse-requires-clause-next : goal.pulse-requires-clause-next
pulse-requires-clause-next g c =
    next_pulse c.args.words.now c.args.at c.in-Pulse.io c.in-Pulse.pin c.args.seat.now c.args.dev.now (word_at c.args.words.now c.args.at _ _ c.requires.there c.in-Pulse.is) c.requires.making

pub returns-in-Pulse-clause-made : goal.returns-in-Pulse-clause-made
returns-in-Pulse-clause-made g c = (
  (refl, refl, refl),
  pulsed c.args.words.now c.args.at c.in-Pulse.io c.in-Pulse.pin c.args.seat.now c.args.dev.now c.pulse.new.seat c.pulse.result (word_at c.args.words.now c.args.at _ _ c.requires.there c.in-Pulse.is) c.pulse.ensures.log c.requires.making,
)

pub returns-in-High-clause-made : goal.returns-in-High-clause-made
returns-in-High-clause-made g c = (
  c.make_op.ensures.0,
  raised c.args.words.now c.args.at c.in-High.field-0 c.in-High.field-1 c.args.seat.now c.make_op.new.seat c.args.dev.now (word_at c.args.words.now c.args.at _ _ c.requires.there c.in-High.is) c.make_op.ensures.1 c.requires.making,
)

pub returns-in-Low-clause-made : goal.returns-in-Low-clause-made
returns-in-Low-clause-made g c = (
  c.make_op-in-Low.ensures.0,
  lowered c.args.words.now c.args.at c.in-Low.field-0 c.in-Low.field-1 c.args.seat.now c.make_op-in-Low.new.seat c.args.dev.now (word_at c.args.words.now c.args.at _ _ c.requires.there c.in-Low.is) c.make_op-in-Low.ensures.1 c.requires.making,
)

pub make_op-requires-clause-before : goal.make_op-requires-clause-before
make_op-requires-clause-before g c =
    step_left c.args.words.now c.args.at _ c.args.seat.now c.args.dev.now (word_at c.args.words.now c.args.at _ _ c.requires.there c.in-High.is) refl c.requires.making

pub make_op-requires-in-Low-clause-before : goal.make_op-requires-in-Low-clause-before
make_op-requires-in-Low-clause-before g c =
    step_left c.args.words.now c.args.at _ c.args.seat.now c.args.dev.now (word_at c.args.words.now c.args.at _ _ c.requires.there c.in-Low.is) refl c.requires.making
