use Rattle.std.proofs.Common.{arith}
use Rattle.mpb_spec.specs.IoApic.{change_pin, with_sent}
use Rattle.mpb_spec.specs.Steps.{with_chip, with_pins_of}
use Rattle.mpb_spec.proofs.StateLemmas.{changed_at, changed_beyond}
use Rattle.mpb_machine.proofs.places.send.Goals as goal

pub returns-then-at-places : goal.returns-then-at-places
returns-then-at-places c = changed_beyond c.args.at (with_chip (with_pins_of (change_pin c.args.pin (with_sent c.args.accepted)))) c.args.places.now (omega arith)

pub returns : goal.returns
returns c = changed_at c.args.at (with_chip (with_pins_of (change_pin c.args.pin (with_sent c.args.accepted)))) c.args.places.now _ _ (omega arith) c.sent.ensures
