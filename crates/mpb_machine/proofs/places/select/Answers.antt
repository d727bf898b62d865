use Rattle.std.proofs.Common.{arith}
use Rattle.mpb_spec.specs.IoApic.{IoChip}
use Rattle.mpb_spec.specs.Steps.{with_chip}
use Rattle.mpb_spec.proofs.StateLemmas.{changed_at, changed_beyond}
use Rattle.mpb_machine.proofs.places.select.Goals as goal

pub returns-then-at-places : goal.returns-then-at-places
returns-then-at-places c = changed_beyond c.args.at (with_chip (λ (x : IoChip). record x { index = c.args.index })) c.args.places.now (omega arith)

pub returns : goal.returns
returns c = changed_at c.args.at (with_chip (λ (x : IoChip). record x { index = c.args.index })) c.args.places.now _ _ (omega arith) c.select.ensures
