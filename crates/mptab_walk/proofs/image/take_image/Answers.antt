use Rattle.std.proofs.Common.{◌∙◌, ℕ, Option, IfOk, IfErr, subst, arith}
use Rattle.mpt_base.specs.Outside.{Files}
use Rattle.mptab_walk.specs.Forms.{Image}
use Rattle.mptab_walk.specs.Commands.{ImageGives}
use Rattle.mptab_walk.specs.Ending.{IsEnding, IsUndisturbed, shelves}
use Rattle.mptab_walk.proofs.AnswerLemmas.{asks-image-most}
use Rattle.mptab_walk.proofs.image.take_image.Goals as goal

pub returns-in-Ok-None : goal.returns-in-Ok-None
returns-in-Ok-None g c =
    let facts = rw c.in-Ok-None.field-0-is at c.in-Ok-None.ensures in
    record { files_stay = facts.files_stay; quiet = tt; tables = tt; well_formed = tt; low = tt; ends = (facts.told, facts.missing, facts.unfailed); asks = omega (arith, facts.asks_nothing) }

pub returns-in-Ok-Some : goal.returns-in-Ok-Some
returns-in-Ok-Some g c =
    let facts = rw c.in-Ok-Some.field-0-is at c.in-Ok-Some.ensures in
    record { files_stay = facts.files_stay; quiet = tt; tables = tt; well_formed = tt; low = tt; ends = ((facts.told, omega arith), (facts.unfailed, facts.found)); asks = omega (arith, facts.asks_nothing) }

pub returns-in-Ok-Some-2 : goal.returns-in-Ok-Some-2
returns-in-Ok-Some-2 g c =
    let found = rw c.in-Ok-Some.field-0-is at c.in-Ok-Some.ensures in
    let taken = c.image_of_size.ensures in
    let result = c.image_of_size.result in
    let after = c.image_of_size.new.shelf in
    record {
      files_stay = taken.files_stay ∙ found.files_stay;
      quiet = subst (λ (q : ℕ × ℕ). IfOk result (λ t. IsUndisturbed (shelves q.0 (g.S.Shelf.misses after) q.1 (g.S.Shelf.faults after)))) (λ i. (found.found i, found.unfailed i)) taken.quiet;
      tables = subst (λ (told : Option Files). IfOk result (λ t. ImageGives told c.args.name.now t)) found.files_stay taken.tables;
      well_formed = taken.well_formed;
      low = taken.low;
      ends = subst (λ (q : Option Files × ℕ × ℕ). IfErr result (IsEnding q.0 (shelves q.1 (g.S.Shelf.misses after) q.2 (g.S.Shelf.faults after)) (Image c.args.name.now))) (λ i. (found.files_stay i, found.found i, found.unfailed i)) taken.ends;
      asks = asks-image-most (g.S.Shelf.files c.args.shelf.now) c.args.name.now c.in-Ok-Some.size (g.S.Shelf.asked c.args.shelf.now) (g.S.Shelf.asked after) found.told (omega arith) (omega (arith, found.asks_nothing, taken.asks));
    }

pub returns-in-Err : goal.returns-in-Err
returns-in-Err g c =
    let facts = c.in-Err.ensures in
    record { files_stay = facts.files_stay; quiet = tt; tables = tt; well_formed = tt; low = tt; ends = (facts.failed, facts.unmissed); asks = omega (arith, facts.asks_nothing) }
