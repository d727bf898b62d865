use Rattle.std.proofs.Common.{◌≤◌, ◌+◌, ◌∙◌, subst, Option, arith}
use Rattle.mpt_base.specs.Outside.{Files}
use Rattle.mptab_walk.specs.Forms.{Script}
use Rattle.mptab_walk.specs.Commands.{IsGivenBoard}
use Rattle.mptab_walk.specs.Walk.{most_of}
use Rattle.mptab_walk.specs.Ending.{IsEnding, shelves_of}
use Rattle.mptab_walk.proofs.BoardLemmas.{IsEnding-earlier}
use Rattle.mptab_walk.proofs.board.take_described.Goals as goal

pub returns-in-Ok-take_script : goal.returns-in-Ok-take_script
returns-in-Ok-take_script g c =
    let facts = c.in-Ok.ensures in
    let taken = c.in-Ok-take_script.ensures in
    let image = c.args.files.image.now in
    let script = c.args.files.script.now in
    let asked = subst (λ (t : Option Files). g.S.Shelf.asked c.take_script.new.shelf ≤ g.S.Shelf.asked c.take_image.new.shelf + most_of t (Script image script)) facts.files_stay taken.asks in
    record {
      files_stay = taken.files_stay ∙ facts.files_stay;
      quiet = (taken.quiet.0 ∙ facts.quiet.0, taken.quiet.1 ∙ facts.quiet.1);
      board = record { well_formed = facts.well_formed; low = facts.low; gives = facts.tables; board = subst (λ (t : Option Files). IsGivenBoard t image script c.in-Ok.tables c.in-Ok-take_script.config) facts.files_stay taken.board };
      ends = tt;
      asks = omega (arith, facts.asks, asked);
      asks_at_end = tt;
    }

pub returns-in-Err-take_script : goal.returns-in-Err-take_script
returns-in-Err-take_script g c =
    let facts = c.in-Ok.ensures in
    let taken = c.in-Err-take_script.ensures in
    let image = c.args.files.image.now in
    let script = c.args.files.script.now in
    let file = Script image script in
    let ending = c.in-Err-take_script.ending in
    let asked = subst (λ (t : Option Files). g.S.Shelf.asked c.take_script.new.shelf ≤ g.S.Shelf.asked c.take_image.new.shelf + most_of t file) facts.files_stay taken.asks in
    record {
      files_stay = taken.files_stay ∙ facts.files_stay;
      quiet = tt;
      board = tt;
      ends = (
        IsEnding-earlier (g.S.Shelf.files c.args.shelf.now) (g.S.Shelf.misses c.args.shelf.now) (g.S.Shelf.misses c.take_image.new.shelf) (g.S.Shelf.misses c.take_script.new.shelf) (g.S.Shelf.faults c.args.shelf.now) (g.S.Shelf.faults c.take_image.new.shelf) (g.S.Shelf.faults c.take_script.new.shelf) file ending facts.quiet
            (subst (λ (t : Option Files). IsEnding t (shelves_of g.S.Shelf c.take_image.new.shelf c.take_script.new.shelf) file ending) facts.files_stay taken.ends),
        c.in-Ok.tables,
        facts.tables,
      );
      asks = tt;
      asks_at_end = omega (arith, facts.asks, asked);
    }

pub returns-in-Err : goal.returns-in-Err
returns-in-Err g c =
    let facts = c.in-Err.ensures in
    record { files_stay = facts.files_stay; quiet = tt; board = tt; ends = facts.ends; asks = tt; asks_at_end = facts.asks }
