use Rattle.std.proofs.Common.{arith, refl}
use Rattle.mpt_table.proofs.WordFromLemmas.{IsInsideTold-size, word_outside, word_inside}
use Rattle.mpt_table.proofs.ShelfLemmas.{keeps, asks_none}
use Rattle.mpt_table.proofs.window.word_from.Goals as goal

pub read_at-requires : goal.read_at-requires
read_at-requires g c = record { inside = IsInsideTold-size (g.S.Shelf.files c.args.shelf.now) c.args.name.now c.args.size c.args.at 2 c.requires.told (omega (arith, c.if-size-at.false)) }

pub returns-then-size-at : goal.returns-then-size-at
returns-then-size-at g c = record {
  files_stay = refl;
  faults_never_fall = keeps _;
  misses_stay = refl;
  asks = asks_none _ _;
  told = word_outside (g.S.Shelf.files c.args.shelf.now) c.args.name.now c.args.size c.args.at c.requires.told (omega (arith, c.if-size-at.true));
  unread = tt;
  unfailed = refl;
}

pub returns-in-Ok : goal.returns-in-Ok
returns-in-Ok g c =
    let own = c.in-Ok.ensures in
    record {
      files_stay = own.files_stay;
      faults_never_fall = own.faults_never_fall;
      misses_stay = own.misses_stay;
      asks = own.asks_the_buffer;
      told = word_inside (g.S.Shelf.files c.args.shelf.now) c.args.name.now c.args.size c.args.at c.read_at.new.buf c.u16_at.result c.requires.told (omega (arith, c.if-size-at.false)) own.told c.read_at.auto.buf c.u16_at.ensures;
      unread = tt;
      unfailed = own.unfailed;
    }

pub returns-in-Err : goal.returns-in-Err
returns-in-Err g c =
    let own = c.in-Err.ensures in
    record {
      files_stay = own.files_stay;
      faults_never_fall = own.faults_never_fall;
      misses_stay = own.misses_stay;
      asks = own.asks_the_buffer;
      told = tt;
      unread = own.failed;
      unfailed = tt;
    }
