use Rattle.std.proofs.Common.{refl}
use Rattle.mpt_spec.specs.Table.{Describes}
use Rattle.mptab_walk.specs.Forms.{Image}
use Rattle.mptab_walk.specs.Commands.{fault_line, no_pointer_line}
use Rattle.mptab_walk.specs.Ending.{shelves_of}
use Rattle.mptab_walk.proofs.AnswerLemmas.{IsEnding-refused, IsRefused-fault, IsRefused-none, IsRead-told, IsRead-there}
use Rattle.mptab_walk.proofs.image.image_of_size.Goals as goal

pub returns-in-Ok : goal.returns-in-Ok
returns-in-Ok g c =
    let facts = c.in-Ok.ensures in
    record {
      files_stay = facts.files_stay;
      quiet = (facts.unfailed (λ e. cc), facts.misses_stay);
      tables = IsRead-told (g.S.Shelf.files c.args.shelf.now) (Image c.args.name.now) c.args.size (λ image. Describes image c.in-Ok.tables) c.requires.told c.requires.within facts.tables;
      well_formed = facts.well_formed;
      low = facts.low;
      ends = tt;
      asks = facts.asks;
    }

pub returns-in-Err-NoPointer : goal.returns-in-Err-NoPointer
returns-in-Err-NoPointer g c =
    let facts = rw c.in-Err-NoPointer.field-0-is at c.in-Err-NoPointer.ensures in
    let told = g.S.Shelf.files c.args.shelf.now in
    let name = c.args.name.now in
    record {
      files_stay = facts.files_stay;
      quiet = tt;
      tables = tt;
      well_formed = tt;
      low = tt;
      ends = IsEnding-refused told (shelves_of g.S.Shelf c.args.shelf.now c.read_from.new.shelf) (Image name) c.no_pointer.result c.refused.result 6 no_pointer_line
          (IsRefused-none told name c.args.size c.requires.told c.requires.within facts.refused)
          (IsRead-there told (Image name) c.args.size c.requires.told c.requires.within)
          (facts.unfailed (λ e. cc), facts.misses_stay) c.no_pointer.ensures c.refused.ensures.refused c.refused.ensures.no_memory;
      asks = facts.asks;
    }

pub returns-in-Err-Fault : goal.returns-in-Err-Fault
returns-in-Err-Fault g c =
    let facts = rw c.in-Err-Fault.field-0-is at c.in-Err-Fault.ensures in
    let told = g.S.Shelf.files c.args.shelf.now in
    let name = c.args.name.now in
    let fault = c.in-Err-Fault.fault in
    let again = c.refused-in-Err-Fault in
    record {
      files_stay = facts.files_stay;
      quiet = tt;
      tables = tt;
      well_formed = tt;
      low = tt;
      ends = IsEnding-refused told (shelves_of g.S.Shelf c.args.shelf.now c.read_from.new.shelf) (Image name) c.first_fault.result again.result 7 (fault_line fault.at fault.why)
          (IsRefused-fault told name c.args.size fault.at fault.why c.requires.told c.requires.within facts.inside facts.refused)
          (IsRead-there told (Image name) c.args.size c.requires.told c.requires.within)
          (facts.unfailed (λ e. cc), facts.misses_stay) c.first_fault.ensures again.ensures.refused again.ensures.no_memory;
      asks = facts.asks;
    }

pub returns-in-Err-Read : goal.returns-in-Err-Read
returns-in-Err-Read g c =
    let facts = rw c.in-Err-Read.field-0-is at c.in-Err-Read.ensures in
    record { files_stay = facts.files_stay; quiet = tt; tables = tt; well_formed = tt; low = tt; ends = (facts.unread refl, facts.misses_stay); asks = facts.asks }

pub returns-in-Err-NoMemory : goal.returns-in-Err-NoMemory
returns-in-Err-NoMemory g c =
    let facts = rw c.in-Err-NoMemory.field-0-is at c.in-Err-NoMemory.ensures in
    record {
      files_stay = facts.files_stay;
      quiet = tt;
      tables = tt;
      well_formed = tt;
      low = tt;
      ends = (IsRead-there (g.S.Shelf.files c.args.shelf.now) (Image c.args.name.now) c.args.size c.requires.told c.requires.within, (facts.unfailed (λ e. cc), facts.misses_stay));
      asks = facts.asks;
    }
