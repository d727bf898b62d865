use Rattle.std.proofs.Common.{◌∙◌, ℕ, IfOk, subst, arith}
use Rattle.mptab_walk.specs.Ending.{IsUndisturbed, shelves, shelves_of}
use Rattle.mptab_walk.proofs.LimitedLemmas.{absent-at, large-at, unread-at, asks-within, held-within}
use Rattle.mptab_walk.proofs.limited.take_bytes.Goals as goal

pub returns-in-Ok-None : goal.returns-in-Ok-None
returns-in-Ok-None g c =
    let facts = rw c.in-Ok-None.field-0-is at c.in-Ok-None.ensures in
    record {
      files_stay = facts.files_stay;
      quiet = tt;
      bytes = tt;
      ends = λ file e l. absent-at (g.S.Shelf.files c.args.shelf.now) (shelves_of g.S.Shelf c.args.shelf.now c.size.new.self) c.args.name.now file e facts.told facts.missing facts.unfailed;
      asks = omega (arith, facts.asks_nothing);
    }

pub returns-in-Ok-Some : goal.returns-in-Ok-Some
returns-in-Ok-Some g c =
    let facts = rw c.in-Ok-Some.field-0-is at c.in-Ok-Some.ensures in
    record {
      files_stay = facts.files_stay;
      quiet = tt;
      bytes = tt;
      ends = λ file e l. large-at (g.S.Shelf.files c.args.shelf.now) (shelves_of g.S.Shelf c.args.shelf.now c.size.new.self) c.args.name.now c.args.limit c.in-Ok-Some.size file e l facts.told (omega arith) (facts.unfailed, facts.found);
      asks = omega (arith, facts.asks_nothing);
    }

pub returns-in-Ok-Some-2 : goal.returns-in-Ok-Some-2
returns-in-Ok-Some-2 g c =
    let found = rw c.in-Ok-Some.field-0-is at c.in-Ok-Some.ensures in
    let taken = c.bytes_of_size.ensures in
    let result = c.bytes_of_size.result in
    let after = c.bytes_of_size.new.shelf in
    let told = g.S.Shelf.files c.args.shelf.now in
    let name = c.args.name.now in
    let size = c.in-Ok-Some.size in
    record {
      files_stay = taken.files_stay ∙ found.files_stay;
      quiet = subst (λ (q : ℕ × ℕ). IfOk result (λ bytes. IsUndisturbed (shelves q.0 (g.S.Shelf.misses after) q.1 (g.S.Shelf.faults after)))) (λ i. (found.found i, found.unfailed i)) taken.quiet;
      bytes = held-within result (g.S.Shelf.files c.size.new.self) told name c.args.limit size found.files_stay found.told (omega arith) taken.size taken.held;
      ends = λ file e l. unread-at result told (g.S.Shelf.misses c.args.shelf.now) (g.S.Shelf.misses c.size.new.self) (g.S.Shelf.misses after) (g.S.Shelf.faults c.args.shelf.now) (g.S.Shelf.faults c.size.new.self) (g.S.Shelf.faults after) name c.args.limit size file e l found.told (omega arith) found.unfailed found.found taken.ends;
      asks = asks-within told name c.args.limit size (g.S.Shelf.asked c.args.shelf.now) (g.S.Shelf.asked after) found.told (omega arith) (omega (arith, found.asks_nothing, taken.asks));
    }

pub returns-in-Err : goal.returns-in-Err
returns-in-Err g c =
    let facts = c.in-Err.ensures in
    record { files_stay = facts.files_stay; quiet = tt; bytes = tt; ends = λ file e l. (facts.failed, facts.unmissed); asks = omega (arith, facts.asks_nothing) }
