use Rattle.std.proofs.Common.{sym, ◌∙◌}
use Rattle.mpt_rules.specs.Entries.{IsOnPin}
use Rattle.mpt_rules.specs.Index.{DiffersFrom}
use Rattle.mpt_rules.proofs.PlaceLemmas.{first_tests, first_tests_none, no_entry}
use Rattle.mpt_rules.proofs.base_index.is_second_sense.Goals as goal

pub returns-in-Some : goal.returns-in-Some
returns-in-Some c =
    let e = c.args.e.now in
    first_tests (IsOnPin (e.dest, e.pin, 0)) c.args.entries.now (DiffersFrom e) _ c.in-Some.k no_entry c.differs_from.result (sym c.first_of_key.ensures ∙ c.in-Some.is) (c.requires (e.dest, e.pin, 0)) c.differs_from.ensures

pub returns-in-None : goal.returns-in-None
returns-in-None c =
    let e = c.args.e.now in
    first_tests_none (IsOnPin (e.dest, e.pin, 0)) c.args.entries.now (DiffersFrom e) _ (sym c.first_of_key.ensures ∙ c.in-None.is) (c.requires (e.dest, e.pin, 0))
