use Rattle.std.proofs.Common.{refl, sym, subst, arith}
use Rattle.mptab_walk.specs.declared.words.StillCommand.{StillCommand}
use Rattle.mptab_walk.specs.Forms.{form_of_still}
use Rattle.mptab_walk.specs.Walk.{IsDueOf, outside_of}
use Rattle.mptab_walk.proofs.AnswerLemmas.{IsDrillDue-due}
use Rattle.mptab_calls.proofs.giving.give.Goals as goal

pub returns-in-OfTables-clause-due : goal.returns-in-OfTables-clause-due
returns-in-OfTables-clause-due g c =
    let due = c.give_of_tables.ensures.due in (
      due.0,
      due.1,
      subst (λ (d : StillCommand). IsDueOf (g.S.Shelf.files c.args.shelf.now) (outside_of g.S.Shelf g.O.Sink c.args.shelf.now c.args.out.now) (outside_of g.S.Shelf g.O.Sink c.give_of_tables.new.shelf c.give_of_tables.new.out) (form_of_still d) due.0 due.1) (sym c.in-OfTables.is) due.2,
      due.3,
    )

pub returns-in-Trace-clause-due : goal.returns-in-Trace-clause-due
returns-in-Trace-clause-due g c =
    let due = c.give_of_trace.ensures.due in (
      due.0,
      due.1,
      subst (λ (d : StillCommand). IsDueOf (g.S.Shelf.files c.args.shelf.now) (outside_of g.S.Shelf g.O.Sink c.args.shelf.now c.args.out.now) (outside_of g.S.Shelf g.O.Sink c.give_of_trace.new.shelf c.give_of_trace.new.out) (form_of_still d) due.0 due.1) (sym c.in-Trace.is) due.2,
      due.3,
    )

pub returns-in-Replay-clause-due : goal.returns-in-Replay-clause-due
returns-in-Replay-clause-due g c =
    let due = c.give_of_replay.ensures.due in (
      due.0,
      due.1,
      subst (λ (d : StillCommand). IsDueOf (g.S.Shelf.files c.args.shelf.now) (outside_of g.S.Shelf g.O.Sink c.args.shelf.now c.args.out.now) (outside_of g.S.Shelf g.O.Sink c.give_of_replay.new.shelf c.give_of_replay.new.out) (form_of_still d) due.0 due.1) (sym c.in-Replay.is) due.2,
      due.3,
    )

pub returns-in-Madtcmp-clause-due : goal.returns-in-Madtcmp-clause-due
returns-in-Madtcmp-clause-due g c =
    let due = c.give_of_madtcmp.ensures.due in (
      due.0,
      due.1,
      subst (λ (d : StillCommand). IsDueOf (g.S.Shelf.files c.args.shelf.now) (outside_of g.S.Shelf g.O.Sink c.args.shelf.now c.args.out.now) (outside_of g.S.Shelf g.O.Sink c.give_of_madtcmp.new.shelf c.give_of_madtcmp.new.out) (form_of_still d) due.0 due.1) (sym c.in-Madtcmp.is) due.2,
      due.3,
    )

pub returns-in-Pircmp-clause-due : goal.returns-in-Pircmp-clause-due
returns-in-Pircmp-clause-due g c =
    let due = c.give_of_pircmp.ensures.due in (
      due.0,
      due.1,
      subst (λ (d : StillCommand). IsDueOf (g.S.Shelf.files c.args.shelf.now) (outside_of g.S.Shelf g.O.Sink c.args.shelf.now c.args.out.now) (outside_of g.S.Shelf g.O.Sink c.give_of_pircmp.new.shelf c.give_of_pircmp.new.out) (form_of_still d) due.0 due.1) (sym c.in-Pircmp.is) due.2,
      due.3,
    )

pub returns-in-Pic-clause-due : goal.returns-in-Pic-clause-due
returns-in-Pic-clause-due g c =
    let due = c.give_of_pic.ensures.due in (
      due.0,
      due.1,
      subst (λ (d : StillCommand). IsDueOf (g.S.Shelf.files c.args.shelf.now) (outside_of g.S.Shelf g.O.Sink c.args.shelf.now c.args.out.now) (outside_of g.S.Shelf g.O.Sink c.give_of_pic.new.shelf c.give_of_pic.new.out) (form_of_still d) due.0 due.1) (sym c.in-Pic.is) due.2,
      due.3,
    )

pub returns-in-Drill-clause-due : goal.returns-in-Drill-clause-due
returns-in-Drill-clause-due g c =
    let due = c.give_of_drill.ensures in (
      due.0,
      due.1,
      subst (λ (d : StillCommand). IsDueOf (g.S.Shelf.files c.args.shelf.now) (outside_of g.S.Shelf g.O.Sink c.args.shelf.now c.args.out.now) (outside_of g.S.Shelf g.O.Sink c.args.shelf.now c.give_of_drill.new.out) (form_of_still d) due.0 due.1) (sym c.in-Drill.is)
          (IsDrillDue-due (g.S.Shelf.files c.args.shelf.now) (outside_of g.S.Shelf g.O.Sink c.args.shelf.now c.args.out.now) (outside_of g.S.Shelf g.O.Sink c.args.shelf.now c.give_of_drill.new.out) c.in-Drill.n due.0 due.1 (refl, refl) due.2),
      due.3,
    )

pub returns-in-OfTables-clause-files_stay : goal.returns-in-OfTables-clause-files_stay
returns-in-OfTables-clause-files_stay g c = c.give_of_tables.ensures.files_stay

pub returns-in-OfTables-clause-asks : goal.returns-in-OfTables-clause-asks
returns-in-OfTables-clause-asks g c = rw c.in-OfTables.is c.give_of_tables.ensures.asks

pub returns-in-Trace-clause-files_stay : goal.returns-in-Trace-clause-files_stay
returns-in-Trace-clause-files_stay g c = c.give_of_trace.ensures.files_stay

pub returns-in-Trace-clause-asks : goal.returns-in-Trace-clause-asks
returns-in-Trace-clause-asks g c = rw c.in-Trace.is c.give_of_trace.ensures.asks

pub returns-in-Replay-clause-files_stay : goal.returns-in-Replay-clause-files_stay
returns-in-Replay-clause-files_stay g c = c.give_of_replay.ensures.files_stay

pub returns-in-Replay-clause-asks : goal.returns-in-Replay-clause-asks
returns-in-Replay-clause-asks g c = rw c.in-Replay.is c.give_of_replay.ensures.asks

pub returns-in-Madtcmp-clause-files_stay : goal.returns-in-Madtcmp-clause-files_stay
returns-in-Madtcmp-clause-files_stay g c = c.give_of_madtcmp.ensures.files_stay

pub returns-in-Madtcmp-clause-asks : goal.returns-in-Madtcmp-clause-asks
returns-in-Madtcmp-clause-asks g c = rw c.in-Madtcmp.is c.give_of_madtcmp.ensures.asks

pub returns-in-Pircmp-clause-files_stay : goal.returns-in-Pircmp-clause-files_stay
returns-in-Pircmp-clause-files_stay g c = c.give_of_pircmp.ensures.files_stay

pub returns-in-Pircmp-clause-asks : goal.returns-in-Pircmp-clause-asks
returns-in-Pircmp-clause-asks g c = rw c.in-Pircmp.is c.give_of_pircmp.ensures.asks

pub returns-in-Pic-clause-files_stay : goal.returns-in-Pic-clause-files_stay
returns-in-Pic-clause-files_stay g c = c.give_of_pic.ensures.files_stay

pub returns-in-Pic-clause-asks : goal.returns-in-Pic-clause-asks
returns-in-Pic-clause-asks g c = rw c.in-Pic.is c.give_of_pic.ensures.asks

pub returns-in-Drill-clause-files_stay : goal.returns-in-Drill-clause-files_stay
returns-in-Drill-clause-files_stay g c = refl

pub returns-in-Drill-clause-asks : goal.returns-in-Drill-clause-asks
returns-in-Drill-clause-asks g c = rw c.in-Drill.is (0, omega arith, refl)
