use Rattle.std.proofs.Common.{ℕ, ◌∙◌, refl, subst}
use Rattle.mpb_spec.specs.Pulses.{HasCountsFor, logs_of, counts_of}
use Rattle.mpb_crew.proofs.AtClose.{seats_close, devs_close, cols_close, complete_close, counts_close, accounts_close}
use Rattle.mpb_crew.proofs.closing.closed.Goals as goal

pub close-board-requires : goal.close-board-requires
close-board-requires c = record {
  seats = seats_close c.args.bus.bus c.args.latch.latch c.args.bus.plan c.args.workers.items c.give_up-seats.result.0.items c.give_up-seats.result.1.items c.give_up-seats.result.2.items
      c.give_up-seats.ensures.seats c.give_up-seats.ensures.cols c.give_up-seats.ensures.devs c.requires.ended c.requires.agents c.args.bus refl refl;
}

pub close-account-requires-clause-devices : goal.close-account-requires-clause-devices
close-account-requires-clause-devices c =
    let held = devs_close c.args.bus.bus c.args.latch.latch c.args.bus.plan c.args.workers.items c.give_up-seats.result.0.items c.give_up-seats.result.1.items c.give_up-seats.result.2.items
    c.give_up-seats.ensures.seats c.give_up-seats.ensures.cols c.give_up-seats.ensures.devs c.requires.ended c.requires.agents c.args.latch refl c.requires.latch.1 in
    (c.give_up-seats.result.2.ok.0 ∙ held.0, held.1)

pub close-account-requires-clause-collectors : goal.close-account-requires-clause-collectors
close-account-requires-clause-collectors c =
    cols_close c.args.bus.bus c.args.latch.latch c.args.bus.plan c.args.workers.items c.give_up-seats.result.0.items c.give_up-seats.result.1.items c.give_up-seats.result.2.items
    c.give_up-seats.ensures.seats c.give_up-seats.ensures.cols c.give_up-seats.ensures.devs c.requires.ended c.requires.agents c.args.latch refl c.requires.latch.0

pub returns-clause-complete : goal.returns-clause-complete
returns-clause-complete c =
    complete_close c.args.bus.bus c.args.latch.latch c.args.bus.plan c.args.workers.items c.give_up-seats.result.0.items c.give_up-seats.result.1.items c.give_up-seats.result.2.items
    c.give_up-seats.ensures.seats c.give_up-seats.ensures.cols c.give_up-seats.ensures.devs c.requires.ended c.requires.agents c.close-board.result.plan c.close-board.result.journal c.requires.config c.close-board.ensures.plan c.close-board.ensures.complete

pub returns-clause-accounts : goal.returns-clause-accounts
returns-clause-accounts c =
    accounts_close c.args.bus.bus c.args.latch.latch c.args.bus.plan c.args.workers.items c.give_up-seats.result.0.items c.give_up-seats.result.1.items c.give_up-seats.result.2.items
    c.give_up-seats.ensures.seats c.give_up-seats.ensures.cols c.give_up-seats.ensures.devs c.requires.ended c.requires.agents c.close-board.result.journal (logs_of c.close-account.result) c.close-board.ensures.mine
    c.close-account.ensures.logs c.close-account.ensures.plans c.close-account.ensures.dry c.close-account.ensures.first

pub returns-clause-collected : goal.returns-clause-collected
returns-clause-collected c =
    counts_close c.args.bus.bus c.args.latch.latch c.args.bus.plan c.args.workers.items c.give_up-seats.result.0.items c.give_up-seats.result.1.items c.give_up-seats.result.2.items
    c.give_up-seats.ensures.seats c.give_up-seats.ensures.cols c.give_up-seats.ensures.devs c.requires.ended c.requires.agents c.close-board.result.journal (counts_of c.close-account.result) c.close-board.ensures.mine c.close-account.ensures.counts

pub returns-clause-shape : goal.returns-clause-shape
returns-clause-shape c = subst (λ (n : ℕ). HasCountsFor n c.close-account.result) c.requires.latch.0 c.close-account.ensures.shape
