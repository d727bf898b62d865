use Rattle.mptab_walk.specs.Forms.{IsAny}
use Rattle.mptab_walk.specs.Walk.{texts_of, outside_of}
use Rattle.mptab_calls.proofs.CauseLemmas.{Answers-cause, Answers-whole, Answers-failures, Answers-misses}
use Rattle.mptab_calls.proofs.calls.run_with.Goals as goal

pub returns-clause-answer : goal.returns-clause-answer
returns-clause-answer g c = c.walk.ensures.answer

pub returns-clause-cause : goal.returns-clause-cause
returns-clause-cause g c = Answers-cause IsAny (g.S.Shelf.files c.args.shelf.now) (outside_of g.S.Shelf g.O.Sink c.args.shelf.now c.args.out.now) (outside_of g.S.Shelf g.O.Sink c.walk.new.shelf c.walk.new.out) (texts_of c.args.words.now) c.walk.result (returns-clause-answer g c)

pub returns-clause-complete : goal.returns-clause-complete
returns-clause-complete g c = Answers-whole IsAny (g.S.Shelf.files c.args.shelf.now) (outside_of g.S.Shelf g.O.Sink c.args.shelf.now c.args.out.now) (outside_of g.S.Shelf g.O.Sink c.walk.new.shelf c.walk.new.out) (texts_of c.args.words.now) c.walk.result (returns-clause-answer g c)

pub returns-clause-failures : goal.returns-clause-failures
returns-clause-failures g c = Answers-failures IsAny (g.S.Shelf.files c.args.shelf.now) (outside_of g.S.Shelf g.O.Sink c.args.shelf.now c.args.out.now) (outside_of g.S.Shelf g.O.Sink c.walk.new.shelf c.walk.new.out) (texts_of c.args.words.now) c.walk.result (returns-clause-answer g c)

pub returns-clause-misses : goal.returns-clause-misses
returns-clause-misses g c = Answers-misses IsAny (g.S.Shelf.files c.args.shelf.now) (outside_of g.S.Shelf g.O.Sink c.args.shelf.now c.args.out.now) (outside_of g.S.Shelf g.O.Sink c.walk.new.shelf c.walk.new.out) (texts_of c.args.words.now) c.walk.result (returns-clause-answer g c)

pub returns-clause-asks : goal.returns-clause-asks
returns-clause-asks g c = c.walk.ensures.asks
