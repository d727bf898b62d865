use Rattle.std.proofs.Common.{◌≡◌, ◌∷◌, ◌++◌, [], arith, rules}
use Rattle.std.specs.Vec.{vec_capacity}
use Rattle.mpb_spec.specs.declared.entry.Entry.{Entry}
use Rattle.mpb_laws.proofs.ModelLemmas.{modelled}
use Rattle.mpb_board.proofs.BoardLemmas.{has_room, pushed, shown_grows}
use Rattle.mpb_board.proofs.board.Board.append.Goals as goal

pub make-outcomes-requires : goal.make-outcomes-requires
make-outcomes-requires c =
    let b = c.self.inside in
    let may = rw (← c.self.view_is) at c.requires in
    record {
      may = (c.args.offer, rw c.self.invariant.state may);
      model = modelled b.config b.journal.items c.args.agent c.args.offer c.args.op c.self.invariant.config may;
    }

pub unwrap-requires : goal.unwrap-requires
unwrap-requires c =
    let b = c.self.inside in
    let x : Entry = record { agent = c.args.agent; op = c.args.op; outcomes = c.make-outcomes.result } in
    let room = has_room b.config b.machine c.make-outcomes.new.m b.journal.items x c.args.offer (vec_capacity b.journal) c.self.invariant (rw (← c.self.view_is) at c.requires) c.make-outcomes.ensures.outcomes c.make-outcomes.ensures.state in
    c.push.ensures.succeeds (omega (arith, room))

pub invariant_of-self : goal.invariant_of-self
invariant_of-self c =
    let b = c.self.inside in
    let x : Entry = record { agent = c.args.agent; op = c.args.op; outcomes = c.make-outcomes.result } in
    let is : c.push.new.self.items ≡ b.journal.items ++ x ∷ [] = search rules in
    pushed b.config b.machine c.make-outcomes.new.m b.journal.items c.push.new.self.items x c.args.offer (vec_capacity b.journal) (vec_capacity c.push.new.self) c.self.invariant (rw (← c.self.view_is) at c.requires) c.make-outcomes.ensures.outcomes c.make-outcomes.ensures.state is c.push.ensures.capacity

pub returns-clause-legal : goal.returns-clause-legal
returns-clause-legal c =
    let b = c.self.inside in
    let x : Entry = record { agent = c.args.agent; op = c.args.op; outcomes = c.make-outcomes.result } in
    let is : c.push.new.self.items ≡ b.journal.items ++ x ∷ [] = search rules in
    (pushed b.config b.machine c.make-outcomes.new.m b.journal.items c.push.new.self.items x c.args.offer (vec_capacity b.journal) (vec_capacity c.push.new.self) c.self.invariant (rw (← c.self.view_is) at c.requires) c.make-outcomes.ensures.outcomes c.make-outcomes.ensures.state is c.push.ensures.capacity).legal

pub returns-clause-within : goal.returns-clause-within
returns-clause-within c =
    let b = c.self.inside in
    let x : Entry = record { agent = c.args.agent; op = c.args.op; outcomes = c.make-outcomes.result } in
    let is : c.push.new.self.items ≡ b.journal.items ++ x ∷ [] = search rules in
    (pushed b.config b.machine c.make-outcomes.new.m b.journal.items c.push.new.self.items x c.args.offer (vec_capacity b.journal) (vec_capacity c.push.new.self) c.self.invariant (rw (← c.self.view_is) at c.requires) c.make-outcomes.ensures.outcomes c.make-outcomes.ensures.state is c.push.ensures.capacity).within

pub returns-clause-accounted : goal.returns-clause-accounted
returns-clause-accounted c =
    let b = c.self.inside in
    let x : Entry = record { agent = c.args.agent; op = c.args.op; outcomes = c.make-outcomes.result } in
    let is : c.push.new.self.items ≡ b.journal.items ++ x ∷ [] = search rules in
    (pushed b.config b.machine c.make-outcomes.new.m b.journal.items c.push.new.self.items x c.args.offer (vec_capacity b.journal) (vec_capacity c.push.new.self) c.self.invariant (rw (← c.self.view_is) at c.requires) c.make-outcomes.ensures.outcomes c.make-outcomes.ensures.state is c.push.ensures.capacity).accounted

pub returns-clause-grows : goal.returns-clause-grows
returns-clause-grows c =
    let b = c.self.inside in
    let x : Entry = record { agent = c.args.agent; op = c.args.op; outcomes = c.make-outcomes.result } in
    let is : c.push.new.self.items ≡ b.journal.items ++ x ∷ [] = search rules in
    (x, shown_grows c.args.self.now b.config b.machine b.journal.items c.push.new.self.items x c.args.offer (vec_capacity b.journal) c.self.view_is c.self.invariant (rw (← c.self.view_is) at c.requires) c.make-outcomes.ensures.outcomes is)
