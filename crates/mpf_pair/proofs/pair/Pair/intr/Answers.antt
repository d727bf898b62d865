use Rattle.mpf_pair.proofs.LineLemmas.{IsAscending-lines, AllBelow-lines, no_two}
use Rattle.mpf_pair.proofs.pair.Pair.intr.Goals as goal

pub returns-clause-kept : goal.returns-clause-kept
returns-clause-kept c =
    let m = c.self.inside.master in
    let s = c.self.inside.slave in
    rw (← c.self.view_is) (record {
      requests = (IsAscending-lines m.requests s.requests, AllBelow-lines m.requests s.requests);
      marks = (IsAscending-lines m.marks s.marks, AllBelow-lines m.marks s.marks);
      lines = (IsAscending-lines m.lines s.lines, AllBelow-lines m.lines s.lines);
      no_request = no_two m.requests s.requests c.self.invariant.2;
      no_line = no_two m.lines s.lines c.self.invariant.3;
    })
