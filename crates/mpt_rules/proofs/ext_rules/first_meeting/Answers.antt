use Rattle.std.proofs.Common.{below_more, get_or, sym, ◌∙◌, arith}
use Rattle.std.specs.Prelude.{None}
use Rattle.std.proofs.lemmas.Bool.{false≢true}
use Rattle.mpt_rules.proofs.MeetLemmas.{at_place, meets_if, meets_only}
use Rattle.mpt_rules.proofs.ext_rules.first_meeting.Goals as goal

pub returns-then-meets : goal.returns-then-meets
returns-then-meets c =
    let es = c.args.entries.now in
    let j = c.loop-j.j in
    let f = at_place es j (omega arith) in
    record {
      before = omega arith;
      place = record {
        holds = (f.0, f.1, meets_if c.args.entry.now f.0 c.args.range.now (get_or c.args.ranges.now j None) c.requires.range (c.requires.ranges.each j f.0 (omega arith) f.1) (c.meets.ensures.0 c.if-meets.true));
        first = c.loop-j.invariant;
      };
    }

pub loop-j-preserved : goal.loop-j-preserved
loop-j-preserved c =
    below_more _ _ c.loop-j.invariant
    (λ h. false≢true (sym c.if-meets.false ∙ c.meets.ensures.1 (meets_only c.args.entry.now h.0 c.args.range.now (get_or c.args.ranges.now c.loop-j.j None) c.requires.range (c.requires.ranges.each c.loop-j.j h.0 (omega arith) h.1) h.2)))

pub returns : goal.returns
returns c = λ j f. c.loop-j.invariant j (omega (arith, f.before, c.loop-j-test.false)) f.place.holds
