use Rattle.std.proofs.Common.{subst, sym, length, ◌∙◌, arith}
use Rattle.std.proofs.lemmas.Option.{slice_get_within}
use Rattle.mpt_rules.specs.Index.{IsRangeOf, AreRanges}
use Rattle.mpt_rules.proofs.MeetLemmas.{no_range, read_none}
use Rattle.mpt_rules.proofs.ext_rules.meeting_range.Goals as goal

pub first_meeting-requires-clause-range : goal.first_meeting-requires-clause-range
first_meeting-requires-clause-range c =
    let l = slice_get_within c.args.entries.now c.args.i c.args.entry.now c.requires.entry in
    let r = read_none c.args.index.now.ranges.items c.args.i c.index.result.now (omega (arith, l, c.requires.index.ranges.count)) c.index.ensures in
    subst (IsRangeOf c.args.entry.now) (r ∙ c.in-Some.is) (c.requires.index.ranges.each c.args.i c.args.entry.now l c.requires.entry)

pub returns-in-None : goal.returns-in-None
returns-in-None c =
    let l = slice_get_within c.args.entries.now c.args.i c.args.entry.now c.requires.entry in
    let r = read_none c.args.index.now.ranges.items c.args.i c.index.result.now (omega (arith, l, c.requires.index.ranges.count)) c.index.ensures in
    let n = subst (IsRangeOf c.args.entry.now) (r ∙ c.in-None.is) (c.requires.index.ranges.each c.args.i c.args.entry.now l c.requires.entry) in
    λ j f. no_range c.args.entry.now f.place.holds.0 n f.place.holds.2

pub returns-in-Some : goal.returns-in-Some
returns-in-Some c = c.first_meeting.ensures

pub first_meeting-requires-clause-inside : goal.first_meeting-requires-clause-inside
first_meeting-requires-clause-inside c = slice_get_within c.args.entries.now c.args.i c.args.entry.now c.requires.entry

pub first_meeting-requires-clause-ranges : goal.first_meeting-requires-clause-ranges
first_meeting-requires-clause-ranges c =
    let es = c.args.entries.now in
    subst (AreRanges es (length es)) (sym c.as_slice.ensures.value) c.requires.index.ranges
