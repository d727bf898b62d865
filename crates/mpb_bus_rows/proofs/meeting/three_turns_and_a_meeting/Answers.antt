use Rattle.std.proofs.Common.{◌≡◌, ◌∙◌, ap, subst}
use Rattle.mpb_spec.specs.Agents.{IsPrefix, entries_of}
use Rattle.mpb_bus_rows.proofs.Lists.{told_on, three_more}
use Rattle.mpb_bus_rows.proofs.meeting.three_turns_and_a_meeting.Goals as goal

pub returns-clause-told : goal.returns-clause-told
returns-clause-told g c =
    let a = c.args.one.now.agent in
    let s3 = c.entry_of-3.new.seat in
    let x = c.in_ok-first.first in
    let y = c.in_ok-second.second in
    let z = c.in_ok-third.third in
    let agent : s3.agent ≡ a = c.entry_of-3.ensures.seat.1 ∙ c.entry_of-2.ensures.seat.1 ∙ c.entry_of.ensures.seat.1 in
    let mine = three_more c.args.one.now.mine c.entry_of.new.seat.mine c.entry_of-2.new.seat.mine s3.mine x y z c.in_ok-first.ensures.mine c.in_ok-second.ensures.mine c.in_ok-third.ensures.mine in
    subst (λ l. IsPrefix l (entries_of a c.meet.new.two.seen)) mine (told_on a s3.mine s3.seen c.meet.new.two.seen (c.entry_of-3.ensures.seen ∙ ap (λ h. entries_of h s3.seen) agent) c.meet.ensures.both.0)
