use Rattle.std.proofs.Common.{◌≡◌, ◌+◌, ◌^◌, ◌<◌, ◌≤◌, ℕ, length, subst, arith}
use Rattle.mpb_report_spec.specs.EntryLines.{entry_line}
use Rattle.mpb_report_parse.specs.Languages.{up, AreLogLines, IsFaultBehind, IsUnfinished}
use Rattle.mpb_report_parse.proofs.Runs.{items_short}
use Rattle.mpb_report_parse.proofs.Places.{entry_line_some, entries_first, entries_stop, entries_fault}
use Rattle.mpb_report_parse.proofs.parsing.read_behind_count.Goals as goal

pub overflow_cast-len : goal.overflow_cast-len
overflow_cast-len c = omega (arith, items_short entry_line up entry_line_some 0 c.in-Ok.entries.items c.args.text.now c.in-Ok.rest.now c.in-Ok.ensures.whole, c.len-then-len-count.ensures, c.requires)

pub unfinished-requires : goal.unfinished-requires
unfinished-requires c = omega (arith, items_short entry_line up entry_line_some 0 c.in-Ok.entries.items c.args.text.now c.in-Ok.rest.now c.in-Ok.ensures.whole, c.len-then-len-count.ensures, c.requires)

pub returns-then-len-count-clause-fault : goal.returns-then-len-count-clause-fault
returns-then-len-count-clause-fault c = λ n is. (
    let es = c.in-Ok.entries.items in
    let short : length c.in-Ok.entries.items + length c.in-Ok.rest.now ≤ length c.args.text.now = items_short entry_line up entry_line_some 0 c.in-Ok.entries.items c.args.text.now c.in-Ok.rest.now c.in-Ok.ensures.whole in
    let few : length c.in-Ok.entries.items < 2 ^ 32 = omega (arith, short, c.requires) in
    let less : length c.in-Ok.entries.items < n = omega (arith, is, c.if-len-count.true, c.len.ensures) in
    let lines : 2 + c.len-then-len-count.result ≡ 2 + length c.in-Ok.entries.items = omega (arith, c.len-then-len-count.ensures) in
    entries_stop n es c.args.text.now c.in-Ok.rest.now 2 c.unfinished.result
    (entries_first n c.args.count es c.args.text.now c.in-Ok.rest.now is few c.in-Ok.ensures.whole c.in-Ok.ensures.right c.in-Ok.ensures.few c.in-Ok.ensures.last)
    less (subst (λ (k : ℕ). IsUnfinished k c.in-Ok.rest.now c.unfinished.result) lines c.unfinished.ensures)
    )

pub overflow_cast-len-2 : goal.overflow_cast-len-2
overflow_cast-len-2 c = omega (arith, items_short entry_line up entry_line_some 0 c.in-Ok.entries.items c.args.text.now c.in-Ok.rest.now c.in-Ok.ensures.whole, c.len-2.ensures, c.requires)

pub read_tail-requires : goal.read_tail-requires
read_tail-requires c = omega (arith, items_short entry_line up entry_line_some 0 c.in-Ok.entries.items c.args.text.now c.in-Ok.rest.now c.in-Ok.ensures.whole, c.len-2.ensures, c.requires)

pub returns-in-Ok-read_tail-clause-few : goal.returns-in-Ok-read_tail-clause-few
returns-in-Ok-read_tail-clause-few c =
    rw c.new.ensures (omega (arith, items_short entry_line up entry_line_some 0 c.in-Ok.entries.items c.args.text.now c.in-Ok.rest.now c.in-Ok.ensures.whole, c.requires))

pub returns-in-Err-clause-fault : goal.returns-in-Err-clause-fault
returns-in-Err-clause-fault c = λ n is. (
    let es = c.in-Ok.entries.items in
    let short : length c.in-Ok.entries.items + length c.in-Ok.rest.now ≤ length c.args.text.now = items_short entry_line up entry_line_some 0 c.in-Ok.entries.items c.args.text.now c.in-Ok.rest.now c.in-Ok.ensures.whole in
    let few : length c.in-Ok.entries.items < 2 ^ 32 = omega (arith, short, c.requires) in
    let all : length c.in-Ok.entries.items ≡ n = omega (arith, is, few, c.if-len-count.false, c.len.ensures, c.in-Ok.ensures.few) in
    let lines : 2 + c.len-2.result ≡ 2 + length c.in-Ok.entries.items = omega (arith, c.len-2.ensures) in
    entries_fault n es c.args.text.now c.in-Ok.rest.now 2 c.in-Err.fault
    (entries_first n c.args.count es c.args.text.now c.in-Ok.rest.now is few c.in-Ok.ensures.whole c.in-Ok.ensures.right c.in-Ok.ensures.few c.in-Ok.ensures.last)
    all (subst (λ (k : ℕ). IsFaultBehind (AreLogLines 0) k c.in-Ok.rest.now c.in-Err.fault) lines c.in-Err.ensures.fault)
    )
