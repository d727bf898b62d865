use Rattle.std.proofs.Common.{◌≡◌, ℕ, ◌+◌, length, sym, subst, arith}
use Rattle.mpt_spec.specs.declared.tables.Table.{Table}
use Rattle.mpt_spec.specs.declared.tables.Body.TheVariants as body
use Rattle.mpt_spec.specs.Values.{IsBaseValue}
use Rattle.mpt_listing.specs.Listing.{base_line, ext_line}
use Rattle.mpt_parse.specs.Languages.{IsEnd, MayFollow, IsRightTable, IsFaultBehind, behind_text}
use Rattle.mpt_parse.proofs.EntryLines.{entries_short, base_some, ext_some}
use Rattle.mpt_parse.proofs.TableLines.{table_stop, table_fault, table_whole, head_short}
use Rattle.mpt_parse.proofs.parsing.read_table.Goals as goal

pub returns-in_default-clause-fault : goal.returns-in_default-clause-fault
returns-in_default-clause-fault c = table_stop c.args.text.now 2 c.unfinished.result c.in_default.ensures.none c.unfinished.ensures

pub overflow_cast-len : goal.overflow_cast-len
overflow_cast-len c =
    omega (
      arith,
      head_short c.in-Some.header c.args.text.now c.in-Some.rest.now c.in-Some.ensures.some,
      entries_short base_line IsBaseValue base_some c.in-Ok.base.items c.in-Some.rest.now c.in-Ok.rest.now c.in-Ok.ensures,
      entries_short ext_line (MayFollow c.in-Some.header) ext_some c.in-Ok-read_ext_part.ext.items c.in-Ok.rest.now c.in-Ok-read_ext_part.rest.now c.in-Ok-read_ext_part.ensures,
      c.len.ensures,
      c.len-2.ensures,
    )

pub end_fault-requires : goal.end_fault-requires
end_fault-requires c =
    omega (
      arith,
      head_short c.in-Some.header c.args.text.now c.in-Some.rest.now c.in-Some.ensures.some,
      entries_short base_line IsBaseValue base_some c.in-Ok.base.items c.in-Some.rest.now c.in-Ok.rest.now c.in-Ok.ensures,
      entries_short ext_line (MayFollow c.in-Some.header) ext_some c.in-Ok-read_ext_part.ext.items c.in-Ok.rest.now c.in-Ok-read_ext_part.rest.now c.in-Ok-read_ext_part.ensures,
      c.len.ensures,
      c.len-2.ensures,
    )

pub returns-in-Some-end_fault-clause-fault : goal.returns-in-Some-end_fault-clause-fault
returns-in-Some-end_fault-clause-fault c =
    let bs = c.in-Ok.base.items in
    let es = c.in-Ok-read_ext_part.ext.items in
    let lines : 3 + c.len.result + c.len-2.result ≡ 2 + 1 + length bs + length es = omega (arith, c.len.ensures, c.len-2.ensures) in
    table_fault c.in-Some.header bs es c.args.text.now c.in-Some.rest.now c.in-Ok.rest.now c.in-Ok-read_ext_part.rest.now 2 c.in-Some-end_fault.fault c.in-Some.ensures.some c.in-Ok.ensures c.in-Ok-read_ext_part.ensures
    (subst (λ (k : ℕ). IsFaultBehind IsEnd k c.in-Ok-read_ext_part.rest.now c.in-Some-end_fault.fault) lines c.in-Some-end_fault.ensures.some)

pub returns-in-None-clause-right : goal.returns-in-None-clause-right
returns-in-None-clause-right c =
    subst (λ (t : Table). IsRightTable t) (sym c.table_with.ensures)
    (table_whole c.in-Some.header c.in-Ok.base.items c.in-Ok-read_ext_part.ext.items c.args.text.now c.in-Some.rest.now c.in-Ok.rest.now c.in-Ok-read_ext_part.rest.now c.in-Some.ensures.some c.in-Ok.ensures c.in-Ok-read_ext_part.ensures c.in-None.ensures.none).0

pub returns-in-None-clause-whole : goal.returns-in-None-clause-whole
returns-in-None-clause-whole c =
    subst (λ (t : Table). c.args.text.now ≡ behind_text (body.Listed t)) (sym c.table_with.ensures)
    (table_whole c.in-Some.header c.in-Ok.base.items c.in-Ok-read_ext_part.ext.items c.args.text.now c.in-Some.rest.now c.in-Ok.rest.now c.in-Ok-read_ext_part.rest.now c.in-Some.ensures.some c.in-Ok.ensures c.in-Ok-read_ext_part.ensures c.in-None.ensures.none).1
