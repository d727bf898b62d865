use Rattle.std.proofs.Common.{◌≡◌, ◌+◌, ℕ, length, subst, arith}
use Rattle.mpb_report_spec.specs.LogLines.{log_line}
use Rattle.mpb_report_line.specs.Lines.{io_text}
use Rattle.mpb_report_parse.specs.Languages.{run_end, up, above, IsLogAt, IsCpuFrom, cpu_line_at, IsIoAt, IsEnd, IsFaultBehind, IsUnfinished}
use Rattle.mpb_report_parse.proofs.Places.{log_line_some, cpu_line_some, io_line_some, imcr_stop, tail_fault, tail_whole}
use Rattle.mpb_report_parse.proofs.ListLemmas.{first_short, imcr_short}
use Rattle.mpb_report_parse.proofs.parsing.read_tail.Goals as goal

pub overflow_cast-before : goal.overflow_cast-before
overflow_cast-before c = omega (arith, first_short log_line IsLogAt up log_line_some 0 c.in-Ok.logs.items c.args.text.now c.in-Ok.rest.now c.in-Ok.ensures, c.len.ensures, c.requires)

pub overflow_add-before : goal.overflow_add-before
overflow_add-before c = omega (arith, first_short log_line IsLogAt up log_line_some 0 c.in-Ok.logs.items c.args.text.now c.in-Ok.rest.now c.in-Ok.ensures, c.len.ensures, c.requires)

pub unfinished-requires : goal.unfinished-requires
unfinished-requires c = omega (arith, first_short log_line IsLogAt up log_line_some 0 c.in-Ok.logs.items c.args.text.now c.in-Ok.rest.now c.in-Ok.ensures, c.len.ensures, c.requires)

pub returns-in_default-read_imcr_line-clause-fault : goal.returns-in_default-read_imcr_line-clause-fault
returns-in_default-read_imcr_line-clause-fault c =
    let lines : c.args.before + c.len.result ≡ c.args.before + length c.in-Ok.logs.items = omega (arith, c.len.ensures) in
    imcr_stop c.in-Ok.logs.items c.args.text.now c.in-Ok.rest.now c.args.before c.unfinished.result c.in-Ok.ensures c.in_default-read_imcr_line.ensures.none
    (subst (λ (k : ℕ). IsUnfinished k c.in-Ok.rest.now c.unfinished.result) lines c.unfinished.ensures)

pub overflow_add-before-2 : goal.overflow_add-before-2
overflow_add-before-2 c =
    omega (
      arith,
      first_short log_line IsLogAt up log_line_some 0 c.in-Ok.logs.items c.args.text.now c.in-Ok.rest.now c.in-Ok.ensures,
      imcr_short c.in-Some.imcr c.in-Ok.rest.now c.in-Some.rest.now c.in-Some.ensures.some,
      first_short cpu_line_at IsCpuFrom above cpu_line_some 0 c.in-Ok-read_cpus.cpus.items c.in-Some.rest.now c.in-Ok-read_cpus.rest.now c.in-Ok-read_cpus.ensures,
      first_short io_text IsIoAt up io_line_some 0 c.in-Ok-read_ios.ios.items c.in-Ok-read_cpus.rest.now c.in-Ok-read_ios.rest.now c.in-Ok-read_ios.ensures,
      c.len.ensures,
      c.requires,
    )

pub overflow_cast-len : goal.overflow_cast-len
overflow_cast-len c =
    omega (
      arith,
      first_short log_line IsLogAt up log_line_some 0 c.in-Ok.logs.items c.args.text.now c.in-Ok.rest.now c.in-Ok.ensures,
      imcr_short c.in-Some.imcr c.in-Ok.rest.now c.in-Some.rest.now c.in-Some.ensures.some,
      first_short cpu_line_at IsCpuFrom above cpu_line_some 0 c.in-Ok-read_cpus.cpus.items c.in-Some.rest.now c.in-Ok-read_cpus.rest.now c.in-Ok-read_cpus.ensures,
      first_short io_text IsIoAt up io_line_some 0 c.in-Ok-read_ios.ios.items c.in-Ok-read_cpus.rest.now c.in-Ok-read_ios.rest.now c.in-Ok-read_ios.ensures,
      c.len.ensures,
      c.len-2.ensures,
      c.requires,
    )

pub overflow_add-before-3 : goal.overflow_add-before-3
overflow_add-before-3 c =
    omega (
      arith,
      first_short log_line IsLogAt up log_line_some 0 c.in-Ok.logs.items c.args.text.now c.in-Ok.rest.now c.in-Ok.ensures,
      imcr_short c.in-Some.imcr c.in-Ok.rest.now c.in-Some.rest.now c.in-Some.ensures.some,
      first_short cpu_line_at IsCpuFrom above cpu_line_some 0 c.in-Ok-read_cpus.cpus.items c.in-Some.rest.now c.in-Ok-read_cpus.rest.now c.in-Ok-read_cpus.ensures,
      first_short io_text IsIoAt up io_line_some 0 c.in-Ok-read_ios.ios.items c.in-Ok-read_cpus.rest.now c.in-Ok-read_ios.rest.now c.in-Ok-read_ios.ensures,
      c.len.ensures,
      c.len-2.ensures,
      c.requires,
    )

pub overflow_cast-len-2 : goal.overflow_cast-len-2
overflow_cast-len-2 c =
    omega (
      arith,
      first_short log_line IsLogAt up log_line_some 0 c.in-Ok.logs.items c.args.text.now c.in-Ok.rest.now c.in-Ok.ensures,
      imcr_short c.in-Some.imcr c.in-Ok.rest.now c.in-Some.rest.now c.in-Some.ensures.some,
      first_short cpu_line_at IsCpuFrom above cpu_line_some 0 c.in-Ok-read_cpus.cpus.items c.in-Some.rest.now c.in-Ok-read_cpus.rest.now c.in-Ok-read_cpus.ensures,
      first_short io_text IsIoAt up io_line_some 0 c.in-Ok-read_ios.ios.items c.in-Ok-read_cpus.rest.now c.in-Ok-read_ios.rest.now c.in-Ok-read_ios.ensures,
      c.len.ensures,
      c.len-2.ensures,
      c.len-3.ensures,
      c.requires,
    )

pub overflow_add-before-4 : goal.overflow_add-before-4
overflow_add-before-4 c =
    omega (
      arith,
      first_short log_line IsLogAt up log_line_some 0 c.in-Ok.logs.items c.args.text.now c.in-Ok.rest.now c.in-Ok.ensures,
      imcr_short c.in-Some.imcr c.in-Ok.rest.now c.in-Some.rest.now c.in-Some.ensures.some,
      first_short cpu_line_at IsCpuFrom above cpu_line_some 0 c.in-Ok-read_cpus.cpus.items c.in-Some.rest.now c.in-Ok-read_cpus.rest.now c.in-Ok-read_cpus.ensures,
      first_short io_text IsIoAt up io_line_some 0 c.in-Ok-read_ios.ios.items c.in-Ok-read_cpus.rest.now c.in-Ok-read_ios.rest.now c.in-Ok-read_ios.ensures,
      c.len.ensures,
      c.len-2.ensures,
      c.len-3.ensures,
      c.requires,
    )

pub end_fault-requires : goal.end_fault-requires
end_fault-requires c =
    omega (
      arith,
      first_short log_line IsLogAt up log_line_some 0 c.in-Ok.logs.items c.args.text.now c.in-Ok.rest.now c.in-Ok.ensures,
      imcr_short c.in-Some.imcr c.in-Ok.rest.now c.in-Some.rest.now c.in-Some.ensures.some,
      first_short cpu_line_at IsCpuFrom above cpu_line_some 0 c.in-Ok-read_cpus.cpus.items c.in-Some.rest.now c.in-Ok-read_cpus.rest.now c.in-Ok-read_cpus.ensures,
      first_short io_text IsIoAt up io_line_some 0 c.in-Ok-read_ios.ios.items c.in-Ok-read_cpus.rest.now c.in-Ok-read_ios.rest.now c.in-Ok-read_ios.ensures,
      c.len.ensures,
      c.len-2.ensures,
      c.len-3.ensures,
      c.requires,
    )

pub returns-in-Some-end_fault-clause-fault : goal.returns-in-Some-end_fault-clause-fault
returns-in-Some-end_fault-clause-fault c =
    let ios = c.in-Ok-read_ios.ios.items in
    let lines : c.args.before + c.len.result + 1 + c.len-2.result + c.len-3.result ≡ c.args.before + length c.in-Ok.logs.items + 1 + length c.in-Ok-read_cpus.cpus.items + length c.in-Ok-read_ios.ios.items = omega (arith, c.len.ensures, c.len-2.ensures, c.len-3.ensures) in
    tail_fault c.in-Ok.logs.items c.in-Some.imcr c.in-Ok-read_cpus.cpus.items c.in-Ok-read_ios.ios.items c.args.text.now c.in-Ok.rest.now c.in-Some.rest.now c.in-Ok-read_cpus.rest.now c.in-Ok-read_ios.rest.now c.args.before c.in-Some-end_fault.fault
    c.in-Ok.ensures c.in-Some.ensures.some c.in-Ok-read_cpus.ensures c.in-Ok-read_ios.ensures
    (subst (λ (k : ℕ). IsFaultBehind (IsEnd (run_end up 0 ios)) k c.in-Ok-read_ios.rest.now c.in-Some-end_fault.fault) lines (c.in-Some-end_fault.ensures.some (run_end up 0 ios)))

pub returns-in-None-clause-whole : goal.returns-in-None-clause-whole
returns-in-None-clause-whole c =
    tail_whole c.in-Ok.logs.items c.in-Some.imcr c.in-Ok-read_cpus.cpus.items c.in-Ok-read_ios.ios.items c.args.text.now c.in-Ok.rest.now c.in-Some.rest.now c.in-Ok-read_cpus.rest.now c.in-Ok-read_ios.rest.now
    c.in-Ok.ensures c.in-Some.ensures.some c.in-Ok-read_cpus.ensures c.in-Ok-read_ios.ensures c.in-None.ensures.none
