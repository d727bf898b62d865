use Rattle.std.proofs.Common.{◌+◌, ◌≤◌, min, ap, ◌∙◌, inr, arith}
use Rattle.toml.specs.View.{view}
use Rattle.mpb_script.specs.Words.{cpu_tables, device_tables}
use Rattle.mpb_script.specs.Steps.{word_count}
use Rattle.mpb_script.proofs.FaultLemmas.{fault-key, fault-many, fault-words, wrong-words, few_devices, count_both}
use Rattle.mpb_script.proofs.reading.read.Goals as goal

pub returns-in-Some : goal.returns-in-Some
returns-in-Some c = inr (fault-key (view c.args.document.now) c.in-Some.name c.in-Some.ensures)

pub returns-then-n-gt-MOST_WORDS : goal.returns-then-n-gt-MOST_WORDS
returns-then-n-gt-MOST_WORDS c =
    let d = view c.args.document.now in
    let a = c.count_words-of_cpus.ensures ∙ ap (λ ts. min (word_count ts) 4294967295) c.elements_at.ensures in
    let b = c.count_words-of_devices.ensures ∙ ap (λ ts. min (word_count ts) 4294967295) c.elements_at-2.ensures in
    let all = count_both (word_count (cpu_tables d)) (word_count (device_tables d)) c.count_words-of_cpus.result c.count_words-of_devices.result c.saturating_add-n.result a b c.saturating_add-n.ensures in
    inr (fault-many d c.saturating_add-n.result c.in_default.ensures all c.if-n-gt-MOST_WORDS.true)

pub script-requires-clause-few : goal.script-requires-clause-few
script-requires-clause-few c = few_devices (view c.args.document.now) c.in_default.ensures

pub returns-in-Ok : goal.returns-in-Ok
returns-in-Ok c =
    let d = view c.args.document.now in
    let a = c.count_words-of_cpus.ensures ∙ ap (λ ts. min (word_count ts) 4294967295) c.elements_at.ensures in
    let b = c.count_words-of_devices.ensures ∙ ap (λ ts. min (word_count ts) 4294967295) c.elements_at-2.ensures in
    let few : word_count (cpu_tables d) + word_count (device_tables d) ≤ 8192 = omega arith in
    (c.in-Ok.ensures.0, fault-words d c.in_default.ensures few ∙ c.in-Ok.ensures.1)

pub returns-in-Err : goal.returns-in-Err
returns-in-Err c =
    let d = view c.args.document.now in
    let a = c.count_words-of_cpus.ensures ∙ ap (λ ts. min (word_count ts) 4294967295) c.elements_at.ensures in
    let b = c.count_words-of_devices.ensures ∙ ap (λ ts. min (word_count ts) 4294967295) c.elements_at-2.ensures in
    let few : word_count (cpu_tables d) + word_count (device_tables d) ≤ 8192 = omega arith in
    wrong-words d c.in-Err.fault c.in_default.ensures few c.in-Err.ensures
