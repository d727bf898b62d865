use Rattle.std.proofs.Common.{◌∙◌, ap, arith}
use Rattle.mpb_words.specs.Words.{cpu_name_of}
use Rattle.mpb_words.proofs.NameLemmas.{no_cpu_name, three_bytes, four_bytes, five_bytes, six_bytes}
use Rattle.mpb_words.proofs.names.cpu_name.Goals as goal

pub returns-in-len3 : goal.returns-in-len3
returns-in-len3 c = c.cpu_name_of_three.ensures ∙ ap cpu_name_of (three_bytes c.as_bytes.result.now c.in-len3.len_at_least c.in-len3.len_below ∙ c.as_bytes.ensures.value)

pub returns-in-len4 : goal.returns-in-len4
returns-in-len4 c = c.cpu_name_of_four.ensures ∙ ap cpu_name_of (four_bytes c.as_bytes.result.now c.in-len4.len_at_least c.in-len4.len_below ∙ c.as_bytes.ensures.value)

pub returns-in-len5 : goal.returns-in-len5
returns-in-len5 c = c.cpu_name_of_five.ensures ∙ ap cpu_name_of (five_bytes c.as_bytes.result.now c.in-len5.len_at_least c.in-len5.len_below ∙ c.as_bytes.ensures.value)

pub returns-in-len6 : goal.returns-in-len6
returns-in-len6 c = c.cpu_name_of_six.ensures ∙ ap cpu_name_of (six_bytes c.as_bytes.result.now c.in-len6.len_at_least c.in-len6.len_below ∙ c.as_bytes.ensures.value)

pub returns-in_default : goal.returns-in_default
returns-in_default c =
    let short = c.in_default.len_below in
    no_cpu_name c.as_bytes.result.now (λ e. omega arith) (λ e. omega arith) (λ e. omega arith) (λ e. omega arith) ∙ ap cpu_name_of c.as_bytes.ensures.value

pub returns-in_default-2 : goal.returns-in_default-2
returns-in_default-2 c =
    let long = c.in_default.len_at_least in
    no_cpu_name c.as_bytes.result.now (λ e. omega arith) (λ e. omega arith) (λ e. omega arith) (λ e. omega arith) ∙ ap cpu_name_of c.as_bytes.ensures.value
