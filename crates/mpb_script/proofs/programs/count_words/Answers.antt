use Rattle.std.proofs.Common.{◌≡◌, length, map, ap, arith}
use Rattle.std.proofs.lemmas.List.{length-map, take_all}
use Rattle.toml.specs.View.{view}
use Rattle.mpb_script.specs.Steps.{word_count}
use Rattle.mpb_script.proofs.TableLemmas.{words_in, word_count-more}
use Rattle.mpb_script.proofs.programs.count_words.Goals as goal

pub loop-table-preserved : goal.loop-table-preserved
loop-table-preserved c =
    let more = word_count-more c.args.tables.now c.loop-table.table-index c.table-item.result c.loop-table-test.true c.table-item.is in
    let words : length (map view c.elements_at.result.now) ≡ words_in c.table-item.result = ap length c.elements_at.ensures in
    let same = length-map c.elements_at.result.now view in
    let so_far = c.loop-table.invariant in
    omega arith

pub returns : goal.returns
returns c =
    let all = ap (λ vs. word_count (map view vs)) (take_all c.loop-table.table-index c.args.tables.now c.loop-table-test.false) in
    let so_far = c.loop-table.invariant in
    omega arith
