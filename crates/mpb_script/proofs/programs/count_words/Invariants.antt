use Rattle.std.proofs.Common.{◌≡◌, map, take, min}
use Rattle.toml.specs.View.{view}
use Rattle.mpb_script.specs.Steps.{word_count}
use Rattle.mpb_script.proofs.programs.count_words.Given as goal

abbrev pub invariant-loop-table : goal.invariant-loop-table
invariant-loop-table l = l.count ≡ min (word_count (map view (take l.table-index l.tables))) 4294967295
