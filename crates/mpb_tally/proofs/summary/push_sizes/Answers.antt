use Rattle.mpb_tally.proofs.CountLemmas.{three_lines}
use Rattle.mpb_tally.proofs.summary.push_sizes.Goals as goal

pub returns : goal.returns
returns c = three_lines c.push_line-3.result c.args.out.now.items c.push_line.new.out.items c.push_line-2.new.out.items c.push_line-3.new.out.items _ _ _ c.in_default.ensures c.in_default-push_line.ensures c.push_line-3.ensures
