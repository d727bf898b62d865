use Rattle.std.proofs.Common.{◌+◌, suc, ◌∙◌, arith}
use Rattle.std.proofs.lemmas.List.{get_or_default}
use Rattle.mpb_run.proofs.ListLemmas.{set_changes}
use Rattle.mpb_run.proofs.lists.one_more.Goals as goal

pub returns : goal.returns
returns c =
    let xs = c.args.made.now.items in
    let n = c.args.device in
    let y = c.index_mut.result.now in
    set_changes (λ x. suc x) n xs (y + 1) 0 c.requires.there
    (let e = c.index_mut.ensures.value ∙ get_or_default xs n y 0 c.requires.there in omega arith)
