use Rattle.std.proofs.Common.{◌≡◌, ℕ, List, length, subst, sym}
use Rattle.mpt_base.specs.Bytes.{part}
use Rattle.mpt_write.proofs.OwnLemmas.{IsBodyOf-spelled}
use Rattle.mpt_write.proofs.block.write_block.Goals as goal

pub returns-clause-own : goal.returns-clause-own
returns-clause-own c image bytes described =
    let t = c.args.tables.now in
    subst (λ (xs : List ℕ). part image t.pointer.address (length xs) ≡ xs) (sym c.in-Ok.ensures.bytes) (IsBodyOf-spelled t.body t.pointer image bytes described.tables_there.body)
