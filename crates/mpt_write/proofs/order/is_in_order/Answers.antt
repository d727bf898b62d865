use Rattle.std.proofs.Common.{rules}
use Rattle.std.proofs.lemmas.List.Sorted.{answers_always}
use Rattle.mpt_spec.specs.Canonical.{base_type}
use Rattle.mpt_write.proofs.OrderLemmas.{answers_order}
use Rattle.mpt_write.proofs.order.is_in_order.Goals as goal

pub returns : goal.returns
returns c = answers_order c.args.entries.now c.is_sorted_by_key.result (c.is_sorted_by_key.ensures.cases base_type (answers_always _ _ _ (λ f a r g h. search rules)))
