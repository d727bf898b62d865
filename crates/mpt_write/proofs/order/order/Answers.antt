use Rattle.std.proofs.Common.{rules}
use Rattle.std.proofs.lemmas.List.Sorted.{answers_always}
use Rattle.mpt_spec.specs.Canonical.{base_type}
use Rattle.mpt_write.proofs.OrderLemmas.{order_is}
use Rattle.mpt_write.proofs.order.order.Goals as goal

pub returns-in-Ok : goal.returns-in-Ok
returns-in-Ok c =
    order_is c.args.entries.now.items c.sort_by_key.new.self.items (c.in-Ok.ensures.sorted base_type (answers_always _ _ _ (λ f a r g h. search rules))) (c.in-Ok.ensures.stable base_type (answers_always _ _ _ (λ f a r g h. search rules)))
