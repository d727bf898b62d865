use Rattle.std.proofs.Common.{◌≤◌, List, [], length, take, sym, subst, arith}
use Rattle.std.proofs.lemmas.List.{take_more, take_all}
use Rattle.mpt_spec.specs.declared.entry.Base.{Base}
use Rattle.mpt_spec.specs.declared.entry.Base.TheVariants as base
use Rattle.mpt_route.specs.ByKind.{AreByKind}
use Rattle.mpt_route.proofs.by_kind.gather.Goals as goal

-- what the code's indexing names past the end
d : Base
d = base.Processor (record { apic = 0; version = 0; flags = 0; signature = 0; features = 0; reserved = [] })

pub loop-entry-preserved : goal.loop-entry-preserved
unfolding d
loop-entry-preserved c =
    let es = c.args.entries.now in
    let i = c.loop-entry.entry-index in
    subst (λ (xs : List Base). AreByKind xs c.gather_entry.new.kinds) (sym (take_more es i d (omega (arith, c.loop-entry-test.true)))) (c.in-Ok.ensures (take i es) c.loop-entry.invariant)

pub returns : goal.returns
returns c =
    let past : length c.args.entries.now ≤ c.loop-entry.entry-index = omega (arith, c.loop-entry-test.false) in
    subst (λ (xs : List Base). AreByKind xs c.loop-entry.kinds) (take_all c.loop-entry.entry-index c.args.entries.now past) c.loop-entry.invariant
