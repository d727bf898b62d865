use Rattle.std.proofs.Common.{refl, arith}
use Rattle.std.proofs.lemmas.Option.{slice_get_read}
use Rattle.mpt_rules.specs.Entries.{IsHierarchyOf}
use Rattle.mpt_rules.proofs.PlaceLemmas.{first_noted, first_to}
use Rattle.mpt_rules.proofs.ext_index.hierarchies_of.Goals as goal

pub loop-i-preserved : goal.loop-i-preserved
loop-i-preserved c = λ q. first_noted (IsHierarchyOf q) c.args.entries.now c.loop-i.i c.index-entries-i.result _ _ (slice_get_read c.args.entries.now _ c.loop-i.i c.index-entries-i.result refl (omega arith) c.index-entries-i.is) (c.note_hierarchy.ensures q) (c.loop-i.invariant q)

pub returns : goal.returns
returns c = λ q. first_to (IsHierarchyOf q) c.args.entries.now c.loop-i.i _ _ (omega (arith, c.loop-i-test.false)) (c.loop-i.invariant q)
