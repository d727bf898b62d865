-- A broken rule names one other place.
use Rattle.std.proofs.Common.{◌≡◌, ℕ, List, sym, subst, ◌∙◌, arith}
use Rattle.std.specs.Prelude.{Some, slice_get}
use Rattle.mpt_spec.specs.declared.entry.Base.{Base}
use Rattle.mpt_spec.specs.declared.entry.Ext.{Ext}
use Rattle.mpt_spec.specs.declared.pointer.Pointer.{Pointer}
use Rattle.mpt_spec.specs.declared.tables.Table.{Table}
use Rattle.mpt_rules.specs.declared.rule.BaseRule.{BaseRule}
use Rattle.mpt_rules.specs.declared.rule.BaseRule.TheVariants as on_base
use Rattle.mpt_rules.specs.declared.rule.ExtRule.{ExtRule}
use Rattle.mpt_rules.specs.declared.rule.ExtRule.TheVariants as on_ext
use Rattle.mpt_rules.specs.declared.rule.Rule.{Rule}
use Rattle.mpt_rules.specs.declared.rule.Rule.TheVariants as rule
use Rattle.mpt_rules.specs.Places.{IsFirstBefore, nowhere}
use Rattle.mpt_rules.specs.Entries.{HasBootFlag, SharesProcessorId, SharesIoApicId, SharesIdWithProcessor, HasSameSource, DiffersInSense, MeetsRange}
use Rattle.mpt_rules.specs.Rules.{BreaksBaseRule, BreaksExtRule, BreaksRule}
use Rattle.mpt_rules.proofs.PlaceLemmas.{first_one}

both : (j k : ℕ) → j ≡ nowhere → k ≡ nowhere → j ≡ k
both j k a b = a ∙ sym b

earlier : {E : Type 0} (P : E → Type 0) (es : List E) (i j k : ℕ) → IsFirstBefore P es i j → IsFirstBefore P es i k → j ≡ k
earlier P es i j k a b = first_one P es j k a.place b.place

pub base_one : (es : List Base) (r : BaseRule) (e : Base) (i j k : ℕ) → BreaksBaseRule es r e i j → BreaksBaseRule es r e i k → j ≡ k
base_one es on_base.SecondBootFlag e i j k a b = earlier HasBootFlag es i j k a.1 b.1
base_one es on_base.DisabledBoot e i j k a b = both j k a.1 b.1
base_one es on_base.DuplicateProcessorId e i j k a b = earlier (SharesProcessorId e) es i j k a b
base_one es on_base.DuplicateIoApicId e i j k a b = earlier (SharesIoApicId e) es i j k a b
base_one es on_base.SharedId e i j k a b = first_one (SharesIdWithProcessor e) es j k a b
base_one es on_base.BusOutOfOrder e i j k a b = both j k a.1 b.1
base_one es on_base.UnknownBusName e i j k a b = both j k a.1 b.1
base_one es on_base.TypeBelow e i j k a b = omega (arith, a.0, b.0)
base_one es on_base.UnknownBus e i j k a b = both j k a.1 b.1
base_one es on_base.UnknownDestination e i j k a b = both j k a.1 b.1
base_one es on_base.PinOutOfRange e i j k a b = both j k a.1 b.1
base_one es on_base.ReservedBits e i j k a b = both j k a.1 b.1
base_one es on_base.ReservedValue e i j k a b = both j k a.1 b.1
base_one es on_base.DuplicateSource e i j k a b = earlier (HasSameSource e) es i j k a b
base_one es on_base.OtherSense e i j k a b = earlier (DiffersInSense e) es i j k a b

pub ext_one : (bases : List Base) (es : List Ext) (r : ExtRule) (e : Ext) (i j k : ℕ) → BreaksExtRule bases es r e i j → BreaksExtRule bases es r e i k → j ≡ k
ext_one bases es on_ext.ReservedExt e i j k a b = both j k a.1 b.1
ext_one bases es on_ext.RangePastTop e i j k a b = both j k a.1 b.1
ext_one bases es on_ext.MeetingRange e i j k a b = earlier (MeetsRange e) es i j k a b
ext_one bases es on_ext.UnknownExtBus e i j k a b = both j k a.1 b.1
ext_one bases es on_ext.BusLoop e i j k a b = both j k a.1 b.1

same_some : {E : Type 0} (xs : List E) (i : ℕ) (x y : E) → slice_get xs i ≡ Some x → slice_get xs i ≡ Some y → y ≡ x
same_some xs i x y a b = let e : Some y ≡ Some x = sym b ∙ a in cc

pub other_one : (p : Pointer) (t : Table) (r : Rule) (i j k : ℕ) → BreaksRule p t r i j → BreaksRule p t r i k → j ≡ k
other_one p t (rule.Table r) i j k a b = both j k a.2 b.2
other_one p t (rule.Base r) i j k (e, x, a) (f, y, b) = base_one t.base r e i j k a (subst (λ (g : Base). BreaksBaseRule t.base r g i k) (same_some t.base i e f x y) b)
other_one p t (rule.Ext r) i j k (e, x, a) (f, y, b) = ext_one t.base t.ext r e i j k a (subst (λ (g : Ext). BreaksExtRule t.base t.ext r g i k) (same_some t.ext i e f x y) b)
