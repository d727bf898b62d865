-- The lines of extended entries are read exactly.
use Rattle.std.proofs.Common.{◌≡◌, ℕ, ◌^◌, ◌<◌, ◌≤◌, true, List, ◌++◌, refl, sym, ap, subst, inl, inr, ◌⊎◌, arith}
use Rattle.std.specs.Prelude.{None, codes, nat_le}
use Rattle.std.proofs.lemmas.Bool.Decides.{nat_tests}
use Rattle.mpt_spec.specs.declared.entry.Space.{Space}
use Rattle.mpt_spec.specs.declared.entry.Hierarchy.{Hierarchy}
use Rattle.mpt_spec.specs.declared.entry.Modifier.{Modifier}
use Rattle.mpt_spec.specs.declared.entry.Opaque.{Opaque}
use Rattle.mpt_spec.specs.declared.entry.Ext.{Ext}
use Rattle.mpt_spec.specs.declared.entry.Ext.TheVariants as ext
use Rattle.mpt_listing.specs.Listing.{ext_line}
use Rattle.mpt_spec.specs.Values.{IsSpaceValue, IsHierarchyValue, IsModifierValue}
use Rattle.mpt_line.specs.Reading.{text_in, field_in, seen_as}
use Rattle.mpt_line.specs.Forms.{space_in, hierarchy_in, modifier_in, opaque_in, ext_in, is_right_opaque}
use Rattle.mpt_line.specs.Lines.{IsRightExt}
use Rattle.mpt_line.proofs.Exact.{IsExact, after-exact, both-exact, ended-exact, seen_as-exact, checked-exact, tagged-exact, value-exact, either-exact}
use Rattle.mpt_line.proofs.Digits.{field-exact, bytes_field-exact}
use Rattle.mpt_line.proofs.RestForms.{rest-exact}
use Rattle.mpt_line.proofs.ByteValues.{to_bytes, from_bytes, all_at, at_all}

pub space-exact : IsExact (λ (e : Space). ext_line (ext.Space e)) IsSpaceValue space_in
unfolding space_in
space-exact =
    value-exact
    (seen_as-exact (both-exact (field-exact (codes "space bus ") 2) (both-exact (field-exact (codes " kind ") 2) (both-exact (field-exact (codes " base ") 16) (ended-exact (field-exact (codes " length ") 16)))))
    (λ v. record { bus = v.0; kind = v.1.0; base = v.1.1.0; length = v.1.1.1 }) (λ e. (e.bus, (e.kind, (e.base, e.length)))) (λ _. refl) (λ _. refl))
    IsSpaceValue
    (λ e v. record { bus = v.0; kind = v.1.0; base = v.1.1.0; range = v.1.1.1 })
    (λ e v. (v.bus, (v.kind, (v.base, v.range))))

pub hierarchy-exact : IsExact (λ (e : Hierarchy). ext_line (ext.Hierarchy e)) IsHierarchyValue hierarchy_in
unfolding hierarchy_in
hierarchy-exact =
    value-exact
    (seen_as-exact (both-exact (field-exact (codes "hierarchy bus ") 2) (both-exact (field-exact (codes " info ") 2) (both-exact (field-exact (codes " parent ") 2) (ended-exact (bytes_field-exact (codes " reserved ") 3)))))
    (λ v. record { bus = v.0; info = v.1.0; parent = v.1.1.0; reserved = v.1.1.1 }) (λ e. (e.bus, (e.info, (e.parent, e.reserved)))) (λ _. refl) (λ _. refl))
    IsHierarchyValue
    (λ e v. record { bus = v.0; info = v.1.0; parent = v.1.1.0; reserved = to_bytes e.reserved 3 v.1.1.1 })
    (λ e v. (v.bus, (v.info, (v.parent, from_bytes e.reserved 3 v.reserved))))

pub modifier-exact : IsExact (λ (e : Modifier). ext_line (ext.Modifier e)) IsModifierValue modifier_in
unfolding modifier_in
modifier-exact =
    value-exact
    (seen_as-exact (both-exact (field-exact (codes "modifier bus ") 2) (both-exact (field-exact (codes " flags ") 2) (ended-exact (field-exact (codes " ranges ") 8))))
    (λ v. record { bus = v.0; flags = v.1.0; ranges = v.1.1 }) (λ e. (e.bus, (e.flags, e.ranges))) (λ _. refl) (λ _. refl))
    IsModifierValue
    (λ e v. record { bus = v.0; flags = v.1.0; ranges = v.1.1 })
    (λ e v. (v.bus, (v.flags, v.ranges)))

pub opaque-exact : IsExact (λ (e : Opaque). ext_line (ext.Opaque e)) (λ e. IsRightExt (ext.Opaque e)) opaque_in
unfolding opaque_in
opaque-exact =
    value-exact
    (checked-exact
    (seen_as-exact (both-exact (field-exact (codes "opaque kind ") 2) (after-exact rest-exact (codes " rest ")))
    (λ v. record { kind = v.0; rest = v.1 }) (λ e. (e.kind, e.rest)) (λ _. refl) (λ _. refl))
    is_right_opaque)
    (λ e. IsRightExt (ext.Opaque e))
    (λ e v. (record { kind = v.0.0; rest = all_at e.rest v.0.1.1 }, (above e.kind v.1, below e.kind v.0.0, v.0.1.0)))
    (λ e v. ((v.0.kind, (v.1.2, at_all e.rest v.0.rest)), right e.kind v.1.0))
  where
    above : (k : ℕ) → nat_le 131 k ≡ true → 131 ≤ k
    above k h = grind (arith, nat_tests)

    below : (k : ℕ) → k < 16 ^ 2 → k ≤ 255
    below k h = omega arith

    right : (k : ℕ) → 131 ≤ k → nat_le 131 k ≡ true
    right k h = grind (arith, nat_tests)

-- an extended entry of one kind
abbrev Of : {A : Type 0} → (A → Ext) → (A → Type 0) → Ext → Type 0
Of {A} tag V b = (e : A) × (b ≡ tag e) × V e

abbrev OpaqueCase : Ext → Type 0
OpaqueCase = Of ext.Opaque (λ e. IsRightExt (ext.Opaque e))

abbrev ModifierCase : Ext → Type 0
ModifierCase b = Of ext.Modifier IsModifierValue b ⊎ OpaqueCase b

abbrev HierarchyCase : Ext → Type 0
HierarchyCase b = Of ext.Hierarchy IsHierarchyValue b ⊎ ModifierCase b

abbrev AnyCase : Ext → Type 0
AnyCase b = Of ext.Space IsSpaceValue b ⊎ HierarchyCase b

to_value : (b : Ext) → AnyCase b → IsRightExt b
to_value b (inl (e, h, v)) = subst IsRightExt (sym h) (v, tt)
to_value b (inr (inl (e, h, v))) = subst IsRightExt (sym h) (v, tt)
to_value b (inr (inr (inl (e, h, v)))) = subst IsRightExt (sym h) (v, tt)
to_value b (inr (inr (inr (e, h, v)))) = subst IsRightExt (sym h) v

of_value : (b : Ext) → IsRightExt b → AnyCase b
of_value (ext.Space e) v = inl (e, refl, v.0)
of_value (ext.Hierarchy e) v = inr (inl (e, refl, v.0))
of_value (ext.Modifier e) v = inr (inr (inl (e, refl, v.0)))
of_value (ext.Opaque e) v = inr (inr (inr (e, refl, v)))

-- a reader refuses the lines of the kinds behind its own
no_modifier : (b : Ext) (rest : List ℕ) → OpaqueCase b → seen_as ext.Modifier modifier_in (ext_line b ++ rest) ≡ None
unfolding modifier_in field_in text_in
no_modifier b rest (e, h, v) = ap (λ (x : Ext). seen_as ext.Modifier modifier_in (ext_line x ++ rest)) h

no_hierarchy : (b : Ext) (rest : List ℕ) → ModifierCase b → seen_as ext.Hierarchy hierarchy_in (ext_line b ++ rest) ≡ None
unfolding hierarchy_in field_in text_in
no_hierarchy b rest (inl (e, h, v)) = ap (λ (x : Ext). seen_as ext.Hierarchy hierarchy_in (ext_line x ++ rest)) h
no_hierarchy b rest (inr (e, h, v)) = ap (λ (x : Ext). seen_as ext.Hierarchy hierarchy_in (ext_line x ++ rest)) h

no_space : (b : Ext) (rest : List ℕ) → HierarchyCase b → seen_as ext.Space space_in (ext_line b ++ rest) ≡ None
unfolding space_in field_in text_in
no_space b rest (inl (e, h, v)) = ap (λ (x : Ext). seen_as ext.Space space_in (ext_line x ++ rest)) h
no_space b rest (inr (inl (e, h, v))) = ap (λ (x : Ext). seen_as ext.Space space_in (ext_line x ++ rest)) h
no_space b rest (inr (inr (e, h, v))) = ap (λ (x : Ext). seen_as ext.Space space_in (ext_line x ++ rest)) h

pub ext-exact : IsExact ext_line IsRightExt ext_in
unfolding ext_in
ext-exact =
    value-exact
    (either-exact (tagged-exact space-exact ext_line ext.Space (λ _. refl))
    (either-exact (tagged-exact hierarchy-exact ext_line ext.Hierarchy (λ _. refl))
    (either-exact (tagged-exact modifier-exact ext_line ext.Modifier (λ _. refl))
    (tagged-exact opaque-exact ext_line ext.Opaque (λ _. refl))
    no_modifier)
    no_hierarchy)
    no_space)
    IsRightExt to_value of_value
