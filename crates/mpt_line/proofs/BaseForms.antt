-- The lines of base entries are read exactly.
use Rattle.std.proofs.Common.{◌≡◌, ℕ, List, ◌++◌, refl, sym, ap, subst, inl, inr, ◌⊎◌}
use Rattle.std.specs.Prelude.{None, codes}
use Rattle.mpt_spec.specs.declared.entry.Processor.{Processor}
use Rattle.mpt_spec.specs.declared.entry.Bus.{Bus}
use Rattle.mpt_spec.specs.declared.entry.IoApic.{IoApic}
use Rattle.mpt_spec.specs.declared.entry.IntEntry.{IntEntry}
use Rattle.mpt_spec.specs.declared.entry.Base.{Base}
use Rattle.mpt_spec.specs.declared.entry.Base.TheVariants as base
use Rattle.mpt_listing.specs.Listing.{base_line, interrupt_line}
use Rattle.mpt_spec.specs.Values.{IsProcessorValue, IsBusValue, IsIoApicValue, IsInterruptValue, IsBaseValue}
use Rattle.mpt_line.specs.Reading.{text_in, field_in, seen_as}
use Rattle.mpt_line.specs.Forms.{processor_in, bus_in, io_apic_in, interrupt_in, base_in}
use Rattle.mpt_line.proofs.Exact.{IsExact, after-exact, both-exact, ended-exact, seen_as-exact, tagged-exact, value-exact, either-exact}
use Rattle.mpt_line.proofs.Digits.{field-exact, bytes_field-exact, quoted_field-exact}
use Rattle.mpt_line.proofs.ByteValues.{to_bytes, from_bytes}

pub processor-exact : IsExact (λ (e : Processor). base_line (base.Processor e)) IsProcessorValue processor_in
unfolding processor_in
processor-exact =
    value-exact
    (seen_as-exact
    (both-exact (field-exact (codes "processor id ") 2) (both-exact (field-exact (codes " version ") 2) (both-exact (field-exact (codes " flags ") 2)
    (both-exact (field-exact (codes " signature ") 8) (both-exact (field-exact (codes " features ") 8) (ended-exact (bytes_field-exact (codes " reserved ") 8)))))))
    (λ v. record { apic = v.0; version = v.1.0; flags = v.1.1.0; signature = v.1.1.1.0; features = v.1.1.1.1.0; reserved = v.1.1.1.1.1 })
    (λ e. (e.apic, (e.version, (e.flags, (e.signature, (e.features, e.reserved)))))) (λ _. refl) (λ _. refl))
    IsProcessorValue
    (λ e v. record { apic = v.0; version = v.1.0; flags = v.1.1.0; signature = v.1.1.1.0; features = v.1.1.1.1.0; reserved = to_bytes e.reserved 8 v.1.1.1.1.1 })
    (λ e v. (v.apic, (v.version, (v.flags, (v.signature, (v.features, from_bytes e.reserved 8 v.reserved))))))

pub bus-exact : IsExact (λ (e : Bus). base_line (base.Bus e)) IsBusValue bus_in
unfolding bus_in
bus-exact =
    value-exact
    (seen_as-exact (both-exact (field-exact (codes "bus id ") 2) (ended-exact (quoted_field-exact (codes " name ") 6)))
    (λ v. record { id = v.0; name = v.1 }) (λ e. (e.id, e.name)) (λ _. refl) (λ _. refl))
    IsBusValue
    (λ e v. record { id = v.0; name = to_bytes e.name 6 v.1 })
    (λ e v. (v.id, from_bytes e.name 6 v.name))

pub io_apic-exact : IsExact (λ (e : IoApic). base_line (base.IoApic e)) IsIoApicValue io_apic_in
unfolding io_apic_in
io_apic-exact =
    value-exact
    (seen_as-exact (both-exact (field-exact (codes "ioapic id ") 2) (both-exact (field-exact (codes " version ") 2) (both-exact (field-exact (codes " flags ") 2) (ended-exact (field-exact (codes " address ") 8)))))
    (λ v. record { id = v.0; version = v.1.0; flags = v.1.1.0; address = v.1.1.1 }) (λ e. (e.id, (e.version, (e.flags, e.address)))) (λ _. refl) (λ _. refl))
    IsIoApicValue
    (λ e v. record { id = v.0; version = v.1.0; flags = v.1.1.0; address = v.1.1.1 })
    (λ e v. (v.id, (v.version, (v.flags, v.address))))

pub interrupt-exact : (word : List ℕ) → IsExact (λ (e : IntEntry). interrupt_line word e) IsInterruptValue (interrupt_in word)
unfolding interrupt_in
interrupt-exact word =
    value-exact
    (seen_as-exact (after-exact (both-exact (field-exact (codes " kind ") 2) (both-exact (field-exact (codes " flags ") 4) (both-exact (field-exact (codes " bus ") 2)
    (both-exact (field-exact (codes " irq ") 2) (both-exact (field-exact (codes " dest ") 2) (ended-exact (field-exact (codes " pin ") 2))))))) word)
    (λ v. record { kind = v.0; flags = v.1.0; bus = v.1.1.0; irq = v.1.1.1.0; dest = v.1.1.1.1.0; pin = v.1.1.1.1.1 })
    (λ e. (e.kind, (e.flags, (e.bus, (e.irq, (e.dest, e.pin)))))) (λ _. refl) (λ _. refl))
    IsInterruptValue
    (λ e v. record { kind = v.0; flags = v.1.0; bus = v.1.1.0; irq = v.1.1.1.0; dest = v.1.1.1.1.0; pin = v.1.1.1.1.1 })
    (λ e v. (v.kind, (v.flags, (v.bus, (v.irq, (v.dest, v.pin))))))

-- a base entry of one kind
abbrev Of : {A : Type 0} → (A → Base) → (A → Type 0) → Base → Type 0
Of {A} tag V b = (e : A) × (b ≡ tag e) × V e

abbrev LocalCase : Base → Type 0
LocalCase = Of base.LocalInt IsInterruptValue

abbrev IoCase : Base → Type 0
IoCase b = Of base.IoInt IsInterruptValue b ⊎ LocalCase b

abbrev ApicCase : Base → Type 0
ApicCase b = Of base.IoApic IsIoApicValue b ⊎ IoCase b

abbrev BusCase : Base → Type 0
BusCase b = Of base.Bus IsBusValue b ⊎ ApicCase b

abbrev AnyCase : Base → Type 0
AnyCase b = Of base.Processor IsProcessorValue b ⊎ BusCase b

to_value : (b : Base) → AnyCase b → IsBaseValue b
to_value b (inl (e, h, v)) = subst IsBaseValue (sym h) v
to_value b (inr (inl (e, h, v))) = subst IsBaseValue (sym h) v
to_value b (inr (inr (inl (e, h, v)))) = subst IsBaseValue (sym h) v
to_value b (inr (inr (inr (inl (e, h, v))))) = subst IsBaseValue (sym h) v
to_value b (inr (inr (inr (inr (e, h, v))))) = subst IsBaseValue (sym h) v

of_value : (b : Base) → IsBaseValue b → AnyCase b
of_value (base.Processor e) v = inl (e, refl, v)
of_value (base.Bus e) v = inr (inl (e, refl, v))
of_value (base.IoApic e) v = inr (inr (inl (e, refl, v)))
of_value (base.IoInt e) v = inr (inr (inr (inl (e, refl, v))))
of_value (base.LocalInt e) v = inr (inr (inr (inr (e, refl, v))))

-- a reader refuses the lines of the kinds behind its own
no_io_int : (b : Base) (rest : List ℕ) → LocalCase b → seen_as base.IoInt (interrupt_in (codes "ioint")) (base_line b ++ rest) ≡ None
unfolding interrupt_in text_in
no_io_int b rest (e, h, v) = ap (λ (x : Base). seen_as base.IoInt (interrupt_in (codes "ioint")) (base_line x ++ rest)) h

no_io_apic : (b : Base) (rest : List ℕ) → IoCase b → seen_as base.IoApic io_apic_in (base_line b ++ rest) ≡ None
unfolding io_apic_in field_in text_in
no_io_apic b rest (inl (e, h, v)) = ap (λ (x : Base). seen_as base.IoApic io_apic_in (base_line x ++ rest)) h
no_io_apic b rest (inr (e, h, v)) = ap (λ (x : Base). seen_as base.IoApic io_apic_in (base_line x ++ rest)) h

no_bus : (b : Base) (rest : List ℕ) → ApicCase b → seen_as base.Bus bus_in (base_line b ++ rest) ≡ None
unfolding bus_in field_in text_in
no_bus b rest (inl (e, h, v)) = ap (λ (x : Base). seen_as base.Bus bus_in (base_line x ++ rest)) h
no_bus b rest (inr (inl (e, h, v))) = ap (λ (x : Base). seen_as base.Bus bus_in (base_line x ++ rest)) h
no_bus b rest (inr (inr (e, h, v))) = ap (λ (x : Base). seen_as base.Bus bus_in (base_line x ++ rest)) h

no_processor : (b : Base) (rest : List ℕ) → BusCase b → seen_as base.Processor processor_in (base_line b ++ rest) ≡ None
unfolding processor_in field_in text_in
no_processor b rest (inl (e, h, v)) = ap (λ (x : Base). seen_as base.Processor processor_in (base_line x ++ rest)) h
no_processor b rest (inr (inl (e, h, v))) = ap (λ (x : Base). seen_as base.Processor processor_in (base_line x ++ rest)) h
no_processor b rest (inr (inr (inl (e, h, v)))) = ap (λ (x : Base). seen_as base.Processor processor_in (base_line x ++ rest)) h
no_processor b rest (inr (inr (inr (e, h, v)))) = ap (λ (x : Base). seen_as base.Processor processor_in (base_line x ++ rest)) h

pub base-exact : IsExact base_line IsBaseValue base_in
unfolding base_in
base-exact =
    value-exact
    (either-exact (tagged-exact processor-exact base_line base.Processor (λ _. refl))
    (either-exact (tagged-exact bus-exact base_line base.Bus (λ _. refl))
    (either-exact (tagged-exact io_apic-exact base_line base.IoApic (λ _. refl))
    (either-exact (tagged-exact (interrupt-exact (codes "ioint")) base_line base.IoInt (λ _. refl))
    (tagged-exact (interrupt-exact (codes "localint")) base_line base.LocalInt (λ _. refl))
    no_io_int)
    no_io_apic)
    no_bus)
    no_processor)
    IsBaseValue to_value of_value
