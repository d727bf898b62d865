-- No op changes where a processor is in its program.
use Rattle.std.proofs.Common.{◌≡◌, ◌==◌, ℕ, Bool, true, false, cond, List, [], ◌∷◌, refl, sym, Option, Some, map, subst}
use Rattle.mpb_spec.specs.declared.agent.Op.{Op}
use Rattle.mpb_spec.specs.declared.agent.Op.TheVariants as op
use Rattle.mpb_spec.specs.declared.apic.Delivery.{Delivery}
use Rattle.mpb_spec.specs.declared.apic.Delivery.TheVariants as sends
use Rattle.mpb_spec.specs.LocalApic.{LocalApic, taken, after_end}
use Rattle.mpb_spec.specs.State.{Processor, BoardState, runs, processor_of, change_processor, op_at}
use Rattle.mpb_spec.specs.Delivery.{delivered_to, received, is_target, to_id, to_logical}
use Rattle.mpb_spec.specs.Steps.{effect_of_cpu, with_apic}

-- the same id, and the same op next
pub record IsAlike (p q : Processor) : Type 0 where
  pub id : q.id ≡ p.id
  pub program : q.program ≡ p.program
  pub position : q.position ≡ p.position

same_op : (p q : Processor) → IsAlike p q → op_at (Some q) ≡ op_at (Some p)
same_op p q a = rw (a.program, a.position) refl

itself : (p : Processor) → IsAlike p p
itself p = record { id = refl; program = refl; position = refl }

mapped : (id : ℕ) (k : Processor → Processor) (ps : List Processor) → ((p : Processor) → IsAlike p (k p)) → op_at (processor_of id (map k ps)) ≡ op_at (processor_of id ps)
mapped id k [] alike = refl
mapped id k (p ∷ ps) alike =
    let rest = mapped id k ps alike in
    subst (λ (i : ℕ). op_at (cond {A = Option Processor} (i == id) (Some (k p)) (processor_of id (map k ps))) ≡ op_at (processor_of id (p ∷ ps))) (sym (alike p).id) (elim (p.id == id) as (λ b. op_at (cond b (Some (k p)) (processor_of id (map k ps))) ≡ op_at (cond b (Some p) (processor_of id ps))) [ true ↦ same_op p (k p) (alike p) | false ↦ rest ])

changed : (id at : ℕ) (k : Processor → Processor) (ps : List Processor) → ((p : Processor) → IsAlike p (k p)) → op_at (processor_of id (change_processor at k ps)) ≡ op_at (processor_of id ps)
changed id at k [] alike = refl
changed id at k (p ∷ ps) alike = go (p.id == at) (changed id at k ps alike) where
  one : (b : Bool) → op_at (cond b (Some (k p)) (processor_of id ps)) ≡ op_at (cond b (Some p) (processor_of id ps))
  one true = same_op p (k p) (alike p)
  one false = refl

  later : (b : Bool) → op_at (processor_of id (change_processor at k ps)) ≡ op_at (processor_of id ps) → op_at (cond b (Some p) (processor_of id (change_processor at k ps))) ≡ op_at (cond b (Some p) (processor_of id ps))
  later true h = refl
  later false h = h

  go : (b : Bool) → op_at (processor_of id (change_processor at k ps)) ≡ op_at (processor_of id ps) → op_at (processor_of id (cond b (k p ∷ ps) (p ∷ change_processor at k ps))) ≡ op_at (processor_of id (p ∷ ps))
  go true h = subst (λ (i : ℕ). op_at (cond {A = Option Processor} (i == id) (Some (k p)) (processor_of id ps)) ≡ op_at (processor_of id (p ∷ ps))) (sym (alike p).id) (one (p.id == id))
  go false h = later (p.id == id) h

received-alike : (warm : Option ℕ) (d : Delivery) (p : Processor) → IsAlike p (received warm d p)
received-alike warm (sends.Fixed v level) p = elim (runs p.life) as (λ b. IsAlike p (cond b (record p { apic = Rattle.mpb_spec.specs.LocalApic.accepted v level p.apic }) p)) [ true ↦ record { id = refl; program = refl; position = refl } | false ↦ itself p ]
received-alike warm sends.Nmi p = itself p
received-alike warm sends.Pass p = itself p
received-alike warm sends.Init p = record { id = refl; program = refl; position = refl }
received-alike warm (sends.Startup page) p = record { id = refl; program = refl; position = refl }

delivered-alike : (warm : Option ℕ) (test : Processor → Bool) (d : Delivery) (p : Processor) → IsAlike p (delivered_to warm test d p)
delivered-alike warm test d p = elim (test p) as (λ b. IsAlike p (cond b (received warm d p) p)) [ true ↦ received-alike warm d p | false ↦ itself p ]

apic-alike : (f : LocalApic → LocalApic) (p : Processor) → IsAlike p (with_apic f p)
apic-alike f p = record { id = refl; program = refl; position = refl }

pub kept_op : (id : ℕ) (o : Op) (s : BoardState) → op_at (processor_of id (effect_of_cpu id o s).processors) ≡ op_at (processor_of id s.processors)
kept_op id (op.Init d) s = mapped id _ s.processors (delivered-alike s.warm (is_target (to_id d) s.processors) sends.Init)
kept_op id (op.Startup d page) s = mapped id _ s.processors (delivered-alike s.warm (is_target (to_id d) s.processors) (sends.Startup page))
kept_op id (op.Ipi d v) s = mapped id _ s.processors (delivered-alike s.warm (is_target (to_id d) s.processors) (sends.Fixed v false))
kept_op id (op.Ipl d v) s = mapped id _ s.processors (delivered-alike s.warm (is_target (to_logical d) s.processors) (sends.Fixed v false))
kept_op id (op.Nmi d) s = mapped id _ s.processors (delivered-alike s.warm (is_target (to_id d) s.processors) sends.Nmi)
kept_op id op.Take s = changed id id _ s.processors (apic-alike taken)
kept_op id op.Poll s = changed id id _ s.processors (apic-alike taken)
kept_op id op.Eoi s = changed id id _ s.processors (apic-alike after_end)
kept_op id (op.Tpr n) s = changed id id _ s.processors (apic-alike (λ a. record a { tpr = n }))
kept_op id (op.Ldr n) s = changed id id _ s.processors (apic-alike (λ a. record a { ldr = n }))
kept_op id (op.Dfr n) s = changed id id _ s.processors (apic-alike (λ a. record a { dfr = n }))
kept_op id o s = refl
