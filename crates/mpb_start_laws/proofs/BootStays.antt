-- No step changes which processor is the boot processor, so a complete journal ends past the boot program.
use Rattle.std.proofs.Common.{◌≡◌, ℕ, ◌≤◌, true, List, [], ◌∷◌, refl, sym, ◌∙◌, Option, Some, None, subst, fold}
use Rattle.std.proofs.lemmas.Bool.{le-leb}
use Rattle.mpb_spec.specs.declared.agent.Agent.{Agent}
use Rattle.mpb_spec.specs.declared.agent.Agent.TheVariants.{Cpu, Io, Dev}
use Rattle.mpb_spec.specs.declared.agent.Op.{Op}
use Rattle.mpb_spec.specs.declared.agent.Op.TheVariants as op
use Rattle.mpb_spec.specs.declared.apic.Aim.{Aim}
use Rattle.mpb_spec.specs.declared.apic.Delivery.{Delivery}
use Rattle.mpb_spec.specs.declared.apic.Message.{Message}
use Rattle.mpb_spec.specs.declared.entry.Entry.{Entry}
use Rattle.mpb_spec.specs.State.{Processor, BoardState, processor_of, boot_is_through, is_through}
use Rattle.mpb_spec.specs.Steps.{after, sent_message, deliver_kind, kind_of, aim_of, due_at}
use Rattle.mpb_spec.specs.Plan.{Plan, initial_state_of}
use Rattle.mpb_spec.specs.Configs.{IsConfig}
use Rattle.mpb_spec.specs.Journal.{IsComplete, after_entry, final_state_of}
use Rattle.mpb_start_laws.proofs.Opening.{IsBootAt, boot_at}
use Rattle.mpb_start_laws.proofs.Through.{boot_past}

-- the boot processor and the length of its program stay
kind-boot : (aim : Aim) (k : Option Delivery) (s : BoardState) → ((deliver_kind aim k s).boot ≡ s.boot) × ((deliver_kind aim k s).boot_len ≡ s.boot_len)
kind-boot aim None s = (refl, refl)
kind-boot aim (Some m) s = (refl, refl)

send-boot : (a : ℕ) (m : Option Message) (s : BoardState) → ((sent_message a m s).boot ≡ s.boot) × ((sent_message a m s).boot_len ≡ s.boot_len)
send-boot a None s = (refl, refl)
send-boot a (Some m) s = kind-boot (aim_of m) (kind_of m) s

step-boot : (g : Agent) (o : Op) (s : BoardState) → ((after g o s).boot ≡ s.boot) × ((after g o s).boot_len ≡ s.boot_len)
step-boot (Cpu id) op.Imcr s = (refl, refl)
step-boot (Cpu id) o s = (refl, refl)
step-boot (Dev n) (op.High a pin) s = (refl, refl)
step-boot (Dev n) (op.Low a pin) s = (refl, refl)
step-boot (Dev n) o s = (refl, refl)
step-boot (Io a) (op.Collect pins) s = (refl, refl)
step-boot (Io a) (op.Send pin) s = send-boot a (due_at a s) s
step-boot (Io a) op.Sweep s = (refl, refl)
step-boot (Io a) o s = (refl, refl)

run-boot : (s : BoardState) (xs : List Entry) → ((fold after_entry s xs).boot ≡ s.boot) × ((fold after_entry s xs).boot_len ≡ s.boot_len)
run-boot s [] = (refl, refl)
run-boot s (x ∷ xs) =
    let rest = run-boot (after_entry s x) xs in
    let one = step-boot x.agent x.op s in
    (rest.0 ∙ one.0, rest.1 ∙ one.1)

pub through : (c : Plan) (journal : List Entry) → IsConfig c → IsComplete c journal → boot_is_through (final_state_of c journal) ≡ true
through c journal is complete =
    let t : BoardState = final_state_of c journal in
    let boot = boot_at c journal is in
    let at : IsBootAt c t boot.0 = boot.1 in
    let kept = run-boot (initial_state_of c) journal in
    let past : c.boot_len ≤ at.now.position = boot_past c t boot.0 is at complete.quiescent in
    subst (λ (i : ℕ). is_through (processor_of i t.processors) t.boot_len ≡ true) (sym kept.0)
    (subst (λ (n : ℕ). is_through (processor_of c.boot t.processors) n ≡ true) (sym kept.1)
    (subst (λ (r : Option Processor). is_through r c.boot_len ≡ true) (sym at.found) (le-leb c.boot_len at.now.position past)))
