-- Who waits, by what the board tells.
use Rattle.std.proofs.Common.{◌≡◌, ◌==◌, ℕ, zero, suc, ◌<◌, Bool, true, false, not, ◌&&◌, ◌||◌, List, [], ◌∷◌, ◌++◌, length, refl, sym, ap, ◌∙◌, arith, Option, Some, None, is_some, slice_get}
use Rattle.std.specs.Option.{option_map}
use Rattle.std.specs.List.{filter_map}
use Rattle.std.proofs.lemmas.Bool.{ne_eqb}
use Rattle.mpb_spec.specs.declared.agent.Agent.TheVariants.{Cpu, Dev}
use Rattle.mpb_spec.specs.declared.agent.Op.{Op}
use Rattle.mpb_spec.specs.declared.agent.Op.TheVariants as op
use Rattle.mpb_spec.specs.declared.config.DevWord.{DevWord}
use Rattle.mpb_spec.specs.declared.config.DevWord.TheVariants as word
use Rattle.mpb_spec.specs.declared.config.Life.{Life}
use Rattle.mpb_spec.specs.declared.entry.Entry.{Entry}
use Rattle.mpb_spec.specs.LocalApic.{LocalApic, next_vector}
use Rattle.mpb_spec.specs.State.{Processor, runs, processor_of, device_op_at}
use Rattle.mpb_spec.specs.Plan.{Plan, op_of_word}
use Rattle.mpb_spec.specs.Journal.{final_state_of}
use Rattle.mpb_replay_laws.specs.Made.{made_by, op_of_plan, op_of_words, plan_with}
use Rattle.mpb_replay_laws.specs.Wrong.{processor_waits, device_waits, is_take, is_begin}
use Rattle.mpb_replay_laws.proofs.Positions.{device_next_is, next_is}

-- the parts of the two tests
pub same_at : (a b x y p q m n : Bool) → a ≡ b → x ≡ y → p ≡ q → m ≡ n → (not a || (x && (p && m))) ≡ (not b || (y && (q && n)))
same_at a b x y p q m n e f g h = cc

pub flipped : (a b : Bool) → a ≡ not b → b ≡ not a
flipped a true e = sym (ap not e)
flipped a false e = sym (ap not e)

pub same_first : (a b : Bool) (n : ℕ) (t u : Bool) → a ≡ b → t ≡ u → (a && ((n == 0) && not t)) ≡ (b && ((n == 0) && not u))
same_first a b n t u e f = cc

pub processor_waits_by : (c : Plan) (journal : List Entry) (id : ℕ) (o : Op) (l : Life) (a : LocalApic)
    → Some l ≡ option_map (λ (p : Processor). p.life) (processor_of id (final_state_of c journal).processors)
    → Some a ≡ option_map (λ (p : Processor). p.apic) (processor_of id (final_state_of c journal).processors)
    → (not (runs l) || (is_take (Some o) && (is_take (op_of_plan (made_by (Cpu id) journal) (plan_with id c.cpus)) && not (is_some (next_vector a))))) ≡ processor_waits (processor_of id (final_state_of c journal).processors) o
processor_waits_by c journal id o l a life apic = go (processor_of id (final_state_of c journal).processors) refl life apic where
  go : (r : Option Processor) → processor_of id (final_state_of c journal).processors ≡ r → Some l ≡ option_map (λ (p : Processor). p.life) r → Some a ≡ option_map (λ (p : Processor). p.apic) r
      → (not (runs l) || (is_take (Some o) && (is_take (op_of_plan (made_by (Cpu id) journal) (plan_with id c.cpus)) && not (is_some (next_vector a))))) ≡ processor_waits r o
  go None e h k = cc
  go (Some p) e h k =
      let life' : l ≡ p.life = cc in
      let apic' : a ≡ p.apic = cc in
      ap (λ (x : Life). not (runs x) || (is_take (Some o) && (is_take (op_of_plan (made_by (Cpu id) journal) (plan_with id c.cpus)) && not (is_some (next_vector a))))) life'
      ∙ ap (λ (x : LocalApic). not (runs p.life) || (is_take (Some o) && (is_take (op_of_plan (made_by (Cpu id) journal) (plan_with id c.cpus)) && not (is_some (next_vector x))))) apic'
      ∙ ap (λ (x : Option Op). not (runs p.life) || (is_take (Some o) && (is_take x && not (is_some (next_vector p.apic))))) (sym (next_is c journal id p e))

-- only the first op of a device's program is a Begin
no-begin : (ws : List DevWord) (n : ℕ) → is_begin (slice_get (filter_map op_of_word ws ++ op.End ∷ []) n) ≡ false
no-begin [] zero = refl
no-begin [] (suc n) = refl
no-begin (word.Pulse a p ∷ ws) n = no-begin ws n
no-begin (word.High a p ∷ ws) zero = refl
no-begin (word.High a p ∷ ws) (suc n) = no-begin ws n
no-begin (word.Low a p ∷ ws) zero = refl
no-begin (word.Low a p ∷ ws) (suc n) = no-begin ws n

first-is : (ws : List DevWord) (n : ℕ) → is_begin (op_of_words n (Some ws)) ≡ (n == 0)
first-is ws zero = refl
first-is ws (suc n) = no-begin ws n ∙ sym (ne_eqb (suc n) 0 (λ e. omega (arith, e)))

there-is : {X : Type 0} (n : ℕ) (xs : List X) → n < length xs → (x : X) × (slice_get xs n ≡ Some x)
there-is n [] lt = absurd (omega (arith, lt))
there-is zero (x ∷ xs) lt = (x, refl)
there-is (suc n) (x ∷ xs) lt = there-is n xs (omega (arith, lt))

pub device_waits_by : (c : Plan) (journal entries : List Entry) (d made : ℕ) (o : Op) (through : Bool) → d < length c.devices → entries ≡ journal → made ≡ made_by (Dev d) entries
    → (is_begin (Some o) && ((made == 0) && not through)) ≡ device_waits through (slice_get (final_state_of c journal).devices d) o
device_waits_by c journal entries d made o through lt e m =
    let words = there-is d c.devices lt in
    let count : made ≡ made_by (Dev d) journal = m ∙ ap (made_by (Dev d)) e in
    let first : (made == 0) ≡ is_begin (device_op_at (slice_get (final_state_of c journal).devices d)) =
    ap (λ (n : ℕ). n == 0) count ∙ sym (first-is words.0 (made_by (Dev d) journal)) ∙ ap (λ (w : Option (List DevWord)). is_begin (op_of_words (made_by (Dev d) journal) w)) (sym words.1) ∙ ap is_begin (sym (device_next_is c journal d)) in
    ap (λ (b : Bool). is_begin (Some o) && (b && not through)) first
