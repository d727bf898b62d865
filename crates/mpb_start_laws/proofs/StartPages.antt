-- The outcomes Started of a message, at one processor.
use Rattle.std.proofs.Common.{◌≡◌, nat_lt, ◌==◌, ℕ, ◌<◌, Bool, true, false, cond, ◌||◌, List, [], ◌∷◌, map, filter, refl, sym, ap, ◌∙◌, arith, Option, Some, None, slice_get, subst}
use Rattle.std.specs.List.{AllByRecursion, cons_option}
use Rattle.std.proofs.lemmas.Bool.{ne_eqb, eqb-true}
use Rattle.mpb_spec.specs.declared.agent.Agent.{Agent}
use Rattle.mpb_spec.specs.declared.agent.Agent.TheVariants.{Cpu, Io, Dev}
use Rattle.mpb_spec.specs.declared.agent.Op.{Op}
use Rattle.mpb_spec.specs.declared.agent.Op.TheVariants as op
use Rattle.mpb_spec.specs.declared.apic.Accept.{Accept}
use Rattle.mpb_spec.specs.declared.apic.Accept.TheVariants as accept
use Rattle.mpb_spec.specs.declared.apic.Delivery.{Delivery}
use Rattle.mpb_spec.specs.declared.apic.Delivery.TheVariants as sends
use Rattle.mpb_spec.specs.declared.apic.Effect.{Effect}
use Rattle.mpb_spec.specs.declared.apic.Effect.TheVariants as effect
use Rattle.mpb_spec.specs.declared.apic.Message.{Message}
use Rattle.mpb_spec.specs.declared.config.Life.{Life}
use Rattle.mpb_spec.specs.declared.config.Life.TheVariants as life
use Rattle.mpb_spec.specs.declared.entry.Outcome.{Outcome}
use Rattle.mpb_spec.specs.declared.entry.What.{What}
use Rattle.mpb_spec.specs.declared.entry.What.TheVariants as what
use Rattle.mpb_spec.specs.Numbers.{IsAscending}
use Rattle.mpb_spec.specs.LocalApic.{acceptance}
use Rattle.mpb_spec.specs.IoApic.{write_effect, with_line, effect_at}
use Rattle.mpb_spec.specs.State.{Processor, Place, BoardState, runs, processor_of}
use Rattle.mpb_spec.specs.Delivery.{is_target, byte_of, to_id, to_logical, answer, outcome_at, outcomes_at, unless_absent, outcome_of_accept}
use Rattle.mpb_spec.specs.Steps.{due_at, kind_of, aim_of, kind_outcomes, send_outcomes, ended_at, vector_at}
use Rattle.mpb_spec.specs.Outcomes.{outcomes_of, outcomes_of_cpu, only, found, found_alive, what_taken, what_ended, what_effect, of_write, of_read, of_line}
use Rattle.mpb_start_laws.specs.Starts.{started_page, pages_at}
use Rattle.mpb_start_laws.proofs.Calls.{page_list, call_if, call_at, pages_after}

-- the pages at one target
accept-none : (a : Accept) → started_page (outcome_of_accept a) ≡ None
accept-none accept.Set = refl
accept-none accept.Merged = refl
accept-none accept.Illegal = refl

answer-page : (warm : Option ℕ) (m : Delivery) (p : Processor) → page_list (started_page (answer warm m p)) ≡ pages_after warm p.version (Some m) p.life
answer-page warm (sends.Fixed v level) p = elim (runs p.life) as (λ b. page_list (started_page (cond b (outcome_of_accept (acceptance v p.apic)) what.Asleep)) ≡ []) [ true ↦ ap page_list (accept-none (acceptance v p.apic)) | false ↦ refl ]
answer-page warm sends.Nmi p = elim (runs p.life) as (λ b. page_list (started_page (cond b what.Nmi what.Asleep)) ≡ []) [ true ↦ refl | false ↦ refl ]
answer-page warm sends.Pass p = elim (runs p.life) as (λ b. page_list (started_page (cond b what.Passed what.Asleep)) ≡ []) [ true ↦ refl | false ↦ refl ]
answer-page warm sends.Init p = refl
answer-page warm (sends.Startup page) p = refl

-- the outcomes of a message at the targets among these processors
abbrev at_targets : Option ℕ → (Processor → Bool) → Delivery → List Processor → List Outcome
at_targets warm test m ps = map (outcome_at warm m) (filter test ps)

-- none at an id that no processor has
none-above : (d : ℕ) (warm : Option ℕ) (test : Processor → Bool) (m : Delivery) (ps : List Processor) → AllByRecursion (λ y. d < y) (map (λ p. p.id) ps) → pages_at d (at_targets warm test m ps) ≡ []
none-above d warm test m [] above = refl
none-above d warm test m (p ∷ ps) above = go (test p) (none-above d warm test m ps above.1) where
  off : (p.id == d) ≡ false
  off = ne_eqb p.id d (λ same. omega (arith, same, above.0))

  go : (b : Bool) → pages_at d (at_targets warm test m ps) ≡ [] → pages_at d (map (outcome_at warm m) (cond b (p ∷ filter test ps) (filter test ps))) ≡ []
  go true h = rw off h
  go false h = h

-- with distinct ids they are those of the one processor
one-target : (d : ℕ) (warm : Option ℕ) (test : Processor → Bool) (m : Delivery) (ps : List Processor) (q : Processor) → IsAscending (map (λ p. p.id) ps) → processor_of d ps ≡ Some q
    → pages_at d (at_targets warm test m ps) ≡ cond (test q) (pages_after warm q.version (Some m) q.life) []
one-target d warm test m [] q up e = cc
one-target d warm test m (p ∷ ps) q up e = go (p.id == d) refl e (one-target d warm test m ps q up.1) where
  Goal : Bool → Type 0
  Goal t = pages_at d (map (outcome_at warm m) (cond t (p ∷ filter test ps) (filter test ps))) ≡ cond (test q) (pages_after warm q.version (Some m) q.life) []

  here : p ≡ q → (p.id == d) ≡ true → pages_at d (at_targets warm test m ps) ≡ [] → (t : Bool) → test p ≡ t → Goal t
  here same t rest true s =
      let mine : test q ≡ true = ap test (sym same) ∙ s in
      rw mine (rw t (rw rest (subst (λ (x : Processor). page_list (started_page (answer warm m x)) ≡ pages_after warm q.version (Some m) q.life) (sym same) (answer-page warm m q))))
  here same t rest false s =
      let mine : test q ≡ false = ap test (sym same) ∙ s in
      rw mine rest

  later : (p.id == d) ≡ false → pages_at d (at_targets warm test m ps) ≡ cond (test q) (pages_after warm q.version (Some m) q.life) [] → (t : Bool) → Goal t
  later off rest true = rw off rest
  later off rest false = rest

  go : (b : Bool) → (p.id == d) ≡ b → cond b (Some p) (processor_of d ps) ≡ Some q
      → (processor_of d ps ≡ Some q → pages_at d (at_targets warm test m ps) ≡ cond (test q) (pages_after warm q.version (Some m) q.life) [])
      → Goal (test p)
  go true t e rest =
      let same : p ≡ q = cc in
      here same t (none-above d warm test m ps (subst (λ (i : ℕ). AllByRecursion (λ y. i < y) (map (λ (x : Processor). x.id) ps)) (eqb-true p.id d t) up.0)) (test p) refl
  go false t e rest = later t (rest e) (test p)

unless-none : (d dest : ℕ) (os : List Outcome) → pages_at d (unless_absent dest os) ≡ pages_at d os
unless-none d dest [] = elim (dest == d) as (λ b. cons_option (cond {A = Option ℕ} b None None) [] ≡ []) [ true ↦ refl | false ↦ refl ]
unless-none d dest (o ∷ os) = refl

message-pages : (d : ℕ) (warm : Option ℕ) (test : Processor → Bool) (dest : ℕ) (m : Delivery) (ps : List Processor) (q : Processor) → IsAscending (map (λ p. p.id) ps) → processor_of d ps ≡ Some q
    → pages_at d (outcomes_at warm test dest m ps) ≡ cond (test q) (pages_after warm q.version (Some m) q.life) []
message-pages d warm test dest m ps q up e = unless-none d dest (at_targets warm test m ps) ∙ one-target d warm test m ps q up e

-- a message that is no INIT and no STARTUP
abbrev IsPlain : Delivery → Type 0
IsPlain sends.Init = ⊥
IsPlain (sends.Startup page) = ⊥
IsPlain m = Unit {0}

plain-pages : (warm : Option ℕ) (version : ℕ) (m : Delivery) (l : Life) (t : Bool) → IsPlain m → cond t (pages_after warm version (Some m) l) [] ≡ []
plain-pages warm version (sends.Fixed v level) l t plain = elim t as (λ b. cond {A = List ℕ} b [] [] ≡ []) [ true ↦ refl | false ↦ refl ]
plain-pages warm version sends.Nmi l t plain = elim t as (λ b. cond {A = List ℕ} b [] [] ≡ []) [ true ↦ refl | false ↦ refl ]
plain-pages warm version sends.Pass l t plain = elim t as (λ b. cond {A = List ℕ} b [] [] ≡ []) [ true ↦ refl | false ↦ refl ]
plain-pages warm version sends.Init l t plain = absurd plain
plain-pages warm version (sends.Startup page) l t plain = absurd plain

plain-message : (d : ℕ) (warm : Option ℕ) (test : Processor → Bool) (dest : ℕ) (m : Delivery) (ps : List Processor) (q : Processor) → IsAscending (map (λ p. p.id) ps) → processor_of d ps ≡ Some q → IsPlain m
    → pages_at d (outcomes_at warm test dest m ps) ≡ []
plain-message d warm test dest m ps q up e plain = message-pages d warm test dest m ps q up e ∙ plain-pages warm q.version m q.life (test q) plain

-- one outcome that is no start
one-none : (d at : ℕ) (w : What) → started_page w ≡ None → pages_at d (record { at = at; what = w } ∷ []) ≡ []
one-none d at w none = rw none (elim (at == d) as (λ b. cons_option (cond {A = Option ℕ} b None None) [] ≡ []) [ true ↦ refl | false ↦ refl ])

found-none : (r : Option Processor) → started_page (found r) ≡ None
found-none None = refl
found-none (Some p) = go p.life where
  go : (l : Life) → started_page (found_alive l) ≡ None
  go life.Asleep = refl
  go life.Waiting = refl
  go (life.Started page) = refl
  go life.First = refl

taken-none : (v : Option ℕ) → started_page (what_taken v) ≡ None
taken-none None = refl
taken-none (Some v) = refl

ended-none : (e : Option (ℕ × Bool)) → started_page (what_ended e) ≡ None
ended-none None = refl
ended-none (Some e) = refl

effect-none : (e : Effect) → started_page (what_effect e) ≡ None
effect-none effect.Plain = refl
effect-none effect.Due = refl
effect-none effect.Withdrawn = refl

write-none : (v : ℕ) (r : Option Place) → started_page (of_write v r) ≡ None
write-none v None = refl
write-none v (Some p) = effect-none (write_effect v p.chip)

read-none : (r : Option Place) → started_page (of_read r) ≡ None
read-none None = refl
read-none (Some p) = refl

line-none : (pin : ℕ) (high : Bool) (r : Option Place) → started_page (of_line pin high r) ≡ None
line-none pin high None = refl
line-none pin high (Some p) = effect-none (effect_at pin (with_line high) p.chip.pins)

collect-none : (pins : ℕ) (r : Option Place) → started_page (Rattle.mpb_spec.specs.Outcomes.of_collect pins r) ≡ None
collect-none pins None = refl
collect-none pins (Some p) = refl

-- the pages of what an op sends to the processor
abbrev pub PagesAre : ℕ → Agent → Op → BoardState → Processor → Type 0
PagesAre d g o s q = pages_at d (outcomes_of g o s) ≡ pages_after s.warm q.version (call_at d g o) q.life

called : (warm : Option ℕ) (version : ℕ) (m : Delivery) (l : Life) (b : Bool) → cond b (pages_after warm version (Some m) l) [] ≡ pages_after warm version (call_if b m) l
called warm version m l true = refl
called warm version m l false = refl

target-is : (d dest : ℕ) (ps : List Processor) (q : Processor) → q.id ≡ d → is_target (to_id dest) ps q ≡ ((dest == 255) || (d == dest))
target-is d dest ps q e = rw e refl

cpu-pages : (d id : ℕ) (o : Op) (s : BoardState) (q : Processor) → IsAscending (map (λ p. p.id) s.processors) → processor_of d s.processors ≡ Some q → q.id ≡ d → PagesAre d (Cpu id) o s q
cpu-pages d id (op.Init dest) s q up e is =
    message-pages d s.warm (is_target (to_id dest) s.processors) dest sends.Init s.processors q up e
    ∙ ap (λ b. cond b (pages_after s.warm q.version (Some sends.Init) q.life) []) (target-is d dest s.processors q is)
    ∙ called s.warm q.version sends.Init q.life ((dest == 255) || (d == dest))
cpu-pages d id (op.Startup dest page) s q up e is =
    message-pages d s.warm (is_target (to_id dest) s.processors) dest (sends.Startup page) s.processors q up e
    ∙ ap (λ b. cond b (pages_after s.warm q.version (Some (sends.Startup page)) q.life) []) (target-is d dest s.processors q is)
    ∙ called s.warm q.version (sends.Startup page) q.life ((dest == 255) || (d == dest))
cpu-pages d id (op.Nmi dest) s q up e is = plain-message d s.warm (is_target (to_id dest) s.processors) dest sends.Nmi s.processors q up e tt
cpu-pages d id (op.Ipi dest u) s q up e is = plain-message d s.warm (is_target (to_id dest) s.processors) dest (sends.Fixed u false) s.processors q up e tt
cpu-pages d id (op.Ipl dest u) s q up e is = plain-message d s.warm (is_target (to_logical dest) s.processors) dest (sends.Fixed u false) s.processors q up e tt
cpu-pages d id (op.Check dest) s q up e is = one-none d dest (found (processor_of dest s.processors)) (found-none (processor_of dest s.processors))
cpu-pages d id op.Take s q up e is = one-none d 0 (what_taken (vector_at (processor_of id s.processors))) (taken-none (vector_at (processor_of id s.processors)))
cpu-pages d id op.Poll s q up e is = one-none d 0 (what_taken (vector_at (processor_of id s.processors))) (taken-none (vector_at (processor_of id s.processors)))
cpu-pages d id op.Eoi s q up e is = one-none d 0 (what_ended (ended_at (processor_of id s.processors))) (ended-none (ended_at (processor_of id s.processors)))
cpu-pages d id (op.IoWin a v) s q up e is = one-none d 0 (of_write v (slice_get s.places a)) (write-none v (slice_get s.places a))
cpu-pages d id (op.IoRead a) s q up e is = one-none d 0 (of_read (slice_get s.places a)) (read-none (slice_get s.places a))
cpu-pages d id o s q up e is = one-none d 0 what.Done refl

kind-pages : (d : ℕ) (m : Message) (k : Option Delivery) (s : BoardState) (q : Processor) → kind_of m ≡ k → IsAscending (map (λ p. p.id) s.processors) → processor_of d s.processors ≡ Some q → pages_at d (kind_outcomes (aim_of m) k s) ≡ []
kind-pages d m None s q is up e = one-none d 0 what.Unheard refl
kind-pages d m (Some k) s q is up e = plain-message d s.warm (is_target (aim_of m) s.processors) (byte_of (aim_of m).at) k s.processors q up e (plain (nat_lt m.mode 2) (m.mode == 2) (m.mode == 4) (m.mode == 7) is) where
  plain : (a b c f : Bool) → cond {A = Option Delivery} a (Some (sends.Fixed m.vector m.level)) (cond b (Some sends.Pass) (cond c (Some sends.Nmi) (cond f (Some sends.Pass) None))) ≡ Some k → IsPlain k
  plain true b c f h = let same : sends.Fixed m.vector m.level ≡ k = cc in subst IsPlain same tt
  plain false true c f h = let same : sends.Pass ≡ k = cc in subst IsPlain same tt
  plain false false true f h = let same : sends.Nmi ≡ k = cc in subst IsPlain same tt
  plain false false false true h = let same : sends.Pass ≡ k = cc in subst IsPlain same tt
  plain false false false false h = cc

send-pages : (d : ℕ) (m : Option Message) (s : BoardState) (q : Processor) → IsAscending (map (λ p. p.id) s.processors) → processor_of d s.processors ≡ Some q → pages_at d (send_outcomes m s) ≡ []
send-pages d None s q up e = refl
send-pages d (Some m) s q up e = kind-pages d m (kind_of m) s q refl up e

pub step_pages : (d : ℕ) (g : Agent) (o : Op) (s : BoardState) (q : Processor) → IsAscending (map (λ p. p.id) s.processors) → processor_of d s.processors ≡ Some q → q.id ≡ d → PagesAre d g o s q
step_pages d (Cpu id) o s q up e is = cpu-pages d id o s q up e is
step_pages d (Dev n) (op.High a pin) s q up e is = one-none d 0 (of_line pin true (slice_get s.places a)) (line-none pin true (slice_get s.places a))
step_pages d (Dev n) (op.Low a pin) s q up e is = one-none d 0 (of_line pin false (slice_get s.places a)) (line-none pin false (slice_get s.places a))
step_pages d (Dev n) o s q up e is = one-none d 0 what.Done refl
step_pages d (Io a) (op.Collect pins) s q up e is = one-none d 0 (Rattle.mpb_spec.specs.Outcomes.of_collect pins (slice_get s.places a)) (collect-none pins (slice_get s.places a))
step_pages d (Io a) (op.Send pin) s q up e is = send-pages d (due_at a s) s q up e
step_pages d (Io a) o s q up e is = one-none d 0 what.Done refl
