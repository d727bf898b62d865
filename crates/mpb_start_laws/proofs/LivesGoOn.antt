-- What an op does to the warm-reset vector and to the life of a processor that is to be started.
use Rattle.std.proofs.Common.{◌≡◌, ◌==◌, ℕ, Bool, true, false, cond, ◌||◌, refl, Option, Some, None, is_some, nat_le}
use Rattle.std.proofs.lemmas.Bool.{eq-eqb}
use Rattle.mpb_spec.specs.declared.agent.Agent.{Agent}
use Rattle.mpb_spec.specs.declared.agent.Agent.TheVariants.{Cpu, Io, Dev}
use Rattle.mpb_spec.specs.declared.agent.Op.{Op}
use Rattle.mpb_spec.specs.declared.agent.Op.TheVariants as op
use Rattle.mpb_spec.specs.declared.apic.Aim.{Aim}
use Rattle.mpb_spec.specs.declared.apic.Delivery.{Delivery}
use Rattle.mpb_spec.specs.declared.apic.Delivery.TheVariants as sends
use Rattle.mpb_spec.specs.declared.apic.Message.{Message}
use Rattle.mpb_spec.specs.declared.config.Life.{Life}
use Rattle.mpb_spec.specs.declared.config.Life.TheVariants as life
use Rattle.mpb_spec.specs.State.{BoardState, runs}
use Rattle.mpb_spec.specs.Delivery.{life_after_init, started_by}
use Rattle.mpb_spec.specs.Steps.{after, due_at, kind_of, aim_of, deliver_kind, sent_message}
use Rattle.mpb_spec.specs.Configs.{IsAtPage}
use Rattle.mpb_start_laws.proofs.Calls.{call_at, call_if, life_after}

-- the warm-reset vector after an op
abbrev pub warm_after : Agent → Op → Option ℕ → Option ℕ
warm_after (Cpu id) (op.Warm page) w = Some page
warm_after g o w = w

kind-warm : (aim : Aim) (k : Option Delivery) (s : BoardState) → (deliver_kind aim k s).warm ≡ s.warm
kind-warm aim None s = refl
kind-warm aim (Some m) s = refl

send-warm : (a : ℕ) (m : Option Message) (s : BoardState) → (sent_message a m s).warm ≡ s.warm
send-warm a None s = refl
send-warm a (Some m) s = kind-warm (aim_of m) (kind_of m) s

pub step_warm : (g : Agent) (o : Op) (s : BoardState) → (after g o s).warm ≡ warm_after g o s.warm
step_warm (Cpu id) op.Imcr s = refl
step_warm (Cpu id) (op.Warm page) s = refl
step_warm (Cpu id) o s = refl
step_warm (Dev n) (op.High a pin) s = refl
step_warm (Dev n) (op.Low a pin) s = refl
step_warm (Dev n) o s = refl
step_warm (Io a) (op.Collect pins) s = refl
step_warm (Io a) (op.Send pin) s = send-warm a (due_at a s) s
step_warm (Io a) op.Sweep s = refl
step_warm (Io a) o s = refl

-- the vector, where it is set, is the page
abbrev pub IsWarmAt : ℕ → Option ℕ → Type 0
IsWarmAt page None = Unit {0}
IsWarmAt page (Some w) = w ≡ page

-- the page that the agent's op names, where it names one
abbrev pub NamesPage : ℕ → Agent → Op → Type 0
NamesPage page (Cpu id) o = IsAtPage page o
NamesPage page g o = Unit {0}

pub warm_stays_at : (page : ℕ) (g : Agent) (o : Op) (w : Option ℕ) → NamesPage page g o → IsWarmAt page w → IsWarmAt page (warm_after g o w)
warm_stays_at page (Cpu id) (op.Warm p) w at was = at
warm_stays_at page (Cpu id) o w at was = was
warm_stays_at page (Dev n) o w at was = was
warm_stays_at page (Io a) o w at was = was

-- the lives of another processor: it waits only by a local APIC of version 10h or above, and starts at the page
abbrev pub IsLifeOf : ℕ → ℕ → Life → Type 0
IsLifeOf page version life.Asleep = Unit {0}
IsLifeOf page version life.Waiting = nat_le 16 version ≡ true
IsLifeOf page version (life.Started p) = p ≡ page
IsLifeOf page version life.First = ⊥

-- the message names no other page
abbrev IsCallAt : ℕ → Option Delivery → Type 0
IsCallAt page (Some (sends.Startup p)) = p ≡ page
IsCallAt page m = Unit {0}

call-at-page : (page d : ℕ) (g : Agent) (o : Op) → NamesPage page g o → IsCallAt page (call_at d g o)
call-at-page page d (Cpu id) (op.Init dest) at = elim ((dest == 255) || (d == dest)) as (λ b. IsCallAt page (call_if b sends.Init)) [ true ↦ tt | false ↦ tt ]
call-at-page page d (Cpu id) (op.Startup dest p) at = elim ((dest == 255) || (d == dest)) as (λ b. IsCallAt page (call_if b (sends.Startup p))) [ true ↦ at | false ↦ tt ]
call-at-page page d (Cpu id) o at = tt
call-at-page page d (Dev n) o at = tt
call-at-page page d (Io a) o at = tt

life-stays-at : (page version : ℕ) (w : Option ℕ) (m : Option Delivery) (l : Life) → IsCallAt page m → IsWarmAt page w → IsLifeOf page version l → IsLifeOf page version (life_after w version m l)
life-stays-at page version w None l at warm is = is
life-stays-at page version w (Some sends.Init) life.Asleep at warm is = go (nat_le 16 version) refl w warm where
  go : (b : Bool) → nat_le 16 version ≡ b → (w : Option ℕ) → IsWarmAt page w → IsLifeOf page version (cond b life.Waiting (started_by w))
  go true t w warm = t
  go false t None warm = tt
  go false t (Some p) warm = warm
life-stays-at page version w (Some sends.Init) life.Waiting at warm is = is
life-stays-at page version w (Some sends.Init) (life.Started p) at warm is = is
life-stays-at page version w (Some sends.Init) life.First at warm is = is
life-stays-at page version w (Some (sends.Startup p)) life.Asleep at warm is = is
life-stays-at page version w (Some (sends.Startup p)) life.Waiting at warm is = at
life-stays-at page version w (Some (sends.Startup p)) (life.Started q) at warm is = is
life-stays-at page version w (Some (sends.Startup p)) life.First at warm is = is
life-stays-at page version w (Some m) l at warm is = is

pub life_stays_lawful : (page version d : ℕ) (g : Agent) (o : Op) (w : Option ℕ) (l : Life) → NamesPage page g o → IsWarmAt page w → IsLifeOf page version l → IsLifeOf page version (life_after w version (call_at d g o) l)
life_stays_lawful page version d g o w l at warm is = life-stays-at page version w (call_at d g o) l (call-at-page page d g o at) warm is

-- the boot processor runs on
pub first_stays : (version : ℕ) (w : Option ℕ) (m : Option Delivery) → life_after w version m life.First ≡ life.First
first_stays version w None = refl
first_stays version w (Some sends.Init) = refl
first_stays version w (Some (sends.Startup p)) = refl
first_stays version w (Some m) = refl

-- the processor is no longer asleep
abbrev pub is_awake : Life → Bool
is_awake life.Asleep = false
is_awake l = true

-- after the first op of its pair a new processor waits at least, and for an old one the vector is set
abbrev pub is_ready : Bool → Option ℕ → Life → Bool
is_ready true w l = is_awake l
is_ready false w l = is_some w

-- what is so stays so
awake-stays : (version : ℕ) (w : Option ℕ) (m : Option Delivery) (l : Life) → is_awake l ≡ true → is_awake (life_after w version m l) ≡ true
awake-stays version w None l is = is
awake-stays version w (Some sends.Init) life.Asleep is = cc
awake-stays version w (Some sends.Init) life.Waiting is = refl
awake-stays version w (Some sends.Init) (life.Started p) is = refl
awake-stays version w (Some sends.Init) life.First is = refl
awake-stays version w (Some (sends.Startup p)) life.Asleep is = cc
awake-stays version w (Some (sends.Startup p)) life.Waiting is = refl
awake-stays version w (Some (sends.Startup p)) (life.Started q) is = refl
awake-stays version w (Some (sends.Startup p)) life.First is = refl
awake-stays version w (Some m) l is = is

warm-stays : (g : Agent) (o : Op) (w : Option ℕ) → is_some w ≡ true → is_some (warm_after g o w) ≡ true
warm-stays (Cpu id) (op.Warm p) w is = refl
warm-stays (Cpu id) o w is = is
warm-stays (Dev n) o w is = is
warm-stays (Io a) o w is = is

pub ready_stays : (new : Bool) (version d : ℕ) (g : Agent) (o : Op) (w : Option ℕ) (l : Life) → is_ready new w l ≡ true → is_ready new (warm_after g o w) (life_after w version (call_at d g o) l) ≡ true
ready_stays true version d g o w l is = awake-stays version w (call_at d g o) l is
ready_stays false version d g o w l is = warm-stays g o w is

run-stays : (version : ℕ) (w : Option ℕ) (m : Option Delivery) (l : Life) → runs l ≡ true → runs (life_after w version m l) ≡ true
run-stays version w m life.Asleep is = cc
run-stays version w m life.Waiting is = cc
run-stays version w None l is = is
run-stays version w (Some sends.Init) (life.Started p) is = refl
run-stays version w (Some sends.Init) life.First is = refl
run-stays version w (Some (sends.Startup p)) (life.Started q) is = refl
run-stays version w (Some (sends.Startup p)) life.First is = refl
run-stays version w (Some m) l is = is

pub running_stays : (version d : ℕ) (g : Agent) (o : Op) (w : Option ℕ) (l : Life) → runs l ≡ true → runs (life_after w version (call_at d g o) l) ≡ true
running_stays version d g o w l is = run-stays version w (call_at d g o) l is

-- the two ops that start a processor
abbrev pub early_op : Bool → ℕ → ℕ → Op
early_op true d page = op.Init d
early_op false d page = op.Warm page

abbrev pub late_op : Bool → ℕ → ℕ → Op
late_op true d page = op.Startup d page
late_op false d page = op.Init d

target-itself : (d : ℕ) → ((d == 255) || (d == d)) ≡ true
target-itself d = rw (eq-eqb d d refl) (elim (d == 255) as (λ b. (b || true) ≡ true) [ true ↦ refl | false ↦ refl ])

-- the first makes it ready
pub early_readies : (version d page id : ℕ) (w : Option ℕ) (l : Life) → is_ready (nat_le 16 version) (warm_after (Cpu id) (early_op (nat_le 16 version) d page) w) (life_after w version (call_at d (Cpu id) (early_op (nat_le 16 version) d page)) l) ≡ true
early_readies version d page id w l = go (nat_le 16 version) refl where
  woken : (l : Life) → nat_le 16 version ≡ true → is_awake (life_after_init w version l) ≡ true
  woken life.Asleep t = rw t refl
  woken life.Waiting t = refl
  woken (life.Started p) t = refl
  woken life.First t = refl

  go : (b : Bool) → nat_le 16 version ≡ b → is_ready b (warm_after (Cpu id) (early_op b d page) w) (life_after w version (call_at d (Cpu id) (early_op b d page)) l) ≡ true
  go true t = rw (target-itself d) (woken l t)
  go false t = refl

-- the second starts it
pub late_starts : (version d page id : ℕ) (w : Option ℕ) (l : Life) → is_ready (nat_le 16 version) w l ≡ true → IsLifeOf page version l → runs (life_after w version (call_at d (Cpu id) (late_op (nat_le 16 version) d page)) l) ≡ true
late_starts version d page id w l ready lawful = go (nat_le 16 version) refl ready where
  new : (l : Life) → is_awake l ≡ true → runs (life_after w version (Some (sends.Startup page)) l) ≡ true
  new life.Asleep is = cc
  new life.Waiting is = refl
  new (life.Started p) is = refl
  new life.First is = refl

  old : (w : Option ℕ) (l : Life) → nat_le 16 version ≡ false → is_some w ≡ true → IsLifeOf page version l → runs (life_after w version (Some sends.Init) l) ≡ true
  old None l t is lawful = cc
  old (Some p) life.Asleep t is lawful = rw t refl
  old (Some p) life.Waiting t is lawful = cc
  old (Some p) (life.Started q) t is lawful = refl
  old (Some p) life.First t is lawful = refl

  go : (b : Bool) → nat_le 16 version ≡ b → is_ready b w l ≡ true → runs (life_after w version (call_at d (Cpu id) (late_op b d page)) l) ≡ true
  go true t is = rw (target-itself d) (new l is)
  go false t is = rw (target-itself d) (old w l t is lawful)
