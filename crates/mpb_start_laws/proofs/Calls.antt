-- What an INIT or a STARTUP makes of a life, and the page of its outcome: the two tell the same starts.
use Rattle.std.proofs.Common.{◌≡◌, ◌==◌, ℕ, Bool, true, false, cond, ◌||◌, List, [], ◌++◌, refl, Option, Some, None, nat_le}
use Rattle.std.specs.List.{cons_option}
use Rattle.mpb_spec.specs.declared.agent.Agent.{Agent}
use Rattle.mpb_spec.specs.declared.agent.Agent.TheVariants.{Cpu}
use Rattle.mpb_spec.specs.declared.agent.Op.{Op}
use Rattle.mpb_spec.specs.declared.agent.Op.TheVariants as op
use Rattle.mpb_spec.specs.declared.apic.Delivery.{Delivery}
use Rattle.mpb_spec.specs.declared.apic.Delivery.TheVariants as sends
use Rattle.mpb_spec.specs.declared.config.Life.{Life}
use Rattle.mpb_spec.specs.declared.config.Life.TheVariants as life
use Rattle.mpb_spec.specs.declared.entry.What.TheVariants as what
use Rattle.mpb_spec.specs.Delivery.{life_after_init, life_after_startup, started_by, start_outcome, init_outcome, startup_outcome}
use Rattle.mpb_start_laws.specs.Starts.{life_pages, started_page}

-- the page, where there is one
abbrev pub page_list : Option ℕ → List ℕ
page_list o = cons_option o []

-- the INIT or STARTUP that an op sends to the processor
abbrev pub call_if : Bool → Delivery → Option Delivery
call_if b m = cond b (Some m) None

abbrev pub call_at : ℕ → Agent → Op → Option Delivery
call_at d (Cpu id) (op.Init dest) = call_if ((dest == 255) || (d == dest)) sends.Init
call_at d (Cpu id) (op.Startup dest page) = call_if ((dest == 255) || (d == dest)) (sends.Startup page)
call_at d g o = None

-- what it makes of a life
abbrev pub life_after : Option ℕ → ℕ → Option Delivery → Life → Life
life_after warm version None l = l
life_after warm version (Some sends.Init) l = life_after_init warm version l
life_after warm version (Some (sends.Startup page)) l = life_after_startup page l
life_after warm version (Some m) l = l

-- and the page of what comes of it
abbrev pub pages_after : Option ℕ → ℕ → Option Delivery → Life → List ℕ
pages_after warm version None l = []
pages_after warm version (Some sends.Init) l = page_list (started_page (init_outcome warm version l))
pages_after warm version (Some (sends.Startup page)) l = page_list (started_page (startup_outcome page l))
pages_after warm version (Some m) l = []

-- the page of a start is that of the life
pub told_after : (warm : Option ℕ) (version : ℕ) (m : Option Delivery) (l : Life) → life_pages (life_after warm version m l) ≡ life_pages l ++ pages_after warm version m l
told_after warm version None life.Asleep = refl
told_after warm version None life.Waiting = refl
told_after warm version None (life.Started page) = refl
told_after warm version None life.First = refl
told_after warm version (Some sends.Init) life.Asleep = go (nat_le 16 version) warm where
  go : (b : Bool) (w : Option ℕ) → life_pages (cond b life.Waiting (started_by w)) ≡ page_list (started_page (cond b what.Waiting (start_outcome w)))
  go true w = refl
  go false None = refl
  go false (Some page) = refl
told_after warm version (Some sends.Init) life.Waiting = elim (nat_le 16 version) as (λ b. [] ≡ page_list (started_page (cond b what.Waiting what.Ignored))) [ true ↦ refl | false ↦ refl ]
told_after warm version (Some sends.Init) (life.Started page) = refl
told_after warm version (Some sends.Init) life.First = refl
told_after warm version (Some (sends.Startup p)) life.Asleep = refl
told_after warm version (Some (sends.Startup p)) life.Waiting = refl
told_after warm version (Some (sends.Startup p)) (life.Started page) = refl
told_after warm version (Some (sends.Startup p)) life.First = refl
told_after warm version (Some m) life.Asleep = refl
told_after warm version (Some m) life.Waiting = refl
told_after warm version (Some m) (life.Started page) = refl
told_after warm version (Some m) life.First = refl
