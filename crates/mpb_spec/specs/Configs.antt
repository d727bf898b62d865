-- What the type of a config keeps (this project's own).
--     IsConfig c             the plan is one of a board
--     IsStartableAt page c   its boot program starts each other processor at the page
use Rattle.std.specs.Prelude.{◌≡◌, ◌≢◌, ◌≤◌, ◌<◌, ◌==◌, ◌⊎◌, ℕ, Bool, true, false, ◌||◌, List, ◌∷◌, ◌++◌, length, take, drop, map, nat_le, if◌then◌else◌}
use Rattle.std.specs.List.{AllByRecursion, Contains}
use Rattle.mpb_spec.specs.declared.agent.Agent.{Agent}
use Rattle.mpb_spec.specs.declared.agent.Agent.TheVariants.{Cpu, Io, Dev}
use Rattle.mpb_spec.specs.declared.agent.Op.{Op}
use Rattle.mpb_spec.specs.declared.agent.Op.TheVariants as op
use Rattle.mpb_spec.specs.declared.config.DevWord.{DevWord}
use Rattle.mpb_spec.specs.declared.config.DevWord.TheVariants.{Pulse, High, Low}
use Rattle.mpb_spec.specs.Numbers.{has, IsAscending}
use Rattle.mpb_spec.specs.Plan.{Plan, CpuPlan}

-- the word names a pin of the first n I/O APICs
abbrev pub IsWordOn : ℕ → DevWord → Type 0
IsWordOn n (Pulse a pin) = (a < n) × (pin < 24)
IsWordOn n (High a pin) = (a < n) × (pin < 24)
IsWordOn n (Low a pin) = (a < n) × (pin < 24)

-- the op names one of the first n I/O APICs, where it names one
abbrev pub IsOpOn : ℕ → Op → Type 0
IsOpOn n (op.IoSel a r) = a < n
IsOpOn n (op.IoWin a v) = a < n
IsOpOn n (op.IoRead a) = a < n
IsOpOn n o = Unit {0}

-- the ops of a boot program
abbrev pub is_boot_op : Op → Bool
is_boot_op op.Imcr = true
is_boot_op (op.Warm page) = true
is_boot_op (op.Init d) = true
is_boot_op (op.Startup d page) = true
is_boot_op (op.Check d) = true
is_boot_op (op.Pause t) = true
is_boot_op (op.IoSel a r) = true
is_boot_op (op.IoWin a v) = true
is_boot_op o = false

-- the ops of a processor's script: a model of logical destinations is 0 or 15, and a pause is of at most a second
abbrev pub is_script_op : Op → Bool
is_script_op (op.Ipi d v) = true
is_script_op (op.Ipl d v) = true
is_script_op (op.Nmi d) = true
is_script_op op.Take = true
is_script_op op.Poll = true
is_script_op op.Eoi = true
is_script_op (op.Tpr t) = true
is_script_op (op.Ldr n) = true
is_script_op (op.Dfr n) = (n == 0) || (n == 15)
is_script_op (op.IoSel a r) = true
is_script_op (op.IoWin a v) = true
is_script_op (op.IoRead a) = true
is_script_op (op.Pause t) = nat_le t 1000000
is_script_op o = false

-- a model that the op sets is 0 or 15
abbrev pub IsModelled : Op → Type 0
IsModelled (op.Dfr n) = (n ≡ 0) ⊎ (n ≡ 15)
IsModelled o = Unit {0}

-- of a processor; other agents set none
abbrev pub IsModelledBy : Agent → Op → Type 0
IsModelledBy (Cpu id) o = IsModelled o
IsModelledBy (Io a) o = Unit {0}
IsModelledBy (Dev d) o = Unit {0}

-- a target of the boot program is another processor
abbrev pub IsOther : ℕ → ℕ → Type 0
IsOther boot d = (d ≢ 255) × (d ≢ boot)

-- the op has such a target, where it is INIT, STARTUP or a check
abbrev pub IsAimed : ℕ → Op → Type 0
IsAimed boot (op.Init d) = IsOther boot d
IsAimed boot (op.Startup d page) = IsOther boot d
IsAimed boot (op.Check d) = IsOther boot d
IsAimed boot o = Unit {0}

-- the page is the one that the op names, where it names one
abbrev pub IsAtPage : ℕ → Op → Type 0
IsAtPage page (op.Warm p) = p ≡ page
IsAtPage page (op.Startup d p) = p ≡ page
IsAtPage page o = Unit {0}

-- how many of a processor's first ops are those of the boot program
abbrev pub boot_ops : ℕ → ℕ → CpuPlan → ℕ
boot_ops boot n p = if p.id == boot then n else 0

-- a processor of a config: its boot program, which only the boot processor has, and its script
pub record IsCpuPlan (boot boot_len ios page_number : ℕ) (p : CpuPlan) : Type 0 where
  pub id : p.id < 255
  pub long : boot_ops boot boot_len p ≤ length p.program
  pub starts : AllByRecursion (λ o. is_boot_op o ≡ true) (take (boot_ops boot boot_len p) p.program)
  pub goes_on : AllByRecursion (λ o. is_script_op o ≡ true) (drop (boot_ops boot boot_len p) p.program)
  pub places : AllByRecursion (IsOpOn ios) p.program
  pub targets : AllByRecursion (IsAimed boot) p.program
  pub page : AllByRecursion (IsAtPage page_number) p.program

-- the plan is one of a board: 1 to 8 processors, ascending by distinct ids, at most 4 I/O APICs and 4 devices; the boot
-- processor's id is below 15, and all ops that name a page name one
pub record IsConfig (c : Plan) : Type 0 where
  pub some : 1 ≤ length c.cpus
  pub few : length c.cpus ≤ 8
  pub ascending : IsAscending (map (λ p. p.id) c.cpus)
  pub boot : has c.boot (map (λ p. p.id) c.cpus) ≡ true
  pub low : c.boot < 15
  pub few_ios : length c.ios ≤ 4
  pub few_devices : length c.devices ≤ 4
  pub page : ℕ
  pub cpus : AllByRecursion (IsCpuPlan c.boot c.boot_len (length c.ios) page) c.cpus
  pub words : AllByRecursion (AllByRecursion (IsWordOn (length c.ios))) c.devices

-- the processor's boot program, and that of the board
abbrev pub boot_part : ℕ → ℕ → CpuPlan → List Op
boot_part boot n p = take (boot_ops boot n p) p.program

-- the first op is there, and the second later
abbrev pub IsFollowedBy : Op → Op → List Op → Type 0
IsFollowedBy x y ops = (before : List Op) × (between : List Op) × (rest : List Op) × (ops ≡ before ++ x ∷ (between ++ y ∷ rest))

-- the ops start the processor: by INIT and a later STARTUP where its local APIC has version 10h or above, else by the
-- warm-reset vector and a later INIT
abbrev pub IsStartedBy : Bool → ℕ → ℕ → List Op → Type 0
IsStartedBy true id page ops = IsFollowedBy (op.Init id) (op.Startup id page) ops
IsStartedBy false id page ops = IsFollowedBy (op.Warm page) (op.Init id) ops

-- the boot processor's boot program starts each other processor at the page, and names no other page
-- (MultiProcessor Specification 1.4, appendix B.4)
pub record IsStartableAt (page_number : ℕ) (c : Plan) : Type 0 where
  pub page : AllByRecursion (λ p. AllByRecursion (IsAtPage page_number) p.program) c.cpus
  pub starts : (p q : CpuPlan) → Contains c.cpus p → Contains c.cpus q → p.id ≡ c.boot → q.id ≢ c.boot → IsStartedBy (nat_le 16 q.version) q.id page_number (boot_part c.boot c.boot_len p)
