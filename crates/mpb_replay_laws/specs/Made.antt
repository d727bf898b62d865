-- How many ops an agent has made, and what it makes next by its program. Only laws and private functions cite this.
--     same_agent g h       the agents are one
--     made_by g journal    the entries of the agent
--     op_in ops n          the op of the program at place n
--     plan_with id ps      the processor with this id
--     all_made n journal ds     each of these devices, the first being device n, has made its program
use Rattle.std.specs.Prelude.{◌==◌, ℕ, ◌+◌, Bool, true, false, ◌&&◌, List, [], ◌∷◌, Option, None, Some, count_by, find, length, nat_le, slice_get}
use Rattle.mpb_spec.specs.declared.agent.Agent.{Agent}
use Rattle.mpb_spec.specs.declared.agent.Agent.TheVariants.{Cpu, Io, Dev}
use Rattle.mpb_spec.specs.declared.agent.Op.{Op}
use Rattle.mpb_spec.specs.declared.config.DevWord.{DevWord}
use Rattle.mpb_spec.specs.declared.entry.Entry.{Entry}
use Rattle.mpb_spec.specs.Plan.{CpuPlan, device_program}

-- the agents are one
abbrev pub same_agent : Agent → Agent → Bool
same_agent (Cpu i) (Cpu j) = i == j
same_agent (Io a) (Io b) = a == b
same_agent (Dev d) (Dev e) = d == e
same_agent g h = false

-- how many entries are the agent's
abbrev pub made_by : Agent → List Entry → ℕ
made_by g journal = count_by (λ x. same_agent x.agent g) journal

-- the op at a place of a processor's program
abbrev pub op_of_plan : ℕ → Option CpuPlan → Option Op
op_of_plan n None = None
op_of_plan n (Some p) = slice_get p.program n

-- at a place of a device's program
abbrev pub op_of_words : ℕ → Option (List DevWord) → Option Op
op_of_words n None = None
op_of_words n (Some words) = slice_get (device_program words) n

-- the processor with this id
abbrev pub plan_with : ℕ → List CpuPlan → Option CpuPlan
plan_with id ps = find (λ p. p.id == id) ps

-- each of these devices, the first being device n, has made its program
abbrev pub all_made : ℕ → List Entry → List (List DevWord) → Bool
all_made n journal [] = true
all_made n journal (words ∷ rest) = nat_le (length (device_program words)) (made_by (Dev n) journal) && all_made (n + 1) journal rest
