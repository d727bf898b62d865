-- How often a vector was set and taken in a journal (this project's own).
--     set_count c journal d v   the Set outcomes of vector v at processor d
--     taken_count journal d v        how often the processor took it
use Rattle.std.specs.Prelude.{◌==◌, ℕ, ◌+◌, Bool, false, true, ◌&&◌, List, [], ◌∷◌, Option, None, Some, option_map, count_by, sum_by, if◌then◌else◌}
use Rattle.mpb_spec.specs.declared.agent.Agent.{Agent}
use Rattle.mpb_spec.specs.declared.agent.Agent.TheVariants.{Cpu, Io}
use Rattle.mpb_spec.specs.declared.agent.Op.{Op}
use Rattle.mpb_spec.specs.declared.agent.Op.TheVariants.{Ipi, Ipl, Send}
use Rattle.mpb_spec.specs.declared.entry.Entry.{Entry}
use Rattle.mpb_spec.specs.declared.entry.Outcome.{Outcome}
use Rattle.mpb_spec.specs.declared.entry.What.{What}
use Rattle.mpb_spec.specs.declared.entry.What.TheVariants as what
use Rattle.mpb_spec.specs.Journal.{after_entry}
use Rattle.mpb_spec.specs.Plan.{Plan, initial_state_of}
use Rattle.mpb_spec.specs.State.{BoardState}
use Rattle.mpb_spec.specs.Steps.{due_at}

-- the vector of the message that the op sends in the state, where it sends one
abbrev pub vector_sent : Agent → Op → BoardState → Option ℕ
vector_sent (Cpu id) (Ipi d v) s = Some v
vector_sent (Cpu id) (Ipl d v) s = Some v
vector_sent (Io a) (Send pin) s = option_map (λ m. m.vector) (due_at a s)
vector_sent g o s = None

-- it is v
abbrev pub is_vector : ℕ → Option ℕ → Bool
is_vector v None = false
is_vector v (Some u) = u == v

-- the outcome is Set
abbrev pub is_set : What → Bool
is_set what.Set = true
is_set w = false

-- the outcome is that v is taken
abbrev pub is_taken : ℕ → What → Bool
is_taken v (what.Taken u) = u == v
is_taken v w = false

-- the Set outcomes at processor d
abbrev pub sets_at : ℕ → List Outcome → ℕ
sets_at d os = count_by (λ o. (o.at == d) && is_set o.what) os

-- those of vector v in the entry, from the state
abbrev pub sets_by : ℕ → ℕ → BoardState → Entry → ℕ
sets_by d v s x = if is_vector v (vector_sent x.agent x.op s) then sets_at d x.outcomes.items else 0

-- those in all entries, from the state
abbrev pub sets_from : ℕ → ℕ → BoardState → List Entry → ℕ
sets_from d v s [] = 0
sets_from d v s (x ∷ xs) = sets_by d v s x + sets_from d v (after_entry s x) xs

-- the Set outcomes of vector v at processor d in the journal
abbrev pub set_count : Plan → List Entry → ℕ → ℕ → ℕ
set_count c journal d v = sets_from d v (initial_state_of c) journal

-- the agent is processor d
abbrev pub is_cpu : ℕ → Agent → Bool
is_cpu d (Cpu id) = id == d
is_cpu d g = false

-- how often processor d takes the vector in the entry
abbrev pub taken_in : ℕ → ℕ → Entry → ℕ
taken_in d v x = if is_cpu d x.agent then count_by (λ o. is_taken v o.what) x.outcomes.items else 0

-- how often it takes the vector in the journal
abbrev pub taken_count : List Entry → ℕ → ℕ → ℕ
taken_count journal d v = sum_by (taken_in d v) journal
