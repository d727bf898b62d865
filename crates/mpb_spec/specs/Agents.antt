-- The agents of a board, and what one of them did in a journal: this project's own.
--     agents_of c              the agents of a board, in order
--     is_agent g h             g is the agent h
--     entries_of g journal     the agent's entries, in order
--     IsPrefix seen journal    the journal goes on from what was seen
use Rattle.std.specs.Prelude.{◌≡◌, ◌==◌, Bool, false, List, ◌++◌, map, filter, length}
use Rattle.std.specs.List.{range_with_len}
use Rattle.mpb_spec.specs.declared.agent.Agent.{Agent}
use Rattle.mpb_spec.specs.declared.agent.Agent.TheVariants.{Cpu, Io, Dev}
use Rattle.mpb_spec.specs.declared.entry.Entry.{Entry}
use Rattle.mpb_spec.specs.Plan.{Plan}

-- the agents of a board: its processors by id, then its I/O APICs and its devices by place
abbrev pub agents_of : Plan → List Agent
agents_of c = map (λ p. Cpu p.id) c.cpus ++ (map Io (range_with_len 0 (length c.ios)) ++ map Dev (range_with_len 0 (length c.devices)))

-- the first agent is the second
abbrev pub is_agent : Agent → Agent → Bool
is_agent (Cpu a) (Cpu b) = a == b
is_agent (Io a) (Io b) = a == b
is_agent (Dev a) (Dev b) = a == b
is_agent g h = false

-- the agent's entries, in order
abbrev pub entries_of : Agent → List Entry → List Entry
entries_of g journal = filter (λ x. is_agent x.agent g) journal

-- the journal goes on from what was seen
abbrev pub IsPrefix : List Entry → List Entry → Type 0
IsPrefix seen journal = (rest : List Entry) × (journal ≡ seen ++ rest)
