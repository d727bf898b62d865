-- Where a journal starts processors (MultiProcessor Specification 1.4, appendix B.4).
--     starts_at id journal             the pages of the Started outcomes at the processor, in order
--     life_pages life                  the page at which a processor was started
--     IsStartedOnce page c journal     each processor but the boot processor was started once, at the page
use Rattle.std.specs.Prelude.{◌≡◌, ◌≢◌, ◌==◌, ℕ, List, [], ◌∷◌, Option, None, Some, if◌then◌else◌}
use Rattle.std.specs.List.{Contains, filter_map, flat_map}
use Rattle.mpb_spec.specs.declared.config.Life.{Life}
use Rattle.mpb_spec.specs.declared.config.Life.TheVariants.{Started}
use Rattle.mpb_spec.specs.declared.entry.Entry.{Entry}
use Rattle.mpb_spec.specs.declared.entry.Outcome.{Outcome}
use Rattle.mpb_spec.specs.declared.entry.What.{What}
use Rattle.mpb_spec.specs.declared.entry.What.TheVariants as what
use Rattle.mpb_spec.specs.Plan.{Plan, CpuPlan}

-- the page at which a target starts
abbrev pub started_page : What → Option ℕ
started_page (what.Started page) = Some page
started_page w = None

-- the page of an outcome Started at the processor
abbrev pub page_at : ℕ → Outcome → Option ℕ
page_at id o = if o.at == id then started_page o.what else None

-- the pages of these outcomes, in order
abbrev pub pages_at : ℕ → List Outcome → List ℕ
pages_at id os = filter_map (page_at id) os

-- the pages of all Started outcomes at the processor in the journal, in order
abbrev pub starts_at : ℕ → List Entry → List ℕ
starts_at id journal = flat_map (λ x. pages_at id x.outcomes.items) journal

-- the page at which a processor was started, where it was
abbrev pub life_pages : Life → List ℕ
life_pages (Started page) = page ∷ []
life_pages l = []

-- each processor but the boot processor has exactly one outcome Started, and its page is this one
abbrev pub IsStartedOnce : ℕ → Plan → List Entry → Type 0
IsStartedOnce page c journal = (q : CpuPlan) → Contains c.cpus q → q.id ≢ c.boot → starts_at q.id journal ≡ page ∷ []
