-- The boot program of a platform: what its boot processor does before its own words (MultiProcessor Specification 1.4, sections
-- 3.6.2.1 and B.4; 82093AA datasheet, section 3.2.4). Its order is this project's own.
--     boot_id_of p                          the boot processor's id
--     other_processors p                    the enabled processors but that one, in table order
--     start_ops page e                      what starts one of them at the page
--     row_ops answer                        what writes the row of a routed interrupt
--     boot_program_of p answers page        the whole
--     AreRoutes p answers                   the answers are the platform's routes, under some ELCR
use Rattle.std.specs.Prelude.{◌≡◌, ℕ, ◌+◌, ◌*◌, ◌==◌, ◌&&◌, not, nat_le, Bool, if◌then◌else◌, List, [], ◌∷◌, ◌++◌, filter, unwrap_or, option_map}
use Rattle.std.specs.List.{flat_map}
use Rattle.mpt_spec.specs.declared.entry.Processor.{Processor}
pub use Rattle.mpt_spec.specs.Flags.{is_enabled_processor as is_enabled}
use Rattle.mpt_route.specs.declared.platform.Platform.{Platform}
use Rattle.mpt_route.specs.declared.route.Answer.{Answer}
use Rattle.mpt_route.specs.declared.route.Answer.TheVariants as answer
use Rattle.mpt_route.specs.Platform.{boot_processor_of}
use Rattle.mpt_route.specs.Routes.{routes_of}
use Rattle.mpb_spec.specs.declared.agent.Op.{Op}
use Rattle.mpb_spec.specs.declared.agent.Op.TheVariants as op

-- the boot processor's id, 0 where there is none
abbrev pub boot_id_of : Platform → ℕ
boot_id_of p = unwrap_or (option_map (λ e. e.apic) (boot_processor_of p)) 0

-- the enabled processors with another id, in table order
abbrev pub other_processors : Platform → List Processor
other_processors p = filter (λ e. is_enabled e && not (e.apic == boot_id_of p)) p.processors

-- what starts a processor at the page: a local APIC of version 10h or above by INIT and two STARTUPs, an older one by the
-- warm-reset vector and INIT; and a look whether it runs
abbrev pub start_ops : ℕ → Processor → List Op
start_ops page e =
    if nat_le 0x10 e.version
    then op.Init e.apic ∷ op.Pause 10000 ∷ op.Startup e.apic page ∷ op.Pause 200 ∷ op.Startup e.apic page ∷ op.Pause 200 ∷ op.Check e.apic ∷ []
    else op.Warm page ∷ op.Init e.apic ∷ op.Pause 10000 ∷ op.Check e.apic ∷ []

-- what writes the row of a routed interrupt: its high word, then its low word, at 11h and 10h + twice its pin
abbrev pub row_ops : Answer → List Op
row_ops (answer.Routed r) = op.IoSel r.io (0x11 + 2 * r.pin) ∷ op.IoWin r.io r.high ∷ op.IoSel r.io (0x10 + 2 * r.pin) ∷ op.IoWin r.io r.low ∷ []
row_ops _ = []

-- the APICs are connected where there is an IMCR
abbrev pub imcr_ops : Bool → List Op
imcr_ops imcr = if imcr then op.Imcr ∷ [] else []

-- the APICs are connected, each other enabled processor is started, each routed interrupt has its row
abbrev pub boot_program_of : Platform → List Answer → ℕ → List Op
boot_program_of p answers page = imcr_ops p.imcr ++ flat_map (start_ops page) (other_processors p) ++ flat_map row_ops answers

-- the answers are the platform's routes, under some edge/level control register
abbrev pub AreRoutes : Platform → List Answer → Type 0
AreRoutes p answers = (elcr : ℕ) × (answers ≡ routes_of p elcr)
