-- The board of a platform under a script (this project's own).
--     enabled_ids p                    the ids of the enabled processors, in table order
--     io_ids p                         the ids of the enabled I/O APICs, by place
--     board_ids p s                    the ids of the board's processors, ascending
--     words_of s id                    the words of the script's program for the processor
--     board_config_of p answers s      the config
use Rattle.std.specs.Prelude.{ℕ, ◌==◌, ◌&&◌, Bool, true, if◌then◌else◌, List, [], ◌++◌, length, map, filter, find, Option, None, Some, unwrap_or, option_map}
use Rattle.std.specs.List.{range_with_len}
use Rattle.mpt_spec.specs.declared.entry.Processor.{Processor}
use Rattle.mpt_route.specs.declared.platform.Platform.{Platform}
use Rattle.mpt_route.specs.declared.route.Answer.{Answer}
use Rattle.mpt_route.specs.Routes as routes
use Rattle.mpb_spec.specs.declared.agent.Op.{Op}
use Rattle.mpb_spec.specs.Numbers.{has}
use Rattle.mpb_spec.specs.Plan.{Plan, CpuPlan}
use Rattle.mpb_script.specs.declared.script.Script.{Script}
use Rattle.mpb_script.specs.declared.script.CpuScript.{CpuScript}
use Rattle.mpb_setup.specs.Boot.{boot_id_of, is_enabled, boot_program_of}

-- the ids of the enabled processors
abbrev pub enabled_ids : Platform → List ℕ
enabled_ids p = map (λ e. e.apic) (filter is_enabled p.processors)

-- the ids of the enabled I/O APICs
abbrev pub io_ids : Platform → List ℕ
io_ids p = map (λ io. io.id) (filter routes.is_enabled p.ios)

-- the script lists the processor as present; without a list all are
abbrev pub is_present : Option (List ℕ) → ℕ → Bool
is_present None id = true
is_present (Some ids) id = has id ids

-- the ids that a byte may say, ascending
unfoldable pub all_ids : List ℕ
all_ids = range_with_len 0 256

-- the ids of the enabled processors that are present, ascending
abbrev pub board_ids : Platform → Script → List ℕ
board_ids p s = filter (λ id. has id (enabled_ids p) && is_present s.present id) all_ids

-- the version of the enabled processor with the id
abbrev pub version_in : List Processor → ℕ → ℕ
version_in processors id = unwrap_or (option_map (λ e. e.version) (find (λ e. is_enabled e && (e.apic == id)) processors)) 0

-- the words of the processor with the id; a program without a table is empty
abbrev pub cpu_words : List CpuScript → ℕ → List Op
cpu_words cpus id = unwrap_or (option_map (λ c. c.words) (find (λ c. c.id == id) cpus)) []

-- a processor: the boot processor has the boot program before its words
abbrev pub cpu_plan_of : Platform → List Op → Script → ℕ → CpuPlan
cpu_plan_of p boot_program s id = record {
  id = id;
  version = version_in p.processors id;
  program = (if id == boot_id_of p then boot_program else []) ++ cpu_words s.cpus id;
}

-- the config: the boot processor and the length of its boot program, the board's processors, the I/O APICs by place, whether
-- there is an IMCR, and the words of each device
unfoldable pub board_config_of : Platform → List Answer → Script → Plan
board_config_of p answers s = record {
  boot = boot_id_of p;
  boot_len = length (boot_program_of p answers s.page);
  cpus = map (cpu_plan_of p (boot_program_of p answers s.page) s) (board_ids p s);
  ios = io_ids p;
  imcr = p.imcr;
  devices = s.devices;
}
