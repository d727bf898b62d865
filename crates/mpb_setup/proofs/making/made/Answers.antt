use Rattle.std.proofs.Common.{◌≡◌, ℕ, Bool, List, length, map, sym, ap, subst, ◌∙◌, arith}
use Rattle.std.specs.List.{AllByRecursion}
use Rattle.mpt_route.specs.declared.route.Answer.{Answer}
use Rattle.mpt_route.specs.Routes.{routes_of}
use Rattle.mpb_spec.specs.declared.agent.Op.{Op}
use Rattle.mpb_spec.specs.declared.config.DevWord.{DevWord}
use Rattle.mpb_spec.specs.Plan.{Plan, CpuPlan}
use Rattle.mpb_spec.specs.Configs.{IsConfig}
use Rattle.mpb_setup.specs.Boot.{boot_program_of}
use Rattle.mpb_setup.specs.Board.{board_ids, cpu_plan_of, board_config_of}
use Rattle.mpb_setup.specs.Steps.{HasPin}
use Rattle.mpb_setup.proofs.PinLemmas.{have_pins}
use Rattle.mpb_setup.proofs.FaultLemmas.{no_fault}
use Rattle.mpb_setup.proofs.BootLemmas.{boot_short}
use Rattle.mpb_setup.proofs.BoardLemmas.{config_right}
use Rattle.mpb_setup.proofs.making.made.Goals as goal

pub program-requires-clause-pins : goal.program-requires-clause-pins
program-requires-clause-pins c = subst (AllByRecursion HasPin) (sym c.requires.answers) (have_pins c.args.p.now c.args.s.now.elcr)

pub overflow_cast-boot_len : goal.overflow_cast-boot_len
overflow_cast-boot_len c =
    let p = c.args.p.now in
    let s = c.args.s.now in
    let short = boot_short p s.elcr s.page c.requires.bytes (no_fault p s c.requires.no_fault).processors in
    let long : length c.in-Ok.boot_program.items ≡ length (boot_program_of p (routes_of p s.elcr) s.page) = ap length (c.in-Ok.ensures ∙ ap (λ (answers : List Answer). boot_program_of p answers s.page) c.requires.answers) in
    omega (arith, short, long, c.len-boot_len.ensures)

abbrev plan : ℕ → ℕ → List CpuPlan → List ℕ → Bool → List (List DevWord) → Plan
plan boot long cpus ios imcr devices = record { boot = boot; boot_len = long; cpus = cpus; ios = ios; imcr = imcr; devices = devices }

-- plans of equal parts are equal
same_plan : (a b l m : ℕ) (cs ds : List CpuPlan) (is js : List ℕ) (imcr : Bool) (vs ws : List (List DevWord)) → a ≡ b → l ≡ m → cs ≡ ds → is ≡ js → vs ≡ ws → plan a l cs is imcr vs ≡ plan b m ds js imcr ws
same_plan a b l m cs ds is js imcr vs ws ea el ec ei ev =
    ap (λ (x : ℕ). plan x l cs is imcr vs) ea
    ∙ ap (λ (x : ℕ). plan b x cs is imcr vs) el
    ∙ ap (λ (x : List CpuPlan). plan b m x is imcr vs) ec
    ∙ ap (λ (x : List ℕ). plan b m ds x imcr vs) ei
    ∙ ap (λ (x : List (List DevWord)). plan b m ds js imcr x) ev

pub invariant_of-result : goal.invariant_of-result
unfolding board_config_of
invariant_of-result c =
    let p = c.args.p.now in
    let s = c.args.s.now in
    let routed = ap (λ (answers : List Answer). boot_program_of p answers s.page) c.requires.answers in
    let ops : c.in-Ok.boot_program.items ≡ boot_program_of p (routes_of p s.elcr) s.page = c.in-Ok.ensures ∙ routed in
    let long : c.len-boot_len.result ≡ length (boot_program_of p (routes_of p s.elcr) s.page) = omega (arith, c.len-boot_len.ensures, ap length ops) in
    let cpus : c.in-Ok-cpu_configs.cpus.items ≡ map (cpu_plan_of p (boot_program_of p (routes_of p s.elcr) s.page) s) (board_ids p s) =
    c.in-Ok-cpu_configs.ensures ∙ ap (λ (xs : List Op). map (cpu_plan_of p xs s) c.args.board.now) (c.as_slice.ensures.value ∙ ops) ∙ ap (map (cpu_plan_of p (boot_program_of p (routes_of p s.elcr) s.page) s)) c.requires.board in
    let devices = c.in-Ok-device_words.ensures ∙ c.as_slice-2.ensures in
    subst IsConfig (sym (same_plan _ _ _ _ _ _ _ _ p.imcr _ _ c.boot_id-boot.ensures long cpus c.requires.ios devices)) (config_right p s c.requires.no_fault c.requires.values)
