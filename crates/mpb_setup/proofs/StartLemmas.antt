-- Where there is no fault, the boot program of the config starts each other processor at the script's page.
use Rattle.std.proofs.Common.{◌≡◌, ◌≢◌, ◌==◌, ℕ, Bool, true, false, not, cond, ◌&&◌, ◌||◌, List, [], ◌∷◌, ◌++◌, length, map, filter, Option, None, Some, option_map, nat_le, append_assoc, refl, sym, ap, ◌∙◌, subst}
use Rattle.std.specs.Prelude.{unwrap_or}
use Rattle.std.specs.List.{AllByRecursion, flat_map, find}
use Rattle.std.proofs.lemmas.Bool.{eqb-true, eq-eqb}
use Rattle.std.proofs.lemmas.Grind.{flat_map-append}
use Rattle.std.proofs.Math.Seq.{take-append_seam}
use Rattle.mpt_spec.specs.declared.entry.Processor.{Processor}
use Rattle.mpt_route.specs.declared.platform.Platform.{Platform}
use Rattle.mpt_route.specs.declared.route.Answer.{Answer}
use Rattle.mpt_route.specs.Routes.{routes_of}
use Rattle.mpb_spec.specs.declared.agent.Op.{Op}
use Rattle.mpb_spec.specs.declared.agent.Op.TheVariants as op
use Rattle.mpb_spec.specs.Numbers.{has}
use Rattle.mpb_spec.specs.Plan.{CpuPlan}
use Rattle.mpb_spec.specs.Configs.{IsCpuPlan, IsAtPage, IsStartedBy, IsStartableAt, boot_part}
use Rattle.mpb_script.specs.declared.script.Script.{Script}
use Rattle.mpb_script.specs.Values.{HasScriptValues}
use Rattle.mpb_setup.specs.Boot.{boot_id_of, is_enabled, other_processors, start_ops, row_ops, imcr_ops, boot_program_of}
use Rattle.mpb_setup.specs.Board.{enabled_ids, io_ids, board_ids, version_in, cpu_words, cpu_plan_of, board_config_of}
use Rattle.mpb_setup.specs.Faults.{board_fault_of}
use Rattle.mpb_setup.proofs.ListLemmas.{all-map, all-weaker, all-contains}
use Rattle.mpb_setup.proofs.FaultLemmas.{no_fault}
use Rattle.mpb_setup.proofs.BoardLemmas.{IsOnBoard, ids_on_board, plans_right}

-- the enabled processor with the id, among those that are started
pub record IsStartedAmong (boot id : ℕ) (ps : List Processor) : Type 0 where
  pub it : Processor
  pub found : find (λ e. is_enabled e && (e.apic == id)) ps ≡ Some it
  pub named : it.apic ≡ id
  pub before : List Processor
  pub later : List Processor
  pub there : filter (λ e. is_enabled e && not (e.apic == boot)) ps ≡ before ++ it ∷ later

-- one more processor before it, which isn't started or is
passed : (boot id : ℕ) (x : Processor) (ps : List Processor) → IsStartedAmong boot id ps → find (λ e. is_enabled e && (e.apic == id)) (x ∷ ps) ≡ find (λ e. is_enabled e && (e.apic == id)) ps → filter (λ e. is_enabled e && not (e.apic == boot)) (x ∷ ps) ≡ filter (λ e. is_enabled e && not (e.apic == boot)) ps → IsStartedAmong boot id (x ∷ ps)
passed boot id x ps r f g = record { it = r.it; found = f ∙ r.found; named = r.named; before = r.before; later = r.later; there = g ∙ r.there }

preceded : (boot id : ℕ) (x : Processor) (ps : List Processor) → IsStartedAmong boot id ps → find (λ e. is_enabled e && (e.apic == id)) (x ∷ ps) ≡ find (λ e. is_enabled e && (e.apic == id)) ps → filter (λ e. is_enabled e && not (e.apic == boot)) (x ∷ ps) ≡ x ∷ filter (λ e. is_enabled e && not (e.apic == boot)) ps → IsStartedAmong boot id (x ∷ ps)
preceded boot id x ps r f g = record { it = r.it; found = f ∙ r.found; named = r.named; before = x ∷ r.before; later = r.later; there = g ∙ ap (λ (l : List Processor). x ∷ l) r.there }

among : (boot id : ℕ) (ps : List Processor) → has id (map (λ e. e.apic) (filter is_enabled ps)) ≡ true → id ≢ boot → IsStartedAmong boot id ps
among boot id [] h ne = absurd (cc)
among boot id (x ∷ ps) h ne = go (is_enabled x) refl (x.apic == id) refl (x.apic == boot) refl h (λ k. among boot id ps k ne)
  where
    go : (b : Bool) → is_enabled x ≡ b → (c : Bool) → (x.apic == id) ≡ c → (d : Bool) → (x.apic == boot) ≡ d → has id (map (λ e. e.apic) (cond b (x ∷ filter is_enabled ps) (filter is_enabled ps))) ≡ true → (has id (map (λ e. e.apic) (filter is_enabled ps)) ≡ true → IsStartedAmong boot id ps) → IsStartedAmong boot id (x ∷ ps)
    go true b true c true d h rest = absurd (ne (sym (eqb-true x.apic id c) ∙ eqb-true x.apic boot d))
    go true b true c false d h rest = record {
      it = x;
      found = rw (b, c) refl;
      named = eqb-true x.apic id c;
      before = [];
      later = filter (λ e. is_enabled e && not (e.apic == boot)) ps;
      there = rw (b, d) refl;
    }
    go true b false c true d h rest = passed boot id x ps (rest (subst (λ (t : Bool). (t || has id (map (λ e. e.apic) (filter is_enabled ps))) ≡ true) c h)) (rw (b, c) refl) (rw (b, d) refl)
    go true b false c false d h rest = preceded boot id x ps (rest (subst (λ (t : Bool). (t || has id (map (λ e. e.apic) (filter is_enabled ps))) ≡ true) c h)) (rw (b, c) refl) (rw (b, d) refl)
    go false b c q d w h rest = passed boot id x ps (rest h) (rw b refl) (rw b refl)

-- where one processor is started, the whole program starts it
split : (page : ℕ) (front rows : List Op) (es before later : List Processor) (e : Processor) → es ≡ before ++ e ∷ later → front ++ flat_map (start_ops page) es ++ rows ≡ (front ++ flat_map (start_ops page) before) ++ (start_ops page e ++ (flat_map (start_ops page) later ++ rows))
split page front rows es before later e at =
    let f = start_ops page in
    ap (λ (xs : List Processor). front ++ flat_map f xs ++ rows) at
    ∙ ap (λ (xs : List Op). front ++ xs ++ rows) (flat_map-append f before (e ∷ later))
    ∙ ap (λ (xs : List Op). xs ++ rows) (sym (append_assoc front (flat_map f before) (f e ++ flat_map f later)))
    ∙ append_assoc (front ++ flat_map f before) (f e ++ flat_map f later) rows
    ∙ ap (λ (xs : List Op). (front ++ flat_map f before) ++ xs) (append_assoc (f e) (flat_map f later) rows)

started_here : (page : ℕ) (e : Processor) (front rest : List Op) → IsStartedBy (nat_le 16 e.version) e.apic page (front ++ (start_ops page e ++ rest))
started_here page e front rest = go (nat_le 16 e.version)
  where
    go : (b : Bool) → IsStartedBy b e.apic page (front ++ (cond b (op.Init e.apic ∷ op.Pause 10000 ∷ op.Startup e.apic page ∷ op.Pause 200 ∷ op.Startup e.apic page ∷ op.Pause 200 ∷ op.Check e.apic ∷ []) (op.Warm page ∷ op.Init e.apic ∷ op.Pause 10000 ∷ op.Check e.apic ∷ []) ++ rest))
    go true = (front, op.Pause 10000 ∷ [], op.Pause 200 ∷ op.Startup e.apic page ∷ op.Pause 200 ∷ op.Check e.apic ∷ rest, refl)
    go false = (front, [], op.Pause 10000 ∷ op.Check e.apic ∷ rest, refl)

started : (p : Platform) (answers : List Answer) (page id : ℕ) → has id (enabled_ids p) ≡ true → id ≢ boot_id_of p → IsStartedBy (nat_le 16 (version_in p.processors id)) id page (boot_program_of p answers page)
started p answers page id h ne =
    let r = among (boot_id_of p) id p.processors h ne in
    let version : version_in p.processors id ≡ r.it.version = ap (λ (o : Option Processor). unwrap_or (option_map (λ e. e.version) o) 0) r.found in
    let rows = flat_map row_ops answers in
    let front = imcr_ops p.imcr ++ flat_map (start_ops page) r.before in
    let here : IsStartedBy (nat_le 16 r.it.version) r.it.apic page (front ++ (start_ops page r.it ++ (flat_map (start_ops page) r.later ++ rows))) = started_here page r.it front (flat_map (start_ops page) r.later ++ rows) in
    let whole : IsStartedBy (nat_le 16 r.it.version) r.it.apic page (boot_program_of p answers page) = subst (λ (ops : List Op). IsStartedBy (nat_le 16 r.it.version) r.it.apic page ops) (sym (split page (imcr_ops p.imcr) rows (other_processors p) r.before r.later r.it r.there)) here in
    subst (λ (v : ℕ). IsStartedBy (nat_le 16 v) id page (boot_program_of p answers page)) (sym version) (subst (λ (i : ℕ). IsStartedBy (nat_le 16 r.it.version) i page (boot_program_of p answers page)) r.named whole)

-- the boot processor's boot program is that of the platform
boot_part_is : (p : Platform) (ops : List Op) (s : Script) (id : ℕ) → id ≡ boot_id_of p → boot_part (boot_id_of p) (length ops) (cpu_plan_of p ops s id) ≡ ops
boot_part_is p ops s id e = let same : (id == boot_id_of p) ≡ true = eq-eqb id (boot_id_of p) e in rw same (take-append_seam ops (cpu_words s.cpus id))

pub config_starts : (p : Platform) (s : Script) → board_fault_of p s ≡ None → HasScriptValues s → IsStartableAt s.page (board_config_of p (routes_of p s.elcr) s)
unfolding board_config_of
config_starts p s e v =
    let h = no_fault p s e in
    let ops = boot_program_of p (routes_of p s.elcr) s.page in
    let boot = boot_id_of p in
    let ids = board_ids p s in
    let cpus = map (cpu_plan_of p ops s) ids in
    let firsts : AllByRecursion (λ q. q.id ≡ boot → boot_part boot (length ops) q ≡ ops) cpus =
    all-map (λ (q : CpuPlan). q.id ≡ boot → boot_part boot (length ops) q ≡ ops) (cpu_plan_of p ops s) ids
    (all-weaker (IsOnBoard p s) (λ id. id ≡ boot → boot_part boot (length ops) (cpu_plan_of p ops s id) ≡ ops) ids (λ id q. boot_part_is p ops s id) (ids_on_board p s)) in
    let others : AllByRecursion (λ r. r.id ≢ boot → IsStartedBy (nat_le 16 r.version) r.id s.page ops) cpus =
    all-map (λ (r : CpuPlan). r.id ≢ boot → IsStartedBy (nat_le 16 r.version) r.id s.page ops) (cpu_plan_of p ops s) ids
    (all-weaker (IsOnBoard p s) (λ id. id ≢ boot → IsStartedBy (nat_le 16 (version_in p.processors id)) id s.page ops) ids (λ id q. started p (routes_of p s.elcr) s.page id q.enabled) (ids_on_board p s)) in
    record {
      page = all-weaker (IsCpuPlan boot (length ops) (length (io_ids p)) s.page) (λ q. AllByRecursion (IsAtPage s.page) q.program) cpus (λ q k. k.page) (plans_right p s h v);
      starts = λ q r cq cr is ne.
          subst (λ (l : List Op). IsStartedBy (nat_le 16 r.version) r.id s.page l) (sym (all-contains (λ (x : CpuPlan). x.id ≡ boot → boot_part boot (length ops) x ≡ ops) cpus q firsts cq is))
          (all-contains (λ (x : CpuPlan). x.id ≢ boot → IsStartedBy (nat_le 16 x.version) x.id s.page ops) cpus r others cr ne);
    }
