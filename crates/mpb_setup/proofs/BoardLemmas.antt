-- Where there is no fault, the config of a platform, its routes and a script is one of a board.
use Rattle.std.proofs.Common.{◌≡◌, ◌==◌, ℕ, ◌%◌, ◌<◌, Bool, true, false, cond, ◌&&◌, ◌||◌, List, [], ◌∷◌, ◌++◌, length, length-append, map, filter, None, Some, option_map, is_some, refl, sym, ap, ◌∙◌, arith}
use Rattle.std.specs.Prelude.{unwrap_or}
use Rattle.std.specs.List.{AllByRecursion, find}
use Rattle.std.proofs.lemmas.Bool.{eqb-true, eqb-false, eq-eqb}
use Rattle.std.proofs.Math.Seq.{take-append_seam, drop-append_seam}
use Rattle.mpt_spec.specs.declared.entry.Processor.{Processor}
use Rattle.mpt_route.specs.declared.platform.Platform.{Platform}
use Rattle.mpt_route.specs.Platform.{is_boot_processor}
use Rattle.mpt_route.specs.Routes.{routes_of}
use Rattle.mpb_spec.specs.declared.agent.Op.{Op}
use Rattle.mpb_spec.specs.Numbers.{has, IsAscending}
use Rattle.mpb_spec.specs.Configs.{IsCpuPlan, IsConfig, IsOpOn, IsAimed, IsAtPage, is_boot_op, is_script_op}
use Rattle.mpb_spec.proofs.NumberLemmas.{IsAscending-filter}
use Rattle.mpb_script.specs.declared.script.Script.{Script}
use Rattle.mpb_script.specs.Values.{HasScriptValues}
use Rattle.mpb_setup.specs.Boot.{boot_id_of, is_enabled, boot_program_of}
use Rattle.mpb_setup.specs.Board.{enabled_ids, io_ids, is_present, board_ids, all_ids, version_in, cpu_words, cpu_plan_of, board_config_of}
use Rattle.mpb_setup.specs.Faults.{board_fault_of}
use Rattle.mpb_setup.proofs.ListLemmas.{all-append, all-filter, all-map, all-weaker, all-both, ids-ascending, ids-below, has-id, has-filter, has-some}
use Rattle.mpb_setup.proofs.FaultLemmas.{HasNoFault, no_fault}
use Rattle.mpb_setup.proofs.BootLemmas.{IsBootOp, boot_right}
use Rattle.mpb_setup.proofs.WordLemmas.{IsScriptOp, names_below, cpu_words_right, devices_right}

-- the boot processor is an enabled one
odd : (n : ℕ) → (n % 4 == 3) ≡ true → (n % 2 == 1) ≡ true
odd n e = let three = eqb-true (n % 4) 3 e in eq-eqb (n % 2) 1 (omega (arith, three))

boot_enabled : (ps : List Processor) → is_some (find is_boot_processor ps) ≡ true → has (unwrap_or (option_map (λ e. e.apic) (find is_boot_processor ps)) 0) (map (λ e. e.apic) (filter is_enabled ps)) ≡ true
boot_enabled [] e = cc
boot_enabled (x ∷ ps) e = go (is_boot_processor x) refl (is_enabled x) refl e (λ h. boot_enabled ps h)
  where
    go : (b : Bool) → is_boot_processor x ≡ b → (c : Bool) → is_enabled x ≡ c → is_some (cond b (Some x) (find is_boot_processor ps)) ≡ true → (is_some (find is_boot_processor ps) ≡ true → has (unwrap_or (option_map (λ e. e.apic) (find is_boot_processor ps)) 0) (map (λ e. e.apic) (filter is_enabled ps)) ≡ true) → has (unwrap_or (option_map (λ e. e.apic) (cond b (Some x) (find is_boot_processor ps))) 0) (map (λ e. e.apic) (cond c (x ∷ filter is_enabled ps) (filter is_enabled ps))) ≡ true
    go true b true c e rest = let same : (x.apic == x.apic) ≡ true = eq-eqb x.apic x.apic refl in rw same refl
    go true b false c e rest = let on : is_enabled x ≡ true = odd x.flags b in cc
    go false b true c e rest = or_right (x.apic == unwrap_or (option_map (λ e. e.apic) (find is_boot_processor ps)) 0) (rest e)
      where
        or_right : (b : Bool) {d : Bool} → d ≡ true → (b || d) ≡ true
        or_right true h = refl
        or_right false h = h
    go false b false c e rest = rest e

-- an id of the board
pub record IsOnBoard (p : Platform) (s : Script) (id : ℕ) : Type 0 where
  pub enabled : has id (enabled_ids p) ≡ true
  pub present : is_present s.present id ≡ true

and_left : (b c : Bool) → (b && c) ≡ true → b ≡ true
and_left true c e = refl
and_left false c e = cc

and_right : (b c : Bool) → (b && c) ≡ true → c ≡ true
and_right true c e = e
and_right false c e = cc

pub ids_on_board : (p : Platform) (s : Script) → AllByRecursion (IsOnBoard p s) (board_ids p s)
ids_on_board p s =
    all-filter (IsOnBoard p s) (λ id. has id (enabled_ids p) && is_present s.present id) all_ids
    (λ id e. record { enabled = and_left (has id (enabled_ids p)) (is_present s.present id) e; present = and_right (has id (enabled_ids p)) (is_present s.present id) e })

kept : (P : ℕ → Type 0) (f : ℕ → Bool) (xs : List ℕ) → AllByRecursion P xs → AllByRecursion P (filter f xs)
kept P f [] a = tt
kept P f (x ∷ xs) a = elim (f x) as (λ b. AllByRecursion P (cond b (x ∷ filter f xs) (filter f xs))) [ true ↦ (a.0, kept P f xs a.1) | false ↦ kept P f xs a.1 ]

pub ids_ascending : (p : Platform) (s : Script) → IsAscending (board_ids p s)
ids_ascending p s = IsAscending-filter (λ id. has id (enabled_ids p) && is_present s.present id) all_ids ids-ascending

pub boot_on_board : (p : Platform) (s : Script) → HasNoFault p s → has (boot_id_of p) (board_ids p s) ≡ true
boot_on_board p s h =
    let boot = boot_id_of p in
    let enabled : has boot (enabled_ids p) ≡ true = boot_enabled p.processors h.boot in
    let both : (has boot (enabled_ids p) && is_present s.present boot) ≡ true = rw (enabled, h.present) refl in
    has-filter (λ id. has id (enabled_ids p) && is_present s.present id) boot all_ids both (has-id boot (omega (arith, h.low)))

-- the ids of the config's processors are those of the board
pub plan_ids : (p : Platform) (ops : List Op) (s : Script) (ids : List ℕ) → map (λ q. q.id) (map (cpu_plan_of p ops s) ids) ≡ ids
plan_ids p ops s [] = refl
plan_ids p ops s (id ∷ ids) = ap (λ (l : List ℕ). id ∷ l) (plan_ids p ops s ids)

plan_count : (p : Platform) (ops : List Op) (s : Script) (ids : List ℕ) → length (map (cpu_plan_of p ops s) ids) ≡ length ids
plan_count p ops s [] = refl
plan_count p ops s (id ∷ ids) = omega (arith, plan_count p ops s ids)

-- a boot program and a script make a processor's program
program_right : (n boot page id version : ℕ) (ops words : List Op) → id < 255 → AllByRecursion (IsBootOp n boot page) ops → AllByRecursion (IsScriptOp n boot page) words → IsCpuPlan boot (length ops) n page (record { id = id; version = version; program = cond (id == boot) ops [] ++ words })
program_right n boot page id version ops words l h k = go (id == boot) refl
  where
    script_only : (P : Op → Type 0) → ((o : Op) → IsScriptOp n boot page o → P o) → AllByRecursion P words
    script_only P f = all-weaker (IsScriptOp n boot page) P words f k

    both : (P : Op → Type 0) → ((o : Op) → IsBootOp n boot page o → P o) → ((o : Op) → IsScriptOp n boot page o → P o) → AllByRecursion P (ops ++ words)
    both P f g = all-append P ops words (all-weaker (IsBootOp n boot page) P ops f h) (script_only P g)

    go : (b : Bool) → (id == boot) ≡ b → IsCpuPlan boot (length ops) n page (record { id = id; version = version; program = cond b ops [] ++ words })
    go true b = record {
      id = l;
      long = rw b (omega (arith, length-append ops words));
      starts = rw (b, take-append_seam ops words) (all-weaker (IsBootOp n boot page) (λ o. is_boot_op o ≡ true) ops (λ o q. q.kind) h);
      goes_on = rw (b, drop-append_seam ops words) (script_only (λ o. is_script_op o ≡ true) (λ o q. q.kind));
      places = both (IsOpOn n) (λ o q. q.place) (λ o q. q.place);
      targets = both (IsAimed boot) (λ o q. q.target) (λ o q. q.target);
      page = both (IsAtPage page) (λ o q. q.page) (λ o q. q.page);
    }
    go false b = record {
      id = l;
      long = rw b (omega arith);
      starts = rw b tt;
      goes_on = rw b (script_only (λ o. is_script_op o ≡ true) (λ o q. q.kind));
      places = script_only (IsOpOn n) (λ o q. q.place);
      targets = script_only (IsAimed boot) (λ o q. q.target);
      page = script_only (IsAtPage page) (λ o q. q.page);
    }

-- an id of the board is below 255
narrow_id : (p : Platform) (id : ℕ) → has 255 (enabled_ids p) ≡ false → has id (enabled_ids p) ≡ true → id < 256 → id < 255
narrow_id p id h k l = go (id == 255) refl
  where
    go : (b : Bool) → (id == 255) ≡ b → id < 255
    go true b = absurd (let same : id ≡ 255 = eqb-true id 255 b in let on : has 255 (enabled_ids p) ≡ true = ap (λ (x : ℕ). has x (enabled_ids p)) (sym same) ∙ k in cc)
    go false b = let ne = eqb-false id 255 b in omega (arith, ne, l)

pub plans_right : (p : Platform) (s : Script) → HasNoFault p s → HasScriptValues s → AllByRecursion (IsCpuPlan (boot_id_of p) (length (boot_program_of p (routes_of p s.elcr) s.page)) (length (io_ids p)) s.page) (map (cpu_plan_of p (boot_program_of p (routes_of p s.elcr) s.page) s) (board_ids p s))
plans_right p s h v =
    let n = length (io_ids p) in
    let boot = boot_id_of p in
    let ops = boot_program_of p (routes_of p s.elcr) s.page in
    let ids = board_ids p s in
    let named = names_below n ids s h.places in
    let below = kept (λ id. id < 256) (λ id. has id (enabled_ids p) && is_present s.present id) all_ids ids-below in
    all-map (IsCpuPlan boot (length ops) n s.page) (cpu_plan_of p ops s) ids
    (all-weaker (λ id. (IsOnBoard p s id × (id < 256)) × (has id ids ≡ true)) (λ id. IsCpuPlan boot (length ops) n s.page (cpu_plan_of p ops s id)) ids
    (λ id q. program_right n boot s.page id (version_in p.processors id) ops (cpu_words s.cpus id) (narrow_id p id h.narrow q.0.0.enabled q.0.1) (boot_right p s.elcr s.page h.narrow)
    (cpu_words_right n boot s.page id ids s q.1 v.cpu_words named))
    (all-both (λ id. IsOnBoard p s id × (id < 256)) (λ id. has id ids ≡ true) ids (all-both (IsOnBoard p s) (λ id. id < 256) ids (ids_on_board p s) below) (members ids)))
  where
    or_left : (b c : Bool) → b ≡ true → (b || c) ≡ true
    or_left true c e = refl
    or_left false c e = cc

    or_right : (b c : Bool) → c ≡ true → (b || c) ≡ true
    or_right true c e = refl
    or_right false c e = e

    members : (xs : List ℕ) → AllByRecursion (λ id. has id xs ≡ true) xs
    members [] = tt
    members (x ∷ xs) = (
      or_left (x == x) (has x xs) (eq-eqb x x refl),
      all-weaker (λ id. has id xs ≡ true) (λ id. has id (x ∷ xs) ≡ true) xs (λ id e. or_right (x == id) (has id xs) e) (members xs),
    )

pub config_right : (p : Platform) (s : Script) → board_fault_of p s ≡ None → HasScriptValues s → IsConfig (board_config_of p (routes_of p s.elcr) s)
unfolding board_config_of
config_right p s e v =
    let h = no_fault p s e in
    let ops = boot_program_of p (routes_of p s.elcr) s.page in
    let ids = board_ids p s in
    let same = plan_ids p ops s ids in
    let count = plan_count p ops s ids in
    let there = boot_on_board p s h in
    record {
      some = omega (arith, count, has-some (boot_id_of p) ids there);
      few = omega (arith, count, h.few);
      ascending = rw same (ids_ascending p s);
      boot = rw same there;
      low = h.low;
      few_ios = h.few_ios;
      few_devices = v.few_devices;
      page = s.page;
      cpus = plans_right p s h v;
      words = devices_right (length (io_ids p)) ids s v.device_words (names_below (length (io_ids p)) ids s h.places);
    }
