-- The ops of a board have numbers of their types: those of its boot program, and those of a script's words.
use Rattle.std.proofs.Common.{◌≡◌, ◌==◌, ℕ, zero, suc, ◌+◌, ◌*◌, ◌^◌, ◌<◌, ◌≤◌, ◌/◌, Bool, true, false, cond, not, ◌&&◌, List, [], ◌∷◌, ◌++◌, map, filter, Option, None, Some, option_map, slice_get, nat_le, refl, sym, subst, inl, inr, arith}
use Rattle.std.specs.Prelude.{unwrap_or}
use Rattle.std.specs.List.{AllByRecursion, find, flat_map}
use Rattle.mpt_spec.specs.declared.entry.Processor.{Processor}
use Rattle.mpt_spec.specs.declared.entry.IntEntry.{IntEntry}
use Rattle.mpt_spec.specs.Interrupts.{trigger_of}
use Rattle.mpt_spec.specs.Flags.{is_boot_processor}
use Rattle.mpt_route.specs.declared.platform.Platform.{Platform}
use Rattle.mpt_route.specs.declared.route.Answer.{Answer}
use Rattle.mpt_route.specs.declared.route.Answer.TheVariants as answer
use Rattle.mpt_route.specs.Routes.{routes_of, high_word_of, is_int, bit}
use Rattle.mpt_route.specs.Sense.{is_level}
use Rattle.mpt_route.proofs.ReasonLemmas.{are_routes}
use Rattle.mpt_route_laws.specs.Rows.{IsRowOf, IsOnPin, is_bus_level_low}
use Rattle.mpt_route_laws.proofs.RowLemmas.{is_row_of, entry_at, on_pin}
use Rattle.mpb_spec.specs.declared.agent.Op.{Op}
use Rattle.mpb_spec.specs.declared.agent.Op.TheVariants as op
use Rattle.mpb_spec.specs.Numbers.{AreBytes}
use Rattle.mpb_spec.specs.Plan.{CpuPlan}
use Rattle.mpb_words.specs.Values.{IsCpuWord}
use Rattle.mpb_script.specs.declared.script.Script.{Script}
use Rattle.mpb_script.specs.declared.script.CpuScript.{CpuScript}
use Rattle.mpb_script.specs.Values.{HasScriptValues}
use Rattle.mpb_setup.specs.Boot.{boot_id_of, is_enabled, other_processors, start_ops, row_ops, imcr_ops, boot_program_of}
use Rattle.mpb_setup.specs.Board.{enabled_ids, board_ids, cpu_words, cpu_plan_of, board_config_of}
use Rattle.mpb_setup.specs.Faults.{board_fault_of}
use Rattle.mpb_setup.proofs.FaultLemmas.{no_fault}
use Rattle.mpb_setup.proofs.ListLemmas.{all-append, all-flat_map, all-map, all-weaker}
use Rattle.mpb_report_laws.specs.Values.{IsOpValue, HasOpValues}

-- what a script's word says
word_value : (o : Op) → IsCpuWord o → IsOpValue o
word_value (op.Ipi d v) h = h
word_value (op.Ipl d v) h = h
word_value (op.Nmi d) h = h
word_value op.Take h = tt
word_value op.Poll h = tt
word_value op.Eoi h = tt
word_value (op.Tpr n) h = h
word_value (op.Ldr n) h = h
word_value (op.Dfr n) h = elim h [ inl e ↦ omega (arith, e) | inr e ↦ omega (arith, e) ]
word_value (op.IoSel a r) h = (omega (arith, h.0), h.1)
word_value (op.IoWin a v) h = (omega (arith, h.0), h.1)
word_value (op.IoRead a) h = omega (arith, h)
word_value (op.Pause us) h = omega (arith, h)
word_value o h = absurd h

words_value : (cs : List CpuScript) (id : ℕ) → AllByRecursion (λ c. AllByRecursion IsCpuWord c.words) cs → AllByRecursion IsOpValue (cpu_words cs id)
words_value [] id h = tt
words_value (c ∷ cs) id h = go (c.id == id) (words_value cs id h.1)
  where
    go : (b : Bool) → AllByRecursion IsOpValue (cpu_words cs id) → AllByRecursion IsOpValue (unwrap_or (option_map (λ d. d.words) (cond b (Some c) (find (λ d. d.id == id) cs))) [])
    go true rest = all-weaker IsCpuWord IsOpValue c.words word_value h.0
    go false rest = rest

-- what starts a processor
start_value : (page : ℕ) (e : Processor) → page < 256 → e.apic < 256 → AllByRecursion IsOpValue (start_ops page e)
start_value page e small byte = go (nat_le 0x10 e.version)
  where
    go : (b : Bool) → AllByRecursion IsOpValue (cond b (op.Init e.apic ∷ op.Pause 10000 ∷ op.Startup e.apic page ∷ op.Pause 200 ∷ op.Startup e.apic page ∷ op.Pause 200 ∷ op.Check e.apic ∷ []) (op.Warm page ∷ op.Init e.apic ∷ op.Pause 10000 ∷ op.Check e.apic ∷ []))
    go true = (byte, (omega arith, ((byte, small), (omega arith, ((byte, small), (omega arith, (byte, tt)))))))
    go false = (small, (byte, (omega arith, (byte, tt))))

others_bytes : (boot : ℕ) (ps : List Processor) → AreBytes (map (λ e. e.apic) (filter is_enabled ps)) → AllByRecursion (λ e. e.apic < 256) (filter (λ e. is_enabled e && not (e.apic == boot)) ps)
others_bytes boot [] h = tt
others_bytes boot (e ∷ ps) h = go (is_enabled e) (not (e.apic == boot)) h (λ k. others_bytes boot ps k)
  where
    go : (b c : Bool) → AreBytes (map (λ x. x.apic) (cond b (e ∷ filter is_enabled ps) (filter is_enabled ps))) → (AreBytes (map (λ x. x.apic) (filter is_enabled ps)) → AllByRecursion (λ x. x.apic < 256) (filter (λ x. is_enabled x && not (x.apic == boot)) ps)) → AllByRecursion (λ x. x.apic < 256) (cond (b && c) (e ∷ filter (λ x. is_enabled x && not (x.apic == boot)) ps) (filter (λ x. is_enabled x && not (x.apic == boot)) ps))
    go true true h rest = (h.0, rest h.1)
    go true false h rest = rest h.1
    go false c h rest = rest h

-- the high word of all rows is the boot processor's id in bits 31 to 24
high_small : (ps : List Processor) → unwrap_or (option_map (λ e. e.apic) (find is_boot_processor ps)) 0 < 15 → high_word_of ps < 2 ^ 32
high_small ps low = go (find is_boot_processor ps) low
  where
    go : (o : Option Processor) → unwrap_or (option_map (λ e. e.apic) o) 0 < 15 → unwrap_or (option_map (λ e. 2 ^ 24 * e.apic) o) 0 < 2 ^ 32
    go None low = omega arith
    go (Some e) low = omega (arith, low)

bit_small : (b : Bool) → bit b < 2
bit_small true = omega arith
bit_small false = omega arith

low_small : (n : ℕ) (b : Bool) → n / 2 ^ 15 ≡ bit b → n < 2 ^ 32
low_small n b e = let one : bit b < 2 = bit_small b in omega (arith, e, one)

-- a routed row
row_value : (p : Platform) (elcr i : ℕ) (a : Answer) → boot_id_of p < 15 → slice_get (routes_of p elcr) i ≡ Some a → AllByRecursion IsOpValue (row_ops a)
row_value p elcr i (answer.Unrouted n why) low at = tt
row_value p elcr i (answer.Routed r) low at =
    let e : (e : IntEntry) × (slice_get p.ints i ≡ Some e) = entry_at p.ints (routes_of p elcr) i (answer.Routed r) (are_routes p elcr).count at in
    let row : IsRowOf p elcr i e.0 r = is_row_of p elcr i e.0 r e.1 at in
    let on : IsOnPin r = on_pin p elcr i e.0 r e.1 at in
    let high : r.high < 2 ^ 32 = subst (λ (n : ℕ). n < 2 ^ 32) (sym row.high) (high_small p.processors low) in
    let word : r.low < 2 ^ 32 = low_small r.low (is_level (trigger_of e.0.flags) (is_bus_level_low p elcr e.0) && is_int row.kind) row.trigger_bit in
    let place : r.io < 256 = omega (arith, on.0) in
    let pin : r.pin < 24 = on.1 in
    ((place, omega arith), ((place, high), ((place, omega arith), ((place, word), tt))))

each_row : (xs : List Answer) → ((i : ℕ) (a : Answer) → slice_get xs i ≡ Some a → AllByRecursion IsOpValue (row_ops a)) → AllByRecursion (λ a. AllByRecursion IsOpValue (row_ops a)) xs
each_row [] h = tt
each_row (x ∷ xs) h = (h 0 x refl, each_row xs (λ i a e. h (suc i) a e))

imcr_value : (b : Bool) → AllByRecursion IsOpValue (imcr_ops b)
imcr_value true = (tt, tt)
imcr_value false = tt

module _ (p : Platform) (s : Script) (sound : board_fault_of p s ≡ None) (values : HasScriptValues s) (bytes : AreBytes (enabled_ids p)) where
  page_small : s.page < 256
  page_small = elim values.page [ inl h ↦ omega (arith, h) | inr h ↦ h.1 ]

  boot_value : AllByRecursion IsOpValue (boot_program_of p (routes_of p s.elcr) s.page)
  boot_value =
      let starts : List Op = flat_map (start_ops s.page) (other_processors p) in
      let rows : List Op = flat_map row_ops (routes_of p s.elcr) in
      let others : AllByRecursion (λ e. e.apic < 256) (other_processors p) = others_bytes (boot_id_of p) p.processors bytes in
      let low : boot_id_of p < 15 = (no_fault p s sound).low in
      all-append IsOpValue (imcr_ops p.imcr ++ starts) rows
      (all-append IsOpValue (imcr_ops p.imcr) starts (imcr_value p.imcr)
      (all-flat_map IsOpValue (start_ops s.page) (other_processors p) (all-weaker (λ e. e.apic < 256) (λ e. AllByRecursion IsOpValue (start_ops s.page e)) (other_processors p) (λ e h. start_value s.page e page_small h) others)))
      (all-flat_map IsOpValue row_ops (routes_of p s.elcr) (each_row (routes_of p s.elcr) (λ i a e. row_value p s.elcr i a low e)))

  program_value : (id : ℕ) → AllByRecursion IsOpValue (cpu_plan_of p (boot_program_of p (routes_of p s.elcr) s.page) s id).program
  program_value id = go (id == boot_id_of p)
    where
      go : (b : Bool) → AllByRecursion IsOpValue (cond b (boot_program_of p (routes_of p s.elcr) s.page) [] ++ cpu_words s.cpus id)
      go true = all-append IsOpValue (boot_program_of p (routes_of p s.elcr) s.page) (cpu_words s.cpus id) boot_value (words_value s.cpus id values.cpu_words)
      go false = words_value s.cpus id values.cpu_words

  of_ids : (ids : List ℕ) → AllByRecursion (λ q. AllByRecursion IsOpValue q.program) (map (cpu_plan_of p (boot_program_of p (routes_of p s.elcr) s.page) s) ids)
  of_ids [] = tt
  of_ids (id ∷ ids) = (program_value id, of_ids ids)

  -- the numbers of every op of the board fit their types
  pub board_values : HasOpValues (board_config_of p (routes_of p s.elcr) s)
  unfolding board_config_of
  board_values = of_ids (board_ids p s)
