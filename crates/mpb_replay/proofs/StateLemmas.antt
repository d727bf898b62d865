-- The lines of a report beside those of a board.
use Rattle.std.proofs.Common.{◌≡◌, ◌≢◌, ℕ, zero, suc, ◌+◌, ◌<◌, ◌≤◌, Bool, true, false, List, [], ◌∷◌, ◌++◌, length, map, take, get_or, refl, sym, ap, ◌∙◌, subst, arith, Option, Some, None, slice_get, MatchBool, nat_lt}
use Rattle.std.proofs.lemmas.Bool.{ltb-false}
use Rattle.std.proofs.lemmas.List.{length-map, get_or-map}
use Rattle.std.specs.Option.{option_map}
use Rattle.mpb_spec.specs.declared.entry.Entry.{Entry}
use Rattle.mpb_spec.specs.Numbers.{IsAscending}
use Rattle.mpb_spec.specs.IoApic.{IoChip, mask_by}
use Rattle.mpb_spec.specs.State.{Processor, Place, BoardState, processor_of}
use Rattle.mpb_spec.specs.Plan.{Plan, CpuPlan, first_processor}
use Rattle.mpb_spec.specs.Configs.{IsConfig}
use Rattle.mpb_spec.specs.Journal.{final_state_of}
use Rattle.mpb_spec.proofs.StateLemmas.{got_at, got_beyond}
use Rattle.mpb_laws.proofs.PartsStay.{ids_stay}
use Rattle.mpb_start_laws.proofs.Lists.{read_here}
use Rattle.mpb_start_laws.proofs.Processors.{found_member}
use Rattle.mpb_report_spec.specs.StateLines.{members}
use Rattle.mpb_report_line.specs.declared.report.CpuLine.{CpuLine}
use Rattle.mpb_report_line.specs.declared.report.IoLine.{IoLine}
use Rattle.mpb_report_line.specs.declared.report.Report.{Report}
use Rattle.mpb_replay_laws.specs.Differences.{IsFirstDifference}
use Rattle.mpb_replay_laws.specs.Lines.{StateLine, RegisterLine, cpu_line_in, io_line_in, line_of_processor, line_of_place, lines_in, lines_of}
use Rattle.mpb_replay_laws.proofs.Firsts.{here, longer, shorter, later}
use Rattle.mpb_replay.specs.Compared.{IsLineOf, HasRegisters, IsLineOfChip}
use Rattle.mpb_replay.proofs.PlaceLemmas.{got_map, both}

-- ---- one line

-- the processor at a place is found by the id that stands there in the plan
pub record IsAt (ps : List Processor) (n id : ℕ) : Type 0 where
  pub processor : Processor
  pub here : slice_get ps n ≡ Some processor
  pub found : processor_of id ps ≡ Some processor
  pub id_is : processor.id ≡ id

pub processor_at : (c : Plan) (journal : List Entry) (n : ℕ) (q : CpuPlan) (cpus : List CpuPlan) → IsConfig c → cpus ≡ c.cpus → n < length cpus → q ≡ get_or cpus n q → IsAt (final_state_of c journal).processors n q.id
processor_at c journal n q cpus is same lt q-is =
    let ps = (final_state_of c journal).processors in
    let d : Processor = first_processor 0 q in
    let ids : map (λ (p : Processor). p.id) ps ≡ map (λ (p : CpuPlan). p.id) cpus = ids_stay c journal ∙ ap (λ (l : List CpuPlan). map (λ (p : CpuPlan). p.id) l) (sym same) in
    let long : n < length ps = omega (arith, lt, length-map ps (λ (p : Processor). p.id), length-map cpus (λ (p : CpuPlan). p.id), ap (λ (l : List ℕ). length l) ids) in
    let p : Processor = get_or ps n d in
    let at : slice_get ps n ≡ Some p = got_at n ps d long in
    let id : p.id ≡ q.id = sym (get_or-map (λ (x : Processor). x.id) ps n d 0 long) ∙ ap (λ (l : List ℕ). get_or l n 0) ids ∙ get_or-map (λ (x : CpuPlan). x.id) cpus n q 0 lt ∙ ap (λ (x : CpuPlan). x.id) (sym q-is) in
    let up : IsAscending (map (λ (x : Processor). x.id) ps) = subst IsAscending (sym (ids_stay c journal)) is.ascending in
    record { processor = p; here = at; found = subst (λ (i : ℕ). processor_of i ps ≡ Some p) id (found_member ps p up (read_here ps n p at)); id_is = id }

pub none_at : (c : Plan) (journal : List Entry) (n : ℕ) (cpus : List CpuPlan) → cpus ≡ c.cpus → false ≡ nat_lt n (length cpus) → slice_get (final_state_of c journal).processors n ≡ None
none_at c journal n cpus same e =
    let le : length cpus ≤ n = ltb-false n (length cpus) (sym e) in
    let ps = (final_state_of c journal).processors in
    got_beyond n ps (omega (arith, le, ap (λ (l : List CpuPlan). length l) same, length-map ps (λ (p : Processor). p.id), length-map c.cpus (λ (p : CpuPlan). p.id), ap (λ (l : List ℕ). length l) (ids_stay c journal)))

-- a line is that of a processor
line-so : (l : CpuLine) (p : Processor) → l.id ≡ p.id → l.life ≡ p.life → HasRegisters l p.apic → cpu_line_in l ≡ line_of_processor p
line-so l p i f r =
    let t : l.tpr ≡ p.apic.tpr = r.tpr in
    let a : l.irr ≡ members p.apic.irr = r.irr in
    let b : l.isr ≡ members p.apic.isr = r.isr in
    let d : l.tmr ≡ members p.apic.tmr = r.tmr in
    cc

so-line : (l : CpuLine) (p : Processor) (id : ℕ) → p.id ≡ id → cpu_line_in l ≡ line_of_processor p → IsLineOf l id (Some p)
so-line l p id e is = (cc, cc, record { tpr = cc; irr = cc; isr = cc; tmr = cc })

line-told : (b : Bool) (l : CpuLine) (p : Processor) (id : ℕ) (r : Option Processor) → r ≡ Some p → p.id ≡ id → MatchBool b (IsLineOf l id r) (¬ IsLineOf l id r) → MatchBool b (cpu_line_in l ≡ line_of_processor p) (cpu_line_in l ≢ line_of_processor p)
line-told true l p id r at e m = (let h : IsLineOf l id (Some p) = subst (IsLineOf l id) at m in line-so l p (h.0 ∙ sym e) h.1 h.2)
line-told false l p id r at e m = λ is. m (subst (IsLineOf l id) (sym at) (so-line l p id e is))

pub cpu_told : (b : Bool) (lines : List CpuLine) (ps : List Processor) (n : ℕ) (l : CpuLine) (id : ℕ) → n < length lines → l ≡ get_or lines n l → (at : IsAt ps n id) → MatchBool b (IsLineOf l id (processor_of id ps)) (¬ IsLineOf l id (processor_of id ps))
    → MatchBool b (slice_get (map cpu_line_in lines) n ≡ slice_get (map line_of_processor ps) n) (slice_get (map cpu_line_in lines) n ≢ slice_get (map line_of_processor ps) n)
cpu_told b lines ps n l id lt is at m =
    both b (cpu_line_in l) (line_of_processor at.processor) (slice_get (map cpu_line_in lines) n) (slice_get (map line_of_processor ps) n)
    (got_map cpu_line_in n lines ∙ ap (option_map cpu_line_in) (got_at n lines l lt ∙ ap Some (sym is)))
    (got_map line_of_processor n ps ∙ ap (option_map line_of_processor) at.here)
    (line-told b l at.processor id (processor_of id ps) at.found at.id_is m)

-- a line is that of an I/O APIC
chip-so : (l : IoLine) (p : Place) → IsLineOfChip l p.chip → io_line_in l ≡ line_of_place p
chip-so l p h =
    let a : l.line ≡ mask_by (λ q. q.line) p.chip.pins = h.line in
    let b : l.due ≡ mask_by (λ q. q.due) p.chip.pins = h.due in
    let d : l.remote ≡ mask_by (λ q. q.remote) p.chip.pins = h.remote in
    cc

chip-told : (b : Bool) (l : IoLine) (p : Place) (k : IoChip) → k ≡ p.chip → MatchBool b (IsLineOfChip l k) (¬ IsLineOfChip l k) → MatchBool b (io_line_in l ≡ line_of_place p) (io_line_in l ≢ line_of_place p)
chip-told true l p k e m = chip-so l p (subst (IsLineOfChip l) e m)
chip-told false l p k e m = λ is. m (subst (IsLineOfChip l) (sym e) (record { line = cc; due = cc; remote = cc }))

pub io_told : (b : Bool) (lines : List IoLine) (ps : List Place) (n : ℕ) (l : IoLine) (k : IoChip) → n < length lines → l ≡ get_or lines n l → Some k ≡ option_map (λ (p : Place). p.chip) (slice_get ps n) → MatchBool b (IsLineOfChip l k) (¬ IsLineOfChip l k)
    → MatchBool b (slice_get (map io_line_in lines) n ≡ slice_get (map line_of_place ps) n) (slice_get (map io_line_in lines) n ≢ slice_get (map line_of_place ps) n)
io_told b lines ps n l k lt is at m = go (slice_get ps n) refl at where
  go : (r : Option Place) → slice_get ps n ≡ r → Some k ≡ option_map (λ (p : Place). p.chip) r → MatchBool b (slice_get (map io_line_in lines) n ≡ slice_get (map line_of_place ps) n) (slice_get (map io_line_in lines) n ≢ slice_get (map line_of_place ps) n)
  go None w e = cc
  go (Some p) w e =
      both b (io_line_in l) (line_of_place p) (slice_get (map io_line_in lines) n) (slice_get (map line_of_place ps) n)
      (got_map io_line_in n lines ∙ ap (option_map io_line_in) (got_at n lines l lt ∙ ap Some (sym is)))
      (got_map line_of_place n ps ∙ ap (option_map line_of_place) w)
      (chip-told b l p k (let same : k ≡ p.chip = cc in same) m)

pub no_io : (ps : List Place) (n : ℕ) → None ≡ option_map (λ (p : Place). p.chip) (slice_get ps n) → slice_get (map line_of_place ps) n ≡ None
no_io ps n e = got_map line_of_place n ps ∙ go (slice_get ps n) e where
  go : (r : Option Place) → None ≡ option_map (λ (p : Place). p.chip) r → option_map line_of_place r ≡ None
  go None e = refl
  go (Some p) e = cc

pub some_io : (ps : List Place) (n : ℕ) (k : IoChip) → Some k ≡ option_map (λ (p : Place). p.chip) (slice_get ps n) → (p : Place) × (slice_get (map line_of_place ps) n ≡ Some (line_of_place p))
some_io ps n k e = go (slice_get ps n) refl e where
  go : (r : Option Place) → slice_get ps n ≡ r → Some k ≡ option_map (λ (p : Place). p.chip) r → (p : Place) × (slice_get (map line_of_place ps) n ≡ Some (line_of_place p))
  go None w e = cc
  go (Some p) w e = (p, got_map line_of_place n ps ∙ ap (option_map line_of_place) w)

-- ---- all lines

other-kind : (l : IoLine) (p : Processor) → io_line_in l ≢ line_of_processor p
other-kind l p e = cc

kind-other : (l : CpuLine) (p : Place) → cpu_line_in l ≢ line_of_place p
kind-other l p e = cc

-- the processors' lines differ
pub among_cpus : (ls : List CpuLine) (bs : List IoLine) (ps : List Processor) (qs : List Place) (n : ℕ) → IsFirstDifference (map cpu_line_in ls) (map line_of_processor ps) n → IsFirstDifference (map cpu_line_in ls ++ map io_line_in bs) (map line_of_processor ps ++ map line_of_place qs) n
among_cpus [] bs [] qs n d = absurd (d.other refl)
among_cpus [] [] (p ∷ ps) qs zero d = shorter (line_of_processor p) (map line_of_processor ps ++ map line_of_place qs)
among_cpus [] (b ∷ bs) (p ∷ ps) qs zero d = here (io_line_in b) (line_of_processor p) (map io_line_in bs) (map line_of_processor ps ++ map line_of_place qs) (other-kind b p)
among_cpus [] bs (p ∷ ps) qs (suc n) d = absurd (let t = d.same in none-cons t) where
  none-cons : [] ≡ line_of_processor p ∷ take n (map line_of_processor ps) → ⊥
  none-cons e = cc
among_cpus (a ∷ ls) bs [] [] zero d = longer (cpu_line_in a) (map cpu_line_in ls ++ map io_line_in bs)
among_cpus (a ∷ ls) bs [] (q ∷ qs) zero d = here (cpu_line_in a) (line_of_place q) (map cpu_line_in ls ++ map io_line_in bs) (map line_of_place qs) (kind-other a q)
among_cpus (a ∷ ls) bs [] qs (suc n) d = absurd (cons-none d.same) where
  cons-none : cpu_line_in a ∷ take n (map cpu_line_in ls) ≡ [] → ⊥
  cons-none e = cc
among_cpus (a ∷ ls) bs (p ∷ ps) qs zero d = here (cpu_line_in a) (line_of_processor p) (map cpu_line_in ls ++ map io_line_in bs) (map line_of_processor ps ++ map line_of_place qs) (λ e. d.other (ap Some e))
among_cpus (a ∷ ls) bs (p ∷ ps) qs (suc n) d =
    let same : cpu_line_in a ∷ take n (map cpu_line_in ls) ≡ line_of_processor p ∷ take n (map line_of_processor ps) = d.same in
    let head : cpu_line_in a ≡ line_of_processor p = first-of same in
    let tail : take n (map cpu_line_in ls) ≡ take n (map line_of_processor ps) = rest-of same in
    later (cpu_line_in a) (line_of_processor p) (map cpu_line_in ls ++ map io_line_in bs) (map line_of_processor ps ++ map line_of_place qs) n head (among_cpus ls bs ps qs n (record { same = tail; other = d.other })) where
      first-of : {x y : StateLine} {xs ys : List StateLine} → x ∷ xs ≡ y ∷ ys → x ≡ y
      first-of e = cc

      rest-of : {x y : StateLine} {xs ys : List StateLine} → x ∷ xs ≡ y ∷ ys → xs ≡ ys
      rest-of e = cc

-- they are the same, and those behind them differ
pub behind : (xs ys ls bs : List StateLine) (n : ℕ) → xs ≡ ys → IsFirstDifference ls bs n → IsFirstDifference (xs ++ ls) (ys ++ bs) (length ys + n)
behind xs ys ls bs n e d = subst (λ (zs : List StateLine). IsFirstDifference (zs ++ ls) (ys ++ bs) (length ys + n)) (sym e) (go ys) where
  go : (zs : List StateLine) → IsFirstDifference (zs ++ ls) (zs ++ bs) (length zs + n)
  go [] = subst (IsFirstDifference ls bs) (none n) d where
    none : (k : ℕ) → k ≡ 0 + k
    none k = omega arith
  go (z ∷ zs) = subst (IsFirstDifference (z ∷ (zs ++ ls)) (z ∷ (zs ++ bs))) (one (length zs) n) (later z z (zs ++ ls) (zs ++ bs) (length zs + n) refl (go zs)) where
    one : (j k : ℕ) → suc (j + k) ≡ suc j + k
    one j k = omega arith

pub at_cpu : (r : Report) (s : BoardState) (n m : ℕ) → r.imcr ≡ s.imcr → m ≡ 1 + n → IsFirstDifference (map cpu_line_in r.cpus) (map line_of_processor s.processors) n → IsFirstDifference (lines_in r) (lines_of s) m
at_cpu r s n m e count d =
    let next : suc n ≡ m = omega (arith, count) in
    subst (IsFirstDifference (lines_in r) (lines_of s)) next
    (later (RegisterLine r.imcr) (RegisterLine s.imcr) (map cpu_line_in r.cpus ++ map io_line_in r.ios) (map line_of_processor s.processors ++ map line_of_place s.places) n (ap RegisterLine e)
    (among_cpus r.cpus r.ios s.processors s.places n d))

pub at_io : (r : Report) (s : BoardState) (n m count : ℕ) → r.imcr ≡ s.imcr → map cpu_line_in r.cpus ≡ map line_of_processor s.processors → count ≡ length s.processors → m ≡ 1 + count + n
    → IsFirstDifference (map io_line_in r.ios) (map line_of_place s.places) n → IsFirstDifference (lines_in r) (lines_of s) m
at_io r s n m count e cpus long is d =
    let next : suc (length (map line_of_processor s.processors) + n) ≡ m = omega (arith, is, long, length-map s.processors line_of_processor) in
    subst (IsFirstDifference (lines_in r) (lines_of s)) next
    (later (RegisterLine r.imcr) (RegisterLine s.imcr) (map cpu_line_in r.cpus ++ map io_line_in r.ios) (map line_of_processor s.processors ++ map line_of_place s.places) (length (map line_of_processor s.processors) + n) (ap RegisterLine e)
    (behind (map cpu_line_in r.cpus) (map line_of_processor s.processors) (map io_line_in r.ios) (map line_of_place s.places) n cpus d))

-- how many there are
pub processors_long : (c : Plan) (journal : List Entry) (cpus : List CpuPlan) → cpus ≡ c.cpus → length (final_state_of c journal).processors ≡ length cpus
processors_long c journal cpus same =
    omega (arith, ap (λ (l : List CpuPlan). length l) same, length-map (final_state_of c journal).processors (λ (p : Processor). p.id), length-map c.cpus (λ (p : CpuPlan). p.id), ap (λ (l : List ℕ). length l) (ids_stay c journal))
