-- The report of a legal run is read back, and that of a complete one is legal.
use Rattle.std.proofs.Common.{◌≡◌, ◌==◌, ℕ, zero, suc, ◌+◌, ◌*◌, ◌^◌, ◌<◌, ◌≤◌, Bool, true, false, cond, List, [], ◌∷◌, ◌++◌, length, map, replicate, refl, sym, ap, ◌∙◌, subst, arith}
use Rattle.std.specs.List.{AllByRecursion, range_with_len}
use Rattle.std.proofs.lemmas.List.{length-map}
use Rattle.mpb_spec.specs.declared.config.DevWord.{DevWord}
use Rattle.mpb_spec.specs.declared.config.Life.TheVariants as life
use Rattle.mpb_spec.specs.declared.apic.Pin.{Pin}
use Rattle.mpb_spec.specs.declared.entry.Entry.{Entry}
use Rattle.mpb_spec.specs.Numbers.{has, IsAscending}
use Rattle.mpb_spec.specs.IoApic.{reset_pin, mask_by}
use Rattle.mpb_spec.specs.State.{Processor, Place, BoardState}
use Rattle.mpb_spec.specs.Plan.{Plan, CpuPlan, plan_size, first_processor, first_place, first_places, first_device, initial_state_of}
use Rattle.mpb_spec.specs.Configs.{IsConfig, IsCpuPlan, IsWordOn}
use Rattle.mpb_spec.specs.Journal.{IsLegal, IsComplete, final_state_of}
use Rattle.mpb_spec.specs.Room.{room}
use Rattle.mpb_spec.proofs.NumberLemmas.{IsAscending-filter}
use Rattle.mpb_laws.proofs.PartsStay.{ids_stay}
use Rattle.mpb_laws.proofs.RoomSum.{within_room}
use Rattle.mpb_laws.proofs.RoomBound.{room_bound}
use Rattle.mpb_spec.specs.declared.pulse.Pulse.{Pulse}
use Rattle.mpb_spec.specs.declared.pulse.Hit.{Hit}
use Rattle.mpb_spec.specs.Pulses.{IsInRange, pulses_of}
use Rattle.mpb_spec.specs.Pulses.{pulses_in}
use Rattle.mpb_robin.specs.Account.{AccountsForPulses}
use Rattle.mpb_robin.specs.RoundRobin.{IsRoundRobinOf}
use Rattle.mpb_robin.proofs.AtTheEnd.{is_complete, is_accounted}
use Rattle.mpb_report_spec.specs.StateLines.{members, members_below}
use Rattle.mpb_report_spec.specs.Report.{report_of}
use Rattle.mpb_report_line.specs.declared.report.Report.{Report}
use Rattle.mpb_report_line.specs.Values.{IsRightOp, IsRightLife, AreRightVectors, IsRightCpu, IsRightIo, IsRightLog}
use Rattle.mpb_report_parse.specs.Reports.{HasReport, IsReportOf, lines_of, shown_cpu, shown_io, shown_report}
use Rattle.mpb_report_parse.proofs.ShownLemmas.{report_shown}
use Rattle.mpb_report_parse.proofs.Unique.{report_is_one}
use Rattle.mpb_replay_laws.specs.declared.verdict.Verdict.TheVariants.{Legal}
use Rattle.mpb_replay_laws.specs.Lines as line
use Rattle.mpb_replay_laws.specs.Verdict.{IsVerdict}
use Rattle.mpb_replay_laws.proofs.Settling.{is_legal}
use Rattle.mpb_report_laws.specs.Values.{IsOpValue, HasOpValues}
use Rattle.mpb_report_laws.proofs.RightOps.{all-both, all-follow, all-map, all-filter, program_right, device_right, pulses_right}
use Rattle.mpb_report_laws.proofs.Fitting.{IsFitProcessor, IsFitPin, IsFitPlace, IsFitDevice, IsFit}
use Rattle.mpb_report_laws.proofs.Outcomes.{entries_right, end_fits, mask-below, of-24}

-- the opening state fits
first-cpu : (boot : ℕ) (p : CpuPlan) → p.id < 255 → AllByRecursion IsRightOp p.program → IsFitProcessor (first_processor boot p)
first-cpu boot p lt v = record {
  id_fits = omega arith;
  ops = v;
  life = elim (p.id == boot) as (λ b. IsRightLife (cond b life.First life.Asleep)) [ true ↦ tt | false ↦ tt ];
  apic = record { irr = tt; isr = tt; tpr = omega arith };
}

replicate-all : {X : Type 0} (P : X → Type 0) (n : ℕ) (x : X) → P x → AllByRecursion P (replicate n x)
replicate-all P zero x h = tt
replicate-all P (suc n) x h = (h, replicate-all P n x h)

replicate-long : {X : Type 0} (n : ℕ) (x : X) → length (replicate n x) ≡ n
replicate-long zero x = refl
replicate-long (suc n) x = ap suc (replicate-long n x)

chip-fits : (devices : List (List DevWord)) (a id : ℕ) → IsFitPlace (first_place devices a id)
chip-fits devices a id = record {
  id_fits = omega arith;
  arbitration_fits = omega arith;
  many = replicate-long 24 reset_pin;
  pins_fit = replicate-all IsFitPin 24 reset_pin (omega arith, omega arith);
}

places-fit : (devices : List (List DevWord)) (a : ℕ) (ids : List ℕ) → AllByRecursion IsFitPlace (first_places devices a ids)
places-fit devices a [] = tt
places-fit devices a (id ∷ ids) = (chip-fits devices a id, places-fit devices (a + 1) ids)

places-long : (devices : List (List DevWord)) (a : ℕ) (ids : List ℕ) → length (first_places devices a ids) ≡ length ids
places-long devices a [] = refl
places-long devices a (id ∷ ids) = ap suc (places-long devices (a + 1) ids)

pub opening_fits : (c : Plan) → IsConfig c → HasOpValues c → IsFit (initial_state_of c)
opening_fits c is v =
    let few : length c.cpus ≤ 8 = is.few in
    let few_ios : length c.ios ≤ 4 = is.few_ios in
    let few_devices : length c.devices ≤ 4 = is.few_devices in
    let cpus : length (map (first_processor c.boot) c.cpus) ≡ length c.cpus = length-map c.cpus (first_processor c.boot) in
    let places : length (first_places c.devices 0 c.ios) ≡ length c.ios = places-long c.devices 0 c.ios in
    let devices : length (map first_device c.devices) ≡ length c.devices = length-map c.devices first_device in
    let Both : CpuPlan → Type 0 = λ p. (p.id < 255) × AllByRecursion IsRightOp p.program in
    let right : AllByRecursion Both c.cpus =
    all-both (IsCpuPlan c.boot c.boot_len (length c.ios) is.page) (λ p. AllByRecursion IsOpValue p.program) Both c.cpus
    (λ p h w. (h.id, program_right c.boot c.boot_len (length c.ios) is.page p few_ios h w)) is.cpus v
    in
    record {
      few = omega arith;
      few_places = omega arith;
      few_devices = omega arith;
      processors = all-map Both IsFitProcessor (first_processor c.boot) c.cpus (λ p h. first-cpu c.boot p h.0 h.1) right;
      places = places-fit c.devices 0 c.ios;
      devices = all-map (AllByRecursion (IsWordOn (length c.ios))) IsFitDevice first_device c.devices (λ words h. device_right (length c.ios) words few_ios h) is.words;
      page = tt;
    }

-- the vectors of a set
from-range : (a n : ℕ) → AllByRecursion (λ v. a ≤ v) (range_with_len a n)
from-range a zero = tt
from-range a (suc n) = (omega arith, all-follow (λ v. a + 1 ≤ v) (λ v. a ≤ v) (range_with_len (a + 1) n) (λ v h. omega (arith, h)) (from-range (a + 1) n))

range-up : (a n : ℕ) → IsAscending (range_with_len a n)
range-up a zero = tt
range-up a (suc n) = (all-follow (λ v. a + 1 ≤ v) (λ v. a < v) (range_with_len (a + 1) n) (λ v h. omega (arith, h)) (from-range (a + 1) n), range-up (a + 1) n)

range-below : (a n m : ℕ) → a + n ≤ m → AllByRecursion (λ v. v < m) (range_with_len a n)
range-below a zero m h = tt
range-below a (suc n) m h = (omega (arith, h), range-below (a + 1) n m (omega (arith, h)))

members-right : (xs : List ℕ) → AreRightVectors (members xs)
unfolding members members_below
members-right xs = (IsAscending-filter (λ v. has v xs) (range_with_len 0 256) (range-up 0 256), all-filter (λ v. v < 256) (λ v. has v xs) (range_with_len 0 256) (range-below 0 256 256 (omega arith)))

-- what a state shows
cpu-shown : (p : Processor) → IsFitProcessor p → IsRightCpu (shown_cpu p)
cpu-shown p h = record { id = h.id_fits; life = h.life; tpr = (h.apic).tpr; irr = members-right p.apic.irr; isr = members-right p.apic.isr; tmr = members-right p.apic.tmr }

io-shown : (p : Place) → IsFitPlace p → IsRightIo (shown_io p)
io-shown p h =
    let below : (f : Pin → Bool) → mask_by f p.chip.pins < 2 ^ 24 = λ f. of-24 (mask_by f p.chip.pins) p.chip.pins (mask-below f p.chip.pins) h.many in
    (below (λ q. q.line), below (λ q. q.due), below (λ q. q.remote))

shown-ids : (ps : List Processor) → map (λ p. p.id) (map shown_cpu ps) ≡ map (λ p. p.id) ps
shown-ids [] = refl
shown-ids (p ∷ ps) = ap (λ (l : List ℕ). p.id ∷ l) (shown-ids ps)

-- logs of pulses that are there
log-right : (log : List (Pulse × Hit)) → AllByRecursion (IsInRange 4) (pulses_of log) → IsRightLog log
log-right [] h = tt
log-right (x ∷ xs) h = (h.0, log-right xs h.1)

logs-right : (logs : List (List (Pulse × Hit))) → AllByRecursion (AllByRecursion (IsInRange 4)) (map pulses_of logs) → AllByRecursion IsRightLog logs
logs-right [] h = tt
logs-right (log ∷ logs) h = (log-right log h.0, logs-right logs h.1)

logs-of : (c : Plan) (logs : List (List (Pulse × Hit))) → IsConfig c → map pulses_of logs ≡ map pulses_in c.devices → (length logs ≤ 4) × AllByRecursion IsRightLog logs
logs-of c logs is e =
    let few_ios : length c.ios ≤ 4 = is.few_ios in
    let few : length c.devices ≤ 4 = is.few_devices in
    let n : length (map pulses_of logs) ≡ length logs = length-map logs pulses_of in
    let m : length (map pulses_in c.devices) ≡ length c.devices = length-map c.devices pulses_in in
    let k : length (map pulses_of logs) ≡ length (map pulses_in c.devices) = ap (λ (l : List (List Pulse)). length l) e in
    let planned : AllByRecursion (AllByRecursion (IsInRange 4)) (map pulses_in c.devices) = all-map (AllByRecursion (IsWordOn (length c.ios))) (AllByRecursion (IsInRange 4)) pulses_in c.devices (λ words h. pulses_right (length c.ios) words few_ios h) is.words in
    (omega arith, logs-right logs (subst (AllByRecursion (AllByRecursion (IsInRange 4))) (sym e) planned))

-- the report of a legal run has a text
pub shown_right : (c : Plan) (journal : List Entry) (logs : List (List (Pulse × Hit))) → IsConfig c → HasOpValues c → IsLegal c journal → map pulses_of logs ≡ map pulses_in c.devices → HasReport (shown_report c journal logs)
shown_right c journal logs is v legal e =
    let s : BoardState = final_state_of c journal in
    let first : IsFit (initial_state_of c) = opening_fits c is v in
    let fits : IsFit s = end_fits (initial_state_of c) journal first legal in
    let few : length s.places ≤ 4 = fits.few_places in
    let n : length (map shown_io s.places) ≡ length s.places = length-map s.places shown_io in
    record {
      entries = entries_right (initial_state_of c) journal first legal;
      logs = logs-of c logs is e;
      cpus = (subst IsAscending (sym (shown-ids s.processors ∙ ids_stay c journal)) is.ascending, all-map IsFitProcessor IsRightCpu shown_cpu s.processors cpu-shown fits.processors);
      ios = (omega arith, all-map IsFitPlace IsRightIo shown_io s.places io-shown fits.places);
    }

short : (c : Plan) (journal : List Entry) → IsConfig c → plan_size c < 2 ^ 32 → IsLegal c journal → length journal < 2 ^ 64
short c journal is small legal =
    let a : length journal ≤ room c = within_room c journal is legal in
    let b : room c ≤ 98 * plan_size c + 4 = room_bound c is in
    omega arith

pub read_back : (c : Plan) (journal : List Entry) (logs : List (List (Pulse × Hit))) → IsConfig c → HasOpValues c → plan_size c < 2 ^ 32 → IsLegal c journal → map pulses_of logs ≡ map pulses_in c.devices → IsReportOf (shown_report c journal logs) (report_of c journal logs)
read_back c journal logs is v small legal e = (shown_right c journal logs is v legal e, report_shown c journal logs (short c journal is small legal))

-- two runs of one text have one journal and the same logs
pub one_run : (c d : Plan) (journal other : List Entry) (logs others : List (List (Pulse × Hit))) (text : List ℕ) → IsReportOf (shown_report c journal logs) text → IsReportOf (shown_report d other others) text → (journal ≡ other) × (logs ≡ others)
one_run c d journal other logs others text h k =
    let same : shown_report c journal logs ≡ shown_report d other others = report_is_one (shown_report c journal logs) (shown_report d other others) text h k in
    (ap (λ (r : Report). r.entries) same, ap (λ (r : Report). r.logs) same)

-- the lines of what a state shows are those of the state
cpu-lines : (ps : List Processor) → map line.cpu_line_in (map shown_cpu ps) ≡ map line.line_of_processor ps
cpu-lines [] = refl
cpu-lines (p ∷ ps) = ap (λ (l : List line.StateLine). line.line_of_processor p ∷ l) (cpu-lines ps)

io-lines : (ps : List Place) → map line.io_line_in (map shown_io ps) ≡ map line.line_of_place ps
io-lines [] = refl
io-lines (p ∷ ps) = ap (λ (l : List line.StateLine). line.line_of_place p ∷ l) (io-lines ps)

same-lines : (c : Plan) (journal : List Entry) (logs : List (List (Pulse × Hit))) → line.lines_in (shown_report c journal logs) ≡ line.lines_of (final_state_of c journal)
same-lines c journal logs =
    let s : BoardState = final_state_of c journal in
    (λ i. line.RegisterLine s.imcr ∷ (cpu-lines s.processors i ++ io-lines s.places i))

pub complete_is_legal : (c : Plan) (journal : List Entry) (logs : List (List (Pulse × Hit))) → IsConfig c → IsComplete c journal → AccountsForPulses c journal logs → IsVerdict c (shown_report c journal logs) Legal
complete_is_legal c journal logs is complete accounts = is_legal c (shown_report c journal logs) (complete, accounts, same-lines c journal logs)

-- that of the round robin
pub trace_read_back : (c : Plan) (journal : List Entry) (logs : List (List (Pulse × Hit))) → IsConfig c → HasOpValues c → plan_size c < 2 ^ 32 → IsRoundRobinOf c journal logs → IsReportOf (shown_report c journal logs) (report_of c journal logs)
trace_read_back c journal logs is v small robin =
    let complete : IsComplete c journal = is_complete c journal logs is small robin in
    let accounts : AccountsForPulses c journal logs = is_accounted c journal logs is small robin in
    read_back c journal logs is v small complete.legal accounts.pulses

pub trace_is_legal : (c : Plan) (journal : List Entry) (logs : List (List (Pulse × Hit))) → IsConfig c → plan_size c < 2 ^ 32 → IsRoundRobinOf c journal logs → IsVerdict c (shown_report c journal logs) Legal
trace_is_legal c journal logs is small robin = complete_is_legal c journal logs is (is_complete c journal logs is small robin) (is_accounted c journal logs is small robin)
