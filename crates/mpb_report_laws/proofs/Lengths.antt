-- How long a report is: no entry's line has more than 256 bytes, no pulse more than 16, no line of the state more than 4,096.
use Rattle.std.proofs.Common.{◌≡◌, ℕ, zero, suc, ◌+◌, ◌*◌, ◌/◌, ◌%◌, ◌^◌, ◌<◌, ◌≤◌, ◌==◌, Bool, true, false, cond, List, [], ◌∷◌, ◌++◌, length, length-append, map, filter, sum_by, nat_le, refl, ap, ◌∙◌, subst, sym, arith}
use Rattle.std.specs.Prelude.{codes, decimal}
use Rattle.std.specs.List.{AllByRecursion, concat, flat_map, filter_map, range_with_len}
use Rattle.std.proofs.lemmas.Bool.{leb-true}
use Rattle.std.proofs.lemmas.List.Sums.{sum_by-cons}
use Rattle.std.proofs.lemmas.List.FromFn.{length-range_with_len}
use Rattle.std.proofs.lemmas.List.{length-map}
use Rattle.std.proofs.lemmas.Fmt.{length-decimal-le}
use Rattle.mpt_listing.specs.Listing.{line, hex, hex_digit}
use Rattle.mpb_spec.specs.declared.agent.Agent.{Agent}
use Rattle.mpb_spec.specs.declared.agent.Agent.TheVariants.{Cpu, Io, Dev}
use Rattle.mpb_spec.specs.declared.agent.Op.{Op}
use Rattle.mpb_spec.specs.declared.agent.Op.TheVariants as op
use Rattle.mpb_spec.specs.declared.entry.Entry.{Entry}
use Rattle.mpb_spec.specs.declared.entry.Outcome.{Outcome}
use Rattle.mpb_spec.specs.declared.entry.What.{What}
use Rattle.mpb_spec.specs.declared.entry.What.TheVariants as what
use Rattle.mpb_spec.specs.declared.pulse.Pulse.{Pulse}
use Rattle.mpb_spec.specs.declared.pulse.Hit.{Hit}
use Rattle.mpb_spec.specs.declared.pulse.Hit.TheVariants.{New, Merged}
use Rattle.mpb_spec.specs.Pulses.{IsInRange, pulse_of, pulses_in, pulses_of}
use Rattle.mpb_spec.specs.declared.config.DevWord.{DevWord}
use Rattle.mpb_spec.specs.declared.config.DevWord.TheVariants as word
use Rattle.mpb_spec.specs.declared.config.Life.{Life}
use Rattle.mpb_spec.specs.declared.config.Life.TheVariants as life
use Rattle.mpb_spec.specs.declared.config.Imcr.{Imcr}
use Rattle.mpb_spec.specs.declared.config.Imcr.TheVariants as imcr
use Rattle.mpb_spec.specs.LocalApic.{LocalApic}
use Rattle.mpb_spec.specs.IoApic.{mask_by}
use Rattle.mpb_spec.specs.Numbers.{has}
use Rattle.mpb_spec.specs.State.{Processor, Place, BoardState}
use Rattle.mpb_spec.specs.Plan.{Plan, initial_state_of}
use Rattle.mpb_spec.specs.Configs.{IsConfig}
use Rattle.mpb_spec.specs.Journal.{IsLegal, final_state_of}
use Rattle.mpb_spec.specs.Room.{room}
use Rattle.mpb_laws.proofs.RoomSum.{within_room}
use Rattle.mpb_report_spec.specs.EntryLines.{agent_text, op_text, trigger_text, what_text, has_target, outcome_text, further_outcome, entry_line}
use Rattle.mpb_report_spec.specs.LogLines.{hit_text, pulse_text, pulses_text, log_line}
use Rattle.mpb_report_spec.specs.Numbered.{numbered}
use Rattle.mpb_report_spec.specs.StateLines.{imcr_text, imcr_line, life_text, members_below, members, further_vector, vectors_text, registers_text, processor_line, place_line, state_lines}
use Rattle.mpb_report_spec.specs.Report.{title_line, count_line, end_line, journal_lines, report_lines, report_of}
use Rattle.mpb_report_parse.specs.Reports.{HasReport, shown_report}
use Rattle.mpb_report_laws.specs.Values.{HasOpValues}
use Rattle.mpb_report_laws.proofs.Fitting.{IsFit}
use Rattle.mpb_report_laws.proofs.Outcomes.{end_fits}
use Rattle.mpb_report_laws.proofs.Reported.{opening_fits, shown_right}
use Rattle.mpb_report_line.specs.Values.{IsRightAgent, IsRightOp, IsRightOutcome, IsRightEntry, IsRightLog}

-- ---- parts

hex_long : (k n : ℕ) → length (hex k n) ≡ k
unfolding hex
hex_long zero n = refl
hex_long (suc k) n = omega (arith, length-append (hex k (n / 16)) (hex_digit (n % 16) ∷ []), hex_long k (n / 16))

hex_short : (k n : ℕ) → length (hex k n) ≤ k
hex_short k n = let e : length (hex k n) ≡ k = hex_long k n in omega arith

-- a text that is given has at most so many bytes
short : (a : List ℕ) (n : ℕ) → nat_le (length a) n ≡ true → length a ≤ n
short a n e = leb-true (length a) n e

two : (n m : ℕ) (a b : List ℕ) → length a ≤ n → length b ≤ m → length (a ++ b) ≤ n + m
two n m a b p q = omega (arith, length-append a b, p, q)

-- the parts of a text have at most so many bytes
abbrev AreShort : List ℕ → List (List ℕ) → Type 0
AreShort [] [] = Unit {0}
AreShort (n ∷ ns) (a ∷ as_) = (length a ≤ n) × AreShort ns as_
AreShort ns as_ = ⊥

abbrev total : List ℕ → ℕ
total [] = 0
total (n ∷ ns) = n + total ns

concat_short : (ns : List ℕ) (parts : List (List ℕ)) → AreShort ns parts → length (concat parts) ≤ total ns
concat_short [] [] h = omega arith
concat_short (n ∷ ns) (a ∷ as_) h = two n (total ns) a (concat as_) h.0 (concat_short ns as_ h.1)
concat_short [] (a ∷ as_) h = absurd h
concat_short (n ∷ ns) [] h = absurd h

line_short : (ns : List ℕ) (parts : List (List ℕ)) → AreShort ns parts → length (line parts) ≤ total ns + 1
line_short [] [] h = omega arith
line_short (n ∷ ns) (a ∷ as_) h = let rest : length (line as_) ≤ total ns + 1 = line_short ns as_ h.1 in omega (arith, length-append a (line as_), h.0, rest)
line_short [] (a ∷ as_) h = absurd h
line_short (n ∷ ns) [] h = absurd h

digit : (n : ℕ) → n < 10 → length (decimal n) ≤ 1
digit n h = length-decimal-le 1 n (omega arith) (omega (arith, h)) (omega (arith, h))

two_digits : (n : ℕ) → n < 100 → length (decimal n) ≤ 2
two_digits n h = length-decimal-le 2 n (omega arith) (omega (arith, h)) (omega (arith, h))

-- ---- an entry

agent_short : (g : Agent) → IsRightAgent g → length (agent_text g) ≤ 6
agent_short (Cpu id) h = concat_short (4 ∷ 2 ∷ []) (codes "cpu " ∷ hex 2 id ∷ []) (short (codes "cpu ") 4 refl, (hex_short 2 id, tt))
agent_short (Io a) h = let end : length (concat (codes "io " ∷ decimal a ∷ [])) ≤ 4 = concat_short (3 ∷ 1 ∷ []) (codes "io " ∷ decimal a ∷ []) (short (codes "io ") 3 refl, (digit a (omega (arith, h)), tt)) in omega (arith, end)
agent_short (Dev d) h = let end : length (concat (codes "dev " ∷ decimal d ∷ [])) ≤ 5 = concat_short (4 ∷ 1 ∷ []) (codes "dev " ∷ decimal d ∷ []) (short (codes "dev ") 4 refl, (digit d (omega (arith, h)), tt)) in omega (arith, end)

-- a word of at most 8 bytes and one number, and one and two
one_hex : (a : List ℕ) (n : ℕ) → length a ≤ 8 → length (concat (a ∷ hex 2 n ∷ [])) ≤ 20
one_hex a n h = let end : length (concat (a ∷ hex 2 n ∷ [])) ≤ 10 = concat_short (8 ∷ 2 ∷ []) (a ∷ hex 2 n ∷ []) (h, (hex_short 2 n, tt)) in omega (arith, end)

two_hex : (a : List ℕ) (n m : ℕ) → length a ≤ 8 → length (concat (a ∷ hex 2 n ∷ codes " " ∷ hex 2 m ∷ [])) ≤ 20
two_hex a n m h =
    let end : length (concat (a ∷ hex 2 n ∷ codes " " ∷ hex 2 m ∷ [])) ≤ 13 = concat_short (8 ∷ 2 ∷ 1 ∷ 2 ∷ []) (a ∷ hex 2 n ∷ codes " " ∷ hex 2 m ∷ []) (h, (hex_short 2 n, (short (codes " ") 1 refl, (hex_short 2 m, tt)))) in
    omega (arith, end)

at_place : (a : List ℕ) (p k m : ℕ) → k ≤ 8 → length a ≤ 8 → p < 4 → length (concat (a ∷ decimal p ∷ codes " " ∷ hex k m ∷ [])) ≤ 20
at_place a p k m le h l =
    let end : length (concat (a ∷ decimal p ∷ codes " " ∷ hex k m ∷ [])) ≤ 8 + (1 + (1 + (k + 0))) = concat_short (8 ∷ 1 ∷ 1 ∷ k ∷ []) (a ∷ decimal p ∷ codes " " ∷ hex k m ∷ []) (h, (digit p (omega (arith, l)), (short (codes " ") 1 refl, (hex_short k m, tt)))) in
    omega (arith, end, le)

one_number : (a : List ℕ) (n k : ℕ) → k ≤ 10 → length a ≤ 8 → length (decimal n) ≤ k → length (concat (a ∷ decimal n ∷ [])) ≤ 20
one_number a n k le h l = let end : length (concat (a ∷ decimal n ∷ [])) ≤ 8 + (k + 0) = concat_short (8 ∷ k ∷ []) (a ∷ decimal n ∷ []) (h, (l, tt)) in omega (arith, end, le)

of_pin : (a : List ℕ) (p n : ℕ) → length a ≤ 8 → p < 4 → n < 24 → length (concat (a ∷ decimal p ∷ codes " " ∷ decimal n ∷ [])) ≤ 20
of_pin a p n h l m =
    let end : length (concat (a ∷ decimal p ∷ codes " " ∷ decimal n ∷ [])) ≤ 12 = concat_short (8 ∷ 1 ∷ 1 ∷ 2 ∷ []) (a ∷ decimal p ∷ codes " " ∷ decimal n ∷ []) (h, (digit p (omega (arith, l)), (short (codes " ") 1 refl, (two_digits n (omega (arith, m)), tt)))) in
    omega (arith, end)

op_short : (o : Op) → IsRightOp o → length (op_text o) ≤ 20
op_short op.Imcr h = short (codes "imcr") 20 refl
op_short (op.Warm page) h = one_hex (codes "warm ") page (short (codes "warm ") 8 refl)
op_short (op.Init d) h = one_hex (codes "init ") d (short (codes "init ") 8 refl)
op_short (op.Startup d page) h = two_hex (codes "startup ") d page (short (codes "startup ") 8 refl)
op_short (op.Check d) h = one_hex (codes "check ") d (short (codes "check ") 8 refl)
op_short (op.Ipi d v) h = two_hex (codes "ipi ") d v (short (codes "ipi ") 8 refl)
op_short (op.Ipl d v) h = two_hex (codes "ipl ") d v (short (codes "ipl ") 8 refl)
op_short (op.Nmi d) h = one_hex (codes "nmi ") d (short (codes "nmi ") 8 refl)
op_short op.Take h = short (codes "take") 20 refl
op_short op.Poll h = short (codes "poll") 20 refl
op_short op.Eoi h = short (codes "eoi") 20 refl
op_short (op.Tpr n) h = one_hex (codes "tpr ") n (short (codes "tpr ") 8 refl)
op_short (op.Ldr n) h = one_hex (codes "ldr ") n (short (codes "ldr ") 8 refl)
op_short (op.Dfr n) h = one_hex (codes "dfr ") n (short (codes "dfr ") 8 refl)
op_short (op.IoSel a r) h = at_place (codes "iosel ") a 2 r (omega arith) (short (codes "iosel ") 8 refl) h.0
op_short (op.IoWin a v) h = at_place (codes "iowin ") a 8 v (omega arith) (short (codes "iowin ") 8 refl) h.0
op_short (op.IoRead a) h = one_number (codes "ioread ") a 1 (omega arith) (short (codes "ioread ") 8 refl) (digit a (omega (arith, h)))
op_short (op.Pause t) h = one_number (codes "pause ") t 10 (omega arith) (short (codes "pause ") 8 refl) (length-decimal-le 10 t (omega arith) (omega (arith, h)) (omega (arith, h)))
op_short op.Begin h = short (codes "begin") 20 refl
op_short (op.High a pin) h = of_pin (codes "high ") a pin (short (codes "high ") 8 refl) h.0 h.1
op_short (op.Low a pin) h = of_pin (codes "low ") a pin (short (codes "low ") 8 refl) h.0 h.1
op_short op.End h = short (codes "end") 20 refl
op_short (op.Collect pins) h = let end : length (concat (codes "collect " ∷ hex 6 pins ∷ [])) ≤ 14 = concat_short (8 ∷ 6 ∷ []) (codes "collect " ∷ hex 6 pins ∷ []) (short (codes "collect ") 8 refl, (hex_short 6 pins, tt)) in omega (arith, end)
op_short (op.Send pin) h = one_number (codes "send ") pin 2 (omega arith) (short (codes "send ") 8 refl) (two_digits pin (omega (arith, h)))
op_short op.Sweep h = short (codes "sweep") 20 refl

trigger_short : (b : Bool) → length (trigger_text b) ≤ 5
trigger_short true = short (codes "level") 5 refl
trigger_short false = short (codes "edge") 5 refl

what_short : (w : What) → length (what_text w) ≤ 18
what_short what.Done = short (codes "done") 18 refl
what_short what.Set = short (codes "set") 18 refl
what_short what.Merged = short (codes "merged") 18 refl
what_short what.Illegal = short (codes "illegal") 18 refl
what_short what.Asleep = short (codes "asleep") 18 refl
what_short what.Absent = short (codes "absent") 18 refl
what_short what.Waiting = short (codes "waiting") 18 refl
what_short (what.Started page) = let end : length (concat (codes "started." ∷ hex 2 page ∷ [])) ≤ 10 = concat_short (8 ∷ 2 ∷ []) (codes "started." ∷ hex 2 page ∷ []) (short (codes "started.") 8 refl, (hex_short 2 page, tt)) in omega (arith, end)
what_short what.Ignored = short (codes "ignored") 18 refl
what_short what.Nmi = short (codes "nmi") 18 refl
what_short what.Passed = short (codes "passed") 18 refl
what_short what.Unheard = short (codes "unheard") 18 refl
what_short (what.Runs page) = let end : length (concat (codes "runs." ∷ hex 2 page ∷ [])) ≤ 7 = concat_short (5 ∷ 2 ∷ []) (codes "runs." ∷ hex 2 page ∷ []) (short (codes "runs.") 5 refl, (hex_short 2 page, tt)) in omega (arith, end)
what_short what.RunsFirst = short (codes "runs.first") 18 refl
what_short (what.Taken v) = let end : length (concat (codes "taken." ∷ hex 2 v ∷ [])) ≤ 8 = concat_short (6 ∷ 2 ∷ []) (codes "taken." ∷ hex 2 v ∷ []) (short (codes "taken.") 6 refl, (hex_short 2 v, tt)) in omega (arith, end)
what_short what.Nothing = short (codes "nothing") 18 refl
what_short (what.Ended v level) =
    let end : length (concat (codes "ended." ∷ hex 2 v ∷ codes "." ∷ trigger_text level ∷ [])) ≤ 14 = concat_short (6 ∷ 2 ∷ 1 ∷ 5 ∷ []) (codes "ended." ∷ hex 2 v ∷ codes "." ∷ trigger_text level ∷ []) (short (codes "ended.") 6 refl, (hex_short 2 v, (short (codes ".") 1 refl, (trigger_short level, tt)))) in
    omega (arith, end)
what_short what.Plain = short (codes "plain") 18 refl
what_short what.Due = short (codes "due") 18 refl
what_short what.Withdrawn = short (codes "withdrawn") 18 refl
what_short (what.Read v) = let end : length (concat (codes "read." ∷ hex 8 v ∷ [])) ≤ 13 = concat_short (5 ∷ 8 ∷ []) (codes "read." ∷ hex 8 v ∷ []) (short (codes "read.") 5 refl, (hex_short 8 v, tt)) in omega (arith, end)
what_short (what.Pins due joined) = concat_short (5 ∷ 6 ∷ 1 ∷ 6 ∷ []) (codes "pins." ∷ hex 6 due ∷ codes "." ∷ hex 6 joined ∷ []) (short (codes "pins.") 5 refl, (hex_short 6 due, (short (codes ".") 1 refl, (hex_short 6 joined, tt))))

outcome_short : (o : Outcome) → length (further_outcome o) ≤ 22
outcome_short o = two 1 21 (codes " ") (outcome_text o) (short (codes " ") 1 refl) (go (has_target o.what))
  where
    go : (b : Bool) → length (cond {A = List ℕ} b (concat (hex 2 o.at ∷ codes "=" ∷ what_text o.what ∷ [])) (what_text o.what)) ≤ 21
    go true = concat_short (2 ∷ 1 ∷ 18 ∷ []) (hex 2 o.at ∷ codes "=" ∷ what_text o.what ∷ []) (hex_short 2 o.at, (short (codes "=") 1 refl, (what_short o.what, tt)))
    go false = let end : length (what_text o.what) ≤ 18 = what_short o.what in omega (arith, end)

-- as many times the bytes of the longest
flat_short : {X : Type 0} (f : X → List ℕ) (m : ℕ) (xs : List X) → ((x : X) → length (f x) ≤ m) → length (flat_map f xs) ≤ length xs * m
flat_short f m [] h = omega arith
flat_short f m (x ∷ xs) h = let rest : length (flat_map f xs) ≤ length xs * m = flat_short f m xs h in omega (arith, length-append (f x) (flat_map f xs), h x, rest)

entry_short : (k : ℕ) (x : Entry) → k < 10 ^ 10 → IsRightEntry x → length (entry_line k x) ≤ 256
entry_short k x small right =
    let outcomes : length (flat_map further_outcome x.outcomes.items) ≤ length x.outcomes.items * 22 = flat_short further_outcome 22 x.outcomes.items outcome_short in
    let few : length x.outcomes.items ≤ 8 = right.few in
    let end : length (flat_map further_outcome x.outcomes.items) ≤ 176 = omega (arith, outcomes, few) in
    let whole : length (entry_line k x) ≤ 217 = line_short (10 ∷ 1 ∷ 6 ∷ 1 ∷ 20 ∷ 2 ∷ 176 ∷ [])
    (decimal k ∷ codes " " ∷ agent_text x.agent ∷ codes " " ∷ op_text x.op ∷ codes " :" ∷ flat_map further_outcome x.outcomes.items ∷ [])
    (length-decimal-le 10 k (omega arith) small (omega (arith, small)), (short (codes " ") 1 refl, (agent_short x.agent right.agent, (short (codes " ") 1 refl, (op_short x.op right.op, (short (codes " :") 2 refl, (end, tt)))))))
    in
    omega (arith, whole)

pub entries_short : (k : ℕ) (xs : List Entry) → k + length xs ≤ 10 ^ 10 → AllByRecursion IsRightEntry xs → length (concat (numbered entry_line k xs)) ≤ length xs * 256
entries_short k [] small right = omega arith
entries_short k (x ∷ xs) small right =
    let here : length (entry_line k x) ≤ 256 = entry_short k x (omega (arith, small)) right.0 in
    let rest : length (concat (numbered entry_line (k + 1) xs)) ≤ length xs * 256 = entries_short (k + 1) xs (omega (arith, small)) right.1 in
    omega (arith, length-append (entry_line k x) (concat (numbered entry_line (k + 1) xs)), here, rest)

-- ---- logs

hit_short : (h : Hit) → length (hit_text h) ≤ 6
hit_short New = short (codes "new") 6 refl
hit_short Merged = short (codes "merged") 6 refl

pulse_short : (x : Pulse × Hit) → IsInRange 4 x.0 → length (pulse_text x) ≤ 16
pulse_short x h =
    let end : length (pulse_text x) ≤ 12 = concat_short (1 ∷ 1 ∷ 1 ∷ 2 ∷ 1 ∷ 6 ∷ []) (codes " " ∷ decimal x.0.io ∷ codes "." ∷ decimal x.0.pin ∷ codes "=" ∷ hit_text x.1 ∷ [])
    (short (codes " ") 1 refl, (digit x.0.io (omega (arith, h.0)), (short (codes ".") 1 refl, (two_digits x.0.pin (omega (arith, h.1)), (short (codes "=") 1 refl, (hit_short x.1, tt))))))
    in
    omega (arith, end)

all_pulses : (xs : List (Pulse × Hit)) → IsRightLog xs → length (flat_map pulse_text xs) ≤ length xs * 16
all_pulses [] h = omega arith
all_pulses (x ∷ xs) h = let rest : length (flat_map pulse_text xs) ≤ length xs * 16 = all_pulses xs h.1 in omega (arith, length-append (pulse_text x) (flat_map pulse_text xs), pulse_short x h.0, rest)

pulses_short : (xs : List (Pulse × Hit)) → IsRightLog xs → length (pulses_text xs) ≤ length xs * 16 + 5
pulses_short [] h = short (codes " none") 5 refl
pulses_short (x ∷ xs) h = let all : length (flat_map pulse_text (x ∷ xs)) ≤ length (x ∷ xs) * 16 = all_pulses (x ∷ xs) h in omega (arith, all)

log_short : (d : ℕ) (log : List (Pulse × Hit)) → d < 10 → IsRightLog log → length (log_line d log) ≤ length log * 16 + 14
log_short d log l h =
    let all : length (log_line d log) ≤ 4 + (1 + (2 + ((length log * 16 + 5) + 0))) + 1 = line_short (4 ∷ 1 ∷ 2 ∷ (length log * 16 + 5) ∷ []) (codes "log " ∷ decimal d ∷ codes " :" ∷ pulses_text log ∷ [])
    (short (codes "log ") 4 refl, (digit d l, (short (codes " :") 2 refl, (pulses_short log h, tt))))
    in
    omega (arith, all)

pub logs_short : (d : ℕ) (logs : List (List (Pulse × Hit))) → d + length logs ≤ 10 → AllByRecursion IsRightLog logs → length (concat (numbered log_line d logs)) ≤ sum_by length logs * 16 + length logs * 14
logs_short d [] l h = omega arith
logs_short d (log ∷ logs) l h =
    let here : length (log_line d log) ≤ length log * 16 + 14 = log_short d log (omega (arith, l)) h.0 in
    let rest : length (concat (numbered log_line (d + 1) logs)) ≤ sum_by length logs * 16 + length logs * 14 = logs_short (d + 1) logs (omega (arith, l)) h.1 in
    let both : length (concat (numbered log_line d (log ∷ logs))) ≡ length (log_line d log) + length (concat (numbered log_line (d + 1) logs)) = length-append (log_line d log) (concat (numbered log_line (d + 1) logs)) in
    let sum : sum_by length (log ∷ logs) ≡ length log + sum_by length logs = sum_by-cons (length {A = Pulse × Hit}) log logs in
    omega (arith, both, sum, here, rest)

-- ---- the state

filter_short : (f : ℕ → Bool) (xs : List ℕ) → length (filter f xs) ≤ length xs
filter_short f [] = omega arith
filter_short f (x ∷ xs) = go (f x) (filter_short f xs)
  where
    go : (b : Bool) → length (filter f xs) ≤ length xs → length (cond {A = List ℕ} b (x ∷ filter f xs) (filter f xs)) ≤ suc (length xs)
    go true h = omega (arith, h)
    go false h = omega (arith, h)

members_short : (xs : List ℕ) → length (members xs) ≤ 256
unfolding members members_below
members_short xs = omega (arith, filter_short (λ v. has v xs) (range_with_len 0 256), length-range_with_len 0 256)

vector_short : (v : ℕ) → length (further_vector v) ≤ 3
vector_short v = two 1 2 (codes ",") (hex 2 v) (short (codes ",") 1 refl) (hex_short 2 v)

vectors_short : (vs : List ℕ) → length (vectors_text vs) ≤ length vs * 3 + 1
vectors_short [] = short (codes "-") 1 refl
vectors_short (v ∷ vs) = omega (arith, length-append (hex 2 v) (flat_map further_vector vs), hex_short 2 v, flat_short further_vector 3 vs vector_short)

register_short : (xs : List ℕ) → length (vectors_text (members xs)) ≤ 769
register_short xs = omega (arith, vectors_short (members xs), members_short xs)

registers_short : (a : LocalApic) → length (registers_text a) ≤ 2322
registers_short a =
    concat_short (5 ∷ 769 ∷ 5 ∷ 769 ∷ 5 ∷ 769 ∷ []) (codes " irr " ∷ vectors_text (members a.irr) ∷ codes " isr " ∷ vectors_text (members a.isr) ∷ codes " tmr " ∷ vectors_text (members a.tmr) ∷ [])
    (short (codes " irr ") 5 refl, (register_short a.irr, (short (codes " isr ") 5 refl, (register_short a.isr, (short (codes " tmr ") 5 refl, (register_short a.tmr, tt))))))

life_short : (l : Life) → length (life_text l) ≤ 10
life_short life.Asleep = short (codes "asleep") 10 refl
life_short life.Waiting = short (codes "waiting") 10 refl
life_short (life.Started page) = concat_short (8 ∷ 2 ∷ []) (codes "started." ∷ hex 2 page ∷ []) (short (codes "started.") 8 refl, (hex_short 2 page, tt))
life_short life.First = short (codes "first") 10 refl

processor_short : (p : Processor) → length (processor_line p) ≤ 4096
processor_short p =
    let whole : length (processor_line p) ≤ 2353 = line_short (10 ∷ 2 ∷ 1 ∷ 10 ∷ 5 ∷ 2 ∷ 2322 ∷ [])
    (codes "state cpu " ∷ hex 2 p.id ∷ codes " " ∷ life_text p.life ∷ codes " tpr " ∷ hex 2 p.apic.tpr ∷ registers_text p.apic ∷ [])
    (short (codes "state cpu ") 10 refl, (hex_short 2 p.id, (short (codes " ") 1 refl, (life_short p.life, (short (codes " tpr ") 5 refl, (hex_short 2 p.apic.tpr, (registers_short p.apic, tt)))))))
    in
    omega (arith, whole)

place_short : (a : ℕ) (p : Place) → a < 10 → length (place_line a p) ≤ 64
place_short a p l =
    let masks : (n : ℕ) → length (hex 6 n) ≤ 6 = hex_short 6 in
    let whole : length (place_line a p) ≤ 48 = line_short (9 ∷ 1 ∷ 6 ∷ 6 ∷ 5 ∷ 6 ∷ 8 ∷ 6 ∷ [])
    (codes "state io " ∷ decimal a ∷ codes " line " ∷ hex 6 (mask_by (λ q. q.line) p.chip.pins) ∷ codes " due " ∷ hex 6 (mask_by (λ q. q.due) p.chip.pins) ∷ codes " remote " ∷ hex 6 (mask_by (λ q. q.remote) p.chip.pins) ∷ [])
    (short (codes "state io ") 9 refl, (digit a l, (short (codes " line ") 6 refl, (masks (mask_by (λ q. q.line) p.chip.pins), (short (codes " due ") 5 refl, (masks (mask_by (λ q. q.due) p.chip.pins), (short (codes " remote ") 8 refl, (masks (mask_by (λ q. q.remote) p.chip.pins), tt))))))))
    in
    omega (arith, whole)

imcr_short : (r : Imcr) → length (imcr_line r) ≤ 16
imcr_short imcr.Absent = short (imcr_line imcr.Absent) 16 refl
imcr_short imcr.Pic = short (imcr_line imcr.Pic) 16 refl
imcr_short imcr.Apic = short (imcr_line imcr.Apic) 16 refl

concat_long : (xs ys : List (List ℕ)) → length (concat (xs ++ ys)) ≡ length (concat xs) + length (concat ys)
concat_long [] ys = omega arith
concat_long (x ∷ xs) ys = omega (arith, length-append x (concat (xs ++ ys)), length-append x (concat xs), concat_long xs ys)

processors_short : (ps : List Processor) → length (concat (map processor_line ps)) ≤ length ps * 4096
processors_short [] = omega arith
processors_short (p ∷ ps) = omega (arith, length-append (processor_line p) (concat (map processor_line ps)), processor_short p, processors_short ps)

places_short : (a : ℕ) (ps : List Place) → a + length ps ≤ 10 → length (concat (numbered place_line a ps)) ≤ length ps * 64
places_short a [] l = omega arith
places_short a (p ∷ ps) l =
    let here : length (place_line a p) ≤ 64 = place_short a p (omega (arith, l)) in
    let rest : length (concat (numbered place_line (a + 1) ps)) ≤ length ps * 64 = places_short (a + 1) ps (omega (arith, l)) in
    omega (arith, length-append (place_line a p) (concat (numbered place_line (a + 1) ps)), here, rest)

state_short : (s : BoardState) → length s.processors ≤ 8 → length s.places ≤ 4 → length (concat (state_lines s)) ≤ 33040
state_short s few few_places =
    let cpus : List (List ℕ) = map processor_line s.processors in
    let ios : List (List ℕ) = numbered place_line 0 s.places in
    let first : length (imcr_line s.imcr) ≤ 16 = imcr_short s.imcr in
    let all : length (concat (cpus ++ ios)) ≡ length (concat cpus) + length (concat ios) = concat_long cpus ios in
    let of_cpus : length (concat cpus) ≤ length s.processors * 4096 = processors_short s.processors in
    let of_ios : length (concat ios) ≤ length s.places * 64 = places_short 0 s.places (omega (arith, few_places)) in
    let whole : length (concat (state_lines s)) ≡ length (imcr_line s.imcr) + length (concat (cpus ++ ios)) = length-append (imcr_line s.imcr) (concat (cpus ++ ios)) in
    omega (arith, first, all, of_cpus, of_ios, whole, few, few_places)

-- ---- the whole

-- a device has no more pulses than words
pulses_few : (words : List DevWord) → length (pulses_in words) ≤ length words
pulses_few [] = omega arith
pulses_few (word.Pulse a pin ∷ words) = omega (arith, pulses_few words)
pulses_few (word.High a pin ∷ words) = omega (arith, pulses_few words)
pulses_few (word.Low a pin ∷ words) = omega (arith, pulses_few words)

plans_few : (devices : List (List DevWord)) → sum_by length (map pulses_in devices) ≤ sum_by length devices
plans_few [] = omega arith
plans_few (words ∷ devices) = rw (sum_by-cons (length {A = Pulse}) (pulses_in words) (map pulses_in devices), sum_by-cons (length {A = DevWord}) words devices) (omega (arith, pulses_few words, plans_few devices))

logs_long : (logs : List (List (Pulse × Hit))) → sum_by length (map pulses_of logs) ≡ sum_by length logs
logs_long [] = refl
logs_long (log ∷ logs) = rw (sum_by-cons (length {A = Pulse}) (pulses_of log) (map pulses_of logs), sum_by-cons (length {A = Pulse × Hit}) log logs) (omega (arith, length-map log (λ (x : Pulse × Hit). x.0), logs_long logs))

text_short : (c : Plan) (journal : List Entry) (logs : List (List (Pulse × Hit))) → length journal < 850000 → sum_by length logs ≤ 8192 → AllByRecursion IsRightEntry journal → length logs ≤ 4 → AllByRecursion IsRightLog logs → length (final_state_of c journal).processors ≤ 8 → length (final_state_of c journal).places ≤ 4 → length (report_of c journal logs) ≤ 268435456
text_short c journal logs few pulses entries few_logs right processors places =
    let rest : List (List ℕ) = numbered log_line 0 logs ++ (state_lines (final_state_of c journal) ++ end_line ∷ []) in
    let title : length title_line ≤ 9 = short title_line 9 refl in
    let last : length (concat (end_line ∷ [])) ≤ 4 = short (concat (end_line ∷ [])) 4 refl in
    let count : length (count_line (length journal)) ≤ 19 = line_short (8 ∷ 10 ∷ []) (codes "entries " ∷ decimal (length journal) ∷ []) (short (codes "entries ") 8 refl, (length-decimal-le 10 (length journal) (omega arith) (omega (arith, few)) (omega (arith, few)), tt)) in
    let lines : length (concat (numbered entry_line 0 journal)) ≤ length journal * 256 = entries_short 0 journal (omega (arith, few)) entries in
    let of_logs : length (concat (numbered log_line 0 logs)) ≤ sum_by length logs * 16 + length logs * 14 = logs_short 0 logs (omega (arith, few_logs)) right in
    let of_state : length (concat (state_lines (final_state_of c journal))) ≤ 33040 = state_short (final_state_of c journal) processors places in
    let whole : length (concat (journal_lines journal ++ rest)) ≡ length (concat (journal_lines journal)) + length (concat rest) = concat_long (journal_lines journal) rest in
    let head : length (concat (journal_lines journal)) ≡ length title_line + length (concat (count_line (length journal) ∷ numbered entry_line 0 journal)) = length-append title_line (concat (count_line (length journal) ∷ numbered entry_line 0 journal)) in
    let next : length (concat (count_line (length journal) ∷ numbered entry_line 0 journal)) ≡ length (count_line (length journal)) + length (concat (numbered entry_line 0 journal)) = length-append (count_line (length journal)) (concat (numbered entry_line 0 journal)) in
    let behind : length (concat rest) ≡ length (concat (numbered log_line 0 logs)) + length (concat (state_lines (final_state_of c journal) ++ end_line ∷ [])) = concat_long (numbered log_line 0 logs) (state_lines (final_state_of c journal) ++ end_line ∷ []) in
    let ends : length (concat (state_lines (final_state_of c journal) ++ end_line ∷ [])) ≡ length (concat (state_lines (final_state_of c journal))) + length (concat (end_line ∷ [])) = concat_long (state_lines (final_state_of c journal)) (end_line ∷ []) in
    omega (arith, title, last, count, lines, of_logs, of_state, whole, head, next, behind, ends, few, pulses, few_logs)

pub report_short : (c : Plan) (journal : List Entry) (logs : List (List (Pulse × Hit))) → IsConfig c → HasOpValues c → room c < 850000 → sum_by length c.devices ≤ 8192 → IsLegal c journal → map pulses_of logs ≡ map pulses_in c.devices → length (report_of c journal logs) ≤ 268435456
report_short c journal logs is v small words legal e =
    let right : HasReport (shown_report c journal logs) = shown_right c journal logs is v legal e in
    let fits : IsFit (final_state_of c journal) = end_fits (initial_state_of c) journal (opening_fits c is v) legal in
    let within : length journal ≤ room c = within_room c journal is legal in
    let same : sum_by length (map pulses_of logs) ≡ sum_by length (map pulses_in c.devices) = ap (λ (l : List (List Pulse)). sum_by length l) e in
    text_short c journal logs (omega (arith, within, small)) (omega (arith, same, logs_long logs, plans_few c.devices, words)) right.entries right.logs.0 right.logs.1 fits.few fits.few_places
