-- Each line of a report ends in a line feed, its only one; so a text has one first line.
use Rattle.std.proofs.Common.{ℕ, zero, suc, ◌+◌, ◌/◌, ◌%◌, Bool, true, false, cond, List, [], ◌∷◌, ◌++◌, length, map, refl, arith}
use Rattle.std.specs.Prelude.{◌≢◌, ◌==◌, codes, decimal, nat_lt}
use Rattle.std.specs.List.{AllByRecursion, concat, flat_map}
use Rattle.std.specs.Fmt.{digits, digits_onto, digit_glyph}
use Rattle.std.proofs.lemmas.Bool.Decides.{nat_tests}
use Rattle.mpt_listing.specs.Listing.{hex, line}
use Rattle.mpt_parse.specs.Listings.{HasNoFeed, IsWholeLine}
use Rattle.mpt_parse.proofs.WholeLines.{joined, text_ok, hex_ok, whole}
use Rattle.mpb_spec.specs.declared.agent.Agent.{Agent}
use Rattle.mpb_spec.specs.declared.agent.Agent.TheVariants as agent
use Rattle.mpb_spec.specs.declared.agent.Op.{Op}
use Rattle.mpb_spec.specs.declared.agent.Op.TheVariants as op
use Rattle.mpb_spec.specs.declared.config.Imcr.{Imcr}
use Rattle.mpb_spec.specs.declared.config.Imcr.TheVariants as imcr
use Rattle.mpb_spec.specs.declared.config.Life.{Life}
use Rattle.mpb_spec.specs.declared.config.Life.TheVariants as life
use Rattle.mpb_spec.specs.declared.entry.Entry.{Entry}
use Rattle.mpb_spec.specs.declared.entry.Outcome.{Outcome}
use Rattle.mpb_spec.specs.declared.entry.What.{What}
use Rattle.mpb_spec.specs.declared.entry.What.TheVariants as what
use Rattle.mpb_spec.specs.declared.pulse.Pulse.{Pulse}
use Rattle.mpb_spec.specs.declared.pulse.Hit.{Hit}
use Rattle.mpb_spec.specs.declared.pulse.Hit.TheVariants as hit
use Rattle.mpb_report_spec.specs.Numbered.{numbered}
use Rattle.mpb_report_spec.specs.EntryLines.{agent_text, op_text, trigger_text, what_text, has_target, outcome_text, further_outcome, entry_line}
use Rattle.mpb_report_spec.specs.LogLines.{hit_text, pulse_text, pulses_text, log_line}
use Rattle.mpb_report_spec.specs.StateLines.{imcr_text, imcr_line, life_text, further_vector, vectors_text}
use Rattle.mpb_report_spec.specs.Report.{title_line, end_line}
use Rattle.mpb_report_line.specs.declared.report.CpuLine.{CpuLine}
use Rattle.mpb_report_line.specs.declared.report.IoLine.{IoLine}
use Rattle.mpb_report_line.specs.declared.report.Report.{Report}
use Rattle.mpb_report_line.specs.Numerals.{numeral, numeral_with}
use Rattle.mpb_report_line.specs.Lines.{entry_count_line, cpu_text, io_text}
use Rattle.mpb_report_parse.specs.Reports.{lines_of}

glyph_ok : (n : ℕ) → digit_glyph false n ≢ 10
glyph_ok n e = grind (arith, nat_tests)

onto_ok : (k n : ℕ) (acc : List ℕ) → HasNoFeed acc → HasNoFeed (digits_onto k 10 false n acc)
onto_ok zero n acc h = h
onto_ok (suc k) n acc h =
    elim (n / 10 == 0) as (λ b. HasNoFeed (cond b (digit_glyph false (n % 10) ∷ acc) (digits_onto k 10 false (n / 10) (digit_glyph false (n % 10) ∷ acc))))
    [ true ↦ (glyph_ok (n % 10), h) | false ↦ onto_ok k (n / 10) (digit_glyph false (n % 10) ∷ acc) (glyph_ok (n % 10), h) ]

decimal_ok : (n : ℕ) → HasNoFeed (decimal n)
unfolding digits
decimal_ok n = onto_ok 64 n [] tt

above_ten : (n : ℕ) → 48 + n ≢ 10
above_ten n e = absurd (omega (arith, e))

numeral_with_ok : (k n : ℕ) → HasNoFeed (numeral_with k n)
unfolding numeral_with
numeral_with_ok zero n = tt
numeral_with_ok (suc k) n =
    elim (nat_lt n 10) as (λ b. HasNoFeed (cond b ((48 + n) ∷ []) (numeral_with k (n / 10) ++ (48 + n % 10) ∷ [])))
    [ true ↦ (above_ten n, tt) | false ↦ joined (numeral_with k (n / 10)) ((48 + n % 10) ∷ []) (numeral_with_ok k (n / 10)) (above_ten (n % 10), tt) ]

numeral_ok : (n : ℕ) → HasNoFeed (numeral n)
unfolding numeral
numeral_ok n = numeral_with_ok (suc n) n

each_ok : {E : Type 0} (show : E → List ℕ) → ((e : E) → HasNoFeed (show e)) → (es : List E) → HasNoFeed (flat_map show es)
each_ok {E} show ok [] = tt
each_ok {E} show ok (e ∷ es) = joined (show e) (flat_map show es) (ok e) (each_ok show ok es)

-- parts without line feeds, end to end
parts_ok : (parts : List (List ℕ)) → AllByRecursion HasNoFeed parts → HasNoFeed (concat parts)
parts_ok [] h = tt
parts_ok (p ∷ ps) h = joined p (concat ps) h.0 (parts_ok ps h.1)

agent_ok : (g : Agent) → HasNoFeed (agent_text g)
agent_ok (agent.Cpu n) = parts_ok (codes "cpu " ∷ hex 2 n ∷ []) (text_ok (codes "cpu ") refl, (hex_ok 2 n, tt))
agent_ok (agent.Io n) = parts_ok (codes "io " ∷ decimal n ∷ []) (text_ok (codes "io ") refl, (decimal_ok n, tt))
agent_ok (agent.Dev n) = parts_ok (codes "dev " ∷ decimal n ∷ []) (text_ok (codes "dev ") refl, (decimal_ok n, tt))

op_ok : (o : Op) → HasNoFeed (op_text o)
op_ok op.Imcr = text_ok (codes "imcr") refl
op_ok op.Take = text_ok (codes "take") refl
op_ok op.Poll = text_ok (codes "poll") refl
op_ok op.Eoi = text_ok (codes "eoi") refl
op_ok op.Begin = text_ok (codes "begin") refl
op_ok op.End = text_ok (codes "end") refl
op_ok op.Sweep = text_ok (codes "sweep") refl
op_ok (op.Warm n) = parts_ok (codes "warm " ∷ hex 2 n ∷ []) (text_ok (codes "warm ") refl, (hex_ok 2 n, tt))
op_ok (op.Init n) = parts_ok (codes "init " ∷ hex 2 n ∷ []) (text_ok (codes "init ") refl, (hex_ok 2 n, tt))
op_ok (op.Check n) = parts_ok (codes "check " ∷ hex 2 n ∷ []) (text_ok (codes "check ") refl, (hex_ok 2 n, tt))
op_ok (op.Nmi n) = parts_ok (codes "nmi " ∷ hex 2 n ∷ []) (text_ok (codes "nmi ") refl, (hex_ok 2 n, tt))
op_ok (op.Tpr n) = parts_ok (codes "tpr " ∷ hex 2 n ∷ []) (text_ok (codes "tpr ") refl, (hex_ok 2 n, tt))
op_ok (op.Startup n m) = parts_ok (codes "startup " ∷ hex 2 n ∷ codes " " ∷ hex 2 m ∷ []) (text_ok (codes "startup ") refl, (hex_ok 2 n, (text_ok (codes " ") refl, (hex_ok 2 m, tt))))
op_ok (op.Ipi n m) = parts_ok (codes "ipi " ∷ hex 2 n ∷ codes " " ∷ hex 2 m ∷ []) (text_ok (codes "ipi ") refl, (hex_ok 2 n, (text_ok (codes " ") refl, (hex_ok 2 m, tt))))
op_ok (op.Ldr n) = parts_ok (codes "ldr " ∷ hex 2 n ∷ []) (text_ok (codes "ldr ") refl, (hex_ok 2 n, tt))
op_ok (op.Dfr n) = parts_ok (codes "dfr " ∷ hex 2 n ∷ []) (text_ok (codes "dfr ") refl, (hex_ok 2 n, tt))
op_ok (op.Ipl n m) = parts_ok (codes "ipl " ∷ hex 2 n ∷ codes " " ∷ hex 2 m ∷ []) (text_ok (codes "ipl ") refl, (hex_ok 2 n, (text_ok (codes " ") refl, (hex_ok 2 m, tt))))
op_ok (op.IoSel n m) = parts_ok (codes "iosel " ∷ decimal n ∷ codes " " ∷ hex 2 m ∷ []) (text_ok (codes "iosel ") refl, (decimal_ok n, (text_ok (codes " ") refl, (hex_ok 2 m, tt))))
op_ok (op.IoWin n m) = parts_ok (codes "iowin " ∷ decimal n ∷ codes " " ∷ hex 8 m ∷ []) (text_ok (codes "iowin ") refl, (decimal_ok n, (text_ok (codes " ") refl, (hex_ok 8 m, tt))))
op_ok (op.High n m) = parts_ok (codes "high " ∷ decimal n ∷ codes " " ∷ decimal m ∷ []) (text_ok (codes "high ") refl, (decimal_ok n, (text_ok (codes " ") refl, (decimal_ok m, tt))))
op_ok (op.Low n m) = parts_ok (codes "low " ∷ decimal n ∷ codes " " ∷ decimal m ∷ []) (text_ok (codes "low ") refl, (decimal_ok n, (text_ok (codes " ") refl, (decimal_ok m, tt))))
op_ok (op.IoRead n) = parts_ok (codes "ioread " ∷ decimal n ∷ []) (text_ok (codes "ioread ") refl, (decimal_ok n, tt))
op_ok (op.Pause n) = parts_ok (codes "pause " ∷ decimal n ∷ []) (text_ok (codes "pause ") refl, (decimal_ok n, tt))
op_ok (op.Send n) = parts_ok (codes "send " ∷ decimal n ∷ []) (text_ok (codes "send ") refl, (decimal_ok n, tt))
op_ok (op.Collect n) = parts_ok (codes "collect " ∷ hex 6 n ∷ []) (text_ok (codes "collect ") refl, (hex_ok 6 n, tt))

trigger_ok : (b : Bool) → HasNoFeed (trigger_text b)
trigger_ok true = text_ok (codes "level") refl
trigger_ok false = text_ok (codes "edge") refl

what_ok : (w : What) → HasNoFeed (what_text w)
what_ok what.Done = text_ok (codes "done") refl
what_ok what.Set = text_ok (codes "set") refl
what_ok what.Merged = text_ok (codes "merged") refl
what_ok what.Illegal = text_ok (codes "illegal") refl
what_ok what.Asleep = text_ok (codes "asleep") refl
what_ok what.Absent = text_ok (codes "absent") refl
what_ok what.Waiting = text_ok (codes "waiting") refl
what_ok what.Ignored = text_ok (codes "ignored") refl
what_ok what.Nmi = text_ok (codes "nmi") refl
what_ok what.Passed = text_ok (codes "passed") refl
what_ok what.Unheard = text_ok (codes "unheard") refl
what_ok what.RunsFirst = text_ok (codes "runs.first") refl
what_ok what.Nothing = text_ok (codes "nothing") refl
what_ok what.Plain = text_ok (codes "plain") refl
what_ok what.Due = text_ok (codes "due") refl
what_ok what.Withdrawn = text_ok (codes "withdrawn") refl
what_ok (what.Started n) = parts_ok (codes "started." ∷ hex 2 n ∷ []) (text_ok (codes "started.") refl, (hex_ok 2 n, tt))
what_ok (what.Runs n) = parts_ok (codes "runs." ∷ hex 2 n ∷ []) (text_ok (codes "runs.") refl, (hex_ok 2 n, tt))
what_ok (what.Taken n) = parts_ok (codes "taken." ∷ hex 2 n ∷ []) (text_ok (codes "taken.") refl, (hex_ok 2 n, tt))
what_ok (what.Read n) = parts_ok (codes "read." ∷ hex 8 n ∷ []) (text_ok (codes "read.") refl, (hex_ok 8 n, tt))
what_ok (what.Ended n l) = parts_ok (codes "ended." ∷ hex 2 n ∷ codes "." ∷ trigger_text l ∷ []) (text_ok (codes "ended.") refl, (hex_ok 2 n, (text_ok (codes ".") refl, (trigger_ok l, tt))))
what_ok (what.Pins n m) = parts_ok (codes "pins." ∷ hex 6 n ∷ codes "." ∷ hex 6 m ∷ []) (text_ok (codes "pins.") refl, (hex_ok 6 n, (text_ok (codes ".") refl, (hex_ok 6 m, tt))))

outcome_ok : (o : Outcome) → HasNoFeed (further_outcome o)
outcome_ok o = joined (codes " ") (outcome_text o) (text_ok (codes " ") refl)
    (elim (has_target o.what) as (λ b. HasNoFeed (cond b (concat (hex 2 o.at ∷ codes "=" ∷ what_text o.what ∷ [])) (what_text o.what))) [ true ↦ parts_ok (hex 2 o.at ∷ codes "=" ∷ what_text o.what ∷ []) (hex_ok 2 o.at, (text_ok (codes "=") refl, (what_ok o.what, tt))) | false ↦ what_ok o.what ])

entry_whole : (k : ℕ) (x : Entry) → IsWholeLine (entry_line k x)
entry_whole k x = whole (decimal k ∷ codes " " ∷ agent_text x.agent ∷ codes " " ∷ op_text x.op ∷ codes " :" ∷ flat_map further_outcome x.outcomes.items ∷ []) (decimal_ok k, (text_ok (codes " ") refl, (agent_ok x.agent, (text_ok (codes " ") refl, (op_ok x.op, (text_ok (codes " :") refl, (each_ok further_outcome outcome_ok x.outcomes.items, tt)))))))

hit_ok : (h : Hit) → HasNoFeed (hit_text h)
hit_ok hit.New = text_ok (codes "new") refl
hit_ok hit.Merged = text_ok (codes "merged") refl

pulse_ok : (x : Pulse × Hit) → HasNoFeed (pulse_text x)
pulse_ok x = parts_ok (codes " " ∷ decimal x.0.io ∷ codes "." ∷ decimal x.0.pin ∷ codes "=" ∷ hit_text x.1 ∷ []) (text_ok (codes " ") refl, (decimal_ok x.0.io, (text_ok (codes ".") refl, (decimal_ok x.0.pin, (text_ok (codes "=") refl, (hit_ok x.1, tt))))))

pulses_ok : (xs : List (Pulse × Hit)) → HasNoFeed (pulses_text xs)
pulses_ok [] = text_ok (codes " none") refl
pulses_ok (x ∷ xs) = each_ok pulse_text pulse_ok (x ∷ xs)

log_whole : (d : ℕ) (x : List (Pulse × Hit)) → IsWholeLine (log_line d x)
log_whole d x = whole (codes "log " ∷ decimal d ∷ codes " :" ∷ pulses_text x ∷ []) (text_ok (codes "log ") refl, (decimal_ok d, (text_ok (codes " :") refl, (pulses_ok x, tt))))

imcr_ok : (r : Imcr) → HasNoFeed (imcr_text r)
imcr_ok imcr.Absent = text_ok (codes "none") refl
imcr_ok imcr.Pic = text_ok (codes "pic") refl
imcr_ok imcr.Apic = text_ok (codes "apic") refl

imcr_whole : (r : Imcr) → IsWholeLine (imcr_line r)
imcr_whole r = whole (codes "state imcr " ∷ imcr_text r ∷ []) (text_ok (codes "state imcr ") refl, (imcr_ok r, tt))

life_ok : (l : Life) → HasNoFeed (life_text l)
life_ok life.Asleep = text_ok (codes "asleep") refl
life_ok life.Waiting = text_ok (codes "waiting") refl
life_ok life.First = text_ok (codes "first") refl
life_ok (life.Started n) = parts_ok (codes "started." ∷ hex 2 n ∷ []) (text_ok (codes "started.") refl, (hex_ok 2 n, tt))

vector_ok : (v : ℕ) → HasNoFeed (further_vector v)
vector_ok v = joined (codes ",") (hex 2 v) (text_ok (codes ",") refl) (hex_ok 2 v)

vectors_ok : (vs : List ℕ) → HasNoFeed (vectors_text vs)
vectors_ok [] = text_ok (codes "-") refl
vectors_ok (v ∷ vs) = joined (hex 2 v) (flat_map further_vector vs) (hex_ok 2 v) (each_ok further_vector vector_ok vs)

cpu_whole : (p : CpuLine) → IsWholeLine (cpu_text p)
cpu_whole p = whole (codes "state cpu " ∷ hex 2 p.id ∷ codes " " ∷ life_text p.life ∷ codes " tpr " ∷ hex 2 p.tpr ∷ concat (codes " irr " ∷ vectors_text p.irr ∷ codes " isr " ∷ vectors_text p.isr ∷ codes " tmr " ∷ vectors_text p.tmr ∷ []) ∷ []) (text_ok (codes "state cpu ") refl, (hex_ok 2 p.id, (text_ok (codes " ") refl, (life_ok p.life, (text_ok (codes " tpr ") refl, (hex_ok 2 p.tpr, (parts_ok (codes " irr " ∷ vectors_text p.irr ∷ codes " isr " ∷ vectors_text p.isr ∷ codes " tmr " ∷ vectors_text p.tmr ∷ []) (text_ok (codes " irr ") refl, (vectors_ok p.irr, (text_ok (codes " isr ") refl, (vectors_ok p.isr, (text_ok (codes " tmr ") refl, (vectors_ok p.tmr, tt)))))), tt)))))))

io_whole : (a : ℕ) (x : IoLine) → IsWholeLine (io_text a x)
io_whole a x = whole (codes "state io " ∷ decimal a ∷ codes " line " ∷ hex 6 x.line ∷ codes " due " ∷ hex 6 x.due ∷ codes " remote " ∷ hex 6 x.remote ∷ []) (text_ok (codes "state io ") refl, (decimal_ok a, (text_ok (codes " line ") refl, (hex_ok 6 x.line, (text_ok (codes " due ") refl, (hex_ok 6 x.due, (text_ok (codes " remote ") refl, (hex_ok 6 x.remote, tt))))))))

all_numbered : {E : Type 0} (show : ℕ → E → List ℕ) → ((s : ℕ) (e : E) → IsWholeLine (show s e)) → (s : ℕ) (es : List E) (ls : List (List ℕ)) → AllByRecursion IsWholeLine ls → AllByRecursion IsWholeLine (numbered show s es ++ ls)
all_numbered {E} show ok s [] ls h = h
all_numbered {E} show ok s (e ∷ es) ls h = (ok s e, all_numbered show ok (s + 1) es ls h)

all_cpus : (ps : List CpuLine) (ls : List (List ℕ)) → AllByRecursion IsWholeLine ls → AllByRecursion IsWholeLine (map cpu_text ps ++ ls)
all_cpus [] ls h = h
all_cpus (p ∷ ps) ls h = (cpu_whole p, all_cpus ps ls h)

title_whole : IsWholeLine title_line
title_whole = whole (codes "mpboot 1" ∷ []) (text_ok (codes "mpboot 1") refl, tt)

end_whole : IsWholeLine end_line
end_whole = whole (codes "end" ∷ []) (text_ok (codes "end") refl, tt)

count_whole : (n : ℕ) → IsWholeLine (entry_count_line n)
count_whole n = whole (codes "entries " ∷ numeral n ∷ []) (text_ok (codes "entries ") refl, (numeral_ok n, tt))

pub lines_whole : (r : Report) → AllByRecursion IsWholeLine (lines_of r)
lines_whole r =
    let ios : AllByRecursion IsWholeLine (numbered io_text 0 r.ios ++ end_line ∷ []) = all_numbered io_text io_whole 0 r.ios (end_line ∷ []) (end_whole, tt) in
    let cpus : AllByRecursion IsWholeLine (map cpu_text r.cpus ++ (numbered io_text 0 r.ios ++ end_line ∷ [])) = all_cpus r.cpus (numbered io_text 0 r.ios ++ end_line ∷ []) ios in
    let logs : AllByRecursion IsWholeLine (numbered log_line 0 r.logs ++ (imcr_line r.imcr ∷ (map cpu_text r.cpus ++ (numbered io_text 0 r.ios ++ end_line ∷ [])))) =
    all_numbered log_line log_whole 0 r.logs (imcr_line r.imcr ∷ (map cpu_text r.cpus ++ (numbered io_text 0 r.ios ++ end_line ∷ []))) (imcr_whole r.imcr, cpus) in
    (title_whole, (count_whole (length r.entries), all_numbered entry_line entry_whole 0 r.entries (numbered log_line 0 r.logs ++ (imcr_line r.imcr ∷ (map cpu_text r.cpus ++ (numbered io_text 0 r.ios ++ end_line ∷ [])))) logs))
