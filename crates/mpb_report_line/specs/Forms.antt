-- The reading of the lines of a report from the left: a value and what follows its line. Only private functions cite it.
use Rattle.std.specs.Prelude.{ℕ, Bool, true, false, List, [], ◌∷◌, ◌++◌, length, Option, codes, decimal}
use Rattle.mpb_spec.specs.declared.agent.Agent.{Agent}
use Rattle.mpb_spec.specs.declared.agent.Agent.TheVariants.{Cpu, Io, Dev}
use Rattle.mpb_spec.specs.declared.agent.Op.{Op}
use Rattle.mpb_spec.specs.declared.agent.Op.TheVariants as op
use Rattle.mpb_spec.specs.declared.entry.Entry.{Entry}
use Rattle.mpb_spec.specs.declared.entry.Outcome.{Outcome}
use Rattle.mpb_spec.specs.declared.entry.What.{What}
use Rattle.mpb_spec.specs.declared.entry.What.TheVariants as what
use Rattle.mpb_spec.specs.declared.config.Life.{Life}
use Rattle.mpb_spec.specs.declared.config.Life.TheVariants as life
use Rattle.mpb_spec.specs.declared.config.Imcr.{Imcr}
use Rattle.mpb_spec.specs.declared.config.Imcr.TheVariants as imcr
use Rattle.mpb_spec.specs.declared.pulse.Pulse.{Pulse}
use Rattle.mpb_spec.specs.declared.pulse.Hit.{Hit}
use Rattle.mpb_spec.specs.declared.pulse.Hit.TheVariants.{New, Merged}
use Rattle.mpt_line.specs.Reading.{hex_in, field_in, after, both, ended, seen_as, checked, either}
use Rattle.mpb_report_line.specs.declared.report.CpuLine.{CpuLine}
use Rattle.mpb_report_line.specs.declared.report.IoLine.{IoLine}
use Rattle.mpb_report_line.specs.Reading.{before, named, held_in, up_to_in, place_in, items_in, is_filled, ascends}

-- who makes a step
unfoldable pub agent_in : List ℕ → Option (Agent × List ℕ)
agent_in = either (seen_as Cpu (field_in (codes "cpu ") 2)) (either (seen_as Io (after (codes "io ") place_in)) (seen_as Dev (after (codes "dev ") place_in)))

-- what stands behind an op
abbrev pub colon : List ℕ
colon = codes " :"

-- the ops without a number, each with what stands behind it
unfoldable pub bare_op_in : List ℕ → Option (Op × List ℕ)
bare_op_in = either (named (codes "imcr :") op.Imcr) (either (named (codes "take :") op.Take) (either (named (codes "poll :") op.Poll) (either (named (codes "eoi :") op.Eoi)
    (either (named (codes "begin :") op.Begin) (either (named (codes "end :") op.End) (named (codes "sweep :") op.Sweep))))))

-- a byte behind a word
unfoldable pub byte_word_in : List ℕ → List ℕ → Option (ℕ × List ℕ)
byte_word_in word = before (field_in word 2) colon

-- those with a byte
unfoldable pub byte_op_in : List ℕ → Option (Op × List ℕ)
byte_op_in = either (seen_as op.Warm (byte_word_in (codes "warm "))) (either (seen_as op.Init (byte_word_in (codes "init "))) (either (seen_as op.Check (byte_word_in (codes "check ")))
    (either (seen_as op.Nmi (byte_word_in (codes "nmi "))) (seen_as op.Tpr (byte_word_in (codes "tpr "))))))

-- two bytes behind a word
unfoldable pub bytes_word_in : List ℕ → List ℕ → Option ((ℕ × ℕ) × List ℕ)
bytes_word_in word = both (field_in word 2) (before (field_in (codes " ") 2) colon)

-- a place behind a word, and a number of some digits
unfoldable pub place_word_in : List ℕ → ℕ → List ℕ → Option ((ℕ × ℕ) × List ℕ)
place_word_in word digits = both (after word place_in) (before (field_in (codes " ") digits) colon)

-- a place behind a word, and a pin
unfoldable pub pin_word_in : List ℕ → List ℕ → Option ((ℕ × ℕ) × List ℕ)
pin_word_in word = both (after word place_in) (after (codes " ") (up_to_in 23 colon))

-- those with two bytes, or with the place of an I/O APIC and a register or a value
unfoldable pub two_op_in : List ℕ → Option (Op × List ℕ)
two_op_in = either (seen_as (λ v. op.Startup v.0 v.1) (bytes_word_in (codes "startup "))) (either (seen_as (λ v. op.Ipi v.0 v.1) (bytes_word_in (codes "ipi ")))
    (either (seen_as (λ v. op.IoSel v.0 v.1) (place_word_in (codes "iosel ") 2)) (seen_as (λ v. op.IoWin v.0 v.1) (place_word_in (codes "iowin ") 8))))

-- those with a pin, a place alone, a set of pins or a time
unfoldable pub pin_op_in : List ℕ → Option (Op × List ℕ)
pin_op_in = either (seen_as (λ v. op.High v.0 v.1) (pin_word_in (codes "high "))) (either (seen_as (λ v. op.Low v.0 v.1) (pin_word_in (codes "low ")))
    (either (seen_as op.Send (after (codes "send ") (up_to_in 23 colon))) (either (seen_as op.IoRead (before (after (codes "ioread ") place_in) colon))
    (either (seen_as op.Collect (before (field_in (codes "collect ") 6) colon)) (seen_as op.Pause (after (codes "pause ") (up_to_in 4294967295 colon)))))))

-- those of logical destinations; the model is 0 or 15
unfoldable pub logical_op_in : List ℕ → Option (Op × List ℕ)
logical_op_in = either (seen_as op.Ldr (byte_word_in (codes "ldr "))) (either (seen_as (λ v. op.Ipl v.0 v.1) (bytes_word_in (codes "ipl ")))
    (either (named (codes "dfr 00 :") (op.Dfr 0)) (named (codes "dfr 0F :") (op.Dfr 15))))

unfoldable pub op_in : List ℕ → Option (Op × List ℕ)
op_in = either bare_op_in (either byte_op_in (either two_op_in (either pin_op_in logical_op_in)))

-- what came of an op at a target
unfoldable pub target_word_in : List ℕ → Option (What × List ℕ)
target_word_in = either (named (codes "set") what.Set) (either (named (codes "merged") what.Merged) (either (named (codes "illegal") what.Illegal) (either (named (codes "asleep") what.Asleep)
    (either (named (codes "absent") what.Absent) (either (named (codes "waiting") what.Waiting) (either (named (codes "ignored") what.Ignored) (either (named (codes "nmi") what.Nmi)
    (named (codes "passed") what.Passed))))))))

unfoldable pub target_what_in : List ℕ → Option (What × List ℕ)
target_what_in = either target_word_in (either (seen_as what.Started (field_in (codes "started.") 2)) (either (seen_as what.Runs (field_in (codes "runs.") 2)) (named (codes "runs.first") what.RunsFirst)))

-- how an interrupt was triggered
unfoldable pub trigger_in : List ℕ → Option (Bool × List ℕ)
trigger_in = either (named (codes "edge") false) (named (codes "level") true)

-- what came of it without one
unfoldable pub bare_word_in : List ℕ → Option (What × List ℕ)
bare_word_in = either (named (codes "done") what.Done) (either (named (codes "unheard") what.Unheard) (either (named (codes "nothing") what.Nothing) (either (named (codes "plain") what.Plain)
    (either (named (codes "due") what.Due) (named (codes "withdrawn") what.Withdrawn)))))

unfoldable pub bare_what_in : List ℕ → Option (What × List ℕ)
bare_what_in = either bare_word_in (either (seen_as what.Taken (field_in (codes "taken.") 2)) (either (seen_as what.Read (field_in (codes "read.") 8))
    (either (seen_as (λ v. what.Ended v.0 v.1) (both (field_in (codes "ended.") 2) (after (codes ".") trigger_in)))
    (seen_as (λ v. what.Pins v.0 v.1) (both (field_in (codes "pins.") 6) (field_in (codes ".") 6))))))

-- an outcome after a space
unfoldable pub outcome_in : List ℕ → Option (Outcome × List ℕ)
outcome_in = after (codes " ") (either (seen_as (λ v. record { at = v.0; what = v.1 }) (both (before (hex_in 2) (codes "=")) target_what_in)) (seen_as (λ w. record { at = 0; what = w }) bare_what_in))

-- one outcome to eight, to the end of the line
unfoldable pub outcomes_in : List ℕ → Option (List Outcome × List ℕ)
outcomes_in = checked is_filled (items_in outcome_in 8 (10 ∷ []))

-- the line of entry k
unfoldable pub entry_in : ℕ → List ℕ → Option (Entry × List ℕ)
entry_in k = after (decimal k ++ codes " ") (seen_as (λ v. record { agent = v.0; op = v.1.0; outcomes = record { items = v.1.1 } }) (both (before agent_in (codes " ")) (both op_in outcomes_in)))

-- what the latch answered
unfoldable pub hit_in : List ℕ → Option (Hit × List ℕ)
hit_in = either (named (codes "new") New) (named (codes "merged") Merged)

-- a pulse after a space
unfoldable pub pulse_in : List ℕ → Option ((Pulse × Hit) × List ℕ)
pulse_in = seen_as (λ v. (record { io = v.0; pin = v.1.0 }, v.1.1)) (both (after (codes " ") place_in) (both (after (codes ".") (up_to_in 23 (codes "="))) hit_in))

-- pulses to the end of the line, or that there are none
unfoldable pub pulses_in : List ℕ → Option (List (Pulse × Hit) × List ℕ)
pulses_in = either (named (codes " none\n") []) (checked is_filled (λ line. items_in pulse_in (length line) (10 ∷ []) line))

-- the line of device d
unfoldable pub log_in : ℕ → List ℕ → Option (List (Pulse × Hit) × List ℕ)
log_in d = after (codes "log ") (after (decimal d ++ colon) pulses_in)

-- the line of the interrupt mode register
unfoldable pub imcr_in : List ℕ → Option (Imcr × List ℕ)
imcr_in = after (codes "state imcr ") (either (named (codes "none\n") imcr.Absent) (either (named (codes "pic\n") imcr.Pic) (named (codes "apic\n") imcr.Apic)))

-- whether a processor runs
unfoldable pub life_in : List ℕ → Option (Life × List ℕ)
life_in = either (named (codes "asleep") life.Asleep) (either (named (codes "waiting") life.Waiting) (either (named (codes "first") life.First) (seen_as life.Started (field_in (codes "started.") 2))))

-- vectors, and then a text
abbrev pub cons_of : ℕ × List ℕ → List ℕ
cons_of v = v.0 ∷ v.1

-- none, and then a text
unfoldable pub no_vectors_in : List ℕ → List ℕ → Option (List ℕ × List ℕ)
no_vectors_in stop = before (named (codes "-") []) stop

unfoldable pub vectors_in : List ℕ → List ℕ → Option (List ℕ × List ℕ)
vectors_in stop = either (no_vectors_in stop) (checked ascends (seen_as cons_of (both (hex_in 2) (items_in (field_in (codes ",") 2) 255 stop))))

-- the three lists of vectors, to the end of the line
unfoldable pub registers_in : List ℕ → Option ((List ℕ × (List ℕ × List ℕ)) × List ℕ)
registers_in = after (codes " irr ") (both (vectors_in (codes " isr ")) (both (vectors_in (codes " tmr ")) (vectors_in (10 ∷ []))))

-- the id, the life and the task priority
unfoldable pub cpu_head_in : List ℕ → Option ((ℕ × (Life × ℕ)) × List ℕ)
cpu_head_in = both (field_in (codes "state cpu ") 2) (both (after (codes " ") life_in) (field_in (codes " tpr ") 2))

-- the line of a processor
unfoldable pub cpu_in : List ℕ → Option (CpuLine × List ℕ)
cpu_in = seen_as (λ v. record { id = v.0.0; life = v.0.1.0; tpr = v.0.1.1; irr = v.1.0; isr = v.1.1.0; tmr = v.1.1.1 }) (both cpu_head_in registers_in)

-- the line of the I/O APIC at place a
unfoldable pub io_in : ℕ → List ℕ → Option (IoLine × List ℕ)
io_in a = after (codes "state io ") (after (decimal a ++ codes " line ")
    (seen_as (λ v. record { line = v.0; due = v.1.0; remote = v.1.1 }) (both (field_in [] 6) (both (field_in (codes " due ") 6) (ended (field_in (codes " remote ") 6))))))

-- how many entries there are, held at the end of u64
unfoldable pub entry_count_in : List ℕ → Option (ℕ × List ℕ)
entry_count_in = after (codes "entries ") (before held_in (10 ∷ []))
