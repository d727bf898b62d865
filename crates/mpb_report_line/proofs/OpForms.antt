-- Agents and ops are read exactly.
use Rattle.std.proofs.Common.{◌≡◌, ℕ, ◌^◌, ◌<◌, List, [], ◌∷◌, ◌++◌, refl, sym, ap, ◌∙◌, subst, append_assoc, arith, inl, inr}
use Rattle.std.specs.Prelude.{codes, decimal, Option, None}
use Rattle.std.specs.List.{concat}
use Rattle.mpt_listing.specs.Listing.{hex}
use Rattle.mpt_line.specs.Reading.{text_in, field_in, after, either, seen_as}
use Rattle.mpt_line.proofs.Exact.{IsExact, after-exact, both-exact, value-exact}
use Rattle.mpt_line.proofs.Digits.{field-exact}
use Rattle.mpb_spec.specs.declared.agent.Agent.{Agent}
use Rattle.mpb_spec.specs.declared.agent.Agent.TheVariants.{Cpu, Io, Dev}
use Rattle.mpb_spec.specs.declared.agent.Op.{Op}
use Rattle.mpb_spec.specs.declared.agent.Op.TheVariants as op
use Rattle.mpb_report_spec.specs.EntryLines.{agent_text, op_text}
use Rattle.mpb_report_line.specs.Values.{IsRightAgent, IsRightOp}
use Rattle.mpb_report_line.specs.Reading.{before, named, up_to_in, place_in}
use Rattle.mpb_report_line.specs.Forms.{agent_in, colon, bare_op_in, byte_word_in, byte_op_in, bytes_word_in, place_word_in, pin_word_in, two_op_in, pin_op_in, logical_op_in, op_in}
use Rattle.mpb_report_line.proofs.NumeralLemmas.{BeginsWithNoDigit}
use Rattle.mpb_report_line.proofs.Parts.{before-exact, retold, IsSound, either-sound, named-sound, tagged-sound, Reads, here, next, named-reads, tagged-reads, two_halves, concat-2, concat-4, place-exact, number-exact, pin-exact}

-- agents
cpu-exact : IsExact (λ n. concat (codes "cpu " ∷ hex 2 n ∷ [])) (λ n. n < 256) (field_in (codes "cpu ") 2)
cpu-exact = retold (field-exact (codes "cpu ") 2) (λ n. concat (codes "cpu " ∷ hex 2 n ∷ [])) (λ n v. concat-2 (codes "cpu ") (hex 2 n))

agent_place-exact : (word : List ℕ) → IsExact (λ n. concat (word ∷ decimal n ∷ [])) (λ n. n < 4) (after word place_in)
agent_place-exact word = retold (after-exact place-exact word) (λ n. concat (word ∷ decimal n ∷ [])) (λ n v. concat-2 word (decimal n))

agent-reads : (g : Agent) → IsRightAgent g → Reads agent_text g agent_in
unfolding agent_in text_in field_in
agent-reads (Cpu id) v = here _ (tagged-reads cpu-exact agent_text Cpu id refl v)
agent-reads (Io a) v = next (seen_as Cpu (field_in (codes "cpu ") 2)) (λ rest. refl) (here _ (tagged-reads (agent_place-exact (codes "io ")) agent_text Io a refl v))
agent-reads (Dev d) v = next (seen_as Cpu (field_in (codes "cpu ") 2)) (λ rest. refl) (next (seen_as Io (after (codes "io ") place_in)) (λ rest. refl) (tagged-reads (agent_place-exact (codes "dev ")) agent_text Dev d refl v))

agent-sound : IsSound agent_text IsRightAgent agent_in
unfolding agent_in
agent-sound =
    either-sound agent_text IsRightAgent _ _ (tagged-sound cpu-exact agent_text IsRightAgent Cpu (λ a v. refl) (λ a v. v))
    (either-sound agent_text IsRightAgent _ _ (tagged-sound (agent_place-exact (codes "io ")) agent_text IsRightAgent Io (λ a v. refl) (λ a v. v))
    (tagged-sound (agent_place-exact (codes "dev ")) agent_text IsRightAgent Dev (λ a v. refl) (λ a v. v)))

pub agent-exact : IsExact agent_text IsRightAgent agent_in
agent-exact = two_halves agent_text IsRightAgent agent_in agent-reads agent-sound

-- an op, and what stands behind it
abbrev pub op_colon : Op → List ℕ
op_colon o = op_text o ++ colon

colon_free : BeginsWithNoDigit colon
colon_free = (omega arith, refl)

-- two numbers behind a word
parts_of_two : (word a gap b stop : List ℕ) → concat (word ∷ a ∷ gap ∷ b ∷ []) ++ stop ≡ (word ++ a) ++ ((gap ++ b) ++ stop)
parts_of_two word a gap b stop = ap (λ x. x ++ stop) (concat-4 word a gap b) ∙ simp append_assoc

parts_of_pin : (word a gap b stop : List ℕ) → concat (word ∷ a ∷ gap ∷ b ∷ []) ++ stop ≡ (word ++ a) ++ (gap ++ (b ++ stop))
parts_of_pin word a gap b stop = ap (λ x. x ++ stop) (concat-4 word a gap b) ∙ simp append_assoc

byte_word-exact : (word : List ℕ) → IsExact (λ p. concat (word ∷ hex 2 p ∷ []) ++ colon) (λ p. p < 256) (byte_word_in word)
unfolding byte_word_in
byte_word-exact word = retold (before-exact (field-exact word 2) colon) (λ p. concat (word ∷ hex 2 p ∷ []) ++ colon) (λ p v. ap (λ x. x ++ colon) (concat-2 word (hex 2 p)))

bytes_word-exact : (word : List ℕ) → IsExact (λ (v : ℕ × ℕ). concat (word ∷ hex 2 v.0 ∷ codes " " ∷ hex 2 v.1 ∷ []) ++ colon) (λ v. (v.0 < 256) × (v.1 < 256)) (bytes_word_in word)
unfolding bytes_word_in
bytes_word-exact word = retold (both-exact (field-exact word 2) (before-exact (field-exact (codes " ") 2) colon)) (λ (v : ℕ × ℕ). concat (word ∷ hex 2 v.0 ∷ codes " " ∷ hex 2 v.1 ∷ []) ++ colon) (λ v _. parts_of_two word (hex 2 v.0) (codes " ") (hex 2 v.1) colon)

place_word-exact : (word : List ℕ) (k : ℕ) → IsExact (λ (v : ℕ × ℕ). concat (word ∷ decimal v.0 ∷ codes " " ∷ hex k v.1 ∷ []) ++ colon) (λ v. (v.0 < 4) × (v.1 < 16 ^ k)) (place_word_in word k)
unfolding place_word_in
place_word-exact word k = retold (both-exact (after-exact place-exact word) (before-exact (field-exact (codes " ") k) colon)) (λ (v : ℕ × ℕ). concat (word ∷ decimal v.0 ∷ codes " " ∷ hex k v.1 ∷ []) ++ colon) (λ v _. parts_of_two word (decimal v.0) (codes " ") (hex k v.1) colon)

pin_word-exact : (word : List ℕ) → IsExact (λ (v : ℕ × ℕ). concat (word ∷ decimal v.0 ∷ codes " " ∷ decimal v.1 ∷ []) ++ colon) (λ v. (v.0 < 4) × (v.1 < 24)) (pin_word_in word)
unfolding pin_word_in
pin_word-exact word = retold (both-exact (after-exact place-exact word) (after-exact (pin-exact colon colon_free) (codes " "))) (λ (v : ℕ × ℕ). concat (word ∷ decimal v.0 ∷ codes " " ∷ decimal v.1 ∷ []) ++ colon) (λ v _. parts_of_pin word (decimal v.0) (codes " ") (decimal v.1) colon)

-- one part behind a word
parts_of_one : (word a stop : List ℕ) → concat (word ∷ a ∷ []) ++ stop ≡ word ++ (a ++ stop)
parts_of_one word a stop = ap (λ x. x ++ stop) (concat-2 word a) ∙ append_assoc word a stop

send-exact : IsExact (λ n. concat (codes "send " ∷ decimal n ∷ []) ++ colon) (λ n. n < 24) (after (codes "send ") (up_to_in 23 colon))
send-exact = retold (after-exact (pin-exact colon colon_free) (codes "send ")) (λ n. concat (codes "send " ∷ decimal n ∷ []) ++ colon) (λ n v. parts_of_one (codes "send ") (decimal n) colon)

io_read-exact : IsExact (λ n. concat (codes "ioread " ∷ decimal n ∷ []) ++ colon) (λ n. n < 4) (before (after (codes "ioread ") place_in) colon)
io_read-exact = retold (before-exact (after-exact place-exact (codes "ioread ")) colon) (λ n. concat (codes "ioread " ∷ decimal n ∷ []) ++ colon) (λ n v. ap (λ x. x ++ colon) (concat-2 (codes "ioread ") (decimal n)))

collect-exact : IsExact (λ n. concat (codes "collect " ∷ hex 6 n ∷ []) ++ colon) (λ n. n < 16 ^ 6) (before (field_in (codes "collect ") 6) colon)
collect-exact = retold (before-exact (field-exact (codes "collect ") 6) colon) (λ n. concat (codes "collect " ∷ hex 6 n ∷ []) ++ colon) (λ n v. ap (λ x. x ++ colon) (concat-2 (codes "collect ") (hex 6 n)))

pause-exact : IsExact (λ n. concat (codes "pause " ∷ decimal n ∷ []) ++ colon) (λ n. n < 2 ^ 32) (after (codes "pause ") (up_to_in 4294967295 colon))
pause-exact =
    value-exact
    (retold (after-exact (number-exact 4294967295 colon (omega arith) colon_free) (codes "pause ")) (λ n. concat (codes "pause " ∷ decimal n ∷ []) ++ colon) (λ n v. parts_of_one (codes "pause ") (decimal n) colon))
    (λ n. n < 2 ^ 32) (λ n v. omega arith) (λ n v. omega arith)

-- the two models of logical destinations as they are written
cluster_text : op_colon (op.Dfr 0) ≡ codes "dfr 00 :"
unfolding hex
cluster_text = refl

flat_text : op_colon (op.Dfr 15) ≡ codes "dfr 0F :"
unfolding hex
flat_text = refl

flat_is_no_cluster : (rest : List ℕ) → named (codes "dfr 00 :") (op.Dfr 0) (op_colon (op.Dfr 15) ++ rest) ≡ None
unfolding hex text_in
flat_is_no_cluster rest = refl

-- what stands there is read
bare : (text : List ℕ) (o : Op) → op_colon o ≡ text → Reads op_colon o (named text o)
bare text o same = named-reads op_colon text o same

op-reads : (o : Op) → IsRightOp o → Reads op_colon o op_in
unfolding op_in bare_op_in byte_op_in two_op_in pin_op_in logical_op_in byte_word_in bytes_word_in place_word_in pin_word_in field_in text_in
op-reads op.Imcr v = here _ (here _ (bare (codes "imcr :") op.Imcr refl))
op-reads op.Take v = here _ (next (named (codes "imcr :") op.Imcr) (λ rest. refl) (here _ (bare (codes "take :") op.Take refl)))
op-reads op.Poll v = here _ (next (named (codes "imcr :") op.Imcr) (λ rest. refl) (next (named (codes "take :") op.Take) (λ rest. refl) (here _ (bare (codes "poll :") op.Poll refl))))
op-reads op.Eoi v = here _ (next (named (codes "imcr :") op.Imcr) (λ rest. refl) (next (named (codes "take :") op.Take) (λ rest. refl) (next (named (codes "poll :") op.Poll) (λ rest. refl) (here _ (bare (codes "eoi :") op.Eoi refl)))))
op-reads op.Begin v = here _ (next (named (codes "imcr :") op.Imcr) (λ rest. refl) (next (named (codes "take :") op.Take) (λ rest. refl) (next (named (codes "poll :") op.Poll) (λ rest. refl) (next (named (codes "eoi :") op.Eoi) (λ rest. refl) (here _ (bare (codes "begin :") op.Begin refl))))))
op-reads op.End v = here _ (next (named (codes "imcr :") op.Imcr) (λ rest. refl) (next (named (codes "take :") op.Take) (λ rest. refl) (next (named (codes "poll :") op.Poll) (λ rest. refl) (next (named (codes "eoi :") op.Eoi) (λ rest. refl) (next (named (codes "begin :") op.Begin) (λ rest. refl) (here _ (bare (codes "end :") op.End refl)))))))
op-reads op.Sweep v = here _ (next (named (codes "imcr :") op.Imcr) (λ rest. refl) (next (named (codes "take :") op.Take) (λ rest. refl) (next (named (codes "poll :") op.Poll) (λ rest. refl) (next (named (codes "eoi :") op.Eoi) (λ rest. refl) (next (named (codes "begin :") op.Begin) (λ rest. refl) (next (named (codes "end :") op.End) (λ rest. refl) (bare (codes "sweep :") op.Sweep refl)))))))
op-reads (op.Warm n) v = next (bare_op_in) (λ rest. refl) (here _ (here _ (tagged-reads (byte_word-exact (codes "warm ")) op_colon op.Warm n refl v)))
op-reads (op.Init n) v = next (bare_op_in) (λ rest. refl) (here _ (next (seen_as op.Warm (byte_word_in (codes "warm "))) (λ rest. refl) (here _ (tagged-reads (byte_word-exact (codes "init ")) op_colon op.Init n refl v))))
op-reads (op.Check n) v = next (bare_op_in) (λ rest. refl) (here _ (next (seen_as op.Warm (byte_word_in (codes "warm "))) (λ rest. refl) (next (seen_as op.Init (byte_word_in (codes "init "))) (λ rest. refl) (here _ (tagged-reads (byte_word-exact (codes "check ")) op_colon op.Check n refl v)))))
op-reads (op.Nmi n) v = next (bare_op_in) (λ rest. refl) (here _ (next (seen_as op.Warm (byte_word_in (codes "warm "))) (λ rest. refl) (next (seen_as op.Init (byte_word_in (codes "init "))) (λ rest. refl) (next (seen_as op.Check (byte_word_in (codes "check "))) (λ rest. refl) (here _ (tagged-reads (byte_word-exact (codes "nmi ")) op_colon op.Nmi n refl v))))))
op-reads (op.Tpr n) v = next (bare_op_in) (λ rest. refl) (here _ (next (seen_as op.Warm (byte_word_in (codes "warm "))) (λ rest. refl) (next (seen_as op.Init (byte_word_in (codes "init "))) (λ rest. refl) (next (seen_as op.Check (byte_word_in (codes "check "))) (λ rest. refl) (next (seen_as op.Nmi (byte_word_in (codes "nmi "))) (λ rest. refl) (tagged-reads (byte_word-exact (codes "tpr ")) op_colon op.Tpr n refl v))))))
op-reads (op.Startup n m) v = next (bare_op_in) (λ rest. refl) (next (byte_op_in) (λ rest. refl) (here _ (here _ (tagged-reads (bytes_word-exact (codes "startup ")) op_colon (λ v. op.Startup v.0 v.1) (n, m) refl v))))
op-reads (op.Ipi n m) v = next (bare_op_in) (λ rest. refl) (next (byte_op_in) (λ rest. refl) (here _ (next (seen_as (λ v. op.Startup v.0 v.1) (bytes_word_in (codes "startup "))) (λ rest. refl) (here _ (tagged-reads (bytes_word-exact (codes "ipi ")) op_colon (λ v. op.Ipi v.0 v.1) (n, m) refl v)))))
op-reads (op.IoSel n m) v = next (bare_op_in) (λ rest. refl) (next (byte_op_in) (λ rest. refl) (here _ (next (seen_as (λ v. op.Startup v.0 v.1) (bytes_word_in (codes "startup "))) (λ rest. refl) (next (seen_as (λ v. op.Ipi v.0 v.1) (bytes_word_in (codes "ipi "))) (λ rest. refl) (here _ (tagged-reads (place_word-exact (codes "iosel ") 2) op_colon (λ v. op.IoSel v.0 v.1) (n, m) refl v))))))
op-reads (op.IoWin n m) v = next (bare_op_in) (λ rest. refl) (next (byte_op_in) (λ rest. refl) (here _ (next (seen_as (λ v. op.Startup v.0 v.1) (bytes_word_in (codes "startup "))) (λ rest. refl) (next (seen_as (λ v. op.Ipi v.0 v.1) (bytes_word_in (codes "ipi "))) (λ rest. refl) (next (seen_as (λ v. op.IoSel v.0 v.1) (place_word_in (codes "iosel ") 2)) (λ rest. refl) (tagged-reads (place_word-exact (codes "iowin ") 8) op_colon (λ v. op.IoWin v.0 v.1) (n, m) refl v))))))
op-reads (op.High n m) v = next (bare_op_in) (λ rest. refl) (next (byte_op_in) (λ rest. refl) (next (two_op_in) (λ rest. refl) (here _ (here _ (tagged-reads (pin_word-exact (codes "high ")) op_colon (λ v. op.High v.0 v.1) (n, m) refl v)))))
op-reads (op.Low n m) v = next (bare_op_in) (λ rest. refl) (next (byte_op_in) (λ rest. refl) (next (two_op_in) (λ rest. refl) (here _ (next (seen_as (λ v. op.High v.0 v.1) (pin_word_in (codes "high "))) (λ rest. refl) (here _ (tagged-reads (pin_word-exact (codes "low ")) op_colon (λ v. op.Low v.0 v.1) (n, m) refl v))))))
op-reads (op.Send n) v = next (bare_op_in) (λ rest. refl) (next (byte_op_in) (λ rest. refl) (next (two_op_in) (λ rest. refl) (here _ (next (seen_as (λ v. op.High v.0 v.1) (pin_word_in (codes "high "))) (λ rest. refl) (next (seen_as (λ v. op.Low v.0 v.1) (pin_word_in (codes "low "))) (λ rest. refl) (here _ (tagged-reads send-exact op_colon op.Send n refl v)))))))
op-reads (op.IoRead n) v = next (bare_op_in) (λ rest. refl) (next (byte_op_in) (λ rest. refl) (next (two_op_in) (λ rest. refl) (here _ (next (seen_as (λ v. op.High v.0 v.1) (pin_word_in (codes "high "))) (λ rest. refl) (next (seen_as (λ v. op.Low v.0 v.1) (pin_word_in (codes "low "))) (λ rest. refl) (next (seen_as op.Send (after (codes "send ") (up_to_in 23 colon))) (λ rest. refl) (here _ (tagged-reads io_read-exact op_colon op.IoRead n refl v))))))))
op-reads (op.Collect n) v = next (bare_op_in) (λ rest. refl) (next (byte_op_in) (λ rest. refl) (next (two_op_in) (λ rest. refl) (here _ (next (seen_as (λ v. op.High v.0 v.1) (pin_word_in (codes "high "))) (λ rest. refl) (next (seen_as (λ v. op.Low v.0 v.1) (pin_word_in (codes "low "))) (λ rest. refl) (next (seen_as op.Send (after (codes "send ") (up_to_in 23 colon))) (λ rest. refl) (next (seen_as op.IoRead (before (after (codes "ioread ") place_in) colon)) (λ rest. refl) (here _ (tagged-reads collect-exact op_colon op.Collect n refl v)))))))))
op-reads (op.Pause n) v = next (bare_op_in) (λ rest. refl) (next (byte_op_in) (λ rest. refl) (next (two_op_in) (λ rest. refl) (here _ (next (seen_as (λ v. op.High v.0 v.1) (pin_word_in (codes "high "))) (λ rest. refl) (next (seen_as (λ v. op.Low v.0 v.1) (pin_word_in (codes "low "))) (λ rest. refl) (next (seen_as op.Send (after (codes "send ") (up_to_in 23 colon))) (λ rest. refl) (next (seen_as op.IoRead (before (after (codes "ioread ") place_in) colon)) (λ rest. refl) (next (seen_as op.Collect (before (field_in (codes "collect ") 6) colon)) (λ rest. refl) (tagged-reads pause-exact op_colon op.Pause n refl v)))))))))
op-reads (op.Ldr n) v = next (bare_op_in) (λ rest. refl) (next (byte_op_in) (λ rest. refl) (next (two_op_in) (λ rest. refl) (next (pin_op_in) (λ rest. refl) (here _ (tagged-reads (byte_word-exact (codes "ldr ")) op_colon op.Ldr n refl v)))))
op-reads (op.Ipl n m) v = next (bare_op_in) (λ rest. refl) (next (byte_op_in) (λ rest. refl) (next (two_op_in) (λ rest. refl) (next (pin_op_in) (λ rest. refl) (next (seen_as op.Ldr (byte_word_in (codes "ldr "))) (λ rest. refl) (here _ (tagged-reads (bytes_word-exact (codes "ipl ")) op_colon (λ v. op.Ipl v.0 v.1) (n, m) refl v))))))
op-reads (op.Dfr n) (inl e) = subst (λ (m : ℕ). Reads op_colon (op.Dfr m) op_in) (sym e) (next (bare_op_in) (λ rest. refl) (next (byte_op_in) (λ rest. refl) (next (two_op_in) (λ rest. refl) (next (pin_op_in) (λ rest. refl) (next (seen_as op.Ldr (byte_word_in (codes "ldr "))) (λ rest. refl) (next (seen_as (λ v. op.Ipl v.0 v.1) (bytes_word_in (codes "ipl "))) (λ rest. refl) (here _ (bare (codes "dfr 00 :") (op.Dfr 0) cluster_text))))))))
op-reads (op.Dfr n) (inr e) = subst (λ (m : ℕ). Reads op_colon (op.Dfr m) op_in) (sym e) (next (bare_op_in) (λ rest. refl) (next (byte_op_in) (λ rest. refl) (next (two_op_in) (λ rest. refl) (next (pin_op_in) (λ rest. refl) (next (seen_as op.Ldr (byte_word_in (codes "ldr "))) (λ rest. refl) (next (seen_as (λ v. op.Ipl v.0 v.1) (bytes_word_in (codes "ipl "))) (λ rest. refl) (next (named (codes "dfr 00 :") (op.Dfr 0)) flat_is_no_cluster (bare (codes "dfr 0F :") (op.Dfr 15) flat_text))))))))

-- what is read stood there
both_ways : (r s : List ℕ → Option (Op × List ℕ)) → IsSound op_colon IsRightOp r → IsSound op_colon IsRightOp s → IsSound op_colon IsRightOp (either r s)
both_ways r s = either-sound op_colon IsRightOp r s

bare-sound : (text : List ℕ) (o : Op) → op_colon o ≡ text → IsRightOp o → IsSound op_colon IsRightOp (named text o)
bare-sound text o same v = named-sound op_colon IsRightOp text o same v

bare_op-sound : IsSound op_colon IsRightOp bare_op_in
unfolding bare_op_in
bare_op-sound =
    both_ways _ _ (bare-sound (codes "imcr :") op.Imcr refl tt) (both_ways _ _ (bare-sound (codes "take :") op.Take refl tt) (both_ways _ _ (bare-sound (codes "poll :") op.Poll refl tt)
    (both_ways _ _ (bare-sound (codes "eoi :") op.Eoi refl tt) (both_ways _ _ (bare-sound (codes "begin :") op.Begin refl tt) (both_ways _ _ (bare-sound (codes "end :") op.End refl tt) (bare-sound (codes "sweep :") op.Sweep refl tt))))))

byte_op-sound : IsSound op_colon IsRightOp byte_op_in
unfolding byte_op_in
byte_op-sound =
    both_ways _ _ (tagged-sound (byte_word-exact (codes "warm ")) op_colon IsRightOp op.Warm (λ a v. refl) (λ a v. v)) (both_ways _ _ (tagged-sound (byte_word-exact (codes "init ")) op_colon IsRightOp op.Init (λ a v. refl) (λ a v. v))
    (both_ways _ _ (tagged-sound (byte_word-exact (codes "check ")) op_colon IsRightOp op.Check (λ a v. refl) (λ a v. v)) (both_ways _ _ (tagged-sound (byte_word-exact (codes "nmi ")) op_colon IsRightOp op.Nmi (λ a v. refl) (λ a v. v))
    (tagged-sound (byte_word-exact (codes "tpr ")) op_colon IsRightOp op.Tpr (λ a v. refl) (λ a v. v)))))

two_op-sound : IsSound op_colon IsRightOp two_op_in
unfolding two_op_in
two_op-sound =
    both_ways _ _ (tagged-sound (bytes_word-exact (codes "startup ")) op_colon IsRightOp (λ v. op.Startup v.0 v.1) (λ a v. refl) (λ a v. v)) (both_ways _ _ (tagged-sound (bytes_word-exact (codes "ipi ")) op_colon IsRightOp (λ v. op.Ipi v.0 v.1) (λ a v. refl) (λ a v. v))
    (both_ways _ _ (tagged-sound (place_word-exact (codes "iosel ") 2) op_colon IsRightOp (λ v. op.IoSel v.0 v.1) (λ a v. refl) (λ a v. v)) (tagged-sound (place_word-exact (codes "iowin ") 8) op_colon IsRightOp (λ v. op.IoWin v.0 v.1) (λ a v. refl) (λ a v. v))))

pin_op-sound : IsSound op_colon IsRightOp pin_op_in
unfolding pin_op_in
pin_op-sound =
    both_ways _ _ (tagged-sound (pin_word-exact (codes "high ")) op_colon IsRightOp (λ v. op.High v.0 v.1) (λ a v. refl) (λ a v. v)) (both_ways _ _ (tagged-sound (pin_word-exact (codes "low ")) op_colon IsRightOp (λ v. op.Low v.0 v.1) (λ a v. refl) (λ a v. v))
    (both_ways _ _ (tagged-sound send-exact op_colon IsRightOp op.Send (λ a v. refl) (λ a v. v)) (both_ways _ _ (tagged-sound io_read-exact op_colon IsRightOp op.IoRead (λ a v. refl) (λ a v. v))
    (both_ways _ _ (tagged-sound collect-exact op_colon IsRightOp op.Collect (λ a v. refl) (λ a v. v)) (tagged-sound pause-exact op_colon IsRightOp op.Pause (λ a v. refl) (λ a v. v))))))

logical_op-sound : IsSound op_colon IsRightOp logical_op_in
unfolding logical_op_in
logical_op-sound =
    both_ways _ _ (tagged-sound (byte_word-exact (codes "ldr ")) op_colon IsRightOp op.Ldr (λ a v. refl) (λ a v. v)) (both_ways _ _ (tagged-sound (bytes_word-exact (codes "ipl ")) op_colon IsRightOp (λ v. op.Ipl v.0 v.1) (λ a v. refl) (λ a v. v))
    (both_ways _ _ (bare-sound (codes "dfr 00 :") (op.Dfr 0) cluster_text (inl refl)) (bare-sound (codes "dfr 0F :") (op.Dfr 15) flat_text (inr refl))))

op-sound : IsSound op_colon IsRightOp op_in
unfolding op_in
op-sound = both_ways _ _ bare_op-sound (both_ways _ _ byte_op-sound (both_ways _ _ two_op-sound (both_ways _ _ pin_op-sound logical_op-sound)))

pub op-exact : IsExact op_colon IsRightOp op_in
op-exact = two_halves op_colon IsRightOp op_in op-reads op-sound
