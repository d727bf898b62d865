-- What the initial_state_of state has to spend is the sum that the config says.
use Rattle.std.proofs.Common.{◌≡◌, ◌≢◌, ◌==◌, ℕ, zero, suc, ◌+◌, ◌*◌, ◌<◌, ◌≤◌, true, false, cond, ◌&&◌, List, [], ◌∷◌, ◌++◌, length, take, drop, map, sum, sum_by, count_by, refl, sym, ap, arith, inl, inr, ◌⊎◌}
use Rattle.std.proofs.lemmas.List.Sums.{sum_by-cons}
use Rattle.std.proofs.lemmas.Bool.{cases_eq, eq-eqb, ne_eqb}
use Rattle.std.specs.List.{range_with_len, filter_map, AllByRecursion}
use Rattle.mpb_spec.specs.declared.entry.Entry.{Entry}
use Rattle.mpb_spec.specs.declared.agent.Op.{Op}
use Rattle.mpb_spec.specs.declared.agent.Op.TheVariants as op
use Rattle.mpb_spec.specs.declared.config.DevWord.{DevWord}
use Rattle.mpb_spec.specs.declared.config.DevWord.TheVariants as word
use Rattle.mpb_spec.specs.State.{Place}
use Rattle.mpb_spec.specs.Plan.{Plan, CpuPlan, initial_state_of, op_of_word, device_program, first_place, first_places, first_processor, first_device}
use Rattle.mpb_spec.specs.Configs.{IsConfig, IsCpuPlan, IsWordOn, is_boot_op, is_script_op, boot_ops}
use Rattle.mpb_spec.specs.Room.{sends_by, program_cost, processor_cost, device_cost, place_cost, due_pins, pins_in, cost, room, is_pulse, is_high, is_write, is_eoi}
use Rattle.mpb_spec.specs.Journal.{IsLegal}
use Rattle.mpb_spec.proofs.Planned.{pulses_on, planned_by, planned_by_more}
use Rattle.mpb_laws.proofs.StepSpends.{steps_within}

-- sums over n pins, and over the pins of all I/O APICs
abbrev row : (ℕ → ℕ) → ℕ → ℕ → ℕ
row f k n = sum (map f (range_with_len k n))

abbrev grid : ℕ → (ℕ → ℕ → ℕ) → ℕ → List ℕ → ℕ
grid n f a [] = 0
grid n f a (id ∷ ids) = row (f a) 0 n + grid n f (a + 1) ids

row-cons : (f : ℕ → ℕ) (k n : ℕ) → row f k (suc n) ≡ f k + row f (k + 1) n
row-cons f k n = sum_by-cons (λ (x : ℕ). x) (f k) (map f (range_with_len (k + 1) n))

row-add : (f g h : ℕ → ℕ) (k n : ℕ) → ((p : ℕ) → h p ≡ f p + g p) → row h k n ≡ row f k n + row g k n
row-add f g h k zero e = refl
row-add f g h k (suc n) e = rw (row-cons h k n, row-cons f k n, row-cons g k n) (omega (arith, e k, row-add f g h (k + 1) n e))

row-zero : (f : ℕ → ℕ) (k n : ℕ) → ((p : ℕ) → f p ≡ 0) → row f k n ≡ 0
row-zero f k zero e = refl
row-zero f k (suc n) e = rw (row-cons f k n) (omega (arith, e k, row-zero f (k + 1) n e))

grid-add : (n : ℕ) (f g h : ℕ → ℕ → ℕ) (a : ℕ) (ids : List ℕ) → ((x p : ℕ) → h x p ≡ f x p + g x p) → grid n h a ids ≡ grid n f a ids + grid n g a ids
grid-add n f g h a [] e = refl
grid-add n f g h a (id ∷ ids) e = omega (arith, row-add (f a) (g a) (h a) 0 n (e a), grid-add n f g h (a + 1) ids e)

grid-zero : (n : ℕ) (f : ℕ → ℕ → ℕ) (a : ℕ) (ids : List ℕ) → ((x p : ℕ) → f x p ≡ 0) → grid n f a ids ≡ 0
grid-zero n f a [] e = refl
grid-zero n f a (id ∷ ids) e = omega (arith, row-zero (f a) 0 n (e a), grid-zero n f (a + 1) ids e)

-- one pin of one I/O APIC
abbrev one : ℕ → ℕ → ℕ → ℕ → ℕ
one b p a q = cond ((b == a) && (p == q)) 1 0

row-off : (b p a k n : ℕ) → a ≢ b → row (one b p a) k n ≡ 0
row-off b p a k n ne = row-zero (one b p a) k n (λ q. rw (ne_eqb b a (λ e. ne (sym e))) refl)

one-here : (b p a q : ℕ) → a ≡ b → q ≡ p → one b p a q ≡ 1
one-here b p a q e f = rw (eq-eqb b a (sym e)) (rw (eq-eqb p q (sym f)) refl)

one-off : (b p a q : ℕ) → a ≡ b → q ≢ p → one b p a q ≡ 0
one-off b p a q e ne = rw (eq-eqb b a (sym e)) (rw (ne_eqb p q (λ f. ne (sym f))) refl)

row-miss : (b p a k n : ℕ) → a ≡ b → p < k → row (one b p a) k n ≡ 0
row-miss b p a k zero e lt = refl
row-miss b p a k (suc n) e lt =
    let here = one-off b p a k e (λ (same : k ≡ p). absurd (omega (arith, same, lt))) in
    rw (row-cons (one b p a) k n) (omega (arith, here, row-miss b p a (k + 1) n e (omega (arith, lt))))

row-hit : (b p a k n : ℕ) → a ≡ b → k ≤ p → p < k + n → row (one b p a) k n ≡ 1
row-hit b p a k zero e le lt = absurd (omega (arith, le, lt))
row-hit b p a k (suc n) e le lt =
    rw (row-cons (one b p a) k n)
    (elim (cases_eq k p) [
      | inl same ↦ omega (arith, one-here b p a k e same, row-miss b p a (k + 1) n e (omega (arith, same)))
      | inr ne ↦ let on : k + 1 ≤ p = omega (arith, le, ne) in omega (arith, one-off b p a k e ne, row-hit b p a (k + 1) n e on (omega (arith, lt)))
    ])

grid-miss : (n b p a : ℕ) (ids : List ℕ) → b < a → grid n (one b p) a ids ≡ 0
grid-miss n b p a [] lt = refl
grid-miss n b p a (id ∷ ids) lt =
    let off = row-off b p a 0 n (λ (same : a ≡ b). absurd (omega (arith, same, lt))) in
    omega (arith, off, grid-miss n b p (a + 1) ids (omega (arith, lt)))

grid-hit : (n b p a : ℕ) (ids : List ℕ) → a ≤ b → b < a + length ids → p < n → grid n (one b p) a ids ≡ 1
grid-hit n b p a [] le lt in' = absurd (omega (arith, le, lt))
grid-hit n b p a (id ∷ ids) le lt in' =
    elim (cases_eq a b) [
      | inl same ↦ omega (arith, row-hit b p a 0 n same (omega arith) (omega (arith, in')), grid-miss n b p (a + 1) ids (omega (arith, same)))
      | inr ne ↦ let on : a + 1 ≤ b = omega (arith, le, ne) in omega (arith, row-off b p a 0 n ne, grid-hit n b p (a + 1) ids on (omega (arith, lt)) in')
    ]

-- the pulses of a word, of a device, of all devices
word-grid : (n : ℕ) (ids : List ℕ) (w : DevWord) → 24 ≤ n → IsWordOn (length ids) w → grid n (λ a p. pulses_on a p w) 0 ids ≡ cond (is_pulse w) 1 0
word-grid n ids (word.Pulse b p) le on = grid-hit n b p 0 ids (omega arith) (omega (arith, on.0)) (omega (arith, on.1, le))
word-grid n ids (word.High b p) le on = grid-zero n (λ a q. 0) 0 ids (λ a q. refl)
word-grid n ids (word.Low b p) le on = grid-zero n (λ a q. 0) 0 ids (λ a q. refl)

words-grid : (n : ℕ) (ids : List ℕ) (ws : List DevWord) → 24 ≤ n → AllByRecursion (IsWordOn (length ids)) ws → grid n (λ a p. sum_by (pulses_on a p) ws) 0 ids ≡ count_by is_pulse ws
words-grid n ids [] le on = grid-zero n (λ a p. 0) 0 ids (λ a p. refl)
words-grid n ids (w ∷ ws) le on =
    let parts = grid-add n (λ a p. pulses_on a p w) (λ a p. sum_by (pulses_on a p) ws) (λ a p. sum_by (pulses_on a p) (w ∷ ws)) 0 ids (λ a p. sum_by-cons (pulses_on a p) w ws) in
    rw (sum_by-cons (λ v. cond {A = ℕ} (is_pulse v) 1 0) w ws) (omega (arith, parts, word-grid n ids w le on.0, words-grid n ids ws le on.1))

devices-grid : (n : ℕ) (ids : List ℕ) (ds : List (List DevWord)) → 24 ≤ n → AllByRecursion (AllByRecursion (IsWordOn (length ids))) ds → grid n (planned_by ds) 0 ids ≡ sum_by (λ ws. count_by is_pulse ws) ds
devices-grid n ids [] le on = grid-zero n (λ a p. 0) 0 ids (λ a p. refl)
devices-grid n ids (ws ∷ ds) le on =
    let parts = grid-add n (λ a p. sum_by (pulses_on a p) ws) (planned_by ds) (planned_by (ws ∷ ds)) 0 ids (λ a p. planned_by_more a p ws ds) in
    rw (sum_by-cons (λ (vs : List DevWord). count_by is_pulse vs) ws ds) (omega (arith, parts, words-grid n ids ws le on.0, devices-grid n ids ds le on.1))

-- I/O APICs
fresh-cost : (p : Place) → due_pins p ≡ 0 → p.swept ≡ false → place_cost p ≡ 2 * sum p.left + 1
fresh-cost p due fresh =
    let sweep : cond {A = ℕ} p.swept 0 1 ≡ 1 = ap (λ b. cond {A = ℕ} b 0 1) fresh in
    omega (arith, due, sweep)

places-cost : (n : ℕ) (ds : List (List DevWord)) (a : ℕ) (ids : List ℕ) → n ≡ 24 → sum_by place_cost (first_places ds a ids) ≡ 2 * grid n (planned_by ds) a ids + length ids
places-cost n ds a [] e = omega arith
places-cost n ds a (id ∷ ids) e =
    let here : place_cost (first_place ds a id) ≡ 2 * row (planned_by ds a) 0 n + 1 = rw e (fresh-cost (first_place ds a id) refl refl) in
    rw (sum_by-cons place_cost (first_place ds a id) (first_places ds (a + 1) ids)) (omega (arith, here, places-cost n ds (a + 1) ids e))

first-pins : (ds : List (List DevWord)) (a : ℕ) (ids : List ℕ) → pins_in (first_places ds a ids) ≡ 24 * length ids
first-pins ds a [] = omega arith
first-pins ds a (id ∷ ids) = rw (sum_by-cons (λ (p : Place). length p.chip.pins) (first_place ds a id) (first_places ds (a + 1) ids)) (omega (arith, first-pins ds (a + 1) ids))

-- devices
words-cost : (n : ℕ) (ws : List DevWord) → program_cost n (filter_map op_of_word ws ++ op.End ∷ []) ≡ length (filter_map op_of_word ws ++ op.End ∷ []) + count_by is_high ws
words-cost n [] = omega arith
words-cost n (word.Pulse a p ∷ ws) = rw (sum_by-cons (λ v. cond {A = ℕ} (is_high v) 1 0) (word.Pulse a p) ws) (omega (arith, words-cost n ws))
words-cost n (word.High a p ∷ ws) =
    rw (sum_by-cons (λ v. cond {A = ℕ} (is_high v) 1 0) (word.High a p) ws, sum_by-cons (λ o. suc (sends_by n o)) (op.High a p) (filter_map op_of_word ws ++ op.End ∷ [])) (omega (arith, words-cost n ws))
words-cost n (word.Low a p ∷ ws) =
    rw (sum_by-cons (λ v. cond {A = ℕ} (is_high v) 1 0) (word.Low a p) ws, sum_by-cons (λ o. suc (sends_by n o)) (op.Low a p) (filter_map op_of_word ws ++ op.End ∷ [])) (omega (arith, words-cost n ws))

devices-cost : (n : ℕ) (ds : List (List DevWord)) → sum_by (device_cost n) (map first_device ds) ≡ sum_by (λ ws. length (device_program ws)) ds + sum_by (λ ws. count_by is_high ws) ds
devices-cost n [] = omega arith
devices-cost n (ws ∷ ds) =
    let begin = sum_by-cons (λ o. suc (sends_by n o)) op.Begin (filter_map op_of_word ws ++ op.End ∷ []) in
    rw (sum_by-cons (device_cost n) (first_device ws) (map first_device ds), sum_by-cons (λ (vs : List DevWord). length (device_program vs)) ws ds, sum_by-cons (λ (vs : List DevWord). count_by is_high vs) ws ds)
    (omega (arith, begin, words-cost n ws, devices-cost n ds))

-- processors
abbrev IsCpuOp : Op → Type 0
IsCpuOp o = (is_boot_op o ≡ true) ⊎ (is_script_op o ≡ true)

op-cost : (n : ℕ) (o : Op) → IsCpuOp o → suc (sends_by n o) ≡ 1 + cond {A = ℕ} (is_write o) 1 0 + n * cond {A = ℕ} (is_eoi o) 1 0
op-cost n (op.High a p) h = elim h [ inl x ↦ cc | inr x ↦ cc ]
op-cost n (op.IoWin a v) h = omega arith
op-cost n op.Eoi h = omega arith
op-cost n o h = omega arith

times : (n a b : ℕ) → n * (a + b) ≡ n * a + n * b
times n a b = omega arith

one-more : (n : ℕ) (o : Op) (ops : List Op) → IsCpuOp o → program_cost n ops ≡ length ops + count_by is_write ops + n * count_by is_eoi ops → program_cost n (o ∷ ops) ≡ length (o ∷ ops) + count_by is_write (o ∷ ops) + n * count_by is_eoi (o ∷ ops)
one-more n o ops h rest =
    rw (sum_by-cons (λ o. suc (sends_by n o)) o ops, sum_by-cons (λ o. cond {A = ℕ} (is_write o) 1 0) o ops, sum_by-cons (λ o. cond {A = ℕ} (is_eoi o) 1 0) o ops)
    (omega (arith, times n (cond {A = ℕ} (is_eoi o) 1 0) (count_by is_eoi ops), op-cost n o h, rest))

program-sum : (n k : ℕ) (ops : List Op) → AllByRecursion (λ o. is_boot_op o ≡ true) (take k ops) → AllByRecursion (λ o. is_script_op o ≡ true) (drop k ops) → program_cost n ops ≡ length ops + count_by is_write ops + n * count_by is_eoi ops
program-sum n k [] starts on = omega arith
program-sum n zero (o ∷ ops) starts on = one-more n o ops (inr on.0) (program-sum n zero ops tt on.1)
program-sum n (suc k) (o ∷ ops) starts on = one-more n o ops (inl starts.0) (program-sum n k ops starts.1 on)

processors-sum : (n boot boot_len ios page : ℕ) (ps : List CpuPlan) → AllByRecursion (IsCpuPlan boot boot_len ios page) ps → sum_by (processor_cost n) (map (first_processor boot) ps) ≡ sum_by (λ p. length p.program) ps + sum_by (λ p. count_by is_write p.program) ps + n * sum_by (λ p. count_by is_eoi p.program) ps
processors-sum n boot boot_len ios page [] on = omega arith
processors-sum n boot boot_len ios page (p ∷ ps) on =
    rw (sum_by-cons (processor_cost n) (first_processor boot p) (map (first_processor boot) ps), sum_by-cons (λ (q : CpuPlan). length q.program) p ps, sum_by-cons (λ (q : CpuPlan). count_by is_write q.program) p ps, sum_by-cons (λ (q : CpuPlan). count_by is_eoi q.program) p ps)
    (omega (arith, times n (count_by is_eoi p.program) (sum_by (λ (q : CpuPlan). count_by is_eoi q.program) ps), program-sum n (boot_ops boot boot_len p) p.program on.0.starts on.0.goes_on, processors-sum n boot boot_len ios page ps on.1))

-- the whole
pub opening_cost : (c : Plan) → IsConfig c → cost (pins_in (initial_state_of c).places) (initial_state_of c) ≡ room c
opening_cost c is =
    rw (first-pins c.devices 0 c.ios)
    (omega (arith, processors-sum (24 * length c.ios) c.boot c.boot_len (length c.ios) is.page c.cpus is.cpus, devices-cost (24 * length c.ios) c.devices, places-cost 24 c.devices 0 c.ios refl, devices-grid 24 c.ios c.devices (omega arith) is.words))

pub within_room : (c : Plan) (journal : List Entry) → IsConfig c → IsLegal c journal → length journal ≤ room c
within_room c journal is legal = omega (arith, opening_cost c is, steps_within (pins_in (initial_state_of c).places) (initial_state_of c) journal legal (omega arith))
