-- What a run comes to in numbers (this project's own).
--     outcomes_by test journal    how many outcomes of the journal pass the test
--     hits_by test logs           how many hits of the logs pass it
--     tally_of journal logs       the numbers of a run
use Rattle.std.specs.Prelude.{ℕ, Bool, true, false, List, length, count_by, sum_by}
use Rattle.mpb_spec.specs.declared.entry.Entry.{Entry}
use Rattle.mpb_spec.specs.declared.entry.What.{What}
use Rattle.mpb_spec.specs.declared.entry.What.TheVariants.{Started, Set, Taken}
use Rattle.mpb_spec.specs.declared.pulse.Pulse.{Pulse}
use Rattle.mpb_spec.specs.declared.pulse.Hit.{Hit}
use Rattle.mpb_spec.specs.declared.pulse.Hit.TheVariants.{New, Merged}
use Rattle.mpb_spec.specs.Pulses.{is_new}
use Rattle.mpb_tally.specs.declared.tally.Tally.{Tally}

-- a processor starts
abbrev pub is_started : What → Bool
is_started (Started page) = true
is_started what = false

-- a vector is requested that wasn't before
abbrev pub is_set : What → Bool
is_set Set = true
is_set what = false

-- a vector is taken into service
abbrev pub is_taken : What → Bool
is_taken (Taken vector) = true
is_taken what = false

-- a pulse found its pin latched
abbrev pub is_merged : Hit → Bool
is_merged New = false
is_merged Merged = true

-- how many outcomes of the entry pass the test
abbrev pub outcomes_in : (What → Bool) → Entry → ℕ
outcomes_in test x = count_by (λ o. test o.what) x.outcomes.items

-- how many of the journal do
abbrev pub outcomes_by : (What → Bool) → List Entry → ℕ
outcomes_by test journal = sum_by (outcomes_in test) journal

-- how many hits of the log pass the test
abbrev pub hits_in : (Hit → Bool) → List (Pulse × Hit) → ℕ
hits_in test log = count_by (λ x. test x.1) log

-- how many of all logs do
abbrev pub hits_by : (Hit → Bool) → List (List (Pulse × Hit)) → ℕ
hits_by test logs = sum_by (hits_in test) logs

-- the numbers of a run
abbrev pub tally_of : List Entry → List (List (Pulse × Hit)) → Tally
tally_of journal logs = record {
  entries = length journal;
  started = outcomes_by is_started journal;
  pulses = sum_by length logs;
  fresh = hits_by is_new logs;
  merged = hits_by is_merged logs;
  sets = outcomes_by is_set journal;
  takes = outcomes_by is_taken journal;
}
