-- The lines of the processors that are found by their ids, and of the I/O APICs that are found by their places, are those of all.
use Rattle.std.proofs.Common.{◌≡◌, ◌==◌, ℕ, ◌+◌, ◌<◌, true, false, List, [], ◌∷◌, ◌++◌, length, take, map, Some, slice_get, refl, sym, ap, ◌∙◌, subst, arith}
use Rattle.std.proofs.lemmas.Bool.{eq-eqb, ne_eqb}
use Rattle.std.proofs.lemmas.List.Folds.{flat_map-map}
use Rattle.std.specs.List.{AllByRecursion, concat, flat_map}
use Rattle.mpb_spec.specs.declared.entry.Entry.{Entry}
use Rattle.mpb_spec.specs.Numbers.{IsAscending}
use Rattle.mpb_spec.specs.Plan.{Plan, CpuPlan, first_place}
use Rattle.mpb_spec.specs.Configs.{IsConfig}
use Rattle.mpb_spec.specs.State.{Processor, Place, processor_of}
use Rattle.mpb_spec.specs.Journal.{final_state_of}
use Rattle.mpb_spec.proofs.StateLemmas.{got_at}
use Rattle.mpb_laws.proofs.PartsStay.{ids_stay}
use Rattle.mpb_report_spec.specs.Numbered.{numbered}
use Rattle.mpb_report_spec.specs.StateLines.{processor_line, place_line}
use Rattle.mpb_report.specs.Found.{found_cpu, found_io}
use Rattle.mpb_report.proofs.LineLemmas.{numbered_more}

-- each of these is the one that is found by its id among all
abbrev AreFound : List Processor → List Processor → Type 0
AreFound all ps = AllByRecursion (λ p. processor_of p.id all ≡ Some p) ps

abbrev ids : List Processor → List ℕ
ids ps = map (λ p. p.id) ps

-- also behind one of a lesser id
found-behind : (q : Processor) (all ps : List Processor) → AllByRecursion (λ y. q.id < y) (ids ps) → AreFound all ps → AreFound (q ∷ all) ps
found-behind q all [] above found = tt
found-behind q all (p ∷ ps) above found =
    let lesser : q.id < p.id = above.0 in
    let other : (q.id == p.id) ≡ false = ne_eqb q.id p.id (λ e. omega (arith, lesser, e)) in
    (rw other found.0, found-behind q all ps above.1 found.1)

all-found : (ps : List Processor) → IsAscending (ids ps) → AreFound ps ps
all-found [] ascending = tt
all-found (p ∷ ps) ascending =
    let same : (p.id == p.id) ≡ true = eq-eqb p.id p.id refl in
    (rw same refl, found-behind p ps ps ascending.0 (all-found ps ascending.1))

lines-of_found : (all ps : List Processor) → AreFound all ps → flat_map (λ i. found_cpu i (processor_of i all)) (ids ps) ≡ concat (map processor_line ps)
lines-of_found all [] found = refl
lines-of_found all (p ∷ ps) found =
    ap (λ o. found_cpu p.id o ++ flat_map (λ i. found_cpu i (processor_of i all)) (ids ps)) found.0
    ∙ ap (λ (t : List ℕ). processor_line p ++ t) (lines-of_found all ps found.1)

-- the processors of a board, by the ids of its config
pub found_cpus : (c : Plan) (journal : List Entry) (cpus : List CpuPlan) → cpus ≡ c.cpus → IsConfig c
    → flat_map (λ (p : CpuPlan). found_cpu p.id (processor_of p.id (final_state_of c journal).processors)) cpus ≡ concat (map processor_line (final_state_of c journal).processors)
found_cpus c journal cpus same config =
    let all = (final_state_of c journal).processors in
    let stay : ids all ≡ map (λ (p : CpuPlan). p.id) c.cpus = ids_stay c journal in
    ap (λ (ps : List CpuPlan). flat_map (λ (p : CpuPlan). found_cpu p.id (processor_of p.id all)) ps) same
    ∙ sym (flat_map-map (λ i. found_cpu i (processor_of i all)) (λ (p : CpuPlan). p.id) c.cpus)
    ∙ ap (λ (is : List ℕ). flat_map (λ i. found_cpu i (processor_of i all)) is) (sym stay)
    ∙ lines-of_found all all (all-found all (subst IsAscending (sym stay) config.ascending))

-- one more I/O APIC
pub found_more : (bs : List ℕ) (places : List Place) (a : ℕ) → a < length places
    → (bs ++ concat (numbered place_line 0 (take a places))) ++ found_io a (slice_get places a) ≡ bs ++ concat (numbered place_line 0 (take (a + 1) places))
found_more bs places a lt =
    let d : Place = first_place [] 0 0 in
    ap (λ o. (bs ++ concat (numbered place_line 0 (take a places))) ++ found_io a o) (got_at a places d lt)
    ∙ numbered_more bs place_line places a d lt
