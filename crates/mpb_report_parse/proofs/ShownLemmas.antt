-- The report of a run is that of what it says.
use Rattle.std.proofs.Common.{◌≡◌, ℕ, ◌+◌, ◌^◌, ◌<◌, List, [], ◌∷◌, ◌++◌, length, map, refl, ap, ◌∙◌}
use Rattle.std.specs.Prelude.{codes}
use Rattle.std.specs.List.{concat}
use Rattle.mpt_listing.specs.Listing.{line}
use Rattle.mpb_spec.specs.declared.entry.Entry.{Entry}
use Rattle.mpb_spec.specs.Plan.{Plan}
use Rattle.mpb_spec.specs.State.{Processor, Place}
use Rattle.mpb_spec.specs.Journal.{final_state_of}
use Rattle.mpb_spec.specs.declared.pulse.Pulse.{Pulse}
use Rattle.mpb_spec.specs.declared.pulse.Hit.{Hit}
use Rattle.mpb_report_spec.specs.Numbered.{numbered}
use Rattle.mpb_report_spec.specs.EntryLines.{entry_line}
use Rattle.mpb_report_spec.specs.LogLines.{log_line}
use Rattle.mpb_report_spec.specs.StateLines.{imcr_line, processor_line, place_line}
use Rattle.mpb_report_spec.specs.Report.{title_line, count_line, end_line, report_lines, report_of}
use Rattle.mpb_report_line.specs.Lines.{entry_count_line, cpu_text, io_text}
use Rattle.mpb_report_line.proofs.NumeralLemmas.{decimal_is}
use Rattle.mpb_report_parse.specs.Reports.{shown_cpu, shown_io, shown_report, lines_of}

processors_shown : (ps : List Processor) → map processor_line ps ≡ map cpu_text (map shown_cpu ps)
processors_shown [] = refl
processors_shown (p ∷ ps) = ap (λ x. processor_line p ∷ x) (processors_shown ps)

places_shown : (a : ℕ) (ps : List Place) → numbered place_line a ps ≡ numbered io_text a (map shown_io ps)
places_shown a [] = refl
places_shown a (p ∷ ps) = ap (λ x. place_line a p ∷ x) (places_shown (a + 1) ps)

-- the lines of a state, and the last one, are those of what they say
grouped : (xs ys zs : List (List ℕ)) → (xs ++ ys) ++ zs ≡ xs ++ (ys ++ zs)
grouped [] ys zs = refl
grouped (x ∷ xs) ys zs = ap (λ l. x ∷ l) (grouped xs ys zs)

count_is : (n : ℕ) → n < 2 ^ 64 → count_line n ≡ entry_count_line n
count_is n h = ap (λ (x : List ℕ). line (codes "entries " ∷ x ∷ [])) (decimal_is n h)

pub lines_shown : (c : Plan) (journal : List Entry) (logs : List (List (Pulse × Hit))) → length journal < 2 ^ 64 → report_lines c journal logs ≡ lines_of (shown_report c journal logs)
lines_shown c journal logs h =
    let s = final_state_of c journal in
    ap (λ (x : List ℕ). title_line ∷ x ∷ (numbered entry_line 0 journal ++ (numbered log_line 0 logs ++ (imcr_line s.imcr ∷ ((map processor_line s.processors ++ numbered place_line 0 s.places) ++ end_line ∷ []))))) (count_is (length journal) h)
    ∙ ap (λ (x : List (List ℕ)). title_line ∷ entry_count_line (length journal) ∷ (numbered entry_line 0 journal ++ (numbered log_line 0 logs ++ (imcr_line s.imcr ∷ x)))) (
    grouped (map processor_line s.processors) (numbered place_line 0 s.places) (end_line ∷ [])
    ∙ ap (λ (x : List (List ℕ)). x ++ (numbered place_line 0 s.places ++ end_line ∷ [])) (processors_shown s.processors)
    ∙ ap (λ (x : List (List ℕ)). map cpu_text (map shown_cpu s.processors) ++ (x ++ end_line ∷ [])) (places_shown 0 s.places)
    )

pub report_shown : (c : Plan) (journal : List Entry) (logs : List (List (Pulse × Hit))) → length journal < 2 ^ 64 → report_of c journal logs ≡ concat (lines_of (shown_report c journal logs))
report_shown c journal logs h = ap concat (lines_shown c journal logs h)
