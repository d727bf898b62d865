-- The report of a run, this project's own: a text of lines.
--     report_lines c journal logs   its lines: the entries, the log of each device, and the state that the entries leave
--     report_of c journal logs      the text: the lines, end to end
use Rattle.std.specs.Prelude.{ℕ, List, [], ◌∷◌, ◌++◌, length, codes, decimal}
use Rattle.std.specs.List.{concat}
use Rattle.mpt_listing.specs.Listing.{line}
use Rattle.mpb_spec.specs.declared.entry.Entry.{Entry}
use Rattle.mpb_spec.specs.Plan.{Plan}
use Rattle.mpb_spec.specs.Journal.{final_state_of}
use Rattle.mpb_spec.specs.declared.pulse.Pulse.{Pulse}
use Rattle.mpb_spec.specs.declared.pulse.Hit.{Hit}
use Rattle.mpb_report_spec.specs.Numbered.{numbered}
use Rattle.mpb_report_spec.specs.EntryLines.{entry_line}
use Rattle.mpb_report_spec.specs.LogLines.{log_line}
use Rattle.mpb_report_spec.specs.StateLines.{state_lines}

-- the first line, the second with the number of entries, and the last
abbrev pub title_line : List ℕ
title_line = line (codes "mpboot 1" ∷ [])

abbrev pub count_line : ℕ → List ℕ
count_line n = line (codes "entries " ∷ decimal n ∷ [])

abbrev pub end_line : List ℕ
end_line = line (codes "end" ∷ [])

-- the entries' lines, after the two at the head
abbrev pub journal_lines : List Entry → List (List ℕ)
journal_lines journal = title_line ∷ count_line (length journal) ∷ numbered entry_line 0 journal

-- the lines of a report, each with its line feed
abbrev pub report_lines : Plan → List Entry → List (List (Pulse × Hit)) → List (List ℕ)
report_lines c journal logs = journal_lines journal ++ (numbered log_line 0 logs ++ (state_lines (final_state_of c journal) ++ end_line ∷ []))

-- the report
abbrev pub report_of : Plan → List Entry → List (List (Pulse × Hit)) → List ℕ
report_of c journal logs = concat (report_lines c journal logs)
