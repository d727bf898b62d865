-- What texts are listings of tables, and the first bad line of a text that is none.
--     HasRightValues tables            the tables have a listing
--     lines_of tables                  its lines, the first to the last
--     IsListing                        the lines are those of a listing
--     IsListingOf tables text          the text is the listing of the tables
--     IsWholeLine line                 the line ends in a line feed, its only one
--     IsLongestValidPrefix L valid text rest   the longest run of the text's leading lines that begins a member of L
--     IsFirstBadLine L text n why      line n is the first one that is bad
--     IsCauseOf text fault             the fault has its cause in the text
--     AnswersTables, AnswersUnfit, AnswersLine   what the answer is, unless memory ran out
use Rattle.std.specs.Prelude.{◌≡◌, ◌≢◌, ℕ, ◌+◌, ◌^◌, ◌<◌, ◌≤◌, List, [], ◌∷◌, ◌++◌, length, map, codes, ⊤, Result, Ok, Err}
use Rattle.std.specs.List.{AllByRecursion, flat_map}
use Rattle.mpt_spec.specs.declared.pointer.Pointer.{Pointer}
use Rattle.mpt_spec.specs.declared.tables.Body.{Body}
use Rattle.mpt_spec.specs.declared.tables.Body.TheVariants as body
use Rattle.mpt_spec.specs.declared.tables.Tables.{Tables}
use Rattle.mpt_spec.specs.Table.{default_number}
use Rattle.mpt_spec.specs.Revision.{IsKnownRevision}
use Rattle.mpt_spec.specs.Canonical.{IsLawfulExt, HasFieldsOfRevision, block_size, FitsInImage}
use Rattle.mpt_spec.specs.Values.{IsTablesValue}
use Rattle.mpt_listing.specs.Listing.{line, pointer_line, header_line, base_line, ext_line, listing_of}
use Rattle.mpt_parse.specs.declared.fault.LineWhy.{LineWhy}
use Rattle.mpt_parse.specs.declared.fault.LineWhy.TheVariants as why
use Rattle.mpt_parse.specs.declared.fault.ListingFault.{ListingFault}
use Rattle.mpt_parse.specs.declared.fault.ListingFault.TheVariants as fault

-- feature byte 1 says the number of a default configuration, or 0 with the address of a table that has the fields of its
-- revision, so no extended entries at revision 1, and lawful entries
abbrev pub HasRightBody : Body → Pointer → Type 0
HasRightBody (body.Default n) p = (default_number p ≡ n) × (1 ≤ n) × (n ≤ 7)
HasRightBody (body.Listed t) p = (default_number p ≡ 0) × (p.address ≢ 0) × HasFieldsOfRevision t × AllByRecursion IsLawfulExt t.ext

-- the tables have a listing: eight digits hold their place, the fields fit, and the values are right
pub record HasRightValues (tables : Tables) : Type 0 where
  pub at : tables.at < 2 ^ 32
  pub fields : IsTablesValue tables
  pub revision : IsKnownRevision tables.pointer.revision
  pub body : HasRightBody tables.body tables.pointer

-- the first and the last line
abbrev pub title_line : List ℕ
title_line = line (codes "mptable 1" ∷ [])

abbrev pub end_line : List ℕ
end_line = line (codes "end" ∷ [])

-- the lines behind that of the floating pointer
abbrev pub lines_behind : Body → List (List ℕ)
lines_behind (body.Default n) = end_line ∷ []
lines_behind (body.Listed t) = header_line t ∷ map base_line t.base ++ (map ext_line t.ext ++ end_line ∷ [])

-- the lines of the tables' listing
abbrev pub lines_of : Tables → List (List ℕ)
lines_of tables = title_line ∷ pointer_line tables ∷ lines_behind tables.body

-- the lines are those of a listing
abbrev pub IsListing : List (List ℕ) → Type 0
IsListing lines = (tables : Tables) × HasRightValues tables × (lines ≡ lines_of tables)

-- no byte is a line feed
abbrev pub HasNoFeed : List ℕ → Type 0
HasNoFeed bytes = AllByRecursion (λ c. c ≢ 10) bytes

-- a whole line: it ends in a line feed, its only one
abbrev pub IsWholeLine : List ℕ → Type 0
IsWholeLine l = (front : List ℕ) × (l ≡ front ++ 10 ∷ []) × HasNoFeed front

-- Of a set of lists of lines, as that of the listings: valid is the longest run of the text's leading lines that begins a
-- member, and rest is what follows it
pub record IsLongestValidPrefix (Member : List (List ℕ) → Type 0) (valid : List (List ℕ)) (text rest : List ℕ) : Type 0 where
  pub whole : text ≡ flat_map (λ l. l) valid ++ rest
  pub begins : (more : List (List ℕ)) × Member (valid ++ more)
  pub longest : (next follow : List ℕ) (more : List (List ℕ)) → rest ≡ next ++ follow → ¬ Member (valid ++ next ∷ more)

-- why the line behind the valid ones is bad: bytes that go on no member, no bytes where a line is needed, or bytes behind a
-- whole member
abbrev pub IsBadBecause : LineWhy → Type 0 → List ℕ → Type 0
IsBadBecause why.Form IsWhole rest = (¬ IsWhole) × (rest ≢ [])
IsBadBecause why.Early IsWhole rest = (¬ IsWhole) × (rest ≡ [])
IsBadBecause why.Late IsWhole rest = IsWhole × (rest ≢ [])

-- line n, counted from 1, is the first bad one of the text
abbrev pub IsFirstBadLine : (List (List ℕ) → Type 0) → List ℕ → ℕ → LineWhy → Type 0
IsFirstBadLine Member text n why =
    (valid : List (List ℕ)) × (rest : List ℕ) × IsLongestValidPrefix Member valid text rest × (n ≡ length valid + 1) × IsBadBecause why (Member valid) rest

-- the text is the listing of the tables
abbrev pub IsListingOf : Tables → List ℕ → Type 0
IsListingOf tables text = HasRightValues tables × (text ≡ listing_of tables)

-- the fault has its cause in the text
abbrev pub IsCauseOf : List ℕ → ListingFault → Type 0
IsCauseOf text (fault.Line n why) = IsFirstBadLine IsListing text n why
IsCauseOf text (fault.DoesNotFit bytes) = (tables : Tables) × IsListingOf tables text × (¬ FitsInImage tables) × (bytes ≡ block_size tables.body)
IsCauseOf text fault.NoMemory = ⊤

-- the answer is these tables, that the tables don't fit, or this bad line, unless memory ran out
abbrev pub AnswersTables : Result Tables ListingFault → Tables → Type 0
AnswersTables (Ok found) tables = found ≡ tables
AnswersTables (Err fault.NoMemory) tables = ⊤
AnswersTables (Err _) tables = ⊥

abbrev pub AnswersUnfit : Result Tables ListingFault → ℕ → Type 0
AnswersUnfit (Err (fault.DoesNotFit bytes)) size = bytes ≡ size
AnswersUnfit (Err fault.NoMemory) size = ⊤
AnswersUnfit _ size = ⊥

abbrev pub AnswersLine : Result Tables ListingFault → ℕ → LineWhy → Type 0
AnswersLine (Err (fault.Line m w)) n why = (m ≡ n) × (w ≡ why)
AnswersLine (Err fault.NoMemory) n why = ⊤
AnswersLine _ n why = ⊥
