-- What the lines of a listing are from a place on, and a fault behind so many valid lines. Only private functions cite it.
use Rattle.std.specs.Prelude.{◌≡◌, ◌≢◌, ℕ, ◌+◌, List, [], ◌∷◌, ◌++◌, map}
use Rattle.std.specs.List.{AllByRecursion, flat_map}
use Rattle.mpt_spec.specs.declared.pointer.Pointer.{Pointer}
use Rattle.mpt_spec.specs.declared.entry.Base.{Base}
use Rattle.mpt_spec.specs.declared.entry.Ext.{Ext}
use Rattle.mpt_spec.specs.declared.tables.Table.{Table}
use Rattle.mpt_spec.specs.declared.tables.Body.{Body}
use Rattle.mpt_spec.specs.declared.tables.Body.TheVariants as body
use Rattle.mpt_spec.specs.declared.tables.Tables.{Tables}
use Rattle.mpt_spec.specs.Canonical.{IsLawfulExt, HasFieldsOfRevision}
use Rattle.mpt_spec.specs.Values.{IsBaseValue, IsTableValue, IsBodyValue}
use Rattle.mpt_listing.specs.Listing.{pointer_line, base_line, ext_line, body_lines}
use Rattle.mpt_line.specs.declared.heads.HeaderLine.{HeaderLine}
use Rattle.mpt_line.specs.Lines.{IsRightExt, BeginsWithNone}
use Rattle.mpt_parse.specs.declared.fault.LineWhy.{LineWhy}
use Rattle.mpt_parse.specs.declared.fault.LineWhy.TheVariants as why
use Rattle.mpt_parse.specs.declared.fault.ListingFault.{ListingFault}
use Rattle.mpt_parse.specs.declared.fault.ListingFault.TheVariants as fault
use Rattle.mpt_parse.specs.Listings.{end_line, lines_behind, HasRightValues, HasRightBody, IsFirstBadLine}

-- behind all entries
abbrev pub IsEnd : List (List ℕ) → Type 0
IsEnd ls = ls ≡ end_line ∷ []

-- an extended entry that may follow a header: a right one, and none at revision 1
pub record MayFollow (head : HeaderLine) (e : Ext) : Type 0 where
  pub revision : head.revision ≢ 1
  pub right : IsRightExt e

-- behind this header and all base entries
abbrev pub AreExtLines : HeaderLine → List (List ℕ) → Type 0
AreExtLines head ls = (es : List Ext) × AllByRecursion (MayFollow head) es × (ls ≡ map ext_line es ++ end_line ∷ [])

-- behind this header
abbrev pub AreEntryLines : HeaderLine → List (List ℕ) → Type 0
AreEntryLines head ls = (bs : List Base) × (es : List Ext) × AllByRecursion IsBaseValue bs × AllByRecursion (MayFollow head) es × (ls ≡ map base_line bs ++ (map ext_line es ++ end_line ∷ []))

-- a table whose lines are right
abbrev pub IsRightTable : Table → Type 0
IsRightTable t = IsTableValue t × HasFieldsOfRevision t × AllByRecursion IsLawfulExt t.ext

-- behind the line of a floating pointer that names a table
abbrev pub AreTableLines : List (List ℕ) → Type 0
AreTableLines ls = (t : Table) × IsRightTable t × (ls ≡ lines_behind (body.Listed t))

-- behind the line of this floating pointer
abbrev pub AreBodyLines : Pointer → List (List ℕ) → Type 0
AreBodyLines p ls = (b : Body) × IsBodyValue b × HasRightBody b p × (ls ≡ lines_behind b)

-- behind the title
abbrev pub AreLinesBehindTitle : List (List ℕ) → Type 0
AreLinesBehindTitle ls = (tables : Tables) × HasRightValues tables × (ls ≡ pointer_line tables ∷ lines_behind tables.body)

-- the fault's line is the first bad one of the text, which stands behind so many valid lines; want of memory is free
abbrev pub IsFaultBehind : (List (List ℕ) → Type 0) → ℕ → List ℕ → ListingFault → Type 0
IsFaultBehind Member before text (fault.Line m why) = (n : ℕ) × (m ≡ before + n) × IsFirstBadLine Member text n why
IsFaultBehind Member before text (fault.DoesNotFit bytes) = ⊥
IsFaultBehind Member before text fault.NoMemory = Unit {0}

-- the fault of the line behind so many valid ones, which make no whole listing
abbrev pub IsUnfinishedBy : LineWhy → List ℕ → Type 0
IsUnfinishedBy why.Form text = text ≢ []
IsUnfinishedBy why.Early text = text ≡ []
IsUnfinishedBy why.Late text = ⊥

abbrev pub IsUnfinished : ℕ → List ℕ → ListingFault → Type 0
IsUnfinished before text (fault.Line m why) = (m ≡ before + 1) × IsUnfinishedBy why text
IsUnfinished before text (fault.DoesNotFit bytes) = ⊥
IsUnfinished before text fault.NoMemory = ⊥

-- the entries of one kind are those whose lines stand first in the text; what follows them begins with no line of another
pub record AreFirstLines {E : Type 0} (line : E → List ℕ) (Right : E → Type 0) (es : List E) (text rest : List ℕ) : Type 0 where
  pub whole : text ≡ flat_map line es ++ rest
  pub values : AllByRecursion Right es
  pub last : BeginsWithNone line Right rest

-- the text behind the line of the floating pointer
abbrev pub behind_text : Body → List ℕ
behind_text b = body_lines b ++ end_line
