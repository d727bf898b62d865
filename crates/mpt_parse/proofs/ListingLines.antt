-- The lines of a whole listing: the title, the floating pointer, and what is behind it.
use Rattle.std.proofs.Common.{◌≡◌, ℕ, ◌+◌, ◌^◌, ◌<◌, ◌≤◌, List, [], ◌∷◌, ◌++◌, length, inr, sym, refl, ap, ◌∙◌, subst, length-append, arith}
use Rattle.std.specs.Prelude.{◌≢◌}
use Rattle.mpt_spec.specs.declared.pointer.Pointer.{Pointer}
use Rattle.mpt_spec.specs.declared.tables.Body.{Body}
use Rattle.mpt_spec.specs.declared.tables.Body.TheVariants as body
use Rattle.mpt_spec.specs.declared.tables.Tables.{Tables}
use Rattle.mpt_spec.specs.Table.{default_number}
use Rattle.mpt_spec.specs.Values.{IsBodyValue}
use Rattle.mpt_listing.specs.Listing.{pointer_line, body_lines}
use Rattle.mpt_parse.specs.declared.fault.ListingFault.{ListingFault}
use Rattle.mpt_parse.specs.Listings.{title_line, end_line, lines_behind, HasRightBody, HasRightValues, IsListing, IsListingOf}
use Rattle.mpt_line.specs.declared.heads.PointerLine.{PointerLine}
use Rattle.mpt_line.specs.Lines.{IsRightPointer, pointer_text, BeginsWith, BeginsWithNone}
use Rattle.mpt_parse.specs.Languages.{AreBodyLines, AreLinesBehindTitle, IsFaultBehind, IsUnfinished, behind_text}
use Rattle.mpt_line.proofs.ByteValues.{to_bytes}
use Rattle.mpt_line.proofs.CallerLemmas.{pointer_text-one}
use Rattle.mpt_parse.proofs.Prefix.{step, stop}
use Rattle.mpt_parse.proofs.EntryLines.{head_is, tail_is, regroup}

-- the tables of a place, a floating pointer and a body
abbrev pub tables_of : PointerLine → Body → Tables
tables_of v b = record { at = v.at; pointer = v.pointer; body = b }

-- where the floating pointer of tables is, and what it says
abbrev pub placed : Tables → PointerLine
placed t = record { at = t.at; pointer = t.pointer }

-- the text doesn't begin with the first line
abbrev pub HasNoTitle : List ℕ → Type 0
HasNoTitle text = (rest : List ℕ) → text ≢ title_line ++ rest

right_low : (b : Body) (p : Pointer) → HasRightBody b p → default_number p ≤ 7
right_low (body.Default n) p h = omega (arith, h.0, h.2)
right_low (body.Listed t) p h = omega (arith, h.0)

right_address : (b : Body) (p : Pointer) → HasRightBody b p → default_number p ≡ 0 → p.address ≢ 0
right_address (body.Default n) p h e = absurd (omega (arith, h.0, h.1, e))
right_address (body.Listed t) p h e = h.1

pub right_pointer : (tables : Tables) → HasRightValues tables → IsRightPointer (placed tables)
right_pointer t h = record { at = h.at; fields = h.fields.pointer; revision = h.revision; number = right_low t.body t.pointer h.body; address = right_address t.body t.pointer h.body }

pub right_tables : (v : PointerLine) (b : Body) → IsRightPointer v → IsBodyValue b → HasRightBody b v.pointer → HasRightValues (tables_of v b)
right_tables v b r k h = record { at = r.at; fields = record { at = wide v.at r.at; pointer = r.fields; body = k }; revision = r.revision; body = h }
  where
    wide : (n : ℕ) → n < 2 ^ 32 → n < 2 ^ 64
    wide n h = omega arith

-- behind the line of a floating pointer its body follows
pointer_to : (v : PointerLine) → IsRightPointer v → (ls : List (List ℕ)) → AreLinesBehindTitle (pointer_text v ∷ ls) → AreBodyLines v.pointer ls
pointer_to v r ls (t, h, e) =
    let same : v ≡ placed t = pointer_text-one v (placed t) r (right_pointer t h) (head_is (pointer_text v) (pointer_line t) ls (lines_behind t.body) e) in
    (t.body, h.fields.body, subst (λ (p : Pointer). HasRightBody t.body p) (sym (ap (λ x. x.pointer) same)) h.body, tail_is (pointer_text v) (pointer_line t) ls (lines_behind t.body) e)

pointer_from : (v : PointerLine) → IsRightPointer v → (ls : List (List ℕ)) → AreBodyLines v.pointer ls → AreLinesBehindTitle (pointer_text v ∷ ls)
pointer_from v r ls (b, k, h, e) = (tables_of v b, right_tables v b r k h, ap (λ x. pointer_text v ∷ x) e)

no_behind : AreLinesBehindTitle [] → ⊥
no_behind (t, h, e) = absurd (cc (e))

no_pointer_here : (text : List ℕ) → BeginsWithNone pointer_text IsRightPointer text → (x follow : List ℕ) (ls : List (List ℕ)) → text ≡ x ++ follow → AreLinesBehindTitle (x ∷ ls) → ⊥
no_pointer_here text none x follow ls e (t, h, k) = none (placed t) follow (right_pointer t h) (e ∙ ap (λ y. y ++ follow) (head_is x (pointer_line t) ls (lines_behind t.body) k))

-- some tables have a listing
abbrev some_line : PointerLine
some_line = record { at = 0; pointer = record { address = 0; revision = 4; features = 1 ∷ 0 ∷ 0 ∷ 0 ∷ 0 ∷ [] } }

right_some : IsRightPointer some_line
right_some =
    let z : 0 < 256 = omega arith in
    record {
      at = omega arith;
      fields = record { address = omega arith; revision = omega arith; features = to_bytes (1 ∷ 0 ∷ 0 ∷ 0 ∷ 0 ∷ []) 5 (refl, (omega arith, (z, (z, (z, (z, tt)))))) };
      revision = inr refl;
      number = omega arith;
      address = λ e. absurd (omega (arith, e));
    }

some_behind : (ls : List (List ℕ)) × AreLinesBehindTitle ls
some_behind = (pointer_text some_line ∷ end_line ∷ [], (tables_of some_line (body.Default 1), right_tables some_line (body.Default 1) right_some (omega arith) (refl, omega arith, omega arith), refl))

pub pointer_stop : (text : List ℕ) (before : ℕ) (f : ListingFault) → BeginsWithNone pointer_text IsRightPointer text → IsUnfinished before text f → IsFaultBehind AreLinesBehindTitle before text f
pointer_stop text before f none h = stop AreLinesBehindTitle text before f some_behind no_behind (no_pointer_here text none) h

pub pointer_fault : (v : PointerLine) (text rest : List ℕ) (before : ℕ) (f : ListingFault) → BeginsWith pointer_text IsRightPointer text v rest → IsFaultBehind (AreBodyLines v.pointer) (before + 1) rest f → IsFaultBehind AreLinesBehindTitle before text f
pointer_fault v text rest before f e h =
    step AreLinesBehindTitle (AreBodyLines v.pointer) (pointer_text v) text rest before f (pointer_to v e.right) (pointer_from v e.right) e.whole h

-- behind the title
title_to : (ls : List (List ℕ)) → IsListing (title_line ∷ ls) → AreLinesBehindTitle ls
title_to ls (t, h, e) = (t, h, tail_is title_line title_line ls (pointer_line t ∷ lines_behind t.body) e)

title_from : (ls : List (List ℕ)) → AreLinesBehindTitle ls → IsListing (title_line ∷ ls)
title_from ls (t, h, e) = (t, h, ap (λ x. title_line ∷ x) e)

no_listing : IsListing [] → ⊥
no_listing (t, h, e) = absurd (cc (e))

no_title_here : (text : List ℕ) → HasNoTitle text → (x follow : List ℕ) (ls : List (List ℕ)) → text ≡ x ++ follow → IsListing (x ∷ ls) → ⊥
no_title_here text none x follow ls e (t, h, k) =
    none follow (e ∙ ap (λ y. y ++ follow) (head_is x title_line ls (pointer_line t ∷ lines_behind t.body) k))

pub title_stop : (text : List ℕ) (f : ListingFault) → HasNoTitle text → IsUnfinished 0 text f → IsFaultBehind IsListing 0 text f
title_stop text f none h = stop IsListing text 0 f (title_line ∷ some_behind.0, title_from some_behind.0 some_behind.1) no_listing (no_title_here text none) h

pub title_fault : (text rest : List ℕ) (f : ListingFault) → text ≡ title_line ++ rest → IsFaultBehind AreLinesBehindTitle 1 rest f → IsFaultBehind IsListing 0 text f
title_fault text rest f e h = step IsListing AreLinesBehindTitle title_line text rest 0 f title_to title_from e h

-- a whole listing
pub listing_whole : (v : PointerLine) (b : Body) (text behind rest : List ℕ) → text ≡ title_line ++ behind → BeginsWith pointer_text IsRightPointer behind v rest → IsBodyValue b → HasRightBody b v.pointer → rest ≡ behind_text b → IsListingOf (tables_of v b) text
listing_whole v b text behind rest e k r h whole =
    (right_tables v b k.right r h, e ∙ ap (λ x. title_line ++ x) (k.whole ∙ ap (λ x. pointer_text v ++ x) whole) ∙ regroup title_line (pointer_text v) (body_lines b) end_line)

pub pointer_right : (v : PointerLine) (text rest : List ℕ) → BeginsWith pointer_text IsRightPointer text v rest → IsRightPointer v
pointer_right v text rest e = e.right

pub behind_short : (v : PointerLine) (text behind rest : List ℕ) → text ≡ title_line ++ behind → BeginsWith pointer_text IsRightPointer behind v rest → length rest + 10 ≤ length text
behind_short v text behind rest e k =
    let ten : length title_line ≡ 10 = refl in
    omega (arith, ten, length-append title_line behind, ap length e, length-append (pointer_text v) rest, ap length k.whole)
