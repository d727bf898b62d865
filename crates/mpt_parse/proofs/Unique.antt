-- A text is the listing of one set of tables at most, or has one first bad line at most.
use Rattle.std.proofs.Common.{◌≡◌, ℕ, List, [], ◌∷◌, ◌++◌, map, sym, refl, ap, ◌∙◌, subst, append_assoc, arith}
use Rattle.std.specs.List.{AllByRecursion, flat_map}
use Rattle.mpt_spec.specs.declared.pointer.Pointer.{Pointer}
use Rattle.mpt_spec.specs.declared.entry.Base.{Base}
use Rattle.mpt_spec.specs.declared.entry.Ext.{Ext}
use Rattle.mpt_spec.specs.declared.tables.Body.{Body}
use Rattle.mpt_spec.specs.declared.tables.Body.TheVariants as body
use Rattle.mpt_spec.specs.declared.tables.Tables.{Tables}
use Rattle.mpt_spec.specs.Values.{IsBaseValue, IsBodyValue}
use Rattle.mpt_listing.specs.Listing.{pointer_line, header_line, base_line, ext_line, body_lines, listing_of}
use Rattle.mpt_parse.specs.declared.fault.LineWhy.{LineWhy}
use Rattle.mpt_parse.specs.Listings.{title_line, end_line, lines_behind, lines_of, HasRightBody, IsListing, IsListingOf, IsLongestValidPrefix, IsFirstBadLine, IsWholeLine}
use Rattle.mpt_line.specs.Lines.{IsRightExt, table_with}
use Rattle.mpt_line.proofs.CallerLemmas.{base_line-one, ext_line-one, pointer_text-one, header_text-one}
use Rattle.mpt_parse.proofs.EntryLines.{base_kind, ext_kind, other_kind, head_is, tail_is, regroup}
use Rattle.mpt_parse.proofs.TableLines.{head_of, head_text, table_again, right_head, right_exts}
use Rattle.mpt_parse.proofs.ListingLines.{tables_of, placed, right_pointer}
use Rattle.mpt_parse.proofs.WholeLines.{lines_whole}
use Rattle.mpt_parse.proofs.BadLines.{prefix_one, one_bad_line, member_prefix, member_is_not_bad}

pub listing_whole : (ls : List (List ℕ)) → IsListing ls → AllByRecursion IsWholeLine ls
listing_whole ls (t, h, e) = subst (λ (x : List (List ℕ)). AllByRecursion IsWholeLine x) (sym e) (lines_whole t)

-- a text has one first bad line at most
pub bad_line_is_one : (text : List ℕ) (n m : ℕ) (w v : LineWhy) → IsFirstBadLine IsListing text n w → IsFirstBadLine IsListing text m v → (n ≡ m) × (w ≡ v)
bad_line_is_one text n m w v h k = one_bad_line IsListing listing_whole text n m w v h k

-- the lines are those of the text
lines_joined : {E : Type 0} (show : E → List ℕ) (es : List E) (ls : List (List ℕ)) → flat_map (λ l. l) (map show es ++ ls) ≡ flat_map show es ++ flat_map (λ l. l) ls
lines_joined {E} show [] ls = refl
lines_joined {E} show (e ∷ es) ls = ap (λ x. show e ++ x) (lines_joined show es ls) ∙ sym (append_assoc (show e) (flat_map show es) (flat_map (λ l. l) ls))

behind_joined : (b : Body) → flat_map (λ l. l) (lines_behind b) ≡ body_lines b ++ end_line
behind_joined (body.Default n) = refl
behind_joined (body.Listed t) =
    ap (λ x. header_line t ++ x) (lines_joined base_line t.base (map ext_line t.ext ++ end_line ∷ []) ∙ ap (λ x. flat_map base_line t.base ++ x) (lines_joined ext_line t.ext (end_line ∷ [])))
    ∙ regroup (header_line t) (flat_map base_line t.base) (flat_map ext_line t.ext) end_line

pub lines_make_the_listing : (t : Tables) → flat_map (λ l. l) (lines_of t) ≡ listing_of t
lines_make_the_listing t = ap (λ x. title_line ++ (pointer_line t ++ x)) (behind_joined t.body) ∙ regroup title_line (pointer_line t) (body_lines t.body) end_line

-- a whole listing is its own longest prefix, and has no bad line
pub listing_prefix : (t : Tables) (text : List ℕ) → IsListingOf t text → IsLongestValidPrefix IsListing (lines_of t) text []
listing_prefix t text h = member_prefix IsListing listing_whole (lines_of t) text (t, h.0, refl) (h.1 ∙ sym (lines_make_the_listing t))

pub listing_is_not_bad : (t : Tables) (text : List ℕ) (n : ℕ) (w : LineWhy) → IsListingOf t text → IsFirstBadLine IsListing text n w → ⊥
listing_is_not_bad t text n w h k = member_is_not_bad IsListing listing_whole (lines_of t) text n w (t, h.0, refl) (h.1 ∙ sym (lines_make_the_listing t)) k

-- two sets of entries with the same lines are one
exts_one : (es fs : List Ext) → AllByRecursion IsRightExt es → AllByRecursion IsRightExt fs → map ext_line es ++ end_line ∷ [] ≡ map ext_line fs ++ end_line ∷ [] → es ≡ fs
exts_one [] [] v w h = refl
exts_one [] (f ∷ fs) v w h = absurd (other_kind (ext_line f) end_line 1 2 (sym (head_is end_line (ext_line f) [] (map ext_line fs ++ end_line ∷ []) h)) (ext_kind f) refl (omega arith))
exts_one (e ∷ es) [] v w h = absurd (other_kind (ext_line e) end_line 1 2 (head_is (ext_line e) end_line (map ext_line es ++ end_line ∷ []) [] h) (ext_kind e) refl (omega arith))
exts_one (e ∷ es) (f ∷ fs) v w h =
    let first = ext_line-one e f v.0 w.0 (head_is (ext_line e) (ext_line f) (map ext_line es ++ end_line ∷ []) (map ext_line fs ++ end_line ∷ []) h) in
    let more = exts_one es fs v.1 w.1 (tail_is (ext_line e) (ext_line f) (map ext_line es ++ end_line ∷ []) (map ext_line fs ++ end_line ∷ []) h) in
    (λ i. first i ∷ more i)

-- what follows base entries
abbrev tail_of : List Ext → List (List ℕ)
tail_of es = map ext_line es ++ end_line ∷ []

no_base_in_tail : (c : Base) (es : List Ext) (ls : List (List ℕ)) → base_line c ∷ ls ≡ tail_of es → ⊥
no_base_in_tail c [] ls h = other_kind (base_line c) end_line 0 2 (head_is (base_line c) end_line ls [] h) (base_kind c) refl (omega arith)
no_base_in_tail c (e ∷ es) ls h = other_kind (base_line c) (ext_line e) 0 1 (head_is (base_line c) (ext_line e) ls (tail_of es) h) (base_kind c) (ext_kind e) (omega arith)

entries_one : (bs cs : List Base) (es fs : List Ext) → AllByRecursion IsBaseValue bs → AllByRecursion IsBaseValue cs → AllByRecursion IsRightExt es → AllByRecursion IsRightExt fs
    → map base_line bs ++ tail_of es ≡ map base_line cs ++ tail_of fs → (bs ≡ cs) × (es ≡ fs)
entries_one [] [] es fs v w x y h = (refl, exts_one es fs x y h)
entries_one [] (c ∷ cs) es fs v w x y h = absurd (no_base_in_tail c es (map base_line cs ++ tail_of fs) (sym h))
entries_one (b ∷ bs) [] es fs v w x y h = absurd (no_base_in_tail b fs (map base_line bs ++ tail_of es) h)
entries_one (b ∷ bs) (c ∷ cs) es fs v w x y h =
    let first = base_line-one b c v.0 w.0 (head_is (base_line b) (base_line c) (map base_line bs ++ tail_of es) (map base_line cs ++ tail_of fs) h) in
    let more = entries_one bs cs es fs v.1 w.1 x y (tail_is (base_line b) (base_line c) (map base_line bs ++ tail_of es) (map base_line cs ++ tail_of fs) h) in
    ((λ i. first i ∷ more.0 i), more.1)

body_one : (b c : Body) (p : Pointer) → HasRightBody b p → HasRightBody c p → IsBodyValue b → IsBodyValue c → lines_behind b ≡ lines_behind c → b ≡ c
body_one (body.Default n) (body.Default m) p h k v w e = ap body.Default (sym h.0 ∙ k.0)
body_one (body.Default n) (body.Listed t) p h k v w e = absurd (omega (arith, h.0, h.1, k.0))
body_one (body.Listed t) (body.Default m) p h k v w e = absurd (omega (arith, k.0, k.1, h.0))
body_one (body.Listed t) (body.Listed u) p h k v w e =
    let head : head_of t ≡ head_of u = header_text-one (head_of t) (head_of u) (right_head t (v, h.2, h.3)) (right_head u (w, k.2, k.3)) (head_text t h.2 ∙ head_is (header_line t) (header_line u) (map base_line t.base ++ tail_of t.ext) (map base_line u.base ++ tail_of u.ext) e ∙ sym (head_text u k.2)) in
    let rest = entries_one t.base u.base t.ext u.ext v.base w.base (right_exts t.ext v.ext h.3) (right_exts u.ext w.ext k.3)
    (tail_is (header_line t) (header_line u) (map base_line t.base ++ tail_of t.ext) (map base_line u.base ++ tail_of u.ext) e) in
    let same : table_with (head_of t) t.base t.ext ≡ table_with (head_of u) u.base u.ext = λ i. table_with (head i) (rest.0 i) (rest.1 i) in
    ap body.Listed (sym (table_again t h.2) ∙ same ∙ table_again u k.2)

-- tables with one listing are one
pub listing_is_one : (t u : Tables) (text : List ℕ) → IsListingOf t text → IsListingOf u text → t ≡ u
listing_is_one t u text h k =
    let lines : lines_of t ≡ lines_of u = (prefix_one IsListing listing_whole (lines_of t) (lines_of u) text [] [] (listing_prefix t text h) (listing_prefix u text k)).0 in
    let behind : pointer_line t ∷ lines_behind t.body ≡ pointer_line u ∷ lines_behind u.body = tail_is title_line title_line (pointer_line t ∷ lines_behind t.body) (pointer_line u ∷ lines_behind u.body) lines in
    let pointer : placed t ≡ placed u = pointer_text-one (placed t) (placed u) (right_pointer t h.0) (right_pointer u k.0) (head_is (pointer_line t) (pointer_line u) (lines_behind t.body) (lines_behind u.body) behind) in
    let same : u.pointer ≡ t.pointer = sym (ap (λ x. x.pointer) pointer) in
    let bodies : t.body ≡ u.body = body_one t.body u.body t.pointer h.0.body (subst (λ (p : Pointer). HasRightBody u.body p) same k.0.body) h.0.fields.body k.0.fields.body
    (tail_is (pointer_line t) (pointer_line u) (lines_behind t.body) (lines_behind u.body) behind) in
    (λ i. tables_of (pointer i) (bodies i))
