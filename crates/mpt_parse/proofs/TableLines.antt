-- The lines behind that of the floating pointer: the header and the entries, or the end.
use Rattle.std.proofs.Common.{◌≡◌, ℕ, ◌+◌, ◌<◌, ◌≤◌, List, [], ◌∷◌, ◌++◌, length, map, replicate, refl, sym, ap, ◌∙◌, ◌⊎◌, inl, inr, subst, length-append, arith}
use Rattle.std.specs.Prelude.{◌≢◌}
use Rattle.std.specs.List.{AllByRecursion, flat_map}
use Rattle.mpt_spec.specs.declared.pointer.Pointer.{Pointer}
use Rattle.mpt_spec.specs.declared.entry.Base.{Base}
use Rattle.mpt_spec.specs.declared.entry.Ext.{Ext}
use Rattle.mpt_spec.specs.declared.tables.Table.{Table}
use Rattle.mpt_spec.specs.declared.tables.Body.TheVariants as body
use Rattle.mpt_spec.specs.Bytes.{IsByteList}
use Rattle.mpt_spec.specs.Revision.{by_revision}
use Rattle.mpt_spec.proofs.RevisionLemmas.{by_revision-old, by_revision-new}
use Rattle.mpt_spec.proofs.ByteLemmas.{zeros}
use Rattle.mpt_spec.specs.Canonical.{IsLawfulExt, HasFieldsOfRevision}
use Rattle.mpt_spec.specs.Table.{default_number}
use Rattle.mpt_spec.specs.Values.{IsBaseValue, IsExtValue}
use Rattle.mpt_listing.specs.Listing.{header_line, base_line, ext_line}
use Rattle.mpt_line.specs.declared.heads.HeaderLine.{HeaderLine}
use Rattle.mpt_line.specs.declared.heads.HeaderEnd.{HeaderEnd}
use Rattle.mpt_line.specs.declared.heads.HeaderEnd.TheVariants as end
use Rattle.mpt_line.proofs.CallerLemmas.{header_text-one}
use Rattle.mpt_parse.specs.declared.fault.ListingFault.{ListingFault}
use Rattle.mpt_parse.specs.Listings.{end_line, lines_behind}
use Rattle.mpt_line.specs.Lines.{IsRightExt, IsRightEnd, IsRightHeader, header_text, reserved_of, old_of, table_with, BeginsWith, BeginsWithNone}
use Rattle.mpt_parse.specs.Languages.{IsEnd, MayFollow, AreEntryLines, AreTableLines, AreBodyLines, IsRightTable, IsFaultBehind, IsUnfinished, AreFirstLines, behind_text}
use Rattle.mpt_line.proofs.ByteValues.{to_bytes}
use Rattle.mpt_parse.proofs.Prefix.{step, narrow, stop}
use Rattle.mpt_parse.proofs.EntryLines.{head_is, tail_is, regroup, all_follow, right_follow, old_follow, entry_fault}

-- the header of a table
abbrev pub head_of : Table → HeaderLine
head_of t = record {
  revision = t.revision;
  oem = t.oem;
  product = t.product;
  oem_table = t.oem_table;
  oem_size = t.oem_size;
  local_address = t.local_address;
  end = by_revision t.revision (end.Old t.old) (end.Reserved t.reserved);
}

-- it is the header of that table, which has the fields of its revision
reserved_again : (t : Table) → HasFieldsOfRevision t → reserved_of (head_of t).end ≡ t.reserved
reserved_again t (inl f) = ap (λ (e : HeaderEnd). reserved_of e) (by_revision-new t.revision (end.Old t.old) (end.Reserved t.reserved) (λ one. omega (arith, f.0, one)))
reserved_again t (inr f) = ap (λ (e : HeaderEnd). reserved_of e) (by_revision-old t.revision (end.Old t.old) (end.Reserved t.reserved) f.0) ∙ sym f.1

old_again : (t : Table) → HasFieldsOfRevision t → old_of (head_of t).end ≡ t.old
old_again t (inl f) = ap (λ (e : HeaderEnd). old_of e) (by_revision-new t.revision (end.Old t.old) (end.Reserved t.reserved) (λ one. omega (arith, f.0, one))) ∙ sym f.1
old_again t (inr f) = ap (λ (e : HeaderEnd). old_of e) (by_revision-old t.revision (end.Old t.old) (end.Reserved t.reserved) f.0)

pub table_again : (t : Table) → HasFieldsOfRevision t → table_with (head_of t) t.base t.ext ≡ t
table_again t f = λ i. record t { reserved = reserved_again t f i; old = old_again t f i }

pub head_text : (t : Table) → HasFieldsOfRevision t → header_text (head_of t) ≡ header_line t
head_text t f = ap (λ (u : Table). header_line u) (table_again t f)

pub right_exts : (es : List Ext) → AllByRecursion IsExtValue es → AllByRecursion IsLawfulExt es → AllByRecursion IsRightExt es
right_exts [] v w = tt
right_exts (e ∷ es) v w = ((v.0, w.0), right_exts es v.1 w.1)

ext_values : (es : List Ext) → AllByRecursion IsRightExt es → AllByRecursion IsExtValue es
ext_values [] v = tt
ext_values (e ∷ es) v = (v.0.0, ext_values es v.1)

lawful_exts : (es : List Ext) → AllByRecursion IsRightExt es → AllByRecursion IsLawfulExt es
lawful_exts [] v = tt
lawful_exts (e ∷ es) v = (v.0.1, lawful_exts es v.1)

pub right_head : (t : Table) → IsRightTable t → IsRightHeader (head_of t)
right_head t v = record { oem = v.0.oem; product = v.0.product; oem_table = v.0.oem_table; oem_size = v.0.oem_size; local_address = v.0.local_address; end = right_end v.1 }
  where
    right_end : HasFieldsOfRevision t → IsRightEnd (head_of t).end t.revision
    right_end (inl f) = subst (λ (e : HeaderEnd). IsRightEnd e t.revision) (sym (by_revision-new t.revision (end.Old t.old) (end.Reserved t.reserved) (λ one. omega (arith, f.0, one)))) (f.0, v.0.reserved)
    right_end (inr f) = subst (λ (e : HeaderEnd). IsRightEnd e t.revision) (sym (by_revision-old t.revision (end.Old t.old) (end.Reserved t.reserved) f.0)) (f.0, v.0.old.0, v.0.old.1)

-- what the last field of a header says
low_end : (e : HeaderEnd) (r : ℕ) → IsRightEnd e r → r < 256
low_end (end.Reserved byte) r h = omega (arith, h.0)
low_end (end.Old bytes) r h = omega (arith, h.0)

reserved_low : (e : HeaderEnd) (r : ℕ) → IsRightEnd e r → reserved_of e < 256
reserved_low (end.Reserved byte) r h = h.1
reserved_low (end.Old bytes) r h = omega arith

old_bytes : (e : HeaderEnd) (r : ℕ) → IsRightEnd e r → (length (old_of e) ≡ 4) × IsByteList (old_of e)
old_bytes (end.Reserved byte) r h = zeros 4
old_bytes (end.Old bytes) r h = (h.1, h.2)

fields_of_end : (e : HeaderEnd) (r : ℕ) (es : List Ext) → IsRightEnd e r → (r ≡ 1 → es ≡ []) → ((r ≡ 4) × (old_of e ≡ replicate 4 0)) ⊎ ((r ≡ 1) × (reserved_of e ≡ 0) × (es ≡ []))
fields_of_end (end.Reserved byte) r es h f = inl (h.0, refl)
fields_of_end (end.Old bytes) r es h f = inr (h.0, refl, f h.0)

pub right_table : (h : HeaderLine) (bs : List Base) (es : List Ext) → IsRightHeader h → AllByRecursion IsBaseValue bs → AllByRecursion (MayFollow h) es → IsRightTable (table_with h bs es)
right_table h bs es r v w = (
  record {
    revision = low_end h.end h.revision r.end;
    oem = r.oem;
    product = r.product;
    oem_table = r.oem_table;
    oem_size = r.oem_size;
    local_address = r.local_address;
    reserved = reserved_low h.end h.revision r.end;
    old = old_bytes h.end h.revision r.end;
    base = v;
    ext = ext_values es (right_follow h es w);
  },
  fields_of_end h.end h.revision es r.end (old_follow h es w),
  lawful_exts es (right_follow h es w),
)

-- a table of revision 1 has no extended entries
none_old : (t : Table) → HasFieldsOfRevision t → t.revision ≡ 1 → t.ext ≡ []
none_old t (inl f) one = absurd (omega (arith, f.0, one))
none_old t (inr f) one = f.2

-- behind the header entries follow
table_to : (h : HeaderLine) → IsRightHeader h → (ls : List (List ℕ)) → AreTableLines (header_text h ∷ ls) → AreEntryLines h ls
table_to h r ls (t, v, e) =
    let rest : List (List ℕ) = map base_line t.base ++ (map ext_line t.ext ++ end_line ∷ []) in
    let same : h ≡ head_of t = header_text-one h (head_of t) r (right_head t v) (head_is (header_text h) (header_line t) ls rest e ∙ sym (head_text t v.1)) in
    let revision : h.revision ≡ t.revision = ap (λ (x : HeaderLine). x.revision) same in
    (t.base, t.ext, v.0.base, all_follow h t.ext (λ one. none_old t v.1 (sym revision ∙ one)) (right_exts t.ext v.0.ext v.2), tail_is (header_text h) (header_line t) ls rest e)

table_from : (h : HeaderLine) (ls : List (List ℕ)) → IsRightHeader h → AreEntryLines h ls → AreTableLines (header_text h ∷ ls)
table_from h ls r (bs, es, v, w, e) = (table_with h bs es, right_table h bs es r v w, ap (λ x. header_text h ∷ x) e)

no_table : AreTableLines [] → ⊥
no_table (t, v, e) = absurd (cc (e))

no_table_here : (text : List ℕ) → BeginsWithNone header_text IsRightHeader text → (x follow : List ℕ) (ls : List (List ℕ)) → text ≡ x ++ follow → AreTableLines (x ∷ ls) → ⊥
no_table_here text none x follow ls e (t, v, k) =
    none (head_of t) follow (right_head t v) (e ∙ ap (λ y. y ++ follow) (head_is x (header_line t) ls (map base_line t.base ++ (map ext_line t.ext ++ end_line ∷ [])) k ∙ sym (head_text t v.1)))

-- a table has lines
abbrev zero_bytes_8 : List ℕ
zero_bytes_8 = 0 ∷ 0 ∷ 0 ∷ 0 ∷ 0 ∷ 0 ∷ 0 ∷ 0 ∷ []

abbrev empty_head : HeaderLine
empty_head = record { revision = 4; oem = zero_bytes_8; product = 0 ∷ 0 ∷ 0 ∷ 0 ∷ zero_bytes_8; oem_table = 0; oem_size = 0; local_address = 0; end = end.Reserved 0 }

right_empty_head : IsRightHeader empty_head
right_empty_head =
    let z : 0 < 256 = omega arith in
    record {
      oem = to_bytes zero_bytes_8 8 (refl, (z, (z, (z, (z, (z, (z, (z, (z, tt)))))))));
      product = to_bytes (0 ∷ 0 ∷ 0 ∷ 0 ∷ zero_bytes_8) 12 (refl, (z, (z, (z, (z, (z, (z, (z, (z, (z, (z, (z, (z, tt)))))))))))));
      oem_table = omega arith;
      oem_size = omega arith;
      local_address = omega arith;
      end = (refl, z);
    }

some_table : (ls : List (List ℕ)) × AreTableLines ls
some_table = (lines_behind (body.Listed (table_with empty_head [] [])), (table_with empty_head [] [], right_table empty_head [] [] right_empty_head tt tt, refl))

-- the first bad line of a table
pub table_stop : (text : List ℕ) (before : ℕ) (f : ListingFault) → BeginsWithNone header_text IsRightHeader text → IsUnfinished before text f → IsFaultBehind AreTableLines before text f
table_stop text before f none h = stop AreTableLines text before f some_table no_table (no_table_here text none) h

pub table_fault : (h : HeaderLine) (bs : List Base) (es : List Ext) (text rest middle end : List ℕ) (before : ℕ) (f : ListingFault) → BeginsWith header_text IsRightHeader text h rest → AreFirstLines base_line IsBaseValue bs rest middle → AreFirstLines ext_line (MayFollow h) es middle end
    → IsFaultBehind IsEnd (before + 1 + length bs + length es) end f → IsFaultBehind AreTableLines before text f
table_fault h bs es text rest middle end before f e p q k =
    step AreTableLines (AreEntryLines h) (header_text h) text rest before f (table_to h e.right) (λ ls m. table_from h ls e.right m) e.whole (entry_fault h bs es rest middle end (before + 1) f p q k)

-- a whole table
pub table_whole : (h : HeaderLine) (bs : List Base) (es : List Ext) (text rest middle end : List ℕ) → BeginsWith header_text IsRightHeader text h rest → AreFirstLines base_line IsBaseValue bs rest middle → AreFirstLines ext_line (MayFollow h) es middle end → end ≡ end_line
    → IsRightTable (table_with h bs es) × (text ≡ behind_text (body.Listed (table_with h bs es)))
table_whole h bs es text rest middle end e p q k = (
  right_table h bs es e.right p.values q.values,
  e.whole ∙ ap (λ x. header_text h ++ x) (p.whole ∙ ap (λ x. flat_map base_line bs ++ x) (q.whole ∙ ap (λ x. flat_map ext_line es ++ x) k))
      ∙ regroup (header_text h) (flat_map base_line bs) (flat_map ext_line es) end_line,
)

-- where the floating pointer names a table, its lines are due
module _ (p : Pointer) (number : default_number p ≡ 0) (address : p.address ≢ 0) where
  listed_wider : (ls : List (List ℕ)) → AreTableLines ls → AreBodyLines p ls
  listed_wider ls (t, v, e) = (body.Listed t, v.0, (number, address, v.1, v.2), e)

  listed_here : (ls : List (List ℕ)) → AreBodyLines p ls → AreTableLines ls
  listed_here ls (body.Default n, v, r, e) = absurd (omega (arith, r.0, r.1, number))
  listed_here ls (body.Listed t, v, r, e) = (t, (v, r.2, r.3), e)

  pub listed_fault : (text : List ℕ) (before : ℕ) (f : ListingFault) → IsFaultBehind AreTableLines before text f → IsFaultBehind (AreBodyLines p) before text f
  listed_fault text before f h = narrow AreTableLines (AreBodyLines p) text listed_wider (λ x follow ls e m. listed_here (x ∷ ls) m) (λ m. no_table (listed_here [] m)) before f h

-- where it names a default configuration, the end is due
module _ (p : Pointer) (low : 1 ≤ default_number p) (high : default_number p ≤ 7) where
  default_wider : (ls : List (List ℕ)) → IsEnd ls → AreBodyLines p ls
  default_wider ls e = (body.Default (default_number p), below (default_number p) high, (refl, low, high), e)
    where
      below : (n : ℕ) → n ≤ 7 → n < 256
      below n h = omega arith

  default_here : (ls : List (List ℕ)) → AreBodyLines p ls → IsEnd ls
  default_here ls (body.Default n, v, r, e) = e
  default_here ls (body.Listed t, v, r, e) = absurd (omega (arith, r.0, low))

  no_end : IsEnd [] → ⊥
  no_end e = absurd (cc (e))

  pub default_fault : (text : List ℕ) (before : ℕ) (f : ListingFault) → IsFaultBehind IsEnd before text f → IsFaultBehind (AreBodyLines p) before text f
  default_fault text before f h = narrow IsEnd (AreBodyLines p) text default_wider (λ x follow ls e m. default_here (x ∷ ls) m) (λ m. no_end (default_here [] m)) before f h

pub head_short : (h : HeaderLine) (text rest : List ℕ) → BeginsWith header_text IsRightHeader text h rest → length rest ≤ length text
head_short h text rest e = omega (arith, length-append (header_text h) rest, ap length e.whole)
