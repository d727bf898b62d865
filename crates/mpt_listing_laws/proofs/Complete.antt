-- Every text is the listing of tables or has a first bad line.
use Rattle.std.proofs.Common.{◌≡◌, ℕ, zero, suc, ◌+◌, ◌<◌, ◌≤◌, List, [], ◌∷◌, ◌++◌, length, sym, refl, ap, ◌∙◌, append_assoc, append-nil, inl, inr, ◌⊎◌, arith}
use Rattle.std.specs.Prelude.{◌≢◌}
use Rattle.std.proofs.lemmas.Bool.{cases_eq}
use Rattle.std.specs.List.{flat_map}
use Rattle.mpt_spec.specs.declared.pointer.Pointer.{Pointer}
use Rattle.mpt_spec.specs.declared.entry.Ext.{Ext}
use Rattle.mpt_spec.specs.declared.tables.Table.{Table}
use Rattle.mpt_spec.specs.declared.tables.Body.{Body}
use Rattle.mpt_spec.specs.declared.tables.Body.TheVariants as body
use Rattle.mpt_spec.specs.declared.tables.Tables.{Tables}
use Rattle.mpt_spec.specs.Table.{default_number}
use Rattle.mpt_spec.specs.Values.{IsBaseValue, IsBodyValue}
use Rattle.mpt_listing.specs.Listing.{base_line, ext_line}
use Rattle.mpt_line.specs.declared.heads.HeaderLine.{HeaderLine}
use Rattle.mpt_line.specs.declared.heads.PointerLine.{PointerLine}
use Rattle.mpt_line.specs.Lines.{IsRightExt, IsRightPointer, pointer_text, IsRightHeader, header_text, table_with, BeginsWith}
use Rattle.mpt_line.proofs.CallerLemmas.{HasFirstLine, base_line-first, ext_line-first, pointer_text-first, header_text-first}
use Rattle.mpt_parse.specs.declared.fault.LineWhy.{LineWhy}
use Rattle.mpt_parse.specs.declared.fault.LineWhy.TheVariants as why
use Rattle.mpt_parse.specs.declared.fault.ListingFault.TheVariants as fault
use Rattle.mpt_parse.specs.Listings.{title_line, end_line, HasRightBody, IsListing, IsListingOf, IsFirstBadLine}
use Rattle.mpt_line.proofs.CallerLemmas.{text-first}
use Rattle.mpt_parse.specs.Languages.{IsEnd, MayFollow, AreTableLines, AreBodyLines, IsRightTable, IsFaultBehind, IsUnfinished, AreFirstLines, behind_text}
use Rattle.mpt_parse.proofs.Prefix.{end_stop, late}
use Rattle.mpt_parse.proofs.EntryLines.{shorter, base_some, ext_some, none_follow, new_follow}
use Rattle.mpt_parse.proofs.TableLines.{table_stop, table_fault, table_whole, listed_fault, default_fault}
use Rattle.mpt_parse.proofs.ListingLines.{tables_of, title_stop, title_fault, pointer_stop, pointer_fault, listing_whole}

-- a bad line behind so many valid ones
abbrev HasFault : (List (List ℕ) → Type 0) → ℕ → List ℕ → Type 0
HasFault L before text = (m : ℕ) × (w : LineWhy) × IsFaultBehind L before text (fault.Line m w)

unfinished : (before : ℕ) (text : List ℕ) → (m : ℕ) × (w : LineWhy) × IsUnfinished before text (fault.Line m w)
unfinished before [] = (before + 1, why.Early, (refl, refl))
unfinished before (c ∷ cs) = (before + 1, why.Form, (refl, λ e. absurd (cc (e))))

end_or_fault : (before : ℕ) (text : List ℕ) → (text ≡ end_line) ⊎ HasFault IsEnd before text
end_or_fault before text = elim (text-first end_line text) [
  | inl k ↦ at k.0 k.1
  | inr none ↦ (let u = unfinished before text in inr (u.0, u.1, end_stop text before (fault.Line u.0 u.1) none u.2))
]
  where
    at : (rest : List ℕ) → text ≡ end_line ++ rest → (text ≡ end_line) ⊎ HasFault IsEnd before text
    at [] e = inl (e ∙ append-nil end_line)
    at (c ∷ r) e = inr (before + 2, why.Late, (2, refl, late text (c ∷ r) before e (λ k. absurd (cc (k)))))

-- the entries of one kind whose lines begin a text
module _ {E : Type 0} (line : E → List ℕ) (Right : E → Type 0) (first : (text : List ℕ) → HasFirstLine line Right text) (some : (e : E) → 1 ≤ length (line e)) where
  abbrev SomeEntries : List ℕ → Type 0
  SomeEntries text = (es : List E) × (rest : List ℕ) × AreFirstLines line Right es text rest

  entries_step : (text : List ℕ) (n : ℕ) → length text ≤ n → ((after : List ℕ) → length after < n → SomeEntries after) → SomeEntries text
  entries_step text n h more = elim (first text) [
    | inl x ↦ at x.0 x.1 x.2
    | inr none ↦ ([], text, record { whole = refl; values = tt; last = none })
  ]
    where
      at : (e : E) (after : List ℕ) → BeginsWith line Right text e after → SomeEntries text
      at e after b =
          let less : length after < length text = shorter (line e) text after (some e) b.whole in
          let s = more after (omega (arith, less, h)) in
          (e ∷ s.0, s.1, record { whole = b.whole ∙ ap (λ y. line e ++ y) s.2.whole ∙ sym (append_assoc (line e) (flat_map line s.0) s.1); values = (b.right, s.2.values); last = s.2.last })

  entries_in : (n : ℕ) (text : List ℕ) → length text ≤ n → SomeEntries text
  entries_in zero text h = entries_step text zero h (λ after l. absurd (omega (arith, l)))
  entries_in (suc n) text h = entries_step text (suc n) h (λ after l. entries_in n after (omega (arith, l)))

-- the extended entries that may follow a header, one after another
ext_part : (h : HeaderLine) (text : List ℕ) → (es : List Ext) × (rest : List ℕ) × AreFirstLines ext_line (MayFollow h) es text rest
ext_part h text = elim (cases_eq h.revision 1) [
  | inl one ↦ ([], text, none_follow h text one)
  | inr new ↦ (let x = entries_in ext_line IsRightExt ext_line-first ext_some (length text) text (omega arith) in (x.0, x.1, new_follow h x.0 text x.1 new x.2))
]

-- a table, or its first bad line
abbrev IsTableText : List ℕ → Type 0
IsTableText text = (t : Table) × IsRightTable t × (text ≡ behind_text (body.Listed t))

table_or_fault : (text : List ℕ) → IsTableText text ⊎ HasFault AreTableLines 2 text
table_or_fault text = elim (header_text-first text) [
  | inl x ↦ at x.0 x.1 x.2
  | inr none ↦ (let u = unfinished 2 text in inr (u.0, u.1, table_stop text 2 (fault.Line u.0 u.1) none u.2))
]
  where
    at : (h : HeaderLine) (rest : List ℕ) → BeginsWith header_text IsRightHeader text h rest → IsTableText text ⊎ HasFault AreTableLines 2 text
    at h rest e =
        let b = entries_in base_line IsBaseValue base_line-first base_some (length rest) rest (omega arith) in
        let x = ext_part h b.1 in
        elim (end_or_fault (2 + 1 + length b.0 + length x.0) x.1) [
          | inl k ↦ (let w = table_whole h b.0 x.0 text rest b.1 x.1 e b.2 x.2 k in inl (table_with h b.0 x.0, w.0, w.1))
          | inr f ↦ inr (f.0, f.1, table_fault h b.0 x.0 text rest b.1 x.1 2 (fault.Line f.0 f.1) e b.2 x.2 f.2)
        ]

-- a body, or its first bad line
abbrev IsBodyText : Pointer → List ℕ → Type 0
IsBodyText p text = (b : Body) × IsBodyValue b × HasRightBody b p × (text ≡ behind_text b)

body_or_fault : (p : Pointer) → default_number p ≤ 7 → (default_number p ≡ 0 → p.address ≢ 0) → (text : List ℕ) → IsBodyText p text ⊎ HasFault (AreBodyLines p) 2 text
body_or_fault p low address text = at (default_number p) refl
  where
    below : (n : ℕ) → n ≤ 7 → n < 256
    below n h = omega arith

    at : (n : ℕ) → default_number p ≡ n → IsBodyText p text ⊎ HasFault (AreBodyLines p) 2 text
    at zero e = elim (table_or_fault text) [
      | inl t ↦ inl (body.Listed t.0, t.1.0, (e, address e, t.1.1, t.1.2), t.2)
      | inr f ↦ inr (f.0, f.1, listed_fault p e (address e) text 2 (fault.Line f.0 f.1) f.2)
    ]
    at (suc n) e =
        let some : 1 ≤ default_number p = omega (arith, e) in
        elim (end_or_fault 2 text) [
          | inl k ↦ inl (body.Default (default_number p), below (default_number p) low, (refl, some, low), k)
          | inr f ↦ inr (f.0, f.1, default_fault p some low text 2 (fault.Line f.0 f.1) f.2)
        ]

abbrev IsListingText : List ℕ → Type 0
IsListingText text = (t : Tables) × IsListingOf t text

listing_or_fault : (text : List ℕ) → IsListingText text ⊎ HasFault IsListing 0 text
listing_or_fault text = elim (text-first title_line text) [
  | inl k ↦ behind k.0 k.1
  | inr none ↦ (let u = unfinished 0 text in inr (u.0, u.1, title_stop text (fault.Line u.0 u.1) none u.2))
]
  where
    pointed : (b : List ℕ) → text ≡ title_line ++ b → (v : PointerLine) (rest : List ℕ) → BeginsWith pointer_text IsRightPointer b v rest → IsListingText text ⊎ HasFault IsListing 0 text
    pointed b e v rest k = elim (body_or_fault v.pointer k.right.number k.right.address rest) [
      | inl y ↦ inl (tables_of v y.0, listing_whole v y.0 text b rest e k y.1 y.2 y.3)
      | inr f ↦ inr (f.0, f.1, title_fault text b (fault.Line f.0 f.1) e (pointer_fault v b rest 1 (fault.Line f.0 f.1) k f.2))
    ]

    behind : (b : List ℕ) → text ≡ title_line ++ b → IsListingText text ⊎ HasFault IsListing 0 text
    behind b e = elim (pointer_text-first b) [
      | inl x ↦ pointed b e x.0 x.1 x.2
      | inr none ↦ (let u = unfinished 1 b in inr (u.0, u.1, title_fault text b (fault.Line u.0 u.1) e (pointer_stop b 1 (fault.Line u.0 u.1) none u.2)))
    ]

pub every_text : (text : List ℕ) → ((t : Tables) × IsListingOf t text) ⊎ ((n : ℕ) × (w : LineWhy) × IsFirstBadLine IsListing text n w)
every_text text = elim (listing_or_fault text) [
  | inl k ↦ inl k
  | inr f ↦ inr (f.2.0, f.1, f.2.2)
]
