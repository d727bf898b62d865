-- The lines of entries, one at a time, and the first bad line behind them.
use Rattle.std.proofs.Common.{◌≡◌, ℕ, ◌+◌, ◌<◌, ◌≤◌, true, false, List, [], ◌∷◌, ◌++◌, length, map, sym, refl, ap, ◌∙◌, inl, inr, ◌⊎◌, append_assoc, append-nil, length-append, arith}
use Rattle.std.specs.Prelude.{◌==◌, ◌≢◌, ◌||◌, if◌then◌else◌, Result, Ok, Err, IfOk}
use Rattle.std.specs.List.{AllByRecursion, flat_map}
use Rattle.std.proofs.lemmas.List.Concat.{flat_map-append}
use Rattle.std.proofs.lemmas.Bool.Decides.{nat_tests}
use Rattle.mpt_spec.specs.declared.entry.Base.{Base}
use Rattle.mpt_spec.specs.declared.entry.Base.TheVariants as base
use Rattle.mpt_spec.specs.declared.entry.Ext.{Ext}
use Rattle.mpt_spec.specs.declared.entry.Ext.TheVariants as ext
use Rattle.mpt_spec.specs.Values.{IsBaseValue}
use Rattle.mpt_listing.specs.Listing.{line, base_line, ext_line}
use Rattle.mpt_parse.specs.declared.fault.ListingFault.{ListingFault}
use Rattle.mpt_parse.specs.Listings.{end_line}
use Rattle.mpt_line.specs.Lines.{IsRightExt, BeginsWithNone}
use Rattle.mpt_line.specs.declared.heads.HeaderLine.{HeaderLine}
use Rattle.mpt_parse.specs.Languages.{IsEnd, MayFollow, AreExtLines, AreEntryLines, IsFaultBehind, AreFirstLines}
use Rattle.mpt_parse.proofs.Prefix.{steps, narrow}

-- the kind of a line by its first byte: 0 a base entry, 1 an extended entry, 2 any other
abbrev pub kind_of_line : List ℕ → ℕ
kind_of_line [] = 2
kind_of_line (c ∷ cs) = if (c == 112) || (c == 98) || (c == 105) || (c == 108) then 0 else (if (c == 115) || (c == 104) || (c == 109) || (c == 111) then 1 else 2)

pub base_kind : (e : Base) → kind_of_line (base_line e) ≡ 0
base_kind (base.Processor e) = refl
base_kind (base.Bus e) = refl
base_kind (base.IoApic e) = refl
base_kind (base.IoInt e) = refl
base_kind (base.LocalInt e) = refl

pub ext_kind : (e : Ext) → kind_of_line (ext_line e) ≡ 1
ext_kind (ext.Space e) = refl
ext_kind (ext.Hierarchy e) = refl
ext_kind (ext.Modifier e) = refl
ext_kind (ext.Opaque e) = refl

pub other_kind : (a b : List ℕ) (j k : ℕ) → a ≡ b → kind_of_line a ≡ j → kind_of_line b ≡ k → j < k → ⊥
other_kind a b j k h p q l = let e : kind_of_line a ≡ kind_of_line b = ap kind_of_line h in omega (arith, e, p, q)

-- no line is empty
some_byte : (l : List ℕ) → kind_of_line l < 2 → 1 ≤ length l
some_byte [] h = absurd (omega arith)
some_byte (c ∷ cs) h = omega arith

pub base_some : (e : Base) → 1 ≤ length (base_line e)
base_some e = some_byte (base_line e) (rw (base_kind e) (omega arith))

pub ext_some : (e : Ext) → 1 ≤ length (ext_line e)
ext_some e = some_byte (ext_line e) (rw (ext_kind e) (omega arith))

pub head_is : (x y : List ℕ) (xs ys : List (List ℕ)) → x ∷ xs ≡ y ∷ ys → x ≡ y
head_is x y xs ys h = cc

pub tail_is : (x y : List ℕ) (xs ys : List (List ℕ)) → x ∷ xs ≡ y ∷ ys → xs ≡ ys
tail_is x y xs ys h = cc

-- parts that stand end to end
pub regroup : (a b c d : List ℕ) → a ++ (b ++ (c ++ d)) ≡ ((a ++ b) ++ c) ++ d
regroup a b c d = simp append_assoc

-- extended entries that may follow a header: none at revision 1, and at any other all that are right
pub none_follow : (head : HeaderLine) (text : List ℕ) → head.revision ≡ 1 → AreFirstLines ext_line (MayFollow head) [] text text
none_follow head text one = record { whole = refl; values = tt; last = λ e rest m. absurd (m.revision one) }

pub all_follow : (head : HeaderLine) (es : List Ext) → (head.revision ≡ 1 → es ≡ []) → AllByRecursion IsRightExt es → AllByRecursion (MayFollow head) es
all_follow head [] f v = tt
all_follow head (e ∷ es) f v = (record { revision = λ one. absurd (cc (f one)); right = v.0 }, all_follow head es (λ one. absurd (cc (f one))) v.1)

pub right_follow : (head : HeaderLine) (es : List Ext) → AllByRecursion (MayFollow head) es → AllByRecursion IsRightExt es
right_follow head [] v = tt
right_follow head (e ∷ es) v = (v.0.right, right_follow head es v.1)

pub old_follow : (head : HeaderLine) (es : List Ext) → AllByRecursion (MayFollow head) es → head.revision ≡ 1 → es ≡ []
old_follow head [] v one = refl
old_follow head (e ∷ es) v one = absurd (v.0.revision one)

pub new_follow : (head : HeaderLine) (es : List Ext) (text rest : List ℕ) → head.revision ≢ 1 → AreFirstLines ext_line IsRightExt es text rest → AreFirstLines ext_line (MayFollow head) es text rest
new_follow head es text rest new p = record { whole = p.whole; values = all_follow head es (λ one. absurd (new one)) p.values; last = λ e follow m. p.last e follow m.right }

-- the same of what is read, unless memory ran out
pub read_follow : {X E : Type 0} (items : X → List Ext) (rest : X → List ℕ) (head : HeaderLine) (text : List ℕ) → head.revision ≢ 1 → (r : Result X E)
    → IfOk r (λ x. AreFirstLines ext_line IsRightExt (items x) text (rest x)) → IfOk r (λ x. AreFirstLines ext_line (MayFollow head) (items x) text (rest x))
read_follow items rest head text new (Ok x) first = new_follow head (items x) text (rest x) new first
read_follow items rest head text new (Err e) first = tt

-- the lines behind this header
module _ (head : HeaderLine) where
  -- what a first line is
  ext_next : (l : List ℕ) (ls : List (List ℕ)) → AreExtLines head (l ∷ ls) → ((e : Ext) × (l ≡ ext_line e) × MayFollow head e × AreExtLines head ls) ⊎ IsEnd (l ∷ ls)
  ext_next l ls ([], v, h) = inr h
  ext_next l ls (e ∷ es, v, h) = inl (e, head_is l (ext_line e) ls (map ext_line es ++ end_line ∷ []) h, v.0, (es, v.1, tail_is l (ext_line e) ls (map ext_line es ++ end_line ∷ []) h))

  base_next : (l : List ℕ) (ls : List (List ℕ)) → AreEntryLines head (l ∷ ls) → ((e : Base) × (l ≡ base_line e) × IsBaseValue e × AreEntryLines head ls) ⊎ AreExtLines head (l ∷ ls)
  base_next l ls ([], es, v, w, h) = inr (es, w, h)
  base_next l ls (b ∷ bs, es, v, w, h) =
      inl (b, head_is l (base_line b) ls (map base_line bs ++ (map ext_line es ++ end_line ∷ [])) h, v.0, (bs, es, v.1, w, tail_is l (base_line b) ls (map base_line bs ++ (map ext_line es ++ end_line ∷ [])) h))

  -- behind the line of an entry what may follow it
  ext_to : (e : Ext) (ls : List (List ℕ)) → AreExtLines head (ext_line e ∷ ls) → AreExtLines head ls
  ext_to e ls h = elim (ext_next (ext_line e) ls h) [
    | inl k ↦ k.3
    | inr k ↦ absurd (other_kind (ext_line e) end_line 1 2 (head_is (ext_line e) end_line ls [] k) (ext_kind e) refl (omega arith))
  ]

  base_to : (e : Base) (ls : List (List ℕ)) → AreEntryLines head (base_line e ∷ ls) → AreEntryLines head ls
  base_to e ls h = elim (base_next (base_line e) ls h) [
    | inl k ↦ k.3
    | inr k ↦ elim (ext_next (base_line e) ls k) [
      | inl m ↦ absurd (other_kind (base_line e) (ext_line m.0) 0 1 m.1 (base_kind e) (ext_kind m.0) (omega arith))
      | inr m ↦ absurd (other_kind (base_line e) end_line 0 2 (head_is (base_line e) end_line ls [] m) (base_kind e) refl (omega arith))
    ]
  ]

  ext_from : (e : Ext) (ls : List (List ℕ)) → MayFollow head e → AreExtLines head ls → AreExtLines head (ext_line e ∷ ls)
  ext_from e ls v (es, w, h) = (e ∷ es, (v, w), ap (λ x. ext_line e ∷ x) h)

  base_from : (e : Base) (ls : List (List ℕ)) → IsBaseValue e → AreEntryLines head ls → AreEntryLines head (base_line e ∷ ls)
  base_from e ls v (bs, es, w, u, h) = (e ∷ bs, es, (v, w), u, ap (λ x. base_line e ∷ x) h)

  -- where no extended entry stands first, the end is due
  ext_here : (text : List ℕ) → BeginsWithNone ext_line (MayFollow head) text → (x follow : List ℕ) (ls : List (List ℕ)) → text ≡ x ++ follow → AreExtLines head (x ∷ ls) → IsEnd (x ∷ ls)
  ext_here text none x follow ls e h = elim (ext_next x ls h) [
    | inl k ↦ absurd (none k.0 follow k.2 (e ∙ ap (λ y. y ++ follow) k.1))
    | inr k ↦ k
  ]

  -- where no base entry stands first, extended entries and the end are due
  base_here : (text : List ℕ) → BeginsWithNone base_line IsBaseValue text → (x follow : List ℕ) (ls : List (List ℕ)) → text ≡ x ++ follow → AreEntryLines head (x ∷ ls) → AreExtLines head (x ∷ ls)
  base_here text none x follow ls e h = elim (base_next x ls h) [
    | inl k ↦ absurd (none k.0 follow k.2 (e ∙ ap (λ y. y ++ follow) k.1))
    | inr k ↦ k
  ]

  no_exts : AreExtLines head [] → ⊥
  no_exts ([], v, h) = absurd (cc (h))
  no_exts (e ∷ es, v, h) = absurd (cc (h))

  no_entries : AreEntryLines head [] → ⊥
  no_entries ([], es, v, w, h) = no_exts (es, w, h)
  no_entries (b ∷ bs, es, v, w, h) = absurd (cc (h))

  -- the first bad line behind the extended entries, and behind all entries
  pub ext_fault : (es : List Ext) (text rest : List ℕ) (before : ℕ) (f : ListingFault) → AreFirstLines ext_line (MayFollow head) es text rest → IsFaultBehind IsEnd (before + length es) rest f → IsFaultBehind (AreExtLines head) before text f
  ext_fault es text rest before f p h =
      steps (AreExtLines head) (MayFollow head) ext_line es text rest before f ext_to ext_from p.whole p.values
      (narrow IsEnd (AreExtLines head) rest (λ ls k. ([], tt, k)) (ext_here rest p.last) no_exts (before + length es) f h)

  pub entry_fault : (bs : List Base) (es : List Ext) (text middle rest : List ℕ) (before : ℕ) (f : ListingFault) → AreFirstLines base_line IsBaseValue bs text middle → AreFirstLines ext_line (MayFollow head) es middle rest
      → IsFaultBehind IsEnd (before + length bs + length es) rest f → IsFaultBehind (AreEntryLines head) before text f
  entry_fault bs es text middle rest before f p q h =
      steps (AreEntryLines head) IsBaseValue base_line bs text middle before f base_to base_from p.whole p.values
      (narrow (AreExtLines head) (AreEntryLines head) middle (λ ls k. ([], k.0, tt, k.1, k.2)) (base_here middle p.last) no_entries (before + length bs) f
      (ext_fault es middle rest (before + length bs) f q h))

-- the line of one more entry
pub more_lines : {E : Type 0} (show : E → List ℕ) (es : List E) (e : E) (text rest after : List ℕ) → text ≡ flat_map show es ++ rest → rest ≡ show e ++ after → text ≡ flat_map show (es ++ e ∷ []) ++ after
more_lines {E} show es e text rest after h k =
    let one : flat_map show (e ∷ []) ≡ show e = append-nil (show e) in
    h ∙ ap (λ x. flat_map show es ++ x) k ∙ sym (append_assoc (flat_map show es) (show e) after)
    ∙ ap (λ x. (flat_map show es ++ x) ++ after) (sym one) ∙ ap (λ x. x ++ after) (sym (flat_map-append show es (e ∷ [])))

pub more_values : {E : Type 0} (V : E → Type 0) (es : List E) (e : E) → AllByRecursion V es → V e → AllByRecursion V (es ++ e ∷ [])
more_values {E} V [] e v w = (w, tt)
more_values {E} V (x ∷ es) e v w = (v.0, more_values V es e v.1 w)

-- what follows a line is shorter
pub shorter : (line rest after : List ℕ) → 1 ≤ length line → rest ≡ line ++ after → length after < length rest
shorter line rest after h e = omega (arith, length-append line after, ap length e)

-- there are no more lines than bytes
pub lines_short : {E : Type 0} (show : E → List ℕ) → ((e : E) → 1 ≤ length (show e)) → (es : List E) → length es ≤ length (flat_map show es)
lines_short {E} show some [] = omega arith
lines_short {E} show some (e ∷ es) = omega (arith, length-append (show e) (flat_map show es), some e, lines_short show some es)

pub entries_short : {E : Type 0} (show : E → List ℕ) (V : E → Type 0) → ((e : E) → 1 ≤ length (show e)) → (es : List E) (text rest : List ℕ) → AreFirstLines show V es text rest → length es + length rest ≤ length text
entries_short {E} show V some es text rest p = omega (arith, lines_short show some es, length-append (flat_map show es) rest, ap length p.whole)

-- an empty text, by its length
pub no_bytes : (xs : List ℕ) → (length xs == 0) ≡ true → xs ≡ []
no_bytes [] h = refl
no_bytes (x ∷ xs) h = absurd (grind (arith, nat_tests))

pub some_bytes : (xs : List ℕ) → (length xs == 0) ≡ false → xs ≡ [] → ⊥
some_bytes [] h e = absurd (cc (h))
some_bytes (x ∷ xs) h e = absurd (cc (e))
