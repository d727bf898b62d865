-- A listing that is cut behind a line or inside one, and one with bytes behind it.
use Rattle.std.proofs.Common.{◌≡◌, ℕ, ◌+◌, ◌<◌, List, [], ◌∷◌, ◌++◌, length, map, sym, refl, ap, ◌∙◌, subst, append_assoc, append-nil, arith}
use Rattle.std.specs.Prelude.{◌≢◌}
use Rattle.std.specs.List.{AllByRecursion, flat_map}
use Rattle.mpt_spec.specs.declared.entry.Base.{Base}
use Rattle.mpt_spec.specs.declared.entry.Ext.{Ext}
use Rattle.mpt_spec.specs.declared.tables.Body.{Body}
use Rattle.mpt_spec.specs.declared.tables.Body.TheVariants as body
use Rattle.mpt_spec.specs.declared.tables.Tables.{Tables}
use Rattle.mpt_listing.specs.Listing.{pointer_line, header_line, base_line, ext_line, listing_of}
use Rattle.mpt_parse.specs.declared.fault.LineWhy.TheVariants as why
use Rattle.mpt_parse.specs.Listings.{title_line, end_line, lines_behind, lines_of, HasRightValues, IsListing, IsFirstBadLine, HasNoFeed, IsWholeLine}
use Rattle.mpt_parse.proofs.EntryLines.{kind_of_line, base_kind, ext_kind, head_is, tail_is}
use Rattle.mpt_parse.proofs.WholeLines.{no_empty_line}
use Rattle.mpt_parse.proofs.BadLines.{empty_front, whole_at}
use Rattle.mpt_parse.proofs.Unique.{listing_whole, lines_make_the_listing}

-- a line before the last: its first byte tells it from `end`
abbrev IsInner : List ℕ → Type 0
IsInner l = kind_of_line l < 2

inner_map : {E : Type 0} (show : E → List ℕ) → ((e : E) → IsInner (show e)) → (es : List E) (ls : List (List ℕ)) → AllByRecursion IsInner ls → AllByRecursion IsInner (map show es ++ ls)
inner_map {E} show ok [] ls h = h
inner_map {E} show ok (e ∷ es) ls h = (ok e, inner_map show ok es ls h)

base_inner : (e : Base) → IsInner (base_line e)
base_inner e = rw (base_kind e) (omega arith)

ext_inner : (e : Ext) → IsInner (ext_line e)
ext_inner e = rw (ext_kind e) (omega arith)

-- the lines end in `end`, and no other line is one
record EndsOnce (lines : List (List ℕ)) : Type 0 where
  pub inner : List (List ℕ)
  pub whole : lines ≡ inner ++ end_line ∷ []
  pub kinds : AllByRecursion IsInner inner

behind_ends : (b : Body) → EndsOnce (lines_behind b)
behind_ends (body.Default n) = record { inner = []; whole = refl; kinds = tt }
behind_ends (body.Listed t) = record {
  inner = header_line t ∷ map base_line t.base ++ (map ext_line t.ext ++ []);
  whole = ap (λ ls. header_line t ∷ ls) (ap (λ ls. map base_line t.base ++ ls) (ap (λ ls. ls ++ end_line ∷ []) (sym (append-nil (map ext_line t.ext)))) ∙ sym (append_assoc (map base_line t.base) (map ext_line t.ext ++ []) (end_line ∷ [])));
  kinds = (omega arith, inner_map base_line base_inner t.base (map ext_line t.ext ++ []) (inner_map ext_line ext_inner t.ext [] tt));
}

lines_end : (t : Tables) → EndsOnce (lines_of t)
lines_end t =
    let b = behind_ends t.body in record {
      inner = title_line ∷ pointer_line t ∷ b.inner;
      whole = ap (λ ls. title_line ∷ pointer_line t ∷ ls) b.whole;
      kinds = (omega arith, (omega arith, b.kinds));
    }

listing_ends : (ls : List (List ℕ)) → IsListing ls → EndsOnce ls
listing_ends ls (t, v, e) = subst (λ (x : List (List ℕ)). EndsOnce x) (sym e) (lines_end t)

some_lines : (zs : List (List ℕ)) (y : List ℕ) (ys : List (List ℕ)) → zs ++ y ∷ ys ≡ [] → ⊥
some_lines [] y ys h = absurd (cc (h))
some_lines (z ∷ zs) y ys h = absurd (cc (h))

-- no listing goes on behind its last line
one_end : (first second : List (List ℕ)) (next : List ℕ) (more : List (List ℕ)) → AllByRecursion IsInner second → first ++ end_line ∷ next ∷ more ≡ second ++ end_line ∷ [] → ⊥
one_end [] [] next more k h = let tail : next ∷ more ≡ [] = tail_is end_line end_line (next ∷ more) [] h in absurd (cc (tail))
one_end [] (y ∷ ys) next more k h = let same : kind_of_line end_line ≡ kind_of_line y = ap kind_of_line (head_is end_line y (next ∷ more) (ys ++ end_line ∷ []) h) in omega (arith, same, k.0)
one_end (z ∷ zs) [] next more k h = some_lines zs end_line (next ∷ more) (tail_is z end_line (zs ++ end_line ∷ next ∷ more) [] h)
one_end (z ∷ zs) (y ∷ ys) next more k h = one_end zs ys next more k.1 (tail_is z y (zs ++ end_line ∷ next ∷ more) (ys ++ end_line ∷ []) h)

no_longer : (ls : List (List ℕ)) (next : List ℕ) (more : List (List ℕ)) → IsListing ls → IsListing (ls ++ next ∷ more) → ⊥
no_longer ls next more l m =
    let a = listing_ends ls l in
    let b = listing_ends (ls ++ next ∷ more) m in
    one_end a.inner b.inner next more b.kinds (sym (append_assoc a.inner (end_line ∷ []) (next ∷ more)) ∙ ap (λ (x : List (List ℕ)). x ++ next ∷ more) (sym a.whole) ∙ b.whole)

-- a line that goes on a listing's lines is whole
next_whole : (front : List (List ℕ)) (next : List ℕ) (more : List (List ℕ)) → IsListing (front ++ next ∷ more) → IsWholeLine next
next_whole front next more m = whole_at front next more (listing_whole (front ++ next ∷ more) m)

pub cut_behind : (t : Tables) (front : List (List ℕ)) (next : List ℕ) (more : List (List ℕ)) → HasRightValues t → lines_of t ≡ front ++ next ∷ more → IsFirstBadLine IsListing (flat_map (λ l. l) front) (length front + 1) why.Early
cut_behind t front next more v e = (
  front,
  [],
  record {
    whole = sym (append-nil (flat_map (λ l. l) front));
    begins = (next ∷ more, (t, v, sym e));
    longest = λ line follow ls h m. no_empty_line (subst (λ (x : List ℕ). IsWholeLine x) (empty_front line follow h) (next_whole front line ls m));
  },
  refl,
  (λ w. no_longer front next more w (t, v, sym e), refl),
)

-- what is begun of a line has no line feed
begun_open : (g begun left : List ℕ) → HasNoFeed g → g ++ 10 ∷ [] ≡ begun ++ left → left ≢ [] → HasNoFeed begun
begun_open g [] left p e h = tt
begun_open [] (b ∷ bs) left p e h = absurd (h (none bs left (cc)))
  where
    none : (bs left : List ℕ) → [] ≡ bs ++ left → left ≡ []
    none [] left e = sym e
    none (b ∷ bs) left e = absurd (cc (e))
begun_open (c ∷ g) (b ∷ bs) left p e h =
    let tail : g ++ 10 ∷ [] ≡ bs ++ left = cc in
    let same : c ≡ b = cc in
    (subst (λ (x : ℕ). x ≢ 10) same p.0, begun_open g bs left p.1 tail h)

no_feed : (f follow begun : List ℕ) → begun ≡ f ++ 10 ∷ follow → HasNoFeed begun → ⊥
no_feed [] follow [] e h = absurd (cc (e))
no_feed [] follow (b ∷ bs) e h = h.0 (cc (e))
no_feed (c ∷ f) follow [] e h = absurd (cc (e))
no_feed (c ∷ f) follow (b ∷ bs) e h = let tail : bs ≡ f ++ 10 ∷ follow = cc in no_feed f follow bs tail h.1

pub cut_inside : (t : Tables) (front : List (List ℕ)) (next : List ℕ) (more : List (List ℕ)) (begun left : List ℕ) → HasRightValues t → lines_of t ≡ front ++ next ∷ more → next ≡ begun ++ left → begun ≢ [] → left ≢ []
    → IsFirstBadLine IsListing (flat_map (λ l. l) front ++ begun) (length front + 1) why.Form
cut_inside t front next more begun left v e s b l = (
  front,
  begun,
  record {
    whole = refl;
    begins = (next ∷ more, (t, v, sym e));
    longest = λ line follow ls h m. ends_nowhere line follow h (next_whole front line ls m);
  },
  refl,
  (λ w. no_longer front next more w (t, v, sym e), b),
)
  where
    open_part : IsWholeLine next → HasNoFeed begun
    open_part (g, h, p) = begun_open g begun left p (sym h ∙ s) l

    ends_nowhere : (line follow : List ℕ) → begun ≡ line ++ follow → IsWholeLine line → ⊥
    ends_nowhere line follow h (f, k, p) =
        no_feed f follow begun (h ∙ ap (λ (x : List ℕ). x ++ follow) k ∙ append_assoc f (10 ∷ []) follow) (open_part (next_whole front next more (t, v, sym e)))

pub behind_late : (t : Tables) (rest : List ℕ) → HasRightValues t → rest ≢ [] → IsFirstBadLine IsListing (listing_of t ++ rest) (length (lines_of t) + 1) why.Late
behind_late t rest v h = (
  lines_of t,
  rest,
  record {
    whole = ap (λ (x : List ℕ). x ++ rest) (sym (lines_make_the_listing t));
    begins = ([], (t, v, append-nil (lines_of t)));
    longest = λ line follow ls e m. no_longer (lines_of t) line ls (t, v, refl) m;
  },
  refl,
  ((t, v, refl), h),
)
