-- The first bad line of a text, for any set of lists of lines. Listings and reports both stand on it.
use Rattle.std.proofs.Common.{◌≡◌, ℕ, ◌+◌, List, [], ◌∷◌, ◌++◌, length, sym, refl, ap, ◌∙◌, subst, append_assoc, append-nil, arith}
use Rattle.std.specs.Prelude.{◌≢◌}
use Rattle.std.specs.List.{flat_map, AllByRecursion}
use Rattle.mpt_parse.specs.declared.fault.LineWhy.{LineWhy}
use Rattle.mpt_parse.specs.declared.fault.LineWhy.TheVariants as why
use Rattle.mpt_parse.specs.Listings.{IsLongestValidPrefix, IsBadBecause, IsFirstBadLine, IsWholeLine}
use Rattle.mpt_parse.specs.Languages.{IsUnfinishedBy}
use Rattle.mpt_parse.proofs.WholeLines.{one_first_line, no_empty_line}

because : (w : LineWhy) (A B : Type 0) (rest : List ℕ) → (A → B) → (B → A) → IsBadBecause w A rest → IsBadBecause w B rest
because why.Form A B rest to from h = (λ b. h.0 (from b), h.1)
because why.Early A B rest to from h = (λ b. h.0 (from b), h.1)
because why.Late A B rest to from h = (to h.0, h.1)

-- a valid line more
pub step_line : (L M : List (List ℕ) → Type 0) (x text rest : List ℕ) (n : ℕ) (w : LineWhy) → ((ls : List (List ℕ)) → L (x ∷ ls) → M ls) → ((ls : List (List ℕ)) → M ls → L (x ∷ ls))
    → text ≡ x ++ rest → IsFirstBadLine M rest n w → IsFirstBadLine L text (n + 1) w
step_line L M x text rest n w to from e (valid, end, p, k, b) = (
  x ∷ valid,
  end,
  record {
    whole = e ∙ ap (λ r. x ++ r) p.whole ∙ sym (append_assoc x (flat_map (λ l. l) valid) end);
    begins = (p.begins.0, from (valid ++ p.begins.0) p.begins.1);
    longest = λ next follow more h m. p.longest next follow more h (to (valid ++ next ∷ more) m);
  },
  omega arith,
  because w (M valid) (L (x ∷ valid)) end (from valid) (to valid) b,
)

-- A smaller set serves where each member of the larger one whose first line begins the text is in the smaller.
module _ (L M : List (List ℕ) → Type 0) (text : List ℕ) (wider : (ls : List (List ℕ)) → L ls → M ls)
    (here : (x follow : List ℕ) (ls : List (List ℕ)) → text ≡ x ++ follow → M (x ∷ ls) → L (x ∷ ls)) (some : M [] → ⊥) where
  pub narrow_line : (n : ℕ) (w : LineWhy) → IsFirstBadLine L text n w → IsFirstBadLine M text n w
  narrow_line n w (valid, rest, p, k, b) = (
    valid,
    rest,
    record {
      whole = p.whole;
      begins = (p.begins.0, wider (valid ++ p.begins.0) p.begins.1);
      longest = λ next follow more h m. p.longest next follow more h (longer valid next follow rest more p.whole h m);
    },
    k,
    because w (L valid) (M valid) rest (wider valid) (smaller valid rest p.whole) b,
  )
    where
      longer : (valid : List (List ℕ)) (next follow rest : List ℕ) (more : List (List ℕ)) → text ≡ flat_map (λ l. l) valid ++ rest → rest ≡ next ++ follow → M (valid ++ next ∷ more) → L (valid ++ next ∷ more)
      longer [] next follow rest more e h m = here next follow more (e ∙ h) m
      longer (x ∷ valid) next follow rest more e h m = here x (flat_map (λ l. l) valid ++ rest) (valid ++ next ∷ more) (e ∙ append_assoc x (flat_map (λ l. l) valid) rest) m

      smaller : (valid : List (List ℕ)) (rest : List ℕ) → text ≡ flat_map (λ l. l) valid ++ rest → M valid → L valid
      smaller [] rest e m = absurd (some m)
      smaller (x ∷ valid) rest e m = here x (flat_map (λ l. l) valid ++ rest) valid (e ∙ append_assoc x (flat_map (λ l. l) valid) rest) m

-- no line begins a member: the first line is bad
stop_why : (L : List (List ℕ) → Type 0) (text : List ℕ) (w : LineWhy) → (L [] → ⊥) → IsUnfinishedBy w text → IsBadBecause w (L []) text
stop_why L text why.Form none h = (none, h)
stop_why L text why.Early none h = (none, h)
stop_why L text why.Late none h = absurd h

pub stop_line : (L : List (List ℕ) → Type 0) (text : List ℕ) (w : LineWhy) → (ls : List (List ℕ)) × L ls → (L [] → ⊥)
    → ((x follow : List ℕ) (ls : List (List ℕ)) → text ≡ x ++ follow → L (x ∷ ls) → ⊥) → IsUnfinishedBy w text → IsFirstBadLine L text 1 w
stop_line L text w member none here h =
    ([], text, record { whole = refl; begins = member; longest = λ next follow more e k. here next follow more e k }, refl, stop_why L text w none h)

-- the last line alone is to stand there
pub no_last : (end : List ℕ) → [] ≡ end ∷ [] → ⊥
no_last end e = absurd (cc (e))

pub no_other_line : (end text : List ℕ) → ((rest : List ℕ) → text ≢ end ++ rest) → (x follow : List ℕ) (ls : List (List ℕ)) → text ≡ x ++ follow → x ∷ ls ≡ end ∷ [] → ⊥
no_other_line end text none x follow ls e k =
    let line : x ≡ end = cc (k) in
    none follow (e ∙ ap (λ y. y ++ follow) line)

-- bytes behind it
pub late_line : (end text rest : List ℕ) → text ≡ end ++ rest → rest ≢ [] → IsFirstBadLine (λ ls. ls ≡ end ∷ []) text 2 why.Late
late_line end text rest e h = (
  end ∷ [],
  rest,
  record {
    whole = e ∙ ap (λ (x : List ℕ). x ++ rest) (sym (append-nil end));
    begins = ([], refl);
    longest = λ next follow more k m. (let one : next ∷ more ≡ [] = cc in absurd (cc (one)));
  },
  refl,
  (refl, h),
)

-- the longest prefix is one, where all lines are whole
pub prefix_one : (L : List (List ℕ) → Type 0) → ((ls : List (List ℕ)) → L ls → AllByRecursion IsWholeLine ls) → (g h : List (List ℕ)) (text r s : List ℕ) → IsLongestValidPrefix L g text r → IsLongestValidPrefix L h text s → (g ≡ h) × (r ≡ s)
prefix_one L whole [] [] text r s p q = (refl, sym p.whole ∙ q.whole)
prefix_one L whole [] (y ∷ h) text r s p q =
    absurd (p.longest y (flat_map (λ l. l) h ++ s) (h ++ q.begins.0) (sym p.whole ∙ q.whole ∙ append_assoc y (flat_map (λ l. l) h) s) q.begins.1)
prefix_one L whole (x ∷ g) [] text r s p q =
    absurd (q.longest x (flat_map (λ l. l) g ++ r) (g ++ p.begins.0) (sym q.whole ∙ p.whole ∙ append_assoc x (flat_map (λ l. l) g) r) p.begins.1)
prefix_one L whole (x ∷ g) (y ∷ h) text r s p q =
    let a : List ℕ = flat_map (λ l. l) g ++ r in
    let b : List ℕ = flat_map (λ l. l) h ++ s in
    let both_are : x ++ a ≡ y ++ b = sym (append_assoc x (flat_map (λ l. l) g) r) ∙ sym p.whole ∙ q.whole ∙ append_assoc y (flat_map (λ l. l) h) s in
    let o = one_first_line x y a b (whole (x ∷ (g ++ p.begins.0)) p.begins.1).0 (whole (y ∷ (h ++ q.begins.0)) q.begins.1).0 both_are in
    let more : (g ≡ h) × (r ≡ s) =
    prefix_one (λ ls. L (x ∷ ls)) (λ ls m. (whole (x ∷ ls) m).1) g h a r s
    (record { whole = refl; begins = p.begins; longest = p.longest })
    (record {
      whole = o.1;
      begins = (q.begins.0, subst (λ (z : List ℕ). L (z ∷ (h ++ q.begins.0))) (sym o.0) q.begins.1);
      longest = λ next follow ls e m. q.longest next follow ls e (subst (λ (z : List ℕ). L (z ∷ (h ++ next ∷ ls))) o.0 m);
    }) in
    ((λ i. o.0 i ∷ more.0 i), more.1)

-- a text has one first bad line at most
same_why : (w v : LineWhy) (A : Type 0) (r : List ℕ) → IsBadBecause w A r → IsBadBecause v A r → w ≡ v
same_why why.Form why.Form A r h k = refl
same_why why.Form why.Early A r h k = absurd (h.1 k.1)
same_why why.Form why.Late A r h k = absurd (h.0 k.0)
same_why why.Early why.Form A r h k = absurd (k.1 h.1)
same_why why.Early why.Early A r h k = refl
same_why why.Early why.Late A r h k = absurd (h.0 k.0)
same_why why.Late why.Form A r h k = absurd (k.0 h.0)
same_why why.Late why.Early A r h k = absurd (k.0 h.0)
same_why why.Late why.Late A r h k = refl

pub one_bad_line : (L : List (List ℕ) → Type 0) → ((ls : List (List ℕ)) → L ls → AllByRecursion IsWholeLine ls) → (text : List ℕ) (n m : ℕ) (w v : LineWhy) → IsFirstBadLine L text n w → IsFirstBadLine L text m v → (n ≡ m) × (w ≡ v)
one_bad_line L whole text n m w v (g, r, p, e, a) (h, s, q, k, b) =
    let o = prefix_one L whole g h text r s p q in
    let c : IsBadBecause v (L g) r = subst (λ (x : List (List ℕ)). IsBadBecause v (L x) r) (sym o.0) (subst (λ (x : List ℕ). IsBadBecause v (L h) x) (sym o.1) b) in
    (e ∙ ap (λ (x : List (List ℕ)). length x + 1) o.0 ∙ sym k, same_why w v (L g) r a c)

-- a whole member is its own longest prefix
pub empty_front : (x y : List ℕ) → [] ≡ x ++ y → x ≡ []
empty_front [] y e = refl
empty_front (c ∷ x) y e = absurd (cc (e))

pub whole_at : (xs : List (List ℕ)) (y : List ℕ) (ys : List (List ℕ)) → AllByRecursion IsWholeLine (xs ++ y ∷ ys) → IsWholeLine y
whole_at [] y ys h = h.0
whole_at (x ∷ xs) y ys h = whole_at xs y ys h.1

pub member_prefix : (L : List (List ℕ) → Type 0) → ((ls : List (List ℕ)) → L ls → AllByRecursion IsWholeLine ls) → (ls : List (List ℕ)) (text : List ℕ) → L ls → text ≡ flat_map (λ l. l) ls → IsLongestValidPrefix L ls text []
member_prefix L whole ls text member e = record {
  whole = e ∙ sym (append-nil (flat_map (λ l. l) ls));
  begins = ([], subst L (sym (append-nil ls)) member);
  longest = λ next follow more h m.
      no_empty_line (subst (λ (x : List ℕ). IsWholeLine x) (empty_front next follow h) (whole_at ls next more (whole (ls ++ next ∷ more) m)));
}

-- and has no bad line
not_bad : (w : LineWhy) (A : Type 0) → A → IsBadBecause w A [] → ⊥
not_bad why.Form A a h = h.0 a
not_bad why.Early A a h = h.0 a
not_bad why.Late A a h = h.1 refl

pub member_is_not_bad : (L : List (List ℕ) → Type 0) → ((ls : List (List ℕ)) → L ls → AllByRecursion IsWholeLine ls) → (ls : List (List ℕ)) (text : List ℕ) (n : ℕ) (w : LineWhy) → L ls → text ≡ flat_map (λ l. l) ls → IsFirstBadLine L text n w → ⊥
member_is_not_bad L whole ls text n w member e (g, r, p, k, b) =
    let o = prefix_one L whole g ls text r [] p (member_prefix L whole ls text member e) in
    not_bad w (L ls) member (subst (λ (x : List (List ℕ)). IsBadBecause w (L x) []) o.0 (subst (λ (x : List ℕ). IsBadBecause w (L g) x) o.1 b))
