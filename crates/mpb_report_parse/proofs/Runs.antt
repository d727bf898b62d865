-- Items one after another: their lines one at a time, and the first bad line behind them.
use Rattle.std.proofs.Common.{◌≡◌, ℕ, ◌+◌, ◌≤◌, List, [], ◌∷◌, ◌++◌, length, sym, refl, ap, ◌∙◌, subst, inl, inr, ◌⊎◌, append_assoc, append-nil, length-append, arith}
use Rattle.mpt_line.specs.Lines.{BeginsWithNone}
use Rattle.mpb_report_parse.specs.declared.fault.ReportFault.{ReportFault}
use Rattle.mpb_report_parse.specs.Languages.{run_lines, run_text, run_end, AreRightFrom, AreRunLines, AreFirstItems, IsFaultBehind, IsUnfinished}
use Rattle.mpb_report_parse.proofs.Prefix.{step, narrow, stop}

pub head_is : (x y : List ℕ) (xs ys : List (List ℕ)) → x ∷ xs ≡ y ∷ ys → x ≡ y
head_is x y xs ys h = cc

pub tail_is : (x y : List ℕ) (xs ys : List (List ℕ)) → x ∷ xs ≡ y ∷ ys → xs ≡ ys
tail_is x y xs ys h = cc

-- one item more
module _ {E : Type 0} (show : ℕ → E → List ℕ) (next : ℕ → E → ℕ) where
  pub text_more : (s : ℕ) (es : List E) (e : E) (text rest after : List ℕ) → text ≡ run_text show next s es ++ rest → rest ≡ show (run_end next s es) e ++ after → text ≡ run_text show next s (es ++ e ∷ []) ++ after
  text_more s [] e text rest after h k = h ∙ k ∙ ap (λ x. x ++ after) (sym (append-nil (show s e)))
  text_more s (x ∷ es) e text rest after h k =
      h ∙ append_assoc (show s x) (run_text show next (next s x) es) rest
      ∙ ap (λ t. show s x ++ t) (text_more (next s x) es e (run_text show next (next s x) es ++ rest) rest after refl k)
      ∙ sym (append_assoc (show s x) (run_text show next (next s x) (es ++ e ∷ [])) after)

  pub end_more : (s : ℕ) (es : List E) (e : E) → run_end next s (es ++ e ∷ []) ≡ next (run_end next s es) e
  end_more s [] e = refl
  end_more s (x ∷ es) e = end_more (next s x) es e

  pub right_more : (Right : ℕ → E → Type 0) (s : ℕ) (es : List E) (e : E) → AreRightFrom Right next s es → Right (run_end next s es) e → AreRightFrom Right next s (es ++ e ∷ [])
  right_more Right s [] e v w = (w, tt)
  right_more Right s (x ∷ es) e v w = (v.0, right_more Right (next s x) es e v.1 w)

  -- there are no more lines than bytes
  pub run_short : ((s : ℕ) (e : E) → 1 ≤ length (show s e)) → (s : ℕ) (es : List E) → length es ≤ length (run_text show next s es)
  run_short some s [] = omega arith
  run_short some s (e ∷ es) = omega (arith, length-append (show s e) (run_text show next (next s e) es), some s e, run_short some (next s e) es)

  pub items_short : ((s : ℕ) (e : E) → 1 ≤ length (show s e)) → (s : ℕ) (es : List E) (text rest : List ℕ) → text ≡ run_text show next s es ++ rest → length es + length rest ≤ length text
  items_short some s es text rest h = omega (arith, run_short some s es, length-append (run_text show next s es) rest, ap length h)

-- what is known of the items of a kind, and of what may follow them
module _ {E : Type 0} (show : ℕ → E → List ℕ) (Right : ℕ → E → Type 0) (next : ℕ → E → ℕ) (Tail : ℕ → List (List ℕ) → Type 0)
    (one : (s : ℕ) (a b : E) → Right s a → Right s b → show s a ≡ show s b → a ≡ b)
    (apart : (s : ℕ) (e : E) (ls : List (List ℕ)) → Right s e → Tail s (show s e ∷ ls) → ⊥)
    (some : (s : ℕ) → Tail s [] → ⊥) where
  abbrev L : ℕ → List (List ℕ) → Type 0
  L s ls = AreRunLines show Right next Tail s ls

  -- what a first line is
  run_next : (s : ℕ) (l : List ℕ) (ls : List (List ℕ)) → L s (l ∷ ls) → ((e : E) × Right s e × (l ≡ show s e) × L (next s e) ls) ⊎ Tail s (l ∷ ls)
  run_next s l ls ([], v, tail, t, h) = inr (subst (λ (x : List (List ℕ)). Tail s x) (sym h) t)
  run_next s l ls (e ∷ es, v, tail, t, h) =
      inl (e, v.0, head_is l (show s e) ls (run_lines show next (next s e) es tail) h, (es, v.1, tail, t, tail_is l (show s e) ls (run_lines show next (next s e) es tail) h))

  pub run_from : (s : ℕ) (e : E) (ls : List (List ℕ)) → Right s e → L (next s e) ls → L s (show s e ∷ ls)
  run_from s e ls v (es, w, tail, t, h) = (e ∷ es, (v, w), tail, t, ap (λ x. show s e ∷ x) h)

  pub run_to : (s : ℕ) (e : E) (ls : List (List ℕ)) → Right s e → L s (show s e ∷ ls) → L (next s e) ls
  run_to s e ls v h = elim (run_next s (show s e) ls h) [
    | inl k ↦ subst (λ (x : E). L (next s x) ls) (sym (one s e k.0 v k.1 k.2)) k.3
    | inr t ↦ absurd (apart s e ls v t)
  ]

  pub run_some : (s : ℕ) → L s [] → ⊥
  run_some s ([], v, tail, t, h) = some s (subst (λ (x : List (List ℕ)). Tail s x) (sym h) t)
  run_some s (e ∷ es, v, tail, t, h) = absurd (cc (h))

  run_here : (s : ℕ) (text : List ℕ) → BeginsWithNone (show s) (Right s) text → (x follow : List ℕ) (ls : List (List ℕ)) → text ≡ x ++ follow → L s (x ∷ ls) → Tail s (x ∷ ls)
  run_here s text none x follow ls e h = elim (run_next s x ls h) [
    | inl k ↦ absurd (none k.0 follow k.1 (e ∙ ap (λ y. y ++ follow) k.2))
    | inr t ↦ t
  ]

  pub tail_wider : (s : ℕ) (ls : List (List ℕ)) → Tail s ls → L s ls
  tail_wider s ls t = ([], tt, ls, t, refl)

  -- the items whose lines stand first were valid lines
  pub run_steps : (es : List E) (s : ℕ) (text rest : List ℕ) (before : ℕ) (f : ReportFault) → text ≡ run_text show next s es ++ rest → AreRightFrom Right next s es
      → IsFaultBehind (L (run_end next s es)) (before + length es) rest f → IsFaultBehind (L s) before text f
  run_steps [] s text rest before f e v h = let z : before + 0 ≡ before = omega arith in rw (e, ← z) h
  run_steps (x ∷ es) s text rest before f e v h =
      let k : before + 1 + length es ≡ before + length (x ∷ es) = omega arith in
      step (L s) (L (next s x)) (show s x) text (run_text show next (next s x) es ++ rest) before f (λ ls. run_to s x ls v.0) (λ ls. run_from s x ls v.0) (e ∙ append_assoc (show s x) (run_text show next (next s x) es) rest)
      (run_steps es (next s x) (run_text show next (next s x) es ++ rest) rest (before + 1) f refl v.1 (subst (λ (j : ℕ). IsFaultBehind (L (run_end next (next s x) es)) j rest f) (sym k) h))

  -- the first bad line behind them
  pub run_fault : (es : List E) (s : ℕ) (text rest : List ℕ) (before : ℕ) (f : ReportFault) → AreFirstItems show Right next s es text rest → IsFaultBehind (Tail (run_end next s es)) (before + length es) rest f → IsFaultBehind (L s) before text f
  run_fault es s text rest before f p h =
      run_steps es s text rest before f p.whole p.right
      (narrow (Tail (run_end next s es)) (L (run_end next s es)) rest (λ ls t. tail_wider (run_end next s es) ls t) (run_here (run_end next s es) rest p.last) (run_some (run_end next s es)) (before + length es) f h)

  -- where an item is due and none follows
  pub run_stop : (es : List E) (s : ℕ) (text rest : List ℕ) (before : ℕ) (f : ReportFault) → AreFirstItems show Right next s es text rest → ((ls : List (List ℕ)) → Tail (run_end next s es) ls → ⊥) → (ls : List (List ℕ)) × L (run_end next s es) ls
      → IsUnfinished (before + length es) rest f → IsFaultBehind (L s) before text f
  run_stop es s text rest before f p none member h =
      run_steps es s text rest before f p.whole p.right
      (stop (L (run_end next s es)) rest (before + length es) f member (run_some (run_end next s es)) (λ x follow ls e m. none (x ∷ ls) (run_here (run_end next s es) rest p.last x follow ls e m)) h)

  -- two runs with the same lines are one
  pub run_one : (s : ℕ) (es fs : List E) (xs ys : List (List ℕ)) → AreRightFrom Right next s es → AreRightFrom Right next s fs → Tail (run_end next s es) xs → Tail (run_end next s fs) ys
      → run_lines show next s es xs ≡ run_lines show next s fs ys → (es ≡ fs) × (xs ≡ ys)
  run_one s [] [] xs ys v w t u h = (refl, h)
  run_one s [] (f ∷ fs) xs ys v w t u h = absurd (apart s f (run_lines show next (next s f) fs ys) w.0 (subst (λ (x : List (List ℕ)). Tail s x) h t))
  run_one s (e ∷ es) [] xs ys v w t u h = absurd (apart s e (run_lines show next (next s e) es xs) v.0 (subst (λ (x : List (List ℕ)). Tail s x) (sym h) u))
  run_one s (e ∷ es) (f ∷ fs) xs ys v w t u h =
      let first : e ≡ f = one s e f v.0 w.0 (head_is (show s e) (show s f) (run_lines show next (next s e) es xs) (run_lines show next (next s f) fs ys) h) in
      let same : run_lines show next (next s e) es xs ≡ run_lines show next (next s f) fs ys = tail_is (show s e) (show s f) (run_lines show next (next s e) es xs) (run_lines show next (next s f) fs ys) h in
      let back : f ≡ e = sym first in
      let more : (es ≡ fs) × (xs ≡ ys) =
      run_one (next s e) es fs xs ys v.1 (subst (λ (x : E). AreRightFrom Right next (next s x) fs) back w.1) t (subst (λ (x : E). Tail (run_end next (next s x) fs) ys) back u)
      (same ∙ ap (λ (x : E). run_lines show next (next s x) fs ys) back) in
      ((λ i. first i ∷ more.0 i), more.1)
