-- The lines of a state are read exactly.
use Rattle.std.proofs.Common.{◌≡◌, ℕ, ◌+◌, ◌<◌, ◌≤◌, Bool, true, ◌&&◌, List, [], ◌∷◌, ◌++◌, length, sym, refl, ap, ◌∙◌, subst, append_assoc, append-nil, arith}
use Rattle.std.specs.Prelude.{codes, decimal, Option, Some, None, nat_lt}
use Rattle.std.specs.List.{concat, flat_map, AllByRecursion}
use Rattle.std.proofs.lemmas.Bool.{lt-ltb}
use Rattle.std.proofs.lemmas.Bool.Decides.{nat_tests}
use Rattle.mpt_listing.specs.Listing.{hex}
use Rattle.mpt_line.specs.Reading.{text_in, digit_in, hex_in, field_in, both, either, seen_as, checked}
use Rattle.mpt_line.proofs.Exact.{IsExact, text_takes, after-exact, both-exact, ended-exact, seen_as-exact, value-exact}
use Rattle.mpt_line.proofs.Digits.{hex-exact, field-exact}
use Rattle.mpb_spec.specs.declared.config.Life.{Life}
use Rattle.mpb_spec.specs.declared.config.Life.TheVariants as life
use Rattle.mpb_spec.specs.declared.config.Imcr.{Imcr}
use Rattle.mpb_spec.specs.declared.config.Imcr.TheVariants as imcr
use Rattle.mpb_spec.specs.Numbers.{IsAscending, AreBytes}
use Rattle.mpb_report_spec.specs.StateLines.{imcr_text, imcr_line, life_text, further_vector, vectors_text}
use Rattle.mpb_report_line.specs.declared.report.CpuLine.{CpuLine}
use Rattle.mpb_report_line.specs.declared.report.IoLine.{IoLine}
use Rattle.mpb_report_line.specs.Lines.{cpu_text, io_text}
use Rattle.mpb_report_line.specs.Values.{IsRightLife, AreRightVectors, IsRightCpu, IsRightIo, IsRightImcr}
use Rattle.mpb_report_line.specs.Reading.{named, items_in, ascends, ascends_behind}
use Rattle.mpb_report_line.specs.Forms.{imcr_in, life_in, cons_of, no_vectors_in, vectors_in, registers_in, cpu_head_in, cpu_in, io_in}
use Rattle.mpb_report_line.proofs.Parts.{before-exact, retold, IsSound, either-sound, named-sound, tagged-sound, Reads, here, next, named-reads, tagged-reads, two_halves, checked-sound, checked-reads, before_refuses, named_refuses, concat-2, items-exact}

-- the interrupt mode register
abbrev imcr_end : Imcr → List ℕ
imcr_end r = imcr_text r ++ 10 ∷ []

abbrev modes_in : List ℕ → Option (Imcr × List ℕ)
modes_in = either (named (codes "none\n") imcr.Absent) (either (named (codes "pic\n") imcr.Pic) (named (codes "apic\n") imcr.Apic))

imcr-reads : (r : Imcr) → IsRightImcr r → Reads imcr_end r modes_in
unfolding text_in
imcr-reads imcr.Absent v = here _ (named-reads imcr_end (codes "none\n") imcr.Absent refl)
imcr-reads imcr.Pic v = next (named (codes "none\n") imcr.Absent) (λ rest. refl) (here _ (named-reads imcr_end (codes "pic\n") imcr.Pic refl))
imcr-reads imcr.Apic v = next (named (codes "none\n") imcr.Absent) (λ rest. refl) (next (named (codes "pic\n") imcr.Pic) (λ rest. refl) (named-reads imcr_end (codes "apic\n") imcr.Apic refl))

imcr-sound : IsSound imcr_end IsRightImcr modes_in
imcr-sound =
    either-sound imcr_end IsRightImcr _ _ (named-sound imcr_end IsRightImcr (codes "none\n") imcr.Absent refl tt)
    (either-sound imcr_end IsRightImcr _ _ (named-sound imcr_end IsRightImcr (codes "pic\n") imcr.Pic refl tt) (named-sound imcr_end IsRightImcr (codes "apic\n") imcr.Apic refl tt))

pub imcr-exact : IsExact imcr_line IsRightImcr imcr_in
unfolding imcr_in
imcr-exact = after-exact (two_halves imcr_end IsRightImcr modes_in imcr-reads imcr-sound) (codes "state imcr ")

-- whether a processor runs
page-exact : IsExact (λ n. concat (codes "started." ∷ hex 2 n ∷ [])) (λ n. n < 256) (field_in (codes "started.") 2)
page-exact = retold (field-exact (codes "started.") 2) (λ n. concat (codes "started." ∷ hex 2 n ∷ [])) (λ n v. concat-2 (codes "started.") (hex 2 n))

life-reads : (l : Life) → IsRightLife l → Reads life_text l life_in
unfolding life_in text_in
life-reads life.Asleep v = here _ (named-reads life_text (codes "asleep") life.Asleep refl)
life-reads life.Waiting v = next (named (codes "asleep") life.Asleep) (λ rest. refl) (here _ (named-reads life_text (codes "waiting") life.Waiting refl))
life-reads life.First v = next (named (codes "asleep") life.Asleep) (λ rest. refl) (next (named (codes "waiting") life.Waiting) (λ rest. refl) (here _ (named-reads life_text (codes "first") life.First refl)))
life-reads (life.Started p) v =
    next (named (codes "asleep") life.Asleep) (λ rest. refl) (next (named (codes "waiting") life.Waiting) (λ rest. refl) (next (named (codes "first") life.First) (λ rest. refl) (tagged-reads page-exact life_text life.Started p refl v)))

life-sound : IsSound life_text IsRightLife life_in
unfolding life_in
life-sound =
    either-sound life_text IsRightLife _ _ (named-sound life_text IsRightLife (codes "asleep") life.Asleep refl tt)
    (either-sound life_text IsRightLife _ _ (named-sound life_text IsRightLife (codes "waiting") life.Waiting refl tt)
    (either-sound life_text IsRightLife _ _ (named-sound life_text IsRightLife (codes "first") life.First refl tt) (tagged-sound page-exact life_text IsRightLife life.Started (λ a v. refl) (λ a v. v))))

life-exact : IsExact life_text IsRightLife life_in
life-exact = two_halves life_text IsRightLife life_in life-reads life-sound

-- numbers that ascend
weaker : (a b : ℕ) (xs : List ℕ) → a < b → AllByRecursion (λ y. b < y) xs → AllByRecursion (λ y. a < y) xs
weaker a b [] h v = tt
weaker a b (x ∷ xs) h v = let k : b < x = v.0 in (omega arith, weaker a b xs h v.1)

ascending_behind : (a : ℕ) (xs : List ℕ) → ascends_behind a xs ≡ true → AllByRecursion (λ y. a < y) xs × IsAscending xs
ascending_behind a [] h = (tt, tt)
ascending_behind a (x ∷ xs) h =
    let less : a < x = one a x (ascends_behind x xs) h in
    let more = ascending_behind x xs (others a x (ascends_behind x xs) h) in
    ((less, weaker a x xs less more.0), more)
  where
    one : (a x : ℕ) (b : Bool) → (nat_lt a x && b) ≡ true → a < x
    one a x b h = grind (arith, nat_tests)

    others : (a x : ℕ) (b : Bool) → (nat_lt a x && b) ≡ true → b ≡ true
    others a x b h = grind (arith, nat_tests)

ascending : (xs : List ℕ) → ascends xs ≡ true → IsAscending xs
ascending [] h = tt
ascending (x ∷ xs) h = ascending_behind x xs h

ascends_back : (a : ℕ) (xs : List ℕ) → AllByRecursion (λ y. a < y) xs → IsAscending xs → ascends_behind a xs ≡ true
ascends_back a [] above v = refl
ascends_back a (x ∷ xs) above v = ap (λ (b : Bool). b && ascends_behind x xs) (lt-ltb a x above.0) ∙ ascends_back x xs v.0 v.1

ascending_ascends : (xs : List ℕ) → IsAscending xs → ascends xs ≡ true
ascending_ascends [] v = refl
ascending_ascends (x ∷ xs) v = ascends_back x xs v.0 v.1

-- there are no more of them than numbers behind the first
few : (a : ℕ) (xs : List ℕ) → a < 256 → AllByRecursion (λ y. a < y) xs → IsAscending xs → AllByRecursion (λ y. y < 256) xs → length xs + a ≤ 255
few a [] low above v small = omega arith
few a (x ∷ xs) low above v small =
    let greater : a < x = above.0 in
    let below : x < 256 = small.0 in
    omega (arith, few x xs below v.0 v.1 small.1)

-- vectors, and then a text that no vector begins with
abbrev HasNoVector : List ℕ → Type 0
HasNoVector stop = (rest : List ℕ) → field_in (codes ",") 2 (stop ++ rest) ≡ None

abbrev vectors_end : List ℕ → List ℕ → List ℕ
vectors_end stop vs = vectors_text vs ++ stop

-- no digit is a dash
no_dash : (line : List ℕ) (x : ℕ × List ℕ) → hex_in 2 line ≡ Some x → text_in (codes "-") line ≡ None
unfolding hex_in digit_in
no_dash line x h = at (text_in (codes "-") line) refl
  where
    at : (o : Option (List ℕ)) → text_in (codes "-") line ≡ o → text_in (codes "-") line ≡ None
    at None e = e
    at (Some r) e =
        let dash : line ≡ 45 ∷ r = text_takes (codes "-") line r e in
        let none : hex_in 2 (45 ∷ r) ≡ None = refl in
        let both_ways : None ≡ Some x = sym none ∙ ap (hex_in 2) (sym dash) ∙ h in
        absurd (cc (both_ways))

dash-reads : Reads (λ (vs : List ℕ). codes "-") [] (named (codes "-") [])
dash-reads = named-reads (λ (vs : List ℕ). codes "-") (codes "-") [] refl

split : (a b c d : List ℕ) → ((a ++ b) ++ c) ++ d ≡ a ++ (b ++ (c ++ d))
split a b c d = simp append_assoc

module _ (stop : List ℕ) (free : HasNoVector stop) where
  abbrev pair_in : List ℕ → Option ((ℕ × List ℕ) × List ℕ)
  pair_in = both (hex_in 2) (items_in (field_in (codes ",") 2) 255 stop)

  abbrev some_in : List ℕ → Option (List ℕ × List ℕ)
  some_in = checked ascends (seen_as cons_of pair_in)

  pair-exact : IsExact (λ (v : ℕ × List ℕ). hex 2 v.0 ++ (flat_map further_vector v.1 ++ stop)) (λ v. (v.0 < 256) × ((length v.1 ≤ 255) × AreBytes v.1)) pair_in
  pair-exact = both-exact (hex-exact 2) (items-exact (field-exact (codes ",") 2) stop free 255)

  cons-sound : IsSound (vectors_end stop) AreBytes (seen_as cons_of pair_in)
  cons-sound = tagged-sound pair-exact (vectors_end stop) AreBytes cons_of (λ v _. append_assoc (hex 2 v.0) (flat_map further_vector v.1) stop) (λ v p. (p.0, p.1.1))

  some-sound : IsSound (vectors_end stop) AreRightVectors some_in
  some-sound line vs rest h = let p = checked-sound (vectors_end stop) AreBytes ascends (seen_as cons_of pair_in) cons-sound line vs rest h in ((ascending vs p.0.1, p.0.0), p.1)

  some-reads : (v : ℕ) (vs : List ℕ) → AreRightVectors (v ∷ vs) → Reads (vectors_end stop) (v ∷ vs) some_in
  some-reads v vs r =
      let below : v < 256 = r.1.0 in
      let count : length vs ≤ 255 = omega (arith, few v vs below r.0.0 r.0.1 r.1.1) in
      checked-reads (vectors_end stop) (v ∷ vs) ascends (seen_as cons_of pair_in) (ascending_ascends (v ∷ vs) r.0)
      (tagged-reads pair-exact (vectors_end stop) cons_of (v, vs) (append_assoc (hex 2 v) (flat_map further_vector vs) stop) (r.1.0, (count, r.1.1)))

  none-exact : IsExact (vectors_end stop) (λ vs. vs ≡ []) (no_vectors_in stop)
  unfolding no_vectors_in
  none-exact =
      retold (before-exact (two_halves (λ (vs : List ℕ). codes "-") (λ vs. vs ≡ []) (named (codes "-") [])
      (λ vs e. record { reads = λ rest. (dash-reads.reads rest) ∙ ap (λ (x : List ℕ). Some (x, rest)) (sym e) })
      (named-sound (λ (vs : List ℕ). codes "-") (λ vs. vs ≡ []) (codes "-") [] refl refl)) stop)
      (vectors_end stop) (λ vs e. ap (λ (x : List ℕ). vectors_text x ++ stop) e)

  some_first : (v : ℕ) (vs rest : List ℕ) → v < 256 → no_vectors_in stop (vectors_end stop (v ∷ vs) ++ rest) ≡ None
  unfolding no_vectors_in
  some_first v vs rest below =
      let tail : List ℕ = flat_map further_vector vs ++ (stop ++ rest) in
      let read : hex_in 2 (((hex 2 v ++ flat_map further_vector vs) ++ stop) ++ rest) ≡ Some (v, tail) = ap (hex_in 2) (split (hex 2 v) (flat_map further_vector vs) stop rest) ∙ (hex-exact 2).again v tail below in
      before_refuses (named (codes "-") []) stop (((hex 2 v ++ flat_map further_vector vs) ++ stop) ++ rest)
      (named_refuses (codes "-") [] (((hex 2 v ++ flat_map further_vector vs) ++ stop) ++ rest) (no_dash (((hex 2 v ++ flat_map further_vector vs) ++ stop) ++ rest) (v, tail) read))

  vectors-reads : (vs : List ℕ) → AreRightVectors vs → Reads (vectors_end stop) vs (vectors_in stop)
  unfolding vectors_in
  vectors-reads [] r = let p : Reads (vectors_end stop) [] (no_vectors_in stop) = record { reads = λ rest. none-exact.again [] rest refl } in here some_in p
  vectors-reads (v ∷ vs) r = next (no_vectors_in stop) (λ rest. some_first v vs rest r.1.0) (some-reads v vs r)

  vectors-sound : IsSound (vectors_end stop) AreRightVectors (vectors_in stop)
  unfolding vectors_in
  vectors-sound =
      either-sound (vectors_end stop) AreRightVectors _ _
      (λ line vs rest h. (let p = none-exact.takes line vs rest h in (subst AreRightVectors (sym p.0) (tt, tt), p.1)))
      some-sound

  vectors-exact : IsExact (vectors_end stop) AreRightVectors (vectors_in stop)
  vectors-exact = two_halves (vectors_end stop) AreRightVectors (vectors_in stop) vectors-reads vectors-sound

-- the text that follows a list begins no vector
free_isr : HasNoVector (codes " isr ")
unfolding field_in text_in
free_isr rest = refl

free_tmr : HasNoVector (codes " tmr ")
unfolding field_in text_in
free_tmr rest = refl

free_end : HasNoVector (10 ∷ [])
unfolding field_in text_in
free_end rest = refl

registers-exact : IsExact (λ (v : List ℕ × (List ℕ × List ℕ)). codes " irr " ++ (vectors_end (codes " isr ") v.0 ++ (vectors_end (codes " tmr ") v.1.0 ++ vectors_end (10 ∷ []) v.1.1))) (λ v. AreRightVectors v.0 × (AreRightVectors v.1.0 × AreRightVectors v.1.1)) registers_in
unfolding registers_in
registers-exact = after-exact (both-exact (vectors-exact (codes " isr ") free_isr) (both-exact (vectors-exact (codes " tmr ") free_tmr) (vectors-exact (10 ∷ []) free_end))) (codes " irr ")

head-exact : IsExact (λ (v : ℕ × (Life × ℕ)). (codes "state cpu " ++ hex 2 v.0) ++ ((codes " " ++ life_text v.1.0) ++ (codes " tpr " ++ hex 2 v.1.1))) (λ v. (v.0 < 256) × (IsRightLife v.1.0 × (v.1.1 < 256))) cpu_head_in
unfolding cpu_head_in
head-exact = both-exact (field-exact (codes "state cpu ") 2) (both-exact (after-exact life-exact (codes " ")) (field-exact (codes " tpr ") 2))

regroup_cpu : (a id gap life b tpr irr r isr s tmr t end : List ℕ) → a ++ (id ++ (gap ++ (life ++ (b ++ (tpr ++ ((irr ++ (r ++ (isr ++ (s ++ (tmr ++ (t ++ [])))))) ++ end))))))
    ≡ ((a ++ id) ++ ((gap ++ life) ++ (b ++ tpr))) ++ (irr ++ ((r ++ isr) ++ ((s ++ tmr) ++ (t ++ end))))
regroup_cpu a id gap life b tpr irr r isr s tmr t end = simp (append_assoc, append-nil)

pub cpu-exact : IsExact cpu_text IsRightCpu cpu_in
unfolding cpu_in
cpu-exact =
    value-exact
    (retold
    (seen_as-exact (both-exact head-exact registers-exact)
    (λ v. record { id = v.0.0; life = v.0.1.0; tpr = v.0.1.1; irr = v.1.0; isr = v.1.1.0; tmr = v.1.1.1 })
    (λ (p : CpuLine). ((p.id, (p.life, p.tpr)), (p.irr, (p.isr, p.tmr)))) (λ _. refl) (λ _. refl))
    cpu_text
    (λ p _. regroup_cpu (codes "state cpu ") (hex 2 p.id) (codes " ") (life_text p.life) (codes " tpr ") (hex 2 p.tpr) (codes " irr ") (vectors_text p.irr) (codes " isr ") (vectors_text p.isr) (codes " tmr ") (vectors_text p.tmr) (10 ∷ [])))
    IsRightCpu
    (λ p v. record { id = v.0.0; life = v.0.1.0; tpr = v.0.1.1; irr = v.1.0; isr = v.1.1.0; tmr = v.1.1.1 })
    (λ p v. ((v.id, (v.life, v.tpr)), (v.irr, (v.isr, v.tmr))))

regroup_io : (word a b l c d e r end : List ℕ) → word ++ (a ++ (b ++ (l ++ (c ++ (d ++ (e ++ (r ++ end))))))) ≡ word ++ ((a ++ b) ++ (l ++ ((c ++ d) ++ ((e ++ r) ++ end))))
regroup_io word a b l c d e r end = simp append_assoc

pub io-exact : (a : ℕ) → IsExact (io_text a) IsRightIo (io_in a)
unfolding io_in
io-exact a =
    value-exact
    (retold
    (after-exact (after-exact
    (seen_as-exact (both-exact (field-exact [] 6) (both-exact (field-exact (codes " due ") 6) (ended-exact (field-exact (codes " remote ") 6))))
    (λ v. record { line = v.0; due = v.1.0; remote = v.1.1 })
    (λ (x : IoLine). (x.line, (x.due, x.remote))) (λ _. refl) (λ _. refl))
    (decimal a ++ codes " line ")) (codes "state io "))
    (io_text a)
    (λ x _. regroup_io (codes "state io ") (decimal a) (codes " line ") (hex 6 x.line) (codes " due ") (hex 6 x.due) (codes " remote ") (hex 6 x.remote) (10 ∷ [])))
    IsRightIo (λ x v. (v.0, v.1.0, v.1.1)) (λ x v. (v.0, (v.1, v.2)))
