-- The test of a plan says whether it is one of a board.
use Rattle.std.proofs.Common.{◌≡◌, ◌==◌, ◌<◌, ◌≤◌, ℕ, Bool, true, false, not, ◌&&◌, List, [], ◌∷◌, length, take, drop, map, nat_lt, refl, subst, arith}
use Rattle.std.specs.List.{list_all, AllByRecursion}
use Rattle.std.proofs.lemmas.Bool.{and_parts, ltb-true, lt-ltb, leb-true, le-leb, eqb-true, eqb-false, eq-eqb, ne_eqb}
use Rattle.mpb_spec.specs.declared.agent.Op.{Op}
use Rattle.mpb_spec.specs.declared.agent.Op.TheVariants as op
use Rattle.mpb_spec.specs.declared.config.DevWord.{DevWord}
use Rattle.mpb_spec.specs.declared.config.DevWord.TheVariants.{Pulse, High, Low}
use Rattle.mpb_spec.specs.Numbers.{IsAscending}
use Rattle.mpb_spec.specs.Plan.{Plan, CpuPlan}
use Rattle.mpb_spec.specs.Configs.{IsConfig, IsCpuPlan, IsWordOn, IsOpOn, IsAimed, IsAtPage, IsOther, is_boot_op, is_script_op, boot_ops}
use Rattle.mpb_config.specs.ConfigTests.{IsConfigAt, is_word_on, is_op_on, is_other, is_aimed, is_at_page, is_cpu_plan, is_ascending, is_config}

both : (a b : Bool) → a ≡ true → b ≡ true → (a && b) ≡ true
both a b x y = rw (x, y) refl

-- a test of each member
all-true : {X : Type 0} (f : X → Bool) (P : X → Type 0) (xs : List X) → ((x : X) → f x ≡ true → P x) → list_all f xs ≡ true → AllByRecursion P xs
all-true f P [] h e = tt
all-true f P (x ∷ xs) h e = let parts = and_parts (f x) (list_all f xs) e in (h x parts.0, all-true f P xs h parts.1)

true-all : {X : Type 0} (f : X → Bool) (P : X → Type 0) (xs : List X) → ((x : X) → P x → f x ≡ true) → AllByRecursion P xs → list_all f xs ≡ true
true-all f P [] h a = refl
true-all f P (x ∷ xs) h a = both (f x) (list_all f xs) (h x a.0) (true-all f P xs h a.1)

-- a word
word-true : (n : ℕ) (w : DevWord) → is_word_on n w ≡ true → IsWordOn n w
word-true n (Pulse a pin) e = let parts = and_parts (nat_lt a n) (nat_lt pin 24) e in (ltb-true a n parts.0, ltb-true pin 24 parts.1)
word-true n (High a pin) e = let parts = and_parts (nat_lt a n) (nat_lt pin 24) e in (ltb-true a n parts.0, ltb-true pin 24 parts.1)
word-true n (Low a pin) e = let parts = and_parts (nat_lt a n) (nat_lt pin 24) e in (ltb-true a n parts.0, ltb-true pin 24 parts.1)

true-word : (n : ℕ) (w : DevWord) → IsWordOn n w → is_word_on n w ≡ true
true-word n (Pulse a pin) w = both (nat_lt a n) (nat_lt pin 24) (lt-ltb a n w.0) (lt-ltb pin 24 w.1)
true-word n (High a pin) w = both (nat_lt a n) (nat_lt pin 24) (lt-ltb a n w.0) (lt-ltb pin 24 w.1)
true-word n (Low a pin) w = both (nat_lt a n) (nat_lt pin 24) (lt-ltb a n w.0) (lt-ltb pin 24 w.1)

-- an op's place
on-true : (n : ℕ) (o : Op) → is_op_on n o ≡ true → IsOpOn n o
on-true n (op.IoSel a r) e = ltb-true a n e
on-true n (op.IoWin a v) e = ltb-true a n e
on-true n (op.IoRead a) e = ltb-true a n e
on-true n o e = tt

true-on : (n : ℕ) (o : Op) → IsOpOn n o → is_op_on n o ≡ true
true-on n (op.IoSel a r) h = lt-ltb a n h
true-on n (op.IoWin a v) h = lt-ltb a n h
true-on n (op.IoRead a) h = lt-ltb a n h
true-on n o h = refl

-- its target
not-true : (b : Bool) → not b ≡ true → b ≡ false
not-true true e = cc
not-true false e = refl

other-true : (boot d : ℕ) → is_other boot d ≡ true → IsOther boot d
other-true boot d e =
    let parts = and_parts (not (d == 255)) (not (d == boot)) e in
    (eqb-false d 255 (not-true (d == 255) parts.0), eqb-false d boot (not-true (d == boot) parts.1))

true-other : (boot d : ℕ) → IsOther boot d → is_other boot d ≡ true
true-other boot d h = rw (ne_eqb d 255 h.0, ne_eqb d boot h.1) refl

aimed-true : (boot : ℕ) (o : Op) → is_aimed boot o ≡ true → IsAimed boot o
aimed-true boot (op.Init d) e = other-true boot d e
aimed-true boot (op.Startup d page) e = other-true boot d e
aimed-true boot (op.Check d) e = other-true boot d e
aimed-true boot o e = tt

true-aimed : (boot : ℕ) (o : Op) → IsAimed boot o → is_aimed boot o ≡ true
true-aimed boot (op.Init d) h = true-other boot d h
true-aimed boot (op.Startup d page) h = true-other boot d h
true-aimed boot (op.Check d) h = true-other boot d h
true-aimed boot o h = refl

-- its page
page-true : (page : ℕ) (o : Op) → is_at_page page o ≡ true → IsAtPage page o
page-true page (op.Warm p) e = eqb-true p page e
page-true page (op.Startup d p) e = eqb-true p page e
page-true page o e = tt

true-page : (page : ℕ) (o : Op) → IsAtPage page o → is_at_page page o ≡ true
true-page page (op.Warm p) h = eq-eqb p page h
true-page page (op.Startup d p) h = eq-eqb p page h
true-page page o h = refl

-- a processor
cpu-true : (boot boot_len ios page : ℕ) (p : CpuPlan) → is_cpu_plan boot boot_len ios page p ≡ true → IsCpuPlan boot boot_len ios page p
cpu-true boot boot_len ios page p e =
    let k = boot_ops boot boot_len p in
    let t1 = and_parts _ _ e in
    let t2 = and_parts _ _ t1.1 in
    let t3 = and_parts _ _ t2.1 in
    let t4 = and_parts _ _ t3.1 in
    let t5 = and_parts _ _ t4.1 in
    let t6 = and_parts _ _ t5.1 in
    record {
      id = ltb-true p.id 255 t1.0;
      long = leb-true k (length p.program) t2.0;
      starts = all-true is_boot_op (λ o. is_boot_op o ≡ true) (take k p.program) (λ o h. h) t3.0;
      goes_on = all-true is_script_op (λ o. is_script_op o ≡ true) (drop k p.program) (λ o h. h) t4.0;
      places = all-true (is_op_on ios) (IsOpOn ios) p.program (on-true ios) t5.0;
      targets = all-true (is_aimed boot) (IsAimed boot) p.program (aimed-true boot) t6.0;
      page = all-true (is_at_page page) (IsAtPage page) p.program (page-true page) t6.1;
    }

true-cpu : (boot boot_len ios page : ℕ) (p : CpuPlan) → IsCpuPlan boot boot_len ios page p → is_cpu_plan boot boot_len ios page p ≡ true
true-cpu boot boot_len ios page p h =
    let k = boot_ops boot boot_len p in
    both _ _ (lt-ltb p.id 255 h.id)
    (both _ _ (le-leb k (length p.program) h.long)
    (both _ _ (true-all is_boot_op (λ o. is_boot_op o ≡ true) (take k p.program) (λ o x. x) h.starts)
    (both _ _ (true-all is_script_op (λ o. is_script_op o ≡ true) (drop k p.program) (λ o x. x) h.goes_on)
    (both _ _ (true-all (is_op_on ios) (IsOpOn ios) p.program (true-on ios) h.places)
    (both _ _ (true-all (is_aimed boot) (IsAimed boot) p.program (true-aimed boot) h.targets)
    (true-all (is_at_page page) (IsAtPage page) p.program (true-page page) h.page))))))

-- ids
ascending-true : (xs : List ℕ) → is_ascending xs ≡ true → IsAscending xs
ascending-true [] e = tt
ascending-true (x ∷ xs) e =
    let parts = and_parts (list_all (λ y. nat_lt x y) xs) (is_ascending xs) e in
    (all-true (λ y. nat_lt x y) (λ y. x < y) xs (λ y h. ltb-true x y h) parts.0, ascending-true xs parts.1)

true-ascending : (xs : List ℕ) → IsAscending xs → is_ascending xs ≡ true
true-ascending [] h = refl
true-ascending (x ∷ xs) h = both (list_all (λ y. nat_lt x y) xs) (is_ascending xs) (true-all (λ y. nat_lt x y) (λ y. x < y) xs (λ y l. lt-ltb x y l) h.0) (true-ascending xs h.1)

positive : (n : ℕ) → nat_lt 0 n ≡ true → 1 ≤ n
positive n e = omega (arith, ltb-true 0 n e)

-- the whole
pub config_true : (page : ℕ) (c : Plan) → is_config page c ≡ true → IsConfig c
config_true page c e =
    let t1 = and_parts _ _ e in
    let t2 = and_parts _ _ t1.1 in
    let t3 = and_parts _ _ t2.1 in
    let t4 = and_parts _ _ t3.1 in
    let t5 = and_parts _ _ t4.1 in
    let t6 = and_parts _ _ t5.1 in
    let t7 = and_parts _ _ t6.1 in
    let t8 = and_parts _ _ t7.1 in
    record {
      some = positive (length c.cpus) t1.0;
      few = leb-true (length c.cpus) 8 t2.0;
      ascending = ascending-true (map (λ p. p.id) c.cpus) t3.0;
      boot = t4.0;
      low = ltb-true c.boot 15 t5.0;
      few_ios = leb-true (length c.ios) 4 t6.0;
      few_devices = leb-true (length c.devices) 4 t7.0;
      page = page;
      cpus = all-true (is_cpu_plan c.boot c.boot_len (length c.ios) page) (IsCpuPlan c.boot c.boot_len (length c.ios) page) c.cpus (cpu-true c.boot c.boot_len (length c.ios) page) t8.0;
      words = all-true (λ words. list_all (is_word_on (length c.ios)) words) (AllByRecursion (IsWordOn (length c.ios))) c.devices (λ words h. all-true (is_word_on (length c.ios)) (IsWordOn (length c.ios)) words (word-true (length c.ios)) h) t8.1;
    }

-- its page is the one that was asked
pub config_at : (page : ℕ) (c : Plan) → is_config page c ≡ true → IsConfigAt page c
unfolding config_true
config_at page c e = (config_true page c e, refl)

pub true_config : (page : ℕ) (c : Plan) → IsConfigAt page c → is_config page c ≡ true
true_config page c at =
    let h : IsConfig c = at.0 in
    let cpus = subst (λ (n : ℕ). AllByRecursion (IsCpuPlan c.boot c.boot_len (length c.ios) n) c.cpus) at.1 h.cpus in
    both _ _ (lt-ltb 0 (length c.cpus) (omega (arith, h.some)))
    (both _ _ (le-leb (length c.cpus) 8 h.few)
    (both _ _ (true-ascending (map (λ p. p.id) c.cpus) h.ascending)
    (both _ _ h.boot
    (both _ _ (lt-ltb c.boot 15 h.low)
    (both _ _ (le-leb (length c.ios) 4 h.few_ios)
    (both _ _ (le-leb (length c.devices) 4 h.few_devices)
    (both _ _ (true-all (is_cpu_plan c.boot c.boot_len (length c.ios) page) (IsCpuPlan c.boot c.boot_len (length c.ios) page) c.cpus (true-cpu c.boot c.boot_len (length c.ios) page) cpus)
    (true-all (λ words. list_all (is_word_on (length c.ios)) words) (AllByRecursion (IsWordOn (length c.ios))) c.devices (λ words w. true-all (is_word_on (length c.ios)) (IsWordOn (length c.ios)) words (true-word (length c.ios)) w) h.words))))))))
