-- The images that are made of tables, and the tables of firmware that are made of a platform, or why there is none.
use Rattle.std.proofs.Common.{◌≡◌, ℕ, ◌≤◌, ◌<◌, List, length, ◌⊎◌, Result, Ok, Err, IfOk, refl, ap, subst, ◌∙◌, inl, inr}
use Rattle.std.specs.Prelude.{nat_lt, Bool, true, false, IsTrue, ◌↔◌}
use Rattle.std.proofs.lemmas.Bool.{ltb-true, ltb-false}
use Rattle.mpt_base.specs.Bytes.{IsByteList}
use Rattle.mpt_base.specs.declared.outside.NoMemory.{NoMemory}
use Rattle.mpt_spec.specs.declared.tables.Tables.{Tables}
use Rattle.mpt_spec.specs.Canonical.{FitsInImage, block_size}
use Rattle.mpt_spec.specs.Image.{image_of}
use Rattle.mpt_route.specs.declared.platform.Platform.{Platform}
use Rattle.mpt_route.specs.declared.route.Answer.{Answer as ARoute}
use Rattle.mpf_madt.specs.declared.madt.Madt.{Madt}
use Rattle.mpf_madt.specs.Table.{IsMadt}
use Rattle.mpf_madt.specs.Translation.{madt_of}
use Rattle.mpf_pir.specs.declared.making.MakeFault.{MakeFault}
use Rattle.mpf_pir.specs.declared.making.MakeFault.TheVariants as make
use Rattle.mpf_pir.specs.declared.table.Pir.{Pir}
use Rattle.mpf_pir.specs.Layout.{IsPir}
use Rattle.mpf_pir.specs.Made.{pir_of, IsMakeFault}
use Rattle.mpf_pir.specs.Answers.{IfMakeFault}
use Rattle.mpf_answers.specs.FaultLines.{make_fault_line}
use Rattle.mptab_walk.specs.declared.answer.Answer.{Answer}
use Rattle.mptab_walk.specs.Commands.{IsBuilt, unfit_line}
use Rattle.mptab_walk.specs.Made.{IsMadtOf, IsPirOf}

-- where tables fit, an image is made of them
pub fits-given : (Q : ℕ → List ℕ → Type 0) (r : Result Answer NoMemory) (fits : Bool) (tables made form : Tables) → (IsTrue fits ↔ FitsInImage tables) → fits ≡ true → made ≡ form → IfOk r (λ a. IsBuilt made a.status a.text.items)
    → IfOk r (λ a. ((a.status ≡ 0) × FitsInImage tables × (a.text.items ≡ image_of form)) ⊎ Q a.status a.text.items)
fits-given Q (Ok a) fits tables made form is true-is same h = inl (h.0, is.0 true-is, h.1 ∙ ap image_of same)
fits-given Q (Err e) fits tables made form is true-is same h = tt

-- where they don't, there is none
pub unfit-given : (Q : ℕ → List ℕ → Type 0) (r : Result Answer NoMemory) (fits : Bool) (tables : Tables) (size : ℕ) → (IsTrue fits ↔ FitsInImage tables) → fits ≡ false → size ≡ block_size tables.body → IfOk r (λ a. (a.status ≡ 8) × (a.text.items ≡ unfit_line size))
    → IfOk r (λ a. Q a.status a.text.items ⊎ ((a.status ≡ 8) × (¬ FitsInImage tables) × (a.text.items ≡ unfit_line (block_size tables.body))))
unfit-given Q (Ok a) fits tables size is false-is same h = inr (h.0, (λ fit. let true-is : fits ≡ true = is.1 fit in cc), h.1 ∙ ap unfit_line same)
unfit-given Q (Err e) fits tables size is false-is same h = tt

-- the MADT is written
pub madt-written : (r : Result Answer NoMemory) (p : Platform) (answers : List ARoute) (m : Madt) → length p.processors ≤ 255 → m ≡ madt_of p answers → IfOk r (λ a. (a.status ≡ 0) × IsByteList a.text.items × IsMadt m a.text.items)
    → IfOk r (λ a. IsMadtOf p answers a.status a.text.items)
madt-written (Ok a) p answers m few is h = inl (h.0, few, h.1, subst (λ (m : Madt). IsMadt m a.text.items) is h.2)
madt-written (Err e) p answers m few is h = tt

-- the PCI IRQ routing table is written
pub pir-written : (r : Result Answer NoMemory) (p : Platform) (t : Pir) → t ≡ pir_of p → ((f : MakeFault) → ¬ IsMakeFault p f) → IfOk r (λ a. (a.status ≡ 0) × IsByteList a.text.items × IsPir t a.text.items)
    → IfOk r (λ a. IsPirOf p a.status a.text.items)
pir-written (Ok a) p t is sound h = inl (h.0, sound, h.1, subst (λ (t : Pir). IsPir t a.text.items) is h.2)
pir-written (Err e) p t is sound h = tt

-- there is none
pub pir-unmade : (r : Result Answer NoMemory) (p : Platform) (f : MakeFault) → IfMakeFault {T = Pir} (Err f) (IsMakeFault p) → IfOk r (λ a. (a.status ≡ 15) × (a.text.items ≡ make_fault_line f) × (f ≡ make.NoMemory → ⊥))
    → IfOk r (λ a. IsPirOf p a.status a.text.items)
pir-unmade (Ok a) p make.NoMemory cause h = absurd (h.2 refl)
pir-unmade (Ok a) p (make.ManySlots n) cause h = inr (h.0, make.ManySlots n, cause, h.1)
pir-unmade (Ok a) p (make.ManyLinks n) cause h = inr (h.0, make.ManyLinks n, cause, h.1)
pir-unmade (Err e) p f cause h = tt

-- what fails past 255 and didn't is within it
pub within_255 : {A B : Type 0} (n : ℕ) (r : Result A B) (x : A) (e : B) → (255 < n → r ≡ Err e) → r ≡ Ok x → n ≤ 255
within_255 n r x e many ok = by_test (nat_lt 255 n) refl
  where
    by_test : (t : Bool) → nat_lt 255 n ≡ t → n ≤ 255
    by_test true large = let fails : r ≡ Err e = many (ltb-true 255 n large) in absurd cc
    by_test false small = ltb-false 255 n small
