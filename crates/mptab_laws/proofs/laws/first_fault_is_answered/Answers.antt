use Rattle.std.proofs.Common.{◌≡◌, ℕ, List, Some, refl, inl, inr, arith}
use Rattle.mpt_base.specs.Outside.{Files}
use Rattle.mpt_base.specs.declared.fault.Reason.{Reason}
use Rattle.mpt_spec.specs.Faults.{IsFirstFault}
use Rattle.mpt_spec.proofs.FaultLemmas.{IsFirstFault-inside}
use Rattle.mptab_walk.specs.Commands.{fault_line}
use Rattle.mptab_walk.specs.Forms.{Form, Image, IsForm, IsStill, IsRead, files_of}
use Rattle.mptab_walk.specs.Walk.{IsAnswer, Reaches}
use Rattle.mptab_laws.proofs.Rows.{IsRead-bytes}
use Rattle.mptab_laws.proofs.laws.first_fault_is_answered.Goals as goal

answered : (listed : Form → Type 0) (files : Files) (words : List (List ℕ)) (form : Form) (name : List ℕ) (at : ℕ) (why : Reason) → listed form → IsForm form words → Reaches (Some files) (files_of form) (Image name)
    → IsRead (Some files) (Image name) (λ image. IsFirstFault image at why) → IsAnswer listed (Some files) words 7 (fault_line at why)
answered listed files words form name at why l is reaches read =
    let r = IsRead-bytes files (Image name) (λ image. IsFirstFault image at why) read in
    let inside = IsFirstFault-inside r.0 at why r.3 in
    let within = r.2 in
    inr (form, l, is, inl (Image name, reaches, inr (inr (inr (refl, at, why, omega (arith, inside, within), read, refl)))))

pub returns-clause-any : goal.returns-clause-any
returns-clause-any c = λ files words form name at why is reaches read. answered (λ form. Unit {0}) files words form name at why tt is reaches read

pub returns-clause-still : goal.returns-clause-still
returns-clause-still c = λ files words form name at why l is reaches read. answered IsStill files words form name at why l is reaches read
