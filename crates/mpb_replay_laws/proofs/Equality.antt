-- Two ops, and two lists of outcomes, are the same or aren't.
use Rattle.std.proofs.Common.{rules, ◌≡◌, ◌≢◌, ◌⊎◌, inl, inr, Bool, true, false, List, refl, sym, subst, ap, ap₂, ℕ, eqb, ◌&&◌}
use Rattle.std.specs.Bool.{Decides}
use Rattle.std.proofs.lemmas.Bool.{and_parts, and_from, eqb-true, eq-eqb, false≢true}
use Rattle.std.proofs.lemmas.Slice.Eq.{slice_eq-Decides}
use Rattle.std.specs.Cmp.Lexicographic.{pointwise}
use Rattle.mpb_spec.specs.declared.agent.Op.{Op}
use Rattle.mpb_spec.specs.declared.agent.Op.TheVariants as op
use Rattle.mpb_spec.specs.declared.entry.Outcome.{Outcome}
use Rattle.mpb_spec.specs.declared.entry.What.{What}
use Rattle.mpb_spec.specs.declared.entry.What.TheVariants as what
use Rattle.mpb_spec.specs.contracts.agent.OpPartialEq.TheImpl as ops
use Rattle.mpb_spec.specs.contracts.entry.WhatPartialEq.TheImpl as whats
use Rattle.mpb_spec.specs.contracts.entry.OutcomePartialEq.TheImpl as outcomes

either : (b : Bool) (P : Type 0) → Decides b P → P ⊎ (P → ⊥)
either true P d = inl (d.0 refl)
either false P d = inr (λ p. (let t = d.1 p in cc))

both-same : {X : Type 0} (f : ℕ → ℕ → X) (n m k l : ℕ) → (eqb n k && eqb m l) ≡ true → f n m ≡ f k l
both-same f n m k l e = let both = and_parts (eqb n k) (eqb m l) e in ap₂ f (eqb-true n k both.0) (eqb-true m l both.1)

op-same : (a b : Op) → ops.ghosts.eq a b ≡ true → a ≡ b
op-same op.Imcr = elim [ op.Imcr ↦ λ e. refl | _ ↦ λ e. absurd (false≢true e) ]
op-same (op.Warm n) = elim [ op.Warm m ↦ λ e. ap op.Warm (eqb-true n m e) | _ ↦ λ e. absurd (false≢true e) ]
op-same (op.Init n) = elim [ op.Init m ↦ λ e. ap op.Init (eqb-true n m e) | _ ↦ λ e. absurd (false≢true e) ]
op-same (op.Startup n m) = elim [ op.Startup k l ↦ λ e. both-same op.Startup n m k l e | _ ↦ λ e. absurd (false≢true e) ]
op-same (op.Check n) = elim [ op.Check m ↦ λ e. ap op.Check (eqb-true n m e) | _ ↦ λ e. absurd (false≢true e) ]
op-same (op.Ipi n m) = elim [ op.Ipi k l ↦ λ e. both-same op.Ipi n m k l e | _ ↦ λ e. absurd (false≢true e) ]
op-same (op.Ipl n m) = elim [ op.Ipl k l ↦ λ e. both-same op.Ipl n m k l e | _ ↦ λ e. absurd (false≢true e) ]
op-same (op.Nmi n) = elim [ op.Nmi m ↦ λ e. ap op.Nmi (eqb-true n m e) | _ ↦ λ e. absurd (false≢true e) ]
op-same op.Take = elim [ op.Take ↦ λ e. refl | _ ↦ λ e. absurd (false≢true e) ]
op-same op.Poll = elim [ op.Poll ↦ λ e. refl | _ ↦ λ e. absurd (false≢true e) ]
op-same op.Eoi = elim [ op.Eoi ↦ λ e. refl | _ ↦ λ e. absurd (false≢true e) ]
op-same (op.Tpr n) = elim [ op.Tpr m ↦ λ e. ap op.Tpr (eqb-true n m e) | _ ↦ λ e. absurd (false≢true e) ]
op-same (op.Ldr n) = elim [ op.Ldr m ↦ λ e. ap op.Ldr (eqb-true n m e) | _ ↦ λ e. absurd (false≢true e) ]
op-same (op.Dfr n) = elim [ op.Dfr m ↦ λ e. ap op.Dfr (eqb-true n m e) | _ ↦ λ e. absurd (false≢true e) ]
op-same (op.IoSel n m) = elim [ op.IoSel k l ↦ λ e. both-same op.IoSel n m k l e | _ ↦ λ e. absurd (false≢true e) ]
op-same (op.IoWin n m) = elim [ op.IoWin k l ↦ λ e. both-same op.IoWin n m k l e | _ ↦ λ e. absurd (false≢true e) ]
op-same (op.IoRead n) = elim [ op.IoRead m ↦ λ e. ap op.IoRead (eqb-true n m e) | _ ↦ λ e. absurd (false≢true e) ]
op-same (op.Pause n) = elim [ op.Pause m ↦ λ e. ap op.Pause (eqb-true n m e) | _ ↦ λ e. absurd (false≢true e) ]
op-same op.Begin = elim [ op.Begin ↦ λ e. refl | _ ↦ λ e. absurd (false≢true e) ]
op-same (op.High n m) = elim [ op.High k l ↦ λ e. both-same op.High n m k l e | _ ↦ λ e. absurd (false≢true e) ]
op-same (op.Low n m) = elim [ op.Low k l ↦ λ e. both-same op.Low n m k l e | _ ↦ λ e. absurd (false≢true e) ]
op-same op.End = elim [ op.End ↦ λ e. refl | _ ↦ λ e. absurd (false≢true e) ]
op-same (op.Collect n) = elim [ op.Collect m ↦ λ e. ap op.Collect (eqb-true n m e) | _ ↦ λ e. absurd (false≢true e) ]
op-same (op.Send n) = elim [ op.Send m ↦ λ e. ap op.Send (eqb-true n m e) | _ ↦ λ e. absurd (false≢true e) ]
op-same op.Sweep = elim [ op.Sweep ↦ λ e. refl | _ ↦ λ e. absurd (false≢true e) ]

op-itself : (a : Op) → ops.ghosts.eq a a ≡ true
op-itself op.Imcr = refl
op-itself (op.Warm n) = eq-eqb n n refl
op-itself (op.Init n) = eq-eqb n n refl
op-itself (op.Startup n m) = and_from (eqb n n) (eqb m m) (eq-eqb n n refl) (eq-eqb m m refl)
op-itself (op.Check n) = eq-eqb n n refl
op-itself (op.Ipi n m) = and_from (eqb n n) (eqb m m) (eq-eqb n n refl) (eq-eqb m m refl)
op-itself (op.Ipl n m) = and_from (eqb n n) (eqb m m) (eq-eqb n n refl) (eq-eqb m m refl)
op-itself (op.Nmi n) = eq-eqb n n refl
op-itself op.Take = refl
op-itself op.Poll = refl
op-itself op.Eoi = refl
op-itself (op.Tpr n) = eq-eqb n n refl
op-itself (op.Ldr n) = eq-eqb n n refl
op-itself (op.Dfr n) = eq-eqb n n refl
op-itself (op.IoSel n m) = and_from (eqb n n) (eqb m m) (eq-eqb n n refl) (eq-eqb m m refl)
op-itself (op.IoWin n m) = and_from (eqb n n) (eqb m m) (eq-eqb n n refl) (eq-eqb m m refl)
op-itself (op.IoRead n) = eq-eqb n n refl
op-itself (op.Pause n) = eq-eqb n n refl
op-itself op.Begin = refl
op-itself (op.High n m) = and_from (eqb n n) (eqb m m) (eq-eqb n n refl) (eq-eqb m m refl)
op-itself (op.Low n m) = and_from (eqb n n) (eqb m m) (eq-eqb n n refl) (eq-eqb m m refl)
op-itself op.End = refl
op-itself (op.Collect n) = eq-eqb n n refl
op-itself (op.Send n) = eq-eqb n n refl
op-itself op.Sweep = refl

op-decides : (a b : Op) → Decides (ops.ghosts.eq a b) (a ≡ b)
op-decides a b = (op-same a b, λ p. subst (λ (x : Op). ops.ghosts.eq a x ≡ true) p (op-itself a))

what-same : (a b : What) → whats.ghosts.eq a b ≡ true → a ≡ b
what-same what.Done = elim [ what.Done ↦ λ e. refl | _ ↦ λ e. absurd (false≢true e) ]
what-same what.Set = elim [ what.Set ↦ λ e. refl | _ ↦ λ e. absurd (false≢true e) ]
what-same what.Merged = elim [ what.Merged ↦ λ e. refl | _ ↦ λ e. absurd (false≢true e) ]
what-same what.Illegal = elim [ what.Illegal ↦ λ e. refl | _ ↦ λ e. absurd (false≢true e) ]
what-same what.Asleep = elim [ what.Asleep ↦ λ e. refl | _ ↦ λ e. absurd (false≢true e) ]
what-same what.Absent = elim [ what.Absent ↦ λ e. refl | _ ↦ λ e. absurd (false≢true e) ]
what-same what.Waiting = elim [ what.Waiting ↦ λ e. refl | _ ↦ λ e. absurd (false≢true e) ]
what-same (what.Started n) = elim [ what.Started m ↦ λ e. ap what.Started (eqb-true n m e) | _ ↦ λ e. absurd (false≢true e) ]
what-same what.Ignored = elim [ what.Ignored ↦ λ e. refl | _ ↦ λ e. absurd (false≢true e) ]
what-same what.Nmi = elim [ what.Nmi ↦ λ e. refl | _ ↦ λ e. absurd (false≢true e) ]
what-same what.Passed = elim [ what.Passed ↦ λ e. refl | _ ↦ λ e. absurd (false≢true e) ]
what-same what.Unheard = elim [ what.Unheard ↦ λ e. refl | _ ↦ λ e. absurd (false≢true e) ]
what-same (what.Runs n) = elim [ what.Runs m ↦ λ e. ap what.Runs (eqb-true n m e) | _ ↦ λ e. absurd (false≢true e) ]
what-same what.RunsFirst = elim [ what.RunsFirst ↦ λ e. refl | _ ↦ λ e. absurd (false≢true e) ]
what-same (what.Taken n) = elim [ what.Taken m ↦ λ e. ap what.Taken (eqb-true n m e) | _ ↦ λ e. absurd (false≢true e) ]
what-same what.Nothing = elim [ what.Nothing ↦ λ e. refl | _ ↦ λ e. absurd (false≢true e) ]
what-same (what.Ended n t) = elim [ what.Ended k u ↦ λ e. search rules | _ ↦ λ e. absurd (false≢true e) ]
what-same what.Plain = elim [ what.Plain ↦ λ e. refl | _ ↦ λ e. absurd (false≢true e) ]
what-same what.Due = elim [ what.Due ↦ λ e. refl | _ ↦ λ e. absurd (false≢true e) ]
what-same what.Withdrawn = elim [ what.Withdrawn ↦ λ e. refl | _ ↦ λ e. absurd (false≢true e) ]
what-same (what.Read n) = elim [ what.Read m ↦ λ e. ap what.Read (eqb-true n m e) | _ ↦ λ e. absurd (false≢true e) ]
what-same (what.Pins n m) = elim [ what.Pins k l ↦ λ e. both-same what.Pins n m k l e | _ ↦ λ e. absurd (false≢true e) ]

what-itself : (a : What) → whats.ghosts.eq a a ≡ true
what-itself what.Done = refl
what-itself what.Set = refl
what-itself what.Merged = refl
what-itself what.Illegal = refl
what-itself what.Asleep = refl
what-itself what.Absent = refl
what-itself what.Waiting = refl
what-itself (what.Started n) = eq-eqb n n refl
what-itself what.Ignored = refl
what-itself what.Nmi = refl
what-itself what.Passed = refl
what-itself what.Unheard = refl
what-itself (what.Runs n) = eq-eqb n n refl
what-itself what.RunsFirst = refl
what-itself (what.Taken n) = eq-eqb n n refl
what-itself what.Nothing = refl
what-itself (what.Ended n t) = search rules
what-itself what.Plain = refl
what-itself what.Due = refl
what-itself what.Withdrawn = refl
what-itself (what.Read n) = eq-eqb n n refl
what-itself (what.Pins n m) = and_from (eqb n n) (eqb m m) (eq-eqb n n refl) (eq-eqb m m refl)

what-decides : (a b : What) → Decides (whats.ghosts.eq a b) (a ≡ b)
what-decides a b = (what-same a b, λ p. subst (λ (x : What). whats.ghosts.eq a x ≡ true) p (what-itself a))

outcome-decides : (a b : Outcome) → Decides (outcomes.ghosts.eq a b) (a ≡ b)
outcome-decides a b = (
  λ e. (let both = and_parts (eqb a.at b.at) (whats.ghosts.eq a.what b.what) e in let at : a.at ≡ b.at = eqb-true a.at b.at both.0 in let is : a.what ≡ b.what = (what-decides a.what b.what).0 both.1 in ap₂ (λ (n : ℕ) (w : What). record { at = n; what = w }) at is),
  λ p. and_from (eqb a.at b.at) (whats.ghosts.eq a.what b.what) (eq-eqb a.at b.at (ap (λ (o : Outcome). o.at) p)) ((what-decides a.what b.what).1 (ap (λ (o : Outcome). o.what) p)),
)

-- what `==` says of two ops
pub op_decides : (a b : Op) (r : Bool) → r ≡ ops.ghosts.eq a b → Decides r (a ≡ b)
op_decides a b r e = subst (λ (x : Bool). Decides x (a ≡ b)) (sym e) (op-decides a b)

pub same_op : (a b : Op) → (a ≡ b) ⊎ (a ≢ b)
same_op a b = either (ops.ghosts.eq a b) (a ≡ b) (op-decides a b)

-- what `==` says of two slices of outcomes
pub outcomes_decide : (xs ys : List Outcome) (r : Bool) → r ≡ pointwise outcomes.ghosts.eq xs ys → Decides r (xs ≡ ys)
outcomes_decide xs ys r e = slice_eq-Decides outcome-decides xs ys r e

pub same_outcomes : (xs ys : List Outcome) → (xs ≡ ys) ⊎ (xs ≢ ys)
same_outcomes xs ys = either (pointwise outcomes.ghosts.eq xs ys) (xs ≡ ys) (outcomes_decide xs ys (pointwise outcomes.ghosts.eq xs ys) refl)
