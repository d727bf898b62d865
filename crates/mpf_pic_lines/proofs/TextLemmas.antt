-- The lines of calls, one after another: one more, and that a text is those of one list of calls alone.
use Rattle.std.proofs.Common.{◌≡◌, ◌≢◌, ℕ, zero, suc, ◌+◌, ◌<◌, ◌≤◌, inl, inr, List, [], ◌∷◌, ◌++◌, length, sym, refl, ap, ap₂, ◌∙◌, arith, append_assoc, length-append}
use Rattle.std.specs.Prelude.{Option, Some, None, Result, Ok, Err, IfOk, IfErr, MatchResult}
use Rattle.std.specs.List.{AllByRecursion, flat_map}
use Rattle.mpt_line.specs.Lines.{BeginsWithNone}
use Rattle.mpt_line.proofs.Exact.{some_is, reads_none}
use Rattle.mpf_pic_lines.specs.declared.op.PicOp.{PicOp}
use Rattle.mpf_pic_lines.specs.declared.op.PicOp.TheVariants.{Put, Get, Imcr, Up, Down, Ack}
use Rattle.mpf_pic_lines.specs.declared.op.PicFault.{PicFault}
use Rattle.mpf_pic_lines.specs.declared.op.PicFault.TheVariants as fault
use Rattle.mpf_pic_lines.specs.Lines.{op_line, IsPlayable, IsRightOp, IsTextOf, IsFirstBadLine, IsJudged, HasOneReading, IsCauseOf, IsNoMemory, IsThisLine}
use Rattle.mpf_pic_lines.specs.Forms.{op_in}
use Rattle.mpf_pic_lines.proofs.OpForms.{op-exact}

-- a line has a first byte
op_some : (op : PicOp) (more : List ℕ) → [] ≢ op_line op ++ more
op_some (Put p v) more e = cc
op_some (Imcr p v) more e = cc
op_some (Get p) more e = cc
op_some (Up n) more e = cc
op_some (Down n) more e = cc
op_some Ack more e = cc

op_long : (op : PicOp) → 0 < length (op_line op)
op_long (Put p v) = omega arith
op_long (Imcr p v) = omega arith
op_long (Get p) = omega arith
op_long (Up n) = omega arith
op_long (Down n) = omega arith
op_long Ack = omega arith

pub shorter : (op : PicOp) (rest after : List ℕ) → rest ≡ op_line op ++ after → length after < length rest
shorter op rest after e =
    let long = op_long op in
    let sum : length rest ≡ length (op_line op) + length after = ap length e ∙ length-append (op_line op) after in
    omega arith

-- one more call
flat_map-more : (ops : List PicOp) (op : PicOp) (after : List ℕ) → flat_map op_line (ops ++ op ∷ []) ++ after ≡ flat_map op_line ops ++ (op_line op ++ after)
flat_map-more [] op after = append_assoc (op_line op) [] after
flat_map-more (o ∷ os) op after =
    append_assoc (op_line o) (flat_map op_line (os ++ op ∷ [])) after
    ∙ ap (λ (l : List ℕ). op_line o ++ l) (flat_map-more os op after)
    ∙ sym (append_assoc (op_line o) (flat_map op_line os) (op_line op ++ after))

pub more_text : (ops : List PicOp) (op : PicOp) (text rest after : List ℕ) → text ≡ flat_map op_line ops ++ rest → rest ≡ op_line op ++ after → text ≡ flat_map op_line (ops ++ op ∷ []) ++ after
more_text ops op text rest after e f = e ∙ ap (λ (l : List ℕ). flat_map op_line ops ++ l) f ∙ sym (flat_map-more ops op after)

pub more_right : (ops : List PicOp) (op : PicOp) → AllByRecursion IsRightOp ops → IsRightOp op → AllByRecursion IsRightOp (ops ++ op ∷ [])
more_right [] op all right = (right, tt)
more_right (o ∷ os) op all right = (all.0, more_right os op all.1 right)

-- two lists of calls, each with a rest that begins with no line, are one
pub same_ops : (xs ys : List PicOp) (r s : List ℕ) → AllByRecursion IsRightOp xs → AllByRecursion IsRightOp ys → flat_map op_line xs ++ r ≡ flat_map op_line ys ++ s
    → BeginsWithNone op_line IsRightOp r → BeginsWithNone op_line IsRightOp s → (xs ≡ ys) × (r ≡ s)
same_ops [] [] r s right_x right_y e none_r none_s = (refl, e)
same_ops [] (y ∷ ys) r s right_x right_y e none_r none_s = absurd (none_r y (flat_map op_line ys ++ s) right_y.0 (e ∙ append_assoc (op_line y) (flat_map op_line ys) s))
same_ops (x ∷ xs) [] r s right_x right_y e none_r none_s = absurd (none_s x (flat_map op_line xs ++ r) right_x.0 (sym e ∙ append_assoc (op_line x) (flat_map op_line xs) r))
same_ops (x ∷ xs) (y ∷ ys) r s right_x right_y e none_r none_s =
    let one : List ℕ = flat_map op_line xs ++ r in
    let two : List ℕ = flat_map op_line ys ++ s in
    let texts : op_line x ++ one ≡ op_line y ++ two = sym (append_assoc (op_line x) (flat_map op_line xs) r) ∙ e ∙ append_assoc (op_line y) (flat_map op_line ys) s in
    let read : Some (x, one) ≡ Some (y, two) = sym (op-exact.again x one right_x.0) ∙ ap op_in texts ∙ op-exact.again y two right_y.0 in
    let both_is : (x, one) ≡ (y, two) = some_is (x, one) (y, two) read in
    let heads : x ≡ y = ap (λ p. p.0) both_is in
    let k = same_ops xs ys r s right_x.1 right_y.1 (ap (λ p. p.1) both_is) none_r none_s in
    (ap₂ ◌∷◌ heads k.0, k.1)

none_of_nothing : BeginsWithNone op_line IsRightOp []
none_of_nothing op more right e = op_some op more e

no_rest : (ops : List PicOp) (text : List ℕ) → text ≡ flat_map op_line ops → text ≡ flat_map op_line ops ++ []
no_rest ops text e = e ∙ sym (Rattle.std.proofs.lemmas.List.append-nil (flat_map op_line ops))

-- a text has one list of calls, or one first bad line
pub one_text : (xs ys : List PicOp) (text : List ℕ) → IsTextOf xs text → IsTextOf ys text → xs ≡ ys
one_text xs ys text x y = (same_ops xs ys [] [] x.0 y.0 (sym (no_rest xs text x.1) ∙ no_rest ys text y.1) none_of_nothing none_of_nothing).0

pub one_line : (text : List ℕ) (m n : ℕ) → IsFirstBadLine text m → IsFirstBadLine text n → m ≡ n
one_line text m n x y =
    let k = same_ops x.before y.before x.rest y.rest x.right y.right (sym x.whole ∙ y.whole) x.bad y.bad in
    x.number ∙ ap (λ (ops : List PicOp). length ops + 1) k.0 ∙ sym y.number

pub not_both : (xs : List PicOp) (text : List ℕ) (n : ℕ) → IsTextOf xs text → IsFirstBadLine text n → ⊥
not_both xs text n x y = y.some (sym (same_ops xs y.before [] y.rest x.0 y.right (sym (no_rest xs text x.1) ∙ y.whole) none_of_nothing y.bad).1)

pub every_reading : (text : List ℕ) → HasOneReading text
every_reading text = record {
  ops = λ xs ys x y. one_text xs ys text x y;
  line = λ m n x y. one_line text m n x y;
  never_both = λ xs n x y. not_both xs text n x y;
}

-- a text is that of some calls or has a first bad line: so has one with a call before it
behind : (op : PicOp) (text rest : List ℕ) → IsRightOp op → text ≡ op_line op ++ rest → IsJudged rest → IsJudged text
behind op text rest right e (inl x) = inl (op ∷ x.0, ((right, x.1.0), e ∙ ap (λ (l : List ℕ). op_line op ++ l) x.1.1))
behind op text rest right e (inr x) = inr (
  x.0 + 1,
  record {
    before = op ∷ x.1.before;
    rest = x.1.rest;
    right = (right, x.1.right);
    whole = e ∙ ap (λ (l : List ℕ). op_line op ++ l) x.1.whole ∙ sym (append_assoc (op_line op) (flat_map op_line x.1.before) x.1.rest);
    some = x.1.some;
    bad = x.1.bad;
    number = (let n = x.1.number in omega arith);
  },
)

-- a text that begins with the line of none
at_once : (c : ℕ) (cs : List ℕ) → op_in (c ∷ cs) ≡ None → IsFirstBadLine (c ∷ cs) 1
at_once c cs e = record {
  before = [];
  rest = c ∷ cs;
  right = tt;
  whole = refl;
  some = λ k. absurd (cc (k));
  bad = reads_none op-exact (c ∷ cs) e;
  number = refl;
}

judge_step : (c : ℕ) (cs : List ℕ) → ((rest : List ℕ) → length rest < length (c ∷ cs) → IsJudged rest) → IsJudged (c ∷ cs)
judge_step c cs more = by (op_in (c ∷ cs)) refl where
  by : (o : Option (PicOp × List ℕ)) → op_in (c ∷ cs) ≡ o → IsJudged (c ∷ cs)
  by None e = inr (1, at_once c cs e)
  by (Some x) e =
      let p = op-exact.takes (c ∷ cs) x.0 x.1 e in
      behind x.0 (c ∷ cs) x.1 p.0 p.1 (more x.1 (shorter x.0 (c ∷ cs) x.1 p.1))

judge : (n : ℕ) (text : List ℕ) → length text ≤ n → IsJudged text
judge n [] h = inl ([], (tt, refl))
judge zero (c ∷ cs) h = absurd (omega (arith, h))
judge (suc n) (c ∷ cs) h = judge_step c cs (λ rest lt. judge n rest (omega (arith, h, lt)))

pub every_text : (text : List ℕ) → IsJudged text
every_text text = judge (length text) text (omega arith)

-- what the answer is, unless memory ran out
pub only_these : {V : Type 0} (items : V → List PicOp) (text : List ℕ) (answer : Result V PicFault) → IfOk answer (λ v. IsTextOf (items v) text) → IfErr answer (IsCauseOf text)
    → (ops : List PicOp) → IsTextOf ops text → MatchResult answer (λ v. items v ≡ ops) IsNoMemory
only_these {V} items text (Ok v) right cause ops x = one_text (items v) ops text right x
only_these {V} items text (Err fault.NoMemory) right cause ops x = tt
only_these {V} items text (Err (fault.Line n)) right cause ops x = not_both ops text n x cause

pub only_this : {V : Type 0} (items : V → List PicOp) (text : List ℕ) (answer : Result V PicFault) → IfOk answer (λ v. IsTextOf (items v) text) → IfErr answer (IsCauseOf text)
    → (n : ℕ) → IsFirstBadLine text n → MatchResult answer (λ _. ⊥) (IsThisLine n)
only_this {V} items text (Ok v) right cause n x = not_both (items v) text n right x
only_this {V} items text (Err fault.NoMemory) right cause n x = tt
only_this {V} items text (Err (fault.Line m)) right cause n x = one_line text m n cause x

-- each call of a text can be played
all_playable : (ops : List PicOp) → AllByRecursion IsRightOp ops → AllByRecursion IsPlayable ops
all_playable [] all = tt
all_playable (op ∷ ops) all = (all.0.0, all_playable ops all.1)

pub playable : {V : Type 0} (items : V → List PicOp) (text : List ℕ) (answer : Result V PicFault) → IfOk answer (λ v. IsTextOf (items v) text) → IfOk answer (λ v. AllByRecursion IsPlayable (items v))
playable {V} items text (Ok v) right = all_playable (items v) right.0
playable {V} items text (Err e) right = tt
