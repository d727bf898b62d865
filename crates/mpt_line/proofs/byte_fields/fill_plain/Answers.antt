use Rattle.std.proofs.Common.{◌≡◌, ◌+◌, ◌-◌, ◌<◌, take, set, length, [], ◌∷◌, ◌++◌, ap, ◌∙◌, arith, add-one, length-set}
use Rattle.std.specs.Prelude.{Some}
use Rattle.std.proofs.Math.Seq.{take-suc-set}
use Rattle.std.proofs.lemmas.List.{take_all}
use Rattle.mpt_line.specs.Reading.{many_in, quoted_byte_in}
use Rattle.mpt_line.proofs.ManyLemmas.{many_more, many_stop, many_none, many_all}
use Rattle.mpt_line.proofs.byte_fields.fill_plain.Goals as goal

pub loop-i-init : goal.loop-i-init
loop-i-init c =
    let n = length c.args.bytes.now in
    let e : n - 0 ≡ n = omega arith in
    rw e (many_none quoted_byte_in n c.args.line.now)

pub loop-i-preserved : goal.loop-i-preserved
loop-i-preserved c =
    let xs = c.loop-i.bytes in
    let i = c.loop-i.i in
    let v = c.in-Some.value in
    let inside : i < length xs = omega (arith, c.loop-i.auto.bytes, c.loop-i-test.true) in
    let taken : take (i + 1) (set xs i v) ≡ take i xs ++ v ∷ [] = rw add-one (take-suc-set xs i v inside) in
    rw (taken, length-set)
    (many_more quoted_byte_in (length xs - i) (length xs - (i + 1)) (take i xs) v c.loop-i.rest.now c.in-Some.after.now (many_in quoted_byte_in (length c.args.bytes.now) c.args.line.now) (omega arith) c.loop-i.invariant c.in-Some.ensures)

pub returns-in_default : goal.returns-in_default
returns-in_default c =
    let xs = c.loop-i.bytes in
    let i = c.loop-i.i in
    many_stop quoted_byte_in (length xs - i) (length xs - (i + 1)) (take i xs) c.loop-i.rest.now (many_in quoted_byte_in (length c.args.bytes.now) c.args.line.now) (omega (arith, c.loop-i.auto.bytes, c.loop-i-test.true)) c.loop-i.invariant c.in_default.ensures

pub returns : goal.returns
returns c =
    let xs = c.loop-i.bytes in
    let i = c.loop-i.i in
    many_all quoted_byte_in (length xs - i) (take i xs) c.loop-i.rest.now (many_in quoted_byte_in (length c.args.bytes.now) c.args.line.now) (omega (arith, c.loop-i.auto.bytes, c.loop-i-test.false)) c.loop-i.invariant
    ∙ ap (λ bytes. Some (bytes, c.loop-i.rest.now)) (take_all i xs (omega (arith, c.loop-i.auto.bytes, c.loop-i-test.false)))
