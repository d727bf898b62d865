use Rattle.std.proofs.Common.{◌==◌, ℕ, ◌<◌, ◌≤◌, count_by, nat_lt, sym, arith}
use Rattle.std.proofs.lemmas.Bool.{lt-ltb, le-ltb}
use Rattle.mpb_setup.proofs.ListLemmas.{first_id, no_id, none-more}
use Rattle.mpb_setup.proofs.faults.least_double.Goals as goal

pub returns-then-count_of-gt1 : goal.returns-then-count_of-gt1
returns-then-count_of-gt1 c =
    let more : 1 < count_by (λ x. x == c.loop-id.id) c.args.ids.now = omega (arith, c.count_of.ensures, c.if-count_of-gt1.true) in
    sym (first_id (λ k. nat_lt 1 (count_by (λ x. x == k) c.args.ids.now)) c.loop-id.id c.loop-id-test.true c.loop-id.invariant (lt-ltb 1 (count_by (λ x. x == c.loop-id.id) c.args.ids.now) more))

pub returns : goal.returns
returns c = sym (no_id (λ k. nat_lt 1 (count_by (λ x. x == k) c.args.ids.now)) (λ k l. c.loop-id.invariant k (omega (arith, l, c.loop-id-test.false))))

pub loop-id-preserved : goal.loop-id-preserved
loop-id-preserved c =
    let n = c.loop-id.id in
    let f = λ (k : ℕ). nat_lt 1 (count_by (λ x. x == k) c.args.ids.now) in
    let few : count_by (λ x. x == n) c.args.ids.now ≤ 1 = omega (arith, c.count_of.ensures, c.if-count_of-gt1.false) in
    none-more f n c.loop-id.invariant (le-ltb 1 (count_by (λ x. x == n) c.args.ids.now) few)
