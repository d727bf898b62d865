use Rattle.std.proofs.Common.{arith, ◌≡◌, ◌+◌, ◌++◌, ℕ, suc, List, set, get_or, take, drop, ap, ◌∙◌, bit_and, ◌/◌, ◌^◌}
use Rattle.std.specs.Int.{bit_at}
use Rattle.std.proofs.lemmas.Nat.Bits.{shr_and_one}
use Rattle.mpb_spec.specs.Pulses.{with_pins_from}
use Rattle.mpb_spec.proofs.Logs.{add_step}
use Rattle.mpb_latch.proofs.account.add_pins.Goals as goal

pub loop-pin-preserved : goal.loop-pin-preserved
loop-pin-preserved c =
    let n = c.args.pins in
    let k = c.loop-pin.pin in
    let cs = c.args.counts.now in
    let mid : List ℕ = with_pins_from n 0 (take k cs) ++ drop k cs in
    let i = c.loop-pin.invariant in
    let bit : bit_at n k ≡ bit_at n (0 + k) = (let e : k ≡ 0 + k = omega arith in ap (bit_at n) e) in
    ap (λ (l : List ℕ). set l k (get_or l k 0 + bit_and (n / 2 ^ k) 1)) i
    ∙ ap (λ (b : ℕ). set mid k (get_or mid k 0 + b)) (shr_and_one n k ∙ bit)
    ∙ add_step n 0 k cs (let r = c.requires.wide in let t = c.loop-pin-test.true in omega arith)
    ∙ (let e : suc k ≡ k + 1 = omega arith in ap (λ (j : ℕ). with_pins_from n 0 (take j cs) ++ drop j cs) e)
