use Rattle.std.proofs.Common.{◌≡◌, ◌<◌, ◌^◌, ◌≤◌, ◌*◌, ◌%◌, ℕ, List, length, take, set, get_or, bit_or, ap, ◌∙◌, arith, length-set}
use Rattle.std.specs.Int.{bit_at}
use Rattle.std.proofs.lemmas.List.{length-take-le}
use Rattle.std.proofs.lemmas.List.Elements.{All-set}
use Rattle.mpb_spec.specs.PlainLatch.{PlainState}
use Rattle.mpb_spec.proofs.PinWords.{with_pin_lt, words_pulsed, pins_pulsed}
use Rattle.mpb_latch.proofs.plain.PlainLatch.pulse.Goals as goal

abbrev state : List ℕ → ℕ → ℕ → PlainState
state pins devices ended = record { pins = pins; devices = devices; ended = ended }

pub invariant_of-self : goal.invariant_of-self
invariant_of-self c =
    let inv = c.self.invariant in
    let here : c.args.p.io < length c.self.inside.words = (let r = c.requires.io in let n = ap (λ s. length s.pins) c.self.view_is in let t = length-take-le c.self.inside.ios c.self.inside.words (let a = inv.0 in let b = inv.1 in omega arith) in let a = inv.0 in let b = inv.1 in omega arith) in (
      length-set c.self.inside.words c.args.p.io _ ∙ inv.0,
      inv.1,
      inv.2,
      All-set (λ (w : ℕ). w < 2 ^ 24) c.self.inside.words c.args.p.io _ (with_pin_lt (get_or c.self.inside.words c.args.p.io 0) c.args.p.pin (inv.3 c.args.p.io 0 here) c.requires.pin) inv.3,
    )

same_pins : (words pins : List ℕ) (ios io pin : ℕ) → take ios words ≡ pins → ios ≤ length words → io < length pins → pin < 24 → take ios (set words io (bit_or (get_or words io 0) (1 * 2 ^ pin % 2 ^ 32))) ≡ set pins io (bit_or (get_or pins io 0) (2 ^ pin))
same_pins words pins ios io pin shown fits here small =
    let n = length-take-le ios words fits in
    let m = ap (λ l. length l) shown in
    words_pulsed words ios io pin (omega arith) small ∙ ap (λ (l : List ℕ). set l io (bit_or (get_or l io 0) (2 ^ pin))) shown

pub returns-clause-state : goal.returns-clause-state
returns-clause-state c =
    let shown = c.self.view_is in
    let e = same_pins c.self.inside.words c.args.self.now.pins c.self.inside.ios c.args.p.io c.args.p.pin (ap (λ s. s.pins) shown) (let a = c.self.invariant.0 in let b = c.self.invariant.1 in omega arith) c.requires.io c.requires.pin in
    ap (λ (t : List ℕ × ℕ × ℕ). state t.0 t.1 t.2) (λ i. (e i, (shown i).devices, (shown i).ended))

pub returns-clause-pins : goal.returns-clause-pins
returns-clause-pins c io pin =
    let e = same_pins c.self.inside.words c.args.self.now.pins c.self.inside.ios c.args.p.io c.args.p.pin (ap (λ s. s.pins) c.self.view_is) (let a = c.self.invariant.0 in let b = c.self.invariant.1 in omega arith) c.requires.io c.requires.pin in
    ap (λ (l : List ℕ). bit_at (get_or l io 0) pin) e ∙ pins_pulsed c.args.self.now.pins c.args.p io pin c.requires.io
