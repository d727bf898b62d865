use Rattle.std.proofs.Common.{ap, ℕ, ◌/◌, ◌%◌, ◌==◌, ◌∙◌, ◌≡◌, ◌*◌, map, filter, arith}
use Rattle.std.proofs.lemmas.Bool.{eq-eqb, ne_eqb}
use Rattle.mpb_spec.specs.declared.config.DevWord.TheVariants.{Pulse}
use Rattle.std.specs.List.{range_with_len}
use Rattle.mpb_drill.proofs.ListLemmas.{passes, is_left}
use Rattle.mpb_drill.proofs.script.pulses_of.Goals as goal
use Rattle.mpb_drill.proofs.script.pulses_of.Goals.{then-k-devices+in-Ok, else-k-devices}

pub loop-k-preserved : goal.loop-k-preserved
loop-k-preserved c =
    let f = λ (k : ℕ). k % c.args.devices == c.args.j in
    let g = λ (k : ℕ). Pulse (k / 24) (k % 24) in
    elim c.if-k-devices.branch [
      | then-k-devices+in-Ok w ↦ passes f g c.loop-k.k c.loop-k.words.items c.if-k-devices.words.items (eq-eqb (c.loop-k.k % c.args.devices) c.args.j w.if-k-devices.true) c.loop-k.invariant (ap (λ v. v.items) w.words-is ∙ w.in-Ok.ensures.items)
      | else-k-devices w ↦ is_left f g c.loop-k.k c.loop-k.words.items c.if-k-devices.words.items (ne_eqb (c.loop-k.k % c.args.devices) c.args.j w.if-k-devices.false) c.loop-k.invariant (ap (λ v. v.items) w.words-is)
    ]

pub returns : goal.returns
returns c =
    let all : c.loop-k.k ≡ 24 * c.args.ioapics = omega arith in
    c.loop-k.invariant ∙ ap (λ n. map (λ k. Pulse (k / 24) (k % 24)) (filter (λ k. k % c.args.devices == c.args.j) (range_with_len 0 n))) all
