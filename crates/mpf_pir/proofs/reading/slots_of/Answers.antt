use Rattle.std.proofs.Common.{◌≡◌, ◌+◌, ◌-◌, ◌%◌, ◌≤◌, ◌<◌, ℕ, length, subst, sym, arith}
use Rattle.mpf_pir.specs.Layout.{AreSlots}
use Rattle.mpf_pir.proofs.LayoutLemmas.{AreSlots-push}
use Rattle.mpf_pir.proofs.reading.slots_of.Goals as goal

-- what is left is a multiple of a slot, so that one slot fits
fits : (at long : ℕ) → at < long → (long - at) % 16 ≡ 0 → at + 16 ≤ long
fits at long l m = omega arith

rest : (at long : ℕ) → at + 16 ≤ long → (long - at) % 16 ≡ 0 → (long - (at + 16)) % 16 ≡ 0
rest at long l m = omega arith

pub slot_at-requires : goal.slot_at-requires
slot_at-requires c = record { inside = fits c.loop-at.at (length c.args.bytes.now) c.loop-at-test.true c.loop-at.invariant.whole }

pub loop-at-preserved : goal.loop-at-preserved
loop-at-preserved c =
    let room : c.loop-at.at + 16 ≤ length c.args.bytes.now = fits c.loop-at.at (length c.args.bytes.now) c.loop-at-test.true c.loop-at.invariant.whole in
    record {
      slots = subst (λ ss. AreSlots ss c.args.bytes.now 32 (c.loop-at.at + 16)) (sym c.in-Ok.ensures.items) (AreSlots-push c.loop-at.slots.items c.slot_at.result c.args.bytes.now 32 c.loop-at.at c.loop-at.invariant.slots c.slot_at.ensures);
      inside = room;
      whole = rest c.loop-at.at (length c.args.bytes.now) room c.loop-at.invariant.whole;
    }
