use Rattle.std.proofs.Common.{◌≡◌, ◌+◌, ◌-◌, ℕ, length, subst, arith}
use Rattle.mpt_base.specs.Bytes.{part}
use Rattle.mpt_spec.specs.Pointer.{IsFloatingPointer}
use Rattle.mpt_spec.specs.Search.{IsFirst, HasPointerAt, places_in}
use Rattle.mpt_table.proofs.ShelfLemmas.{asks_none}
use Rattle.mpt_table.proofs.search_from.first_in.Goals as goal

pub unreachable-requires : goal.unreachable-requires
unreachable-requires c = c.in_default-pointer_at.ensures.none c.in-Some.ensures.some.holds.0 c.in-Some.ensures.some.holds.1

pub pointer_at-requires : goal.pointer_at-requires
pointer_at-requires c = omega (arith, c.in-Some.ensures.inside)

pub returns : goal.returns
returns c =
    let bytes = c.args.bytes.now in
    let place = c.in-Some.place in
    let own = c.in-Some.ensures in
    let back : place ≡ c.args.from + place - c.args.from = omega arith in
    record {
      some = (
        asks_none _ _,
        subst (λ (x : ℕ). IsFirst (HasPointerAt bytes) (places_in (record { from = 0; to = length bytes })) x) back own.some,
        subst (λ (x : ℕ). IsFloatingPointer c.in-Some-pointer_at.pointer (part bytes x 16)) back c.in-Some-pointer_at.ensures.some,
      );
      none = tt;
      paragraph = λ h. omega (arith, own.paragraph, h);
      inside = omega (arith, own.inside);
    }
