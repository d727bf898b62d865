use Rattle.std.proofs.Common.{◌+◌, List, length, arith, Vec, Global}
use Rattle.mpb_spec.specs.declared.config.DevWord.{DevWord}
use Rattle.mpb_board.proofs.RoomLemmas.{sum_by-mapped}
use Rattle.mpb_board.proofs.bound.room.Goals as goal

pub room_of-requires-clause-few : goal.room_of-requires-clause-few
room_of-requires-clause-few c = rw c.as_slice-2.ensures.value c.config.invariant.few_ios

pub room_of-requires-clause-ops : goal.room_of-requires-clause-ops
room_of-requires-clause-ops c =
    let h = rw (← c.config.view_is) at c.requires.small in
    rw c.as_slice.ensures.value (omega (arith, h))

pub room_of-requires-clause-words : goal.room_of-requires-clause-words
room_of-requires-clause-words c =
    let h = rw (← c.config.view_is) at c.requires.small in
    rw c.as_slice-3.ensures.value (omega (arith, h, sum_by-mapped (λ (words : List DevWord). length words + 2) (λ (words : Vec DevWord Global). words.items) c.config.inside.devices.items))
