use Rattle.std.proofs.Common.{refl}
use Rattle.mptab_walk.proofs.limited.bytes_of_size.Goals as goal

pub returns-in-Ok : goal.returns-in-Ok
returns-in-Ok g c =
    let facts = c.in-Ok.ensures in
    record { files_stay = facts.files_stay; quiet = (facts.unfailed (λ e. cc), facts.misses_stay); size = facts.all; held = facts.told; ends = tt; asks = facts.asks }

pub returns-in-Err-Unread : goal.returns-in-Err-Unread
returns-in-Err-Unread g c =
    let facts = rw c.in-Err-Unread.field-0-is at c.in-Err-Unread.ensures in
    record { files_stay = facts.files_stay; quiet = tt; size = tt; held = tt; ends = (facts.unread refl, facts.misses_stay); asks = facts.asks }

pub returns-in-Err-NoMemory : goal.returns-in-Err-NoMemory
returns-in-Err-NoMemory g c =
    let facts = rw c.in-Err-NoMemory.field-0-is at c.in-Err-NoMemory.ensures in
    record { files_stay = facts.files_stay; quiet = tt; size = tt; held = tt; ends = (facts.unfailed (λ e. cc), facts.misses_stay); asks = facts.asks }
