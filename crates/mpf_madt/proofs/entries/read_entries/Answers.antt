use Rattle.mpf_madt.proofs.EntryLemmas.{AreMadtEntries-push, IsEntryFaultIn-after}
use Rattle.mpf_madt.proofs.entries.read_entries.Goals as goal

pub returns-in-Err-clause-fault : goal.returns-in-Err-clause-fault
returns-in-Err-clause-fault c = IsEntryFaultIn-after _ _ _ _ _ _ _ c.loop-at.invariant.0 c.in-Err.ensures.fault

pub loop-at-preserved : goal.loop-at-preserved
loop-at-preserved c =
    rw (c.in-Ok-push.ensures.items, ← c.in-Ok-entry_at.ensures.whole)
    (AreMadtEntries-push _ _ _ _ _ c.loop-at.invariant.0 c.in-Ok-entry_at.ensures.entry, rw c.in-Ok-entry_at.ensures.whole c.in-Ok.ensures.whole)
