use Rattle.std.proofs.Common.{◌≡◌, arith}
use Rattle.mpt_spec.proofs.EntryLemmas.{AreExtEntries-unique, AreExtEntries-push, IsExtFaultIn-after, IsExtFaultIn-no_entries, IsExtFaultIn-unique}
use Rattle.mpt_entries.proofs.extended.read_ext.Goals as goal

pub loop-at-preserved : goal.loop-at-preserved
loop-at-preserved c =
    rw (c.in-Ok-push.ensures.items, ← c.in-Ok-entry_at.ensures.whole)
    (AreExtEntries-push _ _ _ _ _ c.loop-at.invariant.0 c.in-Ok-entry_at.ensures.entry, rw c.in-Ok-entry_at.ensures.whole c.in-Ok.ensures.whole)

pub returns-in-Err : goal.returns-in-Err
returns-in-Err c =
    let first = IsExtFaultIn-after _ _ _ _ _ _ _ c.loop-at.invariant.0 c.in-Err.ensures.fault in
    record {
      entries = tt;
      fault = first;
      only_entries = λ es h. IsExtFaultIn-no_entries _ _ _ _ _ _ first h;
      only_fault = λ k why h. IsExtFaultIn-unique _ _ _ _ _ _ _ first h;
    }

pub returns : goal.returns
returns c =
    let all : c.loop-at.at ≡ c.args.to = omega arith in
    let are = rw all at c.loop-at.invariant.0 in
    record {
      entries = are;
      fault = tt;
      only_entries = λ es h. AreExtEntries-unique _ _ _ _ _ are h;
      only_fault = λ k why h. IsExtFaultIn-no_entries _ _ _ _ _ _ h are;
    }
