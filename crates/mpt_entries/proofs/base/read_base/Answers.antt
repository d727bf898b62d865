use Rattle.std.proofs.Common.{◌≡◌, arith}
use Rattle.mpt_spec.proofs.EntryLemmas.{AreBaseEntries-unique, AreBaseEntries-push, IsBaseFaultIn-after, IsBaseFaultIn-no_entries, IsBaseFaultIn-unique}
use Rattle.mpt_entries.proofs.base.read_base.Goals as goal

pub loop-at-preserved : goal.loop-at-preserved
loop-at-preserved c =
    rw (c.in-Ok-push.ensures.items, c.length_of-at.ensures)
    (AreBaseEntries-push _ _ _ _ _ c.loop-at.invariant.0 c.in-Ok.ensures.entry, c.in-Ok.ensures.whole)

pub returns-in-Err : goal.returns-in-Err
returns-in-Err c =
    let first = IsBaseFaultIn-after _ _ _ _ _ _ _ c.loop-at.invariant.0 c.in-Err.ensures.fault in
    record {
      entries = tt;
      fault = first;
      only_entries = λ es h. IsBaseFaultIn-no_entries _ _ _ _ _ _ first h;
      only_fault = λ k why h. IsBaseFaultIn-unique _ _ _ _ _ _ _ first h;
    }

pub returns : goal.returns
returns c =
    let all : c.loop-at.at ≡ c.args.to = omega arith in
    let are = rw all at c.loop-at.invariant.0 in
    record {
      entries = are;
      fault = tt;
      only_entries = λ es h. AreBaseEntries-unique _ _ _ _ _ are h;
      only_fault = λ k why h. IsBaseFaultIn-no_entries _ _ _ _ _ _ h are;
    }
