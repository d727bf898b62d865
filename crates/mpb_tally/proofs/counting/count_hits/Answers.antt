use Rattle.std.proofs.Common.{◌≡◌, length, Vec, Global, ap, ◌∙◌, arith}
use Rattle.mpb_spec.specs.declared.pulse.Pulse.{Pulse}
use Rattle.mpb_spec.specs.declared.pulse.Hit.{Hit}
use Rattle.mpb_spec.specs.Pulses.{is_new}
use Rattle.mpb_tally.specs.Tally.{is_merged, hits_in}
use Rattle.mpb_tally.proofs.CountLemmas.{sum_on}
use Rattle.mpb_tally.proofs.counting.count_hits.Goals as goal

pub loop-log-preserved : goal.loop-log-preserved
loop-log-preserved c =
    let logs = c.args.logs.now in
    let i = c.loop-log.log-index in
    let log = c.log-item.result in
    let more = c.loop-log-test.true in
    let is = c.log-item.is in
    let same = ap length c.as_slice.ensures.value in
    let long : c.len.result ≡ length log.items = omega (arith, same, c.as_slice.ensures.len) in
    record {
      pulses = sum_on (λ (v : Vec (Pulse × Hit) Global). length v.items) logs i log _ _ more is c.loop-log.invariant.pulses long;
      fresh = sum_on (λ (v : Vec (Pulse × Hit) Global). hits_in is_new v.items) logs i log _ _ more is c.loop-log.invariant.fresh (c.fresh_in-fresh.ensures.count ∙ ap (hits_in is_new) c.as_slice.ensures.value);
      merged = sum_on (λ (v : Vec (Pulse × Hit) Global). hits_in is_merged v.items) logs i log _ _ more is c.loop-log.invariant.merged (c.merged_in-merged.ensures.count ∙ ap (hits_in is_merged) c.as_slice-in-loop-log.ensures.value);
      few_fresh = omega arith;
      few_merged = omega arith;
    }
