use Rattle.std.proofs.Common.{◌==◌, if◌then◌else◌, sym, ap, ◌∙◌}
use Rattle.mpb_spec.specs.Numbers.{has}
use Rattle.mpf_pair.specs.Pair.{PairState, slave_asks, byte_where}
use Rattle.mpf_pair.proofs.ByteLemmas.{byte-irr}
use Rattle.mpf_pair.proofs.pair.Pair.irr.Goals as goal

pub returns : goal.returns
returns c =
    let m = c.self.inside.master.requests in
    let s = c.self.inside.slave.requests in
    let asks = slave_asks c.args.self.now in
    c.with_cascade.ensures ∙ rw c.slave_asks.ensures (sym (byte-irr asks m s) ∙ ap (λ (t : PairState). byte_where (λ n. if n == 2 then asks else has n t.requests)) c.self.view_is)
