use Rattle.std.proofs.Common.{◌≡◌, rules, map, length}
use Rattle.mpb_spec.specs.Pulses.{pulses_in}
use Rattle.mpb_crew.proofs.Opened.{open_range, open_few, devs_made}
use Rattle.mpb_crew.proofs.assembly.latch_for.Goals as goal

pub new-requires-clause-range : goal.new-requires-clause-range
new-requires-clause-range c =
    let are : map (λ p. p.items) c.in-Ok.plans.items ≡ map pulses_in c.args.config.now.devices = search rules in
    let ios : c.len.result ≡ length c.args.config.now.ios = search rules in
    open_range c.args.config.now c.len.result c.in-Ok.plans.items c.as_slice.result.now c.requires.config ios c.as_slice.ensures.value are

pub new-requires-clause-few : goal.new-requires-clause-few
new-requires-clause-few c =
    let are : map (λ p. p.items) c.in-Ok.plans.items ≡ map pulses_in c.args.config.now.devices = search rules in
    open_few c.args.config.now c.in-Ok.plans.items c.as_slice.result.now c.requires.small c.as_slice.ensures.value are

pub returns-clause-devices : goal.returns-clause-devices
returns-clause-devices c = devs_made c.in-Ok-new.latch c.as_slice.result.now c.in-Ok-new.devs.items c.in-Ok-new.ensures.devices c.in-Ok-new.ensures.latch.1
