use Rattle.std.proofs.Common.{◌+◌, List, map, refl, sym, subst, inl}
use Rattle.toml.specs.View.{view}
use Rattle.mpb_script.specs.Steps.{AreDevices}
use Rattle.mpb_spec.specs.declared.config.DevWord.{DevWord}
use Rattle.mpb_script.proofs.TableLemmas.{DevicesSoFar, device_on, device_wrong, devices_all, words_fit}
use Rattle.mpb_script.proofs.programs.devices.Goals as goal

pub device_program-requires : goal.device_program-requires
device_program-requires c = words_fit c.args.tables.now c.loop-number.number c.index-tables-number.result c.elements_at-words.result.now c.loop-number-test.true c.index-tables-number.is c.elements_at-words.ensures c.requires.count

pub loop-number-preserved : goal.loop-number-preserved
loop-number-preserved c =
    let vs = c.args.tables.now in
    let i = c.loop-number.number in
    subst (λ (ps : List (List DevWord)). DevicesSoFar ps vs (i + 1)) (sym c.in-Ok-push.ensures.items)
    (device_on c.loop-number.devices.items c.in-Ok.words vs i c.index-tables-number.result c.elements_at-words.result.now c.loop-number-test.true c.index-tables-number.is c.elements_at-words.ensures c.in-Ok.ensures.program c.loop-number.invariant)

pub returns-clause-devices : goal.returns-clause-devices
returns-clause-devices c = subst (λ (ps : List (List DevWord)). AreDevices (map view c.args.tables.now) ps) (sym c.new.ensures) (devices_all c.loop-number.devices.items c.args.tables.now c.loop-number.number c.loop-number-test.false c.loop-number.invariant)

pub loop-number-init : goal.loop-number-init
loop-number-init c = subst (λ (ps : List (List DevWord)). DevicesSoFar ps c.args.tables.now 0) (sym c.new-devices.ensures.items) (refl, refl)

pub returns-in-Err-clause-wrong : goal.returns-in-Err-clause-wrong
returns-in-Err-clause-wrong c =
    device_wrong c.args.tables.now c.loop-number.number c.index-tables-number.result c.elements_at-words.result.now c.in-Err.fault c.loop-number-test.true c.index-tables-number.is c.elements_at-words.ensures
    c.loop-number.invariant.1 c.in-Err.ensures.wrong

pub returns-in-Err-push-clause-wrong : goal.returns-in-Err-push-clause-wrong
returns-in-Err-push-clause-wrong c = inl refl
