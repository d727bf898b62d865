use Rattle.std.proofs.Common.{refl, ap, ◌∙◌, map, inl}
use Rattle.toml.specs.View.{view}
use Rattle.mpb_words.specs.Words.{cpu_op_of, device_word_of}
use Rattle.mpb_script.specs.Words.{words_of, cpu_id}
use Rattle.mpb_script.proofs.FaultLemmas.{wrong_of_cpus, wrong_of_devices, none_wrong}
use Rattle.mpb_script.proofs.reading.script.Goals as goal

pub returns-in-Err : goal.returns-in-Err
returns-in-Err c = inl refl

pub returns-in-Err-cpus : goal.returns-in-Err-cpus
returns-in-Err-cpus c = wrong_of_cpus (view c.args.document.now) (map view c.elements_at.result.now) c.in-Err-cpus.fault c.elements_at.ensures c.in-Err-cpus.ensures.wrong

pub returns-in-Err-devices : goal.returns-in-Err-devices
returns-in-Err-devices c =
    wrong_of_devices (view c.args.document.now) (map view c.elements_at.result.now) (map view c.elements_at-2.result.now) c.in-Err-devices.fault c.elements_at.ensures c.elements_at-2.ensures
    c.in-Ok-cpus.ensures.cpus.2 c.in-Err-devices.ensures.wrong

pub returns : goal.returns
returns c = (
  record {
    page = c.number_at.ensures.value;
    elcr = c.number_at-2.ensures.value;
    present = c.in-Ok.ensures;
    cpu_ids = c.in-Ok-cpus.ensures.cpus.0 ∙ ap (map cpu_id) c.elements_at.ensures;
    cpu_words = c.in-Ok-cpus.ensures.cpus.1 ∙ ap (map (λ t. map cpu_op_of (words_of t))) c.elements_at.ensures;
    device_words = c.in-Ok-devices.ensures.devices.0 ∙ ap (map (λ t. map device_word_of (words_of t))) c.elements_at-2.ensures;
  },
  none_wrong (view c.args.document.now) (map view c.elements_at.result.now) (map view c.elements_at-2.result.now) c.elements_at.ensures c.elements_at-2.ensures c.in-Ok-cpus.ensures.cpus.2 c.in-Ok-devices.ensures.devices.1,
)
