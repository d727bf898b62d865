use Rattle.std.proofs.Common.{[], length, map, replicate, ap, sym, ◌∙◌}
use Rattle.std.proofs.lemmas.List.{length-map}
use Rattle.mpb_spec.specs.Plan.{Plan}
use Rattle.mpb_run.proofs.ListLemmas.{lengths}
use Rattle.mpb_run.proofs.lists.nothing_kept.Goals as goal

pub returns-clause-room : goal.returns-clause-room
returns-clause-room c =
    c.in-Ok-no_logs.ensures.room
    ∙ ap (λ ds. map (λ words. length words.items) ds) c.as_slice.ensures.value
    ∙ sym (lengths (λ words. words.items) c.config.inside.devices.items)
    ∙ ap (λ (p : Plan). map (λ words. length words) p.devices) c.config.view_is

pub returns-clause-logs : goal.returns-clause-logs
returns-clause-logs c =
    let long = ap (λ ds. length ds) c.as_slice.ensures.value ∙ sym (length-map c.config.inside.devices.items (λ words. words.items)) ∙ ap (λ (p : Plan). length p.devices) c.config.view_is in
    c.in-Ok-no_logs.ensures.logs ∙ ap (λ n. replicate n []) long
