use Rattle.std.proofs.Common.{sym, ◌∙◌, map}
use Rattle.std.proofs.lemmas.List.{length-map}
use Rattle.mpb_latch.proofs.Cuts.{settles, counts_settle, starts_settle, full_settles}
use Rattle.mpb_latch.proofs.closing.settle.Goals as goal

pub returns-clause-news : goal.returns-clause-news
returns-clause-news c =
    let key = c.args.table.shared.key in
    let final = c.close_with-closed.ensures.values.2 in
    let all = c.requires.all.0 ∙ sym (length-map key.1.value.items (λ p. p.items)) in
    settles key.0 (map (λ p. p.items) key.1.value.items) final.0 c.args.seat.id c.args.seat.me.0 final.1.0 final.1.1 all c.requires.all.1

pub returns-clause-planned : goal.returns-clause-planned
returns-clause-planned c =
    let key = c.args.table.shared.key in
    let final = c.close_with-closed.ensures.values.2 in
    let all = c.requires.all.0 ∙ sym (length-map key.1.value.items (λ p. p.items)) in
    counts_settle key.0 (map (λ p. p.items) key.1.value.items) final.0 c.args.seat.id c.args.seat.me.0 final.1.0 final.1.1 all c.requires.all.1

pub returns-clause-started : goal.returns-clause-started
returns-clause-started c =
    let key = c.args.table.shared.key in
    let final = c.close_with-closed.ensures.values.2 in
    let all = c.requires.all.0 ∙ sym (length-map key.1.value.items (λ p. p.items)) in
    starts_settle key.0 (map (λ p. p.items) key.1.value.items) final.0 c.args.seat.id c.args.seat.me.0 final.1.0 final.1.1 all c.requires.all.1

pub returns-clause-full : goal.returns-clause-full
returns-clause-full c =
    let key = c.args.table.shared.key in
    let final = c.close_with-closed.ensures.values.2 in
    let all = c.requires.all.0 ∙ sym (length-map key.1.value.items (λ p. p.items)) in
    full_settles key.0 (map (λ p. p.items) key.1.value.items) final.0 c.args.seat.id c.args.seat.me.0 final.1.0 final.1.1 all c.requires.all.1

pub returns-clause-first : goal.returns-clause-first
returns-clause-first c = (let final = c.close_with-closed.ensures.values.2 in final.1.0.each_device c.args.seat.id c.args.seat.me.0 final.1.1)
