use Rattle.std.proofs.Common.{◌≡◌, ◌++◌, ◌∷◌, [], map, length, take_all, replicate, vec_capacity, sym, ap, ap₂, ◌∙◌, arith, rules}
use Rattle.std.proofs.lemmas.List.{map-append, map_more, replicate_more}
use Rattle.mpb_run.proofs.lists.no_logs.Goals as goal

pub loop-words-preserved : goal.loop-words-preserved
loop-words-preserved c =
    let devices = c.args.devices.now in
    let i = c.loop-words.words-index in
    let words = c.words-item.result in
    let logs = c.loop-words.logs.items in
    let log = c.in-Ok.log in
    let inv = c.loop-words.invariant in
    let pushed = c.in-Ok-push.ensures.items in
    let n : c.len.result ≡ length words.items = search rules in (
      ap (λ ls. map (λ l. l.items) ls) pushed
          ∙ map-append (λ l. l.items) logs (log ∷ [])
          ∙ ap₂ (λ ls l. ls ++ l ∷ []) inv.0 c.in-Ok.ensures.items
          ∙ replicate_more i [],
      ap (λ ls. map (λ l. vec_capacity l) ls) pushed
          ∙ map-append (λ l. vec_capacity l) logs (log ∷ [])
          ∙ ap₂ (λ ns m. ns ++ m ∷ []) inv.1 (c.in-Ok.ensures.exact ∙ n ∙ ap (λ w. length w.items) c.words-item.is)
          ∙ sym (map_more (λ w. length w.items) devices i words c.loop-words-test.true),
    )

pub returns-clause-logs : goal.returns-clause-logs
returns-clause-logs c =
    let all : c.loop-words.words-index ≡ length c.args.devices.now = omega arith in
    c.loop-words.invariant.0 ∙ ap (λ n. replicate n []) all

pub returns-clause-room : goal.returns-clause-room
returns-clause-room c = c.loop-words.invariant.1 ∙ ap (λ ds. map (λ w. length w.items) ds) (take_all c.loop-words.words-index c.args.devices.now c.loop-words-test.false)
