use Rattle.std.proofs.Common.{◌≡◌, ◌<◌, ◌∙◌, ◌++◌, ◌∷◌, [], List, true, false, length, get_or, set, sym, refl, ap, arith, length-append}
use Rattle.std.proofs.lemmas.List.Edits.{map_over_more}
use Rattle.mpb_spec.specs.declared.entry.Outcome.{Outcome}
use Rattle.mpb_spec.specs.State.{Processor}
use Rattle.mpb_spec.specs.Delivery.{delivered_to, received, outcome_at}
use Rattle.mpb_spec.specs.Ranks.{is_chosen}
use Rattle.mpb_machine.proofs.Sift.{told-yes, told-no, read-of-rest}
use Rattle.mpb_machine.proofs.cpus.deliver_to_chosen.Goals as goal
use Rattle.mpb_machine.proofs.cpus.deliver_to_chosen.Goals.{then-is_chosen, else-is_chosen}

pub loop-cpu-preserved : goal.loop-cpu-preserved
loop-cpu-preserved c =
    let lt : c.loop-cpu.cpu-index < length c.args.cpus.now = omega arith in
    let test = is_chosen c.args.to c.args.rank in
    let change = delivered_to c.args.warm test c.args.delivery in
    let out = outcome_at c.args.warm c.args.delivery in
    let i = c.loop-cpu.cpu-index in
    let item : Processor = c.cpu-item.result in
    let inv = c.loop-cpu.invariant in
    let read = read-of-rest change c.args.cpus.now c.loop-cpu.cpus i item lt inv.cpus c.cpu-item.is in
    let tested = ap test c.cpu-item.is in
    elim c.if-is_chosen.branch [
      | then-is_chosen w ↦
          let pass : test item ≡ true = cc (tested, w.if-is_chosen.ensures, w.if-is_chosen.true) in
          let new : w.receive-what.new.self ≡ change item = w.receive-what.ensures.state ∙ ap (received c.args.warm c.args.delivery) (sym c.cpu-item.is) ∙ sym (rw pass refl) in
          let told : List Outcome = c.loop-cpu.outcomes.items ++ out item ∷ [] in
          let pushed : c.if-is_chosen.outcomes.items ≡ told = cc (w.outcomes-is, w.push.ensures.items, w.id-at.ensures, w.receive-what.ensures.outcome, c.cpu-item.is) in
          record {
            cpus = w.cpus-is ∙ ap (λ y. set c.loop-cpu.cpus i y) new ∙ map_over_more change c.args.cpus.now c.loop-cpu.cpus i item lt inv.cpus c.cpu-item.is;
            outcomes = pushed ∙ ap (λ (l : List Outcome). l ++ out item ∷ []) inv.outcomes ∙ told-yes test out c.args.cpus.now i item lt read pass;
            count = omega (arith, ap length pushed, length-append c.loop-cpu.outcomes.items (out item ∷ []));
          }
      | else-is_chosen w ↦
          let fail : test item ≡ false = cc (tested, w.if-is_chosen.ensures, w.if-is_chosen.false) in
          let new : get_or c.loop-cpu.cpus i item ≡ change item = sym c.cpu-item.is ∙ sym (rw fail refl) in
          let kept : c.if-is_chosen.outcomes.items ≡ c.loop-cpu.outcomes.items = ap (λ (v : Rattle.arrayvec.specs.ArrayVec.ArrayVec Outcome). v.items) w.outcomes-is in
          record {
            cpus = w.cpus-is ∙ ap (λ y. set c.loop-cpu.cpus i y) new ∙ map_over_more change c.args.cpus.now c.loop-cpu.cpus i item lt inv.cpus c.cpu-item.is;
            outcomes = kept ∙ inv.outcomes ∙ told-no test out c.args.cpus.now i item lt read fail;
            count = omega (arith, ap length kept);
          }
    ]
