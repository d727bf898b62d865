use Rattle.std.proofs.Common.{◌≡◌, ℕ, ◌+◌, ◌<◌, List, [], ◌∷◌, ◌++◌, length, length-append, get_or, take, ap, sym, subst, ◌∙◌, arith}
use Rattle.std.specs.Prelude.{Option, ◌==◌, position, filter}
use Rattle.mpt_spec.specs.declared.entry.IntEntry.{IntEntry}
use Rattle.mpt_spec.specs.declared.entry.IoApic.{IoApic}
use Rattle.mpt_route.specs.Routes.{bus_kind_in, io_place_in, high_word_of, is_enabled}
use Rattle.mpt_route.specs.Index.{own_answer}
use Rattle.mpt_route.specs.Pins.{HasPins, answer_on, low_at}
use Rattle.mpt_route.specs.declared.route.Answer.{Answer}
use Rattle.mpt_route.specs.declared.route.Answer.TheVariants as answer
use Rattle.mpt_route.proofs.ListLemmas.{position_of_key}
use Rattle.mpt_route.proofs.RouteLemmas.{found_more, looked_up, settled, refused, lows_after, lows_stay}
use Rattle.mpt_route.proofs.routing.answers_by.Goals as goal
use Rattle.mpt_route.proofs.routing.answers_by.Goals.{in-Ok, in-Err}

-- what the code's indexing names past the end
d : IntEntry
d = record { kind = 0; flags = 0; bus = 0; irq = 0; dest = 0; pin = 0 }

-- one answer more
counted : (old new : List Answer) (a : Answer) (i : ℕ) → length old ≡ i → new ≡ old ++ a ∷ [] → length new ≡ i + 1
counted old new a i was now = ap length now ∙ length-append old (a ∷ []) ∙ omega arith

pub loop-e-preserved : goal.loop-e-preserved
unfolding d
loop-e-preserved c =
    let p = c.args.p.now in
    let es = c.as_slice-e-items.result.now in
    let i = c.loop-e.e-index in
    let inside : i < length es = omega (arith, c.loop-e-test.true) in
    let e : IntEntry = get_or es i d in
    let old = c.loop-e.answers.items in
    let b : c.kind_at-bus.result ≡ bus_kind_in p.buses e.bus = c.kind_at-bus.ensures.value ∙ c.requires.buses.members e.bus c.kind_at-bus.ensures.byte in
    let place : c.io_place-place.result ≡ io_place_in p.ios e.dest =
    c.io_place-place.ensures.value ∙ ap (λ (xs : List ℕ). position (λ (x : ℕ). x == e.dest) xs) c.requires.ios
    ∙ position_of_key (λ (io : IoApic). io.id) e.dest (take 4 (filter is_enabled p.ios)) in
    let high : c.high_word-high.result ≡ high_word_of p.processors = c.high_word-high.ensures in
    let n : c.len-entry.result ≡ length old = omega arith in
    let own : c.own_answer.result ≡ own_answer (bus_kind_in p.buses e.bus) (io_place_in p.ios e.dest) (high_word_of p.processors) c.args.elcr (length old) e =
    c.own_answer.ensures.value ∙ looked_up _ _ _ _ _ _ c.args.elcr _ _ e b place high n in
    elim c.match-own_answer.branch [
      | in-Ok w ↦
          let row = w.in-Ok.row in
          let is : c.match-own_answer.answer ≡ answer_on _ row = w.answer-is ∙ w.settle-answer.ensures.answer in
          record {
            found = found_more p c.args.elcr es i d old c.push.new.self.items c.match-own_answer.answer inside c.loop-e.invariant.found
                (is ∙ ap (λ (o : Option ℕ). answer_on o row) (c.loop-e.invariant.lows row.io row.pin w.in-Ok.ensures.place w.in-Ok.ensures.pin)
                ∙ sym (settled (bus_kind_in p.buses e.bus) (io_place_in p.ios e.dest) (high_word_of p.processors) c.args.elcr old e row (sym own ∙ w.in-Ok.is)))
                c.in-Ok-push.ensures.items;
            count = counted c.loop-e.answers.items c.push.new.self.items c.match-own_answer.answer i c.loop-e.invariant.count c.in-Ok-push.ensures.items;
            pins = subst (λ (ls : List (List (Option ℕ))). HasPins ls) (sym w.lows-is) w.settle-answer.ensures.pins;
            lows = λ io pin i p. ap (λ (ls : List (List (Option ℕ))). low_at ls io pin) w.lows-is
                ∙ lows_after c.loop-e.lows w.settle-answer.new.lows old c.push.new.self.items c.match-own_answer.answer row w.in-Ok.ensures.place w.in-Ok.ensures.pin c.loop-e.invariant.lows w.settle-answer.ensures.noted is c.in-Ok-push.ensures.items io pin i p;
          }
      | in-Err w ↦ record {
        found = found_more p c.args.elcr es i d old c.push.new.self.items c.match-own_answer.answer inside c.loop-e.invariant.found
            (w.answer-is ∙ ap (λ (k : ℕ). answer.Unrouted k w.in-Err.why) n
            ∙ sym (refused (bus_kind_in p.buses e.bus) (io_place_in p.ios e.dest) (high_word_of p.processors) c.args.elcr old e w.in-Err.why (sym own ∙ w.in-Err.is)))
            c.in-Ok-push.ensures.items;
        count = counted c.loop-e.answers.items c.push.new.self.items c.match-own_answer.answer i c.loop-e.invariant.count c.in-Ok-push.ensures.items;
        pins = subst (λ (ls : List (List (Option ℕ))). HasPins ls) (sym w.lows-is) c.loop-e.invariant.pins;
        lows = λ io pin i p. ap (λ (ls : List (List (Option ℕ))). low_at ls io pin) w.lows-is
            ∙ lows_stay c.loop-e.lows old c.push.new.self.items c.match-own_answer.answer c.len-entry.result w.in-Err.why c.loop-e.invariant.lows w.answer-is c.in-Ok-push.ensures.items io pin i p;
      }
    ]
