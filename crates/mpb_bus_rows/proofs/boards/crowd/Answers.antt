use Rattle.std.proofs.Common.{◌≡◌, ◌<◌, ◌+◌, ◌≤◌, ◌^◌, List, length, map, sym, subst, arith, true}
use Rattle.std.proofs.lemmas.List.{length-map}
use Rattle.std.proofs.lemmas.List.Elements.{All-map}
use Rattle.mpb_spec.specs.declared.config.DevWord.{DevWord}
use Rattle.mpb_spec.specs.Plan.{Plan, plan_size}
use Rattle.mpb_bus_rows.proofs.Lists.{few_are_small, if_some}
use Rattle.mpb_bus_rows.proofs.boards.crowd.Goals as goal

pub returns : goal.returns
returns c =
    let cpus = c.in_ok-cpus.cpus in
    let devices = c.in_ok-devices.devices in
    let words = map (λ w. w.items) devices.items in
    let many : length cpus.items ≡ 8 = (let n = c.in_ok-cpus.ensures.0 in let o = cpus.ok.0 in omega arith) in
    let four : length words ≡ 4 = (let n = c.in_ok-devices.ensures.0 in let o = devices.ok.0 in let l = length-map devices.items (λ w. w.items) in omega arith) in
    if_some c.config_of.result (λ (x : Plan). x ≡ record { boot = 0; boot_len = 38; cpus = cpus.items; ios = c.in_ok-ios.ios.items; imcr = true; devices = words }) (λ x. plan_size x < 2 ^ 32)
    (λ x is. subst (λ (y : Plan). plan_size y < 2 ^ 32) (sym is) (few_are_small cpus.items words many c.in_ok-cpus.ensures.1 four (All-map (λ (w : List DevWord). length w + 2 ≤ 8) (λ w. w.items) devices.items (λ k d l. (let e = c.in_ok-devices.ensures.1 k d l in omega arith)))))
    c.config_of.ensures.some
