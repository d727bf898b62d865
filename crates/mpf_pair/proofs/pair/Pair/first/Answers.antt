use Rattle.std.proofs.Common.{◌++◌, ℕ, Bool, Some, is_some, sym, ap, ◌∙◌, arith}
use Rattle.std.specs.List.{range_with_len}
use Rattle.mpf_pair.specs.Pair.{is_eligible, by_priority}
use Rattle.mpf_pair.proofs.LineLemmas.{some-find}
use Rattle.mpf_pair.proofs.StateLemmas.{find-first, find-later, found-below}
use Rattle.mpf_pair.proofs.pair.Pair.first.Goals as goal

pub returns-in-Some-first_in-clause-found : goal.returns-in-Some-first_in-clause-found
returns-in-Some-first_in-clause-found c =
    let p : ℕ → Bool = λ n. is_eligible n c.args.self.now in
    find-first p (range_with_len 0 2 ++ range_with_len 8 8) (range_with_len 3 5) _ (c.in-Some-first_in.ensures.found ∙ sym (find-later p (range_with_len 0 2) (range_with_len 8 8) c.in-None.ensures.found))

pub returns-in-None-first_in-clause-found : goal.returns-in-None-first_in-clause-found
returns-in-None-first_in-clause-found c =
    let p : ℕ → Bool = λ n. is_eligible n c.args.self.now in
    let none = c.in-None-first_in.ensures.found ∙ sym (find-later p (range_with_len 0 2) (range_with_len 8 8) c.in-None.ensures.found) in
    c.first_in-in-None-first_in.ensures.found ∙ sym (find-later p (range_with_len 0 2 ++ range_with_len 8 8) (range_with_len 3 5) none)

pub returns-in-Some-first_in-clause-below : goal.returns-in-Some-first_in-clause-below
returns-in-Some-first_in-clause-below c = found-below (λ n. is_eligible n c.args.self.now) 8 8 (Some c.in-Some-first_in.n) (omega arith) c.in-Some-first_in.ensures.found

pub returns-in-None-first_in-clause-below : goal.returns-in-None-first_in-clause-below
returns-in-None-first_in-clause-below c = found-below (λ n. is_eligible n c.args.self.now) 3 5 c.first_in-in-None-first_in.result (omega arith) c.first_in-in-None-first_in.ensures.found

pub returns-in-Some-first_in-clause-exact : goal.returns-in-Some-first_in-clause-exact
returns-in-Some-first_in-clause-exact c = ap is_some (returns-in-Some-first_in-clause-found c) ∙ some-find (λ n. is_eligible n c.args.self.now) by_priority

pub returns-in-None-first_in-clause-exact : goal.returns-in-None-first_in-clause-exact
returns-in-None-first_in-clause-exact c = ap is_some (returns-in-None-first_in-clause-found c) ∙ some-find (λ n. is_eligible n c.args.self.now) by_priority
