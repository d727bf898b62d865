use Rattle.std.proofs.Common.{◌≡◌, ◌-◌, ℕ, subst, length, length-take, length-drop, ◌∙◌, arith}
use Rattle.mpt_base.specs.Outside.{Rose}
use Rattle.mptab_walk.proofs.FileLemmas.{IsFilledTo-piece, IsFilledTo-all}
use Rattle.mptab_walk.proofs.file.fill.Goals as goal

pub loop-at-preserved : goal.loop-at-preserved
loop-at-preserved g c =
    let told = rw c.loop-at.invariant.files at c.in_default.ensures.told in
    let len : length c.read_at.new.buf ≡ c.min-end.result - c.loop-at.at = c.read_at.auto.buf ∙ simp (length-take, length-drop) (omega arith) in
    record {
      files = c.in_default.ensures.files_stay ∙ c.loop-at.invariant.files;
      misses = c.in_default.ensures.misses_stay ∙ c.loop-at.invariant.misses;
      faults = c.in_default.ensures.unfailed ∙ c.loop-at.invariant.faults;
      asked = omega arith;
      within = omega arith;
      filled = IsFilledTo-piece (g.S.Shelf.files c.args.shelf.now) c.args.name.now c.loop-at.at c.min-end.result (c.min-end.result - c.loop-at.at) c.loop-at.buf c.read_at.new.buf (omega arith) (omega arith) c.loop-at.invariant.filled told;
    }

pub returns : goal.returns
returns g c = record {
  files_stay = c.loop-at.invariant.files;
  misses_stay = c.loop-at.invariant.misses;
  err = tt;
  unfailed = c.loop-at.invariant.faults;
  asks = omega (arith, c.loop-at.invariant.asked, c.loop-at.invariant.within);
  ok = IsFilledTo-all (g.S.Shelf.files c.args.shelf.now) c.args.name.now (length c.args.buf.now) c.loop-at.at c.loop-at.buf c.requires (omega arith) c.loop-at.auto.buf c.loop-at.invariant.filled;
}

pub returns-in-Err-clause-files_stay : goal.returns-in-Err-clause-files_stay
returns-in-Err-clause-files_stay g c = c.in-Err.ensures.files_stay ∙ c.loop-at.invariant.files

pub returns-in-Err-clause-misses_stay : goal.returns-in-Err-clause-misses_stay
returns-in-Err-clause-misses_stay g c = c.in-Err.ensures.misses_stay ∙ c.loop-at.invariant.misses

pub returns-in-Err-clause-err : goal.returns-in-Err-clause-err
returns-in-Err-clause-err g c = subst (λ (n : ℕ). Rose n (g.S.Shelf.faults c.read_at.new.self)) c.loop-at.invariant.faults c.in-Err.ensures.failed
