use Rattle.std.proofs.Common.{length, refl, ap, arith}
use Rattle.mptab_walk.proofs.file.read_whole.Goals as goal

pub returns-in-Ok-fill-clause-files_stay : goal.returns-in-Ok-fill-clause-files_stay
returns-in-Ok-fill-clause-files_stay g c = c.fill.ensures.files_stay

pub returns-in-Ok-fill-clause-misses_stay : goal.returns-in-Ok-fill-clause-misses_stay
returns-in-Ok-fill-clause-misses_stay g c = c.fill.ensures.misses_stay

pub returns-in-Ok-fill-clause-unread : goal.returns-in-Ok-fill-clause-unread
returns-in-Ok-fill-clause-unread g c = λ e. absurd cc

pub returns-in-Ok-fill-clause-unfailed : goal.returns-in-Ok-fill-clause-unfailed
returns-in-Ok-fill-clause-unfailed g c = λ _. c.in-Ok-fill.ensures.unfailed

pub returns-in-Ok-fill-clause-asks : goal.returns-in-Ok-fill-clause-asks
returns-in-Ok-fill-clause-asks g c = omega (arith, c.fill.ensures.asks, ap length c.deref_mut.ensures.value, c.in-Ok.ensures)

pub returns-in_default : goal.returns-in_default
returns-in_default g c = record { files_stay = refl; misses_stay = refl; unread = λ e. absurd cc; unfailed = λ _. refl; asks = omega arith; all = tt; told = tt }

pub returns-in-Err : goal.returns-in-Err
returns-in-Err g c = record {
  files_stay = c.fill.ensures.files_stay;
  misses_stay = c.fill.ensures.misses_stay;
  unread = λ _. c.in-Err.ensures.err;
  unfailed = λ other. absurd (other refl);
  asks = omega (arith, c.fill.ensures.asks, ap length c.deref_mut.ensures.value, c.in-Ok.ensures);
  all = tt;
  told = tt;
}
