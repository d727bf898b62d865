use Rattle.std.proofs.Common.{List, ℕ, length, refl, sym, ap, ◌∙◌, subst, arith}
use Rattle.mpt_base.specs.Outside.{FillsFromTold}
use Rattle.mpt_base.proofs.WrittenBack.{written_back}
use Rattle.mpt_table.proofs.ShelfLemmas.{ok_no_err, keeps, asks_none}
use Rattle.mpt_table.proofs.window.window.Goals as goal

pub returns-in-Ok-read_at : goal.returns-in-Ok-read_at
returns-in-Ok-read_at g c =
    let v = c.in-Ok.bytes in
    let own = c.in-Ok-read_at.ensures in
    let long = c.read_at.auto.buf ∙ ap (λ (xs : List ℕ). length xs) c.deref_mut.ensures.value in
    let back = written_back v.len c.read_at.new.buf v.items (omega arith) long in
    record {
      files_stay = own.files_stay;
      faults_never_fall = own.faults_never_fall;
      misses_stay = own.misses_stay;
      asks = rw (ap (λ (xs : List ℕ). length xs) c.deref_mut.ensures.value ∙ c.in-Ok.ensures) at own.asks_the_buffer;
      told = subst (λ (xs : List ℕ). FillsFromTold (g.S.Shelf.files c.args.shelf.now) c.args.name.now c.args.at xs) (sym back) own.told;
      all = ap (λ (xs : List ℕ). length xs) back ∙ long ∙ c.in-Ok.ensures;
      unread = λ e. absurd (ok_no_err _ _ e);
      unfailed = λ _. own.unfailed;
    }

pub returns-in-Err : goal.returns-in-Err
returns-in-Err g c =
    let own = c.in-Err.ensures in
    record {
      files_stay = own.files_stay;
      faults_never_fall = own.faults_never_fall;
      misses_stay = own.misses_stay;
      asks = rw (ap (λ (xs : List ℕ). length xs) c.deref_mut.ensures.value ∙ c.in-Ok.ensures) at own.asks_the_buffer;
      told = tt;
      all = tt;
      unread = λ _. own.failed;
      unfailed = λ other. absurd (other refl);
    }

pub returns-in_default : goal.returns-in_default
returns-in_default g c = record {
  files_stay = refl;
  faults_never_fall = keeps _;
  misses_stay = refl;
  asks = asks_none _ _;
  told = tt;
  all = tt;
  unread = λ e. absurd cc;
  unfailed = λ _. refl;
}
