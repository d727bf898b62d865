use Rattle.std.proofs.Common.{arith, ◌∙◌}
use Rattle.mpt_table.proofs.AreasInside.{areas_inside, areas_short}
use Rattle.mpt_table.proofs.FromLemmas.{areas-told}
use Rattle.mpt_table.proofs.ShelfLemmas.{rises, asks_sum, asks_more}
use Rattle.mpt_table.proofs.search_from.areas_from.Goals as goal

pub returns : goal.returns
returns g c =
    let ebda = c.in-Ok.ensures in
    let base = c.in-Ok-word_from.ensures in
    let size = c.args.size in
    record {
      files_stay = base.files_stay ∙ ebda.files_stay;
      faults_never_fall = rises _ _ _ ebda.faults_never_fall base.faults_never_fall;
      misses_stay = base.misses_stay ∙ ebda.misses_stay;
      asks = asks_sum _ _ _ _ _ ebda.asks base.asks;
      unread = tt;
      unfailed = base.unfailed ∙ ebda.unfailed;
      told = areas-told (g.S.Shelf.files c.args.shelf.now) c.args.name.now c.in-Ok.ebda c.in-Ok-word_from.base_kib size c.areas.result.items c.requires.told ebda.told (rw ebda.files_stay at base.told) c.areas.ensures;
      areas = rw c.areas.ensures (areas_inside c.in-Ok.ebda c.in-Ok-word_from.base_kib size (omega arith) (omega arith));
      bytes = rw c.areas.ensures (areas_short c.in-Ok.ebda c.in-Ok-word_from.base_kib size);
    }

pub returns-in_default : goal.returns-in_default
returns-in_default g c =
    let ebda = c.in_default.ensures in
    record {
      files_stay = ebda.files_stay;
      faults_never_fall = ebda.faults_never_fall;
      misses_stay = ebda.misses_stay;
      asks = asks_more _ _ 2 2 ebda.asks;
      unread = ebda.unread;
      unfailed = tt;
      told = tt;
      areas = tt;
      bytes = tt;
    }

pub returns-in_default-word_from : goal.returns-in_default-word_from
returns-in_default-word_from g c =
    let ebda = c.in-Ok.ensures in
    let base = c.in_default-word_from.ensures in
    record {
      files_stay = base.files_stay ∙ ebda.files_stay;
      faults_never_fall = rises _ _ _ ebda.faults_never_fall base.faults_never_fall;
      misses_stay = base.misses_stay ∙ ebda.misses_stay;
      asks = asks_sum _ _ _ _ _ ebda.asks base.asks;
      unread = rw ebda.unfailed at base.unread;
      unfailed = tt;
      told = tt;
      areas = tt;
      bytes = tt;
    }
