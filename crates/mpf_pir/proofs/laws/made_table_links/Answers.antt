use Rattle.mpf_pir.proofs.MadeLemmas.{made-links}
use Rattle.mpf_pir.proofs.laws.made_table_links.Goals as goal

pub returns : goal.returns
returns c = made-links
