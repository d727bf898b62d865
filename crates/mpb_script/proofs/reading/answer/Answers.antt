use Rattle.toml.specs.View.{view}
use Rattle.mpb_script.proofs.FaultLemmas.{refusal}
use Rattle.mpb_script.proofs.reading.answer.Goals as goal

pub returns-clause-refused : goal.returns-clause-refused
returns-clause-refused c = refusal c.args.text.now (view c.in-Ok.document) c.in-Err-read.fault c.in-Ok.ensures c.in-Err-read.ensures
