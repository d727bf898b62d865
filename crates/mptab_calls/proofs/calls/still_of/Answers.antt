use Rattle.mptab_walk.specs.Walk.{texts_of}
use Rattle.mptab_calls.proofs.CauseLemmas.{boot-alone, no_form-still}
use Rattle.mptab_calls.proofs.calls.still_of.Goals as goal

pub returns-in-Some-Boot : goal.returns-in-Some-Boot
returns-in-Some-Boot c = boot-alone c.in-Some-Boot.files.image.now c.in-Some-Boot.files.script.now (texts_of c.args.words.now) (rw c.in-Some-Boot.field-0-is at c.in-Some-Boot.ensures)

pub returns-in-None : goal.returns-in-None
returns-in-None c = no_form-still (texts_of c.args.words.now) c.in-None.ensures
