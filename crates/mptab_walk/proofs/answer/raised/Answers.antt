use Rattle.mpt_spec.specs.Canonical.{raised_of}
use Rattle.mptab_walk.proofs.MadeLemmas.{fits-given, unfit-given}
use Rattle.mptab_walk.proofs.answer.raised.Goals as goal

pub built-requires : goal.built-requires
built-requires c = c.raise.ensures.fits.1 (c.fits.ensures.0 c.if-fits.true)

pub returns-then-fits : goal.returns-then-fits
returns-then-fits c = fits-given _ c.built.result c.fits.result c.args.tables c.raise.new.tables (raised_of c.args.tables) c.fits.ensures c.if-fits.true c.raise.ensures.form c.built.ensures

pub returns-else-fits : goal.returns-else-fits
returns-else-fits c = unfit-given _ c.unfit.result c.fits.result c.args.tables c.block_bytes.result c.fits.ensures c.if-fits.false c.block_bytes.ensures c.unfit.ensures
