use Rattle.std.proofs.Common.{◌≡◌, IfOk, sym, subst}
use Rattle.mpt_spec.specs.declared.tables.Tables.{Tables}
use Rattle.mpt_route.specs.Platform.{platform_of}
use Rattle.mpt_spec.specs.Canonical.{IsWellFormed}
use Rattle.mpb_tally.proofs.summary.drill_platform.Goals as goal

pub platform_of-requires : goal.platform_of-requires
platform_of-requires c = subst (λ (t : Tables). IsWellFormed t) (sym c.in-Ok.ensures.tables) (c.drills_have_boards.ensures.fits c.args.n).well_formed

pub returns-clause-platform : goal.returns-clause-platform
returns-clause-platform c = subst (λ (t : Tables). IfOk c.platform_of.result (λ p. p ≡ platform_of t)) c.in-Ok.ensures.tables c.platform_of.ensures.platform

pub returns-clause-small : goal.returns-clause-small
returns-clause-small c = c.platform_of.ensures.small
