use Rattle.std.proofs.Common.{rules}
use Rattle.mpt_route.proofs.SizeLemmas.{IsSmallPlatform-of}
use Rattle.mpt_route.proofs.platform.platform_of.Goals as goal

pub returns-in-Ok-clause-small : goal.returns-in-Ok-clause-small
returns-in-Ok-clause-small c = IsSmallPlatform-of c.args.tables.now c.in-Ok.platform c.requires (search rules)
