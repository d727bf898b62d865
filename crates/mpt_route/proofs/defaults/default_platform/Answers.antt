use Rattle.std.proofs.Common.{◌∙◌}
use Rattle.mpt_route.proofs.defaults.default_platform.Goals as goal

pub returns : goal.returns
returns c = c.platform_with.ensures ∙ c.in-Ok.ensures c.args.imcr
