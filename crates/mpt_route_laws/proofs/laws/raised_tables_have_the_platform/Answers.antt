use Rattle.mpt_route_laws.proofs.RaisedLaws.{platform_of-raised_of}
use Rattle.mpt_route_laws.proofs.laws.raised_tables_have_the_platform.Goals as goal

pub returns : goal.returns
returns c = platform_of-raised_of
