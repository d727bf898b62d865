-- What private functions cite.
--     HasPin answer      the pin of a routed answer is one of 24
use Rattle.std.specs.Prelude.{◌<◌, ⊤}
use Rattle.mpt_route.specs.declared.route.Answer.{Answer}
use Rattle.mpt_route.specs.declared.route.Answer.TheVariants as answer

-- the pin of a routed answer is one of 24
abbrev pub HasPin : Answer → Type 0
HasPin (answer.Routed r) = r.pin < 24
HasPin _ = ⊤
