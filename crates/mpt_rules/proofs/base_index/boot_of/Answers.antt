use Rattle.std.proofs.Common.{below_more, sym, ◌∙◌, arith}
use Rattle.std.proofs.lemmas.Bool.{false≢true}
use Rattle.mpt_rules.specs.Entries.{HasBootFlag}
use Rattle.mpt_rules.proofs.PlaceLemmas.{first_here, not_here, no_entry}
use Rattle.mpt_rules.proofs.base_index.boot_of.Goals as goal

pub returns-then-has_boot_flag : goal.returns-then-has_boot_flag
returns-then-has_boot_flag c = first_here HasBootFlag c.args.entries.now c.loop-i.i no_entry (omega arith) (c.has_boot_flag.ensures.0 c.if-has_boot_flag.true) c.loop-i.invariant

pub loop-i-preserved : goal.loop-i-preserved
loop-i-preserved c = below_more _ _ c.loop-i.invariant (not_here HasBootFlag c.args.entries.now c.loop-i.i no_entry (λ h. false≢true (sym c.if-has_boot_flag.false ∙ c.has_boot_flag.ensures.1 h)))

pub returns : goal.returns
returns c = λ k l h. c.loop-i.invariant k (omega (arith, c.loop-i-test.false)) h
