use Rattle.std.proofs.Common.{sym, ◌∙◌}
use Rattle.mpt_rules.specs.Entries.{IsBusOf, IsPciBus}
use Rattle.mpt_rules.proofs.PlaceLemmas.{first_tests, first_tests_none, no_entry}
use Rattle.mpt_rules.proofs.base_rules.is_pci.Goals as goal

pub returns-in-Some : goal.returns-in-Some
returns-in-Some c =
    first_tests (IsBusOf c.args.bus) c.args.entries.now IsPciBus _ c.in-Some.k no_entry c.is_pci_bus.result (sym c.first_at.ensures ∙ c.in-Some.is) (c.requires.buses c.args.bus) c.is_pci_bus.ensures

pub returns-in-None : goal.returns-in-None
returns-in-None c = first_tests_none (IsBusOf c.args.bus) c.args.entries.now IsPciBus _ (sym c.first_at.ensures ∙ c.in-None.is) (c.requires.buses c.args.bus)
