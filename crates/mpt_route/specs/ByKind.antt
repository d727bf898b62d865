-- Entries by kind, while they are gathered: cited by private functions alone.
use Rattle.std.specs.Prelude.{◌≡◌, ℕ, Bool, List, filter_map}
use Rattle.mpt_spec.specs.declared.entry.Base.{Base}
use Rattle.mpt_route.specs.declared.by_kind.ByKind.{ByKind}
use Rattle.mpt_route.specs.declared.platform.Platform.{Platform}
use Rattle.mpt_route.specs.Platform.{processor_in, bus_in, io_in, int_in, lint_in}

-- the entries of these, by kind
pub record AreByKind (es : List Base) (x : ByKind) : Type 0 where
  pub processors : x.processors.items ≡ filter_map processor_in es
  pub buses : x.buses.items ≡ filter_map bus_in es
  pub ios : x.ios.items ≡ filter_map io_in es
  pub ints : x.ints.items ≡ filter_map int_in es
  pub lints : x.lints.items ≡ filter_map lint_in es

-- the platform with these entries
abbrev pub platform_with : ByKind → Bool → ℕ → Platform
platform_with x imcr address = record {
  processors = x.processors.items;
  buses = x.buses.items;
  ios = x.ios.items;
  ints = x.ints.items;
  lints = x.lints.items;
  imcr = imcr;
  local_address = address;
}
