-- A platform: the entries of a table by kind (MultiProcessor Specification 1.4, section 4.3), in table order, or the rows of a
-- default configuration (chapter 5).
--     platform_of tables        the platform of the tables
--     boot_processor_of p       the first processor with EN and BP (section 4.3.1)
--     IsSmallPlatform p         the platform has fewer than 32,768 entries of each kind
use Rattle.std.specs.Prelude.{◌==◌, ◌/◌, ◌%◌, ◌<◌, Bool, length, Option, Some, None, filter_map, find, slice_index}
use Rattle.mpt_spec.specs.declared.entry.Processor.{Processor}
use Rattle.mpt_spec.specs.declared.entry.Bus.{Bus}
use Rattle.mpt_spec.specs.declared.entry.IoApic.{IoApic}
use Rattle.mpt_spec.specs.declared.entry.IntEntry.{IntEntry}
use Rattle.mpt_spec.specs.declared.entry.Base.{Base}
use Rattle.mpt_spec.specs.declared.entry.Base.TheVariants as base
use Rattle.mpt_spec.specs.declared.tables.Body.{Body}
use Rattle.mpt_spec.specs.declared.tables.Body.TheVariants as body
use Rattle.mpt_spec.specs.declared.tables.Tables.{Tables}
pub use Rattle.mpt_spec.specs.Flags.{is_boot_processor}
use Rattle.mpt_route.specs.declared.platform.Platform.{Platform}
use Rattle.mpt_route.specs.Defaults.{default_row, default_processors, default_buses, default_ios, default_ints, default_lints}

-- the entry of a kind that a base entry is
abbrev pub processor_in : Base → Option Processor
processor_in (base.Processor e) = Some e
processor_in _ = None

abbrev pub bus_in : Base → Option Bus
bus_in (base.Bus e) = Some e
bus_in _ = None

abbrev pub io_in : Base → Option IoApic
io_in (base.IoApic e) = Some e
io_in _ = None

abbrev pub int_in : Base → Option IntEntry
int_in (base.IoInt e) = Some e
int_in _ = None

abbrev pub lint_in : Base → Option IntEntry
lint_in (base.LocalInt e) = Some e
lint_in _ = None

-- the platform of a body, with or without an IMCR
abbrev pub platform_of_body : Bool → Body → Platform
platform_of_body imcr (body.Listed t) = record {
  processors = filter_map processor_in t.base;
  buses = filter_map bus_in t.base;
  ios = filter_map io_in t.base;
  ints = filter_map int_in t.base;
  lints = filter_map lint_in t.base;
  imcr = imcr;
  local_address = t.local_address;
}
platform_of_body imcr (body.Default n) = record {
  processors = default_processors (default_row n);
  buses = default_buses (default_row n);
  ios = default_ios (default_row n);
  ints = default_ints n;
  lints = default_lints;
  imcr = imcr;
  local_address = 0xFEE00000;
}

-- the platform of the tables; there is an IMCR where bit 7 of feature byte 2 is set (section 4.1)
abbrev pub platform_of : Tables → Platform
platform_of t = platform_of_body (slice_index t.pointer.features 1 / 128 % 2 == 1) t.body

-- the first processor with EN and BP
abbrev pub boot_processor_of : Platform → Option Processor
boot_processor_of p = find is_boot_processor p.processors

-- the platform has fewer than 32,768 entries of each kind
pub record IsSmallPlatform (p : Platform) : Type 0 where
  pub processors : length p.processors < 32768
  pub buses : length p.buses < 32768
  pub ios : length p.ios < 32768
  pub ints : length p.ints < 32768
  pub lints : length p.lints < 32768
