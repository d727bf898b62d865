-- The parts of which a line is made.
use Rattle.std.specs.Prelude.{ℕ, List, decimal}
use Rattle.mpt_listing.specs.declared.text.Part.{Part}
use Rattle.mpt_listing.specs.declared.text.Part.TheVariants.{Text, Hex, Decimal, HexBytes, Quoted}
use Rattle.mpt_listing.specs.Listing.{hex, hex_bytes, quoted}

-- what a part writes
abbrev pub part_text : Part → List ℕ
part_text (Text text) = text.now
part_text (Hex digits number) = hex digits number
part_text (Decimal number) = decimal number
part_text (HexBytes bytes) = hex_bytes bytes.now
part_text (Quoted bytes) = quoted bytes.now
