-- Laws of tables and differences. A variable here ranges over every value, so that a byte is one below 256 by a premise.
use Rattle.std.specs.Prelude.{◌≡◌, ◌↔◌, ℕ, List, [], Some, None}
use Rattle.mpt_base.specs.Bytes.{IsByteList}
use Rattle.mpt_route.specs.declared.platform.Platform.{Platform}
use Rattle.mpf_pir.specs.declared.pins.Pin.{Pin}
use Rattle.mpf_pir.specs.declared.pins.Wire.{Wire}
use Rattle.mpf_pir.specs.declared.table.Pir.{Pir}
use Rattle.mpf_pir.specs.declared.comparing.Difference.{Difference}
use Rattle.mpf_pir.specs.Layout.{IsPir}
use Rattle.mpf_pir.specs.Pins.{wire_at}
use Rattle.mpf_pir.specs.Made.{pir_of}
use Rattle.mpf_pir.specs.Differences.{IsPin, link_at, AreDifferencesOf}

-- bytes are one table at most
abbrev pub IsReadBack : Type 0
IsReadBack = (t u : Pir) (bytes : List ℕ) → IsPir t bytes → IsPir u bytes → t ≡ u

-- a table is one list of bytes at most
abbrev pub IsWrittenBack : Type 0
IsWrittenBack = (t : Pir) (a b : List ℕ) → IsByteList a → IsByteList b → IsPir t a → IsPir t b → a ≡ b

-- the differences are one list
abbrev pub HasOneListOfDifferences : Type 0
HasOneListOfDifferences = (p : Platform) (t : Pir) (ds es : List Difference) → AreDifferencesOf p t ds → AreDifferencesOf p t es → ds ≡ es

-- the table that is made for a platform has no difference from it
abbrev pub AgreesWithItsPlatform : Type 0
AgreesWithItsPlatform = (p : Platform) → AreDifferencesOf p (pir_of p) []

-- it connects the pins of which the platform's entries speak, and no others
abbrev pub ConnectsItsPins : Type 0
ConnectsItsPins = (p : Platform) (q : Pin) → IsPin q → (link_at (pir_of p) q ≡ None) ↔ (wire_at p q ≡ None)

-- and two of them with one link exactly where they have one wire
abbrev pub LinksItsWires : Type 0
LinksItsWires = (p : Platform) (q r : Pin) (v w : Wire) → IsPin q → IsPin r → wire_at p q ≡ Some v → wire_at p r ≡ Some w → (link_at (pir_of p) q ≡ link_at (pir_of p) r) ↔ (v ≡ w)
