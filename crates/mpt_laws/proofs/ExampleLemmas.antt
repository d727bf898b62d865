-- The worked examples, by computing them.
use Rattle.std.proofs.Common.{◌≡◌, ℕ, ◌%◌, ◌≤◌, List, [], ◌∷◌, ◌++◌, refl, inl, inr, arith}
use Rattle.mpt_base.specs.Bytes.{part}
use Rattle.mpt_spec.specs.Pointer.{IsFloatingPointer}
use Rattle.mpt_spec.specs.Search.{HasPointerAt, IsFirstPointerAt, search_places}
use Rattle.mpt_spec.specs.Table.{IsConfigurationTable, Describes}
use Rattle.mpt_spec.specs.Canonical.{IsCanonical, FitsInImage, HasPlaceFor}
use Rattle.mpt_laws.specs.Examples.{one_processor, one_processor_bytes, header_with, entry_with, small_pointer, small_image_with, small_image, small_tables, extended_tables, default_image, default_tables, placed, second_place_image, second_place_tables, board_tables, old_pointer, old_image, old_tables}

-- the floating pointer of the small image, whatever stands behind it
pub small_pointer_there : (table : List ℕ) → IsFloatingPointer small_pointer (part (small_image_with table) 0x500 16)
small_pointer_there table = record { size = refl; signature = refl; address = refl; paragraphs = refl; revision = refl; features = refl; checksum = refl }

pub small_pointer_first : (table : List ℕ) (rest : List ℕ) → search_places (small_image_with table) ≡ 0x500 ∷ rest → IsFirstPointerAt (small_image_with table) 0x500
small_pointer_first table rest places = record { before = []; after = rest; split = places; none_before = tt; holds = (small_pointer, small_pointer_there table) }

small_table_there : IsConfigurationTable one_processor small_image 0x510
small_table_there = record {
  inside = record { base = record { header = omega arith; inside = omega arith }; inside = omega arith };
  header = record { signature = refl; revision = refl; oem = refl; product = refl; oem_table = refl; oem_size = refl; local_address = refl; reserved = refl; old = refl };
  revision = inr refl;
  checksum = refl;
  count = refl;
  base = (record { type_byte = refl; apic = refl; version = refl; flags = refl; signature = refl; features = refl; reserved = refl }, refl);
  ext_checksum = λ _. refl;
  ext = refl;
}

pub Describes-small : Describes small_image small_tables
unfolding search_places
Describes-small = record {
  first = small_pointer_first one_processor_bytes (0x510 ∷ 0x520 ∷ 0x530 ∷ 0x540 ∷ []) refl;
  tables_there = record { pointer = small_pointer_there one_processor_bytes; revision = inr refl; body = (refl, omega arith, small_table_there) };
}

-- the table with an opaque extended entry
abbrev extended_bytes : List ℕ
extended_bytes = header_with 0x40 0x61 1 2 0x36 ++ entry_with 0 ++ 0xC8 ∷ 2 ∷ []

pub Describes-extended : Describes (small_image_with extended_bytes) extended_tables
unfolding search_places
Describes-extended = record {
  first = small_pointer_first extended_bytes (0x510 ∷ 0x520 ∷ 0x530 ∷ 0x540 ∷ []) refl;
  tables_there = record {
    pointer = small_pointer_there extended_bytes;
    revision = inr refl;
    body = (
      refl,
      omega arith,
      record {
        inside = record { base = record { header = omega arith; inside = omega arith }; inside = omega arith };
        header = record { signature = refl; revision = refl; oem = refl; product = refl; oem_table = refl; oem_size = refl; local_address = refl; reserved = refl; old = refl };
        revision = inr refl;
        checksum = refl;
        count = refl;
        base = (record { type_byte = refl; apic = refl; version = refl; flags = refl; signature = refl; features = refl; reserved = refl }, refl);
        ext_checksum = λ _. refl;
        ext = (record { type_byte = refl; above = omega arith; length_byte = refl; rest = refl }, refl);
      },
    );
  };
}

default_pointer_there : IsFloatingPointer (default_tables 5).pointer (part (default_image 5 0x9B) 0x500 16)
default_pointer_there = record { size = refl; signature = refl; address = refl; paragraphs = refl; revision = refl; features = refl; checksum = refl }

pub Describes-default : Describes (default_image 5 0x9B) (default_tables 5)
unfolding search_places
Describes-default = record {
  first = record { before = []; after = []; split = refl; none_before = tt; holds = ((default_tables 5).pointer, default_pointer_there) };
  tables_there = record { pointer = default_pointer_there; revision = inr refl; body = (refl, omega arith, omega arith) };
}

second_pointer_there : IsFloatingPointer second_place_tables.pointer (part second_place_image 0x510 16)
second_pointer_there = record { size = refl; signature = refl; address = refl; paragraphs = refl; revision = refl; features = refl; checksum = refl }

wrong_sum : ¬ HasPointerAt second_place_image 0x500
wrong_sum h = omega (arith, h.1.checksum)

pub Describes-second_place : Describes second_place_image second_place_tables
unfolding search_places
Describes-second_place = record {
  first = record {
    before = 0x500 ∷ [];
    after = 0x520 ∷ 0x530 ∷ 0x540 ∷ 0x550 ∷ [];
    split = refl;
    none_before = (wrong_sum, tt);
    holds = (second_place_tables.pointer, second_pointer_there);
  };
  tables_there = record {
    pointer = second_pointer_there;
    revision = inr refl;
    body = (
      refl,
      omega arith,
      record {
        inside = record { base = record { header = omega arith; inside = omega arith }; inside = omega arith };
        header = record { signature = refl; revision = refl; oem = refl; product = refl; oem_table = refl; oem_size = refl; local_address = refl; reserved = refl; old = refl };
        revision = inr refl;
        checksum = refl;
        count = refl;
        base = (record { type_byte = refl; apic = refl; version = refl; flags = refl; signature = refl; features = refl; reserved = refl }, refl);
        ext_checksum = λ _. refl;
        ext = refl;
      },
    );
  };
}

pub IsCanonical-board : IsCanonical board_tables
IsCanonical-board = record {
  pointer = (refl, refl, refl, refl);
  body = ((λ one. absurd (omega (arith, one)), λ _. refl), ((omega arith, refl), ((omega arith, refl), omega arith)), omega arith, tt);
}

pub FitsInImage-board : FitsInImage board_tables
FitsInImage-board = record {
  well_formed = record {
    revision = inr refl;
    body = (refl, omega arith, record { revision = inl (refl, refl); lawful = tt; base_fits = omega arith; ext_fits = omega arith });
    paragraph = refl;
  };
  low = omega arith;
  high = omega arith;
  block = record { low = omega arith; high = omega arith; apart = inr (omega arith) };
}

-- a block of 64 bytes with a place, and a floating pointer on a boundary
pub FitsInImage-placed : (at address : ℕ) → at % 16 ≡ 0 → 0x500 ≤ at → at ≤ 0xFFFF0 → HasPlaceFor 64 address at → FitsInImage (placed at address)
FitsInImage-placed at address boundary low high place = record {
  well_formed = record {
    revision = inr refl;
    body = (refl, omega (arith, place.low), record { revision = inl (refl, refl); lawful = tt; base_fits = omega arith; ext_fits = omega arith });
    paragraph = boundary;
  };
  low = low;
  high = high;
  block = place;
}

-- a default configuration, whatever the address
pub FitsInImage-default : (n address : ℕ) → 1 ≤ n → n ≤ 7 → FitsInImage (record (default_tables n) { pointer = record (default_tables n).pointer { address = address } })
FitsInImage-default n address some few = record {
  well_formed = record { revision = inr refl; body = (refl, some, few); paragraph = refl };
  low = omega arith;
  high = omega arith;
  block = tt;
}

-- the image of a table of revision 1
old_pointer_there : IsFloatingPointer old_pointer (part old_image 0x500 16)
old_pointer_there = record { size = refl; signature = refl; address = refl; paragraphs = refl; revision = refl; features = refl; checksum = refl }

pub Describes-old : Describes old_image old_tables
unfolding search_places
Describes-old = record {
  first = record { before = []; after = 0x510 ∷ 0x520 ∷ 0x530 ∷ 0x540 ∷ []; split = refl; none_before = tt; holds = (old_pointer, old_pointer_there) };
  tables_there = record {
    pointer = old_pointer_there;
    revision = inl refl;
    body = (
      refl,
      omega arith,
      record {
        inside = record { base = record { header = omega arith; inside = omega arith }; inside = omega arith };
        header = record { signature = refl; revision = refl; oem = refl; product = refl; oem_table = refl; oem_size = refl; local_address = refl; reserved = refl; old = refl };
        revision = inl refl;
        checksum = refl;
        count = refl;
        base = (record { type_byte = refl; apic = refl; version = refl; flags = refl; signature = refl; features = refl; reserved = refl }, refl);
        ext_checksum = λ new. absurd (new refl);
        ext = refl;
      },
    );
  };
}
