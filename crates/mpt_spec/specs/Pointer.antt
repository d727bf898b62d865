-- The MP floating pointer structure (MultiProcessor Specification 1.4, section 4.1, figure 4-2).
use Rattle.std.specs.Prelude.{◌≡◌, ℕ, List, length, slice_index, codes}
use Rattle.mpt_base.specs.Bytes.{number_at, part, SumsToZero}
use Rattle.mpt_spec.specs.declared.pointer.Pointer.{Pointer}

-- the sixteen bytes are this floating pointer
pub record IsFloatingPointer (p : Pointer) (bytes : List ℕ) : Type 0 where
  pub size : length bytes ≡ 16
  pub signature : part bytes 0 4 ≡ codes "_MP_"
  pub address : p.address ≡ number_at 4 bytes 4
  -- the length in units of sixteen bytes
  pub paragraphs : slice_index bytes 8 ≡ 1
  pub revision : p.revision ≡ slice_index bytes 9
  pub features : p.features ≡ part bytes 11 5
  pub checksum : SumsToZero bytes
