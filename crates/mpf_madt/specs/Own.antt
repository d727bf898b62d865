-- What private functions cite: a header without a fault.
use Rattle.std.specs.Prelude.{◌≡◌, ℕ, ◌≤◌, List, length, codes}
use Rattle.mpt_base.specs.Bytes.{number_at, part, SumsToZero}

pub record HasSoundHeader (bytes : List ℕ) : Type 0 where
  pub whole : 44 ≤ length bytes
  pub signature : part bytes 0 4 ≡ codes "APIC"
  pub size : number_at 4 bytes 4 ≡ length bytes
  pub checksum : SumsToZero bytes
