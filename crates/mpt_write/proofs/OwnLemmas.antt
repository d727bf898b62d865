-- What stands in an image at the address of a floating pointer is the block of its body.
use Rattle.std.proofs.Common.{◌≡◌, ℕ, List, length, refl}
use Rattle.mpt_base.specs.Bytes.{part, IsByteList}
use Rattle.mpt_spec.specs.declared.pointer.Pointer.{Pointer}
use Rattle.mpt_spec.specs.declared.tables.Body.{Body}
use Rattle.mpt_spec.specs.declared.tables.Body.TheVariants as body
use Rattle.mpt_spec.specs.Table.{IsBodyOf}
use Rattle.mpt_spec.specs.Image.{body_bytes}
use Rattle.mpt_spec.proofs.SpellingLemmas.{IsConfigurationTable-spelled}

pub IsBodyOf-spelled : (b : Body) (p : Pointer) (image : List ℕ) → IsByteList image → IsBodyOf b p image → part image p.address (length (body_bytes b)) ≡ body_bytes b
IsBodyOf-spelled (body.Default n) p image bytes h = refl
IsBodyOf-spelled (body.Listed t) p image bytes h = IsConfigurationTable-spelled t image p.address bytes h.2
