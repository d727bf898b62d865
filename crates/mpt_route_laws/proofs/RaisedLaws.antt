-- Raised tables have the platform of the tables.
use Rattle.std.proofs.Common.{◌≡◌, Bool, refl}
use Rattle.std.specs.Prelude.{◌/◌, ◌%◌, ◌==◌, slice_index}
use Rattle.mpt_spec.specs.declared.tables.Body.{Body}
use Rattle.mpt_spec.specs.declared.tables.Body.TheVariants as body
use Rattle.mpt_spec.specs.declared.tables.Tables.{Tables}
use Rattle.mpt_spec.specs.Canonical.{raised_body, raised_of}
use Rattle.mpt_route.specs.Platform.{platform_of_body, platform_of}

body-raised : (imcr : Bool) (b : Body) → platform_of_body imcr (raised_body b) ≡ platform_of_body imcr b
body-raised imcr (body.Default n) = refl
body-raised imcr (body.Listed t) = refl

pub platform_of-raised_of : (tables : Tables) → platform_of (raised_of tables) ≡ platform_of tables
platform_of-raised_of tables = body-raised (slice_index tables.pointer.features 1 / 128 % 2 == 1) tables.body
