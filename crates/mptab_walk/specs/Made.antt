-- Tables of firmware that are made of a platform, as code says it. Only private functions of the crate cite this.
--     IsMadtOf p answers status text    the MADT that says what the platform and these routes say, or how many processors are too many
--     IsPirOf p status text             the PCI IRQ routing table that says what the platform says, or how many slots or links are too many
use Rattle.std.specs.Prelude.{◌≡◌, ◌<◌, ◌≤◌, ℕ, List, length, ◌⊎◌}
use Rattle.mpt_base.specs.Bytes.{IsByteList}
use Rattle.mpt_route.specs.declared.platform.Platform.{Platform}
use Rattle.mpt_route.specs.declared.route.Answer.{Answer}
use Rattle.mpf_madt.specs.Table.{IsMadt}
use Rattle.mpf_madt.specs.Translation.{madt_of}
use Rattle.mpf_pir.specs.declared.making.MakeFault.{MakeFault}
use Rattle.mpf_pir.specs.Layout.{IsPir}
use Rattle.mpf_pir.specs.Made.{pir_of, IsMakeFault}
use Rattle.mpf_answers.specs.FaultLines.{many_processors_line, make_fault_line}

abbrev pub IsMadtOf : Platform → List Answer → ℕ → List ℕ → Type 0
IsMadtOf p answers status text =
    ((status ≡ 0) × (length p.processors ≤ 255) × IsByteList text × IsMadt (madt_of p answers) text)
    ⊎ ((status ≡ 13) × (255 < length p.processors) × (text ≡ many_processors_line (length p.processors)))

abbrev pub IsPirOf : Platform → ℕ → List ℕ → Type 0
IsPirOf p status text =
    ((status ≡ 0) × ((f : MakeFault) → ¬ IsMakeFault p f) × IsByteList text × IsPir (pir_of p) text)
    ⊎ ((status ≡ 15) × (f : MakeFault) × IsMakeFault p f × (text ≡ make_fault_line f))
