use Rattle.std.proofs.Common.{◌≡◌, ◌+◌, ◌++◌, length, ap, ◌∙◌, length-append}
use Rattle.std.specs.Prelude.{sum_by}
use Rattle.std.specs.List.{flat_map}
use Rattle.mpt_base.specs.Writing.{checksum_of}
use Rattle.mpt_spec.specs.Extended.{ext_length}
use Rattle.mpt_spec.specs.Image.{ext_bytes, base_table_bytes}
use Rattle.mpt_write.proofs.block.table_bytes.Goals as goal

pub ext_part-requires : goal.ext_part-requires
ext_part-requires c = record { lawful = rw c.as_slice.ensures c.requires.well_formed.lawful }

pub base_table-requires : goal.base_table-requires
base_table-requires c = record {
  base_fits = c.requires.well_formed.base_fits;
  ext_fits = rw (ap length c.as_slice-2.ensures.value ∙ c.in-Ok.ensures.size ∙ ap (sum_by ext_length) c.as_slice.ensures) c.requires.well_formed.ext_fits;
}

pub returns-in-Ok-append : goal.returns-in-Ok-append
returns-in-Ok-append c =
    let t = c.args.table.now in
    let base = c.in-Ok-base_table.ensures in
    let ok = c.in-Ok-append.ensures.ok in
    let part : c.in-Ok.ext_part.items ≡ flat_map ext_bytes t.ext = c.in-Ok.ensures.bytes ∙ ap (flat_map ext_bytes) c.as_slice.ensures in
    let before : c.as_slice-2.result.now ≡ flat_map ext_bytes t.ext = c.as_slice-2.ensures.value ∙ part in
    let behind : c.as_slice-3.result.now ≡ flat_map ext_bytes t.ext = c.as_slice-3.ensures.value ∙ part in
    record {
      bytes = ok ∙ ap (λ xs. xs ++ c.as_slice-3.result.now) base.bytes ∙ (λ i. base_table_bytes t (checksum_of (base_table_bytes t 0 (before i))) (before i) ++ behind i);
      size =
          ap length ok ∙ length-append c.in-Ok-base_table.bytes.items c.as_slice-3.result.now
          ∙ (λ i. base.size i + (ap length c.as_slice-3.ensures.value ∙ c.in-Ok.ensures.size ∙ ap (sum_by ext_length) c.as_slice.ensures) i);
    }
