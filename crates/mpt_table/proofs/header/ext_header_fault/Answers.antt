use Rattle.std.proofs.Common.{refl, arith}
use Rattle.mpt_spec.specs.Table.{HasExtInside}
use Rattle.mpt_table.proofs.TableFaults.{none_before_ext_outside, none_before_ext_checksum}
use Rattle.mpt_table.proofs.header.ext_header_fault.Goals as goal

pub returns-then-image-base_end-clause-some : goal.returns-then-image-base_end-clause-some
returns-then-image-base_end-clause-some c =
    rw c.fault_at.ensures (record {
      stands = (refl, c.requires.right.inside, omega arith);
      least = none_before_ext_outside c.args.image.now c.args.at c.requires.right c.requires.count;
    })

pub returns-then-not-has_ext_checksum-clause-some : goal.returns-then-not-has_ext_checksum-clause-some
returns-then-not-has_ext_checksum-clause-some c =
    let inside : HasExtInside c.args.image.now c.args.at = record { base = c.requires.right.inside; inside = omega arith } in
    rw c.fault_at-then-not-has_ext_checksum.ensures (record {
      stands = (refl, inside, c.if-not-has_ext_checksum.ensures.0, λ e. c.if-not-has_ext_checksum.ensures.1 (rw (c.base_length.ensures, c.ext_length-ext_length.ensures) e));
      least = none_before_ext_checksum c.args.image.now c.args.at c.requires.right c.requires.count inside;
    })
