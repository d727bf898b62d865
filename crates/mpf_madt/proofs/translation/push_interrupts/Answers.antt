use Rattle.std.proofs.Common.{◌≡◌, ◌++◌, List, ap, ◌∙◌, append_assoc}
use Rattle.mpf_madt.specs.declared.madt.MadtEntry.{MadtEntry}
use Rattle.mpf_madt.specs.Translation.{overrides_of, nmis_of}
use Rattle.mpf_madt.proofs.translation.push_interrupts.Goals as goal

pub returns : goal.returns
returns c =
    let p = c.args.p.now in
    let start = c.args.out.now.items in
    let joined : c.push_overrides.new.out.items ++ nmis_of c.as_slice.result.now c.as_slice-2.result.now ≡ start ++ (overrides_of p c.args.answers.now ++ nmis_of p.processors p.lints) =
    ap (λ (xs : List MadtEntry). xs ++ nmis_of c.as_slice.result.now c.as_slice-2.result.now) c.in-Ok.ensures
    ∙ append_assoc start (overrides_of p c.args.answers.now) (nmis_of c.as_slice.result.now c.as_slice-2.result.now)
    ∙ (λ i. start ++ (overrides_of p c.args.answers.now ++ nmis_of (c.as_slice.ensures i) (c.as_slice-2.ensures i))) in
    rw joined at c.push_nmis.ensures
