use Rattle.std.proofs.Common.{◌≡◌, sym, subst}
use Rattle.std.specs.Prelude.{◌↔◌}
use Rattle.mpt_spec.specs.declared.tables.Tables.{Tables}
use Rattle.mpt_spec.specs.Canonical.{canonical_of, IsCanonical, FitsInImage}
use Rattle.mpt_spec.proofs.CanonicalLemmas.{IsCanonical-canonical_of, canonical_of-twice, FitsInImage-canonical_of}
use Rattle.mpt_write.proofs.canonical.canon.Goals as goal

pub returns-in-Ok-clause-canonical : goal.returns-in-Ok-clause-canonical
returns-in-Ok-clause-canonical c =
    let t = c.args.tables in
    let form : (record t { pointer = c.cleared.result; body = c.in-Ok.body }) ≡ canonical_of t = λ i. record t { pointer = c.cleared.ensures i; body = c.in-Ok.ensures i } in
    subst IsCanonical (sym form) (IsCanonical-canonical_of t)

pub returns-in-Ok-clause-unmoved : goal.returns-in-Ok-clause-unmoved
returns-in-Ok-clause-unmoved c =
    let t = c.args.tables in
    let form : (record t { pointer = c.cleared.result; body = c.in-Ok.body }) ≡ canonical_of t = λ i. record t { pointer = c.cleared.ensures i; body = c.in-Ok.ensures i } in
    subst (λ (u : Tables). canonical_of u ≡ u) (sym form) (canonical_of-twice t)

pub returns-in-Ok-clause-fits : goal.returns-in-Ok-clause-fits
returns-in-Ok-clause-fits c =
    let t = c.args.tables in
    let form : (record t { pointer = c.cleared.result; body = c.in-Ok.body }) ≡ canonical_of t = λ i. record t { pointer = c.cleared.ensures i; body = c.in-Ok.ensures i } in
    subst (λ (u : Tables). FitsInImage u ↔ FitsInImage t) (sym form) (FitsInImage-canonical_of t)
