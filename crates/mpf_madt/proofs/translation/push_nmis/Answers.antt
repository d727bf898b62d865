use Rattle.std.proofs.Common.{◌<◌, ◌++◌, List, length, ap, sym, ◌∙◌, append-nil, arith}
use Rattle.std.proofs.lemmas.List.{take_all}
use Rattle.mpt_spec.specs.declared.entry.IntEntry.{IntEntry}
use Rattle.mpf_madt.specs.Translation.{nmi_of, nmis_of}
use Rattle.mpf_madt.proofs.FirstLemmas.{none_of}
use Rattle.mpf_madt.proofs.TranslationLemmas.{member_appends, member_leaves}
use Rattle.mpf_madt.proofs.translation.push_nmis.Goals as goal
use Rattle.mpf_madt.proofs.translation.push_nmis.Goals.{in-Some+in-Ok, in_default}

-- what the code's indexing names past the end
d : IntEntry
d = record { kind = 0; flags = 0; bus = 0; irq = 0; dest = 0; pin = 0 }

pub loop-e-preserved : goal.loop-e-preserved
unfolding d
loop-e-preserved c =
    let es = c.args.lints.now in
    let i = c.loop-e.e-index in
    let inside : i < length es = omega (arith, c.loop-e-test.true) in
    let f = nmi_of c.args.processors.now in
    elim c.match-nmi_of.branch [
      | in-Some+in-Ok w ↦ member_appends f es i d w.in-Some.entry c.args.out.now.items c.loop-e.out.items c.match-nmi_of.out.items inside (sym c.nmi_of.ensures ∙ w.in-Some.is) c.loop-e.invariant (ap (λ v. v.items) w.out-is ∙ w.in-Ok.ensures.items)
      | in_default w ↦ member_leaves f es i d c.args.out.now.items c.match-nmi_of.out.items inside (sym c.nmi_of.ensures ∙ none_of c.nmi_of.result w.in_default.not-Some) (ap (λ v. v.items) w.out-is ∙ c.loop-e.invariant)
    ]

pub loop-e-init : goal.loop-e-init
loop-e-init c = sym (append-nil c.args.out.now.items)

pub returns : goal.returns
returns c = c.loop-e.invariant ∙ ap (λ (xs : List IntEntry). c.args.out.now.items ++ nmis_of c.args.processors.now xs) (take_all c.loop-e.e-index c.args.lints.now c.loop-e-test.false)
