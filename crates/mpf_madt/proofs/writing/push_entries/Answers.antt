use Rattle.std.proofs.Common.{List, [], ◌∷◌, ◌++◌, take, sym, ap, ◌∙◌, arith, append-nil}
use Rattle.std.specs.List.{flat_map}
use Rattle.std.proofs.lemmas.List.{take_more, take_all, flat_map_more}
use Rattle.mpf_madt.specs.declared.madt.MadtEntry.{MadtEntry}
use Rattle.mpf_madt.specs.Spelling.{entry_bytes}
use Rattle.mpf_madt.proofs.writing.push_entries.Goals as goal

pub loop-entry-preserved : goal.loop-entry-preserved
loop-entry-preserved c =
    let es = c.args.entries.now in
    let i = c.loop-entry.entry-index in
    let e : MadtEntry = c.entry-item.result in
    let start = c.args.out.now.items in
    c.in-Ok.ensures ∙ ap (λ text. text ++ entry_bytes e) c.loop-entry.invariant ∙ flat_map_more entry_bytes start (take i es) e
    ∙ ap (λ (xs : List MadtEntry). start ++ flat_map entry_bytes xs) (ap (λ (x : MadtEntry). take i es ++ x ∷ []) c.entry-item.is ∙ sym (take_more es i e (omega (arith, c.loop-entry-test.true))))

pub loop-entry-init : goal.loop-entry-init
loop-entry-init c = sym (append-nil c.args.out.now.items)

pub returns : goal.returns
returns c = c.loop-entry.invariant ∙ ap (λ (xs : List MadtEntry). c.args.out.now.items ++ flat_map entry_bytes xs) (take_all c.loop-entry.entry-index c.args.entries.now c.loop-entry-test.false)
