-- A board's state, of which a part is written.
use Rattle.std.proofs.Common.{◌≡◌, ℕ, List, slice_get, ap, ◌∙◌}
use Rattle.mpb_spec.specs.State.{BoardState, Processor, Place, change_at, change_processor, processor_of}

pub processor_set : (v s : BoardState) (id : ℕ) (f : Processor → Processor) (old new shown : List Processor) → v ≡ s → old ≡ v.processors → new ≡ change_processor id f old → shown ≡ new
    → record v { processors = shown } ≡ record s { processors = change_processor id f s.processors }
processor_set v s id f old new shown same was now is =
    ap (λ (ps : List Processor). record v { processors = ps }) (is ∙ now ∙ ap (change_processor id f) was) ∙ ap (λ (t : BoardState). record t { processors = change_processor id f t.processors }) same

pub processor_read : (v s : BoardState) (id : ℕ) (old : List Processor) → v ≡ s → old ≡ v.processors → processor_of id old ≡ processor_of id s.processors
processor_read v s id old same was = ap (processor_of id) (was ∙ ap (λ (t : BoardState). t.processors) same)

pub place_set : (v s : BoardState) (at n : ℕ) (f : Place → Place) (old new shown : List Place) → v ≡ s → old ≡ v.places → n ≡ at → new ≡ change_at n f old → shown ≡ new
    → record v { places = shown } ≡ record s { places = change_at at f s.places }
place_set v s at n f old new shown same was here now is =
    ap (λ (ps : List Place). record v { places = ps }) (is ∙ now ∙ ap (λ (k : ℕ). change_at k f old) here ∙ ap (change_at at f) was) ∙ ap (λ (t : BoardState). record t { places = change_at at f t.places }) same

pub place_read : (v s : BoardState) (at n : ℕ) (old : List Place) → v ≡ s → old ≡ v.places → n ≡ at → slice_get old n ≡ slice_get s.places at
place_read v s at n old same was here = ap (slice_get old) here ∙ ap (λ (ps : List Place). slice_get ps at) (was ∙ ap (λ (t : BoardState). t.places) same)
