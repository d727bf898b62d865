use Rattle.std.proofs.Common.{ℕ, ◌+◌, ◌≤◌, refl, subst}
use Rattle.mpt_parse.specs.Listings.{IsListingOf}
use Rattle.mptab_walk.specs.Forms.{Listing}
use Rattle.mptab_walk.specs.Ending.{shelves_of}
use Rattle.mptab_walk.specs.Limited.{RefusesListing}
use Rattle.mptab_walk.proofs.LimitedLemmas.{held-taken, held-ended, both-ok, most_within-most, listing-refused}
use Rattle.mptab_walk.proofs.listing.take_listing.Goals as goal

pub returns-in-Ok-clause-tables : goal.returns-in-Ok-clause-tables
returns-in-Ok-clause-tables g c =
    both-ok c.tables_in.result _ _ c.tables_in.ensures.fits
    (held-taken (g.S.Shelf.files c.args.shelf.now) (Listing c.args.name.now) c.in-Ok.bytes.items c.in-Ok.ensures.bytes c.tables_in.result (λ t text. IsListingOf t text) (rw c.as_slice.ensures.value at c.tables_in.ensures.tables))

pub returns-in-Ok-clause-ends : goal.returns-in-Ok-clause-ends
returns-in-Ok-clause-ends g c =
    held-ended (g.S.Shelf.files c.args.shelf.now) (Listing c.args.name.now) c.in-Ok.bytes.items c.in-Ok.ensures.bytes c.tables_in.result (shelves_of g.S.Shelf c.args.shelf.now c.take_bytes.new.shelf) (RefusesListing c.in-Ok.bytes.items) c.in-Ok.ensures.quiet
    (listing-refused (g.S.Shelf.files c.args.shelf.now) c.args.name.now c.in-Ok.bytes.items c.in-Ok.ensures.bytes) (rw c.as_slice.ensures.value at c.tables_in.ensures.refused)

pub returns-in-Err-clause-ends : goal.returns-in-Err-clause-ends
returns-in-Err-clause-ends g c = c.in-Err.ensures.ends (Listing c.args.name.now) refl refl

pub returns-in-Ok-clause-asks : goal.returns-in-Ok-clause-asks
returns-in-Ok-clause-asks g c = subst (λ (n : ℕ). g.S.Shelf.asked c.take_bytes.new.shelf ≤ g.S.Shelf.asked c.args.shelf.now + n) (most_within-most (g.S.Shelf.files c.args.shelf.now) (Listing c.args.name.now) (λ n. refl)) c.in-Ok.ensures.asks

pub returns-in-Err-clause-asks : goal.returns-in-Err-clause-asks
returns-in-Err-clause-asks g c = subst (λ (n : ℕ). g.S.Shelf.asked c.take_bytes.new.shelf ≤ g.S.Shelf.asked c.args.shelf.now + n) (most_within-most (g.S.Shelf.files c.args.shelf.now) (Listing c.args.name.now) (λ n. refl)) c.in-Err.ensures.asks
