-- Each answer comes exactly where it is right, since a text is the listing of one set of tables or has one first bad line.
use Rattle.std.proofs.Common.{ℕ, List, ap, ◌∙◌, subst}
use Rattle.std.specs.Prelude.{IfOk, IfErr, Result, Ok, Err}
use Rattle.mpt_spec.specs.declared.tables.Tables.{Tables}
use Rattle.mpt_spec.specs.Canonical.{block_size, FitsInImage}
use Rattle.mpt_parse.specs.declared.fault.LineWhy.{LineWhy}
use Rattle.mpt_parse.specs.declared.fault.ListingFault.{ListingFault}
use Rattle.mpt_parse.specs.declared.fault.ListingFault.TheVariants as fault
use Rattle.mpt_parse.specs.Listings.{IsListing, IsListingOf, IsFirstBadLine, IsCauseOf, AnswersTables, AnswersUnfit, AnswersLine}
use Rattle.mpt_parse.proofs.Unique.{listing_is_one, listing_is_not_bad, bad_line_is_one}

pub only_tables : (text : List ℕ) (r : Result Tables ListingFault) → IfOk r (λ t. IsListingOf t text) → IfErr r (IsCauseOf text) → (t : Tables) → IsListingOf t text → FitsInImage t → AnswersTables r t
only_tables text (Ok u) h e t k f = listing_is_one u t text h k
only_tables text (Err (fault.Line n w)) h e t k f = listing_is_not_bad t text n w k e
only_tables text (Err (fault.DoesNotFit bytes)) h e t k f = e.2 (subst FitsInImage (listing_is_one t e.0 text k e.1) f)
only_tables text (Err fault.NoMemory) h e t k f = tt

pub only_unfit : (text : List ℕ) (r : Result Tables ListingFault) → IfOk r (λ t. IsListingOf t text) → IfOk r FitsInImage → IfErr r (IsCauseOf text) → (t : Tables) → IsListingOf t text → (FitsInImage t → ⊥) → AnswersUnfit r (block_size t.body)
only_unfit text (Ok u) h g e t k f = f (subst FitsInImage (listing_is_one u t text h k) g)
only_unfit text (Err (fault.Line n w)) h g e t k f = listing_is_not_bad t text n w k e
only_unfit text (Err (fault.DoesNotFit bytes)) h g e t k f = e.3 ∙ ap (λ (u : Tables). block_size u.body) (listing_is_one e.0 t text e.1 k)
only_unfit text (Err fault.NoMemory) h g e t k f = tt

pub only_line : (text : List ℕ) (r : Result Tables ListingFault) → IfOk r (λ t. IsListingOf t text) → IfErr r (IsCauseOf text) → (n : ℕ) (w : LineWhy) → IsFirstBadLine IsListing text n w → AnswersLine r n w
only_line text (Ok u) h e n w b = listing_is_not_bad u text n w h b
only_line text (Err (fault.Line m v)) h e n w b = bad_line_is_one text m n v w e b
only_line text (Err (fault.DoesNotFit bytes)) h e n w b = listing_is_not_bad e.0 text n w e.1 b
only_line text (Err fault.NoMemory) h e n w b = tt
