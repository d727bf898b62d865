use Rattle.mptab_walk.proofs.source.take.Goals as goal

pub returns-in-Image : goal.returns-in-Image
returns-in-Image g c =
    let facts = c.take_image.ensures in
    rw c.in-Image.is record { files_stay = facts.files_stay; quiet = facts.quiet; tables = facts.tables; well_formed = facts.well_formed; low = facts.low; ends = facts.ends; asks = facts.asks }

pub returns-in-Listing : goal.returns-in-Listing
returns-in-Listing g c =
    let facts = c.take_listing.ensures in
    rw c.in-Listing.is record { files_stay = facts.files_stay; quiet = facts.quiet; tables = facts.tables; well_formed = facts.well_formed; low = facts.low; ends = facts.ends; asks = facts.asks }
