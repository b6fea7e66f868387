-- The listing lies within the page.
use Rattle.std.proofs.Common.{sym, length-take-le}
use Rattle.listing_text.specs.PageLaws.{listing_within}
use Rattle.replay.proofs.print_listing.Goals as goal

pub slice_bounds-page-end : goal.slice_bounds-page-end
slice_bounds-page-end g c =
    let e = c.list_table-len.ensures in
    listing_within _ _ (e.written, (e.counted, e.fits))

pub slice_bounds-write_all-end : goal.slice_bounds-write_all-end
slice_bounds-write_all-end g c =
    let e = c.list_table-len.ensures in
    sym (length-take-le _ _ (listing_within _ _ (e.written, (e.counted, e.fits))))
