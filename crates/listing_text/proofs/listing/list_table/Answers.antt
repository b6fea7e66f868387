-- `listing_text::listing::list_table` meets its contract: the listing fits the page, so all of it is written to its start.
use Rattle.std.proofs.Common.{ap, sym, ◌∙◌, arith}
use Rattle.std.proofs.lemmas.List.Edits.{sets}
use Rattle.area.specs.Lent.{counted}
use Rattle.listing_text.specs.Listing.{listing_of}
use Rattle.listing_text.specs.Page.{appended}
use Rattle.listing_text.specs.PageLaws.{whole_listing}
use Rattle.listing_text.specs.declared.page.Page.{Page}
use Rattle.listing_text.proofs.listing.list_table.Goals as goal

pub shape_of-page : goal.shape_of-page
unfolding appended
shape_of-page c = sym (ap (λ (p : Page). p.bytes.ghost_name) c.put_listing.ensures ∙ c.new-page.ensures.same)

pub returns : goal.returns
unfolding appended
returns c =
    let table = c.args.table.now in let new = c.new-page.ensures in let e = c.put_listing.ensures in
    let w = whole_listing table c.args.page.now (λ i. omega (arith, c.type_inv.table i)) (omega arith) (
      ap (λ (p : Page). p.bytes.now) e ∙ (λ i. sets (new.bytes i) (new.at i) (listing_of table)),
      c.len.ensures ∙ ap (λ (p : Page). p.at) e ∙ (λ i. counted (new.bytes i) (new.at i) (listing_of table)),
    ) in
    record { written = w.0; counted = w.1.0; fits = w.1.1 }
