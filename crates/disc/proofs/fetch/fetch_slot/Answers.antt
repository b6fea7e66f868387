-- The chosen copy of a slot fills its region, with which the second copy is then compared.
use Rattle.std.specs.Prelude.{◌≡◌, cond, ◌&&◌, ◌||◌}
use Rattle.std.proofs.Common.{ap, ◌∙◌}
use Rattle.sectors.specs.Fill.{part, fill}
use Rattle.sectors.specs.FillLaws.{slice_part}
use Rattle.sectors.specs.Run.{read_into}
use Rattle.sectors.specs.Source.{image_source}
use Rattle.area.specs.Limits.{max_table_bytes}
use Rattle.disc.specs.Copies.{copies_of, chosen, bytes_of, chosen_lsn}
use Rattle.disc.specs.FetchFillLaws.{fetched_copy, fetched_differ}
use Rattle.disc.specs.FetchLaws.{first_readable_lem, second_readable_lem}
use Rattle.disc.specs.Steps.{second_differs}
use Rattle.disc.proofs.fetch.fetch_slot.Goals as goal

pub returns : goal.returns
unfolding copies_of
returns c =
    let a = c.args in let image = a.image.bytes.now in let old = a.work.now in let p = a.pointer in
    let one = c.first_readable-toc1.ensures in let two = c.second_readable-toc2.ensures in
    let filled : c.fetch_copy.new.work ≡ fill a.at (bytes_of (chosen (image_source a.image.format image) p)) old =
    c.fetch_copy.ensures
    ∙ (λ i. cond (one i || two i) (read_into a.image.format image ((c.chosen_lsn-lsn.ensures ∙ ap (chosen_lsn p) one) i).0 p.toc_sectors a.at old) old)
    ∙ fetched_copy a.image.format image p c.requires.0 a.at old c.requires.1 in
    record {
      known = λ i. record {
        pointer = p;
        toc1 = (one ∙ first_readable_lem a.image.format image p) i;
        toc2 = (two ∙ second_readable_lem a.image.format image p) i;
        differ =
            (c.second_differs-differ.ensures
            ∙ (λ j. second_differs a.image.format image (one j && two j) p ((slice_part a.at max_table_bytes _ ∙ ap (part a.at max_table_bytes) filled) j))
            ∙ fetched_differ a.image.format image p c.requires.0 a.at old c.requires.1) i;
      };
      filled = filled;
    }
