-- Where nothing is refused, the tables fill their regions, and the disc's warnings the first words.
use Rattle.std.specs.Prelude.{◌≡◌, ℕ, ◌≤◌, List, length, map}
use Rattle.std.proofs.Common.{ap, ◌∙◌, arith, zero-add, rules}
use Rattle.std.proofs.lemmas.List.{length-map}
use Rattle.std.proofs.lemmas.List.Edits.{sets}
use Rattle.sectors.specs.Fill.{part, fill}
use Rattle.sectors.specs.FillLaws.{sets_fill}
use Rattle.sectors.specs.Sector.{run_data}
use Rattle.sectors.specs.Source.{image_source}
use Rattle.sectors.proofs.SourceLaws.{image_sized}
use Rattle.area.specs.Lent.{counted}
use Rattle.area.specs.LentLaws.{counted_all}
use Rattle.area.specs.Warning.{word_of}
use Rattle.area.specs.declared.warning.Warning.{Warning}
use Rattle.disc.specs.Disc.{image_master, master_copies_differ, disc_warnings, work_after}
use Rattle.disc.specs.FetchFillLaws.{master_length}
use Rattle.disc.specs.FetchLaws.{Opens, opens}
use Rattle.disc.specs.Master.{master_lsn, master_sectors, master_bytes}
use Rattle.disc.specs.Refusal.{refused_by}
use Rattle.disc.specs.RegionLaws.{master_held}
use Rattle.disc.specs.Slot.{master_region}
use Rattle.disc.specs.Steps.{refusal_of, fetched_of, opened_of, opened_words}
use Rattle.disc.specs.WarningBounds.{disc_warnings_few}
use Rattle.disc.specs.declared.fetch.Fetched.{Fetched}
use Rattle.disc.proofs.disc.open.Goals as goal

-- the disc's warnings, written from the first word on
module _ (words : List ℕ) (few : 3 ≤ length words) (given ws : List Warning) (e : given ≡ ws) (most : length ws ≤ 3) where
  all_counted : (n : ℕ) → n ≡ counted words 0 given → n ≡ length ws
  all_counted n c = c ∙ ap (counted words 0) e ∙ counted_all words 0 ws (omega arith) ∙ zero-add (length ws)

  all_written : (after : List ℕ) → after ≡ sets words 0 (map word_of given) → after ≡ fill 0 (map word_of ws) words
  all_written after w =
      w ∙ ap (λ (l : List Warning). sets words 0 (map word_of l)) e ∙ sets_fill 0 (map word_of ws) words (omega (arith, length-map ws word_of))

-- the disc's warnings, by what was fetched
found : (format : ℕ) (image work words : List ℕ) (records : ℕ) → Opens format image (length work) records (length words)
    → (fetched : Fetched) (filled region : List ℕ) (n : ℕ) (noted : List ℕ)
    → fetched ≡ fetched_of (image_source format image) (run_data format image master_lsn master_sectors)
    → filled ≡ work_after (image_source format image) (run_data format image master_lsn master_sectors) work
    → region ≡ part master_region master_bytes filled
    → n ≡ counted words 0 (disc_warnings fetched.differ region)
    → noted ≡ sets words 0 (map word_of (disc_warnings fetched.differ region))
    → (n ≡ length (disc_warnings (master_copies_differ (image_source format image) (run_data format image master_lsn master_sectors)) (run_data format image master_lsn master_sectors)))
    × (noted ≡ fill 0 (map word_of (disc_warnings (master_copies_differ (image_source format image) (run_data format image master_lsn master_sectors)) (run_data format image master_lsn master_sectors))) words)
unfolding fetched_of
found format image work words records o fetched filled region n noted known held_in kept count writes =
    let source = image_source format image in let table = run_data format image master_lsn master_sectors in
    let held = kept ∙ ap (part master_region master_bytes) held_in ∙ master_held source (image_sized format image) table work (master_length format image o.there) o.enough_work in
    let given : disc_warnings fetched.differ region ≡ disc_warnings (master_copies_differ source table) table = λ i. disc_warnings (known i).differ (held i) in
    let most = disc_warnings_few (master_copies_differ source table) table in
    let few : 3 ≤ length words = omega (arith, o.enough_words) in
    (all_counted words few _ _ given most n count, all_written words few _ _ given most noted writes)

pub fetch-fetched-requires : goal.fetch-fetched-requires
unfolding refused_by
fetch-fetched-requires c =
    let a = c.args in
    let unrefused : refusal_of (image_master a.image.format a.image.bytes.now (length a.work.now) a.records (length a.words.now)) ≡ 0 = search rules in
    let o = opens a.image.format a.image.bytes.now (length a.work.now) a.records (length a.words.now) unrefused in
    (o.there, o.enough_work)

pub returns-clause-opened : goal.returns-clause-opened
unfolding refused_by fetched_of opened_of
returns-clause-opened c =
    let a = c.args in let image = a.image.bytes.now in let words = a.words.now in let source = image_source a.image.format image in
    let f = c.fetch-fetched in
    let unrefused : refusal_of (image_master a.image.format image (length a.work.now) a.records (length words)) ≡ 0 = search rules in
    let o = opens a.image.format image (length a.work.now) a.records (length words) unrefused in
    let w = found a.image.format image a.work.now words a.records o _ _ _ _ _ f.ensures.known f.ensures.filled c.master_region.ensures c.push_disc-count.ensures.counted c.push_disc-count.ensures.written in
    λ i. record { count = w.0 i; first = (f.ensures.known i).first; second = (f.ensures.known i).second }

pub returns-clause-warned : goal.returns-clause-warned
unfolding refused_by opened_words
returns-clause-warned c =
    let a = c.args in let image = a.image.bytes.now in let words = a.words.now in let source = image_source a.image.format image in
    let f = c.fetch-fetched in
    let unrefused : refusal_of (image_master a.image.format image (length a.work.now) a.records (length words)) ≡ 0 = search rules in
    let o = opens a.image.format image (length a.work.now) a.records (length words) unrefused in
    let w = found a.image.format image a.work.now words a.records o _ _ _ _ _ f.ensures.known f.ensures.filled c.master_region.ensures c.push_disc-count.ensures.counted c.push_disc-count.ensures.written in
    w.1
