-- Laws of the listing: a word tells its warning, and what is listed of a table. Assumes nothing.
use Rattle.std.specs.Prelude.{◌≡◌, Bool, ◌||◌, ℕ, ◌/◌, ◌%◌, ◌≤◌, ◌<◌, length}
use Rattle.std.proofs.Math.Path.{refl}
use Rattle.std.proofs.Math.Bool.{true, false}
use mathlib.Core.List.{List, [], ◌∷◌, map, Memᴰ}
use Rattle.std.proofs.Common.{arith, le-ltb}
use Rattle.std.proofs.Math.Dec.{ltb}
use Rattle.area.specs.Limits.{max_tracks}
use Rattle.area.specs.Refusal.{no_audio_areas, odd_table}
use Rattle.area.specs.Table.{skips, yields}
use Rattle.area.specs.Warning.{word_of}
use Rattle.area.proofs.WarningLaws.{word_value}
use Rattle.area.specs.Lone.{is_odd_table, reads, lone_of, table_words}
use Rattle.area.proofs.LoneLaws.{lone_odd}
use Rattle.area.specs.declared.area.Area.{Area}
use Rattle.area.specs.declared.track.Track.{Track}
use Rattle.area.specs.declared.warning.Warning.{Warning}
use Rattle.listing_text.specs.Listing.{sections_of, refused_line, lone_listing, max_listed, listing_of, warning_of}

-- a warning whose slot and track are bytes is told by its word
pub word_told : (w : Warning) → w.slot < 256 → w.track < 256 → warning_of (word_of w) ≡ w
unfolding warning_of
word_told w s t =
    let code : word_of w / 65536 ≡ w.code = omega (arith, word_value w) in
    let slot : word_of w / 256 % 256 ≡ w.slot = omega (arith, word_value w) in
    let track : word_of w % 256 ≡ w.track = omega (arith, word_value w) in
    λ i. record { code = code i; slot = slot i; track = track i }

pub words_told : (ws : List Warning) → ((w : Warning) → Memᴰ w ws → (w.slot < 256) × (w.track < 256)) → map warning_of (map word_of ws) ≡ ws
words_told [] small = refl
words_told (w ∷ ws) small =
    let here = small w (Memᴰ.head refl) in
    λ i. word_told w here.0 here.1 i ∷ words_told ws (λ v m. small v (Memᴰ.tail m)) i

module _ (table : List ℕ) where
  -- longer, or odd
  pub listing_odd : ltb max_listed (length table) || is_odd_table (length table) ≡ true → listing_of table ≡ refused_line odd_table
  unfolding listing_of lone_listing
  listing_odd = go (ltb max_listed (length table)) refl
    where
      go : (t : Bool) → ltb max_listed (length table) ≡ t → t || is_odd_table (length table) ≡ true → listing_of table ≡ refused_line odd_table
      go true long odd = simp long
      go false short odd = simp (short, lone_odd table max_tracks table_words odd)

  module _ (short : length table ≤ max_listed) where
    pub listing_skipped : (w : Warning) → lone_of table max_tracks table_words ≡ reads (skips w) → listing_of table ≡ refused_line no_audio_areas
    unfolding listing_of lone_listing
    listing_skipped w e = simp (le-ltb max_listed (length table) short, e)

    pub listing_yielded : (area : Area) (tracks : List Track) (warnings : List Warning) → lone_of table max_tracks table_words ≡ reads (yields area tracks warnings)
        → listing_of table ≡ sections_of area tracks warnings
    unfolding listing_of lone_listing
    listing_yielded area tracks warnings e = simp (le-ltb max_listed (length table) short, e)
