-- Laws of one track: its times, its warning of them, its number. Assumes nothing.
use Rattle.std.specs.Prelude.{◌≡◌, ◌⊎◌, Bool, true, false, cond, Option, None, Some, List, [], ◌∷◌, ℕ, ◌+◌, ◌≤◌, ltb, eqb, length}
use Rattle.std.specs.Option.{option_map_or}
use Rattle.std.proofs.Math.Path.{refl}
use Rattle.std.proofs.Common.{inl, inr, subst, arith}
use Rattle.sectors.specs.Number.{be_at}
use Rattle.area.specs.Items.{Item, items_from}
use Rattle.area.specs.TextPlaces.{placed_text}
use Rattle.area.specs.Warning.{number_of, track_text_offset_invalid, track_text_type_unknown, track_past_playtime}
use Rattle.area.specs.TrackText.{item_index, no_items, keep_at, keep, keep_all, items_kept, no_text, text_offset, text_at, text_behind, track_text_of}
use Rattle.area.specs.Timecode.{frame_number}
use Rattle.area.specs.Cap.{exceeds}
use Rattle.area.specs.CapLaws.{cap_within, cap_warned}
use Rattle.area.specs.Track.{stored_times, capped_times, times_of, track_of, no_track}
use Rattle.area.specs.declared.area.Area.{Area}
use Rattle.area.specs.declared.chain.Chain.{Chain}
use Rattle.area.specs.declared.track_text.TrackText.{TrackText}
use Rattle.area.specs.declared.warning.WarningCode.{WarningCode}
use Rattle.area.specs.declared.warning.WarningCode.TheVariants.{TrackTextOffsetInvalid, TrackTextTypeUnknown}

-- the codes of what a track is warned of its text: 12 or 13
abbrev pub TextCode : ℕ → Type 0
TextCode n = (n ≡ track_text_offset_invalid) ⊎ (n ≡ track_text_type_unknown)

abbrev pub TextCoded : Option WarningCode → Type 0
TextCoded w = (code : WarningCode) → w ≡ Some code → TextCode (number_of code)

none_coded : TextCoded None
none_coded code e = absurd cc

some_coded : (code : WarningCode) → TextCode (number_of code) → TextCoded (Some code)
some_coded code is other e = subst (λ (o : Option WarningCode). TextCode (option_map_or number_of o (number_of code))) e is

-- the items give 13 or nothing
keep_coded : (table : List ℕ) (item : Item) (before : TrackText) → TextCoded before.warning → TextCoded (keep table item before).warning
unfolding keep keep_at number_of
keep_coded table item before coded = go (eqb item.len 0) (item_index item.kind)
  where
    go : (empty : Bool) (index : Option ℕ) → TextCoded (cond empty before (keep_at index (placed_text table item.place) before)).warning
    go true index = coded
    go false (Some k) = coded
    go false None = some_coded TrackTextTypeUnknown (inr refl)

all_coded : (table : List ℕ) (items : List Item) (before : TrackText) → TextCoded before.warning → TextCoded (keep_all table items before).warning
unfolding keep_all
all_coded table [] before coded = coded
all_coded table (item ∷ items) before coded = all_coded table items (keep table item before) (keep_coded table item before coded)

coded_by : (none silent cut : Bool) (kept : TrackText) → TextCoded kept.warning
    → TextCoded (cond none (no_text None) (cond silent (no_text None) (cond cut (no_text (Some TrackTextOffsetInvalid)) kept))).warning
unfolding no_text number_of
coded_by true silent cut kept coded = none_coded
coded_by false true cut kept coded = none_coded
coded_by false false true kept coded = some_coded TrackTextOffsetInvalid (inl refl)
coded_by false false false kept coded = coded

-- neither of them is that of the times
code_not_past : (n : ℕ) → TextCode n → n ≡ track_past_playtime → ⊥
code_not_past n (inl q) e = omega (arith, q, e)
code_not_past n (inr q) e = omega (arith, q, e)

module _ (table : List ℕ) (area : Area) (chain : Chain) (i : ℕ) where
  -- start plus duration is at most the play time
  pub track_within : (track_of table area chain i).track.times.start_frame.0 + (track_of table area chain i).track.times.duration_frames.0
      ≤ (frame_number area.playtime).0
  unfolding track_of capped_times times_of
  track_within = cap_within _ _ _

  -- it is warned of its times exactly when the stored sum exceeds the play time
  pub track_warned : (track_of table area chain i).past_playtime
      ≡ exceeds (frame_number (stored_times table chain.trl2 i).start) (frame_number (stored_times table chain.trl2 i).duration) (frame_number area.playtime)
  unfolding track_of capped_times
  track_warned = cap_warned _ _ _

  pub track_number : (track_of table area chain i).track.number ≡ i + 1
  unfolding track_of
  track_number = refl

  pub text_code : TextCoded (track_of table area chain i).text_warning
  unfolding track_of track_text_of text_behind text_at items_kept no_text
  text_code =
      let block = chain.ttxt in let offset = text_offset table block i in let items = items_from table (block + offset + 4) (be_at table (block + offset) 1) in
      coded_by (eqb block 0) (eqb offset 0) (ltb (length table) (block + offset + 4)) (keep_all table items no_items) (all_coded table items no_items none_coded)

  pub text_not_past : (code : WarningCode) → (track_of table area chain i).text_warning ≡ Some code → number_of code ≡ track_past_playtime → ⊥
  text_not_past code some e = code_not_past (number_of code) (text_code code some) e

-- what stands past the end of a list has no number
pub no_track_number : no_track.number ≡ 0
unfolding no_track
no_track_number = refl
