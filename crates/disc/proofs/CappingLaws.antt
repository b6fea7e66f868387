-- Every track that comes out of a reading keeps to the capping rule: its 14 stands among the warnings of the disc as among those of its table,
-- since no other warning is of its slot, its number and code 14. Assumes nothing.
use Rattle.std.specs.Prelude.{ℕ, ◌≤◌, Bool, true, false, ◌≢◌, ◌⊎◌, ◌≡◌, refl}
use Rattle.std.proofs.Common.{arith, inl, inr, ◌∙◌}
use mathlib.Core.List.Memᴰ
use mathlib.Core.List.{List, ◌++◌, map, Memᴰ}
use Rattle.std.proofs.Math.Option.{Option, none, some}
use Rattle.std.proofs.Math.Path.{sym, ap, subst}
use Rattle.std.proofs.Math.ListN.{length-map}
use Rattle.sectors.specs.Fill.{part}
use Rattle.sectors.specs.FillLaws.{part_filled}
use Rattle.sectors.specs.Format.{foreign}
use Rattle.sectors.specs.Refusal.{foreign_format}
use Rattle.sectors.specs.Source.{Source, Sized, image_source}
use Rattle.sectors.proofs.SourceLaws.{image_sized}
use Rattle.area.specs.Capping.{past_playtime, Capping}
use Rattle.area.proofs.CappingLaws.{capping_shifted, past_playtime_lem, area_capping, area_number, capping_words}
use Rattle.area.specs.Limits.{max_tracks}
use Rattle.area.proofs.StandsLaws.{Shifted, shifted_then, shifted_front, shifted_behind}
use Rattle.area.specs.Warning.{word_of, track_past_playtime}
use Rattle.area.proofs.WarningLaws.{table_warnings_of}
use Rattle.area.specs.declared.track.Track.{Track}
use Rattle.area.specs.declared.warning.Warning.{Warning}
use Rattle.disc.specs.Capping.{TracksCapped}
use Rattle.disc.specs.ChosenLaws.{yielded_area, yielded_tracks}
use Rattle.disc.specs.Copies.{copies_of, copy_warnings, Copy, chosen, table_in, area_in, tracks_in, warnings_in, slot_table, slot_warnings}
use Rattle.disc.specs.Demand3Proof.{known_read}
use Rattle.disc.specs.Disc.{master_copies_differ, disc_warnings, warnings_of, table_of, words_after, reading_of, outcome_of, image_master, read_source, read_disc}
use Rattle.disc.specs.DiscLaws.{Passed, count_back, passed_read, passed_of, refusal_yields}
use Rattle.disc.specs.Master.{pointer_of}
use Rattle.disc.specs.Outcome.{Memory, Outcome, slot_yields}
use Rattle.disc.specs.Slot.{Slot, two_channel, multichannel, slot_number}
use Rattle.disc.specs.SourceCut.{passed_yields}
use Rattle.disc.specs.WarningBounds.{warnings_fit}
use Rattle.disc.specs.WarningLaws.{OwnCode, own_not, every_copies, every_disc, every_table, warning_bytes, slot_number_few}

-- ---- where 14 of a track is not

-- no warning of the disc, or of a slot's copies, has its code
own_not_14 : (n : ℕ) → OwnCode n → n ≢ track_past_playtime
own_not_14 = own_not track_past_playtime (omega arith) (omega arith)

module _ (number : ℕ) where
  -- warning 14 of the track of that number in a slot
  abbrev fourteen : Slot → Warning
  fourteen slot = past_playtime (slot_number slot) number

  its_code : (slot : Slot) → (fourteen slot).code ≡ track_past_playtime
  its_code slot = ap (λ (w : Warning). w.code) (past_playtime_lem (slot_number slot) number)

  its_slot : (slot : Slot) → (fourteen slot).slot ≡ slot_number slot
  its_slot slot = ap (λ (w : Warning). w.slot) (past_playtime_lem (slot_number slot) number)

  not_copies : (slot other : Slot) (source : Source) (table : List ℕ) → Memᴰ (fourteen slot) (copy_warnings (slot_number other) (copies_of source (pointer_of table other))) → ⊥
  not_copies slot other source table m =
      every_copies (λ w. w.code ≢ track_past_playtime) (slot_number other) own_not_14 (copies_of source (pointer_of table other)) (fourteen slot) m (its_code slot)

  not_disc : (slot : Slot) (differ : Bool) (table : List ℕ) → Memᴰ (fourteen slot) (disc_warnings differ table) → ⊥
  not_disc slot differ table m = every_disc (λ w. w.code ≢ track_past_playtime) own_not_14 differ table (fourteen slot) m (its_code slot)

  -- no warning of the other slot's table is of its slot
  not_slot : (slot other : Slot) → slot_number other ≢ slot_number slot → (source : Source) (table : List ℕ)
      → Memᴰ (fourteen slot) (slot_warnings source other (pointer_of table other)) → ⊥
  unfolding slot_warnings slot_table
  not_slot slot other apart source table m = go (Memᴰ.append_cases (copy_warnings (slot_number other) (copies_of source (pointer_of table other))) m)
    where
      go : Memᴰ (fourteen slot) (copy_warnings (slot_number other) (copies_of source (pointer_of table other)))
          ⊎ Memᴰ (fourteen slot) (warnings_in (table_in other (chosen source (pointer_of table other)))) → ⊥
      go (inl h) = not_copies slot other source table h
      go (inr h) =
          let its = every_table (λ w. w.slot ≡ slot_number other) other (λ bytes sectors w q. (table_warnings_of bytes (slot_number other) sectors w q).0)
          (chosen source (pointer_of table other)) (fourteen slot) h in apart (sym its ∙ its_slot slot)

  -- ---- so it stands among those of the disc as among those of its table
  module _ (source : Source) (table : List ℕ) where
    shifted_slot : (slot : Slot) → Shifted (fourteen slot) (warnings_in (table_of source table slot)) (fourteen slot) (slot_warnings source slot (pointer_of table slot))
    unfolding slot_warnings table_of
    shifted_slot slot =
        shifted_behind (fourteen slot) (copy_warnings (slot_number slot) (copies_of source (pointer_of table slot))) (warnings_in (slot_table source slot (pointer_of table slot)))
        (not_copies slot slot source table)

    abbrev own : List Warning
    own = disc_warnings (master_copies_differ source table) table

    abbrev warned : Slot → List Warning
    warned slot = slot_warnings source slot (pointer_of table slot)

    not_before : Memᴰ (fourteen multichannel) (own ++ warned two_channel) → ⊥
    unfolding slot_number
    not_before m = go (Memᴰ.append_cases own m)
      where
        go : Memᴰ (fourteen multichannel) own ⊎ Memᴰ (fourteen multichannel) (warned two_channel) → ⊥
        go (inl h) = not_disc multichannel (master_copies_differ source table) table h
        go (inr h) = not_slot multichannel two_channel (omega arith) source table h

    shifted_disc : (slot : Slot) → Shifted (fourteen slot) (warned slot) (fourteen slot) (warnings_of source table)
    unfolding warnings_of slot_number
    shifted_disc two_channel =
        shifted_then (shifted_behind (fourteen two_channel) own (warned two_channel) (not_disc two_channel (master_copies_differ source table) table))
        (shifted_front (fourteen two_channel) (own ++ warned two_channel) (warned multichannel) (not_slot two_channel multichannel (omega arith) source table))
    shifted_disc multichannel = shifted_behind (fourteen multichannel) (own ++ warned two_channel) (warned multichannel) not_before

-- ---- of every track of a slot, by the warnings of the disc

-- .. by those of its own table
own_capping : (slot : Slot) (x : Option Copy) (t : Track) → Memᴰ t (tracks_in (table_in slot x))
    → Capping (λ w. w) (warnings_in (table_in slot x)) (slot_number slot) (area_in (table_in slot x)).playtime t
unfolding table_in tracks_in warnings_in area_in
own_capping slot none t m = absurd (Memᴰ.not-nil m)
own_capping slot (some c) t m = area_capping c.bytes (slot_number slot) c.sectors c.lsn t m

own_number : (slot : Slot) (x : Option Copy) (t : Track) → Memᴰ t (tracks_in (table_in slot x)) → t.number ≤ max_tracks
unfolding table_in tracks_in
own_number slot none t m = absurd (Memᴰ.not-nil m)
own_number slot (some c) t m = area_number c.bytes (slot_number slot) c.sectors c.lsn t m

module _ (source : Source) (table : List ℕ) (slot : Slot) (t : Track) (m : Memᴰ t (tracks_in (table_of source table slot))) where
  pub slot_capping : Capping (λ w. w) (warnings_of source table) (slot_number slot) (area_in (table_of source table slot)).playtime t
  unfolding table_of slot_table
  slot_capping =
      capping_shifted (slot_number slot) (area_in (table_of source table slot)).playtime t
      (shifted_then (shifted_slot t.number source table slot) (shifted_disc t.number source table slot))
      (own_capping slot (chosen source (pointer_of table slot)) t m)

  -- .. and by their words
  slot_capping_words : Capping word_of (map word_of (warnings_of source table)) (slot_number slot) (area_in (table_of source table slot)).playtime t
  unfolding table_of slot_table
  slot_capping_words =
      let few = slot_number_few slot in let number = own_number slot (chosen source (pointer_of table slot)) t m in
      capping_words (warnings_of source table) (slot_number slot) (area_in (table_of source table slot)).playtime t (omega arith) (omega arith)
      (warning_bytes source table) slot_capping

-- ---- of every track that comes out of a reading, from any source

module _ (s : Source) (z : Sized s) (format : ℕ) (memory : Memory) where
  -- the words that it leaves are those of its warnings
  words_back : (table : List ℕ) → Passed s memory table
      → part 0 (read_source s format memory).answer.warnings (read_source s format memory).memory.words ≡ map word_of (warnings_of s table)
  unfolding reading_of words_after
  words_back table p =
      let all = warnings_of s table in let n = length-map all word_of in let fit = warnings_fit s table in let room = p.room.words_suffice in
      ap (λ (o : Outcome). part 0 o.answer.warnings o.memory.words) (passed_read s format memory table p)
      ∙ ap (λ (k : ℕ). part 0 k (words_after s table memory.words)) (count_back s table format memory ∙ sym n)
      ∙ part_filled 0 (map word_of all) memory.words (omega arith)

  passed_capped : (table : List ℕ) → Passed s memory table → TracksCapped (read_source s format memory)
  unfolding table_of slot_table
  passed_capped table p slot t c =
      let x = chosen s (pointer_of table slot) in
      let e = sym (passed_yields s z format memory table p slot) ∙ c.is_yielded in
      let m = subst (Memᴰ t) (yielded_tracks slot c.area x e) c.member in
      subst (λ (words : List ℕ). Capping word_of words (slot_number slot) c.area.area.playtime t) (sym (words_back table p))
      (rw (yielded_area slot c.area x e) (slot_capping_words s table slot t m))

  pub source_capped : TracksCapped (read_source s format memory)
  source_capped slot t c =
      let q = passed_of (λ o. slot_yields o slot ≡ some c.area) s format memory (λ n. refusal_yields memory c.area n slot) c.is_yielded in
      passed_capped q.0 q.1 slot t c

-- .. from one image
pub disc_capped : (format : ℕ) (image : List ℕ) (memory : Memory) → TracksCapped (read_disc format image memory)
unfolding read_disc image_master outcome_of
disc_capped format image memory = go (foreign format) refl
  where
    go : (t : Bool) → foreign format ≡ t → TracksCapped (read_disc format image memory)
    go true h = rw h (λ slot t c. absurd (refusal_yields memory c.area foreign_format slot c.is_yielded))
    go false h = subst TracksCapped (sym (known_read format image memory h)) (source_capped (image_source format image) (image_sized format image) format memory)
