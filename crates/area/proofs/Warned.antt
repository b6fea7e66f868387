-- The warnings of a track by the codes that it may have, one after the other. Assumes nothing.
use Rattle.std.proofs.Common.{◌≡◌, ℕ, Bool, true, false, refl, subst, ap, List, ◌++◌, Option}
use Rattle.std.specs.Bool.{then_some}
use Rattle.std.specs.Option.{option_to_list}
use Rattle.area.specs.Lent.{when_true}
use Rattle.area.specs.LentLaws.{Pushed, pushed_then}
use Rattle.area.specs.Table.{of_track, coded, text_warnings, track_warnings}
use Rattle.area.specs.TextPlaces.{any_unterminated}
use Rattle.area.specs.Warning.{word_of, number_of, track_past_playtime, track_lsn_outside_area, track_text_unterminated}
use Rattle.area.specs.declared.track.TrackRead.{TrackRead}
use Rattle.area.specs.declared.warning.Warning.{Warning}
use Rattle.area.specs.declared.warning.WarningCode.{WarningCode}
use Rattle.area.specs.declared.warning.WarningCode.TheVariants.{TrackPastPlaytime, TrackLsnOutsideArea, TrackTextUnterminated}

module _ (slot : ℕ) (read : TrackRead) where
  abbrev pub warned : Option WarningCode → List Warning
  warned code = option_to_list (coded slot read.track.number code)

  listed : (t : Bool) (code : WarningCode) → warned (then_some t code) ≡ when_true t (of_track (number_of code) slot read)
  unfolding when_true coded of_track
  listed true code = refl
  listed false code = refl

  text_listed : warned read.text_warning ≡ text_warnings slot read
  unfolding coded text_warnings of_track
  text_listed = refl

  -- the codes that a track may have give its warnings
  warned_all : (past outside unterminated : Option WarningCode) → past ≡ then_some read.past_playtime TrackPastPlaytime
      → outside ≡ then_some read.outside_area TrackLsnOutsideArea → unterminated ≡ then_some (any_unterminated read.track.text) TrackTextUnterminated
      → warned past ++ warned outside ++ warned read.text_warning ++ warned unterminated ≡ track_warnings slot read
  unfolding track_warnings number_of
  warned_all past outside unterminated p q r =
      rw (
        p,
        q,
        r,
        listed read.past_playtime TrackPastPlaytime,
        listed read.outside_area TrackLsnOutsideArea,
        text_listed,
        listed (any_unterminated read.track.text) TrackTextUnterminated,
      ) refl

  -- pushed one after the other, they are all pushed
  pub pushed_all : (old a b c after : List ℕ) (count n m k l : ℕ) (past outside unterminated : Option WarningCode)
      → past ≡ then_some read.past_playtime TrackPastPlaytime → outside ≡ then_some read.outside_area TrackLsnOutsideArea
      → unterminated ≡ then_some (any_unterminated read.track.text) TrackTextUnterminated
      → Pushed word_of old count (warned past) a n → Pushed word_of a n (warned outside) b m → Pushed word_of b m (warned read.text_warning) c k
      → Pushed word_of c k (warned unterminated) after l → Pushed word_of old count (track_warnings slot read) after l
  pushed_all old a b c after count n m k l past outside unterminated p q r one two three four =
      let first = pushed_then word_of old a b count n m _ _ one two in
      let second = pushed_then word_of old b c count m k _ _ first three in
      subst (λ (w : List Warning). Pushed word_of old count w after l) (warned_all past outside unterminated p q r)
      (pushed_then word_of old c after count k l _ _ second four)
