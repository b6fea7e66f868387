-- The cards hold, all together: the definitions of the layers are computed, and a card whose test passes holds. Assumes nothing.
use Rattle.std.specs.Prelude.{ℕ, zero, suc, ◌<◌, ◌≡◌, refl, Bool, true, false, ◌&&◌, ltb, eqb, length, get_or, replicate}
use Rattle.std.proofs.Common.{arith, sym, ltb-true, eqb-true}
use Rattle.std.proofs.Math.Bool.{and-eq-true_iff}
use mathlib.Core.List.{List, [], ◌∷◌, flat_map}
use Rattle.std.proofs.lemmas.Bool.{not-true}
use Rattle.sectors.specs.Audit.{header_size, verdict_of}
use Rattle.sectors.specs.Bytes.{same}
use Rattle.sectors.specs.BytesLaws.{same_eq}
use Rattle.sectors.specs.CheckLaws.{fails}
use Rattle.sectors.specs.Field.{◌⊕◌, times_alpha}
use Rattle.sectors.specs.Fill.{fill}
use Rattle.sectors.specs.Header.{SixBytes, at_one, at_alpha, is_multiple, is_blank, is_sound}
use Rattle.sectors.proofs.HeaderLaws.{decides}
use Rattle.text.specs.Charset.{latin1, set_of, is_mapped, charset_of}
use Rattle.text.specs.Decode.{latin1_points, unless_absent, points_of, giving, answer_in, page_with, decode_of, decode_into}
use Rattle.text.specs.String.{present}
use Rattle.text.specs.Utf8.{groups, marked, utf8, blanked, encoded}
use Rattle.area.specs.Cap.{exceeds, capped, uncapped, cap_of}
use Rattle.area.specs.Timecode.{frame_number}
use Rattle.area.specs.declared.cap.Capped.{Capped}
use Rattle.worked.specs.Cards.{Card, frame_card, cap_card, byte_card, charset_card, header_card, verdict_card, card_playtime, cards, Judged, Holds, AllHold, alike, same_times, decodes_to, are_bytes, passes, all_pass}

cards_pass : all_pass cards ≡ true
unfolding
    cards alike same_times decodes_to are_bytes passes all_pass frame_number exceeds capped uncapped cap_of latin1_points unless_absent points_of giving answer_in page_with decode_of decode_into present groups marked utf8 blanked encoded flat_map fill same set_of is_mapped charset_of ◌⊕◌ times_alpha at_one at_alpha is_multiple is_blank is_sound verdict_of
cards_pass = refl

-- ---- a card whose test passes holds

both : (a b : Bool) → a && b ≡ true → (a ≡ true) × (b ≡ true)
both a b e = (and-eq-true_iff a b).0 e

alike_same : (a b : Bool) → alike a b ≡ true → a ≡ b
unfolding alike
alike_same true b e = sym e
alike_same false b e = sym (not-true b e)

same_times_lem : (a b : Capped) → same_times a b ≡ true → a ≡ b
unfolding same_times
same_times_lem a b e =
    let all = both (eqb a.start_frame.0 b.start_frame.0 && eqb a.duration_frames.0 b.duration_frames.0) (alike a.past_playtime b.past_playtime) e in
    let frames = both (eqb a.start_frame.0 b.start_frame.0) (eqb a.duration_frames.0 b.duration_frames.0) all.0 in
    let start = eqb-true a.start_frame.0 b.start_frame.0 frames.0 in
    let duration = eqb-true a.duration_frames.0 b.duration_frames.0 frames.1 in
    let past = alike_same a.past_playtime b.past_playtime all.1 in
    λ i. record { start_frame = record { 0 = start i }; duration_frames = record { 0 = duration i }; past_playtime = past i }

bytes_below : (bytes : List ℕ) → are_bytes bytes ≡ true → (i : ℕ) → get_or bytes i 0 < 256
unfolding are_bytes
bytes_below [] e i = omega arith
bytes_below (b ∷ rest) e zero = ltb-true b 256 (both (ltb b 256) (are_bytes rest) e).0
bytes_below (b ∷ rest) e (suc i) = bytes_below rest (both (ltb b 256) (are_bytes rest) e).1 i

judged : (bytes : List ℕ) (sound : Bool) → SixBytes bytes → is_sound bytes ≡ sound → Judged sound bytes
unfolding Judged
judged bytes true six e = (decides bytes six).0 e
judged bytes false six e = (fails (is_sound bytes) (decides bytes six)).0 e

holds : (card : Card) → passes card ≡ true → Holds card
unfolding passes Holds decodes_to
holds (frame_card t number) e = let n = eqb-true (frame_number t).0 number.0 e in λ i. record { 0 = n i }
holds (cap_card start duration times) e = same_times_lem (cap_of start duration card_playtime) times e
holds (byte_card b text) e =
    let all = both (eqb (decode_of (b ∷ []) latin1 [] (length text)).len (length text)) (same (decode_into (b ∷ []) latin1 [] (replicate (length text) 0)) text) e in
    record {
      its_length = eqb-true (decode_of (b ∷ []) latin1 [] (length text)).len (length text) all.0;
      its_bytes = same_eq (decode_into (b ∷ []) latin1 [] (replicate (length text) 0)) text all.1;
    }
holds (charset_card code charset) e = eqb-true (charset_of code) charset e
holds (header_card bytes sound) e =
    let all = both (eqb (length bytes) header_size && are_bytes bytes) (alike (is_sound bytes) sound) e in
    let six = both (eqb (length bytes) header_size) (are_bytes bytes) all.0 in
    judged bytes sound
    (record { its_length = eqb-true (length bytes) header_size six.0; its_bytes = bytes_below bytes six.1 })
    (alike_same (is_sound bytes) sound all.1)
holds (verdict_card bytes verdict) e = eqb-true (verdict_of bytes) verdict e

all_hold : (them : List Card) → all_pass them ≡ true → AllHold them
unfolding all_pass AllHold
all_hold [] e = tt
all_hold (card ∷ rest) e = let p = both (passes card) (all_pass rest) e in (holds card p.0, all_hold rest p.1)

-- "the starred ones proved together, as one table"
pub cards_hold : AllHold cards
cards_hold = all_hold cards cards_pass
