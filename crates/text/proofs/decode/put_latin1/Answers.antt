-- The bytes passed, the next one too, have room; its UTF-8 is written behind theirs.
use Rattle.std.proofs.Common.{◌≡◌, ℕ, ◌+◌, ◌≤◌, ◌<◌, List, [], ◌∷◌, ◌++◌, length, get_or, take, sym, ap, subst, ◌∙◌, arith}
use Rattle.sectors.specs.Fill.{fill}
use Rattle.text.specs.Utf8.{utf8, blanked, encoded}
use Rattle.text.specs.Utf8Laws.{encoded_front}
use Rattle.text.proofs.Writing.{take_next, next_length, next_written}
use Rattle.text.proofs.decode.put_latin1.Goals as goal

next_room : (bytes page₀ : List ℕ) (i : ℕ) → i < length bytes → length (encoded bytes) ≤ length page₀
    → length (encoded (take i bytes ++ (get_or bytes i 0 ∷ []))) ≤ length page₀
next_room bytes page₀ i inside room =
    let e = ap (λ (s : List ℕ). length (encoded s)) (take_next bytes i inside) in
    omega (arith, encoded_front bytes (i + 1))

pub put_character-at-requires : goal.put_character-at-requires
put_character-at-requires c =
    let l = c.loop-byte in let bytes = c.args.bytes.now in
    let room = next_room bytes c.args.page.now l.byte-index (omega arith) c.requires in
    let size = ap (λ (n : ℕ). length (utf8 (blanked n))) c.from.ensures in
    (omega (arith, next_length (take l.byte-index bytes) (get_or bytes l.byte-index 0)), omega (arith, c.type_inv.bytes l.byte-index))

pub loop-byte-preserved : goal.loop-byte-preserved
loop-byte-preserved c =
    let l = c.loop-byte in let bytes = c.args.bytes.now in let page₀ = c.args.page.now in
    let room = next_room bytes page₀ l.byte-index (omega arith) c.requires in
    let put = subst (λ (n : ℕ). (c.put_character-at.new.page ≡ fill l.at (utf8 (blanked n)) l.page) × (c.put_character-at.result ≡ l.at + length (utf8 (blanked n)))) c.from.ensures c.put_character-at.ensures in
    let w = next_written (take l.byte-index bytes) (get_or bytes l.byte-index 0) page₀ room l.invariant.0 l.invariant.1 put in
    let next = sym (take_next bytes l.byte-index (omega arith)) in
    (w.0 ∙ ap (λ (s : List ℕ). length (encoded s)) next, w.2 ∙ ap (λ (s : List ℕ). fill 0 (encoded s) page₀) next)
