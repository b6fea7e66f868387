-- Eight bytes are there, and are read whole: four of the place, then four of the count.
use Rattle.std.proofs.Common.{arith, rules, ◌≡◌, refl, sym, ◌<◌, ◌≤◌, ◌-◌, ℕ, List, Some, length, take, drop, ap, subst, ◌∙◌, take_at, drop_at, MatchOption}
use Rattle.std.proofs.lemmas.Nat.{from_be_bytes-to_be_bytes_4}
use Rattle.std.specs.Int.{to_be_bytes, from_be_bytes, w32}
use Rattle.std.specs.Array.{IsFirstChunk, IsWholeChunk}
use Rattle.inputs.specs.Runs.{head}
use Rattle.inputs.proofs.Whole.{filled}
use Rattle.inputs.proofs.runs.read_head.Goals as goal

head_long : (place count : ℕ) → length (head place count) ≡ 8
unfolding head
head_long place count = refl

head_place : (place count : ℕ) → take 4 (head place count) ≡ to_be_bytes w32 place
unfolding head
head_place place count = take_at (to_be_bytes w32 place) (to_be_bytes w32 count) 4 (search rules)

head_count : (place count : ℕ) → drop 4 (head place count) ≡ to_be_bytes w32 count
unfolding head
head_count place count = drop_at (to_be_bytes w32 place) (to_be_bytes w32 count) 4 (search rules)

pub returns-then-branch-lt-HEAD_BYTES-clause-known :
    goal.returns-then-branch-lt-HEAD_BYTES-clause-known
returns-then-branch-lt-HEAD_BYTES-clause-known g c place count rest small less known =
    let e = c.in_ok-read_full.ensures in
    let whole = filled _ _ _ c.read_full.new.buf (head place count) rest (head_long place count ∙ sym c.read_full.auto.buf) e.within e.bytes e.short known in
    absurd (omega (arith, whole.full, c.if-branch-lt-HEAD_BYTES.true))

pub returns-clause-known : goal.returns-clause-known
returns-clause-known g c place count rest small less known =
    let e = c.in_ok-read_full.ensures in
    let whole = filled _ _ _ c.read_full.new.buf (head place count) rest (head_long place count ∙ sym c.read_full.auto.buf) e.within e.bytes e.short known in
    let first = subst (λ o. MatchOption o (length c.read_full.new.buf < 4) (λ y. IsFirstChunk c.read_full.new.buf y.now 4)) c.unwrap.ensures c.first_chunk.ensures.cases in
    let behind : length c.read_full.new.buf - 4 ≡ 4 = omega (arith, c.read_full.auto.buf) in
    let last =
    subst (λ o. MatchOption o (length c.read_full.new.buf < 4) (λ y. (4 ≤ length c.read_full.new.buf) × IsWholeChunk (drop (length c.read_full.new.buf - 4) c.read_full.new.buf) y.now 4)) c.unwrap-2.ensures
    c.last_chunk.ensures.cases in
    let place_is : c.from_be_bytes-place.result ≡ place =
    c.from_be_bytes-place.ensures ∙ ap (from_be_bytes w32) (first.same ∙ ap (take 4) whole.bytes ∙ head_place place count) ∙ from_be_bytes-to_be_bytes_4 place small in
    let count_is : c.from_be_bytes-count.result ≡ count =
    c.from_be_bytes-count.ensures ∙ ap (from_be_bytes w32) (last.1.same ∙ ap (λ n. drop n c.read_full.new.buf) behind ∙ ap (drop 4) whole.bytes ∙ head_count place count) ∙ from_be_bytes-to_be_bytes_4 count less in
    (λ i. Some (place_is i, count_is i), whole.left)
