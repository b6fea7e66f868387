-- A sector more is gathered, or scattered; then the rest stands behind them. Assumes nothing.
use Prim.Native.Nat.{ℕ, ◌+◌, ◌*◌, ◌-◌, ◌≤◌, ◌<◌}
use native.Mathlib.Numerals.{add-one}
use native.Mathlib.Omega.{arith}
use mathlib.Core.Path.{◌≡◌, sym, ap, ◌∙◌}
use mathlib.Core.List.{List, ◌++◌, append_assoc}
use borrow.Author.Tests.{eq-eqb, ne_eqb}
use lib.ListN.{length, drop, length-append, length-drop}
use Rattle.sectors.specs.Audit.{header_format}
use Rattle.sectors.specs.Fill.{part, fill}
use Rattle.sectors.specs.FillLaws.{fill_none}
use Rattle.sectors.specs.Format.{sector_size}
use Rattle.sectors.specs.Sector.{sector_count}
use Rattle.tape.specs.declared.store.Way.{Way}
use Rattle.tape.specs.declared.store.Way.TheVariants.{Gather, Scatter}
use Rattle.tape.specs.Store.{head_size, tail_size, tail_offset, raw_size, sectors_in, blocks, piece_of, gathered, piece_from, sector_from, scattered, unequal_lengths, lengths_refusal, gather_into, scatter_into}
use Rattle.tape.specs.Steps.{piece_copied, sector_copied, image_copied}
use Rattle.tape.proofs.BlockLaws.{part_end, blocks_length}
use Rattle.tape.proofs.StoreLaws.{whole_sectors, piece_length, pieces_length, from_length, sector_length, sectors_length, heads_length, both_length, all_length, all_first}
use Rattle.tape.proofs.Fills.{three_more, fill_next, fill_over}

-- ---- the first k sectors

abbrev gathered_to : ℕ → List ℕ → List ℕ → ℕ → List ℕ
gathered_to n x old k =
    fill (n * tail_offset) (blocks (piece_of tail_offset tail_size x) k)
    (fill (n * head_size) (blocks (piece_of head_size sector_size x) k) (fill 0 (blocks (piece_of 0 head_size x) k) old))

abbrev scattered_to : ℕ → List ℕ → List ℕ → ℕ → List ℕ
scattered_to n x old k = fill 0 (blocks (sector_from n x) k) old

pub copied_to : Way → ℕ → List ℕ → List ℕ → ℕ → List ℕ
copied_to Scatter = scattered_to
copied_to Gather = gathered_to

pub copy_start : (way : Way) (n : ℕ) (x old : List ℕ) → old ≡ copied_to way n x old 0
unfolding copied_to blocks
copy_start Scatter n x old = sym (fill_none 0 old)
copy_start Gather n x old = sym (fill_none (n * tail_offset) _ ∙ fill_none (n * head_size) _ ∙ fill_none 0 old)

module _ (n : ℕ) (x old : List ℕ) (count : n ≡ sector_count header_format (length x)) (as_long : length old ≡ length x) where
  whole : n * raw_size ≤ length x
  whole = whole_sectors n (length x) count

  gather_turn : (k : ℕ) (out last : List ℕ) → k < n → out ≡ gathered_to n x old k → last ≡ sector_copied Gather n k x out
      → last ≡ gathered_to n x old (k + 1)
  unfolding blocks sector_copied piece_copied
  gather_turn k out last more e f =
      let w = whole in
      let h = piece_of 0 head_size x in let d = piece_of head_size sector_size x in let t = piece_of tail_offset tail_size x in
      let lh = piece_length n x whole 0 head_size (omega arith) k more in let bh = pieces_length k x (omega arith) 0 head_size (omega arith) in
      let ld = piece_length n x whole head_size sector_size (omega arith) k more in let bd = pieces_length k x (omega arith) head_size sector_size (omega arith) in
      let lt = piece_length n x whole tail_offset tail_size (omega arith) k more in let bt = pieces_length k x (omega arith) tail_offset tail_size (omega arith) in
      let ph : n * 0 + k * head_size ≡ 0 + length (blocks h k) = omega arith in
      let pd : n * head_size + k * sector_size ≡ n * head_size + length (blocks d k) = omega arith in
      let pt : n * tail_offset + k * tail_size ≡ n * tail_offset + length (blocks t k) = omega arith in
      f ∙ (λ i. fill (pt i) (t k) (fill (pd i) (d k) (fill (ph i) (h k) (e i))))
      ∙ three_more (blocks h k) (h k) (blocks d k) (d k) (blocks t k) (t k) old (n * head_size) (n * tail_offset) (omega arith) (omega arith) (omega arith)
      ∙ rw add-one

  scatter_turn : (k : ℕ) (out last : List ℕ) → k < n → out ≡ scattered_to n x old k → last ≡ sector_copied Scatter n k x out
      → last ≡ scattered_to n x old (k + 1)
  unfolding blocks sector_copied piece_copied sector_from
  scatter_turn k out last more e f =
      let w = whole in
      let s = blocks (sector_from n x) k in
      let h = piece_from n 0 head_size x k in let d = piece_from n head_size sector_size x k in let t = piece_from n tail_offset tail_size x k in
      let ls = blocks_length (sector_from n x) raw_size k (λ j q. sector_length n x whole j (omega arith)) in
      let lh = from_length n x whole 0 head_size (omega arith) k more in
      let ld = from_length n x whole head_size sector_size (omega arith) k more in
      let lt = from_length n x whole tail_offset tail_size (omega arith) k more in
      let two = length-append s h in let three = length-append (s ++ h) d in
      let head : fill (k * raw_size + 0) h out ≡ fill 0 (s ++ h) old =
      ap (fill (k * raw_size + 0) h) e ∙ fill_next (k * raw_size + 0) s h old (omega arith) (omega arith) in
      let both : fill (k * raw_size + head_size) d (fill (k * raw_size + 0) h out) ≡ fill 0 (s ++ h ++ d) old =
      ap (fill (k * raw_size + head_size) d) head ∙ fill_next (k * raw_size + head_size) (s ++ h) d old (omega arith) (omega arith) in
      f ∙ ap (fill (k * raw_size + tail_offset) t) both
      ∙ fill_next (k * raw_size + tail_offset) (s ++ h ++ d) t old (omega arith) (omega arith)
      ∙ ap (λ (l : List ℕ). fill 0 l old) (append_assoc (s ++ h) d t ∙ append_assoc s h (d ++ t))
      ∙ rw add-one

  pub copy_turn : (way : Way) (k : ℕ) (out last : List ℕ) → k < n → out ≡ copied_to way n x old k → last ≡ sector_copied way n k x out
      → last ≡ copied_to way n x old (k + 1)
  unfolding copied_to
  copy_turn Scatter = scatter_turn
  copy_turn Gather = gather_turn

  -- ---- the rest

  abbrev rest_filled : List ℕ → List ℕ
  rest_filled = fill (n * raw_size) (part (n * raw_size) (length x - n * raw_size) x)

  -- all that stands before it, and it
  rest_behind : (front last : List ℕ) → length front ≡ n * raw_size → last ≡ rest_filled (fill 0 front old) → last ≡ front ++ drop (n * raw_size) x
  rest_behind front last long e =
      let w = whole in
      let rest = drop (n * raw_size) x in
      let size = length-drop (n * raw_size) x in let all = length-append front rest in
      e ∙ ap (λ (r : List ℕ). fill (n * raw_size) r (fill 0 front old)) (part_end (n * raw_size) x)
      ∙ fill_next (n * raw_size) front rest old (omega arith) (omega arith)
      ∙ fill_over (front ++ rest) old (omega arith)

  gather_end : (out last : List ℕ) → out ≡ gathered_to n x old n → last ≡ rest_filled out → last ≡ gathered n x
  gather_end out last e f =
      let w = whole in
      let heads = blocks (piece_of 0 head_size x) n in let datas = blocks (piece_of head_size sector_size x) n in let tails = blocks (piece_of tail_offset tail_size x) n in
      let lh = heads_length n x whole in let lb = both_length n x whole in let la = all_length n x whole in
      let sum = length-append heads datas in let sum' = length-append (heads ++ datas) tails in
      rest_behind (heads ++ datas ++ tails) last la
      (f ∙ ap rest_filled
      (e ∙ ap (fill (n * tail_offset) tails) (fill_next (n * head_size) heads datas old (omega arith) (omega arith))
      ∙ fill_next (n * tail_offset) (heads ++ datas) tails old (omega arith) (omega arith)))
      ∙ sym (all_first n x whole)

  scatter_end : (out last : List ℕ) → out ≡ scattered_to n x old n → last ≡ rest_filled out → last ≡ scattered n x
  unfolding scattered
  scatter_end out last e f = rest_behind (blocks (sector_from n x) n) last (sectors_length n x whole) (f ∙ ap rest_filled e)

  pub copy_end : (way : Way) (out last : List ℕ) → out ≡ copied_to way n x old n → last ≡ rest_filled out → last ≡ image_copied way x old
  unfolding copied_to image_copied scatter_into gather_into sectors_in
  copy_end Scatter out last e f = rw (eq-eqb (length x) (length old) (sym as_long), ← count) (scatter_end out last e f)
  copy_end Gather out last e f = rw (eq-eqb (length x) (length old) (sym as_long), ← count) (gather_end out last e f)

-- ---- the answer

pub accepted : (read written : ℕ) → written ≡ read → 0 ≡ lengths_refusal read written
unfolding lengths_refusal
accepted read written same = rw (eq-eqb read written (sym same))

pub refused : (read written : ℕ) → (written ≡ read → ⊥) → unequal_lengths ≡ lengths_refusal read written
unfolding lengths_refusal
refused read written differ = rw (ne_eqb read written (λ e. differ (sym e)))

pub kept : (x old : List ℕ) → (length old ≡ length x → ⊥) → (way : Way) → old ≡ image_copied way x old
unfolding image_copied scatter_into gather_into
kept x old differ Scatter = rw (ne_eqb (length x) (length old) (λ e. differ (sym e)))
kept x old differ Gather = rw (ne_eqb (length x) (length old) (λ e. differ (sym e)))

-- the turns of a copy, and its answers
pub ruleset copying = (copy_start, copy_turn, copy_end, accepted, refused, kept)
