-- The checks before a header is looked at, as the program makes them, for any answer: a refusal of theirs is that answer's, and what is said of the header
-- that they find is said of the one in the image. Assumes nothing.
use Rattle.std.proofs.Common.{◌≡◌, ℕ, ◌+◌, ◌*◌, ◌<◌, ◌≤◌, Bool, true, false, List, length, ◌==◌, ◌≢◌, refl, sym, ap, ◌∙◌, subst, add-zero, arith}
use Rattle.sectors.specs.CheckLaws.{not_either}
use Rattle.sectors.specs.Fill.{part}
use Rattle.sectors.specs.Format.{foreign, layout_of, stored_size}
use Rattle.sectors.specs.Refusal.{foreign_format, no_such_entry, no_header, beyond_mending}
use Rattle.sectors.specs.Sector.{readable}
use Rattle.sectors.specs.Audit.{HeaderIn, header_or, header_refusal, header_format, header_size, header_at}
use Rattle.sectors.proofs.AuditLaws.{There, header_length, there_checked}

-- ---- as the program finds it
module _ (format : ℕ) (image : List ℕ) (lsn : ℕ) (two : format ≡ header_format) {there : Bool} (known : there ≡ readable format (length image) lsn 1) (found : there ≡ true) where
  pub header_there : (readable format (length image) lsn 1 ≡ true) × (0 + header_size ≤ stored_size format)
  unfolding stored_size layout_of
  header_there = (sym known ∙ found, rw two (omega arith))

  lies_there : readable header_format (length image) lsn 1 ≡ true
  lies_there = rw two at header_there.0

  module _ {six : List ℕ} (is-part : six ≡ part (lsn * stored_size format + 0) header_size image) where
    pub six_is : six ≡ header_at image lsn
    unfolding header_at
    six_is = is-part ∙ (rw (two, add-zero))

    pub six_long : length six ≡ header_size
    six_long = ap length six_is ∙ header_length image lsn lies_there

    pub six_found : HeaderIn (λ h. h ≡ six) format image lsn
    six_found = record { has_header = two; lies_there = lies_there; its_header = sym six_is }

-- ---- what follows from what was found, or refused
module _ (format : ℕ) (image : List ℕ) (lsn : ℕ) where
  -- no check gives 14
  pub never_beyond : header_refusal format image lsn ≢ beyond_mending
  unfolding header_refusal header_or
  never_beyond =
      not_either (foreign format) foreign_format _ beyond_mending (omega arith)
      (not_either (format == header_format) _ no_header beyond_mending (not_either (readable format (length image) lsn 1) 0 no_such_entry beyond_mending (omega arith) (omega arith)) (omega arith))

  module _ (n : ℕ) (some : 0 < n) (refused : n ≡ header_refusal format image lsn) where
    pub none_there : ¬ There format image lsn
    unfolding header_refusal
    none_there t = absurd (omega (arith, refused ∙ there_checked (λ k. k) (λ h. 0) format image lsn t))

    pub refused_answer : {A : Type 0} (refuse : ℕ → A) (say : List ℕ → A) → refuse n ≡ header_or refuse say format image lsn
    unfolding header_refusal header_or
    refused_answer refuse say = go (foreign format) (format == header_format) (readable format (length image) lsn 1) refl refl refl
      where
        go : (far two inside : Bool) → foreign format ≡ far → (format == header_format) ≡ two → readable format (length image) lsn 1 ≡ inside
            → refuse n ≡ header_or refuse say format image lsn
        go true two inside e f g = rw (refused, e)
        go false false inside e f g = rw (refused, e, f)
        go false true false e f g = rw (refused, e, f, g)
        go false true true e f g = absurd (omega (arith, rw (e, f, g) at refused))

  module _ (h : List ℕ) (there : HeaderIn (λ g. g ≡ h) format image lsn) where
    pub found_answer : {A : Type 0} (refuse : ℕ → A) (say : List ℕ → A) → say h ≡ header_or refuse say format image lsn
    found_answer refuse say =
        ap say (sym there.its_header) ∙ sym (there_checked refuse say format image lsn (there.has_header, there.lies_there))

    pub holds_there : {P : List ℕ → Type 0} → P h → HeaderIn P format image lsn
    holds_there {P} p = record { has_header = there.has_header; lies_there = there.lies_there; its_header = subst P (sym there.its_header) p }

    pub holds_of : {P : List ℕ → Type 0} → HeaderIn P format image lsn → P h
    holds_of {P} s = subst P there.its_header s.its_header
