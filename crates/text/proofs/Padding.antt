-- A text copied to the start of zeros is padded. Assumes nothing.
use Rattle.std.specs.Prelude.{◌≡◌, ℕ, ◌≤◌, List, ◌++◌, length, replicate}
use Rattle.std.proofs.Common.{ap, ◌∙◌, arith}
use Rattle.std.proofs.lemmas.List.{drop-replicate, length-replicate}
use Rattle.sectors.specs.Fill.{copy_into}
use Rattle.sectors.specs.FillLaws.{fill_front}
use Rattle.sectors.specs.CopyLaws.{copy_whole}
use Rattle.text.specs.Padded.{padded}

-- a text that fits is copied into `size` zeros
pub pad_copied : (size : ℕ) (text : List ℕ) → length text ≤ size → copy_into 0 text (replicate size 0) ≡ padded size text
unfolding padded
pad_copied size text h =
    copy_whole 0 text (replicate size 0) (rw length-replicate (omega arith))
    ∙ fill_front text (replicate size 0)
    ∙ ap (λ (l : List ℕ). text ++ l) (drop-replicate (length text) size 0)
