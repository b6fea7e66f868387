-- What the program copies at once, a piece, a sector and an image, for the contracts of its own functions; no rule of 02. Assumes nothing.
use Rattle.std.specs.Prelude.{ℕ, ◌+◌, ◌*◌, List}
use Rattle.sectors.specs.Fill.{fill}
use Rattle.sectors.specs.Format.{sector_size}
use Rattle.tape.specs.declared.store.Way.{Way}
use Rattle.tape.specs.declared.store.Way.TheVariants.{Gather, Scatter}
use Rattle.tape.specs.Store.{head_size, tail_size, tail_offset, raw_size, piece_of, piece_from, gather_into, scatter_into}

-- a piece of sector `k` of `n` goes from its place in the image to that among gathered ones, or back
unfoldable pub piece_copied : Way → ℕ → ℕ → ℕ → ℕ → List ℕ → List ℕ → List ℕ
piece_copied Gather n k offset size from old = fill (n * offset + k * size) (piece_of offset size from k) old
piece_copied Scatter n k offset size from old = fill (k * raw_size + offset) (piece_from n offset size from k) old

-- and its head, its data and its tail
unfoldable pub sector_copied : Way → ℕ → ℕ → List ℕ → List ℕ → List ℕ
sector_copied way n k from old =
    piece_copied way n k tail_offset tail_size from (piece_copied way n k head_size sector_size from (piece_copied way n k 0 head_size from old))

-- all sectors, and the rest
unfoldable pub image_copied : Way → List ℕ → List ℕ → List ℕ
image_copied Gather from old = gather_into from old
image_copied Scatter from old = scatter_into from old
