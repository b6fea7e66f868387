-- Laws of the answers of decoding: those of the two refusals that come where a text is sought. Assumes nothing.
use Rattle.std.specs.Prelude.{◌≡◌, refl, Err}
use Rattle.sectors.specs.Refusal.{short_buffer, no_such_entry}
use Rattle.text.specs.Decode.{answer_by, refusing}
use Rattle.text.specs.Refusal.{number_of}
use Rattle.text.specs.declared.decode.DecodeRefusal.TheVariants as refusal

pub answer_short_buffer : answer_by (Err refusal.ShortBuffer) ≡ refusing short_buffer
unfolding answer_by number_of
answer_short_buffer = refl

pub answer_no_such_entry : answer_by (Err refusal.NoSuchEntry) ≡ refusing no_such_entry
unfolding answer_by number_of
answer_no_such_entry = refl
