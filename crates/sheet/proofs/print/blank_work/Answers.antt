-- So many equal bytes have that length.
use Rattle.std.proofs.Common.{ℕ, sym}
use Rattle.std.proofs.lemmas.List.{length-replicate}
use Rattle.sheet.proofs.print.blank_work.Goals as goal

pub returns : goal.returns
returns c = sym (length-replicate {A = ℕ} 544768 0)
