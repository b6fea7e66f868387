-- An input that has enough fills a buffer whole. Assumes nothing: what was taken and what is left are as long as what there was.
use Rattle.std.proofs.Common.{◌≡◌, ℕ, ◌+◌, ◌<◌, ◌≤◌, List, ◌++◌, Option, None, Some, arith, length, take, drop, refl, sym, ap, subst, ◌∙◌, ⊎_elim, take_all, length-append, length-take-le, take_at, drop_at}
use Rattle.std.proofs.Math.Nat.{eq-or-lt_of_le}
use Rattle.std.specs.Io.KnownBytes.{Consumes, IsAtEnd}

-- a buffer is filled, by these bytes, and this is left of the input
pub record IsFilled (n : ℕ) (buf bs rest : List ℕ) (after : Option (List ℕ)) : Type 0 where
  pub full : n ≡ length buf
  pub bytes : buf ≡ bs
  pub left : after ≡ Some rest

filled_known : (after : Option (List ℕ)) (n : ℕ) (buf bs rest : List ℕ) → length bs ≡ length buf → n ≤ length buf
    → Consumes (Some (bs ++ rest)) after (take n buf) → (n < length buf → IsAtEnd after) → IsFilled n buf bs rest after
filled_known None n buf bs rest sized within read short = absurd read
filled_known (Some ys) n buf bs rest sized within read short =
    let long : length bs + length rest ≡ n + length ys =
    sym (length-append bs rest) ∙ ap length read ∙ length-append (take n buf) ys ∙ ap (λ k. k + length ys) (length-take-le n buf within) in
    let full : n ≡ length buf = ⊎_elim (λ e. e) (λ few. let none : length ys ≡ 0 = ap length (short few) in omega arith) (eq-or-lt_of_le within) in
    let same : bs ++ rest ≡ buf ++ ys = read ∙ ap (λ l. l ++ ys) (take_all n buf (omega arith)) in
    record {
      full = full;
      bytes = sym (take_at buf ys (length buf) refl) ∙ ap (take (length buf)) (sym same) ∙ take_at bs rest (length buf) sized;
      left = ap (λ l. Some l) (sym (drop_at buf ys (length buf) refl) ∙ ap (drop (length buf)) (sym same) ∙ drop_at bs rest (length buf) sized);
    }

pub filled : (before after : Option (List ℕ)) (n : ℕ) (buf bs rest : List ℕ) → length bs ≡ length buf → n ≤ length buf
    → Consumes before after (take n buf) → (n < length buf → IsAtEnd after) → before ≡ Some (bs ++ rest) → IsFilled n buf bs rest after
filled before after n buf bs rest sized within read short known =
    filled_known after n buf bs rest sized within (subst (λ b. Consumes b after (take n buf)) known read) short
