-- Laws of `tabulate`, for any entry. Assumes nothing.
use Rattle.std.specs.Prelude.{◌≡◌, length, get_or, slice_index_or}
use Rattle.std.proofs.Math.Path.{refl, ap}
use Rattle.std.proofs.Common.{◌∙◌}
use mathlib.Core.List.Memᴰ
use mathlib.Core.List.{List, [], ◌∷◌, ◌++◌, map, Memᴰ}
use Rattle.std.proofs.Math.Logic.{⊎_elim}
use Prim.Native.Nat.{ℕ, zero, suc, ◌<◌}
use native.Mathlib.Omega.{arith}
use Rattle.area.specs.Tabulate.{tabulate}

module _ {A : Type 0} where
  pub tabulate_none : (f : ℕ → A) → tabulate 0 f ≡ []
  unfolding tabulate
  tabulate_none f = refl

  pub tabulate_next : (n : ℕ) (f : ℕ → A) → tabulate (suc n) f ≡ f 0 ∷ tabulate n (λ k. f (suc k))
  unfolding tabulate
  tabulate_next n f = refl

  pub length_tabulate : (n : ℕ) (f : ℕ → A) → length (tabulate n f) ≡ n
  unfolding tabulate
  length_tabulate zero f = refl
  length_tabulate (suc n) f = ap suc (length_tabulate n (λ (k : ℕ). f (suc k)))

  -- one more entry, at the end
  pub tabulate_more : (n : ℕ) (f : ℕ → A) → tabulate (suc n) f ≡ tabulate n f ++ (f n ∷ [])
  unfolding tabulate
  tabulate_more zero f = refl
  tabulate_more (suc n) f = ap (λ (l : List A). f 0 ∷ l) (tabulate_more n (λ (k : ℕ). f (suc k)))

  -- entries that are equal give equal lists
  pub tabulate_ext : (n : ℕ) (f g : ℕ → A) → ((k : ℕ) → k < n → f k ≡ g k) → tabulate n f ≡ tabulate n g
  unfolding tabulate
  tabulate_ext zero f g h = refl
  tabulate_ext (suc n) f g h =
      ap (λ (x : A). x ∷ tabulate n (λ k. f (suc k))) (h 0 (omega arith))
      ∙ ap (λ (l : List A). g 0 ∷ l) (tabulate_ext n (λ k. f (suc k)) (λ k. g (suc k)) (λ k p. h (suc k) (omega arith)))

  -- an entry
  pub tabulate_at : (n : ℕ) (f : ℕ → A) (i : ℕ) (d : A) → i < n → get_or (tabulate n f) i d ≡ f i
  unfolding tabulate
  tabulate_at zero f i d h = absurd (omega arith)
  tabulate_at (suc n) f zero d h = refl
  tabulate_at (suc n) f (suc i) d h = tabulate_at n (λ (k : ℕ). f (suc k)) i d (omega arith)

  -- an entry is that of an index
  pub tabulate_member : (n : ℕ) (f : ℕ → A) {x : A} → Memᴰ x (tabulate n f) → (k : ℕ) × ((k < n) × (x ≡ f k))
  unfolding tabulate
  tabulate_member zero f m = absurd (Memᴰ.not-nil m)
  tabulate_member (suc n) f m =
      ⊎_elim (λ e. (0, (omega arith, e)))
      (λ later. let found = tabulate_member n (λ k. f (suc k)) later in let below = found.1.0 in (suc found.0, (omega arith, found.1.1)))
      (Memᴰ.cases_cons m)

module _ {A : Type 0} where
  -- a list that is known entry by entry
  pub tabulated : (n : ℕ) (f : ℕ → A) (ys : List A) → length ys ≡ n → ((i : ℕ) (d : A) → i < n → slice_index_or ys i d ≡ f i) → ys ≡ tabulate n f
  unfolding tabulate
  tabulated zero f [] e at = refl
  tabulated zero f (y ∷ ys) e at = absurd (omega (arith, e))
  tabulated (suc n) f [] e at = absurd (omega (arith, e))
  tabulated (suc n) f (y ∷ ys) e at = λ i.
      at 0 y (omega arith) i ∷ tabulated n (λ k. f (suc k)) ys (omega (arith, e)) (λ k d lt. at (suc k) d (omega (arith, lt))) i

module _ {A B : Type 0} where
  -- a function of each entry
  pub map_tabulate : (g : A → B) (n : ℕ) (f : ℕ → A) → map g (tabulate n f) ≡ tabulate n (λ k. g (f k))
  unfolding tabulate
  map_tabulate g zero f = refl
  map_tabulate g (suc n) f = ap (λ (l : List B). g (f 0) ∷ l) (map_tabulate g n (λ (k : ℕ). f (suc k)))
