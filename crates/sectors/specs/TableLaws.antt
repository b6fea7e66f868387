-- A rule of a table, proved at all of its entries by one test that antt computes: the table is the list of the rule's values.
-- Assumes nothing.
use Rattle.std.specs.Prelude.{◌≡◌, ℕ, zero, suc, ◌+◌, ◌<◌, List, [], ◌∷◌, map, length, get_or, slice_index, slice_index_or, refl}
use Rattle.std.proofs.Common.{ap, sym, ◌∙◌, add-zero, zero-add, add-suc, suc-add, le_of_suc-le-suc, not-suc-le-zero, arith, ext_get_or}
use Rattle.std.proofs.Math.ListN.{get_or-map}

-- f i, f (i + 1), .., n of them
unfoldable pub values : (ℕ → ℕ) → ℕ → ℕ → List ℕ
values f i zero = []
values f i (suc n) = f i ∷ values f (suc i) n

value_at : (f : ℕ → ℕ) (n i k d : ℕ) → k < n → slice_index_or (values f i n) k d ≡ f (i + k)
unfolding values
value_at f zero i k d h = absurd (not-suc-le-zero h)
value_at f (suc n) i zero d h = ap f (sym (add-zero i))
value_at f (suc n) i (suc k) d h = value_at f n (suc i) k d (le_of_suc-le-suc h) ∙ ap f (suc-add i k ∙ sym (add-suc i k))

-- at a table that computes to `values f 0 n`
rule : (f : ℕ → ℕ) (n k d : ℕ) → k < n → slice_index_or (values f 0 n) k d ≡ f k
rule f n k d h = value_at f n 0 k d h ∙ ap f (zero-add k)

-- two rules that have the same values
pub agree : (f g : ℕ → ℕ) (n : ℕ) → values f 0 n ≡ values g 0 n → (k : ℕ) → k < n → f k ≡ g k
agree f g n e k h = sym (rule f n k 0 h) ∙ ap (λ (l : List ℕ). slice_index l k) e ∙ rule g n k 0 h

-- a list whose elements map to a rule's values
pub mapped : (f g : ℕ → ℕ) (l : List ℕ) (n : ℕ) → map f l ≡ values g 0 n → (k : ℕ) → k < n → f (slice_index l k) ≡ g k
mapped f g l n e k h = sym (get_or-map f l k 0) ∙ ap (λ (m : List ℕ). get_or m k (f 0)) e ∙ rule g n k (f 0) h

length_values : (f : ℕ → ℕ) (n i : ℕ) → length (values f i n) ≡ n
unfolding values
length_values f zero i = refl
length_values f (suc n) i = ap suc (length_values f n (suc i))

-- a list by its places
pub places : (h : List ℕ) (n : ℕ) → length h ≡ n → h ≡ values (λ i. slice_index h i) 0 n
places h n e =
    ext_get_or 0 h _ (e ∙ sym (length_values (λ i. slice_index h i) n 0)) (λ i l. sym (rule (λ i. slice_index h i) n i 0 (omega arith)))
