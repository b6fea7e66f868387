-- Laws of the places where an entry of a list stands: it keeps them, moved by a number, in a longer list that has it nowhere else, and where every
-- entry is written in its own way. Assumes nothing.
use Rattle.std.specs.Prelude.{ℕ, zero, suc, ◌+◌, ◌-◌, ◌<◌, Bool, true, false, ◌⊎◌, ◌≡◌, refl, ltb, length, get_or}
use Rattle.std.proofs.Common.{arith, inl, inr, sym, ap, ◌∙◌, subst, ltb-true, ltb-false, length-append, get_or-append-add}
use mathlib.Core.List.{List, [], ◌∷◌, ◌++◌, map, flat_map, Memᴰ}
use Rattle.std.proofs.lemmas.List.{length-map}
use Rattle.std.proofs.Math.ListN.{get_or-append, get_or-map}
use Rattle.area.specs.Capping.{Stands}
use Rattle.area.specs.Tabulate.{tabulate}
use Rattle.area.specs.TabulateLaws.{tabulate_member}
use Rattle.area.proofs.WarningLaws.{flat_member}

-- what stands at a place of a list is a member
at_member : {W : Type 0} (ws : List W) (i : ℕ) (d : W) → i < length ws → Memᴰ (get_or ws i d) ws
at_member [] i d below = absurd (omega arith)
at_member (x ∷ xs) zero d below = Memᴰ.head refl
at_member (x ∷ xs) (suc i) d below = Memᴰ.tail (at_member xs i d (omega arith))

pub stands_member : {W : Type 0} (w : W) (ws : List W) (i : ℕ) → Stands w ws i → Memᴰ w ws
stands_member w ws i s = subst (λ (x : _). Memᴰ x ws) s.there (at_member ws i w s.inside)

-- v stands in one list as w stands in another, at places moved by a number
pub record Shifted {A B : Type 0} (v : A) (vs : List A) (w : B) (ws : List B) : Type 0 where
  pub by : ℕ
  pub forth : (i : ℕ) → Stands v vs i → Stands w ws (by + i)
  pub back : (j : ℕ) → Stands w ws j → (i : ℕ) × ((j ≡ by + i) × Stands v vs i)

pub shifted_then : {A B C : Type 0} {u : A} {us : List A} {v : B} {vs : List B} {w : C} {ws : List C} → Shifted u us v vs → Shifted v vs w ws → Shifted u us w ws
shifted_then {w = w} {ws = ws} a b = record {
  by = b.by + a.by;
  forth = λ i s. subst (Stands w ws) (omega arith) (b.forth (a.by + i) (a.forth i s));
  back = λ j s. let q = b.back j s in let p = a.back q.0 q.1.1 in let e = q.1.0 in let d = p.1.0 in (p.0, (omega arith, p.1.1));
}

-- in two lists, one behind another
module _ {W : Type 0} (w : W) (xs ys : List W) where
  in_front : (i : ℕ) → Stands w xs i → Stands w (xs ++ ys) i
  in_front i s =
      let below = s.inside in record { inside = omega (arith, length-append xs ys); there = get_or-append xs ys w i below ∙ s.there }

  in_rest : (i : ℕ) → Stands w ys i → Stands w (xs ++ ys) (length xs + i)
  in_rest i s = let below = s.inside in record { inside = omega (arith, length-append xs ys); there = get_or-append-add xs ys i w ∙ s.there }

  either : (j : ℕ) → Stands w (xs ++ ys) j → Stands w xs j ⊎ ((i : ℕ) × ((j ≡ length xs + i) × Stands w ys i))
  either j s = go (ltb j (length xs)) refl
    where
      go : (t : Bool) → ltb j (length xs) ≡ t → Stands w xs j ⊎ ((i : ℕ) × ((j ≡ length xs + i) × Stands w ys i))
      go true e = let below = ltb-true j (length xs) e in inl (record { inside = below; there = sym (get_or-append xs ys w j below) ∙ s.there })
      go false e =
          let past = ltb-false j (length xs) e in let below = s.inside in let i = j - length xs in
          let same : j ≡ length xs + i = omega arith in
          inr (
            i,
            (
              same,
              record {
                inside = omega (arith, length-append xs ys);
                there = sym (get_or-append-add xs ys i w) ∙ ap (λ (n : ℕ). get_or (xs ++ ys) n w) (sym same) ∙ s.there;
              },
            ),
          )

  pub shifted_front : (Memᴰ w ys → ⊥) → Shifted w xs w (xs ++ ys)
  shifted_front none = record { by = 0; forth = λ i s. subst (Stands w (xs ++ ys)) (omega arith) (in_front i s); back = λ j s. go j (either j s) }
    where
      go : (j : ℕ) → Stands w xs j ⊎ ((i : ℕ) × ((j ≡ length xs + i) × Stands w ys i)) → (i : ℕ) × ((j ≡ 0 + i) × Stands w xs i)
      go j (inl s) = (j, (omega arith, s))
      go j (inr s) = absurd (none (stands_member w ys s.0 s.1.1))

  pub shifted_behind : (Memᴰ w xs → ⊥) → Shifted w ys w (xs ++ ys)
  shifted_behind none = record { by = length xs; forth = in_rest; back = λ j s. go j (either j s) }
    where
      go : (j : ℕ) → Stands w xs j ⊎ ((i : ℕ) × ((j ≡ length xs + i) × Stands w ys i)) → (i : ℕ) × ((j ≡ length xs + i) × Stands w ys i)
      go j (inl s) = absurd (none (stands_member w xs j s))
      go j (inr s) = s

-- where every entry is written in its own way
pub shifted_map : {A B : Type 0} (f : A → B) (v : A) (vs : List A) → ((x : A) → Memᴰ x vs → f x ≡ f v → x ≡ v) → Shifted v vs (f v) (map f vs)
shifted_map f v vs own = record {
  by = 0;
  forth = λ i s.
      subst (Stands (f v) (map f vs)) (omega arith) (record { inside = rw (length-map vs f) s.inside; there = get_or-map f vs i v ∙ ap f s.there });
  back = λ j s.
      let below : j < length vs = rw (length-map vs f) at s.inside in
      (j, (omega arith, record { inside = below; there = own (get_or vs j v) (at_member vs j v below) (sym (get_or-map f vs j v) ∙ s.there) }));
}

-- in a list of lists, of which one has it
pub shifted_flat : {A W : Type 0} (f : A → List W) (w : W) (n i : ℕ) (g : ℕ → A) → i < n → ((k : ℕ) → Memᴰ w (f (g k)) → k ≡ i)
    → Shifted w (f (g i)) w (flat_map f (tabulate n g))
unfolding flat_map tabulate
shifted_flat f w zero i g below only = absurd (omega arith)
shifted_flat f w (suc n) zero g below only =
    shifted_front w (f (g 0)) (flat_map f (tabulate n (λ k. g (suc k)))) (λ m.
    let found = flat_member f (tabulate n (λ k. g (suc k))) m in let entry = tabulate_member n (λ k. g (suc k)) found.1.0 in
    let e = only (suc entry.0) (subst (λ (x : _). Memᴰ w (f x)) entry.1.1 found.1.1) in absurd (omega arith))
shifted_flat f w (suc n) (suc i) g below only =
    shifted_then (shifted_flat f w n i (λ k. g (suc k)) (omega arith) (λ k m. let e = only (suc k) m in omega arith))
    (shifted_behind w (f (g 0)) (flat_map f (tabulate n (λ k. g (suc k)))) (λ m. let e = only 0 m in absurd (omega arith)))
