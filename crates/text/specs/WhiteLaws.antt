-- Laws of white space at the ends of a text: what trimming takes away, and what it leaves. Assumes nothing.
use Rattle.std.specs.Prelude.{ℕ, ◌-◌, ◌≤◌, ◌<◌, ◌≡◌, false, List, ◌++◌, length, get_or, take_while}
use Rattle.std.proofs.Common.{arith, sym, ◌∙◌, ap}
use Rattle.std.proofs.Math.ListN.{get_or-append}
use Rattle.text.specs.While.{drop_while, drop_while_end}
use Rattle.text.specs.WhileLaws.{Passing, take_drop_while, take_while_passing, drop_while_length, drop_while_starts, CutTo, drop_while_end_cut, drop_while_end_length}
use Rattle.text.specs.White.{is_white, trimmed}

-- a trimmed text is no longer than the text
pub trimmed_length : (text : List ℕ) → length (trimmed text) ≤ length text
unfolding trimmed
trimmed_length text = omega (arith, drop_while_end_length is_white (drop_while is_white text), drop_while_length is_white text)

-- A text is trimmed to what is kept: white bytes in front and behind are taken away, and what is kept is empty, or begins and ends
-- with a byte that is not white.
pub record TrimmedTo (text kept : List ℕ) : Type 0 where
  pub front : List ℕ
  pub back : List ℕ
  pub whole : text ≡ front ++ (kept ++ back)
  pub front_white : Passing is_white 0 front
  pub back_white : Passing is_white 0 back
  pub begins : 0 < length kept → is_white (get_or kept 0 0) ≡ false
  pub ends : 0 < length kept → is_white (get_or kept (length kept - 1) 0) ≡ false

-- a text is trimmed so to its trimmed text
pub trimmed_to : (text : List ℕ) → TrimmedTo text (trimmed text)
unfolding trimmed
trimmed_to text =
    record {
      front = take_while is_white text;
      back = end.back;
      whole = sym (take_drop_while is_white text) ∙ ap (λ (r : List ℕ). take_while is_white text ++ r) end.whole;
      front_white = take_while_passing is_white 0 text;
      back_white = end.back_passes;
      begins = λ h. ap is_white (same h) ∙ drop_while_starts is_white 0 text (nonempty h);
      ends = end.ends;
    }
  where
    rest : List ℕ
    rest = drop_while is_white text

    kept : List ℕ
    kept = drop_while_end is_white rest

    end : CutTo is_white 0 rest kept
    end = drop_while_end_cut is_white 0 rest

    nonempty : 0 < length kept → 0 < length rest
    nonempty h = omega (arith, drop_while_end_length is_white rest)

    same : 0 < length kept → get_or kept 0 0 ≡ get_or rest 0 0
    same h = sym (get_or-append kept end.back 0 0 h) ∙ ap (λ (r : List ℕ). get_or r 0 0) (sym end.whole)
