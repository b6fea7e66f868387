-- A list without the front, or the end, whose elements pass a test (the front itself is std's `take_while`). Assumes nothing.
use Rattle.std.specs.Prelude.{◌-◌, Bool, List, length, take, drop}
use Rattle.std.specs.List.{prefix_len, suffix_len}

module _ {A : Type 0} (test : A → Bool) where
  -- the elements from the first that does not pass on
  unfoldable pub drop_while : List A → List A
  drop_while l = drop (prefix_len test l) l

  -- those up to the last that does not pass
  unfoldable pub drop_while_end : List A → List A
  drop_while_end l = take (length l - suffix_len test l) l
