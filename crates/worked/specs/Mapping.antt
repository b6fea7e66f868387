-- A worked mapping (02, item 1), and strings decoded by it. Assumes nothing.
use Rattle.std.specs.Prelude.{ℕ, ◌+◌, List, [], ◌∷◌, ◌++◌}
use Rattle.text.specs.Mapping.{double_base}
use Rattle.text.specs.Decode.{Decoded, refused, gives}

-- Singles: A; B, a double; C, a control; hexadecimal 81. Pairs: hexadecimal 8140; 8141, a double of a control and D; 889E, which is reserved in Shift JIS.
-- Two doubles.
unfoldable pub worked_mapping : List ℕ
worked_mapping =
    (4 ∷ 0x41 ∷ 0x41 ∷ 0x42 ∷ (double_base + 0) ∷ 0x43 ∷ 0x07 ∷ 0x81 ∷ 0xa5 ∷ [])
    ++ (3 ∷ 0x8140 ∷ 0x3000 ∷ 0x8141 ∷ (double_base + 1) ∷ 0x889e ∷ 0x1f600 ∷ [])
    ++ (2 ∷ 0x304b ∷ 0x309a ∷ 0x08 ∷ 0x44 ∷ [])

-- bytes of a set's code, the words lent, and what they give
pub record Row : Type 0 where
  pub bytes : List ℕ
  pub code : ℕ
  pub lent : List ℕ
  pub given : Decoded

-- by the worked mapping
unfoldable pub row : List ℕ → ℕ → List ℕ → Row
row bytes code points = record { bytes = bytes; code = code; lent = worked_mapping; given = gives points }

unfoldable pub rows : List Row
rows =
    -- a single, a pair, a double
    row (0x41 ∷ []) 3 (0x41 ∷ [])
    ∷ row (0x81 ∷ 0x40 ∷ []) 3 (0x3000 ∷ [])
    ∷ row (0x42 ∷ []) 3 (0x304b ∷ 0x309a ∷ [])
    -- a control, and one in a double
    ∷ row (0x43 ∷ []) 3 (0x07 ∷ [])
    ∷ row (0x81 ∷ 0x41 ∷ []) 3 (0x08 ∷ 0x44 ∷ [])
    -- a reserved pair; the same bytes in another set; one that the mapping has
    ∷ row (0x87 ∷ 0x9f ∷ []) 3 (0xfffd ∷ [])
    ∷ row (0x87 ∷ 0x9f ∷ []) 4 (0xfffd ∷ 0xfffd ∷ [])
    ∷ row (0x88 ∷ 0x9e ∷ []) 3 (0x1f600 ∷ [])
    -- an unmapped pair, and it goes on from the second byte; a first byte at the end
    ∷ row (0x82 ∷ 0x81 ∷ 0x40 ∷ []) 3 (0xfffd ∷ 0x3000 ∷ [])
    ∷ row (0x41 ∷ 0x81 ∷ []) 3 (0x41 ∷ 0xa5 ∷ [])
    -- Latin-1, and an absent text
    ∷ row (0x81 ∷ 0x40 ∷ []) 8 (0x81 ∷ 0x40 ∷ [])
    ∷ row [] 3 []
    -- 9 for no words, 12 for such as are no mapping; neither in Latin-1 or for an absent text
    ∷ record { bytes = 0x41 ∷ []; code = 3; lent = []; given = refused 9 }
    ∷ record { bytes = 0x41 ∷ []; code = 3; lent = 0 ∷ 0 ∷ []; given = refused 12 }
    ∷ record { bytes = 0x41 ∷ []; code = 8; lent = 0 ∷ 0 ∷ []; given = gives (0x41 ∷ []) }
    ∷ record { bytes = []; code = 3; lent = 0 ∷ 0 ∷ []; given = gives [] }
    ∷ []

-- a text of them in set 3, and its UTF-8: a control is a blank
abbrev pub worked_bytes : List ℕ
worked_bytes = 0x41 ∷ 0x43 ∷ 0x81 ∷ 0x41 ∷ 0x88 ∷ 0x9e ∷ 0x81 ∷ []

abbrev pub worked_text : List ℕ
worked_text = 0x41 ∷ 0x20 ∷ 0x20 ∷ 0x44 ∷ 0xf0 ∷ 0x9f ∷ 0x98 ∷ 0x80 ∷ 0xc2 ∷ 0xa5 ∷ []
