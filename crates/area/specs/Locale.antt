-- The locales of a table (01, "Area": "Fixed fields, locales (at most 10) and area texts stand at the offsets in `read_area`").
-- Assumes nothing.
use Rattle.std.specs.Prelude.{ℕ, ◌+◌, ◌*◌, min, cond, List, [], ◌∷◌, ltb}
use Rattle.sectors.specs.Number.{be_at}
use Rattle.text.specs.Language.{language_of}
use Rattle.area.specs.Tabulate.{tabulate}
use Rattle.area.specs.declared.locale.Locale.{Locale}

-- "locales (at most 10)"
abbrev pub max_locales : ℕ
max_locales = 10

-- where they stand
abbrev pub locales_offset : ℕ
locales_offset = 88

-- the two bytes of a language code, as stored
unfoldable pub code_at : List ℕ → ℕ → List ℕ
code_at table at = be_at table at 1 ∷ be_at table (at + 1) 1 ∷ []

-- four bytes: the code's two, the set, and one without meaning
unfoldable pub locale_at : List ℕ → ℕ → Locale
locale_at table at = record { language = language_of (code_at table at); language_code = code_at table at; charset = be_at table (at + 2) 1 }

-- "Absent fields .. are zero."
unfoldable pub no_locale : Locale
no_locale = record { language = record { bytes = 0 ∷ 0 ∷ []; len = 0 }; language_code = 0 ∷ 0 ∷ []; charset = 0 }

-- locale k of so many that stand from a place on
unfoldable pub locale_or : List ℕ → ℕ → ℕ → ℕ → Locale
locale_or table at count k = cond (ltb k count) (locale_at table (at + 4 * k)) no_locale

-- as many as there are text channels
unfoldable pub locales_at : List ℕ → ℕ → List Locale
locales_at table count = tabulate max_locales (locale_or table locales_offset count)

-- how many of them are locales
unfoldable pub locale_count : ℕ → ℕ
locale_count channels = min channels max_locales
