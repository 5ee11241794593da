-- The lines that the day program prints, as bytes, and text stored in lent bytes. Assumes nothing.
use Rattle.std.specs.Prelude.{ℕ, ◌+◌, min, ◌≡◌, List, [], ◌∷◌, ◌++◌, length, take, drop}
use Rattle.std.proofs.lemmas.List.Edits.{sets}
use Rattle.decimal.specs.Decimal.{digits}

-- the words of the lines, each with the space after it: `ASK `, `NO `, `SHEET `, `DAY `
abbrev pub ask_word : List ℕ
ask_word = 65 ∷ 83 ∷ 75 ∷ 32 ∷ []

abbrev pub no_word : List ℕ
no_word = 78 ∷ 79 ∷ 32 ∷ []

abbrev pub sheet_word : List ℕ
sheet_word = 83 ∷ 72 ∷ 69 ∷ 69 ∷ 84 ∷ 32 ∷ []

abbrev pub day_word : List ℕ
day_word = 68 ∷ 65 ∷ 89 ∷ 32 ∷ []

abbrev pub space : List ℕ
space = 32 ∷ []

-- the byte that ends a line
abbrev pub line_end : List ℕ
line_end = 10 ∷ []

-- `OK`
abbrev pub ok_line : List ℕ
ok_line = 79 ∷ 75 ∷ 10 ∷ []

-- `NO number`
abbrev pub no_line : ℕ → List ℕ
no_line number = no_word ++ (digits number ++ line_end)

-- `ASK item value`, with the text of the value
abbrev pub ask_line : ℕ → List ℕ → List ℕ
ask_line item text = ask_word ++ (digits item ++ (space ++ (text ++ line_end)))

-- `SHEET number offset` or `DAY number offset`, by the word
abbrev pub last_line : List ℕ → ℕ → ℕ → List ℕ
last_line word number offset = word ++ (digits number ++ (space ++ (digits offset ++ line_end)))

-- The output bytes with a text at their front. What does not fit is left out; the bytes after the text are those that were
-- there.
abbrev pub written : List ℕ → List ℕ → List ℕ
written out text = take (length out) text ++ drop (length text) out

-- how many bytes of the text are in the output
abbrev pub written_count : List ℕ → List ℕ → ℕ
written_count out text = min (length out) (length text)

-- Text stored from a place on, as far as it fits, and the place after it: what each function that appends to the output does.
pub record Appended (text before : List ℕ) (at next : ℕ) (after : List ℕ) : Type 0 where
  pub place : next ≡ min (length before) (at + length text)
  pub bytes : after ≡ sets before at text
