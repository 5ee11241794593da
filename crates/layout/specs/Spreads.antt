-- The spread bytes of a sheet, for 02's job 10: which figures hold spread 2, sheets that differ in spread bytes only, and the sheet with 0
-- in place of each 2. Assumes nothing.
use Rattle.std.specs.Prelude.{ℕ, zero, suc, ◌+◌, ◌<◌, ◌≡◌, Bool, true, false, cond, ◌&&◌, List, eqb, length, get_or, set}
use Rattle.field.specs.Field.{header_length}
use Rattle.layout.specs.Layout.{figure_tag, spread_at}
use Rattle.layout.specs.Content.{spread_in}
use Rattle.layout.specs.Causes.{item, item_count, offset_of, tag_of, length_of, content_of}

-- where the spread byte of item i stands, if it is a figure
abbrev pub spread_offset : List ℕ → ℕ → ℕ
spread_offset s i = offset_of s (item i) + header_length + spread_at

-- item i is a figure that holds spread 2
abbrev pub holds_forget : List ℕ → ℕ → Bool
holds_forget s i = eqb (tag_of s (item i)) figure_tag && eqb (spread_in (content_of s (item i))) 2

-- no figure holds it
abbrev pub NoForget : List ℕ → Type 0
NoForget s = (i : ℕ) → i < item_count s → holds_forget s i ≡ false

-- item i is the first figure that holds it
pub record FirstForget (s : List ℕ) (i : ℕ) : Type 0 where
  pub in_sheet : i < item_count s
  pub holds : holds_forget s i ≡ true
  pub first : (j : ℕ) → j < i → holds_forget s j ≡ false

-- byte k of the sheet is the spread byte of item i: a figure, whose content reaches so far
pub record SpreadByte (s : List ℕ) (k i : ℕ) : Type 0 where
  pub in_sheet : i < item_count s
  pub figure : tag_of s (item i) ≡ figure_tag
  pub inside : spread_at < length_of s (item i)
  pub there : k ≡ spread_offset s i

-- two sheets that differ in spread bytes only
pub record DifferInSpreads (s t : List ℕ) : Type 0 where
  pub long : length t ≡ length s
  pub others : (k : ℕ) → ((i : ℕ) → ¬ SpreadByte s k i) → get_or t k 0 ≡ get_or s k 0

-- the sheet with 0 in place of spread 2 in each figure among its first n items, and in each figure
unfoldable pub zeroed_below : List ℕ → ℕ → List ℕ
zeroed_below s zero = s
zeroed_below s (suc i) = cond (holds_forget s i) (set (zeroed_below s i) (spread_offset s i) 0) (zeroed_below s i)

abbrev pub without_forget : List ℕ → List ℕ
without_forget s = zeroed_below s (item_count s)

-- t is s with 0 for each spread byte that is 2, and with every other byte as it is; no figure of it holds spread 2
pub record Zeroes (s t : List ℕ) : Type 0 where
  pub long : length t ≡ length s
  pub twos : (k i : ℕ) → SpreadByte s k i → get_or s k 0 ≡ 2 → get_or t k 0 ≡ 0
  pub others : (k : ℕ) → ((i : ℕ) → SpreadByte s k i → ¬ (get_or s k 0 ≡ 2)) → get_or t k 0 ≡ get_or s k 0
  pub none_left : NoForget t
