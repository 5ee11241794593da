-- The faults of a day field (16), one example of each kind, with any sheet, index and table: the last line names the offset of
-- the field, and the table is as it was. Assumes nothing.
use Prim.Native.Nat.{ℕ, suc}
use mathlib.Core.Path.{◌≡◌, refl}
use mathlib.Core.List.{List, [], ◌∷◌, ◌++◌}
use mathlib.Core.Option.{some}
use lib.IntN.{pos}
use Rattle.circuit.specs.Call.{post, ask}
use Rattle.field.specs.Field.{cut_at}
use Rattle.word.specs.Word.{le_at}
use Rattle.office.specs.Office.{call_on, keeping}
use Rattle.day_meaning.specs.Orders.{order_of, post_in, call_in}
use Rattle.day_meaning.specs.Day.{line_of, fault_line, play_from}

module _ (s x t : List ℕ) (k : ℕ) where
  -- the header runs past the end; the content does
  pub short_header : play_from (suc k) s x (17 ∷ 2 ∷ []) 0 t ≡ record { text = fault_line 0; table = t }
  unfolding play_from cut_at
  short_header = refl

  pub short_content : play_from (suc k) s x (17 ∷ 2 ∷ 0 ∷ 4 ∷ []) 0 t ≡ record { text = fault_line 0; table = t }
  unfolding play_from cut_at
  short_content = refl

  -- tags on either side of the known ones
  pub tag_below : play_from (suc k) s x (15 ∷ 2 ∷ 0 ∷ 4 ∷ 0 ∷ []) 0 t ≡ record { text = fault_line 0; table = t }
  unfolding play_from cut_at order_of
  tag_below = refl

  pub tag_above : play_from (suc k) s x (21 ∷ 2 ∷ 0 ∷ 4 ∷ 0 ∷ []) 0 t ≡ record { text = fault_line 0; table = t }
  unfolding play_from cut_at order_of
  tag_above = refl

  -- an ask of 3 bytes, a post of 10
  pub ask_length : play_from (suc k) s x (17 ∷ 3 ∷ 0 ∷ 4 ∷ 0 ∷ 0 ∷ []) 0 t ≡ record { text = fault_line 0; table = t }
  unfolding play_from cut_at order_of call_in
  ask_length = refl

  pub post_length_lem : play_from (suc k) s x (16 ∷ 10 ∷ 0 ∷ 0 ∷ 0 ∷ 3 ∷ 7 ∷ 0 ∷ 0 ∷ 0 ∷ 0 ∷ 0 ∷ 0 ∷ []) 0 t ≡ record { text = fault_line 0; table = t }
  unfolding play_from cut_at order_of post_in le_at
  post_length_lem = refl

  -- the posted kind 2
  pub posted_kind : play_from (suc k) s x (16 ∷ 11 ∷ 0 ∷ 0 ∷ 0 ∷ 2 ∷ 0 ∷ 0 ∷ 0 ∷ 0 ∷ 0 ∷ 0 ∷ 0 ∷ 0 ∷ []) 0 t ≡ record { text = fault_line 0; table = t }
  unfolding play_from cut_at order_of post_in le_at
  posted_kind = refl

  -- kind 1 with the number 7
  pub posted_number : play_from (suc k) s x (16 ∷ 11 ∷ 0 ∷ 0 ∷ 0 ∷ 1 ∷ 7 ∷ 0 ∷ 0 ∷ 0 ∷ 0 ∷ 0 ∷ 0 ∷ 0 ∷ []) 0 t ≡ record { text = fault_line 0; table = t }
  unfolding play_from cut_at order_of post_in le_at
  posted_number = refl

  -- A fault after a call: its offset is that of the field, and the field after it is unread.
  pub fault_after : play_from (suc (suc k)) s x (17 ∷ 2 ∷ 0 ∷ 4 ∷ 0 ∷ 21 ∷ 0 ∷ 0 ∷ 17 ∷ 2 ∷ 0 ∷ 4 ∷ 0 ∷ []) 0 t
      ≡ record { text = line_of (ask 4) (call_on s (keeping x t) (ask 4)) ++ fault_line 5; table = (call_on s (keeping x t) (ask 4)).after.table }
  unfolding play_from cut_at order_of call_in
  fault_after = refl

-- A number beyond the range is no fault of the field: the call is made, and refuses it (13).
pub beyond_range_lem : order_of 16 (0 ∷ 0 ∷ 3 ∷ 0 ∷ 0 ∷ 0 ∷ 0 ∷ 0 ∷ 0 ∷ 0 ∷ 64 ∷ []) ≡ some (post 0 3 (pos 4_611_686_018_427_387_904))
unfolding order_of post_in le_at
beyond_range_lem = refl

-- kind 1 with the number 0
pub posted_null : order_of 16 (3 ∷ 1 ∷ 1 ∷ 0 ∷ 0 ∷ 0 ∷ 0 ∷ 0 ∷ 0 ∷ 0 ∷ 0 ∷ []) ≡ some (post 259 1 (pos 0))
unfolding order_of post_in le_at
posted_null = refl
