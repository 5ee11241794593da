-- Fixed bytes copied to the front of a list of bytes, one a turn: what holds after each. Assumes nothing.
use Prim.Native.Nat.{ℕ, ◌≤◌}
use mathlib.Core.Path.{◌≡◌}
use mathlib.Core.List.{List}
use lib.ListN.{length, take, drop}

-- k bytes of the mark are written
pub record Copying (mark s₀ s : List ℕ) (k : ℕ) : Type 0 where
  pub few : k ≤ length mark
  pub front : take k s ≡ take k mark
  pub back : drop k s ≡ drop k s₀
  pub size : length s ≡ length s₀
