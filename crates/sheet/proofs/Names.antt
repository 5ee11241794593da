-- When bytes are a name. Assumes nothing.
use mathlib.Core.Path.{◌≡◌}
use mathlib.Core.Bool.{false}
use mathlib.Core.List.{List}
use Prim.Native.Nat.{◌≤◌, ◌<◌}
use native.Mathlib.Omega.{arith}
use lib.ListN.{length}
use borrow.Author.Tests.{le-leb, lt-leb}
use Prim.Native.Nat.{ℕ}
use Rattle.layout.specs.Layout.{all, name_byte, name_allowed, name_limit}

module _ (name : List ℕ) where
  pub name_empty : length name < 1 → false ≡ name_allowed name
  unfolding name_allowed
  name_empty h = simp (lt-leb 1 (length name) h)

  pub name_long : name_limit < length name → false ≡ name_allowed name
  unfolding name_allowed
  name_long h = simp (lt-leb (length name) name_limit h, le-leb 1 (length name) (omega arith))

  pub name_tested : 1 ≤ length name → length name ≤ name_limit → all name_byte name ≡ name_allowed name
  unfolding name_allowed
  name_tested h k = simp (le-leb 1 (length name) h, le-leb (length name) name_limit k)
