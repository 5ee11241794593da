-- Lists of bytes, joined, are lists of bytes. Assumes nothing.
use mathlib.Core.List.{List, [], ◌∷◌, ◌++◌}
use Prim.Native.Nat.{ℕ, zero, suc, ◌<◌}
use native.Mathlib.Omega.{arith}
use Rattle.field.specs.Bytes.{Bytes}

pub Bytes-nil : Bytes []
Bytes-nil i = omega arith

pub Bytes-cons : (b : ℕ) (bs : List ℕ) → b < 256 → Bytes bs → Bytes (b ∷ bs)
Bytes-cons b bs h t zero = h
Bytes-cons b bs h t (suc i) = t i

pub Bytes-append : (xs ys : List ℕ) → Bytes xs → Bytes ys → Bytes (xs ++ ys)
Bytes-append [] ys a b i = b i
Bytes-append (x ∷ xs) ys a b zero = a 0
Bytes-append (x ∷ xs) ys a b (suc i) = Bytes-append xs ys (λ j. a (suc j)) b i
