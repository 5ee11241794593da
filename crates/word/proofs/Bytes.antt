-- Numbers of several bytes: what the code computes, and that reading and writing are inverse. Assumes nothing.
use Prim.Native.Nat.{ℕ, zero, suc, ◌+◌, ◌*◌, ◌/◌, ◌%◌, ◌^◌, ◌≤◌, ◌<◌}
use mathlib.Core.Path.{◌≡◌, refl, sym, ap, ◌∙◌}
use mathlib.Core.List.{List, [], ◌∷◌, ◌++◌, append_assoc}
use native.Mathlib.Omega.{arith}
use native.Mathlib.Nat.{add_assoc, pow-suc, div-one, div-div-eq-div-mul}
use native.Mathlib.Numerals.{add-one}
use lib.ListN.{length, get_or, take, drop}
use lib.IntN.{ℤ}
use mir.Syntax.{w64}
use mir.Val.{SFits, of_z}
use mir.ValLaws.{to_z-of_z, of_z-to_z, of_z_fits}
use lib.Seq.{sets, sets-eq, get_or-drop, get_or-take, drop-cons, drop-drop}
use borrow.Rule.Slice.PartMut.{put_mid}
use Rattle.std.specs.Int.{byte_at, bytes_low_first, to_le_bytes, from_le_bytes}
use Rattle.field.specs.Bytes.{Bytes}
use Rattle.field.proofs.Bytes.{Bytes-nil}
use Rattle.word.specs.Word.{le_at, le_bytes, le64_at, bytes64}

-- eight bytes, each times its power
pub le8 : (s : List ℕ) (at : ℕ)
    → get_or s at 0 + get_or s (at + 1) 0 * 0x100 + get_or s (at + 2) 0 * 0x1_0000 + get_or s (at + 3) 0 * 0x100_0000
    + get_or s (at + 4) 0 * 0x1_0000_0000 + get_or s (at + 5) 0 * 0x100_0000_0000 + get_or s (at + 6) 0 * 0x1_0000_0000_0000 + get_or s (at + 7) 0 * 0x100_0000_0000_0000 ≡ le_at 8 s at
unfolding le_at
le8 s at = simp (add_assoc at) (omega arith)

-- a number within the bytes past an offset, and within the first of them
pub le_at-drop : (n : ℕ) (s : List ℕ) (a b : ℕ) → le_at n s (a + b) ≡ le_at n (drop a s) b
unfolding le_at
le_at-drop zero s a b = refl
le_at-drop (suc n) s a b = rw (add_assoc a b 1, le_at-drop n s a (b + 1), get_or-drop)

pub le_at-take : (n : ℕ) (s : List ℕ) (at w : ℕ) → at + n ≤ w → le_at n (take w s) at ≡ le_at n s at
unfolding le_at
le_at-take zero s at w h = refl
le_at-take (suc n) s at w h = rw (get_or-take w s at 0 (omega arith), le_at-take n s (at + 1) w (omega arith))

-- the sum of eight of the bytes is their number
pub part8 : (s : List ℕ) (at : ℕ) → from_le_bytes w64 (take 8 (drop at s)) ≡ le_at 8 s at
part8 s at =
    let same : at + 0 ≡ at = omega arith in
    le8 (take 8 (drop at s)) 0 ∙ le_at-take 8 (drop at s) 0 8 (omega arith) ∙ sym (le_at-drop 8 s at 0) ∙ ap (le_at 8 s) same

-- the bytes that std gives, from byte i upward
low_first : (i n x : ℕ) → bytes_low_first i n x ≡ le_bytes n (x / 256 ^ i)
unfolding le_bytes
low_first i zero x = refl
low_first i (suc n) x =
    let p : 256 ^ suc i ≡ 256 ^ i * 256 = pow-suc 256 i in
    let q : x / 256 ^ i / 256 ≡ x / 256 ^ suc i = div-div-eq-div-mul x (256 ^ i) 256 ∙ ap (λ m. x / m) (sym p) in
    rw (low_first (suc i) n x, q) (ap (λ b. b ∷ le_bytes n (x / 256 ^ suc i)) (first i))
  where
    first : (j : ℕ) → byte_at j x ≡ x / 256 ^ j % 256
    first zero = ap (λ m. m % 256) (sym (div-one x))
    first (suc j) = refl

pub le_bytes8 : (x : ℕ) → to_le_bytes w64 x ≡ le_bytes 8 x
le_bytes8 x = low_first 0 8 x ∙ ap (le_bytes 8) (div-one x)

-- a part of a list written over, as stores one after the other
pub part_sets : (at k : ℕ) (s ys : List ℕ) → k ≡ length ys → at + length ys ≤ length s → put_mid at k s ys ≡ sets s at ys
part_sets at k s ys e h =
    ap (λ t. take at s ++ (ys ++ t)) (drop-drop k at s ∙ ap (λ m. drop (at + m) s) e)
    ∙ sym (append_assoc (take at s) ys (drop (at + length ys) s)) ∙ sym (sets-eq ys s at h)

-- ---- reading and writing are inverse

-- the bytes of a number are bytes, and as many as asked for
pub length-le_bytes : (n x : ℕ) → length (le_bytes n x) ≡ n
unfolding le_bytes
length-le_bytes zero x = refl
length-le_bytes (suc n) x = ap suc (length-le_bytes n (x / 256))

-- a number that n bytes hold, written and read again
pub read_written : (n x : ℕ) → x < 256 ^ n → le_at n (le_bytes n x) 0 ≡ x
unfolding le_at le_bytes
read_written zero x h = omega arith
read_written (suc n) x h =
    let p : 256 ^ suc n ≡ 256 ^ n * 256 = pow-suc 256 n in
    let again : le_at n (le_bytes n (x / 256)) 0 ≡ x / 256 = read_written n (x / 256) (omega arith) in
    let rest : le_at n (x % 256 ∷ le_bytes n (x / 256)) 1 ≡ le_at n (le_bytes n (x / 256)) 0 = le_at-drop n (x % 256 ∷ le_bytes n (x / 256)) 1 0 in
    omega arith

-- bytes, read and written again
pub written_read : (n : ℕ) (s : List ℕ) (at : ℕ) → Bytes s → at + n ≤ length s → le_bytes n (le_at n s at) ≡ take n (drop at s)
unfolding le_at le_bytes
written_read zero s at bytes h = refl
written_read (suc n) s at bytes h =
    let b : get_or s at 0 < 256 = bytes at in
    let low : (get_or s at 0 + 256 * le_at n s (at + 1)) % 256 ≡ get_or s at 0 = omega arith in
    let rest : (get_or s at 0 + 256 * le_at n s (at + 1)) / 256 ≡ le_at n s (at + 1) = omega arith in
    rw (low, rest, written_read n s (at + 1) bytes (omega arith), drop-cons s at 0 (omega arith), add-one at)

-- a signed number, written and read again
pub signed_again : (z : ℤ) → SFits w64 z → le64_at (bytes64 z) 0 ≡ z
signed_again z fits = rw (read_written 8 (of_z w64 z) (of_z_fits w64 z fits).fits) (to_z-of_z w64 z fits)

-- n bytes are a number below 256 ^ n
pub le_at_small : (n : ℕ) (s : List ℕ) (at : ℕ) → Bytes s → le_at n s at < 256 ^ n
unfolding le_at
le_at_small zero s at bytes = omega arith
le_at_small (suc n) s at bytes =
    let p : 256 ^ suc n ≡ 256 ^ n * 256 = pow-suc 256 n in
    let b : get_or s at 0 < 256 = bytes at in
    let less : le_at n s (at + 1) < 256 ^ n = le_at_small n s (at + 1) bytes in
    omega arith

-- eight bytes, read and written again
pub bytes_again : (s : List ℕ) (at : ℕ) → Bytes s → at + 8 ≤ length s → bytes64 (le64_at s at) ≡ take 8 (drop at s)
bytes_again s at bytes h = rw (of_z-to_z w64 (le_at 8 s at) (record { fits = le_at_small 8 s at bytes })) (written_read 8 s at bytes h)

pub length_bytes64 : (z : ℤ) → length (bytes64 z) ≡ 8
length_bytes64 z = length-le_bytes 8 (of_z w64 z)

-- ---- lists of bytes

pub bytes_drop : (n : ℕ) (s : List ℕ) → Bytes s → Bytes (drop n s)
bytes_drop n s bytes k = rw (get_or-drop n s k 0) (bytes (n + k))

pub bytes_take : (n : ℕ) (s : List ℕ) → Bytes s → Bytes (take n s)
bytes_take zero s bytes k = Bytes-nil k
bytes_take (suc n) [] bytes k = Bytes-nil k
bytes_take (suc n) (a ∷ s) bytes zero = bytes 0
bytes_take (suc n) (a ∷ s) bytes (suc k) = bytes_take n s (λ j. bytes (suc j)) k

pub bytes-le_bytes : (n x : ℕ) → Bytes (le_bytes n x)
unfolding le_bytes
bytes-le_bytes zero x k = Bytes-nil k
bytes-le_bytes (suc n) x zero = omega arith
bytes-le_bytes (suc n) x (suc k) = bytes-le_bytes n (x / 256) k
