-- A record is stored by writing the front of its row. Assumes nothing.
use Prim.Native.Nat.{ℕ, ◌+◌, ◌*◌, ◌≤◌}
use mathlib.Core.Path.{◌≡◌, sym, ap, ◌∙◌}
use mathlib.Core.List.{List, ◌++◌, append_assoc}
use native.Mathlib.Omega.{arith}
use lib.ListN.{length, take, drop, length-drop}
use lib.Seq.{sets, sets-eq, drop-drop, length-take-le}
use Rattle.std.proofs.lemmas.List.{drop-append-le, take-append-drop}
use borrow.Rule.Slice.PartMut.{put_mid}
use Rattle.circuit.specs.Table.{Cell}
use Rattle.table.specs.Rows.{set_row}
use Rattle.table.specs.Record.{width, encode_cell}
use Rattle.table.proofs.Records.{length-encode_cell}

-- a store at the front of a part of a list
part_sets : (s r : List ℕ) (at k : ℕ) → at + k ≤ length s → length r ≤ k → put_mid at k s (sets (take k (drop at s)) 0 r) ≡ sets s at r
part_sets s r at k h small =
    let part : List ℕ = take k (drop at s) in
    let long : length part ≡ k = length-take-le k (drop at s) (omega (arith, length-drop at s)) in
    let rest : drop (length r) part ++ drop k (drop at s) ≡ drop (at + length r) s =
    sym (drop-append-le (length r) part (drop k (drop at s)) (omega arith)) ∙ ap (drop (length r)) (take-append-drop k (drop at s)) ∙ drop-drop (length r) at s in
    let front : sets part 0 r ≡ r ++ drop (length r) part = sets-eq r part 0 (omega arith) ∙ ap (λ n. r ++ drop n part) (omega arith) in
    ap (λ t. take at s ++ (t ++ drop k (drop at s))) front
    ∙ ap (λ t. take at s ++ t) (append_assoc r (drop (length r) part) (drop k (drop at s)) ∙ ap (λ t. r ++ t) rest)
    ∙ sym (append_assoc (take at s) r (drop (at + length r) s)) ∙ sym (sets-eq r s at (omega arith))

-- a record written into its place of the table
pub record_stored : (s : List ℕ) (i at k : ℕ) (c : Cell) (r t : List ℕ) → encode_cell c ≡ r → at ≡ width * i → k ≡ width → width * i + width ≤ length s
    → t ≡ sets (take k (drop at s)) 0 r → put_mid at k s t ≡ set_row width s i (encode_cell c)
record_stored s i at k c r t is place long fits stored =
    rw (stored, ← is, place, long) (part_sets s (encode_cell c) (width * i) width fits (omega (arith, length-encode_cell c)))
