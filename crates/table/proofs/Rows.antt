-- Rows of one length: reading and storing one, and a list from its rows. Assumes nothing.
use Prim.Native.Nat.{ℕ, zero, suc, ◌+◌, ◌*◌, ◌≤◌, ◌<◌}
use mathlib.Core.Path.{◌≡◌, refl, sym, ◌∙◌}
use mathlib.Core.Bool.{Bool, true, false}
use mathlib.Core.List.{List, [], ◌∷◌, ◌++◌, append_assoc}
use native.Mathlib.Omega.{arith}
use native.Mathlib.Nat.{mul-zero, mul-suc, mul-le-mul_left}
use lib.Dec.{eqb, ltb}
use borrow.Author.Tests.{eqb-true, eqb-false, ltb-true, ltb-false}
use lib.ListN.{length, get_or, take, drop, set, length-append, length-take, length-drop}
use lib.Seq.{sets, sets-eq, length-sets, take-add, take-take, take_at, drop_at, take_all, take-append-le, drop-append-le, get_or-set_other, get_or-take, get_or-drop, ext_get_or, length-take-le}
use Rattle.circuit.proofs.RuleLaws.{and_left, and_right}
use Rattle.field.specs.Bytes.{Bytes}
use Rattle.field.proofs.Bytes.{Bytes-nil, Bytes-append}
use Rattle.table.specs.Rows.{row, set_row, rows_below, all_below}

-- rows do not overlap
pub row_before : (w : ℕ) {i n : ℕ} → i < n → w * i + w ≤ w * n
row_before w {i} {n} h = rw (← mul-suc w i) (mul-le-mul_left w h)

pub length_row : (w : ℕ) (bs : List ℕ) (i : ℕ) → w * i + w ≤ length bs → length (row w bs i) ≡ w
length_row w bs i h = length-take-le w (drop (w * i) bs) (simp length-drop (omega arith))

pub get_d_row : (w : ℕ) (bs : List ℕ) (i k : ℕ) → k < w → get_or (row w bs i) k 0 ≡ get_or bs (w * i + k) 0
get_d_row w bs i k h = rw (get_or-take w (drop (w * i) bs) k 0 h, get_or-drop)

-- ---- a list from its rows

pub rows_ext : {f g : ℕ → List ℕ} (n : ℕ) → ((i : ℕ) → i < n → f i ≡ g i) → rows_below f n ≡ rows_below g n
unfolding rows_below
rows_ext zero e = refl
rows_ext (suc n) e = rw (rows_ext n (λ i h. e i (omega arith)), e n (omega arith))

pub length_rows : (w : ℕ) (f : ℕ → List ℕ) (n : ℕ) → ((i : ℕ) → i < n → length (f i) ≡ w) → length (rows_below f n) ≡ w * n
unfolding rows_below
length_rows w f zero e = sym (mul-zero w)
length_rows w f (suc n) e =
    length-append (rows_below f n) (f n) ∙ rw (length_rows w f n (λ i h. e i (omega arith)), e n (omega arith), mul-suc w n)

pub row_rows : (w : ℕ) (f : ℕ → List ℕ) (n : ℕ) → ((i : ℕ) → i < n → length (f i) ≡ w) → (i : ℕ) → i < n → row w (rows_below f n) i ≡ f i
unfolding rows_below
row_rows w f zero e i h = absurd (omega arith)
row_rows w f (suc n) e i h = go (λ lt. row_rows w f n before i lt) (eqb i n) refl
  where
    before : (j : ℕ) → j < n → length (f j) ≡ w
    before j hj = e j (omega arith)

    len : length (rows_below f n) ≡ w * n
    len = length_rows w f n before

    go : (i < n → row w (rows_below f n) i ≡ f i) → (b : Bool) → eqb i n ≡ b → row w (rows_below f n ++ f n) i ≡ f i
    go earlier true t =
        rw (eqb-true i n t, drop_at (rows_below f n) (f n) (w * n) len) (take_all w (f n) (omega (arith, e n (omega arith))))
    go earlier false t =
        let lt : i < n = omega (arith, eqb-false i n t) in
        let room : w * i + w ≤ w * n = row_before w lt in
        rw (drop-append-le (w * i) (rows_below f n) (f n) (omega (arith, len)), take-append-le w (drop (w * i) (rows_below f n)) (f n) (simp length-drop (omega (arith, len)))) (earlier lt)

pub rows_taken : (w : ℕ) (bs : List ℕ) (n : ℕ) → w * n ≤ length bs → rows_below (row w bs) n ≡ take (w * n) bs
unfolding rows_below
rows_taken w bs zero h = rw (mul-zero w)
rows_taken w bs (suc n) h =
    let m : w * suc n ≡ w * n + w = mul-suc w n in
    rw (rows_taken w bs n (omega arith), m, take-add (w * n) w bs)

pub rows_row : (w : ℕ) (bs : List ℕ) (n : ℕ) → length bs ≡ w * n → rows_below (row w bs) n ≡ bs
rows_row w bs n e = rows_taken w bs n (omega arith) ∙ take_all (w * n) bs (omega arith)

pub bytes_rows : (f : ℕ → List ℕ) (n : ℕ) → ((i : ℕ) → Bytes (f i)) → Bytes (rows_below f n)
unfolding rows_below
bytes_rows f zero each k = Bytes-nil k
bytes_rows f (suc n) each k = Bytes-append (rows_below f n) (f n) (bytes_rows f n each) (each n) k

-- ---- storing a row

pub get_d_sets_below : (vs l : List ℕ) (i k : ℕ) → k < i → get_or (sets l i vs) k 0 ≡ get_or l k 0
get_d_sets_below [] l i k h = refl
get_d_sets_below (a ∷ vs) l i k h =
    get_d_sets_below vs (set l i a) (suc i) k (omega arith) ∙ get_or-set_other l i k a 0 (omega arith)

pub get_d_sets_above : (vs l : List ℕ) (i k : ℕ) → i + length vs ≤ k → get_or (sets l i vs) k 0 ≡ get_or l k 0
get_d_sets_above [] l i k h = refl
get_d_sets_above (a ∷ vs) l i k h =
    get_d_sets_above vs (set l i a) (suc i) k (omega arith) ∙ get_or-set_other l i k a 0 (omega arith)

pub length-set_row : (w : ℕ) (bs : List ℕ) (i : ℕ) (r : List ℕ) → length (set_row w bs i r) ≡ length bs
length-set_row w bs i r = length-sets bs (w * i) r

-- a store of the first elements of a row
pub row_front : (w : ℕ) (bs : List ℕ) (i : ℕ) (r : List ℕ) → w * i + w ≤ length bs → length r ≤ w
    → take (length r) (row w (set_row w bs i r) i) ≡ r
row_front w bs i r h l =
    let rest : List ℕ = drop (w * i + length r) bs in
    rw (sets-eq r bs (w * i) (omega arith), append_assoc, drop_at (take (w * i) bs) (r ++ rest) (w * i) (length-take-le (w * i) bs (omega arith)))
    (take-take (length r) w (r ++ rest) l ∙ take_at r rest (length r) refl)

pub row-set_row-other : (w : ℕ) (bs : List ℕ) (i j : ℕ) (r : List ℕ) → length r ≤ w → (j ≡ i → ⊥) → row w (set_row w bs i r) j ≡ row w bs j
row-set_row-other w bs i j r e apart =
    ext_get_or 0 (row w (set_row w bs i r) j) (row w bs j) (simp (length-take, length-drop, length-sets)) at
  where
    at : (k : ℕ) → k < length (row w (set_row w bs i r) j) → get_or (row w (set_row w bs i r) j) k 0 ≡ get_or (row w bs j) k 0
    at k h = go (ltb j i) refl
      where
        less : k < w
        less = omega (arith, length-take w (drop (w * j) (set_row w bs i r)))

        go : (b : Bool) → ltb j i ≡ b → get_or (row w (set_row w bs i r) j) k 0 ≡ get_or (row w bs j) k 0
        go true t =
            let room : w * j + w ≤ w * i = row_before w (ltb-true j i t) in
            rw (get_d_row w (set_row w bs i r) j k less, get_d_row w bs j k less) (get_d_sets_below r bs (w * i) (w * j + k) (omega (arith, less)))
        go false t =
            let le : i ≤ j = ltb-false j i t in
            let lt : i < j = omega (arith, apart) in
            let room : w * i + w ≤ w * j = row_before w lt in
            rw (get_d_row w (set_row w bs i r) j k less, get_d_row w bs j k less) (get_d_sets_above r bs (w * i) (w * j + k) (omega arith))

-- ---- a test of every row

-- it depends on the numbers below n only
pub below_same : (p q : ℕ → Bool) (n : ℕ) → ((i : ℕ) → i < n → p i ≡ q i) → all_below p n ≡ all_below q n
unfolding all_below
below_same p q zero e = refl
below_same p q (suc n) e = rw (below_same p q n (λ i h. e i (omega arith)), e n (omega arith))

pub below_true : (p : ℕ → Bool) (n : ℕ) → all_below p n ≡ true → (i : ℕ) → i < n → p i ≡ true
unfolding all_below
below_true p zero t i h = absurd (omega arith)
below_true p (suc n) t i h = go (λ lt. below_true p n (and_left (all_below p n) (p n) t) i lt) (eqb i n) refl
  where
    go : (i < n → p i ≡ true) → (b : Bool) → eqb i n ≡ b → p i ≡ true
    go earlier true u = rw (eqb-true i n u) (and_right (all_below p n) (p n) t)
    go earlier false u = earlier (omega (arith, eqb-false i n u))

pub true_below : (p : ℕ → Bool) (n : ℕ) → ((i : ℕ) → i < n → p i ≡ true) → all_below p n ≡ true
unfolding all_below
true_below p zero all = refl
true_below p (suc n) all = rw (true_below p n (λ i h. all i (omega arith)), all n (omega arith))
