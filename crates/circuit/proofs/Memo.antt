-- What a look-up found may be remembered: a second look-up of the same item gives the same value and flag and changes
-- nothing (`remember`), also after further look-ups (`remember_fill`) and after stores at higher items
-- (`remember_store`). A store at c changes no look-up of an item below c, nor the cells that it fills (`look_store`).
-- So an ask that is repeated gives the same answer and changes nothing (`asked_again`).
-- Assumes that the sheet is ordered, where it says so.
use Prim.Native.Nat.{ℕ, zero, suc, ◌<◌, ◌≤◌}
use native.Mathlib.Omega.{arith}
use mathlib.Core.Path.{◌≡◌, refl, sym, ap, ◌∙◌, fun_ext}
use mathlib.Core.Logic.{inl, inr}
use mathlib.Core.Bool.{Bool, true, false, cond}
use mathlib.Core.List.{List, [], ◌∷◌}
use lib.Dec.{eqb}
use borrow.Author.Tests.{eqb-true}
use Rattle.circuit.specs.Value.{Value}
use Rattle.circuit.specs.Circuit.{Listed}
use Rattle.circuit.specs.Sheet.{Sheet, item_at, kept_of, parents, Ordered}
use Rattle.circuit.specs.Table.{Table, Cell, Mark, unk, held, upd, notice_if}
use Rattle.circuit.specs.Machine.{Looked, looked, gathered, gather, work_out_by, store_if, flagged, look_cell, look_for, look_up, work_out, catch_up}
use Rattle.circuit.specs.Call.{ask}
use Rattle.circuit.specs.Calls.{reading_of, tests, effect, perform}
use Rattle.circuit.proofs.View.{view, strong, view_below}
use Rattle.circuit.proofs.Fill.{upd_same, upd_other, Filling, stays, fills, Fill, fill_view, fill_trans, Looks, look_right, work_right, look_up_is}
use Rattle.circuit.proofs.CatchUp.{catch_up-quiet, catch_up-still, look_quiet}
use Rattle.circuit.proofs.Accepted.{number_cause, accepted_effect}

-- the look-up of j gives v and f, and changes nothing
abbrev pub Remembered : Sheet → Table → ℕ → Value → Bool → Type 0
Remembered S T j v f = look_up S T j ≡ looked T v f

-- Why a look-up changes nothing: the item is stored, or is not kept and nothing changes at its parents.
data Settled (S : Sheet) (T : Table) : ℕ → Type 0 where
  stored : {i : ℕ} (v : Value) (m : Mark) → T i ≡ held v m → Settled S T i
  passing : {i : ℕ} (f : Bool) → T i ≡ unk f → kept_of (item_at S i) ≡ false
      → ((p : ℕ) → Listed p (parents S i) → Settled S T p) → Settled S T i

looked_path : (r : Looked) {T : Table} {v : Value} {f : Bool} → r.table ≡ T → r.value ≡ v → r.flag ≡ f → r ≡ looked T v f
looked_path r p q s = λ i. record { table = p i; value = q i; flag = s i }

-- A store at c beside what looking up did: the same value and flag, and the same cells filled.
abbrev pub beside : ℕ → Cell → Looked → Looked
beside c x r = looked (upd r.table c x) r.value r.flag

-- stores at two items may be exchanged
pub upd_upd : (T : Table) (i j : ℕ) (c d : Cell) → (i ≡ j → ⊥) → upd (upd T i c) j d ≡ upd (upd T j d) i c
upd_upd T i j c d h = fun_ext each
  where
    each : (k : ℕ) → upd (upd T i c) j d k ≡ upd (upd T j d) i c k
    each k = go (eqb k i) (eqb k j) refl refl
      where
        go : (a b : Bool) → eqb k i ≡ a → eqb k j ≡ b → cond b d (cond a c (T k)) ≡ cond a c (cond b d (T k))
        go true true e q = absurd (h (sym (eqb-true k i e) ∙ eqb-true k j q))
        go true false e q = refl
        go false true e q = refl
        go false false e q = refl

module _ (S : Sheet) where
  settled_fill : (T U : Table) → Fill S T U → {i : ℕ} → Settled S T i → Settled S U i
  settled_fill T U fill {i} (stored v m e) = go (fill i)
    where
      go : Filling S T i (U i) → Settled S U i
      go (stays q) = stored v m (q ∙ e)
      go (fills f k q h) = stored _ _ h
  settled_fill T U fill {i} (passing f e k h) = go (fill i) (λ p l. settled_fill T U fill (h p l))
    where
      go : Filling S T i (U i) → ((p : ℕ) → Listed p (parents S i) → Settled S U p) → Settled S U i
      go (stays q) rest = passing f (q ∙ e) k rest
      go (fills g l q o) rest = stored _ _ o

module _ (S : Sheet) (ordered : Ordered S) where
  settled_store : (T : Table) (c : ℕ) (x : Cell) → {j : ℕ} → j < c → Settled S T j → Settled S (upd T c x) j
  settled_store T c x {j} l (stored v m e) = stored v m (upd_other T c x j (λ q. omega arith) ∙ e)
  settled_store T c x {j} l (passing f e k h) =
      passing f (upd_other T c x j (λ q. omega arith) ∙ e) k
      (λ p m. settled_store T c x (omega (arith, ordered j p m)) (h p m))

  -- where the parents are settled, gathering them changes nothing
  gather_still : (T : Table) (ps : List ℕ) → ((p : ℕ) → Listed p ps → (look_up S T p).table ≡ T)
      → (gather (look_up S) T ps).table ≡ T
  unfolding gather
  gather_still T [] h = refl
  gather_still T (p ∷ ps) h =
      rw (h p (inl refl)) (gather_still T ps (λ q l. h q (inr l)))

  settled_still : (T : Table) → {i : ℕ} → Settled S T i → (look_up S T i).table ≡ T
  unfolding work_out_by
  settled_still T {i} (stored v m e) = ap (λ r. r.table) (look_up_is S ordered T i) ∙ (rw e)
  settled_still T {i} (passing f e k h) =
      ap (λ r. r.table) (look_up_is S ordered T i)
      ∙ (rw (e, k) (gather_still T (parents S i) (λ p l. settled_still T (h p l))))

  gather_fill : (T : Table) (ps : List ℕ) → Fill S T (gather (look_up S) T ps).table
  unfolding gather
  gather_fill T [] = λ j. stays refl
  gather_fill T (p ∷ ps) =
      fill_trans S ordered T (look_up S T p).table (gather (look_up S) (look_up S T p).table ps).table
      (look_right S ordered T p).fill (gather_fill (look_up S T p).table ps)

  gather_settled : (ps : List ℕ) → ((p : ℕ) → Listed p ps → (T : Table) → Settled S (look_up S T p).table p)
      → (T : Table) (p : ℕ) → Listed p ps → Settled S (gather (look_up S) T ps).table p
  unfolding gather
  gather_settled [] h T p l = absurd l
  gather_settled (q ∷ ps) h T p (inl e) =
      let U : Table = (look_up S T q).table in
      rw e (settled_fill S U (gather (look_up S) U ps).table (gather_fill U ps) (h q (inl refl) T))
  gather_settled (q ∷ ps) h T p (inr l) =
      gather_settled ps (λ r m. h r (inr m)) (look_up S T q).table p l

  -- a look-up leaves its item settled
  look_settled : (i : ℕ) (T : Table) → Settled S (look_up S T i).table i
  unfolding work_out_by
  look_settled = strong (λ i. (T : Table) → Settled S (look_up S T i).table i) rise
    where
      rise : (i : ℕ) → ((p : ℕ) → p < i → (T : Table) → Settled S (look_up S T p).table p) → (T : Table)
          → Settled S (look_up S T i).table i
      rise i lower T = rw (look_up_is S ordered T i) (go (T i) refl)
        where
          G : Table
          G = (gather (look_up S) T (parents S i)).table

          unkept : (f : Bool) → T i ≡ unk f → kept_of (item_at S i) ≡ false → Filling S T i (G i) → Settled S G i
          unkept f e k (stays q) =
              passing f (q ∙ e) k (gather_settled (parents S i) (λ p l. lower p (ordered i p l)) T)
          unkept f e k (fills g l q h) = stored _ _ h

          which : (f b : Bool) → T i ≡ unk f → kept_of (item_at S i) ≡ b
              → Settled S (store_if b i (flagged f (work_out_by (look_up S) S T i))).table i
          which f true e k = stored _ _ (upd_same G i _)
          which f false e k = unkept f e k (gather_fill T (parents S i) i)

          go : (c : Cell) → T i ≡ c → Settled S (look_cell (look_up S) S T i c).table i
          go (held v m) e = stored v m e
          go (unk f) e = which f (kept_of (item_at S i)) e refl

  -- what is settled is remembered, with the view's value and flag
  settled_remembered : (T : Table) (j : ℕ) (v : Value) (f : Bool) → (view S T j).value ≡ v → (view S T j).flag ≡ f
      → Settled S T j → Remembered S T j v f
  settled_remembered T j v f p q settled =
      let r : Looks S T (view S T j) (look_up S T j) = look_right S ordered T j in
      looked_path (look_up S T j) (settled_still T settled) (r.value ∙ p) (r.flag ∙ q)

  remembered_settled : (T : Table) (j : ℕ) (v : Value) (f : Bool) → Remembered S T j v f → Settled S T j
  remembered_settled T j v f e = rw (ap (λ r. r.table) e) at (look_settled j T)

  remembered_value : (T : Table) (j : ℕ) (v : Value) (f : Bool) → Remembered S T j v f → (view S T j).value ≡ v
  remembered_value T j v f e = sym (look_right S ordered T j).value ∙ ap (λ r. r.value) e

  remembered_flag : (T : Table) (j : ℕ) (v : Value) (f : Bool) → Remembered S T j v f → (view S T j).flag ≡ f
  remembered_flag T j v f e = sym (look_right S ordered T j).flag ∙ ap (λ r. r.flag) e

  -- what a look-up gave is remembered after it
  pub remember : (T : Table) (j : ℕ) → Remembered S (look_up S T j).table j (look_up S T j).value (look_up S T j).flag
  remember T j =
      let r : Looks S T (view S T j) (look_up S T j) = look_right S ordered T j in
      let same = fill_view S ordered T (look_up S T j).table r.fill j in
      settled_remembered (look_up S T j).table j (look_up S T j).value (look_up S T j).flag
      (ap (λ s. s.value) same ∙ sym r.value) (ap (λ s. s.flag) same ∙ sym r.flag) (look_settled j T)

  -- and after any fill, so after look-ups and workings out
  pub remember_fill : (T U : Table) (j : ℕ) (v : Value) (f : Bool) → Fill S T U → Remembered S T j v f → Remembered S U j v f
  remember_fill T U j v f fill e =
      let same = fill_view S ordered T U fill j in
      settled_remembered U j v f
      (ap (λ s. s.value) same ∙ remembered_value T j v f e) (ap (λ s. s.flag) same ∙ remembered_flag T j v f e)
      (settled_fill S T U fill (remembered_settled T j v f e))

  pub remember_look : (T : Table) (i j : ℕ) (v : Value) (f : Bool) → Remembered S T j v f
      → Remembered S (look_up S T i).table j v f
  remember_look T i j v f e = remember_fill T (look_up S T i).table j v f (look_right S ordered T i).fill e

  pub remember_work : (T : Table) (i j : ℕ) (v : Value) (f : Bool) → Remembered S T j v f
      → Remembered S (work_out S T i).table j v f
  remember_work T i j v f e = remember_fill T (work_out S T i).table j v f (work_right S ordered T i).fill e

  -- and after a store at a higher item
  pub remember_store : (T : Table) (c : ℕ) (x : Cell) (j : ℕ) (v : Value) (f : Bool) → j < c → Remembered S T j v f
      → Remembered S (upd T c x) j v f
  remember_store T c x j v f l e =
      let same = view_below S ordered (upd T c x) T c (λ k m. upd_other T c x k (λ q. omega arith)) j l in
      settled_remembered (upd T c x) j v f
      (ap (λ s. s.value) same ∙ remembered_value T j v f e) (ap (λ s. s.flag) same ∙ remembered_flag T j v f e)
      (settled_store T c x l (remembered_settled T j v f e))

  gather_store : (look : Table → ℕ → Looked) (c : ℕ) (x : Cell) → (ps : List ℕ)
      → ((T : Table) (p : ℕ) → Listed p ps → look (upd T c x) p ≡ beside c x (look T p)) → (T : Table)
      → gather look (upd T c x) ps ≡ gathered (upd (gather look T ps).table c x) (gather look T ps).values (gather look T ps).flag
  unfolding gather
  gather_store look c x [] h T = refl
  gather_store look c x (p ∷ ps) h T =
      rw (h T p (inl refl), gather_store look c x ps (λ U q l. h U q (inr l)) (look T p).table)

  look_for_store : (fuel c : ℕ) (x : Cell) (T : Table) (j : ℕ) → j < c
      → look_for fuel S (upd T c x) j ≡ beside c x (look_for fuel S T j)
  unfolding look_for work_out_by
  look_for_store zero c x T j l = refl
  look_for_store (suc fuel) c x T j l =
      rw (upd_other T c x j (λ q. omega arith)) (go (T j) (λ U p m. look_for_store fuel c x U p m))
    where
      go : (d : Cell) → ((U : Table) (p : ℕ) → p < c → look_for fuel S (upd U c x) p ≡ beside c x (look_for fuel S U p))
          → look_cell (look_for fuel S) S (upd T c x) j d ≡ beside c x (look_cell (look_for fuel S) S T j d)
      go (held v m) h = refl
      go (unk f) h = which (kept_of (item_at S j))
        where
          all : gather (look_for fuel S) (upd T c x) (parents S j)
              ≡ gathered (upd (gather (look_for fuel S) T (parents S j)).table c x) (gather (look_for fuel S) T (parents S j)).values (gather (look_for fuel S) T (parents S j)).flag
          all = gather_store (look_for fuel S) c x (parents S j) (λ U p m. h U p (omega (arith, ordered j p m))) T

          which : (b : Bool)
              → store_if b j (flagged f (work_out_by (look_for fuel S) S (upd T c x) j)) ≡ beside c x (store_if b j (flagged f (work_out_by (look_for fuel S) S T j)))
          which false = rw all
          which true =
              let r : Looked = flagged f (work_out_by (look_for fuel S) S T j) in
              rw all
              (ap (λ U. looked U r.value r.flag)
              (upd_upd r.table c j x (held r.value (notice_if r.flag)) (λ q. omega arith)))

  -- a store at c changes no look-up of an item below c
  pub look_store : (T : Table) (c : ℕ) (x : Cell) (j : ℕ) → j < c → look_up S (upd T c x) j ≡ beside c x (look_up S T j)
  unfolding look_up
  look_store T c x j l = look_for_store (suc j) c x T j l

  -- nor a working out of an item up to c
  pub work_store : (T : Table) (c : ℕ) (x : Cell) (j : ℕ) → j ≤ c → work_out S (upd T c x) j ≡ beside c x (work_out S T j)
  unfolding work_out work_out_by
  work_store T c x j l =
      rw (gather_store (look_up S) c x (parents S j) (λ U p m. look_store U c x p (omega (arith, ordered j p m))) T)

  -- an ask that is repeated gives the same answer and changes nothing
  pub asked_again : (T : Table) (i : ℕ) → (perform S T (ask i)).number ≡ 0
      → perform S (perform S T (ask i)).table (ask i) ≡ perform S T (ask i)
  unfolding effect tests
  asked_again T i e =
      rw first (accepted_effect S A (ask i) (number_cause S T (ask i) e) ∙ (rw caught (ap reading_of (remember C i))))
    where
      C : Table
      C = catch_up S T

      A : Table
      A = (look_up S C i).table

      first : perform S T (ask i) ≡ reading_of (look_up S C i)
      first = accepted_effect S T (ask i) (number_cause S T (ask i) e)

      caught : catch_up S A ≡ A
      caught = catch_up-still S ordered A (look_quiet S ordered C i (catch_up-quiet S ordered T))
