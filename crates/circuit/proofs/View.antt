-- The view of a table: the value and the flag that a look-up of each item gives, without its effects. Here are its
-- equation (`view_is`), that only the view solves the equation (`view_unique`), that it depends on the cells at and
-- below the item only (`view_below`), and the laws of a figure's result by the view of its parents. Assumes that the
-- sheet is ordered, where it says so.
use Prim.Native.Nat.{ℕ, zero, suc, ◌<◌, ◌≤◌}
use native.Mathlib.Nat.{not-suc-le-zero}
use native.Mathlib.Omega.{arith}
use mathlib.Core.Path.{◌≡◌, refl, sym, ap, ◌∙◌}
use mathlib.Core.Logic.{inl, inr}
use mathlib.Core.Bool.{Bool, true, false, ◌||◌, or-true}
use mathlib.Core.List.{List, [], ◌∷◌, map}
use Rattle.circuit.specs.Value.{Value, null}
use Rattle.circuit.specs.Circuit.{Listed}
use Rattle.circuit.specs.Sheet.{Sheet, Item, item_at, parents_of, evaluate, Ordered}
use Rattle.circuit.specs.Table.{Table, Cell, unk, held, is_notice}
use Rattle.circuit.proofs.Solution.{map_listed}

-- where the equations at hand contradict each other, `cc` proves this one
pub never : {A : Type 0} → ◌≡◌ {A = ℕ} 0 1 → A
never e = absurd (omega arith)

-- the value that a look-up gives, and its flag
pub record Seen : Type 0 where
  pub value : Value
  pub flag : Bool

abbrev pub seen : Value → Bool → Seen
seen v f = record { value = v; flag = f }

-- some item of the list is flagged
abbrev pub any_flag : (ℕ → Seen) → List ℕ → Bool
any_flag w [] = false
any_flag w (p ∷ ps) = (w p).flag || any_flag w ps

-- a figure worked out by the view w of its parents: the rule's value, flagged if some parent is
abbrev pub worked : (ℕ → Seen) → Item → Seen
worked w it = seen (evaluate it null (map (λ p. (w p).value) (parents_of it))) (any_flag w (parents_of it))

-- an item by its cell and the view w of its parents
abbrev pub seen_cell : (ℕ → Seen) → Item → Cell → Seen
seen_cell w it (held v m) = seen v (is_notice m)
seen_cell w it (unk f) = seen (worked w it).value ((worked w it).flag || f)

unfoldable pub view_for : ℕ → Sheet → Table → ℕ → Seen
view_for zero S T i = seen null false
view_for (suc fuel) S T i = seen_cell (view_for fuel S T) (item_at S i) (T i)

unfoldable pub view : Sheet → Table → ℕ → Seen
view S T i = view_for (suc i) S T i

-- figure k worked out on the table: its value is what the rule gives on the parents' look-ups, and its flag is true if
-- some parent is flagged
abbrev pub result : Sheet → Table → ℕ → Seen
result S T k = worked (view S T) (item_at S k)

-- induction on item numbers, with all lower numbers at hand
pub strong : (P : ℕ → Type 0) → ((i : ℕ) → ((p : ℕ) → p < i → P p) → P i) → (i : ℕ) → P i
strong P rise i = go (suc i) i (omega arith)
  where
    go : (fuel j : ℕ) → j < fuel → P j
    go zero j h = absurd (not-suc-le-zero h)
    go (suc fuel) j h = rise j (λ p l. go fuel p (omega arith))

-- flags of a list
pub any_true : (w : ℕ → Seen) (p : ℕ) (ps : List ℕ) → Listed p ps → (w p).flag ≡ true → any_flag w ps ≡ true
any_true w p [] l e = absurd l
any_true w p (q ∷ ps) (inl h) e = rw (← h, e)
any_true w p (q ∷ ps) (inr h) e = rw (any_true w p ps h e) (or-true (w q).flag)

-- a flagged item of the list
pub record Flagged (w : ℕ → Seen) (ps : List ℕ) : Type 0 where
  pub item : ℕ
  pub listed : Listed item ps
  pub flagged : (w item).flag ≡ true

pub any_find : (w : ℕ → Seen) (ps : List ℕ) → any_flag w ps ≡ true → Flagged w ps
any_find w [] e = never (cc e)
any_find w (q ∷ ps) e = go (w q).flag refl (λ h. any_find w ps h)
  where
    go : (b : Bool) → (w q).flag ≡ b → (any_flag w ps ≡ true → Flagged w ps) → Flagged w (q ∷ ps)
    go true h find = record { item = q; listed = inl refl; flagged = h }
    go false h find =
        let r : Flagged w ps = find (rw h at e) in
        record { item = r.item; listed = inr r.listed; flagged = r.flagged }

pub any_none : (w : ℕ → Seen) (ps : List ℕ) → ((p : ℕ) → Listed p ps → (w p).flag ≡ false) → any_flag w ps ≡ false
any_none w [] h = refl
any_none w (q ∷ ps) h = rw (h q (inl refl)) (any_none w ps (λ p l. h p (inr l)))

pub any_ext : (w x : ℕ → Seen) (ps : List ℕ) → ((p : ℕ) → Listed p ps → w p ≡ x p) → any_flag w ps ≡ any_flag x ps
any_ext w x [] h = refl
any_ext w x (q ∷ ps) h = rw (h q (inl refl), any_ext w x ps (λ p l. h p (inr l)))

-- what is worked out depends on the parents' views only
pub worked_ext : (w x : ℕ → Seen) (it : Item) → ((p : ℕ) → Listed p (parents_of it) → w p ≡ x p) → worked w it ≡ worked x it
worked_ext w x it h =
    let e : map (λ p. (w p).value) (parents_of it) ≡ map (λ p. (x p).value) (parents_of it)
    = map_listed (parents_of it) (λ p l. ap (λ s. s.value) (h p l)) in
    rw (e, any_ext w x (parents_of it) h)

pub cell_ext : (w x : ℕ → Seen) (it : Item) (c : Cell) → ((p : ℕ) → Listed p (parents_of it) → w p ≡ x p)
    → seen_cell w it c ≡ seen_cell x it c
cell_ext w x it (held v m) h = refl
cell_ext w x it (unk f) h = ap (λ r. seen r.value (r.flag || f)) (worked_ext w x it h)

module _ (S : Sheet) (ordered : Ordered S) where
  -- more fuel than the item number is enough
  enough : (T : Table) (f g i : ℕ) → i < f → i < g → view_for f S T i ≡ view_for g S T i
  unfolding view_for
  enough T zero g i h l = absurd (not-suc-le-zero h)
  enough T (suc f) zero i h l = absurd (not-suc-le-zero l)
  enough T (suc f) (suc g) i h l =
      cell_ext (view_for f S T) (view_for g S T) (item_at S i) (T i)
      (λ p m. let o : p < i = ordered i p m in enough T f g p (omega arith) (omega arith))

  -- the view's equation
  pub view_is : (T : Table) (i : ℕ) → view S T i ≡ seen_cell (view S T) (item_at S i) (T i)
  unfolding view view_for
  view_is T i =
      cell_ext (view_for i S T) (view S T) (item_at S i) (T i)
      (λ p m. let o : p < i = ordered i p m in enough T i (suc p) p o (omega arith))

  -- the view of an item by its cell
  pub view_at : (T : Table) (i : ℕ) {c : Cell} → T i ≡ c → view S T i ≡ seen_cell (view S T) (item_at S i) c
  view_at T i {c} e = view_is T i ∙ ap (seen_cell (view S T) (item_at S i)) e

  -- only the view solves its equation
  pub view_unique : (T : Table) (w : ℕ → Seen) → ((i : ℕ) → w i ≡ seen_cell w (item_at S i) (T i)) → (i : ℕ) → w i ≡ view S T i
  view_unique T w solves = strong (λ i. w i ≡ view S T i) rise
    where
      rise : (i : ℕ) → ((p : ℕ) → p < i → w p ≡ view S T p) → w i ≡ view S T i
      rise i lower =
          solves i
          ∙ cell_ext w (view S T) (item_at S i) (T i) (λ p l. lower p (ordered i p l))
          ∙ sym (view_is T i)

  -- tables that agree below c have the same views below c
  pub view_below : (T U : Table) (c : ℕ) → ((j : ℕ) → j < c → T j ≡ U j) → (i : ℕ) → i < c → view S T i ≡ view S U i
  view_below T U c agree = strong (λ i. i < c → view S T i ≡ view S U i) rise
    where
      rise : (i : ℕ) → ((p : ℕ) → p < i → p < c → view S T p ≡ view S U p) → i < c → view S T i ≡ view S U i
      rise i lower l =
          view_at T i (agree i l)
          ∙ cell_ext (view S T) (view S U) (item_at S i) (U i)
          (λ p m. let o : p < i = ordered i p m in lower p o (omega arith))
          ∙ sym (view_is U i)

  -- and the same results at and below c
  pub result_below : (T U : Table) (c : ℕ) → ((j : ℕ) → j < c → T j ≡ U j) → (i : ℕ) → i ≤ c → result S T i ≡ result S U i
  result_below T U c agree i l =
      worked_ext (view S T) (view S U) (item_at S i)
      (λ p m. let o : p < i = ordered i p m in view_below T U c agree p (omega arith))
