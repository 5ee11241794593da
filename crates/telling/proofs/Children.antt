-- Telling all the children of an item, from what the code's calls ensure. Assumes nothing.
use Prim.Native.Nat.{ℕ, zero, suc, ◌+◌, ◌-◌, ◌/◌, ◌<◌, ◌≤◌}
use native.Mathlib.Omega.{arith}
use native.Mathlib.Numerals.{add-one}
use mathlib.Core.Path.{◌≡◌, refl, sym, ap, subst, ◌∙◌}
use mathlib.Core.Bool.{Bool, true, false, cond}
use mathlib.Core.List.{List}
use lib.ListN.{length, get_or}
use lib.Dec.{eqb}
use borrow.Author.Tests.{eqb-true, ne_eqb}
use Rattle.std.specs.Prelude.{Option, None, Some}
use Rattle.circuit.specs.Rules.{max_parents}
use Rattle.circuit.specs.Sheet.{Sheet, Item, entry, figure, size, item_at, is_figure, parents, parents_of, member, is_child}
use Rattle.circuit.specs.Table.{Table}
use Rattle.circuit.specs.Ascending.{tell_child_by, tell_if_by, tell_below_by, tell_where, tell_by}
use Rattle.layout.specs.Opened.{sheet_of}
use Rattle.item.proofs.Located.{sheet_ordered}
use Rattle.table.specs.Bytes.{decode_table}
use Rattle.table.proofs.Tables.{owed_kept_refl, owed_kept_then}
use Rattle.owing.specs.Owing.{says_owed}
use Rattle.children.specs.Children.{NoChild, Leads, Linked, edge_in, edge_number}
use Rattle.children.specs.declared.Edge.{Edge}
use Rattle.children.proofs.Linking.{Child, leads_child, leads_end, left, next_less, place_child}
use Rattle.memo.specs.Memo.{Pass, Right, NoneFrom}
use Rattle.looking.specs.Pass.{Lent}
use Rattle.telling.specs.Telling.{Moves}

-- an item with a parent is a figure
member_figure : (it : Item) (i : ℕ) → member i (parents_of it) ≡ true → is_figure it ≡ true
unfolding member
member_figure entry i e = e
member_figure (figure op k s ps) i e = refl

-- items that are no children are passed over
tell_none : (w : ℕ → Bool) (S : Sheet) (i : ℕ) (T : Table) (c j : ℕ) → NoChild S i c (c + j) → tell_below_by w S i T (c + j) ≡ tell_below_by w S i T c
unfolding tell_below_by
tell_none w S i T c zero none = let same : c + 0 ≡ c = omega arith in ap (tell_below_by w S i T) same
tell_none w S i T c (suc j) none =
    let next : c + suc j ≡ suc (c + j) = omega arith in
    ap (tell_below_by w S i T) next
    ∙ ap (λ b. tell_if_by b (w (c + j)) S (tell_below_by w S i T (c + j)) (c + j)) (none (c + j) (omega arith) (omega arith))
    ∙ tell_none w S i T c j (λ x a b. none x a (omega arith))

tell_over : (w : ℕ → Bool) (S : Sheet) (i : ℕ) (T : Table) (c d : ℕ) → c ≤ d → NoChild S i c d → tell_below_by w S i T d ≡ tell_below_by w S i T c
tell_over w S i T c d h none =
    let sum : d ≡ c + (d - c) = omega arith in
    ap (tell_below_by w S i T) sum ∙ tell_none w S i T c (d - c) (λ x a b. none x a (omega arith))

-- the number of an edge that was made of a number
edge_back : (n : ℕ) → edge_number (edge_in n) ≡ n
edge_back n = go (eqb n 0) refl
  where
    go : (b : Bool) → eqb n 0 ≡ b → edge_number (cond b None (Some (record { number = n }))) ≡ n
    go true q = sym (eqb-true n 0 q)
    go false q = refl

-- an edge that is there has a number
edge_there : (n : ℕ) (e : Edge) → edge_in n ≡ Some e → n ≡ 0 → ⊥
edge_there n e is z = let none : None ≡ Some e = ap edge_in (sym z) ∙ is in let bad : ◌≡◌ {A = ℕ} 0 1 = cc in absurd (omega arith)

-- The loop over the children of item i: those below `from` are told, and the edge leads to the next.
pub record ToldBelow (w : ℕ → Bool) (s t₀ : List ℕ) (generation i : ℕ) (edge : Option Edge) (t : List ℕ) (memo : Pass) : Type 0 where
  pub lent : Lent s t
  pub from : ℕ
  pub within : from ≤ size (sheet_of s)
  pub edge_is : edge ≡ edge_in (edge_number edge)
  pub leads : Leads (sheet_of s) i from (edge_number edge)
  pub moves : Moves s t₀ generation from (tell_below_by w (sheet_of s) i (decode_table t₀) from) t memo

pub telling_start : (w : ℕ → Bool) {s t heads links : List ℕ} {memo : Pass} {i : ℕ} → Lent s t
    → Right (sheet_of s) (decode_table t) memo → NoneFrom 0 memo → Linked (sheet_of s) heads links → i < size (sheet_of s) → (edge : Option Edge) → edge ≡ edge_in (get_or heads i 0)
    → ToldBelow w s t memo.generation i edge t memo
unfolding tell_below_by
telling_start w {s} {t} {heads} {links} {memo} {i} lent right none_from linked low edge is =
    let number : edge_number edge ≡ get_or heads i 0 = ap edge_number is ∙ edge_back (get_or heads i 0) in
    record {
      lent = lent;
      from = 0;
      within = omega arith;
      edge_is = is ∙ ap edge_in (sym number);
      leads = rw number (linked.head i low);
      moves = record { table_is = refl; owed_kept = owed_kept_refl t; formed = lent.formed; generation_is = refl; right = right; fresh = none_from };
    }

module _ {w : ℕ → Bool} {s t₀ : List ℕ} {generation i : ℕ} {edge : Option Edge} {t : List ℕ} {memo : Pass} (inv : ToldBelow w s t₀ generation i edge t memo) where
  module _ (e : Edge) (is : edge ≡ Some e) where
    number_is : edge_number edge ≡ e.number
    number_is = ap edge_number is

    more : e.number ≡ 0 → ⊥
    more = edge_there e.number e (ap edge_in (sym number_is) ∙ sym inv.edge_is ∙ is)

    next : Child (sheet_of s) i inv.from e.number
    next = leads_child (subst (Leads (sheet_of s) i inv.from) number_is inv.leads) more

    pub child_low : e.number / max_parents < size (sheet_of s)
    child_low = next.low

    child_is : is_child (sheet_of s) i (e.number / max_parents) ≡ true
    child_is = place_child (sheet_of s) i (e.number / max_parents) next.place next.listed next.parent_is

    pub child_figure : (c : ℕ) → c ≡ e.number / max_parents → is_figure (item_at (sheet_of s) c) ≡ true
    child_figure c c_is = rw c_is (member_figure (item_at (sheet_of s) (e.number / max_parents)) i child_is)

    pub child_fresh : (c : ℕ) → c ≡ e.number / max_parents → NoneFrom c memo
    child_fresh c c_is j h = inv.moves.fresh j (omega (arith, next.from))

    module _ {heads links : List ℕ} (linked : Linked (sheet_of s) heads links) where
      pub edge_low : e.number < length links
      unfolding max_parents
      edge_low = omega (arith, linked.link_room, next.low)

      leads_on : Leads (sheet_of s) i (e.number / max_parents + 1) (get_or links e.number 0)
      leads_on =
          subst (λ p. Leads (sheet_of s) p (e.number / max_parents + 1) (get_or links e.number 0)) next.parent_is
          (subst (λ x. Leads (sheet_of s) (get_or (parents (sheet_of s) (e.number / max_parents)) next.place 0) (e.number / max_parents + 1) (get_or links x 0)) (sym next.edge_is)
          (linked.link (e.number / max_parents) next.place next.low next.listed))

      pub telling_less : (edge₂ : Option Edge) → edge₂ ≡ edge_in (get_or links e.number 0) → left links (edge_number edge₂) < left links (edge_number edge)
      telling_less edge₂ on =
          rw (number_is, ap edge_number on ∙ edge_back (get_or links e.number 0)) (next_less links edge_low more (get_or links e.number 0) leads_on)

      pub telling_next : (c : ℕ) → c ≡ e.number / max_parents → (t₂ : List ℕ) (memo₂ : Pass) → length t₂ ≡ length t
          → Moves s t memo.generation c (tell_child_by (w c) (sheet_of s) (decode_table t) c) t₂ memo₂
          → (edge₂ : Option Edge) → edge₂ ≡ edge_in (get_or links e.number 0)
          → ToldBelow w s t₀ generation i edge₂ t₂ memo₂
      unfolding tell_below_by
      telling_next c c_is t₂ memo₂ len told_c edge₂ on =
          record {
            lent = record { length_is = len ∙ inv.lent.length_is; formed = told_c.formed };
            from = e.number / max_parents + 1;
            within = omega (arith, next.low);
            edge_is = on ∙ ap edge_in (sym number₂);
            leads = rw number₂ leads_on;
            moves =
                record {
                  table_is = moves.table_is ∙ told;
                  owed_kept = owed_kept_then t₀ t t₂ inv.moves.owed_kept moves.owed_kept;
                  formed = moves.formed;
                  generation_is = moves.generation_is ∙ inv.moves.generation_is;
                  right = subst (λ U. Right (sheet_of s) U memo₂) told moves.right;
                  fresh = λ j h. moves.fresh j (omega arith);
                };
          }
        where
          called : Bool
          called = w (e.number / max_parents)

          moves : Moves s t memo.generation (e.number / max_parents) (tell_child_by called (sheet_of s) (decode_table t) (e.number / max_parents)) t₂ memo₂
          moves = subst (λ x. Moves s t memo.generation x (tell_child_by (w x) (sheet_of s) (decode_table t) x) t₂ memo₂) c_is told_c

          number₂ : edge_number edge₂ ≡ get_or links e.number 0
          number₂ = ap edge_number on ∙ edge_back (get_or links e.number 0)

          told : tell_child_by called (sheet_of s) (decode_table t) (e.number / max_parents) ≡ tell_below_by w (sheet_of s) i (decode_table t₀) (e.number / max_parents + 1)
          told =
              ap (λ T. tell_child_by called (sheet_of s) T (e.number / max_parents))
              (inv.moves.table_is ∙ sym (tell_over w (sheet_of s) i (decode_table t₀) inv.from (e.number / max_parents) next.from next.none_before))
              ∙ ap (λ x. tell_if_by x called (sheet_of s) (tell_below_by w (sheet_of s) i (decode_table t₀) (e.number / max_parents)) (e.number / max_parents)) (sym child_is)
              ∙ ap (tell_below_by w (sheet_of s) i (decode_table t₀)) (sym (add-one (e.number / max_parents)))

  pub telling_done : w i ≡ true → edge ≡ None → Moves s t₀ generation (size (sheet_of s)) (tell_by w (sheet_of s) (decode_table t₀) i) t memo
  unfolding tell_by
  telling_done owed end =
      let all : tell_where (w i) w (sheet_of s) (decode_table t₀) i ≡ tell_below_by w (sheet_of s) i (decode_table t₀) inv.from
      = ap (λ b. tell_where b w (sheet_of s) (decode_table t₀) i) owed
      ∙ tell_over w (sheet_of s) i (decode_table t₀) inv.from (size (sheet_of s)) inv.within (leads_end (sheet_ordered s) inv.leads (ap edge_number end)) in
      record {
        table_is = inv.moves.table_is ∙ sym all;
        owed_kept = inv.moves.owed_kept;
        formed = inv.moves.formed;
        generation_is = inv.moves.generation_is;
        right = subst (λ U. Right (sheet_of s) U memo) (sym all) inv.moves.right;
        fresh = λ j h. inv.moves.fresh j (omega (arith, inv.within));
      }

-- where the item is not owed, nobody is told
pub telling_none : (w : ℕ → Bool) {s t : List ℕ} {memo : Pass} {i : ℕ} → Lent s t
    → Right (sheet_of s) (decode_table t) memo → NoneFrom 0 memo → w i ≡ false
    → Moves s t memo.generation (size (sheet_of s)) (tell_by w (sheet_of s) (decode_table t) i) t memo
unfolding tell_by
telling_none w {s} {t} {memo} {i} lent right none_from unowed =
    subst (λ U. Moves s t memo.generation (size (sheet_of s)) U t memo) (ap (λ b. tell_where b w (sheet_of s) (decode_table t) i) (sym unowed))
    (record { table_is = refl; owed_kept = owed_kept_refl t; formed = lent.formed; generation_is = refl; right = right; fresh = λ j h. none_from j (omega arith) })

-- what the array says of an item, by its byte
pub byte_owed : (bytes : List ℕ) (i : ℕ) → (get_or bytes i 0 ≡ 0 → ⊥) → says_owed bytes i ≡ true
byte_owed bytes i n = rw (ne_eqb (get_or bytes i 0) 0 n)

pub byte_unowed : (bytes : List ℕ) (i : ℕ) → get_or bytes i 0 ≡ 0 → says_owed bytes i ≡ false
byte_unowed bytes i e = rw e
