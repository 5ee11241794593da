-- Working out: the loop over an item's parents gathers what the machine gathers. Assumes nothing.
use Prim.Native.Nat.{ℕ, zero, suc, ◌+◌, ◌<◌, ◌≤◌}
use mathlib.Core.Path.{◌≡◌, refl, sym, ap, subst, ◌∙◌}
use mathlib.Core.Bool.{Bool, true, false, ◌||◌, or_assoc}
use mathlib.Core.List.{List, [], ◌∷◌, ◌++◌}
use native.Mathlib.Omega.{arith}
use native.Mathlib.Numerals.{add-one}
use lib.ListN.{length, get_or, set, take, length-set}
use lib.Seq.{take-suc, take-length}
use Rattle.circuit.specs.Value.{null}
use Rattle.circuit.specs.WellFormed.{all_well_formed}
use Rattle.circuit.specs.Rules.{max_parents}
use Rattle.circuit.specs.Sheet.{Item, size, item_at, is_figure, parents, parents_of, evaluate}
use Rattle.circuit.specs.Table.{Table}
use Rattle.circuit.specs.Machine.{Looked, Gathered, gathered, gather, and_then, work_out_by, look_up, work_out}
use Rattle.circuit.proofs.RuleLaws.{all_well_formed_snoc, and_true}
use Rattle.layout.specs.Opened.{sheet_of}
use Rattle.item.specs.Item.{Evaluated, CountRead}
use Rattle.table.specs.Bytes.{decode_table, table_form, OwedKept}
use Rattle.table.proofs.Tables.{owed_kept_refl, owed_kept_then}
use Rattle.value.specs.declared.Value.{Value}
use Rattle.value.specs.Meaning.{meaning, meanings}
use Rattle.value.proofs.Parents.{meanings_store}
use Rattle.memo.specs.declared.Seen.{Seen}
use Rattle.memo.specs.Memo.{found, seen_meaning, Pass, Right, NoneFrom}
use Rattle.looking.specs.Pass.{Lent, Leaves}
use Rattle.looking.proofs.FigureAt.{FigureAt, figure_at, figure_parents, parent_below, figure_evaluated}

-- a table in form, as long as the one before, is lent on
pub lent_on : {s t : List ℕ} → Lent s t → (t₁ : List ℕ) → length t₁ ≡ length t → table_form (sheet_of s) t₁ ≡ true → Lent s t₁
lent_on lent t₁ len formed = record { length_is = len ∙ lent.length_is; formed = formed }

-- the first k of the items ps looked up, one after the other, in the order of the code's loop
abbrev pub behind : Gathered → Looked → Gathered
behind g r = gathered r.table (g.values ++ (r.value ∷ [])) (g.flag || r.flag)

unfoldable pub gather_to : (Table → ℕ → Looked) → Table → List ℕ → ℕ → Gathered
gather_to look T ps zero = gathered T [] false
gather_to look T ps (suc k) = behind (gather_to look T ps k) (look (gather_to look T ps k).table (get_or ps k 0))

-- what is gathered from the first k parents of item i, since the table t₀
abbrev pub so_far : List ℕ → ℕ → List ℕ → ℕ → Gathered
so_far s i t₀ k = gather_to (look_up (sheet_of s)) (decode_table t₀) (parents (sheet_of s) i) k

-- The loop's invariant, for item i with `count` parents, since the table t₀ and the memo m₀: the first k parents are looked up.
pub record Going (s t₀ : List ℕ) (m₀ : Pass) (i : ℕ) (it : Item) (count k : ℕ) (t : List ℕ) (m : Pass) (vs : List Value) (flag : Bool) : Type 0 where
  pub lent : Lent s t₀
  pub figure : FigureAt s i it count
  pub length_is : length t ≡ length t₀
  pub formed : table_form (sheet_of s) t ≡ true
  pub owed_kept : OwedKept t₀ t
  pub table_is : decode_table t ≡ (so_far s i t₀ k).table
  pub right : Right (sheet_of s) (so_far s i t₀ k).table m
  pub generation_is : m.generation ≡ m₀.generation
  pub values_are : meanings (take k vs) ≡ (so_far s i t₀ k).values
  pub values_formed : all_well_formed (meanings (take k vs)) ≡ true
  pub flag_is : flag ≡ (so_far s i t₀ k).flag
  pub fresh : (b : ℕ) → i ≤ b → NoneFrom b m₀ → NoneFrom b m
  pub room : length vs ≡ max_parents

-- one item more at the end of a list
gather_snoc : (look : Table → ℕ → Looked) (ps : List ℕ) (p : ℕ) (T : Table)
    → gather look T (ps ++ (p ∷ [])) ≡ behind (gather look T ps) (look (gather look T ps).table p)
unfolding gather
gather_snoc look [] p T = λ i. gathered (look T p).table ((look T p).value ∷ []) (flag_is i)
  where
    flag_is : ((look T p).flag || false) ≡ (false || (look T p).flag)
    flag_is = mathlib.Core.Bool.or-false (look T p).flag
gather_snoc look (q ∷ ps) p T =
    ap (and_then (look T q)) (gather_snoc look ps p (look T q).table)
    ∙ ap (gathered last.table ((look T q).value ∷ (g.values ++ (last.value ∷ [])))) (sym (or_assoc (look T q).flag g.flag last.flag))
  where
    g : Gathered
    g = gather look (look T q).table ps

    last : Looked
    last = look g.table p

gather_take : (look : Table → ℕ → Looked) (T : Table) (ps : List ℕ) (k : ℕ) → k ≤ length ps → gather_to look T ps k ≡ gather look T (take k ps)
unfolding gather_to gather
gather_take look T ps zero h = refl
gather_take look T ps (suc k) h =
    ap (λ g. behind g (look g.table (get_or ps k 0))) (gather_take look T ps k (omega arith))
    ∙ sym (gather_snoc look (take k ps) (get_or ps k 0) T)
    ∙ ap (gather look T) (sym (take-suc ps k 0 h))

-- all the parents
pub gather_all : (look : Table → ℕ → Looked) (T : Table) (ps : List ℕ) → gather_to look T ps (length ps) ≡ gather look T ps
gather_all look T ps = gather_take look T ps (length ps) (omega arith) ∙ ap (gather look T) (take-length ps)

-- no parent is looked up yet
pub going_start : {s t : List ℕ} {m : Pass} {i : ℕ} → Lent s t → Right (sheet_of s) (decode_table t) m → i < size (sheet_of s)
    → is_figure (item_at (sheet_of s) i) ≡ true → (it : Item) → it ≡ item_at (sheet_of s) i → (count : ℕ) → CountRead it count
    → (vs : List Value) → length vs ≡ max_parents → Going s t m i it count 0 t m vs false
unfolding gather_to all_well_formed
going_start lent right low figured it it_is count read vs room =
    record {
      lent = lent;
      figure = figure_at low figured it it_is count read;
      length_is = refl;
      formed = lent.formed;
      owed_kept = owed_kept_refl _;
      table_is = refl;
      right = right;
      generation_is = refl;
      values_are = refl;
      values_formed = refl;
      flag_is = refl;
      fresh = λ c h n. n;
      room = room;
    }

module _ {s t₀ : List ℕ} {m₀ : Pass} {i : ℕ} {it : Item} {count k : ℕ} {t : List ℕ} {m : Pass} {vs : List Value} {flag : Bool}
    (inv : Going s t₀ m₀ i it count k t m vs flag) where
  -- the table is lent on
  pub going_lent : Lent s t
  going_lent = lent_on inv.lent t inv.length_is inv.formed

  pub going_right : Right (sheet_of s) (decode_table t) m
  going_right = rw inv.table_is inv.right

  -- one parent more
  pub going_next : (p : ℕ) → p ≡ get_or (parents_of it) k 0 → k < count
      → (seen : Seen) (t' : List ℕ) (m' : Pass) → length t' ≡ length t
      → ((b : ℕ) → p < b → Leaves s t m b (look_up (sheet_of s) (decode_table t) p) (seen_meaning seen) t' m')
      → (flag' : Bool) → flag' ≡ (flag || seen.flag)
      → Going s t₀ m₀ i it count (k + 1) t' m' (set vs k seen.value) flag'
  unfolding gather_to
  going_next p e more seen t' m' len looks flag' flags =
      record {
        lent = inv.lent;
        figure = inv.figure;
        length_is = len ∙ inv.length_is;
        formed = here.formed;
        owed_kept = owed_kept_then t₀ t t' inv.owed_kept here.owed_kept;
        table_is = here.table_is ∙ ap (λ x. x.table) is ∙ ap (λ g. g.table) step;
        right = subst (λ X. Right (sheet_of s) X m') (ap (λ x. x.table) is ∙ ap (λ g. g.table) step) here.right;
        generation_is = here.generation_is ∙ inv.generation_is;
        values_are =
            stored ∙ ap (λ x. x ++ (meaning seen.value ∷ [])) inv.values_are
            ∙ ap (λ v. (so_far s i t₀ k).values ++ (v ∷ [])) (here.value_is ∙ ap (λ x. x.value) is) ∙ ap (λ g. g.values) step;
        values_formed =
            ap all_well_formed stored ∙ all_well_formed_snoc (meanings (take k vs)) (meaning seen.value)
            ∙ and_true _ _ inv.values_formed here.value_formed;
        flag_is =
            flags ∙ ap (λ x. x || seen.flag) inv.flag_is
            ∙ ap (λ x. (so_far s i t₀ k).flag || x) (here.flag_is ∙ ap (λ x. x.flag) is) ∙ ap (λ g. g.flag) step;
        fresh = λ b h n. (looks b (omega (arith, below))).fresh (inv.fresh b h n);
        room = length-set vs k seen.value ∙ inv.room;
      }
    where
      below : p < i
      below = parent_below inv.figure k p e more

      here : Leaves s t m i (look_up (sheet_of s) (decode_table t) p) (seen_meaning seen) t' m'
      here = looks i below

      is : look_up (sheet_of s) (decode_table t) p ≡ look_up (sheet_of s) (so_far s i t₀ k).table (get_or (parents (sheet_of s) i) k 0)
      is =
          ap (λ X. look_up (sheet_of s) X p) inv.table_is
          ∙ ap (look_up (sheet_of s) (so_far s i t₀ k).table) (e ∙ ap (λ ps. get_or ps k 0) (figure_parents inv.figure))

      step : so_far s i t₀ (suc k) ≡ so_far s i t₀ (k + 1)
      step = ap (so_far s i t₀) (sym (add-one k))

      stored : meanings (take (k + 1) (set vs k seen.value)) ≡ meanings (take k vs) ++ (meaning seen.value ∷ [])
      stored = meanings_store vs k seen.value (omega (arith, inv.room, inv.figure.count_most))

  -- no parent is left: the item is worked out
  pub going_done : k ≡ count → (r : Value) → Evaluated it (meanings (take count vs)) r
      → (b : ℕ) → i ≤ b → Leaves s t₀ m₀ b (work_out (sheet_of s) (decode_table t₀) i) (found (meaning r) flag) t m
  unfolding work_out work_out_by
  going_done all r given b over =
      record {
        value_is =
            figure_evaluated inv.figure given null
            ∙ ap (evaluate (item_at (sheet_of s) i) null)
            (ap (λ n. meanings (take n vs)) (sym all) ∙ inv.values_are ∙ ap (λ x. x.values) is);
        flag_is = inv.flag_is ∙ ap (λ x. x.flag) is;
        value_formed = given.formed;
        table_is = inv.table_is ∙ ap (λ x. x.table) is;
        owed_kept = inv.owed_kept;
        formed = inv.formed;
        right = subst (λ X. Right (sheet_of s) X m) (ap (λ x. x.table) is) inv.right;
        generation_is = inv.generation_is;
        fresh = inv.fresh b over;
      }
    where
      is : so_far s i t₀ k ≡ gather (look_up (sheet_of s)) (decode_table t₀) (parents (sheet_of s) i)
      is = ap (so_far s i t₀) (all ∙ inv.figure.count_is) ∙ gather_all (look_up (sheet_of s)) (decode_table t₀) (parents (sheet_of s) i)
