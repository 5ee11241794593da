-- The season-close run: what is stored for an item, the pass over the items, and the call. Assumes nothing.
use Prim.Native.Nat.{ℕ, ◌+◌, ◌<◌}
use mathlib.Core.Path.{◌≡◌, refl, sym, ap, ◌∙◌}
use mathlib.Core.Bool.{false}
use mathlib.Core.List.{List, map}
use native.Mathlib.Omega.{arith}
use native.Mathlib.Numerals.{add-one}
use lib.ListN.{length}
use Rattle.circuit.specs.Value.{Value}
use Rattle.circuit.specs.Sheet.{Item, entry, figure, size, item_at, is_figure, parents_of, evaluate}
use Rattle.circuit.specs.Table.{Table, unmarked, held, value_in}
use Rattle.circuit.specs.Call.{close}
use Rattle.circuit.specs.Calls.{tests, first_cause, effect}
use Rattle.circuit.specs.Closing.{closed_value, close_item, close_below, close_all}
use Rattle.layout.specs.Opened.{sheet_of}
use Rattle.item.proofs.Located.{sheet_ordered}
use Rattle.table.specs.Rows.{set_row}
use Rattle.table.specs.Record.{width, encode_cell}
use Rattle.table.specs.Bytes.{encode_table, decode_table, table_form, Holdable}
use Rattle.table.proofs.Tables.{decode_set_row, set_row_form, record_fits, decoded_holdable}
use Rattle.office.proofs.Holdable.{closed_formed, closed_allowed}
use Rattle.looking.specs.Pass.{Lent}
use Rattle.looking.proofs.Gathering.{lent_on}
use Rattle.admission.specs.Admission.{call_lent}
use Rattle.admission.specs.Answers.{Did, Left}
use Rattle.admission.proofs.Admitting.{accepted_did}
use Rattle.std.specs.Prelude.{Ok}

-- an entry's value in the run is what its record holds
pub closed_entry : (s t : List ℕ) (i : ℕ) → is_figure (item_at (sheet_of s) i) ≡ false → closed_value (sheet_of s) (decode_table t) i ≡ value_in (decode_table t i)
unfolding closed_value
closed_entry s t i = go (item_at (sheet_of s) i)
  where
    T : Table
    T = decode_table t

    go : (it : Item) → is_figure it ≡ false → evaluate it (value_in (T i)) (map (λ p. value_in (T p)) (parents_of it)) ≡ value_in (T i)
    go entry e = refl
    go (figure op keep spread ps) e = let bad : ◌≡◌ {A = ℕ} 0 1 = cc in absurd (omega arith)

-- item i is stored
pub closed_stored : {s t : List ℕ} → Lent s t → (i : ℕ) → i < size (sheet_of s) → (v : Value) → v ≡ closed_value (sheet_of s) (decode_table t) i
    → (t' : List ℕ) → t' ≡ set_row width t i (encode_cell (held v unmarked)) → Left s (close_item (sheet_of s) (decode_table t) i) t'
unfolding close_item
closed_stored {s} {t} lent i low v value t' e =
    record {
      table_is =
          ap decode_table stored
          ∙ decode_set_row t i (held w unmarked) (record_fits (sheet_of s) t i lent.length_is low) (closed_formed (sheet_of s) (sheet_ordered s) T i low allowed);
      formed =
          ap (table_form (sheet_of s)) stored
          ∙ set_row_form (sheet_of s) t i (held w unmarked) lent.length_is lent.formed low (closed_allowed (sheet_of s) (sheet_ordered s) T i low allowed);
    }
  where
    T : Table
    T = decode_table t

    w : Value
    w = closed_value (sheet_of s) T i

    allowed : Holdable (sheet_of s) T
    allowed = decoded_holdable (sheet_of s) t lent.formed

    stored : t' ≡ set_row width t i (encode_cell (held w unmarked))
    stored = e ∙ ap (λ x. set_row width t i (encode_cell (held x unmarked))) value

-- The pass's invariant, since the table t₀: the items below i are closed.
pub record Closing (s t₀ : List ℕ) (i : ℕ) (t : List ℕ) : Type 0 where
  pub lent : Lent s t₀
  pub length_is : length t ≡ length t₀
  pub left : Left s (close_below (sheet_of s) (decode_table t₀) i) t

pub closing_start : {s t : List ℕ} → Lent s t → Closing s t 0 t
unfolding close_below
closing_start lent = record { lent = lent; length_is = refl; left = record { table_is = refl; formed = lent.formed } }

module _ {s t₀ : List ℕ} {i : ℕ} {t : List ℕ} (inv : Closing s t₀ i t) where
  pub closing_lent : Lent s t
  closing_lent = lent_on inv.lent t inv.length_is inv.left.formed

  pub closing_next : (t' : List ℕ) → length t' ≡ length t → Left s (close_item (sheet_of s) (decode_table t) i) t' → Closing s t₀ (i + 1) t'
  unfolding close_below
  closing_next t' len left =
      record {
        lent = inv.lent;
        length_is = len ∙ inv.length_is;
        left =
            record {
              table_is =
                  left.table_is ∙ ap (λ T. close_item (sheet_of s) T i) inv.left.table_is
                  ∙ ap (close_below (sheet_of s) (decode_table t₀)) (sym (add-one i));
              formed = left.formed;
            };
      }

  -- the owed bytes are settled last
  pub closing_done : i ≡ size (sheet_of s) → (t' : List ℕ) → t' ≡ encode_table (sheet_of s) (decode_table t) → t' ≡ encode_table (sheet_of s) (close_all (sheet_of s) (decode_table t₀))
  unfolding close_all
  closing_done all t' settled =
      settled ∙ ap (encode_table (sheet_of s)) (inv.left.table_is ∙ ap (close_below (sheet_of s) (decode_table t₀)) all)

-- the call has no tests of its own
pub close_did : (s x t t' : List ℕ) → t' ≡ encode_table (sheet_of s) (close_all (sheet_of s) (decode_table t)) → Did (call_lent (sheet_of s) x t close) (Ok (tt {0})) t'
unfolding tests first_cause effect
close_did s x t t' e = accepted_did (sheet_of s) x t t' close (tt {0}) refl e
