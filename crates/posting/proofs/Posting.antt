-- The storing of a posting in an entry: the bytes are those of the machine's table, which is in form with true owed bytes. Assumes nothing.
use Prim.Native.Nat.{ℕ, ◌<◌}
use native.Mathlib.Omega.{arith}
use mathlib.Core.Path.{◌≡◌, refl, sym, ap, subst, ◌∙◌}
use mathlib.Core.Bool.{Bool, true, false, cond}
use mathlib.Core.List.{List}
use lib.ListN.{length}
use Rattle.circuit.specs.Value.{Value, is_out, well_formed, same}
use Rattle.circuit.specs.Sheet.{size, item_at, is_figure}
use Rattle.circuit.specs.Table.{Cell, notice, unk, held, is_stored}
use Rattle.circuit.specs.Machine.{store_posting, post_cell}
use Rattle.field.specs.Bytes.{Bytes}
use Rattle.layout.specs.Opened.{sheet_of}
use Rattle.table.specs.Rows.{row, set_row}
use Rattle.table.specs.Record.{width, encode_cell, decode_cell, may_hold}
use Rattle.table.specs.Bytes.{encode_table, decode_table, Holdable, table_form, owed_true}
use Rattle.table.proofs.Tables.{decoded_holdable, length-encode_table, bytes-encode_table, encoded_table_form, encoded_owed_true}
use Rattle.office.proofs.Holdable.{post_holdable}
use Rattle.office.proofs.Bridge.{posting_within, decoded_beyond, decode_within}
use Rattle.looking.specs.Pass.{Lent}
use Rattle.admission.proofs.Admitting.{stored_encoded}

-- an entry is stored before and after a posting, so that no owed byte changes
posted_stored : (f : Bool) (c : Cell) (v : Value) → f ≡ false → may_hold f c ≡ true → is_stored (post_cell c v) ≡ is_stored c
posted_stored true c v e h = let bad : ◌≡◌ {A = ℕ} 0 1 = cc e in absurd (omega arith)
posted_stored false (unk b) v e h = let bad : ◌≡◌ {A = ℕ} 0 1 = cc h in absurd (omega arith)
posted_stored false (held w m) v e h = go (same w v)
  where
    go : (b : Bool) → is_stored (cond b (held w m) (held v notice)) ≡ true
    go true = refl
    go false = refl

module _ {s t : List ℕ} (lent : Lent s t) (bytes : Bytes t) (owes : owed_true (sheet_of s) t ≡ true) (i : ℕ) (low : i < size (sheet_of s))
    (entry : is_figure (item_at (sheet_of s) i) ≡ false) (v : Value) (t' : List ℕ) (stored : t' ≡ set_row width t i (encode_cell (post_cell (decode_cell (row width t i)) v))) where
  holds : Holdable (sheet_of s) (decode_table t)
  holds = decoded_holdable (sheet_of s) t lent.formed

  -- the bytes of the machine's table
  pub posting_encoded : t' ≡ encode_table (sheet_of s) (store_posting (decode_table t) i v)
  unfolding store_posting
  posting_encoded =
      stored
      ∙ stored_encoded lent bytes owes i _ low (posted_stored (is_figure (item_at (sheet_of s) i)) (decode_table t i) v entry (holds i low))

  -- A posting of a value of the range, not OUT, leaves what the next one is lent.
  module _ (formed : well_formed v ≡ true) (inside : is_out v ≡ false) where
    holdable : Holdable (sheet_of s) (store_posting (decode_table t) i v)
    holdable = post_holdable (sheet_of s) (decode_table t) i v formed inside holds

    pub posting_lent : Lent s t'
    posting_lent =
        record {
          length_is = ap length posting_encoded ∙ length-encode_table (sheet_of s) _;
          formed = subst (λ u. table_form (sheet_of s) u ≡ true) (sym posting_encoded) (encoded_table_form (sheet_of s) _ holdable);
        }

    pub posting_bytes : Bytes t'
    posting_bytes = subst Bytes (sym posting_encoded) (bytes-encode_table (sheet_of s) _)

    pub posting_owes : owed_true (sheet_of s) t' ≡ true
    posting_owes = subst (λ u. owed_true (sheet_of s) u ≡ true) (sym posting_encoded) (encoded_owed_true (sheet_of s) _ holdable)

    pub posting_decoded : decode_table t' ≡ store_posting (decode_table t) i v
    posting_decoded =
        ap decode_table posting_encoded
        ∙ decode_within (sheet_of s) _ holdable (posting_within (sheet_of s) (decode_table t) i v low (decoded_beyond (sheet_of s) t lent.length_is))
