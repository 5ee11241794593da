-- What is lent and accepted: the items of a sheet, their index, and a table in form. Assumes nothing.
use Prim.Native.Nat.{ℕ, ◌*◌}
use native.Mathlib.Omega.{arith}
use mathlib.Core.Path.{◌≡◌, refl, sym, ap, ◌∙◌, subst}
use mathlib.Core.Bool.{Bool, true, false}
use mathlib.Core.List.{List}
use mathlib.Core.Logic.{inr}
use lib.ListN.{length}
use Rattle.circuit.specs.Sheet.{Ordered, size}
use Rattle.circuit.specs.Table.{Table}
use Rattle.circuit.specs.Call.{Call}
use Rattle.circuit.specs.Calls.{perform}
use Rattle.layout.specs.Read.{Placed, opens, read_sheet}
use Rattle.layout.specs.Opened.{sheet_of, items_of, placed_from}
use Rattle.layout.specs.Index.{index_bytes}
use Rattle.layout.proofs.Scan.{opened_ordered}
use Rattle.layout.proofs.IndexLaws.{index_length}
use Rattle.layout.proofs.Tests.{Tells, holds, fails, tells_eq}
use Rattle.layout.proofs.Causes.{opens_faultless}
use Rattle.word.specs.Word.{Bytes}
use Rattle.item.specs.Offsets.{same_bytes}
use Rattle.item.proofs.Offsets.{same_refl, same_equal}
use Rattle.table.specs.Record.{width}
use Rattle.table.specs.Bytes.{encode_table, decode_table, table_form, owed_true, Holdable}
use Rattle.table.proofs.Tables.{encode_decode_table, decoded_holdable}
use Rattle.office.specs.Office.{Office, keeping, results_lent, call_on}
use Rattle.office.specs.Demand1Words.{IndexNotAsOpened, AcceptedLent}
use Rattle.office.proofs.Bridge.{Within, decoded_beyond, given_by, call_performs}
use Rattle.office.proofs.Agreeing.{sized}
use Rattle.office.proofs.Refusals.{opens_sheet, unbroken_form}

accepted_index : (ps : List Placed) (x : List ℕ) → ¬ IndexNotAsOpened ps x → x ≡ index_bytes ps
accepted_index ps x n = go (same_bytes x (index_bytes ps)) refl
  where
    go : (b : Bool) → same_bytes x (index_bytes ps) ≡ b → x ≡ index_bytes ps
    go true e = same_equal x (index_bytes ps) e
    go false e = absurd (n (λ q. let same : same_bytes x (index_bytes ps) ≡ true = ap (same_bytes x) (sym q) ∙ same_refl x in let bad : ◌≡◌ {A = ℕ} 0 1 = cc in omega arith))

module _ (s : List ℕ) (kept : Office) (lent : AcceptedLent s kept) where
  abbrev t : List ℕ
  t = kept.table

  pub ordered : Ordered (sheet_of s)
  ordered = go ((opens_faultless s).1 lent.sheet)
    where
      go : (edition : ℕ) × (ps : List Placed) × (read_sheet s ≡ opens edition ps) → Ordered (sheet_of s)
      go (edition, ps, e) = subst Ordered (sym (opens_sheet s edition ps e)) (opened_ordered s edition ps e)

  form : (table_form (sheet_of s) t ≡ true) × (owed_true (sheet_of s) t ≡ true)
  form = unbroken_form (sheet_of s) ordered t lent.lent.1.1.0

  pub long : length t ≡ width * size (sheet_of s)
  long = go (tells_eq (length t) (width * size (sheet_of s)))
    where
      go : {b : Bool} → Tells (length t ≡ width * size (sheet_of s)) b → length t ≡ width * size (sheet_of s)
      go (holds e) = e
      go (fails n) = absurd (lent.lent.0 (inr n))

  pub holdable : Holdable (sheet_of s) (decode_table t)
  holdable = decoded_holdable (sheet_of s) t form.0

  pub within : Within (sheet_of s) (decode_table t)
  within = decoded_beyond (sheet_of s) t long

  -- the table is the encoding of what it decodes to
  pub encoded : Bytes t → encode_table (sheet_of s) (decode_table t) ≡ t
  encoded bytes = encode_decode_table (sheet_of s) t bytes long form.0 form.1

  -- with this index and the encoding of a table the calls are the machine's
  pub performs : (U : Table) (c : Call) → Holdable (sheet_of s) U → Within (sheet_of s) U
      → call_on s (keeping kept.index (encode_table (sheet_of s) U)) c ≡ given_by (sheet_of s) kept.index (results_lent c) (perform (sheet_of s) U c)
  unfolding items_of
  performs U c h w = go ((opens_faultless s).1 lent.sheet)
    where
      go : (edition : ℕ) × (ps : List Placed) × (read_sheet s ≡ opens edition ps)
          → call_on s (keeping kept.index (encode_table (sheet_of s) U)) c ≡ given_by (sheet_of s) kept.index (results_lent c) (perform (sheet_of s) U c)
      go (edition, ps, reads) =
          let is = opens_sheet s edition ps reads in
          let index_is : index_bytes ps ≡ kept.index = sym (accepted_index (items_of s) kept.index lent.lent.1.0 ∙ ap (λ r. index_bytes (placed_from r)) reads) in
          subst (λ x. call_on s (keeping x (encode_table (sheet_of s) U)) c ≡ given_by (sheet_of s) x (results_lent c) (perform (sheet_of s) U c)) index_is
          (subst (λ S. call_on s (keeping (index_bytes ps) (encode_table S U)) c ≡ given_by S (index_bytes ps) (results_lent c) (perform S U c)) (sym is)
          (call_performs s edition ps reads (index_length ps) (sized s edition ps reads) (opened_ordered s edition ps reads) U c
          (subst (λ S. Holdable S U) is h) (subst (λ S. Within S U) is w)))
