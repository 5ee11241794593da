-- What an opening and a list of calls left is accepted by every call. Assumes nothing.
use Prim.Native.Nat.{ℕ, ◌*◌}
use mathlib.Core.Path.{◌≡◌, refl, sym, ap, ◌∙◌, subst}
use mathlib.Core.List.{List}
use mathlib.Core.Logic.{⊎_elim}
use lib.ListN.{length}
use Rattle.circuit.specs.Sheet.{Sheet, size}
use Rattle.circuit.specs.Table.{Table}
use Rattle.circuit.specs.Call.{Call, Opening}
use Rattle.circuit.specs.Calls.{run}
use Rattle.layout.specs.Read.{Placed, opens, read_sheet}
use Rattle.layout.specs.Opened.{sheet_of, items_of, placed_from, sheet_from, sheet_read}
use Rattle.layout.specs.Index.{index_width, index_bytes}
use Rattle.layout.proofs.Scan.{opened_ordered}
use Rattle.layout.proofs.Causes.{opens_faultless}
use Rattle.layout.proofs.IndexLaws.{index_length}
use Rattle.table.specs.Bytes.{encode_table, Holdable}
use Rattle.table.proofs.Tables.{length-encode_table, encoded_table_form, encoded_owed_true}
use Rattle.office.specs.Office.{Office, open_on, run_on}
use Rattle.office.specs.Demand3Words.{OfficeAccepted}
use Rattle.office.specs.Demand1Words.{TableBroken, NoneHolds, lent_causes, AcceptedLent}
use Rattle.office.proofs.Holdable.{run_holdable}
use Rattle.office.proofs.Agreeing.{Opens, opening_opens, sized, start, start_holdable, start_within, runs, at, office, opening_gives}
use Rattle.office.proofs.Refusals.{form_unbroken, lent_numbers}

module _ (s : List ℕ) (edition : ℕ) (ps : List Placed) (reads : read_sheet s ≡ opens edition ps) where
  office_lent : (o : Opening) (cs : List Call) → AcceptedLent s (run_on s (at s edition ps reads (start s edition ps reads o)) cs)
  unfolding sheet_of items_of
  office_lent o cs =
      record {
        sheet = (opens_faultless s).0 (edition, ps, reads);
        lent = subst (λ q. NoneHolds (lent_causes (sheet_from q) (placed_from q) (run_on s (at s edition ps reads (start s edition ps reads o)) cs))) (sym reads)
            (subst (λ k. NoneHolds (lent_causes S ps k)) (sym is) (⊎_elim (λ n. n indexed) (λ n. n (length-encode_table S _)), ((λ n. n refl), (formed, tt))));
      }
    where
      S : Sheet
      S = sheet_read edition ps

      T : Table
      T = run S (start s edition ps reads o) cs

      is : run_on s (at s edition ps reads (start s edition ps reads o)) cs ≡ at s edition ps reads T
      is = runs s edition ps reads cs (start s edition ps reads o) (start_holdable s edition ps reads o) (start_within s edition ps reads o)

      indexed : length (index_bytes ps) ≡ index_width * size S
      indexed = index_length ps ∙ ap (λ n. index_width * n) (sym (sized s edition ps reads))

      formed : ¬ TableBroken S (encode_table S T)
      formed =
          form_unbroken S (opened_ordered s edition ps reads) _ (encoded_table_form S _ holdable) (encoded_owed_true S _ holdable)
        where
          holdable : Holdable S T
          holdable = run_holdable S (opened_ordered s edition ps reads) cs _ (start_holdable s edition ps reads o)

-- An office's index and table are never refused.
pub office_accepted : (s : List ℕ) (kept : Office) (o : Opening) → (open_on o s kept).number ≡ 0 → (cs : List Call) → OfficeAccepted s (open_on o s kept).after cs
unfolding office
office_accepted s kept o e cs = record { accepted = lent; numbers = lent_numbers s _ lent }
  where
    first : Opens s kept o
    first = opening_opens s kept o e

    lent : AcceptedLent s (run_on s (open_on o s kept).after cs)
    lent =
        subst (λ g. AcceptedLent s (run_on s g.after cs)) (sym (opening_gives s first.edition first.placed first.reads kept o e))
        (office_lent s first.edition first.placed first.reads o cs)
