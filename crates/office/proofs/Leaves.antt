-- What the calls leave of an accepted table. Assumes that the table is bytes.
use Prim.Native.Nat.{ℕ, ◌<◌}
use native.Mathlib.Omega.{arith}
use mathlib.Core.Path.{◌≡◌, refl, sym, ap, ◌∙◌, subst}
use mathlib.Core.Bool.{Bool, true, false, cond}
use mathlib.Core.List.{List, []}
use mathlib.Core.Logic.{inl, inr, ⊎_elim}
use mathlib.Core.Option.{none, some}
use lib.ListN.{take}
use lib.IntN.{ℤ, pos, ◌+ℤ◌, ◌-ℤ◌, -ℤ-+ℤ_cancel}
use lib.Signed.{lt_z}
use Rattle.circuit.specs.Value.{Value, null, out, num, same, kind_of, number_of, well_formed, parts_of}
use Rattle.circuit.specs.Sheet.{Sheet, Ordered, size, item_at, is_figure}
use Rattle.circuit.specs.Table.{Table, Cell, Mark, unmarked, refresh, notice, unk, held, upd, is_stored, notice_if, mark_of, value_in}
use Rattle.circuit.specs.Machine.{gather, look_up, work_out, store_posting, post_cell, keep_figure, keep_cell, drop_figure, drop_cell, dropped_mark, tell, clear_mark, step_item, step_cell, catch_up}
use Rattle.circuit.specs.Call.{Call, post, keep, drop, step, ask, board, swap}
use Rattle.circuit.specs.Board.{listed}
use Rattle.circuit.specs.Swap.{counted}
use Rattle.circuit.specs.Calls.{perform, effect, posted_value, posting_of, store_postings}
use Rattle.circuit.specs.Words.{Quiet}
use Rattle.circuit.proofs.RuleLaws.{same_true, same_refl}
use Rattle.circuit.proofs.Fill.{Fill, upd_same, upd_other, looks_right}
use Rattle.circuit.proofs.CatchUp.{caught_unique, fill_quiet, asked_quiet, catch_up-quiet, catch_up-ends}
use Rattle.circuit.proofs.Accepted.{accepted_effect, effect_number}
use Rattle.circuit.proofs.Swaps.{moved}
use Rattle.layout.specs.Opened.{sheet_of}
use Rattle.layout.proofs.Tests.{Tells, holds, fails, tells_eq, Refutes, right, wrong}
use Rattle.word.specs.Word.{Bytes}
use Rattle.table.specs.Rows.{row, set_row}
use Rattle.table.specs.Record.{width, owed_place, kind_in, mark_in, number_in, mark_code, encode_cell, may_hold}
use Rattle.table.specs.Bytes.{encode_table, decode_table, Holdable}
use Rattle.table.proofs.Records.{length-encode_cell, kind_by, mark_by, number_by}
use Rattle.table.proofs.Rows.{row-set_row-other}
use Rattle.table.proofs.Tables.{length-encode_table, bytes-encode_table, encoded_cell, encode_table_ext, encode_upd, encoded_table_form, encoded_owed_true, holdable_well_formed}
use Rattle.office.specs.Office.{Office, keeping, Given, accepted, effect_on, call_on}
use Rattle.office.specs.Demand1Words.{calling, NoneHolds, own_causes, AcceptedLent, BeyondRange, NotPostable, kind_other, null_not_zero, number_beyond, IsEntry, NoSwap, ResultBeyond, numbers_in}
use Rattle.office.specs.Demand2Words.{value_of, Stores, PostLeaves, KeepLeaves, DropLeaves, StepLeaves, AskLeaves, BoardLeaves, OwedRight, NoMarkStands, SwapLeaves, CallsLeave}
use Rattle.office.proofs.OwedBytes.{unfalse_right}
use Rattle.office.proofs.Holdable.{perform_holdable}
use Rattle.office.proofs.Lent.{ordered as lent-ordered, holdable as lent_holdable, within, encoded}
use Rattle.office.proofs.Bridge.{Within, posting_within, decode_within}
use Rattle.office.proofs.Causes.{refutes_range, unless_true, not_both, item_number}
use Rattle.office.proofs.Boards.{board_leaves, board_asks}
use Rattle.office.proofs.Closes.{close_leaves}
use Rattle.office.proofs.Cells.{held_kind, held_number, unk_kind, unk_number, mark_cell, stored_encoded, encoded_quiet}
use Rattle.office.proofs.Refusals.{turned_back, form_unbroken, call_accepted, own_passed, own_accepted, swap_refuses, Postable, postable}

value_same : (w v : Value) → kind_of w ≡ kind_of v → number_of w ≡ number_of v → w ≡ v
value_same null null k n = refl
value_same null out k n = absurd (omega arith)
value_same null (num y) k n = absurd (omega arith)
value_same out null k n = absurd (omega arith)
value_same out out k n = refl
value_same out (num y) k n = absurd (omega arith)
value_same (num x) null k n = absurd (omega arith)
value_same (num x) out k n = absurd (omega arith)
value_same (num x) (num y) k n = ap num n

-- an UNK cell is not to be refreshed
unk_unrefreshed : (b : Bool) → mark_code (notice_if b) ≡ 1 → ⊥
unk_unrefreshed true h = omega arith
unk_unrefreshed false h = omega arith

-- the notice of a dropped cell, by the mark that it had
dropped_refresh : (m : Mark) → mark_code m ≡ 1 → dropped_mark m ≡ true
dropped_refresh unmarked h = absurd (omega arith)
dropped_refresh refresh h = refl
dropped_refresh notice h = absurd (omega arith)

dropped_other : (m : Mark) → (mark_code m ≡ 1 → ⊥) → mark_code (notice_if (dropped_mark m)) ≡ mark_code m
dropped_other unmarked h = refl
dropped_other refresh h = absurd (h refl)
dropped_other notice h = refl

differs : (v w : Value) → (v ≡ w → ⊥) → same v w ≡ false
differs v w n = go (same v w) refl
  where
    go : (b : Bool) → same v w ≡ b → b ≡ false
    go true e = absurd (n (same_true v w e))
    go false e = refl

some_kind : (v : Value) → 0 < kind_of v
some_kind null = omega arith
some_kind out = omega arith
some_kind (num z) = omega arith

-- the cell of an entry is stored
entry_there : (f : Bool) (c : Cell) → ¬ (f ≡ true) → may_hold f c ≡ true → is_stored c ≡ true
entry_there true c n h = absurd (n refl)
entry_there false (held v m) n h = refl
entry_there false (unk b) n h = let bad : ◌≡◌ {A = ℕ} 0 1 = cc h in absurd (omega arith)

module _ (s : List ℕ) (kept : Office) (lent : AcceptedLent s kept) where
  abbrev t : List ℕ
  t = kept.table

  ordered : Ordered (sheet_of s)
  ordered = lent-ordered s kept lent

  holdable : Holdable (sheet_of s) (decode_table t)
  holdable = lent_holdable s kept lent

  -- no cause of the call's own
  own : (c : Call) → (call_on s kept c).number ≡ 0 → NoneHolds (own_causes (sheet_of s) t c)
  own c z = ((turned_back (calling c) s kept).accepted.0 z).lent.1.1.1

  pub is : (c : Call) → (call_on s kept c).number ≡ 0 → call_on s kept c ≡ effect_on (sheet_of s) kept (effect (sheet_of s) (decode_table t) c)
  is c z = call_accepted s kept c ((turned_back (calling c) s kept).accepted.0 z)

  pub performs : (c : Call) → (call_on s kept c).number ≡ 0 → perform (sheet_of s) (decode_table t) c ≡ effect (sheet_of s) (decode_table t) c
  performs c z = accepted_effect (sheet_of s) (decode_table t) c (own_passed (sheet_of s) t c lent.lent.1.1.0 (own c z))

  pub effect_holdable : (c : Call) → (call_on s kept c).number ≡ 0 → Holdable (sheet_of s) (effect (sheet_of s) (decode_table t) c).table
  effect_holdable c z = subst (λ o. Holdable (sheet_of s) o.table) (performs c z) (perform_holdable (sheet_of s) ordered (decode_table t) c holdable)

  -- a table in form, with the index as it was
  lent_again : (T : Table) → Holdable (sheet_of s) T → AcceptedLent s (keeping kept.index (encode_table (sheet_of s) T))
  lent_again T h =
      record {
        sheet = lent.sheet;
        lent = (
          ⊎_elim (λ n. lent.lent.0 (inl n)) (λ n. n (length-encode_table (sheet_of s) T)),
          (lent.lent.1.0, (form_unbroken (sheet_of s) ordered _ (encoded_table_form (sheet_of s) T h) (encoded_owed_true (sheet_of s) T h), tt)),
        );
      }

  pub stays_accepted : (c : Call) → AcceptedLent s (call_on s kept c).after
  stays_accepted c = go (tells_eq (call_on s kept c).number 0)
    where
      go : {b : Bool} → Tells ((call_on s kept c).number ≡ 0) b → AcceptedLent s (call_on s kept c).after
      go (holds z) = subst (λ g. AcceptedLent s g.after) (sym (is c z)) (lent_again _ (effect_holdable c z))
      go (fails n) = subst (AcceptedLent s) (sym ((turned_back (calling c) s kept).left n).0) lent

  stays_bytes : Bytes t → (c : Call) → Bytes (call_on s kept c).after.table
  stays_bytes bytes c = go (tells_eq (call_on s kept c).number 0)
    where
      go : {b : Bool} → Tells ((call_on s kept c).number ≡ 0) b → Bytes (call_on s kept c).after.table
      go (holds z) = subst (λ g. Bytes g.after.table) (sym (is c z)) (bytes-encode_table (sheet_of s) _)
      go (fails n) = subst (λ k. Bytes k.table) (sym ((turned_back (calling c) s kept).left n).0) bytes

  index_same : (c : Call) → (call_on s kept c).after.index ≡ kept.index
  index_same c = go (tells_eq (call_on s kept c).number 0)
    where
      go : {b : Bool} → Tells ((call_on s kept c).number ≡ 0) b → (call_on s kept c).after.index ≡ kept.index
      go (holds z) = ap (λ g. g.after.index) (is c z)
      go (fails n) = ap (λ k. k.index) ((turned_back (calling c) s kept).left n).0

  -- a figure that is stored in the table that a call leaves, and what its record holds
  pub stored_record : (c : Call) → (call_on s kept c).number ≡ 0 → (k : ℕ) → k < size (sheet_of s) → ¬ (kind_in (row width (call_on s kept c).after.table k) ≡ 0)
      → (v : Value) × (m : Mark) × ((effect (sheet_of s) (decode_table t) c).table k ≡ held v m) × Stores (call_on s kept c).after.table k v
  stored_record c z k low =
      subst (λ g. ¬ (kind_in (row width g.after.table k) ≡ 0)
      → (v : Value) × (m : Mark) × ((effect (sheet_of s) (decode_table t) c).table k ≡ held v m) × Stores g.after.table k v)
      (sym (is c z)) (stored_encoded (sheet_of s) (effect (sheet_of s) (decode_table t) c).table (effect_holdable c z) k low)

  ask_quiets : (i : ℕ) → (call_on s kept (ask i)).number ≡ 0 → NoMarkStands (sheet_of s) (call_on s kept (ask i)).after.table
  ask_quiets i z = subst (λ g. NoMarkStands (sheet_of s) g.after.table) (sym (is (ask i) z)) (encoded_quiet (sheet_of s) U quiet)
    where
      U : Table
      U = (effect (sheet_of s) (decode_table t) (ask i)).table

      quiet : Quiet (sheet_of s) U
      quiet =
          subst (λ o. Quiet (sheet_of s) o.table) (performs (ask i) z)
          (asked_quiet (sheet_of s) ordered (decode_table t) i (ap (λ o. o.number) (performs (ask i) z) ∙ effect_number (sheet_of s) (decode_table t) (ask i)))

  -- the owed bytes that a call leaves
  owes_right : (c : Call) → OwedRight (sheet_of s) (call_on s kept c).after.table
  owes_right c i low =
      unfalse_right (sheet_of s) ordered (call_on s kept c).after.table i (λ b. (stays_accepted c).lent.1.1.0 (i, low, inr b))

  module _ (bytes : Bytes t) where
    again : encode_table (sheet_of s) (decode_table t) ≡ t
    again = encoded s kept lent bytes

    record_is : (j : ℕ) → j < size (sheet_of s) → take owed_place (row width t j) ≡ encode_cell (decode_table t j)
    record_is j low = ap (λ u. take owed_place (row width u j)) (sym again) ∙ encoded_cell (sheet_of s) (decode_table t) j low

    -- the records of a table with one cell stored
    row_here : (i : ℕ) → i < size (sheet_of s) → (d : Cell) → take owed_place (row width (encode_table (sheet_of s) (upd (decode_table t) i d)) i) ≡ encode_cell d
    row_here i low d = encoded_cell (sheet_of s) (upd (decode_table t) i d) i low ∙ ap encode_cell (upd_same (decode_table t) i d)

    here_kind : (i : ℕ) → i < size (sheet_of s) → (d : Cell) → kind_in (row width (encode_table (sheet_of s) (upd (decode_table t) i d)) i) ≡ kind_in (encode_cell d)
    here_kind i low d = kind_by (row width (encode_table (sheet_of s) (upd (decode_table t) i d)) i) (row_here i low d)

    here_mark : (i : ℕ) → i < size (sheet_of s) → (d : Cell) → mark_in (row width (encode_table (sheet_of s) (upd (decode_table t) i d)) i) ≡ mark_in (encode_cell d)
    here_mark i low d = mark_by (row width (encode_table (sheet_of s) (upd (decode_table t) i d)) i) (row_here i low d)

    here_number : (i : ℕ) → i < size (sheet_of s) → (d : Cell) → number_in (row width (encode_table (sheet_of s) (upd (decode_table t) i d)) i) ≡ number_in (encode_cell d)
    here_number i low d = number_by (row width (encode_table (sheet_of s) (upd (decode_table t) i d)) i) (row_here i low d)

    row_other : (i : ℕ) (d : Cell) (j : ℕ) → j < size (sheet_of s) → ¬ (j ≡ i)
        → take owed_place (row width (encode_table (sheet_of s) (upd (decode_table t) i d)) j) ≡ take owed_place (row width t j)
    row_other i d j l n = encoded_cell (sheet_of s) (upd (decode_table t) i d) j l ∙ ap encode_cell (upd_other (decode_table t) i d j n) ∙ sym (record_is j l)

    -- a store that leaves stored what was changes no other record
    row_kept : (i : ℕ) → i < size (sheet_of s) → (d : Cell) → is_stored d ≡ is_stored (decode_table t i) → (j : ℕ) → j < size (sheet_of s) → ¬ (j ≡ i)
        → row width (encode_table (sheet_of s) (upd (decode_table t) i d)) j ≡ row width t j
    row_kept i low d stored j l n =
        ap (λ u. row width u j) (encode_upd (sheet_of s) ordered (decode_table t) i d low stored ∙ ap (λ u. set_row width u i (encode_cell d)) again)
        ∙ row-set_row-other width t i j (encode_cell d) (omega (arith, length-encode_cell d)) n

    -- kind and mark of the record of a cell
    kind_of_lem : (i : ℕ) → i < size (sheet_of s) → (c : Cell) → decode_table t i ≡ c → kind_in (row width t i) ≡ kind_in (encode_cell c)
    kind_of_lem i low c e = kind_by (row width t i) (record_is i low ∙ ap encode_cell e)

    mark_of_lem : (i : ℕ) → i < size (sheet_of s) → (c : Cell) → decode_table t i ≡ c → mark_in (row width t i) ≡ mark_code (mark_of c)
    mark_of_lem i low c e = mark_by (row width t i) (record_is i low ∙ ap encode_cell e) ∙ mark_cell c

    keep_leaves : (i : ℕ) → (call_on s kept (keep i)).number ≡ 0 → KeepLeaves (sheet_of s) t i (call_on s kept (keep i)).after.table
    unfolding effect keep_figure
    keep_leaves i z = subst (KeepLeaves (sheet_of s) t i) (sym (ap (λ g. g.after.table) (is (keep i) z))) (pick (decode_table t i) refl)
      where
        low : i < size (sheet_of s)
        low = omega (arith, (own (keep i) z).0)

        pick : (c : Cell) → decode_table t i ≡ c → KeepLeaves (sheet_of s) t i (encode_table (sheet_of s) (keep_cell (sheet_of s) (decode_table t) i (decode_table t i)))
        pick (unk b) e =
            record {
              untouched = λ n. absurd (n (kind_of_lem i low (unk b) e ∙ unk_kind b));
              stored = λ k. ap (λ c. encode_table (sheet_of s) (keep_cell (sheet_of s) (decode_table t) i c)) e;
            }
        pick (held v m) e =
            record {
              untouched = λ n. ap (λ c. encode_table (sheet_of s) (keep_cell (sheet_of s) (decode_table t) i c)) e ∙ again;
              stored = λ k. absurd (omega (arith, kind_of_lem i low (held v m) e, held_kind v m, some_kind v));
            }

    drop_leaves : (i : ℕ) → (call_on s kept (drop i)).number ≡ 0 → DropLeaves (size (sheet_of s)) t i (call_on s kept (drop i)).after.table
    unfolding effect drop_figure
    drop_leaves i z = subst (DropLeaves (size (sheet_of s)) t i) (sym (ap (λ g. g.after.table) (is (drop i) z))) (pick (decode_table t i) refl)
      where
        low : i < size (sheet_of s)
        low = omega (arith, (own (drop i) z).0)

        -- the record of an UNK cell
        blank : (b : Bool) → ((mark_in (row width t i) ≡ 1) → b ≡ true) → (¬ (mark_in (row width t i) ≡ 1) → mark_code (notice_if b) ≡ mark_in (row width t i))
            → DropLeaves (size (sheet_of s)) t i (encode_table (sheet_of s) (upd (decode_table t) i (unk b)))
        blank b refreshed remains =
            record {
              kind_0 = here_kind i low (unk b) ∙ unk_kind b;
              number_0 = here_number i low (unk b) ∙ unk_number b;
              refresh_noticed = λ h. here_mark i low (unk b) ∙ mark_cell (unk b) ∙ ap (λ x. mark_code (notice_if x)) (refreshed h);
              other_marks = λ h. here_mark i low (unk b) ∙ mark_cell (unk b) ∙ remains h;
              others = row_other i (unk b);
            }

        pick : (c : Cell) → decode_table t i ≡ c → DropLeaves (size (sheet_of s)) t i (encode_table (sheet_of s) (upd (decode_table t) i (drop_cell (decode_table t i))))
        pick (unk b) e =
            subst (λ d. DropLeaves (size (sheet_of s)) t i (encode_table (sheet_of s) (upd (decode_table t) i d))) (sym (ap drop_cell e))
            (blank b (λ h. absurd (unk_unrefreshed b (sym (mark_of_lem i low (unk b) e) ∙ h))) (λ n. sym (mark_of_lem i low (unk b) e)))
        pick (held v m) e =
            subst (λ d. DropLeaves (size (sheet_of s)) t i (encode_table (sheet_of s) (upd (decode_table t) i d))) (sym (ap drop_cell e))
            (blank (dropped_mark m) (λ h. dropped_refresh m (sym (mark_of_lem i low (held v m) e) ∙ h))
            (λ n. dropped_other m (λ h. n (mark_of_lem i low (held v m) e ∙ h)) ∙ sym (mark_of_lem i low (held v m) e)))

    step_leaves : (i : ℕ) → (call_on s kept (step i)).number ≡ 0 → StepLeaves (sheet_of s) t i (call_on s kept (step i)).after.table
    unfolding effect step_item
    step_leaves i z = subst (StepLeaves (sheet_of s) t i) (sym (ap (λ g. g.after.table) (is (step i) z))) (pick (decode_table t i) refl)
      where
        S : Sheet
        S = sheet_of s

        T : Table
        T = decode_table t

        low : i < size (sheet_of s)
        low = omega (arith, (own (step i) z).0)

        stepped : (c : Cell) → T i ≡ c → encode_table S (step_cell S T i (T i)) ≡ encode_table S (step_cell S T i c)
        stepped c e = ap (λ d. encode_table S (step_cell S T i d)) e

        -- no refresh, by a mark code that is not 1
        noticed : (c : Cell) (e : T i ≡ c) → (mark_code (mark_of c) ≡ 1 → ⊥) → (mark_code (mark_of c) ≡ 2 → step_cell S T i c ≡ clear_mark (tell S T i) i)
            → StepLeaves S t i (encode_table S (step_cell S T i (T i)))
        noticed c e other tells =
            record {
              equal = λ h q. absurd (other (sym (mark_of_lem i low c e) ∙ h));
              different = λ h q. absurd (other (sym (mark_of_lem i low c e) ∙ h));
              tells = λ h. stepped c e ∙ ap (encode_table S) (tells (sym (mark_of_lem i low c e) ∙ h));
            }

        refreshed : (v : Value) → T i ≡ held v refresh → StepLeaves S t i (encode_table S (step_cell S T i (T i)))
        refreshed v e =
            record {
              equal = λ h q.
                  let known : value_of t i ≡ v = ap value_in e in
                  let alike : same v (work_out S T i).value ≡ true = ap (same v) (q ∙ known) ∙ same_refl v in
                  stepped (held v refresh) e
                  ∙ ap (encode_table S)
                  (ap (λ b. upd (work_out S T i).table i (cond b (held v unmarked) (held (work_out S T i).value notice))) alike
                  ∙ ap (λ w. upd (work_out S T i).table i (held w unmarked)) (sym known));
              different = λ h n.
                  let known : value_of t i ≡ v = ap value_in e in
                  let unlike : same v (work_out S T i).value ≡ false = differs v (work_out S T i).value (λ q. n (sym q ∙ sym known)) in
                  stepped (held v refresh) e ∙ ap (encode_table S) (ap (λ b. upd (work_out S T i).table i (cond b (held v unmarked) (held (work_out S T i).value notice))) unlike);
              tells = λ h. absurd (omega (arith, mark_of_lem i low (held v refresh) e));
            }

        pick : (c : Cell) → T i ≡ c → StepLeaves S t i (encode_table S (step_cell S T i (T i)))
        pick (unk true) e = noticed (unk true) e (λ h. omega arith) (λ h. refl)
        pick (unk false) e = noticed (unk false) e (λ h. omega arith) (λ h. absurd (omega arith))
        pick (held v unmarked) e = noticed (held v unmarked) e (λ h. omega arith) (λ h. absurd (omega arith))
        pick (held v refresh) e = refreshed v e
        pick (held v notice) e = noticed (held v notice) e (λ h. omega arith) (λ h. refl)

    ask_leaves : (i : ℕ) → (call_on s kept (ask i)).number ≡ 0 → AskLeaves (sheet_of s) t i (call_on s kept (ask i))
    unfolding effect
    ask_leaves i z =
        subst (AskLeaves (sheet_of s) t i) (sym (is (ask i) z))
        (record { caught_up = catch_up (sheet_of s) (decode_table t); catches = catch_up-ends (sheet_of s) ordered (decode_table t); value_is = refl; table_is = refl })

    pub post_leaves : (i kind : ℕ) (z : ℤ) → (call_on s kept (post i kind z)).number ≡ 0
        → PostLeaves (size (sheet_of s)) t i kind z (call_on s kept (post i kind z)).after.table
    unfolding effect store_postings store_posting
    post_leaves i kind z zero = subst (PostLeaves (size (sheet_of s)) t i kind z) (sym table_is) (pick (decode_table t i) refl)
      where
        S : Sheet
        S = sheet_of s

        T : Table
        T = decode_table t

        causes : NoneHolds (own_causes (sheet_of s) t (post i kind z))
        causes = own (post i kind z) zero

        low : i < size (sheet_of s)
        low = omega (arith, causes.0)

        p : Postable kind z
        p = postable kind z causes.1.1.0

        v : Value
        v = p.value

        table_is : (call_on s kept (post i kind z)).after.table ≡ encode_table S (upd T i (post_cell (T i) v))
        table_is = ap (λ g. g.after.table) (is (post i kind z) zero) ∙ ap (λ w. encode_table S (store_postings T (posting_of i w))) p.posted

        -- an entry is stored
        there : is_stored (T i) ≡ true
        there = entry_there (is_figure (item_at S i)) (T i) (own (post i kind z) zero).1.0 (holdable i low)

        formed : (d : Cell) → post_cell (T i) v ≡ d → well_formed (value_in d) ≡ true
        formed d e =
            subst (λ c. well_formed (value_in c) ≡ true) (upd_same T i (post_cell (T i) v) ∙ e)
            (holdable_well_formed S _ (subst (λ w. Holdable S (store_postings T (posting_of i w))) p.posted (effect_holdable (post i kind z) zero)) i low)

        -- another value is stored with notice
        new : ¬ ((kind_in (row width t i) ≡ kind) × (number_in (row width t i) ≡ z)) → well_formed v ≡ true
            → PostLeaves (size S) t i kind z (encode_table S (upd T i (held v notice)))
        new differs w =
            record {
              kind_is = here_kind i low (held v notice) ∙ held_kind v notice ∙ p.kind_is;
              number_is = here_number i low (held v notice) ∙ held_number v notice w ∙ p.number_is;
              equal = λ k n. absurd (differs (k, n));
              noticed = λ n. here_mark i low (held v notice) ∙ mark_cell (held v notice);
              others = row_kept i low (held v notice) (sym there);
            }

        -- an equal value changes nothing
        old : (w : Value) (m : Mark) → T i ≡ held w m → w ≡ v → well_formed w ≡ true → PostLeaves (size S) t i kind z (encode_table S (upd T i (held w m)))
        old w m e q f =
            record {
              kind_is = here_kind i low (held w m) ∙ kind_here;
              number_is = here_number i low (held w m) ∙ number_here;
              equal = λ k n. encode_table_ext S (upd T i (held w m)) T (λ j l. unchanged j) ∙ again;
              noticed = λ n. absurd (n (kind_by (row width t i) here ∙ kind_here, number_by (row width t i) here ∙ number_here));
              others = row_kept i low (held w m) (sym there);
            }
          where
            kind_here : kind_in (encode_cell (held w m)) ≡ kind
            kind_here = held_kind w m ∙ ap kind_of q ∙ p.kind_is

            number_here : number_in (encode_cell (held w m)) ≡ z
            number_here = held_number w m f ∙ ap number_of q ∙ p.number_is

            here : take owed_place (row width t i) ≡ encode_cell (held w m)
            here = record_is i low ∙ ap encode_cell e

            unchanged : (j : ℕ) → upd T i (held w m) j ≡ T j
            unchanged j = go (tells_eq j i)
              where
                go : {b : Bool} → Tells (j ≡ i) b → upd T i (held w m) j ≡ T j
                go (holds r) = ap (upd T i (held w m)) r ∙ upd_same T i (held w m) ∙ sym e ∙ ap T (sym r)
                go (fails r) = upd_other T i (held w m) j r

        pick : (c : Cell) → T i ≡ c → PostLeaves (size S) t i kind z (encode_table S (upd T i (post_cell (T i) v)))
        pick (unk f) e =
            subst (λ d. PostLeaves (size S) t i kind z (encode_table S (upd T i d))) (sym stores)
            (new (λ both. omega (arith, both.0, kind_by (row width t i) (record_is i low ∙ ap encode_cell e), unk_kind f, p.kind_is, some_kind v)) (formed (held v notice) stores))
          where
            stores : post_cell (T i) v ≡ held v notice
            stores = ap (λ c. post_cell c v) e
        pick (held w m) e = by (same w v) refl
          where
            by : (b : Bool) → same w v ≡ b → PostLeaves (size S) t i kind z (encode_table S (upd T i (post_cell (T i) v)))
            by true q =
                subst (λ d. PostLeaves (size S) t i kind z (encode_table S (upd T i d))) (sym stores)
                (old w m e (same_true w v q) (formed (held w m) stores))
              where
                stores : post_cell (T i) v ≡ held w m
                stores = ap (λ c. post_cell c v) e ∙ ap (λ b. cond b (held w m) (held v notice)) q
            by false q =
                subst (λ d. PostLeaves (size S) t i kind z (encode_table S (upd T i d))) (sym stores)
                (new differs (formed (held v notice) stores))
              where
                stores : post_cell (T i) v ≡ held v notice
                stores = ap (λ c. post_cell c v) e ∙ ap (λ b. cond b (held w m) (held v notice)) q

                here : take owed_place (row width t i) ≡ encode_cell (held w m)
                here = record_is i low ∙ ap encode_cell e

                stored : well_formed w ≡ true
                stored = subst (λ c. well_formed (value_in c) ≡ true) e (holdable_well_formed S T holdable i low)

                differs : ¬ ((kind_in (row width t i) ≡ kind) × (number_in (row width t i) ≡ z))
                differs (k, n) =
                    let kinds : kind_of w ≡ kind_of v = sym (held_kind w m) ∙ sym (kind_by (row width t i) here) ∙ k ∙ sym p.kind_is in
                    let numbers : number_of w ≡ number_of v = sym (held_number w m stored) ∙ sym (number_by (row width t i) here) ∙ n ∙ sym p.number_is in
                    let same_v : same w v ≡ true = ap (λ u. same u v) (value_same w v kinds numbers) ∙ same_refl v in
                    let bad : ◌≡◌ {A = ℕ} 0 1 = cc in omega arith

    board_quiets : (items results : List ℕ) → (call_on s kept (board items results)).number ≡ 0 → ¬ (items ≡ [])
        → NoMarkStands (sheet_of s) (call_on s kept (board items results)).after.table
    board_quiets items results z n =
        subst (NoMarkStands S) (sym (left.shows n).1) (encoded_quiet S U (fill_quiet S ordered C U (size S) fill quiet))
      where
        S : Sheet
        S = sheet_of s

        left : BoardLeaves S kept items (call_on s kept (board items results))
        left = board_leaves s kept lent bytes items results z

        C : Table
        C = left.caught_up

        U : Table
        U = (gather (look_up S) C (listed items)).table

        fill : Fill S C U
        fill = (looks_right S ordered C (listed items)).fill

        quiet : Quiet S C
        quiet = subst (Quiet S) (caught_unique (catch_up-ends S ordered (decode_table t)) left.catches) (catch_up-quiet S ordered (decode_table t))

-- a number of the range can be posted
pub posted_number : (z : ℤ) → ¬ BeyondRange z → posted_value 3 z ≡ some (num z)
unfolding posted_value parts_of
posted_number z inside = go (refutes_range z)
  where
    go : {c : Bool} → Refutes (BeyondRange z) c → cond c (some (num z)) none ≡ some (num z)
    go (right n) = refl
    go (wrong h) = absurd (inside h)

-- What a swap leaves: what two posts leave, the giver's and then the taker's.
module _ (s : List ℕ) (kept : Office) (lent : AcceptedLent s kept) (giver taker : ℕ) (quantity : ℤ)
    (accepts : (call_on s kept (swap giver taker quantity)).number ≡ 0) where
  abbrev before : ℕ → ℤ
  before = numbers_in kept.table

  abbrev first : Given
  first = call_on s kept (post giver 3 (numbers_in kept.table giver -ℤ quantity))

  abbrev second : Given
  second = call_on s (call_on s kept (post giver 3 (numbers_in kept.table giver -ℤ quantity))).after (post taker 3 (numbers_in kept.table taker +ℤ quantity))

  parts : AcceptedLent s kept × IsEntry (sheet_of s) giver × IsEntry (sheet_of s) taker × (¬ NoSwap giver taker quantity) × (¬ ResultBeyond (numbers_in kept.table) giver taker quantity)
  parts = (swap_refuses s kept giver taker quantity).accepted.0 accepts

  -- a post of a number of the range to an entry is accepted
  post_accepted : (o : Office) → AcceptedLent s o → (e : ℕ) (z : ℤ) → IsEntry (sheet_of s) e → ¬ BeyondRange z → (call_on s o (post e 3 z)).number ≡ 0
  post_accepted o l e z entry inside =
      (own_accepted s o (post e 3 z)).1 (l, ((λ h. omega (arith, h, entry.0)), ((λ h. not_both h entry.1), (sound, tt))))
    where
      sound : NotPostable 3 z → ⊥
      sound (kind_other a b) = b refl
      sound (null_not_zero a b) = omega (arith, a)
      sound (number_beyond a b) = inside b

  first_accepted : first.number ≡ 0
  first_accepted = post_accepted kept lent giver _ parts.1 (λ h. parts.4 (inl h))

  second_lent : AcceptedLent s first.after
  second_lent = stays_accepted s kept lent (post giver 3 (numbers_in kept.table giver -ℤ quantity))

  second_accepted : second.number ≡ 0
  second_accepted = post_accepted first.after second_lent taker _ parts.2 (λ h. parts.4 (inr h))

  first_left : Bytes kept.table → PostLeaves (size (sheet_of s)) kept.table giver 3 (before giver -ℤ quantity) first.after.table
  first_left bytes = post_leaves s kept lent bytes giver 3 _ first_accepted

  second_left : Bytes kept.table → PostLeaves (size (sheet_of s)) first.after.table taker 3 (before taker +ℤ quantity) second.after.table
  second_left bytes =
      post_leaves s first.after second_lent (stays_bytes s kept lent bytes (post giver 3 (numbers_in kept.table giver -ℤ quantity))) taker 3 _ second_accepted

  -- the machine's two postings, in bytes
  both_posts : (call_on s kept (swap giver taker quantity)).after ≡ second.after
  unfolding effect store_postings
  both_posts =
      ap (λ g. g.after) (is s kept lent (swap giver taker quantity) accepts)
      ∙ ap (λ U. keeping kept.index (encode_table S U)) numbers_are
      ∙ sym (ap (λ g. g.after) (ap (λ o. call_on s o (post taker 3 b)) after_first ∙ later_post))
    where
      S : Sheet
      S = sheet_of s

      T : Table
      T = decode_table kept.table

      a : ℤ
      a = before giver -ℤ quantity

      b : ℤ
      b = before taker +ℤ quantity

      number_of_lem : (e : ℕ) → IsEntry S e → before e ≡ counted (value_in (T e))
      number_of_lem e entry = item_number S kept.table lent.lent.1.1.0 e entry.0

      numbers_are : store_posting (store_posting T giver (num (counted (value_in (T giver)) -ℤ quantity))) taker (num (counted (value_in (T taker)) +ℤ quantity))
          ≡ store_posting (store_posting T giver (num a)) taker (num b)
      numbers_are = rw (← number_of_lem giver parts.1, ← number_of_lem taker parts.2)

      U : Table
      U = store_posting T giver (num a)

      after_first : first.after ≡ keeping kept.index (encode_table S U)
      after_first =
          ap (λ g. g.after) (is s kept lent (post giver 3 a) first_accepted)
          ∙ ap (λ w. keeping kept.index (encode_table S (store_postings T (posting_of giver w)))) (posted_number a (λ h. parts.4 (inl h)))

      U-holdable : Holdable S U
      U-holdable =
          subst (λ w. Holdable S (store_postings T (posting_of giver w))) (posted_number a (λ h. parts.4 (inl h))) (effect_holdable s kept lent (post giver 3 a) first_accepted)

      U-within : Within S U
      U-within = posting_within S T giver (num a) parts.1.0 (within s kept lent)

      accepted_again : (call_on s (keeping kept.index (encode_table S U)) (post taker 3 b)).number ≡ 0
      accepted_again = ap (λ o. (call_on s o (post taker 3 b)).number) (sym after_first) ∙ second_accepted

      later_post : call_on s (keeping kept.index (encode_table S U)) (post taker 3 b) ≡ accepted none [] (keeping kept.index (encode_table S (store_posting U taker (num b))))
      later_post =
          is s _ (lent_again s kept lent U U-holdable) (post taker 3 b) accepted_again
          ∙ ap (λ W. accepted none [] (keeping kept.index (encode_table S (store_postings W (posting_of taker (posted_value 3 b)))))) (decode_within S U U-holdable U-within)
          ∙ ap (λ w. accepted none [] (keeping kept.index (encode_table S (store_postings U (posting_of taker w))))) (posted_number b (λ h. parts.4 (inr h)))

  some_quantity : lt_z quantity (pos 1) ≡ false
  some_quantity = unless_true (lt_z quantity (pos 1)) (λ h. parts.3 (inr h))

  two : taker ≡ giver → ⊥
  two e = parts.3 (inl (sym e))

  -- the taker's record is not the giver's
  taker_row : Bytes kept.table → row width first.after.table taker ≡ row width kept.table taker
  taker_row bytes = (first_left bytes).others taker parts.2.0 two

  giver_row : Bytes kept.table → row width second.after.table giver ≡ row width first.after.table giver
  giver_row bytes = (second_left bytes).others giver parts.1.0 (λ e. two (sym e))

  two_leave : Bytes kept.table → SwapLeaves s kept giver taker quantity second.after
  two_leave bytes =
      record {
        giver_is = (ap kind_in (giver_row bytes) ∙ (first_left bytes).kind_is, ap number_in (giver_row bytes) ∙ (first_left bytes).number_is);
        taker_is = ((second_left bytes).kind_is, (second_left bytes).number_is);
        noticed = (
          ap mark_in (giver_row bytes) ∙ (first_left bytes).noticed (λ h. given_up (sym h.1)),
          (second_left bytes).noticed (λ h. moved (before taker) quantity some_quantity (sym (ap number_in (sym (taker_row bytes)) ∙ h.1))),
        );
        others = λ j low g t. (second_left bytes).others j low t ∙ (first_left bytes).others j low g;
        as_posts = (first_accepted, second_accepted, refl);
      }
    where
      -- what is left and the quantity come to what was there
      given_up : (before giver -ℤ quantity ≡ before giver) → ⊥
      given_up e =
          moved (before giver -ℤ quantity) quantity some_quantity (-ℤ-+ℤ_cancel (before giver) quantity ∙ sym e)

  pub swap_leaves : Bytes kept.table → SwapLeaves s kept giver taker quantity (call_on s kept (swap giver taker quantity)).after
  swap_leaves bytes = subst (SwapLeaves s kept giver taker quantity) (sym both_posts) (two_leave bytes)

  pub swap_posts : (first.number ≡ 0) × (second.number ≡ 0) × ((call_on s kept (swap giver taker quantity)).after ≡ second.after)
  swap_posts = (first_accepted, second_accepted, both_posts)

pub leaves : (s : List ℕ) (kept : Office) → AcceptedLent s kept → Bytes kept.table → CallsLeave s kept
leaves s kept lent bytes =
    record {
      index_kept = index_same s kept lent;
      accepted = stays_accepted s kept lent;
      bytes = stays_bytes s kept lent bytes;
      owed_right = owes_right s kept lent;
      posts = post_leaves s kept lent bytes;
      keeps = keep_leaves s kept lent bytes;
      drops = drop_leaves s kept lent bytes;
      steps = step_leaves s kept lent bytes;
      asks = ask_leaves s kept lent bytes;
      quiet = ask_quiets s kept lent;
      boards = λ items results z. board_leaves s kept lent bytes items results z;
      board_asks = λ items results z. board_asks s kept lent bytes items results z;
      board_quiet = board_quiets s kept lent bytes;
      closes = λ z. close_leaves s kept lent bytes;
      swaps = λ giver taker quantity z. swap_leaves s kept lent giver taker quantity z bytes;
    }
