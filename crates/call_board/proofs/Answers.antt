-- What a board gives and leaves, by its own tests. Assumes nothing.
use Prim.Native.Nat.{ℕ, suc}
use native.Mathlib.Omega.{arith}
use mathlib.Core.Path.{◌≡◌, refl, sym, ap, ◌∙◌}
use mathlib.Core.Bool.{true, false}
use mathlib.Core.List.{List, [], ◌∷◌}
use lib.ListN.{length}
use Rattle.std.specs.Prelude.{Result, Ok, Err, IsErrAnd}
use Rattle.cause.specs.declared.Cause.{Cause}
use Rattle.cause.specs.declared.Cause.TheVariants.{NoItem, List as ListCause}
use Rattle.cause.specs.declared.Fault.{Fault}
use Rattle.cause.specs.Cause.{number_of}
use Rattle.cause.proofs.Exits.{exit}
use Rattle.circuit.specs.Sheet.{Sheet}
use Rattle.circuit.specs.Table.{Table}
use Rattle.circuit.specs.Board.{listed, lists_off}
use Rattle.circuit.specs.Machine.{gather, look_up, catch_up}
use Rattle.circuit.specs.Call.{board}
use Rattle.circuit.specs.Calls.{first_cause, tests, some_no_item, shown_of, show_items, effect}
use Rattle.circuit.proofs.Board.{listed_count}
use Rattle.layout.specs.Opened.{sheet_of}
use Rattle.field.specs.Bytes.{Bytes}
use Rattle.table.specs.Bytes.{encode_table, decode_table, owed_true}
use Rattle.office.specs.Office.{results_of, keeping, call_on}
use Rattle.looking.specs.Pass.{Lent}
use Rattle.admission.specs.Admission.{refused, admitted_of, AllAdmitted, call_lent}
use Rattle.admission.proofs.Admission.{refused_call}
use Rattle.admission.proofs.Admitting.{lent_encoded}
use Rattle.admission.proofs.Calls.{whole_call, fails, does}
use Rattle.call_board.specs.Showing.{BoardDid, BoardTried, Listed, Shown}
use Rattle.call_board.proofs.Lists.{lists_even, lists_room}

-- the lists that pass both tests
pub board_listed : (s items results : List ℕ) → lists_off (length items) (length results) ≡ false → some_no_item (sheet_of s) (listed items) ≡ false
    → Listed s items results
board_listed s items results w q =
    record { within = q; room = omega (arith, lists_room (length items) (length results) w, listed_count items) }

shows : (S : Sheet) (T : Table) (is : List ℕ) → (length is ≡ 0 → ⊥) → shown_of (gather (look_up S) (catch_up S T) is) ≡ show_items S T is
shows S T [] h = absurd (h refl)
shows S T (i ∷ is) h = refl

module _ (s t x items results : List ℕ) where
  pub lists_refused : lists_off (length items) (length results) ≡ true → BoardDid (call_lent (sheet_of s) x t (board items results)) (Err ListCause) results t
  unfolding tests first_cause
  lists_refused w = rw w (record { did = record { number_is = refl; offset_is = refl; table_is = refl }; results_are = refl })

  pub item_refused : lists_off (length items) (length results) ≡ false → some_no_item (sheet_of s) (listed items) ≡ true
      → BoardDid (call_lent (sheet_of s) x t (board items results)) (Err NoItem) results t
  unfolding tests first_cause
  item_refused w q = rw (w, q) (record { did = record { number_is = refl; offset_is = refl; table_is = refl }; results_are = refl })

  pub board_done : lists_off (length items) (length results) ≡ false → some_no_item (sheet_of s) (listed items) ≡ false → (length items ≡ 0 → ⊥) → (results' t₁ : List ℕ)
      → Shown s (gather (look_up (sheet_of s)) (catch_up (sheet_of s) (decode_table t)) (listed items)) results' t₁
      → (t' : List ℕ) → t' ≡ encode_table (sheet_of s) (decode_table t₁) → BoardDid (call_lent (sheet_of s) x t (board items results)) (Ok (tt {0})) results' t'
  unfolding tests first_cause effect
  board_done w q some results' t₁ shown t' settled =
      let e = shows (sheet_of s) (decode_table t) (listed items) (λ z. some (omega (arith, listed_count items, lists_even (length items) (length results) w))) in
      rw (w, q) (record {
        did = record { number_is = refl; offset_is = refl; table_is = settled ∙ ap (encode_table (sheet_of s)) (shown.table_is ∙ ap (λ o. o.table) e) };
        results_are = shown.results_are ∙ ap (λ o. results_of o.shown) e;
      })

-- an empty list changes nothing
pub board_empty : {s t : List ℕ} → Lent s t → Bytes t → owed_true (sheet_of s) t ≡ true → (x items results : List ℕ)
    → lists_off (length items) (length results) ≡ false → length items ≡ 0 → BoardDid (call_lent (sheet_of s) x t (board items results)) (Ok (tt {0})) results t
unfolding tests first_cause effect lists_off listed some_no_item results_of
board_empty lent bytes owes x [] [] w e =
    record { did = record { number_is = refl; offset_is = refl; table_is = sym (lent_encoded lent bytes owes) }; results_are = refl }
board_empty lent bytes owes x [] (y ∷ results) w e = absurd (omega (arith, lists_room 0 (suc (length results)) w))
board_empty lent bytes owes x (i ∷ items) results w e = absurd (omega arith)

-- ---- the whole call

pub board_refuses : (s x t items results : List ℕ) {r : Result (Unit {0}) Fault} (f : Fault) → IsErrAnd r (λ y. y ≡ f)
    → admitted_of s x t ≡ refused (number_of f.cause) f.offset → BoardTried (call_on s (keeping x t) (board items results)) r results t
board_refuses s x t items results f is e =
    rw (exit is, refused_call s x t (board items results) (number_of f.cause) f.offset (sym e)) (record {
      tried = record { number_is = refl; offset_is = refl; table_is = refl };
      results_are = refl;
    })

module _ {s x t S : List ℕ} (a : AllAdmitted s x t S) (items results : List ℕ) {results' t' : List ℕ} where
  pub board_fails : {r : Result (Unit {0}) Fault} {k : Cause} → IsErrAnd r (λ y. y ≡ record { cause = k; offset = 0 })
      → BoardDid (call_lent (sheet_of S) x t (board items results)) (Err k) results' t' → BoardTried (call_on s (keeping x t) (board items results)) r results' t'
  board_fails is d = record { tried = fails a (board items results) is d.did; results_are = let g = whole_call a (board items results) in rw g d.results_are }

  pub board_does : BoardDid (call_lent (sheet_of S) x t (board items results)) (Ok (tt {0})) results' t'
      → BoardTried (call_on s (keeping x t) (board items results)) (Ok (tt {0})) results' t'
  board_does d = record { tried = does a (board items results) d.did; results_are = let g = whole_call a (board items results) in rw g d.results_are }
