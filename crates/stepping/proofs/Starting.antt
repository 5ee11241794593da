-- What a call starts with: a memo in which nothing is remembered, and the owed bytes. Assumes nothing.
use Prim.Native.Nat.{ℕ, zero, suc, ◌+◌, ◌*◌, ◌<◌, ◌≤◌}
use native.Mathlib.Omega.{arith}
use mathlib.Core.Path.{◌≡◌, refl, ◌∙◌}
use mathlib.Core.Bool.{true}
use mathlib.Core.List.{List}
use lib.ListN.{length, get_or, replicate, length-replicate}
use borrow.Author.Tests.{eqb-true}
use Rattle.circuit.specs.Sheet.{size}
use Rattle.layout.specs.Room.{room_for}
use Rattle.layout.specs.Opened.{sheet_of}
use Rattle.item.proofs.Located.{size_room}
use Rattle.table.specs.Rows.{row}
use Rattle.table.specs.Record.{width, owed_in}
use Rattle.table.specs.Bytes.{table_length, decode_table, owed_true_at, owed_true}
use Rattle.table.proofs.Rows.{below_true}
use Rattle.table.proofs.Tables.{record_fits}
use Rattle.owing.specs.Owing.{OwedIs}
use Rattle.memo.specs.Memo.{Pass, pass, no_note}
use Rattle.memo.specs.declared.Note.{Note}
use Rattle.stepping.specs.Stepping.{Ready, begun}

-- an array of one note
same_all : (z : Note) (n j : ℕ) → get_or (replicate n z) j z ≡ z
same_all z zero j = refl
same_all z (suc n) zero = refl
same_all z (suc n) (suc j) = same_all z n j

-- notes with room for the sheet's items, in which nothing is remembered
pub fresh_ready : (s : List ℕ) (most : ℕ) → room_for s ≤ most → Ready s (pass (replicate most no_note) 1)
fresh_ready s most fits =
    record {
      room = omega (arith, size_room s, length-replicate most no_note);
      older = λ j h. rw (same_all no_note most j) (omega arith);
    }

-- a later generation may begin where the first may
pub ready_later : {s : List ℕ} (memo : Pass) (generation : ℕ) → Ready s (begun memo 1) → 0 < generation → Ready s (begun memo generation)
ready_later memo generation ready positive = record { room = ready.room; older = λ j h. omega (arith, ready.older j h) }

-- the owed bytes of a table, copied while they are true
pub copied_owed : (s t bytes : List ℕ) → owed_true (sheet_of s) t ≡ true → length t ≡ table_length (sheet_of s) → size (sheet_of s) ≤ length bytes
    → ((i : ℕ) → i < length bytes → width * i + width ≤ length t → get_or bytes i 0 ≡ owed_in (row width t i)) → OwedIs (sheet_of s) (decode_table t) bytes
unfolding owed_true
copied_owed s t bytes true-bytes len room copied =
    record {
      room = room;
      byte_is = λ i low. copied i (omega arith) (record_fits (sheet_of s) t i len low) ∙ eqb-true _ _ (below_true (owed_true_at (sheet_of s) t) (size (sheet_of s)) true-bytes i low);
    }
