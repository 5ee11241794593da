-- Catching up, from what the code's calls ensure. Assumes nothing.
use Prim.Native.Nat.{ℕ, ◌+◌, ◌*◌, ◌<◌}
use native.Mathlib.Omega.{arith}
use mathlib.Core.Path.{◌≡◌}
use mathlib.Core.Bool.{false}
use mathlib.Core.List.{List}
use Rattle.circuit.specs.Sheet.{size}
use Rattle.circuit.specs.Table.{Table, is_marked}
use Rattle.circuit.specs.Machine.{catch_up}
use Rattle.layout.specs.Opened.{sheet_of}
use Rattle.table.specs.Bytes.{decode_table}
use Rattle.table.proofs.Tables.{owed_kept_refl}
use Rattle.memo.specs.Memo.{Pass, Right}
use Rattle.looking.specs.Pass.{Lent}
use Rattle.stepping.specs.Stepping.{Ready, Steps, begun}
use Rattle.stepping.proofs.Stepping.{ready_memo}
use Rattle.stepping.proofs.Starting.{ready_later}
use Rattle.stepping.proofs.Ascending.{quiet_caught}

-- nothing is marked: catching up leaves the table, and the next generations may begin
pub caught_quiet : {s t : List ℕ} {memo : Pass} → Lent s t → Ready s (begun memo 1)
    → ((i : ℕ) → i < size (sheet_of s) → is_marked (decode_table t i) ≡ false)
    → Steps s t (2 * size (sheet_of s)) (catch_up (sheet_of s) (decode_table t)) t memo
caught_quiet {s} {t} {memo} lent ready none =
    record {
      table_is = quiet_caught s t none;
      owed_kept = owed_kept_refl t;
      formed = lent.formed;
      ready = ready_later memo (2 * size (sheet_of s) + 1) ready (omega arith);
    }

-- looking up after catching up is of a generation of its own
pub caught_memo : {s t : List ℕ} {U : Table} {t₁ : List ℕ} {memo₁ : Pass} → Steps s t (2 * size (sheet_of s)) U t₁ memo₁
    → (T : Table) → Right (sheet_of s) T (begun memo₁ (2 * size (sheet_of s) + 1))
caught_memo steps T = ready_memo steps.ready T
