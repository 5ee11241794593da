-- Ask: its own test, and what it gives and leaves. Assumes nothing.
use Prim.Native.Nat.{ℕ}
use mathlib.Core.Path.{◌≡◌, refl, sym, ap, ◌∙◌}
use mathlib.Core.Bool.{Bool, true, false}
use mathlib.Core.List.{List, [], ◌∷◌}
use Rattle.std.specs.Prelude.{Result, Ok, Err, IsErrAnd}
use Rattle.cause.specs.declared.Cause.{Cause}
use Rattle.cause.specs.declared.Fault.{Fault}
use Rattle.cause.specs.Cause.{number_of}
use Rattle.cause.proofs.Numbers.{number_some}
use Rattle.cause.proofs.Exits.{exit}
use Rattle.circuit.specs.Value as circuit
use Rattle.circuit.specs.Sheet.{Sheet}
use Rattle.circuit.specs.Machine.{look_up, catch_up}
use Rattle.circuit.specs.Call.{Call, ask}
use Rattle.circuit.specs.Calls.{test, first_cause, tests, effect, no_item}
use Rattle.value.specs.declared.Value.{Value}
use Rattle.value.specs.Meaning.{meaning}
use Rattle.layout.specs.Opened.{sheet_of}
use Rattle.table.specs.Bytes.{encode_table, decode_table}
use Rattle.office.specs.Office.{keeping, call_on}
use Rattle.admission.specs.Admission.{refused, admitted_of, AllAdmitted, call_lent}
use Rattle.admission.proofs.Admission.{refused_call}
use Rattle.admission.proofs.Calls.{whole_call, fails, does}
use Rattle.call_ask.specs.Asking.{Valued, TriedValue, LookedUp}

-- the cause is that of the test
tested : (b : Bool) (k : Cause) → number_of k ≡ first_cause (test 11 b ∷ []) → (b ≡ true) × (number_of k ≡ 11)
unfolding first_cause
tested true k e = (refl, e)
tested false k e = absurd (number_some k e)

pub ask_refused : (S : Sheet) (x t : List ℕ) (item : ℕ) (k : Cause) → number_of k ≡ first_cause (test 11 (no_item S item) ∷ []) → Valued (call_lent S x t (ask item)) (Err k) t
unfolding tests first_cause
ask_refused S x t item k e =
    let p = tested (no_item S item) k e in
    rw p.0 (record { did = record { number_is = p.1; offset_is = refl; table_is = refl }; kind_is = refl; value_is = refl })

pub ask_done : (s x t : List ℕ) {item i : ℕ} → i ≡ item → 0 ≡ first_cause (test 11 (no_item (sheet_of s) item) ∷ [])
    → {t₁ : List ℕ} (v : Value) → LookedUp s (look_up (sheet_of s) (catch_up (sheet_of s) (decode_table t)) i) (meaning v) t₁
    → (t₂ : List ℕ) → t₂ ≡ encode_table (sheet_of s) (decode_table t₁) → Valued (call_lent (sheet_of s) x t (ask item)) (Ok v) t₂
unfolding tests effect
ask_done s x t {item} {i} is passed {t₁} v l t₂ settled =
    rw (← passed, ← is) (record {
      did = record { number_is = refl; offset_is = refl; table_is = settled ∙ ap (encode_table (sheet_of s)) l.table_is };
      kind_is = ap circuit.kind_of l.value_is;
      value_is = ap circuit.number_of l.value_is;
    })

-- ---- the whole call

pub ask_refuses : (s x t : List ℕ) (c : Call) {r : Result Value Fault} (f : Fault) → IsErrAnd r (λ y. y ≡ f)
    → admitted_of s x t ≡ refused (number_of f.cause) f.offset → TriedValue (call_on s (keeping x t) c) r t
ask_refuses s x t c f is e =
    rw (exit is, refused_call s x t c (number_of f.cause) f.offset (sym e)) (record {
      tried = record { number_is = refl; offset_is = refl; table_is = refl };
      kind_is = refl;
      value_is = refl;
    })

pub ask_fails : {s x t S t' : List ℕ} → AllAdmitted s x t S → (c : Call) {r : Result Value Fault} {k : Cause} → IsErrAnd r (λ y. y ≡ record { cause = k; offset = 0 })
    → Valued (call_lent (sheet_of S) x t c) (Err k) t' → TriedValue (call_on s (keeping x t) c) r t'
ask_fails a c is d =
    let g = whole_call a c in
    record { tried = fails a c is d.did; kind_is = rw (exit is, g) d.kind_is; value_is = rw (exit is, g) d.value_is }

pub ask_does : {s x t S t' : List ℕ} → AllAdmitted s x t S → (c : Call) {v : Value} → Valued (call_lent (sheet_of S) x t c) (Ok v) t'
    → TriedValue (call_on s (keeping x t) c) (Ok v) t'
ask_does a c d =
    record { tried = does a c d.did; kind_is = let g = whole_call a c in rw g d.kind_is; value_is = let g = whole_call a c in rw g d.value_is }
