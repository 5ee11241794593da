-- What is left of a call once what is lent is admitted: the call on the sheet's items and a table in form with true owed bytes. Every call's proof
-- rests on these. Assumes nothing.
use Prim.Native.Nat.{ℕ, ◌≤◌}
use native.Mathlib.Omega.{arith}
use mathlib.Core.Path.{◌≡◌, refl, sym}
use mathlib.Core.Bool.{true}
use mathlib.Core.List.{List}
use lib.ListN.{length}
use Rattle.std.specs.Prelude.{Result, Ok, Err, IsErrAnd}
use Rattle.cause.specs.Cause.{number_of}
use Rattle.cause.specs.declared.Cause.{Cause}
use Rattle.cause.specs.declared.Fault.{Fault}
use Rattle.cause.proofs.Exits.{exit}
use Rattle.circuit.specs.Sheet.{size}
use Rattle.circuit.specs.Call.{Call}
use Rattle.layout.specs.Opened.{sheet_of}
use Rattle.layout.specs.Room.{room_for}
use Rattle.item.proofs.Located.{size_room}
use Rattle.office.specs.Office.{keeping, call_on}
use Rattle.table.specs.Bytes.{owed_true}
use Rattle.looking.specs.Pass.{Lent}
use Rattle.admission.specs.Admission.{admitted_of, refused, AllAdmitted, call_lent}
use Rattle.admission.specs.Answers.{Did, Tried}
use Rattle.admission.proofs.Admission.{admitted, refused_call}

-- what the functions below the refusals are lent: the bytes, which the tests have used, are as many as before
pub record Below (S t bytes : List ℕ) : Type 0 where
  pub lent : Lent S t
  pub owes : owed_true (sheet_of S) t ≡ true
  pub owed_room : size (sheet_of S) ≤ length bytes

pub admits : {s x t S : List ℕ} → AllAdmitted s x t S → {most : ℕ} → room_for s ≤ most → {bytes : List ℕ} → length bytes ≡ most → Below S t bytes
admits {s} {x} {t} {S} a room same =
    let g = admitted s x t (size (sheet_of s)) (sym a.admitted) in
    let e = a.sheet_is in
    rw e (record {
      lent = record { length_is = g.table_length_lem; formed = g.formed };
      owes = g.owes;
      owed_room = omega (arith, size_room s, room, same);
    })

-- the whole call is the one that is left
pub whole_call : {s x t S : List ℕ} → AllAdmitted s x t S → (c : Call) → call_on s (keeping x t) c ≡ call_lent (sheet_of S) x t c
whole_call {s} {x} {t} a c = let e = a.sheet_is in rw e ((admitted s x t (size (sheet_of s)) (sym a.admitted)).call c)

-- a refusal of what is lent is the whole call's
pub refuses : (s x t : List ℕ) (c : Call) {A : Type 0} {r : Result A Fault} (f : Fault) → IsErrAnd r (λ y. y ≡ f)
    → admitted_of s x t ≡ refused (number_of f.cause) f.offset → Tried (call_on s (keeping x t) c) r t
refuses s x t c f is e =
    let g = refused_call s x t c (number_of f.cause) f.offset (sym e) in
    rw (g, exit is) (record { number_is = refl; offset_is = refl; table_is = refl })

-- so is one of the call's own tests, and what it does
pub fails : {s x t S : List ℕ} → AllAdmitted s x t S → (c : Call) {A B : Type 0} {r : Result B Fault} {k : Cause} → IsErrAnd r (λ y. y ≡ record { cause = k; offset = 0 })
    → {t' : List ℕ} → Did {A = A} (call_lent (sheet_of S) x t c) (Err k) t' → Tried (call_on s (keeping x t) c) r t'
fails a c is d =
    let g = whole_call a c in
    rw (g, exit is) (record { number_is = d.number_is; offset_is = d.offset_is; table_is = d.table_is })

pub does : {s x t S : List ℕ} → AllAdmitted s x t S → (c : Call) {A B : Type 0} {a : A} {b : B} {t' : List ℕ} → Did (call_lent (sheet_of S) x t c) (Ok a) t'
    → Tried (call_on s (keeping x t) c) (Ok b) t'
does h c d = let g = whole_call h c in rw g (record { number_is = d.number_is; offset_is = d.offset_is; table_is = d.table_is })
