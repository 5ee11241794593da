-- Older tables: those of the former width are refused with 8. What is accepted under a lower limit of the range is accepted. What stored
-- figures may still hold: an OUT of the lower range, or of the choice before 02's job 6. Assumes nothing.
use Prim.Native.Nat.{ℕ, ◌+◌, ◌*◌, ◌≤◌, ◌<◌}
use native.Mathlib.Omega.{arith}
use mathlib.Core.Path.{◌≡◌, refl, ap, ◌∙◌}
use mathlib.Core.Bool.{Bool, true}
use mathlib.Core.List.{List, [], ◌∷◌, ◌++◌}
use mathlib.Core.Logic.{inl, inr}
use lib.Dec.{leb}
use lib.IntN.{ℤ, pos, nat_abs}
use lib.ListN.{length}
use borrow.Author.Tests.{leb-true}
use Rattle.word.specs.Word.{bytes64}
use Rattle.circuit.specs.Value.{limit}
use Rattle.circuit.specs.Sheet.{size}
use Rattle.circuit.specs.Call.{post, drop, ask, close, bare}
use Rattle.circuit.proofs.Examples.{machine}
use Rattle.layout.specs.Opened.{sheet_of}
use Rattle.layout.specs.Read.{Placed, opens, read_sheet}
use Rattle.layout.specs.Causes.{Faultless}
use Rattle.layout.proofs.Scan.{opened_count}
use Rattle.layout.proofs.Causes.{opens_faultless}
use Rattle.layout.proofs.Examples.{example_bytes}
use Rattle.table.specs.Rows.{row, all_below}
use Rattle.table.specs.Record.{width, number_in}
use Rattle.table.proofs.Rows.{below_true}
use Rattle.office.specs.Office.{Office, keeping, open_on, run_on}
use Rattle.office.specs.Demand1Words.{BeyondLimit, RecordBroken, kind_unknown, mark_unknown, entry_unk, entry_out, entry_refresh, unk_refresh, number_not_zero, beyond_range}
use Rattle.office.specs.Demand1Words.{TableBrokenUnder, AcceptedUnder, AcceptedLent, Invocation, opening, calling, serve, LengthsWrong, former_width, causes_of, First, by_lent}
use Rattle.office.proofs.Agreeing.{sized}
use Rattle.office.proofs.Refusals.{turned_back, opens_sheet, accepted_lent}
use Rattle.office.proofs.Examples.{calls, example_index, zeros8, null_record, unk_record, unowed, owing, answers, answer}

-- a record is broken under another range too, if a number beyond the one is beyond the other
record_under : {most other : ℕ} {figure : Bool} {k m : ℕ} {z : ℤ} → (BeyondLimit most z → BeyondLimit other z) → RecordBroken most figure k m z
    → RecordBroken other figure k m z
record_under h (kind_unknown a) = kind_unknown a
record_under h (mark_unknown a) = mark_unknown a
record_under h (entry_unk a b) = entry_unk a b
record_under h (entry_out a b) = entry_out a b
record_under h (entry_refresh a b) = entry_refresh a b
record_under h (unk_refresh a b c) = unk_refresh a b c
record_under h (number_not_zero a b) = number_not_zero a b
record_under h (beyond_range a b) = beyond_range a (h b)

-- what is accepted under one range is accepted under another in which the table's numbers lie if they lie in the first
accepted_under : (most other : ℕ) (s : List ℕ) (o : Office)
    → ((i : ℕ) → i < size (sheet_of s) → BeyondLimit other (number_in (row width o.table i)) → BeyondLimit most (number_in (row width o.table i)))
    → AcceptedUnder most s o → AcceptedUnder other s o
accepted_under most other s o h a = record { sheet = a.sheet; lent = (a.lent.0, (a.lent.1.0, (unbroken, tt))) }
  where
    unbroken : ¬ TableBrokenUnder other (sheet_of s) o.table
    unbroken (i, low, inl broken) = a.lent.1.1.0 (i, low, inl (record_under (h i low) broken))
    unbroken (i, low, inr false-byte) = a.lent.1.1.0 (i, low, inr false-byte)

-- a sheet without a fault has an item, and so a table of the former width is not of today's
pub former_refused : (r : Invocation) (s : List ℕ) (o : Office) → Faultless s → length o.table ≡ former_width * size (sheet_of s)
    → ((serve r s o).number ≡ 8) × ((serve r s o).offset ≡ 0)
former_refused r s o faultless long = ((turned_back r s o).given 8 0 (λ e. omega arith)).1 (by_lent faultless (first r) refl)
  where
    some : (edition : ℕ) × (ps : List Placed) × (read_sheet s ≡ opens edition ps) → 0 < size (sheet_of s)
    some (edition, ps, e) =
        omega (arith, opened_count s edition ps e, ap size (opens_sheet s edition ps e) ∙ sized s edition ps e)

    other : LengthsWrong (size (sheet_of s)) o
    other = inr (λ now. omega (arith, some ((opens_faultless s).1 faultless)))

    first : (q : Invocation) → First (causes_of s o q) 8
    first (opening how) = inl (refl, other)
    first (calling c) = inl (refl, other)

-- what is accepted under a lower limit is accepted
pub lower_accepted : (most : ℕ) → most ≤ limit → (s : List ℕ) (o : Office) → AcceptedUnder most s o → AcceptedLent s o
lower_accepted most h s o a = accepted_under most limit s o (λ i low b. omega arith) a

-- the limit before amounts were grams
unfoldable pub former_limit : ℕ
former_limit = 1_000_000_000_000

former_lower : former_limit ≤ limit
unfolding former_limit limit
former_lower = omega arith

-- and so is what is accepted under that one
pub older_accepted : (s : List ℕ) (o : Office) → AcceptedUnder former_limit s o → AcceptedLent s o
older_accepted s o a = lower_accepted former_limit former_lower s o a

-- A table within that limit, of the example sheet: A holds the former limit and S holds 1; T, which sums them, is stored as OUT and has no
-- mark.
unfoldable pub older_table : List ℕ
older_table =
    owing (3 ∷ 0 ∷ bytes64 (pos former_limit)) ++ unowed null_record ++ owing (3 ∷ 0 ∷ bytes64 (pos 1)) ++ unowed (2 ∷ 0 ∷ zeros8) ++ unowed unk_record

-- its numbers lie within the former range
abbrev in_former : ℕ → Bool
in_former i = leb (nat_abs (number_in (row width older_table i))) former_limit

older_numbers : all_below in_former (size (sheet_of example_bytes)) ≡ true
unfolding calls example_bytes older_table former_limit sheet_of
older_numbers = refl

-- what an office kept with it
abbrev older : Office
older = keeping example_index older_table

-- It is accepted under the former range, and under today's, and asks give A, S and T as they are stored. T worked out anew is the
-- sum of A and S, and so it is on a table opened since, with the same postings; a table that holds it was not accepted under the former
-- range.
pub older_out : AcceptedUnder former_limit example_bytes older
    × (answers example_bytes older (ask 0 ∷ ask 2 ∷ ask 3 ∷ drop 3 ∷ ask 3 ∷ [])
    ≡ answer 0 3 (pos former_limit) ∷ answer 0 3 (pos 1) ∷ answer 0 2 (pos 0) ∷ answer 0 0 (pos 0) ∷ answer 0 3 (pos (former_limit + 1)) ∷ [])
    × (answers example_bytes (open_on bare example_bytes older).after (post 0 3 (pos former_limit) ∷ post 2 3 (pos 1) ∷ ask 3 ∷ [])
    ≡ answer 0 0 (pos 0) ∷ answer 0 0 (pos 0) ∷ answer 0 3 (pos (former_limit + 1)) ∷ [])
    × (¬ AcceptedUnder former_limit example_bytes (run_on example_bytes older (drop 3 ∷ ask 3 ∷ [])))
unfolding calls machine answers run_on example_bytes example_index older_table former_limit sheet_of
older_out = (
  accepted_under limit former_limit example_bytes older within (accepted_lent example_bytes older (ask 3) refl),
  refl,
  refl,
  λ a. a.lent.1.1.0 (3, low, inl (beyond_range refl above)),
)
  where
    within : (i : ℕ) → i < size (sheet_of example_bytes) → BeyondLimit former_limit (number_in (row width older_table i)) → BeyondLimit limit (number_in (row width older_table i))
    within i low b =
        let small = leb-true (nat_abs (number_in (row width older_table i))) former_limit (below_true in_former (size (sheet_of example_bytes)) older_numbers i low) in
        absurd (omega (arith, small))

    low : 3 < size (sheet_of example_bytes)
    low = omega arith

    above : BeyondLimit former_limit (pos (former_limit + 1))
    above = omega arith

-- A guarded share in bytes: entries A and P, figure S = share of A and P, kept; entry G, figure C = choice of G, S and A.
unfoldable pub guarded_bytes : List ℕ
guarded_bytes =
    0x01 ∷ 0x04 ∷ 0x00 ∷ 0x01 ∷ 0x00 ∷ 0x05 ∷ 0x00
    ∷ 0x02 ∷ 0x01 ∷ 0x00 ∷ 0x41
    ∷ 0x02 ∷ 0x01 ∷ 0x00 ∷ 0x50
    ∷ 0x03 ∷ 0x09 ∷ 0x00 ∷ 0x05 ∷ 0x01 ∷ 0x00 ∷ 0x02 ∷ 0x00 ∷ 0x00 ∷ 0x01 ∷ 0x00 ∷ 0x53
    ∷ 0x02 ∷ 0x01 ∷ 0x00 ∷ 0x47
    ∷ 0x03 ∷ 0x0_b ∷ 0x00 ∷ 0x06 ∷ 0x00 ∷ 0x00 ∷ 0x03 ∷ 0x03 ∷ 0x00 ∷ 0x02 ∷ 0x00 ∷ 0x00 ∷ 0x00 ∷ 0x43
    ∷ 0x04 ∷ 0x00 ∷ 0x00 ∷ []

-- A holds 600, P 10,001 and G 0. S is stored, as OUT; C is stored as the choice of before gave it, which looked at S: OUT, with no mark.
unfoldable pub stale_table : List ℕ
stale_table =
    owing (3 ∷ 0 ∷ bytes64 (pos 600)) ++ owing (3 ∷ 0 ∷ bytes64 (pos 10_001)) ++ owing (2 ∷ 0 ∷ zeros8) ++ owing (3 ∷ 0 ∷ zeros8) ++ unowed (2 ∷ 0 ∷ zeros8)

unfoldable pub guarded_index : List ℕ
guarded_index = 7 ∷ 0 ∷ 0 ∷ 0 ∷ 11 ∷ 0 ∷ 0 ∷ 0 ∷ 15 ∷ 0 ∷ 0 ∷ 0 ∷ 27 ∷ 0 ∷ 0 ∷ 0 ∷ 31 ∷ 0 ∷ 0 ∷ 0 ∷ []

abbrev stale : Office
stale = keeping guarded_index stale_table

-- It is accepted, and an ask gives that OUT. After a season-close run an ask gives 600, as the choice of now picks A; so it does after a
-- drop of C, and on a table opened since, with the same postings.
pub older_choice : (answers guarded_bytes stale (ask 4 ∷ close ∷ ask 4 ∷ []) ≡ answer 0 2 (pos 0) ∷ answer 0 0 (pos 0) ∷ answer 0 3 (pos 600) ∷ [])
    × (answers guarded_bytes stale (drop 4 ∷ ask 4 ∷ []) ≡ answer 0 0 (pos 0) ∷ answer 0 3 (pos 600) ∷ [])
    × (answers guarded_bytes (open_on bare guarded_bytes stale).after (post 0 3 (pos 600) ∷ post 1 3 (pos 10_001) ∷ post 3 3 (pos 0) ∷ ask 4 ∷ [])
    ≡ answer 0 0 (pos 0) ∷ answer 0 0 (pos 0) ∷ answer 0 0 (pos 0) ∷ answer 0 3 (pos 600) ∷ [])
unfolding calls machine answers guarded_bytes guarded_index stale_table
older_choice = (refl, refl, refl)
