-- A sheet of edition 1 with spread 2: entry A and figure B, the sum of A, then entry C and figure D, the sum of C; both figures are kept, with
-- spread 2. By computation it opens, B defers, D stays stored, and with edition 2 it is given 5; and what is proved of every sheet that opens
-- holds of it. Assumes nothing.
use Prim.Native.Nat.{ℕ}
use mathlib.Core.Path.{◌≡◌, refl}
use mathlib.Core.List.{List, [], ◌∷◌, ◌++◌}
use mathlib.Core.Option.{none}
use lib.IntN.{pos}
use Rattle.word.specs.Word.{bytes64}
use Rattle.circuit.specs.Call.{Call, post, step, ask, bare, full}
use Rattle.circuit.proofs.Examples.{machine}
use Rattle.layout.specs.Edition.{with_edition}
use Rattle.layout.proofs.Examples.{head, entry_a, end, figure_of}
use Rattle.office.specs.Office.{Office, keeping, accepted, refusal, call_on, open_on, run_on}
use Rattle.office.specs.Demand2Words.{answer_of}
use Rattle.office.specs.FinishWords.{StepsEnd}
use Rattle.office.specs.Demand3Words.{postings_on, SameAnswers, RetainsPost}
use Rattle.office.proofs.Examples.{zeros8, null_record, unk_record, unowed, owing, calls, answer}
use Rattle.office.proofs.Demands.{agrees, finishes}

abbrev pub entry_c : List ℕ
entry_c = 2 ∷ 1 ∷ 0 ∷ 67 ∷ []

unfoldable pub forget_bytes : List ℕ
forget_bytes = head 4 ++ entry_a ++ figure_of 1 1 2 0 ++ entry_c ++ figure_of 1 1 2 2 ++ end

abbrev pub forget_index : List ℕ
forget_index = 7 ∷ 0 ∷ 0 ∷ 0 ∷ 11 ∷ 0 ∷ 0 ∷ 0 ∷ 21 ∷ 0 ∷ 0 ∷ 0 ∷ 25 ∷ 0 ∷ 0 ∷ 0 ∷ []

abbrev pub forget_full : Office
forget_full = keeping forget_index (owing null_record ++ unowed null_record ++ owing null_record ++ unowed null_record)

abbrev pub forget_bare : Office
forget_bare = keeping forget_index (unowed null_record ++ unowed unk_record ++ unowed null_record ++ unowed unk_record)

-- it opens
pub forget_opens : (open_on full forget_bytes forget_full ≡ accepted none [] forget_full) × (open_on bare forget_bytes forget_full ≡ accepted none [] forget_bare)
unfolding calls forget_bytes
forget_opens = (refl, refl)

-- C and D are posted and caught up, so that no mark stands; then A is posted, and stepped.
abbrev before : List Call
before = post 2 3 (pos 7) ∷ ask 3 ∷ []

abbrev after : List Call
after = post 2 3 (pos 7) ∷ ask 3 ∷ post 0 3 (pos 5) ∷ step 0 ∷ []

abbrev seven : List ℕ
seven = 3 ∷ 0 ∷ bytes64 (pos 7)

pub forget_quiet : run_on forget_bytes forget_full before ≡ keeping forget_index (owing null_record ++ unowed null_record ++ owing seven ++ unowed seven)
unfolding calls machine run_on forget_bytes
forget_quiet = refl

-- Told, B stays stored and is to be refreshed; D, to which A does not lead, stays stored with its value. B's step then leaves a notice, and that
-- one's step no mark.
pub forget_defers : run_on forget_bytes forget_full after ≡ keeping forget_index (owing (3 ∷ 0 ∷ bytes64 (pos 5)) ++ unowed (1 ∷ 1 ∷ zeros8) ++ owing seven ++ unowed seven)
unfolding calls machine run_on forget_bytes
forget_defers = refl

pub forget_steps : run_on forget_bytes forget_full (post 2 3 (pos 7) ∷ ask 3 ∷ post 0 3 (pos 5) ∷ step 0 ∷ step 1 ∷ step 1 ∷ [])
    ≡ keeping forget_index (owing (3 ∷ 0 ∷ bytes64 (pos 5)) ++ unowed (3 ∷ 0 ∷ bytes64 (pos 5)) ++ owing seven ++ unowed seven)
unfolding calls machine run_on forget_bytes
forget_steps = refl

-- an ask gives what A holds, opened full or bare
pub forget_asked : (answer_of (call_on forget_bytes (run_on forget_bytes forget_full after) (ask 1)) ≡ answer 0 3 (pos 5))
    × (answer_of (call_on forget_bytes (run_on forget_bytes forget_bare (post 2 3 (pos 7) ∷ post 0 3 (pos 5) ∷ [])) (ask 1)) ≡ answer 0 3 (pos 5))
unfolding calls machine run_on forget_bytes
forget_asked = (refl, refl)

-- in edition 2 it is refused where B's field begins
pub forget_refused_in_2 : (call_on (with_edition 2 forget_bytes) forget_full (ask 1) ≡ refusal 5 11 [] forget_full)
    × (open_on bare (with_edition 2 forget_bytes) forget_full ≡ refusal 5 11 [] forget_full)
unfolding calls forget_bytes with_edition
forget_refused_in_2 = (refl, refl)

-- Two offices agree on it, what a post does not lead to stays stored, and steps end.
opened_full : (open_on full forget_bytes forget_full).number ≡ 0
unfolding calls forget_bytes
opened_full = refl

opened_bare : (open_on bare forget_bytes forget_full).number ≡ 0
unfolding calls forget_bytes
opened_bare = refl

pub forget_agrees : (cs ds : List Call)
    → postings_on forget_bytes (open_on full forget_bytes forget_full).after cs ≡ postings_on forget_bytes (open_on bare forget_bytes forget_full).after ds
    → SameAnswers forget_bytes (open_on full forget_bytes forget_full).after cs (open_on bare forget_bytes forget_full).after ds
forget_agrees = agrees.agree forget_bytes forget_full forget_full full bare opened_full opened_bare

pub forget_retains : RetainsPost forget_bytes (open_on full forget_bytes forget_full).after
forget_retains = agrees.retained forget_bytes forget_full full opened_full

pub forget_steps_end : (cs : List Call) → StepsEnd forget_bytes (run_on forget_bytes (open_on full forget_bytes forget_full).after cs)
forget_steps_end cs = finishes.steps_end forget_bytes _ (agrees.never_refused forget_bytes forget_full full opened_full cs).accepted
