-- Two offices agree (`two_offices`): for any two sound tables with the same entries, and any two lists of calls that make
-- the same postings in order, every ask and every board has the same answer in both, which is the fresh office's. The four pairs
-- of openings are an instance (`two_openings`). Assumes that the sheet is ordered.
use Prim.Native.Nat.{ℕ, ◌<◌}
use mathlib.Core.Path.{◌≡◌, refl, sym, ap, subst, ◌∙◌}
use mathlib.Core.Bool.{Bool, true, false, cond, ◌||◌}
use mathlib.Core.List.{List, [], ◌∷◌, map}
use mathlib.Core.Option.{Option, none, some}
use borrow.Author.Tests.{leb-false}
use Rattle.circuit.specs.Value.{Value}
use Rattle.circuit.specs.Circuit.{IsSolution}
use Rattle.circuit.specs.Sheet.{Sheet, size, beyond, Ordered, Entries, circuit_of}
use Rattle.circuit.specs.Table.{Table, opened}
use Rattle.circuit.specs.Machine.{look_up, catch_up}
use Rattle.circuit.specs.Call.{Call, ask, board, Opening, bare, full}
use Rattle.circuit.specs.Board.{listed, lists_wrong}
use Rattle.circuit.specs.Calls.{Outcome, tests, first_cause, some_no_item, show_items, effect, effect_unless, perform, run, postings}
use Rattle.circuit.specs.Fresh.{blank, give, fresh_ask, values_with, fresh_asks}
use Rattle.circuit.specs.Events.{fresh_run}
use Rattle.circuit.proofs.Solution.{give_solves}
use Rattle.circuit.proofs.Fresh.{entered, fresh_entered}
use Rattle.circuit.proofs.Fill.{look_right, looks_right}
use Rattle.circuit.proofs.CatchUp.{catch_up-quiet}
use Rattle.circuit.proofs.Reading.{quiet_look}
use Rattle.circuit.proofs.Board.{map_in_sheet}
use Rattle.circuit.proofs.Accepted.{effect_number}
use Rattle.circuit.proofs.Sound.{Sound, catch_up_sound, run_sound, bare_sound, full_sound}

-- an ask's answer, by what the fresh office gives: number 0 with its value, or 11 with none where it gives no value
abbrev pub Answers : Option Value → Outcome → Type 0
Answers none o = (o.number ≡ 11) × (o.reading ≡ none)
Answers (some v) o = (o.number ≡ 0) × (o.reading ≡ some v)

-- a board's answer, by whether its lists are wrong (17) and by what the fresh office gives for its items
abbrev pub Shows : Bool → Option (List Value) → Outcome → Type 0
Shows true given o = (o.number ≡ 17) × (o.shown ≡ [])
Shows false none o = (o.number ≡ 11) × (o.shown ≡ [])
Shows false (some vs) o = (o.number ≡ 0) × (o.shown ≡ vs)

-- Offices that start at the tables T and U, both with entries E, and hear the lists cs and ds: afterwards every ask has
-- the same answer in both, which is the answer of the fresh office fed either list; and so has every board.
pub record Agree (S : Sheet) (E : Entries) (T : Table) (cs : List Call) (U : Table) (ds : List Call) : Type 0 where
  pub numbers : (i : ℕ) → (perform S (run S T cs) (ask i)).number ≡ (perform S (run S U ds) (ask i)).number
  pub readings : (i : ℕ) → (perform S (run S T cs) (ask i)).reading ≡ (perform S (run S U ds) (ask i)).reading
  pub first : (i : ℕ) → Answers (fresh_ask S (fresh_run S E T cs) i) (perform S (run S T cs) (ask i))
  pub second : (i : ℕ) → Answers (fresh_ask S (fresh_run S E U ds) i) (perform S (run S T cs) (ask i))
  pub heard : fresh_run S E T cs ≡ fresh_run S E U ds
  pub shows : (items results : List ℕ)
      → Shows (lists_wrong items results) (fresh_asks S (fresh_run S E T cs) (listed items)) (perform S (run S T cs) (board items results))
  pub shows_other : (items results : List ℕ)
      → Shows (lists_wrong items results) (fresh_asks S (fresh_run S E U ds) (listed items)) (perform S (run S U ds) (board items results))

-- What is looked up after catching up on a sound table, and what a board shows, are the solution's values.
module _ (S : Sheet) (ordered : Ordered S) (E : Entries) (values : ℕ → Value) (solves : IsSolution (circuit_of S) E values) (T : Table) (sound : Sound S E T) where
  pub caught_value : (i : ℕ) → i < size S → (look_up S (catch_up S T) i).value ≡ values i
  caught_value i low =
      let caught = catch_up_sound S ordered E T sound in
      quiet_look S ordered E values solves (catch_up S T) caught.invariant caught.formed caught.holds (catch_up-quiet S ordered T) i low

  pub show_values : (is : List ℕ) → some_no_item S is ≡ false → (show_items S T is).shown ≡ map values is
  show_values [] e = refl
  show_values (i ∷ is) e =
      (looks_right S ordered (catch_up S T) (i ∷ is)).values
      ∙ map_in_sheet S _ values (λ j low. sym (look_right S ordered (catch_up S T) j).value ∙ caught_value j low) (i ∷ is) e

-- an ask of a sound table is answered as the fresh office answers
pub ask_answers : (S : Sheet) → Ordered S → (E : Entries) (T : Table) → Sound S E T → (i : ℕ)
    → Answers (fresh_ask S E i) (perform S T (ask i))
unfolding fresh_ask perform tests first_cause effect
ask_answers S ordered E T sound i = go (beyond S i) refl
  where
    go : (b : Bool) → beyond S i ≡ b → Answers (cond b none (some (give S E i))) (effect_unless (cond b 11 0) S T (ask i))
    go true e = (refl, refl)
    go false e = (refl, ap some (caught_value S ordered E (give S E) (give_solves S ordered E) T sound i (leb-false (size S) i e)))

-- The fresh office gives the items' values exactly if each is in the sheet.
fresh_values : (S : Sheet) (E : Entries) (is : List ℕ) → fresh_asks S E is ≡ cond (some_no_item S is) none (some (map (give S E) is))
unfolding fresh_asks fresh_ask some_no_item
fresh_values S E [] = refl
fresh_values S E (i ∷ is) = rw (fresh_values S E is) (go (beyond S i) (some_no_item S is))
  where
    go : (a b : Bool)
        → values_with (cond a none (some (give S E i))) (cond b none (some (map (give S E) is))) ≡ cond (a || b) none (some (give S E i ∷ map (give S E) is))
    go true b = refl
    go false true = refl
    go false false = refl

-- a board on a sound table is answered as the fresh office answers
pub board_shows : (S : Sheet) → Ordered S → (E : Entries) (T : Table) → Sound S E T → (items results : List ℕ)
    → Shows (lists_wrong items results) (fresh_asks S E (listed items)) (perform S T (board items results))
unfolding perform tests first_cause effect
board_shows S ordered E T sound items results =
    rw (fresh_values S E (listed items)) (go (lists_wrong items results) (some_no_item S (listed items)) refl)
  where
    go : (w b : Bool) → some_no_item S (listed items) ≡ b
        → Shows w (cond b none (some (map (give S E) (listed items)))) (effect_unless (cond w 17 (cond b 11 0)) S T (board items results))
    go true b e = (refl, refl)
    go false true e = (refl, refl)
    go false false e = (effect_number S T (board items results), show_values S ordered E (give S E) (give_solves S ordered E) T sound (listed items) e)

same_number : (a : Option Value) (o q : Outcome) → Answers a o → Answers a q → o.number ≡ q.number
same_number none o q h k = h.0 ∙ sym k.0
same_number (some v) o q h k = h.0 ∙ sym k.0

same_reading : (a : Option Value) (o q : Outcome) → Answers a o → Answers a q → o.reading ≡ q.reading
same_reading none o q h k = h.1 ∙ sym k.1
same_reading (some v) o q h k = h.1 ∙ sym k.1

-- Two offices agree.
pub two_offices : (S : Sheet) → Ordered S → (E : Entries) (T : Table) (cs : List Call) (U : Table) (ds : List Call)
    → Sound S E T → Sound S E U → postings S T cs ≡ postings S U ds → Agree S E T cs U ds
two_offices S ordered E T cs U ds sound_t sound_u same =
    record {
      numbers = λ i. same_number (fresh_ask S (fresh_run S E U ds) i) (perform S (run S T cs) (ask i)) (perform S (run S U ds) (ask i)) (second i) (other i);
      readings = λ i. same_reading (fresh_ask S (fresh_run S E U ds) i) (perform S (run S T cs) (ask i)) (perform S (run S U ds) (ask i)) (second i) (other i);
      first = first;
      second = second;
      heard = heard;
      shows = board_shows S ordered (fresh_run S E T cs) (run S T cs) (run_sound S ordered cs E T sound_t);
      shows_other = board_shows S ordered (fresh_run S E U ds) (run S U ds) (run_sound S ordered ds E U sound_u);
    }
  where
    heard : fresh_run S E T cs ≡ fresh_run S E U ds
    heard = fresh_entered S cs E T ∙ ap (entered E) same ∙ sym (fresh_entered S ds E U)

    first : (i : ℕ) → Answers (fresh_ask S (fresh_run S E T cs) i) (perform S (run S T cs) (ask i))
    first = ask_answers S ordered (fresh_run S E T cs) (run S T cs) (run_sound S ordered cs E T sound_t)

    other : (i : ℕ) → Answers (fresh_ask S (fresh_run S E U ds) i) (perform S (run S U ds) (ask i))
    other = ask_answers S ordered (fresh_run S E U ds) (run S U ds) (run_sound S ordered ds E U sound_u)

    second : (i : ℕ) → Answers (fresh_ask S (fresh_run S E U ds) i) (perform S (run S T cs) (ask i))
    second i = subst (λ F. Answers (fresh_ask S F i) (perform S (run S T cs) (ask i))) heard (first i)

pub opened_sound : (S : Sheet) → Ordered S → (a : Opening) → Sound S blank (opened a S)
opened_sound S ordered bare = bare_sound S
opened_sound S ordered full = full_sound S ordered

-- the four pairs of openings
pub two_openings : (S : Sheet) → Ordered S → (a b : Opening) (cs ds : List Call)
    → postings S (opened a S) cs ≡ postings S (opened b S) ds → Agree S blank (opened a S) cs (opened b S) ds
two_openings S ordered a b cs ds same =
    two_offices S ordered blank (opened a S) cs (opened b S) ds (opened_sound S ordered a) (opened_sound S ordered b) same
