-- The whole day: the opening, the calls, and the parts of index and table that are lent on. Assumes nothing.
use Prim.Native.Nat.{ℕ, zero, suc, ◌*◌, ◌≤◌, ◌<◌, min}
use mathlib.Core.Path.{◌≡◌, refl, sym, ap, ◌∙◌}
use mathlib.Core.Bool.{Bool, true, false}
use mathlib.Core.List.{List, [], ◌∷◌, ◌++◌}
use native.Mathlib.Omega.{arith}
use borrow.Author.Tests.{leb-true, leb-false}
use lib.Dec.{leb}
use lib.ListN.{length, take, drop}
use lib.Seq.{take_all, length-take-le}
use Rattle.circuit.specs.Call.{bare}
use Rattle.layout.specs.Index.{index_width}
use Rattle.table.specs.Record.{width}
use Rattle.office.specs.Office.{Given, open_on, keeping}
use Rattle.day_meaning.specs.Lines.{Appended, last_line, sheet_word}
use Rattle.layout.specs.Room.{count_said}
use Rattle.day_meaning.specs.Day.{play_from, PlayedOn, Day, ended, day_by, day_on, index_size, table_size, sheet_line, long_number, too_long, read_day, run_day, Ran}
use Rattle.day_meaning.proofs.Storing.{appended_front, appended_count}

ran_as : {e e' : Day} {out x t out' : List ℕ} {count : ℕ} → e ≡ e' → Ran e out count x t out' → Ran e' out count x t out'
ran_as e r = rw e at r

refused_day : (m : ℕ) (s d : List ℕ) (g : Given) → (m ≡ 0 → ⊥) → day_by m s d g ≡ ended (last_line sheet_word m g.offset) g.after.index g.after.table
refused_day zero s d g h = absurd (h refl)
refused_day (suc m) s d g h = refl

-- the opening is refused
pub day_refused : {n offset count : ℕ} {x' t' out out' : List ℕ} (s d x t : List ℕ) → n ≡ (open_on bare s (keeping x t)).number → offset ≡ (open_on bare s (keeping x t)).offset
    → x' ≡ (open_on bare s (keeping x t)).after.index → t' ≡ (open_on bare s (keeping x t)).after.table → (n ≡ 0 → ⊥) → Appended (last_line sheet_word n offset) out 0 count out'
    → Ran (day_on s d x t) out count x' t' out'
unfolding day_on
day_refused {n} {offset} {count} {x'} {t'} {out} {out'} s d x t number at index table h p =
    let g : Given = open_on bare s (keeping x t) in
    let whole : ended (last_line sheet_word n offset) x' t' ≡ day_by g.number s d g =
    ap (λ o. ended (last_line sheet_word n o) x' t') at
    ∙ ap (λ y. ended (last_line sheet_word n g.offset) y t') index
    ∙ ap (λ y. ended (last_line sheet_word n g.offset) g.after.index y) table
    ∙ sym (refused_day n s d g h)
    ∙ ap (λ m. day_by m s d g) number
    in
    ran_as whole (record { count_is = appended_count p; output_is = appended_front p; index_is = refl; table_is = refl })

-- the opening is accepted, and the calls follow
pub day_played : {n count : ℕ} {x' t₁ t' out out' : List ℕ} (s d x t : List ℕ) → n ≡ (open_on bare s (keeping x t)).number → x' ≡ (open_on bare s (keeping x t)).after.index
    → t₁ ≡ (open_on bare s (keeping x t)).after.table → n ≡ 0 → PlayedOn (play_from (suc (length d)) s x' d 0 t₁) out count t' out'
    → Ran (day_on s d x t) out count x' t' out'
unfolding day_on
day_played {n} {count} {x'} {t₁} {t'} {out} {out'} s d x t number index table h p =
    let g : Given = open_on bare s (keeping x t) in
    let whole : ended (play_from (suc (length d)) s x' d 0 t₁).text x' (play_from (suc (length d)) s x' d 0 t₁).table ≡ day_by g.number s d g =
    ap (λ y. ended (play_from (suc (length d)) s y d 0 t₁).text y (play_from (suc (length d)) s y d 0 t₁).table) index
    ∙ ap (λ y. ended (play_from (suc (length d)) s g.after.index d 0 y).text g.after.index (play_from (suc (length d)) s g.after.index d 0 y).table) table
    ∙ ap (λ m. day_by m s d g) (sym h ∙ number)
    in
    ran_as whole (record { count_is = appended_count p.lines; output_is = appended_front p.lines; index_is = refl; table_is = p.table_is })

-- the front of a list, or all of it where it is shorter
drop_past : (l : List ℕ) (n : ℕ) → length l ≤ n → drop n l ≡ []
drop_past [] n h = lib.Seq.drop-nil n
drop_past (a ∷ l) zero h = absurd (omega arith)
drop_past (a ∷ l) (suc n) h = drop_past l n (omega arith)

module _ (l : List ℕ) (m n : ℕ) (e : m ≡ min n (length l)) where
  pub front_length : m ≡ length (take m l)
  front_length = sym (length-take-le m l (omega arith))

  -- what is the same for every number from the length on is the same for both
  front : (f : ℕ → List ℕ) → ((k : ℕ) → length l ≤ k → f k ≡ f (length l)) → f m ≡ f n
  front f past = go (leb n (length l)) refl
    where
      go : (b : Bool) → leb n (length l) ≡ b → f m ≡ f n
      go true t = let le : n ≤ length l = leb-true n (length l) t in let same : m ≡ n = omega (arith, e) in ap f same
      go false t =
          let more : length l < n = leb-false n (length l) t in
          past m (omega (arith, e)) ∙ sym (past n (omega arith))

  front_take : take m l ≡ take n l
  front_take = front (λ k. take k l) (λ k h. take_all k l h ∙ sym (take_all (length l) l (omega arith)))

  front_drop : drop m l ≡ drop n l
  front_drop = front (λ k. drop k l) (λ k h. drop_past l k h ∙ sym (drop_past l (length l) (omega arith)))

-- the sheet is over the limit
pub ran_long : {long : Bool} {count : ℕ} {out out' : List ℕ} (s d x t : List ℕ) → long ≡ too_long s → long ≡ true → Appended (sheet_line long_number 0) out 0 count out'
    → Ran (run_day s d x t) out count x t out'
unfolding run_day
ran_long s d x t e h p = rw (sym e ∙ h) (record { count_is = appended_count p; output_is = appended_front p; index_is = refl; table_is = refl })

-- or it is read
pub ran_read : {long : Bool} {count : ℕ} {out x' t' out' : List ℕ} (s d x t : List ℕ) → long ≡ too_long s → long ≡ false → Ran (read_day s d x t) out count x' t' out'
    → Ran (run_day s d x t) out count x' t' out'
unfolding run_day
ran_read s d x t e h r = rw (sym e ∙ h) r

pub ran_whole : {k m n count : ℕ} {x₁ t₁ out out' : List ℕ} (s d x t : List ℕ) → k ≡ count_said s → m ≡ min (index_width * k) (length x) → n ≡ min (width * k) (length t)
    → Ran (day_on s d (take m x) (take n t)) out count x₁ t₁ out' → Ran (read_day s d x t) out count (x₁ ++ drop m x) (t₁ ++ drop n t) out'
unfolding read_day
ran_whole {k} {m} {n} {count} {x₁} {t₁} {out} {out'} s d x t items left right r =
    let a : m ≡ min (index_size s) (length x) = left ∙ ap (λ i. min (index_width * i) (length x)) items in
    let b : n ≡ min (table_size s) (length t) = right ∙ ap (λ i. min (width * i) (length t)) items in
    let inner : day_on s d (take m x) (take n t) ≡ day_on s d (take (index_size s) x) (take (table_size s) t) =
    ap (λ y. day_on s d y (take n t)) (front_take x m (index_size s) a) ∙ ap (λ y. day_on s d (take (index_size s) x) y) (front_take t n (table_size s) b)
    in
    let q = ran_as inner r in
    record {
      count_is = q.count_is;
      output_is = q.output_is;
      index_is = ap (λ y. y ++ drop m x) q.index_is ∙ ap (λ y. (day_on s d (take (index_size s) x) (take (table_size s) t)).index ++ y) (front_drop x m (index_size s) a);
      table_is = ap (λ y. y ++ drop n t) q.table_is ∙ ap (λ y. (day_on s d (take (index_size s) x) (take (table_size s) t)).table ++ y) (front_drop t n (table_size s) b);
    }
