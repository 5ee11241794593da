-- What a pass of look-ups remembers: a note for each item, which has a tag and a number. A tag holds the generation of the
-- pass, the kind of the value and the flag, so that a new generation starts with nothing remembered. Assumes nothing.
use Rattle.std.specs.Prelude.{ℕ, ◌+◌, ◌*◌, ◌/◌, ◌%◌, ◌<◌, ◌≤◌, ◌≡◌, Bool, true, false, cond, List, eqb, ℤ, pos, get_or, set, length}
use Rattle.std.specs.Prelude as core
use Rattle.std.proofs.Math.Option.{Option, none, some}
use Rattle.circuit.specs.Value.{Value, kind_of, number_of, of_parts}
use Rattle.circuit.specs.Sheet.{Sheet, size}
use Rattle.circuit.specs.Table.{Table, Cell, unk, held, is_notice}
use Rattle.circuit.specs.Machine.{looked, look_up}
use Rattle.value.specs.Meaning.{meaning}
use Rattle.memo.specs.declared.Seen.{Seen}
use Rattle.memo.specs.declared.Note.{Note}

-- what a look-up gives: a value, and whether it is flagged
pub record Found : Type 0 where
  pub value : Value
  pub flag : Bool

abbrev pub found : Value → Bool → Found
found v f = record { value = v; flag = f }

abbrev pub seen_meaning : Seen → Found
seen_meaning s = found (meaning s.value) s.flag

abbrev pub recall_meaning : core.Option Seen → Option Found
recall_meaning (core.Some s) = some (seen_meaning s)
recall_meaning core.None = none

abbrev pub bit : Bool → ℕ
bit true = 1
bit false = 0

-- kind and flag in one code below 8
abbrev pub code_of : Found → ℕ
code_of f = 2 * kind_of f.value + bit f.flag

abbrev pub tag_of : ℕ → Found → ℕ
tag_of generation f = 8 * generation + code_of f

abbrev pub found_in : ℕ → ℤ → Found
found_in code z = found (of_parts (code / 2) z) (eqb (code % 2) 1)

-- a tag has room for generations below this
abbrev pub most_generations : ℕ
most_generations = 2_147_483_648

-- the notes of a pass, and its generation
pub record Pass : Type 0 where
  pub notes : List Note
  pub generation : ℕ

abbrev pub pass : List Note → ℕ → Pass
pass notes generation = record { notes = notes; generation = generation }

abbrev pub no_note : Note
no_note = record { tag = 0; number = pos 0 }

abbrev pub note_of : ℕ → Found → Note
note_of generation f = record { tag = tag_of generation f; number = number_of f.value }

abbrev pub note_at : Pass → ℕ → Note
note_at m i = get_or m.notes i no_note

abbrev pub found_by : Note → Found
found_by note = found_in (note.tag % 8) note.number

-- what is remembered of item i
unfoldable pub remembered : Pass → ℕ → Option Found
remembered m i = cond (eqb ((note_at m i).tag / 8) m.generation) (some (found_by (note_at m i))) none

-- a pass with one note more
abbrev pub noted : Pass → ℕ → Found → Pass
noted m i f = pass (set m.notes i (note_of m.generation f)) m.generation

-- what is known of an item without working it out, by its cell and by what is remembered
abbrev pub known_of : Cell → Option Found → Option Found
known_of (held v m) r = some (found v (is_notice m))
known_of (unk f) r = r

-- The memo is right for the table T: looking up a remembered item gives what is remembered, and changes nothing.
abbrev pub Remembers : Sheet → Table → Pass → Type 0
Remembers S T m = (j : ℕ) (f : Found) → remembered m j ≡ some f → look_up S T j ≡ looked T f.value f.flag

-- A memo in a generation: there is room for every item, no tag is of a later generation, and what is remembered is right.
pub record Right (S : Sheet) (T : Table) (m : Pass) : Type 0 where
  pub room : size S ≤ length m.notes
  pub young : (j : ℕ) → (note_at m j).tag < 8 * (m.generation + 1)
  pub right : Remembers S T m

-- Nothing is remembered at or above item b.
abbrev pub NoneFrom : ℕ → Pass → Type 0
NoneFrom b m = (j : ℕ) → b ≤ j → (note_at m j).tag < 8 * m.generation
