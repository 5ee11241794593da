-- The fields of a day log: the call that a field orders, or a fault (16). Assumes nothing.
use Rattle.std.specs.Prelude.{ℕ, Bool, cond, ◌&&◌, List, eqb, ℤ, pos, length, get_or}
use Rattle.std.proofs.Math.Option.{Option, none, some}
use Rattle.circuit.specs.Value.{same_number}
use Rattle.circuit.specs.Call.{Call, post, keep, drop, step, ask}
use Rattle.field.specs.Field.{le16_at}
use Rattle.word.specs.Word.{le64_at}

-- the tags
abbrev pub post_tag : ℕ
post_tag = 16

abbrev pub ask_tag : ℕ
ask_tag = 17

abbrev pub keep_tag : ℕ
keep_tag = 18

abbrev pub drop_tag : ℕ
drop_tag = 19

abbrev pub step_tag : ℕ
step_tag = 20

-- the length of a post's content, and of another call's
abbrev pub post_length : ℕ
post_length = 11

abbrev pub call_length : ℕ
call_length = 2

-- where the parts of a content stand: the item in two bytes, and of a post the kind in one and the number in eight, signed
abbrev pub item_at : ℕ
item_at = 0

abbrev pub kind_at : ℕ
kind_at = 2

abbrev pub number_at : ℕ
number_at = 3

abbrev pub item_in : List ℕ → ℕ
item_in content = le16_at content item_at

abbrev pub kind_in : List ℕ → ℕ
kind_in content = get_or content kind_at 0

abbrev pub number_in : List ℕ → ℤ
number_in content = le64_at content number_at

-- the posted kind is 1 with the number 0, or 3 with any number
abbrev pub kind_allowed : ℕ → ℤ → Bool
kind_allowed kind z = cond (eqb kind 1) (same_number z (pos 0)) (eqb kind 3)

-- a post has its length and an allowed kind
unfoldable pub post_in : List ℕ → Option Call
post_in content =
    cond (eqb (length content) post_length && kind_allowed (kind_in content) (number_in content))
    (some (post (item_in content) (kind_in content) (number_in content)))
    none

-- another call has its length
unfoldable pub call_in : (ℕ → Call) → List ℕ → Option Call
call_in call content = cond (eqb (length content) call_length) (some (call (item_in content))) none

-- the call that a field orders, by its tag and content; none is a fault
unfoldable pub order_of : ℕ → List ℕ → Option Call
order_of tag content =
    cond (eqb tag post_tag) (post_in content)
    (cond (eqb tag ask_tag) (call_in ask content)
    (cond (eqb tag keep_tag) (call_in keep content)
    (cond (eqb tag drop_tag) (call_in drop content)
    (cond (eqb tag step_tag) (call_in step content) none))))
