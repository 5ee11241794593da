-- What stands at an offset of a list of bytes: a whole field, a field that runs past the end, or nothing. The bytes that a field is. Assumes
-- nothing.
use Rattle.std.specs.Prelude.{ℕ, ◌+◌, ◌*◌, ◌/◌, ◌%◌, List, ◌∷◌, cond, length, get_or, ltb, leb, Result, Ok, Err}
use Rattle.field.specs.declared.Field.{Field}
use Rattle.field.specs.declared.NoField.{NoField}
use Rattle.field.specs.declared.NoField.TheVariants.{Short, Absent}
pub use Rattle.field.specs.Bytes.{Bytes}

-- a number of two bytes, the low one first
abbrev pub le16 : ℕ → ℕ → ℕ
le16 low high = low + 256 * high

-- the number in the two bytes at an offset
abbrev pub le16_at : List ℕ → ℕ → ℕ
le16_at s at = le16 (get_or s at 0) (get_or s (at + 1) 0)

-- the bytes before a field's content: its tag, and its length in two bytes
abbrev pub header_length : ℕ
header_length = 3

-- the length that the field at an offset says it has: the two bytes after its tag
abbrev pub len_at : List ℕ → ℕ → ℕ
len_at s at = le16_at s (at + 1)

-- what stands at an offset: no byte; a field whose header or content runs past the end; a whole field, whose content is the len bytes from start
pub data Cut : Type 0 where
  absent short : Cut
  field : (tag start len next : ℕ) → Cut

-- absent: no byte at the offset; short: the header or the content runs past the end; else the field
unfoldable pub cut_at : List ℕ → ℕ → Cut
cut_at s at =
    cond (leb (length s) at) absent
    (cond (ltb (length s) (at + header_length)) short
    (cond (ltb (length s) (at + header_length + len_at s at)) short
    (field (get_or s at 0) (at + header_length) (len_at s at) (at + header_length + len_at s at))))

-- what the code gives for it
abbrev pub cut_meaning : Result Field NoField → Cut
cut_meaning (Ok f) = field f.tag f.start f.len f.next
cut_meaning (Err Short) = short
cut_meaning (Err Absent) = absent

-- the bytes of a field: its tag, its length in two bytes, its content
abbrev pub field_bytes : ℕ → List ℕ → List ℕ
field_bytes tag content = tag ∷ length content % 256 ∷ length content / 256 ∷ content
