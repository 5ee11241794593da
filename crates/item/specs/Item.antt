-- The item of a field at an offset, as the machine sees it, and what reading it from its bytes needs. Assumes nothing.
use Rattle.std.specs.Prelude.{ℕ, ◌+◌, ◌≤◌, ◌≡◌, Bool, true, false, List, length, get_or}
use Rattle.std.proofs.Math.Option.{Option, none, some}
use Rattle.circuit.specs.Rules.{max_parents, count_allowed}
use Rattle.field.specs.Field.{len_at, header_length}
use Rattle.circuit.specs.Rules as rules
use Rattle.circuit.specs.Sheet as circuit
use Rattle.circuit.specs.Value as machine
use Rattle.layout.specs.Layout.{figure_tag, rule_allowed, machine_item, rule_at, keep_at, spread_at, parent_count_at, parent_at}
use Rattle.layout.specs.Content.{content_at, item_in}
use Rattle.value.specs.Meaning.{meaning}
use Rattle.value.specs.declared.Value.{Value}
use Rattle.rules.specs.Operations.{operation_meaning}
use Rattle.rules.specs.declared.Operation.{Operation}
use Rattle.item.specs.declared.Kind.{Kind}
use Rattle.item.specs.declared.Kind.TheVariants.{Entry, Figure}
use Rattle.item.specs.declared.Spread.{Spread}
use Rattle.item.specs.declared.Spread.TheVariants.{Defer, Renew}

-- the content of the field at an offset: as many bytes as the two after its tag say
abbrev pub field_content : List ℕ → ℕ → List ℕ
field_content s at = content_at s (at + header_length) (len_at s at)

-- the machine's item of the field at an offset
unfoldable pub field_item : List ℕ → ℕ → circuit.Item
field_item s at = machine_item (item_in (get_or s at 0) (field_content s at))

-- Where the bytes of a figure's field stand: rule, keep, spread, parent count, then two bytes a parent.
abbrev pub rule_byte : List ℕ → ℕ → ℕ
rule_byte s at = get_or s (at + (header_length + rule_at)) 0

abbrev pub keep_byte : List ℕ → ℕ → ℕ
keep_byte s at = get_or s (at + (header_length + keep_at)) 0

abbrev pub spread_byte : List ℕ → ℕ → ℕ
spread_byte s at = get_or s (at + (header_length + spread_at)) 0

abbrev pub count_byte : List ℕ → ℕ → ℕ
count_byte s at = get_or s (at + (header_length + parent_count_at)) 0

-- a figure's field has its parents within its content, and a rule that allows as many
pub record FigureField (s : List ℕ) (at : ℕ) : Type 0 where
  pub within : parent_at (count_byte s at) ≤ len_at s at
  pub rule_fits : rule_allowed (rule_byte s at) (count_byte s at) ≡ true

-- the field of an item is there whole; a figure's is in form
pub record ItemField (s : List ℕ) (at : ℕ) : Type 0 where
  pub whole : at + header_length + len_at s at ≤ length s
  pub figure : get_or s at 0 ≡ figure_tag → FigureField s at

-- whether it is the figures' kind
abbrev pub kind_meaning : Kind → Bool
kind_meaning Entry = false
kind_meaning Figure = true

-- the spread of the definitions
abbrev pub spread_meaning : Spread → circuit.Spread
spread_meaning Defer = circuit.defer
spread_meaning Renew = circuit.renew

-- an item's operation; an entry has none
abbrev pub item_operation : circuit.Item → Option rules.Operation
item_operation circuit.entry = none
item_operation (circuit.figure op keep spread ps) = some op

-- an operation that is read: the item's, and it takes as many parents as the item has
pub record OperationRead (it : circuit.Item) (op : Operation) : Type 0 where
  pub operation_is : some (operation_meaning op) ≡ item_operation it
  pub takes : count_allowed (operation_meaning op) (length (circuit.parents_of it)) ≡ true

-- a figure's value by its parents' values, whatever stands in its own cell; it is well formed
pub record Evaluated (it : circuit.Item) (vs : List machine.Value) (r : Value) : Type 0 where
  pub value_is : (own : machine.Value) → meaning r ≡ circuit.evaluate it own vs
  pub formed : machine.well_formed (meaning r) ≡ true

-- a parent count that is read
pub record CountRead (it : circuit.Item) (n : ℕ) : Type 0 where
  pub count_is : n ≡ length (circuit.parents_of it)
  pub at_most : n ≤ max_parents
