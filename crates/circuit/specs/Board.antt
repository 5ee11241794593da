-- The two lists of 02's board: the items in the bytes of the first, and which lengths are refused (17). Assumes nothing.
use Rattle.std.specs.Prelude.{ℕ, ◌*◌, ◌/◌, ◌%◌, Bool, not, ◌&&◌, List, [], ◌∷◌, eqb, leb, length}
use Rattle.field.specs.Field.{le16}

-- how many bytes an item has in the list, and its result
abbrev pub listed_width : ℕ
listed_width = 2

abbrev pub result_width : ℕ
result_width = 9

-- "up to 64 balances"
abbrev pub most_listed : ℕ
most_listed = 64

-- the items of a list, two bytes each, the low byte first, in list order; a last odd byte is no item (17 refuses such a list)
unfoldable pub listed : List ℕ → List ℕ
listed [] = []
listed (low ∷ []) = []
listed (low ∷ high ∷ bs) = le16 low high ∷ listed bs

-- 17: a list of odd length or over 64 items, or a result list of another length; by the two lengths
unfoldable pub lists_off : ℕ → ℕ → Bool
lists_off items results =
    not (eqb (items % listed_width) 0 && leb (items / listed_width) most_listed && eqb results (result_width * (items / listed_width)))

abbrev pub lists_wrong : List ℕ → List ℕ → Bool
lists_wrong items results = lists_off (length items) (length results)
