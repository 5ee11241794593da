-- The items of a list, by an iterator over its pairs of bytes. Assumes nothing.
use Prim.Native.Nat.{ℕ, suc, ◌+◌, ◌<◌, ◌≤◌}
use native.Mathlib.Omega.{arith}
use native.Mathlib.Numerals.{add-one}
use mathlib.Core.Path.{◌≡◌, sym, ap, ◌∙◌}
use mathlib.Core.List.{List, [], ◌∷◌}
use lib.ListN.{length, get_or, drop, length-drop}
use lib.Seq.{drop-cons}
use denote.Ref.{Bor}
use Rattle.std.specs.Prelude.{Some, None}
use Rattle.std.specs.declared.slice.ChunksExact.{ChunksExact}
use Rattle.std.specs.declared.iter.Enumerate.{Enumerate}
use Rattle.std.specs.Iterator.{AlwaysYields}
use Rattle.std.specs.Iterator.Adapters.{enumerate_source, enumerate_count, enumerate_steps}
use Rattle.std.specs.Slice.Iter.{chunks_exact_rest, chunks_exact_size, chunks_exact_steps}
use Rattle.std.proofs.lemmas.Iterator.{YieldsList}
use Rattle.circuit.specs.Board.{listed_width, listed}
use Rattle.circuit.proofs.Board.{listed_pair, listed_none}
use Rattle.field.specs.Field.{le16_at}

-- the item of a pair
abbrev pub paired : Bor (List ℕ) → ℕ
paired x = le16_at x.now 0

-- ---- a search over the pairs

gives : (is : List ℕ) (s : ChunksExact ℕ) → listed (chunks_exact_rest s) ≡ is → chunks_exact_size s ≡ listed_width → AlwaysYields chunks_exact_steps paired s is
gives [] s e w = λ x j h. absurd (cc (sym e ∙ ap listed h.1.0 ∙ listed_pair x.now (chunks_exact_rest j) (h.1.1 ∙ w)))
gives (i ∷ is) s e w = (
  λ j h. absurd (cc (sym e ∙ listed_none (chunks_exact_rest s) (omega (arith, h.1.0, w)))),
  λ x j h.
      let p : i ∷ is ≡ paired x ∷ listed (chunks_exact_rest j) = sym e ∙ ap listed h.1.0 ∙ listed_pair x.now (chunks_exact_rest j) (h.1.1 ∙ w) in
      (cc, gives is j (cc) (h.0 ∙ w)),
)

pub YieldsList-from_pairs : {s : ChunksExact ℕ} (xs : List ℕ) → chunks_exact_rest s ≡ xs → chunks_exact_size s ≡ listed_width
    → YieldsList chunks_exact_steps paired s (listed xs)
YieldsList-from_pairs {s} xs e w = record { runs = gives (listed xs) s (ap listed e) w }

-- ---- a loop over the pairs

-- the loop has taken as many items of the list as it has counted
pub record Passed (s : Enumerate (ChunksExact ℕ)) (items : List ℕ) : Type 0 where
  pub size_is : chunks_exact_size (enumerate_source s) ≡ listed_width
  pub left : listed (chunks_exact_rest (enumerate_source s)) ≡ drop (enumerate_count s) (listed items)

pub passed_start : (s : Enumerate (ChunksExact ℕ)) (chunks : ChunksExact ℕ) (items : List ℕ) → enumerate_source s ≡ chunks → enumerate_count s ≡ 0
    → chunks_exact_rest chunks ≡ items → chunks_exact_size chunks ≡ listed_width → Passed s items
passed_start s chunks items source count rest size = record { size_is = rw source size; left = rw (source, count, rest) }

-- one item more, where it was at s and is at t
pub record Next (s t : Enumerate (ChunksExact ℕ)) (items : List ℕ) (k : ℕ) (pair : Bor (List ℕ)) : Type 0 where
  pub place_is : k ≡ enumerate_count s
  pub more : k < length (listed items)
  pub item_is : le16_at pair.now 0 ≡ get_or (listed items) k 0
  pub count_is : enumerate_count t ≡ k + 1
  pub passed_next : Passed t items

module _ {s t : Enumerate (ChunksExact ℕ)} {items : List ℕ} (passed : Passed s items) where
  pub next_item : (k : ℕ) (pair : Bor (List ℕ)) → enumerate_steps chunks_exact_steps s (Some (k, pair)) t → Next s t items k pair
  next_item k pair h =
      let size : length pair.now ≡ listed_width = h.0.1.1 ∙ passed.size_is in
      let here : drop k (listed items) ≡ le16_at pair.now 0 ∷ listed (chunks_exact_rest (enumerate_source t)) =
      ap (λ j. drop j (listed items)) h.1 ∙ sym passed.left ∙ ap listed h.0.1.0 ∙ listed_pair pair.now (chunks_exact_rest (enumerate_source t)) size in
      let more : k < length (listed items) = omega (arith, ap length here, length-drop k (listed items)) in
      let parts : get_or (listed items) k 0 ∷ drop (suc k) (listed items) ≡ le16_at pair.now 0 ∷ listed (chunks_exact_rest (enumerate_source t)) =
      sym (drop-cons (listed items) k 0 more) ∙ here in
      let rest : drop (suc k) (listed items) ≡ listed (chunks_exact_rest (enumerate_source t)) = cc in
      record {
        place_is = h.1;
        more = more;
        item_is = cc;
        count_is = h.2 ∙ ap (λ j. j + 1) (sym h.1);
        passed_next = record {
          size_is = h.0.0 ∙ passed.size_is;
          left = sym rest ∙ ap (λ j. drop j (listed items)) (sym (add-one k) ∙ ap (λ j. j + 1) h.1 ∙ sym h.2);
        };
      }

  -- no item is left
  pub no_more : enumerate_steps chunks_exact_steps s None t → length (listed items) ≤ enumerate_count s
  no_more h =
      omega (arith, ap length (sym passed.left ∙ listed_none (chunks_exact_rest (enumerate_source s)) (omega (arith, h.0.1.0, passed.size_is))), length-drop (enumerate_count s) (listed items))
