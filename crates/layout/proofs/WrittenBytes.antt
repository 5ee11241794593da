-- What the writer writes of a layout within the limits is bytes. Assumes nothing.
use mathlib.Core.Path.{◌≡◌, refl}
use mathlib.Core.Bool.{Bool, true, false, cond, ◌&&◌}
use mathlib.Core.List.{List, [], ◌∷◌, ◌++◌, map}
use mathlib.Core.Logic.{◌⊎◌, inl, inr}
use Prim.Native.Nat.{ℕ, ◌+◌, ◌/◌, ◌%◌, ◌≤◌, ◌<◌}
use native.Mathlib.Omega.{arith}
use lib.Dec.{eqb, leb, ltb}
use lib.ListN.{length, length-append}
use borrow.Author.Tests.{leb-true, ltb-true}
use Rattle.circuit.specs.Rules.{max_parents}
use Rattle.field.specs.Bytes.{Bytes}
use Rattle.field.specs.Field.{field_bytes}
use Rattle.field.proofs.Bytes.{Bytes-nil, Bytes-cons, Bytes-append}
use Rattle.field.proofs.Cutting.{Bytes-field_bytes}
use Rattle.circuit.specs.Circuit.{Listed}
use Rattle.layout.specs.Layout.{LayoutItem, entry_field, figure_field, Layout, head_tag, entry_tag, figure_tag, last_tag, edition_known, level_limit, keep_allowed}
use Rattle.layout.specs.Layout.{spread_limit, spread_allowed, rule_allowed, name_byte, name_limit, name_allowed, all}
use Rattle.layout.specs.Write.{bytes16, concat, item_bytes, write_sheet, level_after, item_within, items_within, within}
use Rattle.layout.specs.Causes.{RuleTakes, sum_takes, difference_takes, smallest_takes, largest_takes, share_takes, choice_takes, count_takes, at_least_takes}
use Rattle.layout.proofs.Scan.{and_left, and_right, all_listed, most_small, limit_most, allowed_limit}
use Rattle.layout.proofs.Items.{pairs_length, name_length}
use Rattle.layout.proofs.Exactly.{and_four, within_parts}
use Rattle.layout.proofs.IndexLaws.{parents_most}
use Rattle.layout.proofs.Tests.{Tells, holds, fails, tells_or, tells_eq, tells_rule}

Bytes-pair : (n : ℕ) → n < 65_536 → Bytes (bytes16 n)
Bytes-pair n h = Bytes-cons (n % 256) (n / 256 ∷ []) (omega arith) (Bytes-cons (n / 256) [] (omega arith) Bytes-nil)

Bytes-pairs : (ps : List ℕ) → ((p : ℕ) → Listed p ps → p < 65_536) → Bytes (concat (map bytes16 ps))
unfolding concat
Bytes-pairs [] f = Bytes-nil
Bytes-pairs (p ∷ ps) f =
    let h = f p (inl refl) in
    let rest : List ℕ = concat (map bytes16 ps) in
    Bytes-cons (p % 256) (p / 256 ∷ rest) (omega arith) (Bytes-cons (p / 256) rest (omega arith) (Bytes-pairs ps (λ q l. f q (inr l))))

Bytes-all : (xs : List ℕ) → all name_byte xs ≡ true → Bytes xs
unfolding all
Bytes-all [] e = Bytes-nil
Bytes-all (x ∷ xs) e =
    let b = and_right (leb 33 x) (leb x 126) (and_left (name_byte x) (all name_byte xs) e) in
    Bytes-cons x xs (omega (arith, leb-true x 126 b)) (Bytes-all xs (and_right (name_byte x) (all name_byte xs) e))

Bytes-name : (name : List ℕ) → name_allowed name ≡ true → Bytes name
unfolding name_allowed
Bytes-name name e = Bytes-all name (and_right (leb 1 (length name) && leb (length name) name_limit) (all name_byte name) e)

takes_code : (code p : ℕ) → RuleTakes code p → code ≤ 8
takes_code code p (sum_takes e l h) = omega arith
takes_code code p (difference_takes e h) = omega arith
takes_code code p (smallest_takes e l h) = omega arith
takes_code code p (largest_takes e l h) = omega arith
takes_code code p (share_takes e h) = omega arith
takes_code code p (choice_takes e h) = omega arith
takes_code code p (count_takes e l h) = omega arith
takes_code code p (at_least_takes e h) = omega arith

pub rule_most : (code p : ℕ) → rule_allowed code p ≡ true → code ≤ 8
rule_most code p e = go (rule_allowed code p) (tells_rule code p) e
  where
    go : (b : Bool) → Tells (RuleTakes code p) b → b ≡ true → code ≤ 8
    go true (holds t) q = takes_code code p t
    go false (fails n) q = let z : ◌≡◌ {A = ℕ} 0 1 = cc in absurd (omega arith)

spread_most : (edition spread : ℕ) → spread_allowed edition spread ≡ true → spread ≤ 2
unfolding spread_allowed spread_limit
spread_most edition spread e = go (eqb edition 2) e
  where
    go : (b : Bool) → leb spread (cond b 1 2) ≡ true → spread ≤ 2
    go true h = omega (arith, leb-true spread 1 h)
    go false h = leb-true spread 2 h

Bytes-item : (edition : ℕ) (levels : List ℕ) (it : LayoutItem) → item_within edition levels it ≡ true → length levels ≤ 65_536 → Bytes (item_bytes it)
unfolding item_bytes keep_allowed name_limit max_parents
Bytes-item edition levels (entry_field name) e h =
    let n = name_length name e in
    Bytes-field_bytes entry_tag name (omega arith) (omega arith) (Bytes-name name e)
Bytes-item edition levels (figure_field rule keep spread parents name) e h =
    let it : LayoutItem = figure_field rule keep spread parents name in
    let f = and_four (name_allowed name) (rule_allowed rule (length parents) && keep_allowed keep && spread_allowed edition spread)
    (all (λ p. ltb p (length levels)) parents) (leb (level_after levels it) level_limit) e in
    let two = and_left (rule_allowed rule (length parents) && keep_allowed keep) (spread_allowed edition spread) f.1 in
    let r = and_left (rule_allowed rule (length parents)) (keep_allowed keep) two in
    let n = name_length name f.0 in
    let m = parents_most rule (length parents) r in
    let ps : List ℕ = concat (map bytes16 parents) in
    let bp = Bytes-pairs parents (λ p l. omega (arith, ltb-true p (length levels) (all_listed (λ q. ltb q (length levels)) parents f.2 p l))) in
    let rest = Bytes-append ps name bp (Bytes-name name f.0) in
    Bytes-field_bytes figure_tag (rule ∷ keep ∷ spread ∷ length parents ∷ (ps ++ name)) (omega arith)
    (omega (arith, length-append ps name, pairs_length parents))
    (Bytes-cons rule (keep ∷ spread ∷ length parents ∷ (ps ++ name)) (omega (arith, rule_most rule (length parents) r))
    (Bytes-cons keep (spread ∷ length parents ∷ (ps ++ name)) (omega (arith, leb-true keep 1 (and_right (rule_allowed rule (length parents)) (keep_allowed keep) two)))
    (Bytes-cons spread (length parents ∷ (ps ++ name))
    (omega (arith, spread_most edition spread (and_right (rule_allowed rule (length parents) && keep_allowed keep) (spread_allowed edition spread) f.1)))
    (Bytes-cons (length parents) (ps ++ name) (omega arith) rest))))

Bytes-items : (edition : ℕ) (levels : List ℕ) (its : List LayoutItem) → items_within edition levels its ≡ true → length levels + length its ≤ 65_536
    → Bytes (concat (map item_bytes its))
unfolding concat items_within
Bytes-items edition levels [] e h = Bytes-nil
Bytes-items edition levels (it ∷ its) e h =
    Bytes-append (item_bytes it) (concat (map item_bytes its))
    (Bytes-item edition levels it (and_left (item_within edition levels it) _ e) (omega arith))
    (Bytes-items edition (levels ++ (level_after levels it ∷ [])) its (and_right (item_within edition levels it) _ e)
    (omega (arith, length-append levels (level_after levels it ∷ []))))

known_small : (edition : ℕ) → edition_known edition ≡ true → edition < 65_536
unfolding edition_known
known_small edition e = go (tells_or (tells_eq edition 1) (tells_eq edition 2)) e
  where
    go : {b : Bool} → Tells ((edition ≡ 1) ⊎ (edition ≡ 2)) b → b ≡ true → edition < 65_536
    go (holds (inl x)) q = omega arith
    go (holds (inr x)) q = omega arith
    go (fails n) q = let z : ◌≡◌ {A = ℕ} 0 1 = cc in absurd (omega arith)

pub written_bytes : (l : Layout) → within l ≡ true → Bytes (write_sheet l)
unfolding write_sheet
written_bytes l w =
    let parts = within_parts l w in
    let n : ℕ = length l.items in
    let ed = known_small l.edition parts.0 in
    let most : n < 65_536 = omega (arith, allowed_limit l.edition n parts.1, limit_most l.edition, most_small) in
    let content : List ℕ = bytes16 l.edition ++ bytes16 n in
    let bytes : List ℕ = concat (map item_bytes l.items) in
    Bytes-append (field_bytes head_tag content ++ bytes) (field_bytes last_tag [])
    (Bytes-append (field_bytes head_tag content) bytes
    (Bytes-field_bytes head_tag content (omega arith) (omega arith)
    (Bytes-append (bytes16 l.edition) (bytes16 n) (Bytes-pair l.edition (omega arith)) (Bytes-pair n (omega arith))))
    (Bytes-items l.edition [] l.items parts.2 (omega arith)))
    (Bytes-field_bytes last_tag [] (omega arith) (omega arith) Bytes-nil)
