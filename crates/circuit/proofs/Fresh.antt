-- The fresh office's cause 13, in words of its own, is the calls' one, and what it takes for posted is what they post
-- (`postable_value`): so a post sets its entry to the calls' posted value (`hear_post`). So what it is fed of a list of calls sets the
-- entries that the list posted to (`fresh_entered`). Assumes nothing.
use Prim.Native.Nat.{ℕ, zero, suc}
use native.Mathlib.Omega.{arith}
use mathlib.Core.Path.{◌≡◌, refl, sym, ap, ◌∙◌}
use mathlib.Core.Bool.{Bool, true, false, cond, not, ◌&&◌, ◌||◌}
use mathlib.Core.List.{List, [], ◌∷◌, ◌++◌, map}
use mathlib.Core.Option.{Option, none, some}
use lib.Dec.{eqb}
use lib.IntN.{ℤ, pos, negsuc, nat_abs}
use borrow.Author.Tests.{eqb-true, ne_eqb}
use Rattle.circuit.specs.Value.{Value, null, out, num, in_range, same_number, parts_of}
use Rattle.circuit.specs.Sheet.{Sheet, Entries, item_at, is_figure, beyond}
use Rattle.circuit.specs.Table.{Table}
use Rattle.circuit.specs.Call.{Call, post, keep, drop, step, ask, board, close, swap, Posting}
use Rattle.circuit.specs.Calls.{posted_value, is_none, tests, first_cause, effect, effect_unless, perform, posting_of, if_accepted, postings_made, postings}
use Rattle.circuit.specs.Fresh.{Event, called, posted, fed, set_entry, postable, posted_as, has_cause, hear, hear_all}
use Rattle.circuit.specs.Events.{events, fresh_run}

zero_number : (z : ℤ) → same_number z (pos 0) ≡ eqb (nat_abs z) 0
zero_number (pos n) = refl
zero_number (negsuc n) = sym (ne_eqb (suc n) 0 (λ e. omega arith))

-- what the calls take for posted, by the fresh office's words
pub postable_value : (kind : ℕ) (z : ℤ) → posted_value kind z ≡ cond (postable kind z) (some (posted_as kind z)) none
unfolding posted_value parts_of postable in_range
postable_value kind z =
    rw (zero_number z) (go (eqb kind 1) (eqb kind 2) (eqb kind 3) (eqb (nat_abs z) 0) (in_range z) refl refl refl)
  where
    go : (one two three nil within : Bool) → eqb kind 1 ≡ one → eqb kind 2 ≡ two → eqb kind 3 ≡ three
        → cond two none (cond one (cond nil (some null) none) (cond two (cond nil (some out) none) (cond three (cond within (some (num z)) none) none)))
        ≡ cond ((one && nil) || (three && within)) (some (cond one null (num z))) none
    go true true three nil within e f h = absurd (omega (arith, eqb-true kind 1 e, eqb-true kind 2 f))
    go false true true nil within e f h = absurd (omega (arith, eqb-true kind 2 f, eqb-true kind 3 h))
    go false true false nil within e f h = refl
    go true false true nil within e f h = absurd (omega (arith, eqb-true kind 1 e, eqb-true kind 3 h))
    go true false false true within e f h = refl
    go true false false false within e f h = refl
    go false false true nil within e f h = refl
    go false false false nil within e f h = refl

-- a posted value sets the entry
abbrev pub set_if : Entries → ℕ → Option Value → Entries
set_if E i none = E
set_if E i (some v) = set_entry E i v

set_value : (E : Entries) (i : ℕ) (b : Bool) (v : Value) → cond (not b) E (set_entry E i v) ≡ set_if E i (cond b (some v) none)
set_value E i true v = refl
set_value E i false v = refl

-- what the fresh office hears in a post
pub hear_post : (S : Sheet) (E : Entries) (i kind : ℕ) (z : ℤ)
    → hear S E (called (post i kind z)) ≡ cond (beyond S i || is_figure (item_at S i)) E (set_if E i (posted_value kind z))
unfolding hear has_cause
hear_post S E i kind z = rw (postable_value kind z) (go (beyond S i) (is_figure (item_at S i)))
  where
    go : (b f : Bool)
        → cond (b || (f || not (postable kind z))) E (set_entry E i (posted_as kind z)) ≡ cond (b || f) E (set_if E i (cond (postable kind z) (some (posted_as kind z)) none))
    go true f = refl
    go false true = refl
    go false false = set_value E i (postable kind z) (posted_as kind z)

-- the entries after postings
unfoldable pub entered : Entries → List Posting → Entries
entered E [] = E
entered E (p ∷ ps) = entered (set_entry E p.entry p.value) ps

entered_append : (ps qs : List Posting) (E : Entries) → entered E (ps ++ qs) ≡ entered (entered E ps) qs
unfolding entered
entered_append [] qs E = refl
entered_append (p ∷ ps) qs E = entered_append ps qs (set_entry E p.entry p.value)

pub hear_append : (S : Sheet) (es fs : List Event) (E : Entries) → hear_all S E (es ++ fs) ≡ hear_all S (hear_all S E es) fs
unfolding hear_all
hear_append S [] fs E = refl
hear_append S (e ∷ es) fs E = hear_append S es fs (hear S E e)

-- it takes postings as they are
hear_postings : (S : Sheet) (ps : List Posting) (E : Entries) → hear_all S E (map posted ps) ≡ entered E ps
unfolding hear_all hear entered
hear_postings S [] E = refl
hear_postings S (p ∷ ps) E = hear_postings S ps (set_entry E p.entry p.value)

none_made : (k : ℕ) → if_accepted k [] ≡ []
none_made zero = refl
none_made (suc k) = refl

-- What it is fed of a call sets the entries that the call posted to, on any table.
pub hear_made : (S : Sheet) (E : Entries) (T : Table) (c : Call) → hear_all S E (fed c (postings_made S T c)) ≡ entered E (postings_made S T c)
unfolding hear_all hear entered postings_made perform tests first_cause effect
hear_made S E T (post i kind z) = hear_post S E i kind z ∙ go (beyond S i) (is_figure (item_at S i)) (posted_value kind z)
  where
    go : (b f : Bool) (o : Option Value)
        → cond (b || f) E (set_if E i o) ≡ entered E (if_accepted (effect_unless (cond b 11 (cond f 12 (cond (is_none o) 13 0))) S T (post i kind z)).number (posting_of i o))
    go true f o = refl
    go false true o = refl
    go false false none = refl
    go false false (some v) = refl
hear_made S E T (keep i) = rw (none_made (perform S T (keep i)).number)
hear_made S E T (drop i) = rw (none_made (perform S T (drop i)).number)
hear_made S E T (step i) = rw (none_made (perform S T (step i)).number)
hear_made S E T (ask i) = rw (none_made (perform S T (ask i)).number)
hear_made S E T (board items results) = rw (none_made (perform S T (board items results)).number)
hear_made S E T close = refl
hear_made S E T (swap giver taker quantity) = hear_postings S (postings_made S T (swap giver taker quantity)) E

-- so the postings decide what it holds
pub fresh_entered : (S : Sheet) (cs : List Call) (E : Entries) (T : Table) → fresh_run S E T cs ≡ entered E (postings S T cs)
unfolding hear_all events postings entered
fresh_entered S [] E T = refl
fresh_entered S (c ∷ cs) E T =
    let made : List Posting = postings_made S T c in
    let U : Table = (perform S T c).table in
    hear_append S (fed c made) (events S U cs) E
    ∙ fresh_entered S cs (hear_all S E (fed c made)) U
    ∙ ap (λ F. entered F (postings S U cs)) (hear_made S E T c)
    ∙ sym (entered_append made (postings S U cs) E)
