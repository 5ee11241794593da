-- Text stored from a place on, as far as it fits: in one copy, text after text, and from the front. Assumes nothing.
use Prim.Native.Nat.{ℕ, suc, ◌+◌, ◌-◌, ◌≤◌, ◌<◌, min}
use mathlib.Core.Path.{◌≡◌, refl, sym, ap, ◌∙◌}
use mathlib.Core.Bool.{Bool, true, false, cond}
use mathlib.Core.List.{List, [], ◌∷◌, ◌++◌}
use mathlib.Core.Option.{Option, none, some}
use native.Mathlib.Nat.{add-zero}
use native.Mathlib.Omega.{arith}
use borrow.Author.Tests.{leb-true, leb-false}
use lib.Dec.{leb, eqb}
use lib.IntN.{ℤ}
use lib.ListN.{length, take, drop, set, length-set, length-append, take-append-drop}
use lib.Seq.{sets, length-sets, set_out, take_all, length-take-le}
use borrow.Rule.Slice.PartMut.{put_mid}
use Rattle.circuit.specs.Value.{Value}
use Rattle.printer.specs.Printing.{text_of, part_of, least_scratch, scratch_short}
use Rattle.value.specs.Meaning.{parts_of}
use Rattle.word.proofs.Bytes.{part_sets}
use Rattle.circuit.specs.Calls.{test, first_cause, is_none}
use Rattle.day_meaning.specs.Lines.{written, written_count, Appended}

-- beyond the end nothing is stored
pub sets_out : (vs l : List ℕ) (i : ℕ) → length l ≤ i → sets l i vs ≡ l
sets_out [] l i h = refl
sets_out (v ∷ vs) l i h =
    sets_out vs (set l i v) (suc i) (omega (arith, length-set l i v)) ∙ set_out l i v h

pub sets_append : (xs ys l : List ℕ) (i : ℕ) → sets l i (xs ++ ys) ≡ sets (sets l i xs) (i + length xs) ys
sets_append [] ys l i = ap (λ k. sets l k ys) (sym (add-zero i))
sets_append (x ∷ xs) ys l i =
    let e : suc i + length xs ≡ i + suc (length xs) = omega arith in
    sets_append xs ys (set l i x) (suc i) ∙ ap (λ k. sets (sets (set l i x) (suc i) xs) k ys) e

-- what has room is all that is stored
pub copied : (vs l : List ℕ) (i n : ℕ) → n ≡ min (length vs) (length l - i) → sets l i (take n vs) ≡ sets l i vs
copied vs l i n e = go (leb (length vs) n) refl
  where
    go : (b : Bool) → leb (length vs) n ≡ b → sets l i (take n vs) ≡ sets l i vs
    go true t = ap (λ x. sets l i x) (take_all n vs (leb-true (length vs) n t))
    go false t =
        let less : n < length vs = leb-false (length vs) n t in
        let m : length (take n vs) ≡ n = length-take-le n vs (omega arith) in
        let full : length (sets l i (take n vs)) ≤ i + length (take n vs) = omega (arith, length-sets l i (take n vs)) in
        sym (sets_out (drop n vs) (sets l i (take n vs)) (i + length (take n vs)) full)
        ∙ sym (sets_append (take n vs) (drop n vs) l i)
        ∙ ap (λ x. sets l i x) (take-append-drop n vs)

-- a part written over: the first n bytes of a text, as many as have room
pub appended_part : (text out ys : List ℕ) (at k n : ℕ) → at ≤ length out → k ≡ n → n ≡ min (length text) (length out - at) → ys ≡ take n text → Appended text out at (at + n) (put_mid at k out ys)
appended_part text out ys at k n h same e y =
    let m : length ys ≡ n = ap length y ∙ length-take-le n text (omega arith) in
    record {
      place = omega arith;
      bytes = part_sets at k out ys (omega arith) (omega arith) ∙ ap (λ t. sets out at t) y ∙ copied text out at n e;
    }

-- text after text
pub appended_more : {xs ys before mid after : List ℕ} {at next last : ℕ} → Appended xs before at next mid → Appended ys mid next last after
    → Appended (xs ++ ys) before at last after
appended_more {xs} {ys} {before} {mid} {after} {at} {next} {last} p q =
    let same : length mid ≡ length before = ap length p.bytes ∙ length-sets before at xs in
    record {
      place = rw length-append (omega (arith, p.place, q.place));
      bytes = q.bytes ∙ go (leb (at + length xs) (length before)) refl;
    }
  where
    joined : sets (sets before at xs) (at + length xs) ys ≡ sets before at (xs ++ ys)
    joined = sym (sets_append xs ys before at)

    go : (b : Bool) → leb (at + length xs) (length before) ≡ b → sets mid next ys ≡ sets before at (xs ++ ys)
    go true t =
        let fits : at + length xs ≤ length before = leb-true (at + length xs) (length before) t in
        let there : next ≡ at + length xs = omega (arith, p.place) in
        rw (p.bytes, there) joined
    go false t =
        let over : length before < at + length xs = leb-false (at + length xs) (length before) t in
        let same : length mid ≡ length before = ap length p.bytes ∙ length-sets before at xs in
        let full : length mid ≤ next = omega (arith, p.place) in
        let none : length (sets before at xs) ≤ at + length xs = omega (arith, length-sets before at xs) in
        sets_out ys mid next full ∙ p.bytes ∙ sym (sets_out ys (sets before at xs) (at + length xs) none) ∙ joined

pub appended_within : {xs before after : List ℕ} {at next : ℕ} → Appended xs before at next after → next ≤ length after
appended_within {xs} {before} {after} {at} {next} p = omega (arith, p.place, ap length p.bytes, length-sets before at xs)

pub appended_length : {xs before after : List ℕ} {at next : ℕ} → Appended xs before at next after → length after ≡ length before
appended_length {xs} {before} {after} {at} {next} p = ap length p.bytes ∙ length-sets before at xs

-- from the front
sets_tail : (vs l : List ℕ) (a i : ℕ) → sets (a ∷ l) (suc i) vs ≡ a ∷ sets l i vs
sets_tail [] l a i = refl
sets_tail (v ∷ vs) l a i = sets_tail vs (set l i v) a (suc i)

sets_front : (vs l : List ℕ) → sets l 0 vs ≡ written l vs
sets_front [] [] = refl
sets_front (v ∷ vs) [] = sets_out (v ∷ vs) [] 0 (omega arith)
sets_front [] (a ∷ l) = refl
sets_front (v ∷ vs) (a ∷ l) = sets_tail vs l v 0 ∙ ap (λ r. v ∷ r) (sets_front vs l)

pub appended_front : {text out after : List ℕ} {next : ℕ} → Appended text out 0 next after → after ≡ written out text
appended_front {text} {out} p = p.bytes ∙ sets_front text out

pub appended_count : {text out after : List ℕ} {next : ℕ} → Appended text out 0 next after → next ≡ written_count out text
appended_count p = omega (arith, p.place)

-- what is appended, by another name
pub appended_as : {xs ys before after : List ℕ} {at next : ℕ} → xs ≡ ys → Appended xs before at next after → Appended ys before at next after
appended_as e p = rw e at p

-- in the least scratch the printer prints the whole text of a value
part_text : (v : Option Value) → cond (eqb (first_cause (test 10 (is_none v) ∷ test 15 (scratch_short least_scratch) ∷ [])) 0) (text_of v) [] ≡ text_of v
unfolding first_cause
part_text none = refl
part_text (some v) = refl

pub part_whole : (kind count : ℕ) (z y : ℤ) → count ≡ least_scratch → z ≡ y → part_of kind z count ≡ text_of (parts_of kind y)
part_whole kind count z y e f = ap (λ n. part_of kind z n) e ∙ part_text (parts_of kind z) ∙ ap (λ x. text_of (parts_of kind x)) f
