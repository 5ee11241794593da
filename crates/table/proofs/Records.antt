-- Records: which cells are encoded and decoded, and that the two are inverse. Assumes nothing.
use Prim.Native.Nat.{ℕ, zero, suc, ◌<◌}
use mathlib.Core.Path.{◌≡◌, refl, sym, ap, ◌∙◌}
use mathlib.Core.Bool.{Bool, true, false, not, ◌&&◌}
use mathlib.Core.List.{List, [], ◌∷◌}
use native.Mathlib.Omega.{arith}
use lib.Dec.{leb, lit<}
use borrow.Author.Tests.{leb-true, eqb-true}
use lib.IntN.{ℤ, pos, negsuc}
use lib.ListN.{length, take}
use lib.Seq.{get_or-take}
use mir.Syntax.{w64}
use mir.Val.{SFits, to_z, of_z}
use Rattle.field.specs.Bytes.{Bytes}
use Rattle.field.proofs.Bytes.{Bytes-cons}
use Rattle.word.specs.Word.{bytes64}
use Rattle.word.proofs.Bytes.{le_at-drop, le_at-take, signed_again, bytes_again, length_bytes64, bytes-le_bytes}
use Rattle.circuit.proofs.Parts.{kind_small}
use Rattle.circuit.proofs.RuleLaws.{and_left, and_right}
use Rattle.circuit.specs.Value.{Value, null, out, num, limit, in_range, same_number, kind_of, number_of, is_out, well_formed}
use Rattle.circuit.specs.Table.{Mark, unmarked, refresh, notice, Cell, unk, held, notice_if, value_in, entry_form}
use Rattle.table.specs.Record.{width, owed_place, kind_in, mark_in, number_in, record_of, mark_code, mark_coded, cell_coded, encode_cell, decode_cell}
use Rattle.table.specs.Record.{allowed, codes_form, number_form, record_form, may_hold}

-- a number within the range is one of 64 bits
pub range_fits : (z : ℤ) → in_range z ≡ true → SFits w64 z
unfolding in_range limit
range_fits (pos n) t = record { sfits = omega (arith, leb-true n limit t) }
range_fits (negsuc n) t = record { sfits = omega (arith, leb-true (suc n) limit t) }

zero_fits : SFits w64 (pos 0)
zero_fits = record { sfits = lit< tt }

-- the number of a value within the range
pub number_fits : (v : Value) → well_formed v ≡ true → SFits w64 (number_of v)
number_fits null t = zero_fits
number_fits out t = zero_fits
number_fits (num z) t = range_fits z t

is_zero : (z : ℤ) → same_number z (pos 0) ≡ true → z ≡ pos 0
is_zero (pos n) t = ap pos (eqb-true n 0 t)
is_zero (negsuc n) t = let c : ◌≡◌ {A = ℕ} 0 1 = cc in absurd (omega arith)

-- the kinds, and the codes of marks
data Kind : ℕ → Type 0 where
  unknown : Kind 0
  nothing : Kind 1
  outside : Kind 2
  number : Kind 3

kinds : (k : ℕ) → leb k 3 ≡ true → Kind k
kinds zero t = unknown
kinds (suc zero) t = nothing
kinds (suc (suc zero)) t = outside
kinds (suc (suc (suc zero))) t = number
kinds (suc (suc (suc (suc k)))) t = absurd (omega (arith, leb-true (suc (suc (suc (suc k)))) 3 t))

data Code : ℕ → Type 0 where
  none : Code 0
  again : Code 1
  told : Code 2

codes : (m : ℕ) → leb m 2 ≡ true → Code m
codes zero t = none
codes (suc zero) t = again
codes (suc (suc zero)) t = told
codes (suc (suc (suc m))) t = absurd (omega (arith, leb-true (suc (suc (suc m))) 2 t))

-- what the form says of a record's parts
record Parts (figure : Bool) (k m : ℕ) (z : ℤ) : Type 0 where
  pub kind : Kind k
  pub mark : Code m
  pub may : allowed figure k m ≡ true
  pub numeral : number_form k z ≡ true

parts : (figure : Bool) (r : List ℕ) → record_form figure r ≡ true → Parts figure (kind_in r) (mark_in r) (number_in r)
unfolding record_form codes_form
parts figure r t =
    record {
      kind = kinds (kind_in r) (and_left (leb (kind_in r) 3) (leb (mark_in r) 2) both);
      mark = codes (mark_in r) (and_right (leb (kind_in r) 3) (leb (mark_in r) 2) both);
      may = and_right (leb (kind_in r) 3 && leb (mark_in r) 2) (allowed figure (kind_in r) (mark_in r)) coded;
      numeral = and_right (codes_form figure (kind_in r) (mark_in r)) (number_form (kind_in r) (number_in r)) t;
    }
  where
    coded : codes_form figure (kind_in r) (mark_in r) ≡ true
    coded = and_left (codes_form figure (kind_in r) (mark_in r)) (number_form (kind_in r) (number_in r)) t

    both : leb (kind_in r) 3 && leb (mark_in r) 2 ≡ true
    both = and_left (leb (kind_in r) 3 && leb (mark_in r) 2) (allowed figure (kind_in r) (mark_in r)) coded

-- ---- the parts of a record are those of its first bytes

module _ (r : List ℕ) where
  kind_front : kind_in (take owed_place r) ≡ kind_in r
  kind_front = get_or-take owed_place r 0 0 (omega arith)

  mark_front : mark_in (take owed_place r) ≡ mark_in r
  mark_front = get_or-take owed_place r 1 0 (omega arith)

  number_front : number_in (take owed_place r) ≡ number_in r
  number_front = ap (λ (x : ℕ). to_z w64 x) (le_at-take 8 r 2 owed_place (omega arith))

  pub decode_front : decode_cell (take owed_place r) ≡ decode_cell r
  unfolding decode_cell
  decode_front = rw (kind_front, mark_front, number_front)

  pub form_front : (figure : Bool) → record_form figure (take owed_place r) ≡ record_form figure r
  unfolding record_form
  form_front figure = rw (kind_front, mark_front, number_front)

-- the parts of a record, by its first bytes
pub kind_by : (r : List ℕ) {q : List ℕ} → take owed_place r ≡ q → kind_in r ≡ kind_in q
kind_by r e = sym (kind_front r) ∙ ap kind_in e

pub mark_by : (r : List ℕ) {q : List ℕ} → take owed_place r ≡ q → mark_in r ≡ mark_in q
mark_by r e = sym (mark_front r) ∙ ap mark_in e

pub number_by : (r : List ℕ) {q : List ℕ} → take owed_place r ≡ q → number_in r ≡ number_in q
number_by r e = sym (number_front r) ∙ ap number_in e

-- ---- decoding what was encoded

mark_again : (m : Mark) → mark_coded (mark_code m) ≡ m
mark_again unmarked = refl
mark_again refresh = refl
mark_again notice = refl

pub number_again : (k m : ℕ) (z : ℤ) → SFits w64 z → number_in (record_of k m z) ≡ z
number_again k m z fits =
    ap (λ (x : ℕ). to_z w64 x) (le_at-drop 8 (record_of k m z) 2 0) ∙ signed_again z fits

pub decode_encode : (c : Cell) → well_formed (value_in c) ≡ true → decode_cell (encode_cell c) ≡ c
unfolding encode_cell decode_cell
decode_encode (unk true) t = refl
decode_encode (unk false) t = refl
decode_encode (held null m) t = ap (held null) (mark_again m)
decode_encode (held out m) t = ap (held out) (mark_again m)
decode_encode (held (num z) m) t = cc (mark_again m, number_again 3 (mark_code m) z (range_fits z t))

pub length-encode_cell : (c : Cell) → length (encode_cell c) ≡ owed_place
unfolding encode_cell
length-encode_cell (unk b) = ap (λ (n : ℕ). suc (suc n)) (length_bytes64 (pos 0))
length-encode_cell (held v m) = ap (λ (n : ℕ). suc (suc n)) (length_bytes64 (number_of v))

mark_byte : (m : Mark) → mark_code m < 256
mark_byte unmarked = lit< tt
mark_byte refresh = lit< tt
mark_byte notice = lit< tt

bytes_record : (k m : ℕ) (z : ℤ) → k < 256 → m < 256 → Bytes (record_of k m z)
bytes_record k m z hk hm = Bytes-cons k (m ∷ bytes64 z) hk (Bytes-cons m (bytes64 z) hm (bytes-le_bytes 8 (of_z w64 z)))

pub bytes-encode_cell : (c : Cell) → Bytes (encode_cell c)
unfolding encode_cell
bytes-encode_cell (unk b) = bytes_record 0 (mark_code (notice_if b)) (pos 0) (lit< tt) (mark_byte (notice_if b))
bytes-encode_cell (held v m) = bytes_record (kind_of v) (mark_code m) (number_of v) (omega (arith, kind_small v)) (mark_byte m)

-- ---- encoding what was decoded

contradiction : {A : Type 0} → ◌≡◌ {A = Bool} false true → A
contradiction e = let z : ◌≡◌ {A = ℕ} 0 1 = cc in absurd (omega arith)

encoded_parts : (figure : Bool) {k m : ℕ} (z : ℤ) → Kind k → Code m → allowed figure k m ≡ true → number_form k z ≡ true → encode_cell (cell_coded k m z) ≡ record_of k m z
unfolding encode_cell number_form
encoded_parts figure z unknown none may n = rw (is_zero z n)
encoded_parts true z unknown again may n = contradiction may
encoded_parts false z unknown again may n = contradiction may
encoded_parts figure z unknown told may n = rw (is_zero z n)
encoded_parts figure z nothing none may n = rw (is_zero z n)
encoded_parts figure z nothing again may n = rw (is_zero z n)
encoded_parts figure z nothing told may n = rw (is_zero z n)
encoded_parts figure z outside none may n = rw (is_zero z n)
encoded_parts figure z outside again may n = rw (is_zero z n)
encoded_parts figure z outside told may n = rw (is_zero z n)
encoded_parts figure z number none may n = refl
encoded_parts figure z number again may n = refl
encoded_parts figure z number told may n = refl

-- the bytes before the owed byte are their parts
record_again : (r : List ℕ) → Bytes r → length r ≡ width → record_of (kind_in r) (mark_in r) (number_in r) ≡ take owed_place r
record_again [] bytes e = absurd (omega arith)
record_again (a ∷ []) bytes e = absurd (omega arith)
record_again (a ∷ b ∷ r) bytes e = ap (λ (n : List ℕ). a ∷ b ∷ n) (bytes_again (a ∷ b ∷ r) 2 bytes (omega arith))

pub encode_decode : (figure : Bool) (r : List ℕ) → Bytes r → length r ≡ width → record_form figure r ≡ true → encode_cell (decode_cell r) ≡ take owed_place r
unfolding decode_cell
encode_decode figure r bytes e t =
    let p : Parts figure (kind_in r) (mark_in r) (number_in r) = parts figure r t in
    encoded_parts figure (number_in r) p.kind p.mark p.may p.numeral ∙ record_again r bytes e

-- ---- the form, and the cells

held_parts : (figure : Bool) {k m : ℕ} (z : ℤ) → Kind k → Code m → allowed figure k m ≡ true → number_form k z ≡ true → may_hold figure (cell_coded k m z) ≡ true
unfolding number_form
held_parts true z unknown none may n = refl
held_parts true z unknown again may n = refl
held_parts true z unknown told may n = refl
held_parts true z nothing none may n = refl
held_parts true z nothing again may n = refl
held_parts true z nothing told may n = refl
held_parts true z outside none may n = refl
held_parts true z outside again may n = refl
held_parts true z outside told may n = refl
held_parts true z number none may n = n
held_parts true z number again may n = n
held_parts true z number told may n = n
held_parts false z unknown none may n = may
held_parts false z unknown again may n = may
held_parts false z unknown told may n = may
held_parts false z nothing none may n = refl
held_parts false z nothing again may n = may
held_parts false z nothing told may n = refl
held_parts false z outside none may n = may
held_parts false z outside again may n = may
held_parts false z outside told may n = may
held_parts false z number none may n = n
held_parts false z number again may n = may
held_parts false z number told may n = n

-- a record in form is a cell that the item may hold
pub decoded_holds : (figure : Bool) (r : List ℕ) → record_form figure r ≡ true → may_hold figure (decode_cell r) ≡ true
unfolding decode_cell
decoded_holds figure r t =
    let p : Parts figure (kind_in r) (mark_in r) (number_in r) = parts figure r t in
    held_parts figure (number_in r) p.kind p.mark p.may p.numeral

-- and such a cell is a record in form
formed_record : (figure : Bool) (k m : ℕ) (z : ℤ) → SFits w64 z → codes_form figure k m ≡ true → number_form k z ≡ true → record_form figure (record_of k m z) ≡ true
unfolding record_form
formed_record figure k m z fits c n = rw (c, number_again k m z fits) n

figure_codes : (v : Value) (m : Mark) → codes_form true (kind_of v) (mark_code m) ≡ true
unfolding codes_form
figure_codes null unmarked = refl
figure_codes null refresh = refl
figure_codes null notice = refl
figure_codes out unmarked = refl
figure_codes out refresh = refl
figure_codes out notice = refl
figure_codes (num z) unmarked = refl
figure_codes (num z) refresh = refl
figure_codes (num z) notice = refl

entry_codes : (v : Value) (m : Mark) → may_hold false (held v m) ≡ true → codes_form false (kind_of v) (mark_code m) ≡ true
unfolding codes_form
entry_codes null unmarked t = refl
entry_codes null refresh t = t
entry_codes null notice t = refl
entry_codes out unmarked t = t
entry_codes out refresh t = t
entry_codes out notice t = t
entry_codes (num z) unmarked t = refl
entry_codes (num z) refresh t = t
entry_codes (num z) notice t = refl

value_number : (v : Value) → well_formed v ≡ true → number_form (kind_of v) (number_of v) ≡ true
unfolding number_form
value_number null t = refl
value_number out t = refl
value_number (num z) t = t

-- the value of a cell that an item may hold is within the range
pub holds-well_formed : (figure : Bool) (c : Cell) → may_hold figure c ≡ true → well_formed (value_in c) ≡ true
holds-well_formed true c t = t
holds-well_formed false c t = and_right (entry_form c && not (is_out (value_in c))) (well_formed (value_in c)) t

pub encoded_form : (figure : Bool) (c : Cell) → may_hold figure c ≡ true → record_form figure (encode_cell c) ≡ true
unfolding encode_cell codes_form number_form
encoded_form true (unk true) t = formed_record true 0 2 (pos 0) zero_fits refl refl
encoded_form true (unk false) t = formed_record true 0 0 (pos 0) zero_fits refl refl
encoded_form true (held v m) t =
    formed_record true (kind_of v) (mark_code m) (number_of v) (number_fits v t) (figure_codes v m) (value_number v t)
encoded_form false (unk b) t = contradiction t
encoded_form false (held v m) t =
    let w : well_formed v ≡ true = holds-well_formed false (held v m) t in
    formed_record false (kind_of v) (mark_code m) (number_of v) (number_fits v w) (entry_codes v m t) (value_number v w)

-- ---- a cell's words, by the bytes of its record
