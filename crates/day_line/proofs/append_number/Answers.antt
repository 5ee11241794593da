-- `day_line::append_number` meets its contract: the digits of a number of 64 bits fit. Assumes nothing.
use native.Mathlib.Omega.{arith}
use Rattle.decimal.proofs.Digits.{length_word}
use Rattle.decimal.proofs.Writing.{digits_part, digits_count, digits_within}
use Rattle.day_meaning.proofs.Storing.{appended_as}
use Rattle.day_line.proofs.append_number.Goals as goal

pub put_digits-count-requires : goal.put_digits-count-requires
put_digits-count-requires c = omega (arith, length_word c.args.m c.ranges.m.fits)

pub slice_bounds-digits-end : goal.slice_bounds-digits-end
slice_bounds-digits-end c = digits_within c.put_digits-count.ensures

pub slice_bounds-append-end : goal.slice_bounds-append-end
slice_bounds-append-end c = digits_count c.put_digits-count.ensures

pub returns : goal.returns
returns c = appended_as (digits_part c.put_digits-count.ensures) c.append.ensures
