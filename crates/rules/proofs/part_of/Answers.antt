-- `rules::part_of` meets its contract. Assumes nothing.
use Rattle.std.proofs.Common.{refl}
use lib.Dec.{lit<}
use Rattle.circuit.specs.Rules.{whole}
use Rattle.rules.proofs.Shares.{sizes, result_fits, negative_fits, below_zero, from_zero}
use Rattle.rules.proofs.part_of.Goals as goal

pub scaled-requires-clause-amount : goal.scaled-requires-clause-amount
unfolding whole
scaled-requires-clause-amount c =
    (sizes _ _ c.requires.in_range c.ranges.x c.ranges.parts c.requires.low c.requires.high _ c.unsigned_abs-size.ensures.value).0

pub overflow_cast-result : goal.overflow_cast-result
unfolding whole
overflow_cast-result c =
    result_fits _ _ c.requires.in_range c.ranges.x c.ranges.parts c.requires.low c.requires.high _ c.unsigned_abs-size.ensures.value
    c.scaled.result 9999 (lit< tt) c.scaled.ensures

pub overflow_sub-result : goal.overflow_sub-result
unfolding whole
overflow_sub-result c =
    negative_fits _ _ c.requires.in_range c.ranges.x c.ranges.parts c.requires.low c.requires.high _ c.unsigned_abs-size.ensures.value
    c.scaled.result 9999 (lit< tt) c.scaled.ensures

pub returns-then-x-lt0 : goal.returns-then-x-lt0
unfolding whole
returns-then-x-lt0 c =
    below_zero _ _ c.requires.in_range c.ranges.x c.ranges.parts c.requires.low c.requires.high _ c.unsigned_abs-size.ensures.value
    c.scaled.result 9999 (lit< tt) c.scaled.ensures refl c.if-x-lt0.true

pub scaled-requires-else-x-lt0-clause-amount : goal.scaled-requires-else-x-lt0-clause-amount
unfolding whole
scaled-requires-else-x-lt0-clause-amount c =
    (sizes _ _ c.requires.in_range c.ranges.x c.ranges.parts c.requires.low c.requires.high _ c.unsigned_abs-size.ensures.value).0

pub overflow_cast-result-else-x-lt0 : goal.overflow_cast-result-else-x-lt0
unfolding whole
overflow_cast-result-else-x-lt0 c =
    result_fits _ _ c.requires.in_range c.ranges.x c.ranges.parts c.requires.low c.requires.high _ c.unsigned_abs-size.ensures.value
    c.scaled-else-x-lt0.result 0 (lit< tt) c.scaled-else-x-lt0.ensures

pub returns-else-x-lt0 : goal.returns-else-x-lt0
unfolding whole
returns-else-x-lt0 c =
    from_zero _ _ c.requires.in_range c.ranges.x c.ranges.parts c.requires.low c.requires.high _ c.unsigned_abs-size.ensures.value
    c.scaled-else-x-lt0.result 0 (lit< tt) c.scaled-else-x-lt0.ensures refl c.if-x-lt0.false
