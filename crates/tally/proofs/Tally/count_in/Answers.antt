-- `tally::Tally::count_in` meets its contract. Assumes nothing.
use Rattle.std.proofs.Common.{rules}
use Rattle.tally.proofs.Taking.{next_fits, counted_next}
use Rattle.tally.proofs.Tally.count_in.Goals as goal

pub overflow_add-result-2 : goal.overflow_add-result-2
overflow_add-result-2 c = next_fits c.args.self c.args.n c.requires.room c.requires.in_range (search rules) c.ranges.n

pub returns : goal.returns
returns c =
    counted_next c.args.self c.args.n c.if-self-eq0.false (search rules) (search rules) (search rules) c.ranges.n
    (next_fits c.args.self c.args.n c.requires.room c.requires.in_range (search rules) c.ranges.n)
    c.min.result c.max.result (search rules) (search rules) c.min.ensures.value c.max.ensures.value
