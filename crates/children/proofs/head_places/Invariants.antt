-- `head_places` meets its contract. The loop's invariant: the edges of the first k places head their lists. Assumes nothing.
use Rattle.std.proofs.Common.{◌≡◌, ◌*◌}
use Rattle.circuit.specs.Rules.{max_parents}
use Rattle.circuit.specs.Sheet.{parents_of}
use Rattle.children.specs.Children.{lists, head_places, heads_of, links_of, lists_of}
use Rattle.children.proofs.head_places.Given as goal

abbrev pub invariant-loop-k : goal.invariant-loop-k
invariant-loop-k l = lists_of l.kin ≡ lists (head_places (heads_of l.initial.kin) (max_parents * l.c) (parents_of l.item) l.k) (links_of l.initial.kin)
