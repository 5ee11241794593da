-- `link_places` meets its contract. The loop's invariant: the edges of the first k places are linked. Assumes nothing.
use Rattle.std.proofs.Common.{◌≡◌, ◌*◌}
use Rattle.circuit.specs.Rules.{max_parents}
use Rattle.circuit.specs.Sheet.{parents_of}
use Rattle.children.specs.Children.{lists, link_places, heads_of, links_of, lists_of}
use Rattle.children.proofs.link_places.Given as goal

abbrev pub invariant-loop-k : goal.invariant-loop-k
invariant-loop-k l =
    lists_of l.kin ≡ lists (heads_of l.initial.kin) (link_places (links_of l.initial.kin) (heads_of l.initial.kin) (max_parents * l.c) (parents_of l.item) l.k)
