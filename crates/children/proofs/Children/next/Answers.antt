-- `Children::next` meets its contract. Assumes nothing.
use Rattle.std.proofs.Common.{◌<◌, ◌/◌, ◌%◌, length, get_or, subst, sym, ap, ◌∙◌}
use Rattle.circuit.specs.Rules.{max_parents}
use Rattle.children.specs.Children.{edge_in}
use Rattle.children.proofs.Rows.{nobody, link_there, link_read}
use Rattle.children.proofs.Children.next.Goals as goal

pub bounds-self-inside-number : goal.bounds-self-inside-number
unfolding max_parents
bounds-self-inside-number c =
    let low = subst (λ f. c.args.edge.number < length f.lists.links) (sym c.self.view_is) c.requires.within in
    rw c.from-number.ensures (link_there c.self.inside.kin.now c.args.edge.number low)

pub returns : goal.returns
unfolding max_parents
returns c =
    let kin = c.self.inside.kin.now in
    let e = c.args.edge.number in
    let low = subst (λ f. e < length f.lists.links) (sym c.self.view_is) c.requires.within in
    c.at.ensures
    ∙ ap (λ n. edge_in (get_or (get_or kin (n / max_parents) nobody).siblings (n % max_parents) 0)) c.from-number.ensures
    ∙ ap edge_in (link_read kin e low)
    ∙ ap (λ f. edge_in (get_or f.lists.links e 0)) c.self.view_is
