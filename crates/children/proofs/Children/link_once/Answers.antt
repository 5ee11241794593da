-- `Children::link_once` meets its contract. Assumes nothing.
use Rattle.std.proofs.Common.{subst, sym, ap, ◌∙◌}
use Rattle.layout.specs.Opened.{sheet_of}
use Rattle.children.specs.Children.{lists_of, family, Kept}
use Rattle.children.proofs.Building.{kept_built}
use Rattle.children.proofs.Children.link_once.Goals as goal

pub returns-then-not-self-clause-kept : goal.returns-then-not-self-clause-kept
returns-then-not-self-clause-kept c =
    let s = c.args.sheet.now in
    let l = lists_of c.self.inside.kin.now in
    let kept = subst (Kept (sheet_of s)) (sym c.self.view_is ∙ ap (family l) c.if-not-self.true) c.requires.kept in
    kept_built s l _ kept c.link.ensures
