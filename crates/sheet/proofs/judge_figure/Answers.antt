-- `sheet::judge_figure` meets its contract: at each `return` the tests that led there say what the field's answer is. Assumes nothing.
use mathlib.Core.Path.{◌≡◌, sym, ap, ◌∙◌}
use mathlib.Core.List.{List}
use borrow.Author.Tests.{lt-ltb, le-ltb}
use Rattle.cause.proofs.Exits.{exit}
use Rattle.cause.specs.Cause.{number_in}
use Rattle.layout.specs.Layout.{figure_tag, level_limit}
use Rattle.layout.specs.Opened.{levels_of}
use Rattle.layout.specs.Read.{Placed}
use Rattle.sheet.specs.Check.{at_fault, judged_item}
use Rattle.sheet.proofs.Judging.{leveled, figure_leveled}
use Rattle.sheet.proofs.judge_figure.Goals as goal
use Rattle.sheet.proofs.judge_figure.Goals.{After-level_over}

-- the tests before the parents find nothing
leveled_is : (c : After-level_over) (ps : List Placed) → c.args.levels.now ≡ levels_of ps
    → leveled c.level_over.result ≡ judged_item c.args.edition ps figure_tag c.args.content.now
leveled_is c ps l =
    ap leveled c.level_over.ensures
    ∙ figure_leveled c.args.edition ps c.args.content.now c.if-content-lt-PARENTS_AT.false c.from-p.result c.from-p.ensures
    c.if-content-before.false
    (sym c.name_allowed.ensures ∙ c.if-not-name_allowed.false)
    (sym c.figure_allowed.ensures ∙ c.if-not-figure_allowed.false)
    c.args.levels.now l

pub returns-in_err-level : goal.returns-in_err-level
returns-in_err-level c =
    λ ps l.
    let p = exit c.from_residual.ensures.1 in
    let none = c.in_err-level.ensures.ok_part in
    rw p
    (ap (λ r. at_fault (number_in r)) (rw none at c.in_err-level.ensures.value)
    ∙ ap leveled (sym none)
    ∙ leveled_is (goal.at.returns-in_err-level c).After-level_over ps l)

pub returns-then-level-gt-LEVEL_LIMIT : goal.returns-then-level-gt-LEVEL_LIMIT
unfolding level_limit
returns-then-level-gt-LEVEL_LIMIT c =
    λ ps l.
    let high = lt-ltb level_limit c.in_ok-level.level c.if-level-gt-LEVEL_LIMIT.true in
    rw high at (ap leveled (sym c.in_ok-level.ensures.ok_part) ∙ leveled_is (goal.at.returns-then-level-gt-LEVEL_LIMIT c).After-level_over ps l)

pub returns : goal.returns
unfolding level_limit
returns c =
    λ ps l.
    let fits = le-ltb level_limit c.in_ok-level.level c.if-level-gt-LEVEL_LIMIT.false in
    rw fits at (ap leveled (sym c.in_ok-level.ensures.ok_part) ∙ leveled_is (goal.at.returns c).After-level_over ps l)
