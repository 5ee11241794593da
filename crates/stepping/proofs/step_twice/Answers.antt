use Rattle.std.proofs.Common.{ap, ◌∙◌, arith}
use Rattle.item.proofs.Located.{size_most}
use Rattle.stepping.proofs.Ascending.{stepped_twice}
use Rattle.owing.specs.Owing.{says_owed}
use Rattle.stepping.proofs.step_twice.Goals as goal

pub begin-requires : goal.begin-requires
begin-requires c = record { generation_fits = omega (arith, size_most c.args.sheet.now, c.requires.telling.low) }

pub begin-requires-2 : goal.begin-requires-2
begin-requires-2 c = record { generation_fits = omega (arith, size_most c.args.sheet.now, c.requires.telling.low) }

pub returns : goal.returns
returns c =
    let q = c.requires in
    stepped_twice (says_owed c.args.owed.now) q.lent c.args.i q.marked c.step_item.ensures _ (ap (λ m. m.generation) c.begin-2.ensures ∙ omega arith) c.step_marked.ensures
