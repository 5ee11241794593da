-- `rules::difference` meets its contract. Assumes nothing.
use Rattle.std.proofs.Common.{rules, ◌≡◌, ◌-ℤ◌}
use Rattle.circuit.specs.Rules as rules
use Rattle.circuit.specs.Value as circuit
use Rattle.value.proofs.Signed.{read}
use Rattle.value.specs.Meaning.{meaning}
use Rattle.rules.proofs.Pairs.{numbers_fit, numbers_less}
use Rattle.rules.proofs.difference.Goals as goal

pub overflow_sub-number_or_zero : goal.overflow_sub-number_or_zero
overflow_sub-number_or_zero c =
    numbers_fit (meaning c.args.a) (meaning c.args.b) _ _ (search rules) (search rules)
    c.number_or_zero.ensures c.number_or_zero-in_default.ensures c.requires.a_formed c.requires.b_formed

pub returns-in_default : goal.returns-in_default
unfolding rules.apply rules.any_out
returns-in_default c =
    let less : read (read c.number_or_zero.result -ℤ read c.number_or_zero-in_default.result) ≡ (circuit.number_of (meaning c.args.a) -ℤ circuit.number_of (meaning c.args.b)) =
    numbers_less (meaning c.args.a) (meaning c.args.b) _ _ (search rules) (search rules) c.number_or_zero.ensures c.number_or_zero-in_default.ensures
    c.requires.a_formed c.requires.b_formed in
    search rules
