use Rattle.std.proofs.Common.{◌++◌, ap, ◌∙◌, append_assoc, codes}
use Rattle.stk_smtlib.specs.Written.{input_name}
use Rattle.stk_smtlib.proofs.commands.add_declared_name.Goals as goal

pub returns : goal.returns
returns c = c.in_ok-add_input.ensures ∙ ap (λ t. t ++ input_name c.args.key) c.in_ok-add.ensures ∙ append_assoc c.args.text.now.items (codes "(declare-fun ") (input_name c.args.key)
