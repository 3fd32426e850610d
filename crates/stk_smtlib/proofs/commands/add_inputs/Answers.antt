use Rattle.std.proofs.Common.{◌+◌, ◌++◌, ◌∷◌, [], get_or, ap, sym, ◌∙◌, append_assoc}
use Rattle.stk_scripts.specs.Tokens.{declared_tokens}
use Rattle.stk_scripts.specs.Texts.{laid}
use Rattle.stk_smtlib.specs.Written.{input_name}
use Rattle.stk_smtlib.proofs.Lines.{input_lines, input_first}
use Rattle.stk_smtlib.proofs.commands.add_inputs.Goals as goal

pub loop-key-preserved : goal.loop-key-preserved
loop-key-preserved c =
    let ws = c.args.widths.now in
    let k = c.loop-key.key in
    let line = laid (declared_tokens (record { name = input_name k; width = get_or ws k 0 })) ++ 10 ∷ [] in
    ap (λ u. u ++ input_lines (k + 1) ws) c.in_ok-add_declared.ensures
    ∙ append_assoc c.loop-key.text.items line (input_lines (k + 1) ws)
    ∙ ap (λ u. c.loop-key.text.items ++ u) (sym (input_first ws k 0 c.loop-key-test.true))
    ∙ c.loop-key.invariant
