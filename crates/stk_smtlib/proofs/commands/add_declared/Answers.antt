use Rattle.std.proofs.Common.{◌++◌, ap, sym, ◌∙◌, codes, []}
use Rattle.stk_scripts.specs.Tokens.{sort_tokens}
use Rattle.stk_scripts.specs.Texts.{laid}
use Rattle.stk_smtlib.specs.Written.{input_name}
use Rattle.stk_smtlib.proofs.Laid.{declared_line, four_joined}
use Rattle.stk_smtlib.proofs.commands.add_declared.Goals as goal

pub returns : goal.returns
returns c =
    let o = c.args.text.now.items in
    let n = input_name c.args.key in
    let s = laid (sort_tokens c.args.width []) in
    c.in_ok-add-2.ensures
    ∙ ap (λ u. u ++ codes ")\n") (c.in_ok-add_sort.ensures ∙ ap (λ u. u ++ s) (c.in_ok-add.ensures ∙ ap (λ u. u ++ codes " () ") c.in_ok-add_declared_name.ensures))
    ∙ four_joined o (codes "(declare-fun ") n (codes " () ") s (codes ")\n")
    ∙ ap (λ u. o ++ u) (sym (declared_line n c.args.width))
