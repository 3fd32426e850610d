use Rattle.std.proofs.Common.{ap, sym, ◌∙◌, Some}
use Rattle.stk_scripts.specs.Shown.{tokens_shown}
use Rattle.stk_script_trees.proofs.terms.literal.Goals as goal

pub returns : goal.returns
returns c =
    let rest = tokens_shown c.args.bytes.now c.in-Some.rest.now in
    sym c.in-Some.ensures ∙ ap (λ e. Some (e, rest)) (sym (c.in_ok-literal.ensures c.args.bytes.now))
