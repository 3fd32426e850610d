use Rattle.std.proofs.Common.{ap, sym, ◌∙◌}
use Rattle.std.specs.Prelude.{nat_lt}
use Rattle.stk_lex.specs.Ahead.{unchanged}
use Rattle.stk_lex.specs.Skimming.{group}
use Rattle.stk_lex.proofs.Found.{found_here}
use Rattle.stk_lex.proofs.Groups.{changed_among, group_within}
use Rattle.stk_lex.proofs.dropping.is_changed.Goals as goal

pub returns : goal.returns
returns c =
    let bytes = c.args.bytes.now in
    let tokens = c.args.tokens.now in
    ap (λ n. nat_lt n c.group.result) (found_here (unchanged bytes) tokens c.args.changes.now c.requires.changes)
    ∙ ap (λ n. nat_lt (unchanged bytes tokens) n) c.group.ensures
    ∙ sym (changed_among bytes tokens (group bytes tokens) (group_within bytes tokens))
