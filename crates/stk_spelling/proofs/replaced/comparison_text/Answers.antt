use Rattle.std.proofs.Common.{sym, ap, ◌∙◌}
use Rattle.std.specs.Option.{option_map}
use Rattle.stk_replacements.specs.Shown.{replaced_shown}
use Rattle.stk_spelling.proofs.Telling.{told}
use Rattle.stk_spelling.proofs.replaced.comparison_text.Goals as goal

pub returns-in_ok-text-in-Some : goal.returns-in_ok-text-in-Some
returns-in_ok-text-in-Some c =
    told c.args.types.now.bytes c.bytes.result.now c.args.op (replaced_shown c.in-Some.found) _ c.in_ok-text-in-Some.text.items (sym (ap (option_map replaced_shown) c.in-Some.is) ∙ c.in_ok-replacement.ensures) c.bytes.ensures c.in_ok-text-in-Some.ensures
