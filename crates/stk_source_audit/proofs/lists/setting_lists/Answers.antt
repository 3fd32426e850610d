use Rattle.std.proofs.Common.{ap, ◌∙◌}
use Rattle.std.specs.Prelude.{nat_le}
use Rattle.stk_tree.specs.View.{view_function}
use Rattle.stk_numbers.specs.declared.conditions.Kinds.{Kinds}
use Rattle.stk_meaning.specs.Keys.{input_bits}
use Rattle.stk_meaning.specs.Lists.{conditions}
use Rattle.stk_function_types.specs.Nodes.{typing_in}
use Rattle.stk_source_audit.proofs.Listed.{kinds_shown}
use Rattle.stk_source_audit.proofs.lists.setting_lists.Goals as goal

pub returns : goal.returns
returns c = record {
  kinds = c.in_ok-kinds.ensures ∙ kinds_shown c.keys.result.now c.args.setting.now.keys c.keys.ensures;
  candidates_are = c.in_ok-candidates.ensures;
  conditions_are = c.in_ok-conditions.ensures ∙ ap (λ (w : Kinds). conditions (typing_in c.args.types.now) w (view_function c.args.f.now)) c.without.ensures;
  all = ap (λ n. nat_le n 16) (c.input_bits.ensures ∙ ap input_bits c.keys-2.ensures);
}
