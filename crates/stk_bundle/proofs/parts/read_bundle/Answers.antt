use Rattle.std.proofs.Common.{◌+◌, List, [], ◌∷◌, map, inl, inr, sym, ◌∙◌, ap, subst}
use Rattle.std.proofs.lemmas.Bool.{true≢false}
use Rattle.std.proofs.lemmas.List.{map-append}
use Rattle.stk_bundle.specs.declared.parts.Part.{Part}
use Rattle.stk_bundle.specs.declared.stage.Stage.TheVariants as stage
use Rattle.stk_bundle.specs.Blocks.{line_count}
use Rattle.stk_bundle.specs.Grammar.{is_ended}
use Rattle.stk_bundle.specs.Bundles.{LineBlock, line_block, AreParts}
use Rattle.stk_bundle.proofs.PartTexts.{no_parts, one_part, shorter, within, passed, ended_is}
use Rattle.stk_bundle.proofs.parts.read_bundle.Goals as goal

pub lines-init : goal.lines-init
lines-init c =
    subst (λ (ps : List Part). AreParts c.args.text.now (map line_block ps) stage.Start c.args.text.now) (sym c.new-parts.ensures.items) (no_parts c.args.text.now)

pub lines-smaller : goal.lines-smaller
lines-smaller c = shorter c.lines.stage c.lines.rest.now (line_block c.in-Ok.next.part) c.in-Ok.next.stage c.in-Ok.next.rest.now c.in-Ok.ensures.ok

pub lines-preserved : goal.lines-preserved
lines-preserved c =
    subst (λ (ps : List LineBlock). AreParts c.args.text.now ps c.in-Ok.next.stage c.in-Ok.next.rest.now)
    (sym (map-append line_block c.lines.parts.items (c.in-Ok.next.part ∷ [])) ∙ ap (λ (ps : List Part). map line_block ps) (sym c.in_ok-push-in-Ok.ensures.items))
    (one_part c.args.text.now (map line_block c.lines.parts.items) c.lines.stage c.lines.rest.now (line_block c.in-Ok.next.part) c.in-Ok.next.stage c.in-Ok.next.rest.now c.lines.invariant c.in-Ok.ensures.ok)

pub overflow_sub-text : goal.overflow_sub-text
overflow_sub-text c = within c.args.text.now (map line_block c.lines.parts.items) c.lines.stage c.lines.rest.now c.lines.invariant

pub returns-in-Err-Line-clause-parts : goal.returns-in-Err-Line-clause-parts
returns-in-Err-Line-clause-parts c = c.lines.invariant

pub returns-in-Err-Line-clause-end : goal.returns-in-Err-Line-clause-end
returns-in-Err-Line-clause-end c = (
  (λ e. true≢false (sym (c.is_ended.ensures ∙ ap is_ended e) ∙ c.lines-test.true)),
  inl (
    c.in-Err-Line.ensures.line c.in-Err-Line.field-0-is,
    c.number_behind.ensures ∙ ap (λ t. line_count t + 1) (passed c.args.text.now (map line_block c.lines.parts.items) c.lines.stage c.lines.rest.now c.split_at.result.0.now c.lines.invariant c.split_at.ensures.front),
  ),
)

pub returns-in-Err-Block-clause-parts : goal.returns-in-Err-Block-clause-parts
returns-in-Err-Block-clause-parts c = c.lines.invariant

pub returns-in-Err-Block-clause-end : goal.returns-in-Err-Block-clause-end
returns-in-Err-Block-clause-end c = (
  (λ e. true≢false (sym (c.is_ended.ensures ∙ ap is_ended e) ∙ c.lines-test.true)),
  inr (c.in-Err-Block.ensures.block c.in-Err-Block.field-0-is, c.number_behind-in-Err-Block.ensures),
)

pub returns-clause-parts : goal.returns-clause-parts
returns-clause-parts c = c.lines.invariant

pub returns-clause-end : goal.returns-clause-end
returns-clause-end c = ended_is c.lines.stage (sym c.is_ended.ensures ∙ c.lines-test.false)
