use Rattle.std.proofs.Common.{List, ℕ, sym, subst, ◌∙◌}
use Rattle.std.proofs.lemmas.Bool.{true≢false}
use Rattle.std.proofs.lemmas.Bool.Decides.{Decides-eqb}
use Rattle.std.proofs.lemmas.Slice.Eq.{slice_eq-Decides}
use Rattle.stk_line_reading.specs.Lines.{IsFirst}
use Rattle.stk_audit_main.proofs.Splitting.{one_passed, ended, none_ends}
use Rattle.stk_audit_main.proofs.inputs.split_input.Goals as goal

pub returns-then-eq : goal.returns-then-eq
returns-then-eq c =
    let decided = slice_eq-Decides Decides-eqb _ _ _ c.eq.ensures in
    let first = subst (λ (x : List ℕ). IsFirst c.loop-line.rest.now x c.in-Some.behind.now) (decided.0 c.if-eq.true ∙ c.as_slice.ensures) c.in-Some.ensures in
    ended c.args.text.now c.loop-line.rest.now c.in-Some.behind.now c.split_at.result.0.now c.split_at.result.1.now c.loop-line.invariant first c.split_at.ensures.front c.split_at.ensures.back

pub loop-line-preserved : goal.loop-line-preserved
loop-line-preserved c =
    let decided = slice_eq-Decides Decides-eqb _ _ _ c.eq.ensures in
    one_passed c.args.text.now c.loop-line.rest.now c.in-Some.line.now c.in-Some.behind.now c.loop-line.invariant c.in-Some.ensures (λ e. true≢false (sym (decided.1 (e ∙ sym c.as_slice.ensures)) ∙ c.if-eq.false))

pub returns : goal.returns
returns c = none_ends c.args.text.now c.loop-line.rest.now c.split_at-2.result.0.now c.split_at-2.result.1.now c.loop-line.invariant c.in_default.ensures c.split_at-2.ensures.front c.split_at-2.ensures.back
