use Rattle.std.proofs.Common.{[], ◌∷◌, ◌++◌, map, sym, ap, subst, ◌∙◌, append_assoc, append-nil, arith}
use Rattle.stk_terms.specs.Fitting.{AreWidths}
use Rattle.stk_scripts.specs.Scripts.{widths_in}
use Rattle.stk_script_trees.specs.View.{view_declared}
use Rattle.stk_script_reader.proofs.Steps.{no_more}
use Rattle.stk_script_reader.proofs.Inputs.{Narrow, narrow_fit, widths_push}
use Rattle.stk_script_reader.proofs.declaring.widths.Goals as goal

pub loop-declared-init : goal.loop-declared-init
loop-declared-init c = record {
  are = λ b. ap (λ ws. ws ++ widths_in (map (view_declared b) c.args.list.now)) c.new-widths.ensures.items;
  fit = subst AreWidths (sym c.new-widths.ensures.items) tt;
  narrow = λ b f. narrow_fit [] (map (view_declared b) c.args.list.now) f;
}

pub returns-then-not-is_input_width-clause-bad : goal.returns-then-not-is_input_width-clause-bad
returns-then-not-is_input_width-clause-bad c = λ q b f.
    let n = subst (λ ds. Narrow (map (view_declared b) ds)) c.in-Some.ensures.cases.0 (c.loop-declared.invariant.narrow b f) in
    let t = c.is_input_width.ensures.1 (n.0, n.1) in
    absurd (cc (t, c.if-not-is_input_width.true))

pub loop-declared-preserved : goal.loop-declared-preserved
loop-declared-preserved c =
    let i = c.loop-declared.invariant in
    let e = c.in-Some.ensures.cases.0 in
    let k = c.is_input_width.ensures.0 c.if-not-is_input_width.false in
    let w = c.in-Some.declared.now.width in
    let items = c.loop-declared.widths.items in
    record {
      are = λ b.
          ap (λ ws. ws ++ widths_in (map (view_declared b) c.in-Some.behind.now)) c.in_ok-push.ensures.items
          ∙ append_assoc items (w ∷ []) (widths_in (map (view_declared b) c.in-Some.behind.now))
          ∙ ap (λ ds. items ++ widths_in (map (view_declared b) ds)) (sym e)
          ∙ i.are b;
      fit = subst AreWidths (sym c.in_ok-push.ensures.items) (widths_push items w i.fit k.0 k.1);
      narrow = λ b f. (subst (λ ds. Narrow (map (view_declared b) ds)) e (i.narrow b f)).2;
    }

pub returns-clause-are : goal.returns-clause-are
returns-clause-are c = λ b.
    let items = c.loop-declared.widths.items in
    c.from_vec.ensures
    ∙ sym (append-nil items)
    ∙ ap (λ ds. items ++ widths_in (map (view_declared b) ds)) (sym (no_more c.loop-declared.rest.now (omega (arith, c.in_default.ensures.cases))))
    ∙ c.loop-declared.invariant.are b

pub returns-clause-fit : goal.returns-clause-fit
returns-clause-fit c = subst AreWidths (sym c.from_vec.ensures) c.loop-declared.invariant.fit
