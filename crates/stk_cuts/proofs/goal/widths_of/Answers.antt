use Rattle.std.proofs.Common.{◌≡◌, ◌++◌, ◌∷◌, [], ◌≤◌, sym, subst, ◌∙◌, arith}
use Rattle.std.proofs.lemmas.List.{map_more}
use Rattle.stk_terms.specs.declared.term.TermId.{TermId}
use Rattle.stk_terms.specs.Fitting.{AreWidths}
use Rattle.stk_terms.specs.Values.{width_at}
use Rattle.stk_cuts.proofs.Copied.{widths_more}
use Rattle.stk_cuts.proofs.goal.widths_of.Goals as goal

pub loop-k-preserved : goal.loop-k-preserved
loop-k-preserved c =
    let items : c.push.new.self.items ≡ c.loop-k.widths.items ++ c.width-in-loop-k.result ∷ [] = c.in_ok-push.ensures.items in
    let d : TermId = record { 0 = 0 } in
    let more = map_more (λ (i : TermId). width_at c.args.terms.now i.0) c.args.ids.now c.loop-k.k d c.loop-k-test.true in
    let top : c.width-in-loop-k.result ≤ 64 = (let a = c.width.ensures.is in let b = c.width-in-loop-k.ensures.is in omega (arith, a, b, c.if-width-gt64.false)) in
    record {
      are = items ∙ ((λ j. c.loop-k.invariant.are j ++ c.width-in-loop-k.ensures.is j ∷ []) ∙ sym more);
      fit = subst AreWidths (sym items) (widths_more c.loop-k.widths.items c.width-in-loop-k.result c.loop-k.invariant.fit c.width-in-loop-k.ensures.least top);
    }
