use Rattle.std.proofs.Common.{◌≡◌, ◌+◌, ◌-◌, ◌<◌, ◌∙◌, ℕ, length, get_or, slice_range, ap, subst, sym, refl, arith}
use Rattle.std.specs.List.{Contains}
use Rattle.stk_clauses.specs.declared.literal.Lit.{Lit}
use Rattle.stk_solver.specs.Marking.{Marked}
use Rattle.stk_solver.specs.Guides.{Guided}
use Rattle.stk_solver.proofs.Leading.{inside_all, inside_lower, inside_replaced, guided_lower, point_found, none_between, nothing_left, take_grows}
use Rattle.stk_solver.proofs.marks.Marks.to_point.Goals.{then-place-low-via-then-place-low, then-place-low-via-else-place-low+then-is_alone}
use Rattle.stk_solver.proofs.marks.Marks.to_point.Goals as goal

abbrev zero_lit : Lit
zero_lit = record { 0 = 0 }

pub loop-end-init : goal.loop-end-init
loop-end-init c =
    let q = c.requires in
    let t = c.args.trail.now.assigned.literals in
    let n = c.assigned-order.result.now in
    let e : length n ≡ length t = ap length c.assigned-order.ensures.literals in
    record {
      noted = q.noted;
      vars = refl;
      above = omega (arith, q.last.itself.0, e);
      below = omega (arith, e);
      inside = inside_all t (length n) c.args.self.now.marked.items (omega (arith, e)) q.guided.inside;
      guided = subst (λ k. Guided c.args.store.now t k c.args.self.now.marked.items c.args.self.now.hints.items) (sym e) q.guided;
    }

pub loop-end-preserved-in_ok-resolve-in-Some : goal.loop-end-preserved-in_ok-resolve-in-Some
loop-end-preserved-in_ok-resolve-in-Some c =
    let s = c.loop-end.invariant in
    let t = c.args.trail.now.assigned.literals in
    let end = c.loop-end.end in
    let place : ℕ = end - 1 in
    let old = c.loop-end.self.marked.items in
    let e = c.in_ok-resolve-in-Some.ensures in
    let is : place + 1 ≡ end = omega (arith, c.loop-end-test.true) in
    let lt : place < length t = omega (arith, is, s.below) in
    let here : Marked old (get_or t place zero_lit) = subst (λ ys. Marked old (get_or ys place zero_lit)) c.assigned-order.ensures.literals (c.is_marked.ensures.0 c.if-is_marked.true) in
    record {
      noted = e.noted;
      vars = e.vars ∙ s.vars;
      above = omega (arith, c.loop-end-test.true);
      below = omega (arith, lt);
      inside = inside_replaced t old c.resolve.new.self.marked.items place end zero_lit is lt s.inside e.replaced;
      guided = e.guided end zero_lit (omega (arith, is)) here s.guided;
    }

pub loop-end-preserved : goal.loop-end-preserved
loop-end-preserved c =
    let s = c.loop-end.invariant in
    let t = c.args.trail.now.assigned.literals in
    let end = c.loop-end.end in
    let place : ℕ = end - 1 in
    let marked = c.loop-end.self.marked.items in
    let is : place + 1 ≡ end = omega (arith, c.loop-end-test.true) in
    let lt : place < length t = omega (arith, is, s.below) in
    record {
      noted = s.noted;
      vars = s.vars;
      above = omega (arith, c.loop-end-test.true);
      below = omega (arith, lt);
      inside = inside_lower t marked place end zero_lit is lt s.inside
          (λ h. let y = c.is_marked.ensures.1 (subst (λ ys. Marked marked (get_or ys place zero_lit)) (sym c.assigned-order.ensures.literals) h) in cc (y, c.if-is_marked.false));
      guided = guided_lower c.args.store.now t place end marked c.loop-end.self.hints.items (omega (arith, is)) s.guided;
    }

pub returns-then-place-low-clause-guided : goal.returns-then-place-low-clause-guided
returns-then-place-low-clause-guided c =
    guided_lower c.args.store.now c.args.trail.now.assigned.literals (c.loop-end.end - 1) c.loop-end.end c.loop-end.self.marked.items c.loop-end.self.hints.items (omega arith) c.loop-end.invariant.guided

pub returns-then-place-low-clause-point : goal.returns-then-place-low-clause-point
returns-then-place-low-clause-point c =
    let s = c.loop-end.invariant in
    let t = c.args.trail.now.assigned.literals in
    let low = c.args.low in
    let end = c.loop-end.end in
    let place : ℕ = end - 1 in
    let marked = c.loop-end.self.marked.items in
    let is : place + 1 ≡ end = omega (arith, c.loop-end-test.true) in
    let here : Marked marked (get_or t place zero_lit) = subst (λ ys. Marked marked (get_or ys place zero_lit)) c.assigned-order.ensures.literals (c.is_marked.ensures.0 c.if-is_marked.true) in
    let none : (m : Lit) → Contains (slice_range t low place) m → Marked marked m → ⊥ = elim c.then-place-low.branch [
      | then-place-low-via-then-place-low w ↦ none_between t low place marked w.if-place-low.true
      | then-place-low-via-else-place-low+then-is_alone w ↦ subst (λ ys. (m : Lit) → Contains (slice_range ys low place) m → Marked marked m → ⊥) c.assigned-order.ensures.literals (w.is_alone.ensures w.if-is_alone.true)
    ] in
    point_found t low end place zero_lit marked is (omega (arith, c.loop-end-test.true)) s.below here s.inside none

pub unreachable-requires-2 : goal.unreachable-requires-2
unreachable-requires-2 c =
    let s = c.loop-end.invariant in
    let t = c.args.trail.now.assigned.literals in
    let low = c.args.low in
    let end = c.loop-end.end in
    let marked = c.loop-end.self.marked.items in
    nothing_left c.args.store.now t low marked c.loop-end.self.hints.items c.assigned-order.ensures.facts.fresh c.requires.quiet
    (guided_lower c.args.store.now t low end marked c.loop-end.self.hints.items s.above s.guided) (λ m h. take_grows t end low m c.loop-end-test.false (s.inside m h))
