use Rattle.std.proofs.Common.{◌≡◌, ◌<◌, ◌≤◌, ◌++◌, ◌∷◌, [], ◌+◌, Bool, true, false, ℕ, List, length, get_or, sym, subst, ◌∙◌, ap, length-append, arith}
use Rattle.stk_terms.specs.declared.term.TermId.{TermId}
use Rattle.stk_terms.specs.Parts.{is_part}
use Rattle.stk_terms.proofs.Adding.{keeps_same}
use Rattle.stk_terms.proofs.Older.{keeps_then}
use Rattle.stk_terms.proofs.Parting.{parts_closed, has_itself}
use Rattle.stk_rewrite.specs.Carries.{Carries}
use Rattle.stk_rewrite.specs.Normal.{AreSimplified, Simplifies}
use Rattle.stk_rewrite.proofs.Carrying.{carries_none, carries_more, costs}
use Rattle.stk_rewrite.proofs.Normals.{simplifies_here}
use Rattle.stk_rewrite.proofs.Standing.{one_more, all_later, children_done}
use Rattle.stk_rewrite.proofs.simplifying.simplify.Goals as goal

pub loop-i-init : goal.loop-i-init
loop-i-init c =
    let first = c.args.terms.now in
    let q : ℕ → Bool = is_part first c.args.id.0 in
    let e : c.in_ok-done.done.items ≡ [] = c.in_ok-done.ensures.items in
    record {
      sound = c.count-count.ensures.sound;
      keeps = keeps_same first;
      count = ap length e;
      done = λ k d h z. absurd (let f : length c.in_ok-done.done.items ≡ 0 = ap length e in omega (arith, f, h));
      carried = subst (Carries first first q) (sym e) (carries_none first q);
    }

pub next_part-requires-clause-done : goal.next_part-requires-clause-done
next_part-requires-clause-done c = λ h.
    let first = c.args.terms.now in
    let q : ℕ → Bool = is_part first c.args.id.0 in
    let known = c.count-count.ensures.sound in
    let before : c.loop-i.i ≤ c.args.id.0 = omega (arith, c.loop-i-test.true) in
    let l : c.loop-i.i < length first.terms = omega (arith, c.loop-i-test.true, c.requires) in
    let told : get_or c.as_slice-marks.result.now c.loop-i.i false ≡ q c.loop-i.i = ap (λ m. get_or m c.loop-i.i false) c.as_slice-marks.ensures ∙ c.in_ok-parts.ensures.told c.loop-i.i before in
    children_done first c.loop-i.terms q c.deref.result.now c.loop-i.i known c.loop-i.invariant.keeps (parts_closed first known c.args.id.0 c.requires) (subst (AreSimplified c.loop-i.terms q) (sym c.deref.ensures.value) c.loop-i.invariant.done) (ap length c.deref.ensures.value ∙ c.loop-i.invariant.count) l (sym told ∙ h)

pub loop-i-preserved : goal.loop-i-preserved
loop-i-preserved c =
    let first = c.args.terms.now in
    let q : ℕ → Bool = is_part first c.args.id.0 in
    let old = c.loop-i.terms in
    let new = c.next_part.new.terms in
    let known = c.count-count.ensures.sound in
    let before : c.loop-i.i ≤ c.args.id.0 = omega (arith, c.loop-i-test.true) in
    let l : c.loop-i.i < length first.terms = omega (arith, c.loop-i-test.true, c.requires) in
    let told : get_or c.as_slice-marks.result.now c.loop-i.i false ≡ q c.loop-i.i = ap (λ m. get_or m c.loop-i.i false) c.as_slice-marks.ensures ∙ c.in_ok-parts.ensures.told c.loop-i.i before in
    let items : c.push.new.self.items ≡ c.loop-i.done.items ++ c.in_ok-v.v ∷ [] = c.in_ok-push.ensures.items in
    let longer = c.loop-i.invariant.keeps.longer in
    let m : c.loop-i.i < length old.terms = omega (arith, l, longer) in
    let count = c.loop-i.invariant.count in
    let many : length c.loop-i.done.items ≤ length old.terms = omega (arith, count, m) in
    record {
      sound = c.next_part.ensures.still;
      keeps = keeps_then first old new c.loop-i.invariant.keeps c.next_part.ensures.keeps;
      count = ap length items ∙ (length-append c.loop-i.done.items (c.in_ok-v.v ∷ []) ∙ ap (λ n. n + 1) count);
      done = subst (AreSimplified new q) (sym items) (one_more new q c.loop-i.done.items c.in_ok-v.v (all_later old new q c.loop-i.done.items c.loop-i.invariant.sound c.next_part.ensures.keeps many c.loop-i.invariant.done)
          (λ z. subst (λ k. Simplifies new new k c.in_ok-v.v.0) (sym count) (simplifies_here old new c.loop-i.invariant.sound c.next_part.ensures.keeps c.loop-i.i c.in_ok-v.v.0 m (c.in_ok-v.ensures.simplifies (told ∙ subst (λ k. q k ≡ true) count z)))));
      carried = subst (Carries first new q) (sym (items ∙ ap (λ (ds : List TermId). ds ++ c.in_ok-v.v ∷ []) (sym c.deref.ensures.value)))
          (carries_more first old new known c.loop-i.invariant.sound c.loop-i.invariant.keeps c.next_part.ensures.keeps q (parts_closed first known c.args.id.0 c.requires) c.deref.result.now (subst (AreSimplified old q) (sym c.deref.ensures.value) c.loop-i.invariant.done) (subst (Carries first old q) (sym c.deref.ensures.value) c.loop-i.invariant.carried) c.in_ok-v.v c.loop-i.i (ap length c.deref.ensures.value ∙ count) l (λ z. c.in_ok-v.ensures.grows (told ∙ z)));
    }

pub next-requires-clause-done : goal.next-requires-clause-done
next-requires-clause-done c =
    let first = c.args.terms.now in
    let q : ℕ → Bool = is_part first c.args.id.0 in
    let known = c.count-count.ensures.sound in
    let e : c.loop-i.i ≡ c.args.id.0 = omega (arith, c.loop-i-test.false, c.loop-i.auto.i-end) in
    children_done first c.loop-i.terms q c.deref-2.result.now c.args.id.0 known c.loop-i.invariant.keeps (parts_closed first known c.args.id.0 c.requires) (subst (AreSimplified c.loop-i.terms q) (sym c.deref-2.ensures.value) c.loop-i.invariant.done) (ap length c.deref-2.ensures.value ∙ (c.loop-i.invariant.count ∙ e)) c.requires (has_itself first known c.args.id.0)

pub returns-clause-cheap : goal.returns-clause-cheap
returns-clause-cheap c =
    let first = c.args.terms.now in
    let q : ℕ → Bool = is_part first c.args.id.0 in
    let known = c.count-count.ensures.sound in
    let e : c.loop-i.i ≡ c.args.id.0 = omega (arith, c.loop-i-test.false, c.loop-i.auto.i-end) in
    costs first c.loop-i.terms c.next.new.terms known c.loop-i.invariant.sound c.loop-i.invariant.keeps c.next.ensures.keeps q (parts_closed first known c.args.id.0 c.requires) c.deref-2.result.now (subst (AreSimplified c.loop-i.terms q) (sym c.deref-2.ensures.value) c.loop-i.invariant.done) (subst (Carries first c.loop-i.terms q) (sym c.deref-2.ensures.value) c.loop-i.invariant.carried) c.in_ok-v-2.v c.args.id.0 (ap length c.deref-2.ensures.value ∙ (c.loop-i.invariant.count ∙ e)) c.requires (λ _. c.in_ok-v-2.ensures.grows) (has_itself first known c.args.id.0)
