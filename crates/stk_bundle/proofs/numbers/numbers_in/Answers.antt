use Rattle.std.proofs.Common.{◌≡◌, ℕ, ◌<◌, List, [], ◌∷◌, ◌++◌, length, append_assoc, sym, ◌∙◌, ap, subst, arith}
use Rattle.std.proofs.lemmas.List.{append-nil}
use Rattle.stk_bundle.specs.Numbers.{AreNumbers}
use Rattle.stk_bundle.proofs.Texts.{some_next, others_behind, more_numbers, empty_numbers}
use Rattle.stk_bundle.proofs.numbers.numbers_in.Goals as goal

pub returns-in_default-clause-bad : goal.returns-in_default-clause-bad
returns-in_default-clause-bad c is ns a =
    let some : 0 < length c.loop-left.left.now = grind (arith, c.is_empty.ensures, c.loop-left-test.true) in
    let rest = c.loop-left.invariant.whole ns a in
    let next = some_next c.loop-left.left.now rest.0 some rest.1 in
    c.in_default.ensures next.0 next.1 next.2

pub loop-left-preserved : goal.loop-left-preserved
loop-left-preserved c = record {
  front = λ rest a. subst (λ (ns : List ℕ). AreNumbers c.args.text.now ns)
      (sym (append_assoc c.loop-left.numbers.items (c.in-Some.number ∷ []) rest) ∙ ap (λ ns. ns ++ rest) (sym c.in_ok-push.ensures.items))
      (c.loop-left.invariant.front (c.in-Some.number ∷ rest) (more_numbers c.loop-left.left.now c.in-Some.behind.now c.in-Some.number rest c.in-Some.ensures a));
  whole = λ ns a. let rest = c.loop-left.invariant.whole ns a in others_behind c.loop-left.left.now c.in-Some.behind.now c.in-Some.number rest.0 c.in-Some.ensures rest.1;
}

pub returns-clause-ok : goal.returns-clause-ok
returns-clause-ok c =
    let none : length c.loop-left.left.now ≡ 0 = grind (arith, c.is_empty.ensures, c.loop-left-test.false) in
    subst (λ (ns : List ℕ). AreNumbers c.args.text.now ns) (append-nil c.loop-left.numbers.items ∙ sym c.from_vec.ensures) (c.loop-left.invariant.front [] (empty_numbers c.loop-left.left.now none))
