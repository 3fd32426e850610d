use Rattle.std.proofs.Common.{ℕ, List, Bool, MatchBool, ℤ, sym, subst, ◌∙◌}
use Rattle.std.proofs.lemmas.Bool.Decides.{Decides-eqb}
use Rattle.std.proofs.lemmas.Slice.Eq.{slice_eq-Decides}
use Rattle.stk_replay_script.specs.Starts.{IsStart, AreMore, AreAdded, IsNextInput}
use Rattle.stk_replay_script.proofs.StartTexts.{empty_start, start_begins, start_behind}
use Rattle.stk_replay_script.proofs.starts.start_numbers.Goals as goal

pub returns-then-eq : goal.returns-then-eq
returns-then-eq c =
    let decided = slice_eq-Decides Decides-eqb _ _ _ c.eq.ensures in
    subst (λ (xs : List ℤ). IsStart c.args.keys.now c.args.text.now xs) (sym c.new-numbers.ensures.items) (empty_start c.args.keys.now c.args.text.now c.in_default.ensures.cases (decided.0 c.if-eq.true ∙ c.as_slice.ensures))

pub returns-in_default-next_input : goal.returns-in_default-next_input
returns-in_default-next_input c xs h =
    let next = start_begins c.in-Some.key.now c.in-Some.others.now c.args.text.now xs (subst (λ (ks : List (List ℕ)). IsStart ks c.args.text.now xs) c.in-Some.ensures.cases.0 h) in
    c.in_default-next_input.ensures next.0 next.1 (subst (λ (k : List ℕ). IsNextInput k c.args.text.now next.0 next.1) (sym c.as_slice-2.ensures) next.2)

pub returns-else-branch : goal.returns-else-branch
returns-else-branch c xs h =
    let next = subst (λ (k : List ℕ). IsNextInput k c.args.text.now c.in-Some-next_input.number c.in-Some-next_input.behind.now) c.as_slice-2.ensures c.in-Some-next_input.ensures in
    let others = start_behind c.in-Some.key.now c.in-Some.others.now c.args.text.now c.in-Some-next_input.number c.in-Some-next_input.behind.now xs next (subst (λ (ks : List (List ℕ)). IsStart ks c.args.text.now xs) c.in-Some.ensures.cases.0 h) in
    let none = subst (λ (b : Bool). MatchBool b (AreAdded c.in-Some.others.now c.in-Some-next_input.behind.now c.push.new.self.items c.add_more.new.numbers.items) ((ys : List ℤ) → AreMore c.in-Some.others.now c.in-Some-next_input.behind.now ys → ⊥)) c.if-branch.false c.in_ok-add_more.ensures in
    none others.0 others.2
