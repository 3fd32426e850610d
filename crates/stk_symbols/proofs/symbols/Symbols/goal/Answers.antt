use Rattle.std.proofs.Common.{◌≡◌, ◌+◌, ◌≤◌, ◌&&◌, true, length, sym, subst, arith}
use Rattle.stk_ctype.specs.declared.kind.IntKind.TheVariants.{Int}
use Rattle.stk_terms.specs.declared.term.TermId.{TermId}
use Rattle.stk_terms.specs.Values.{bit, number_at}
use Rattle.stk_terms.specs.Cost.{IsClosed, cost, weight}
use Rattle.stk_terms.specs.Growth as growth
use Rattle.stk_terms.proofs.Weighing.{cost_grown}
use Rattle.stk_rewrite.proofs.Normals.{all_normal}
use Rattle.stk_values.specs.Keeping.{truth}
use Rattle.stk_symbols.specs.Valued.{IsTerm}
use Rattle.stk_symbols.specs.Symbolic.{residues_of, IsMade, Shows}
use Rattle.stk_symbols.specs.Goals.{is_hit_free, goal_charge}
use Rattle.stk_symbols.proofs.Answering.{both_ok, Raised, obeys, tested}
use Rattle.stk_symbols.proofs.Growing.{under}
use Rattle.stk_symbols.specs.Earlier.{among}
use Rattle.stk_symbols.proofs.Earlier.{earlier, below_true}
use Rattle.stk_symbols.proofs.Stepping.{tests_later, says_later}
use Rattle.stk_symbols.proofs.symbols.Symbols.goal.Goals as goal

pub goal_of-answer-requires-clause-steps : goal.goal_of-answer-requires-clause-steps
goal_of-answer-requires-clause-steps c = tests_later (IsMade c.args.self.now Int) (λ v. IsTerm c.self.inside.terms 32 v.0) c.args.walk.now.walked.steps (λ v h. subst (λ s. IsTerm s.terms 32 v.0) (sym c.self.view_is) h.term) c.requires.steps

pub returns-clause-normal : goal.returns-clause-normal
returns-clause-normal c = both_ok c.goal_of-answer.result _ _ _ c.goal_of-answer.ensures.made c.goal_of-answer.ensures.made (λ v t u. all_normal c.goal_of-answer.new.terms c.count-count.ensures.sound c.count-count.ensures.normal v.0 t.exists_)

pub returns-clause-value : goal.returns-clause-value
returns-clause-value c =
    let a = c.goal_of-answer in
    let ks = c.self.inside.kinds in
    let s = c.args.self.now in
    let old = c.self.inside.terms in
    let new = a.new.terms in
    let r : Raised s ks old new = record { spent = _; grown = a.ensures.grown; sound = c.count-count.ensures.sound; view = c.self.view_is } in
    both_ok a.result _ _ _ a.ensures.made a.ensures.value (λ v t e. λ m b events h p q.
    let o = obeys s ks old new r m h in
    let n = under ks new m in
    let f = tested s ks old new r m h in
    let says = says_later (λ x y. Shows s m Int x (truth y)) (λ (x : TermId) y. n x.0 ≡ bit y) c.args.walk.now.walked.steps events f q in
    subst (λ x. number_at new (residues_of x.kinds m) v.0 ≡ bit (b && is_hit_free c.args.set.now c.args.candidate events)) c.self.view_is (e n b events o (f c.args.walk.now.walked.valid b p) says))

pub returns-clause-cheap : goal.returns-clause-cheap
returns-clause-cheap c =
    let a = c.goal_of-answer in
    let old = c.self.inside.terms in
    let new = a.new.terms in
    let n = goal_charge c.args.set.now c.args.candidate c.args.walk.now.walked.steps in
    both_ok a.result _ _ _ a.ensures.made a.ensures.grows (λ v t g. λ chosen closed valid steps.
    let h = g chosen (subst (λ x. IsClosed x.terms chosen) (sym c.self.view_is) closed) valid steps in
    subst (λ x. cost new v.0 ≤ weight x.terms chosen (length x.terms.terms) + n) c.self.view_is (cost_grown old new chosen n v.0 h))

pub returns-clause-within : goal.returns-clause-within
returns-clause-within c =
    let a = c.goal_of-answer in
    let old = c.self.inside.terms in
    let new = a.new.terms in
    let n = goal_charge c.args.set.now c.args.candidate c.args.walk.now.walked.steps in
    both_ok a.result _ _ _ a.ensures.made a.ensures.grows (λ v t g. λ first valid steps keeps.
    let e = earlier first.terms old valid.sound (subst (λ x. growth.Keeps first.terms x.terms) (sym c.self.view_is) keeps) in
    let there = tests_later (IsMade first Int) (λ x. among first.terms x.0 ≡ true) c.args.walk.now.walked.steps (λ x h. below_true x.0 (length first.terms.terms) h.term.exists_) steps in
    let h = cost_grown old new (among first.terms) n v.0 (g (among first.terms) e.closed (below_true c.args.walk.now.walked.valid.0 (length first.terms.terms) valid.term.exists_) there) in
    omega (arith, h, e.weighs))
