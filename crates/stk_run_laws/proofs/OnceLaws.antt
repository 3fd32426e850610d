-- The laws.
use Rattle.std.proofs.Common.{◌≡◌, ℕ, ◌==◌, Bool, true, false, List, [], ◌∷◌, ◌++◌, ℤ, Option, refl, sym, ◌∙◌, subst, inl, inr}
use Rattle.std.specs.Prelude.{replicate, None, length}
use Rattle.stk_tree.specs.Syntax.{FunctionTree}
use Rattle.stk_numbers.specs.declared.conditions.CandKind.{CandKind}
use Rattle.stk_numbers.specs.declared.conditions.CandKind.TheVariants.{Arm, AlwaysTrue, AlwaysFalse, Algebra}
use Rattle.stk_numbers.specs.declared.conditions.Candidate.{Candidate}
use Rattle.stk_numbers.specs.declared.conditions.Kinds.{Kinds}
use Rattle.stk_meaning.specs.declared.entry.Entry.{Entry}
use Rattle.stk_meaning.specs.declared.entry.Entry.TheVariants.{Ub, Enter, Seen}
use Rattle.stk_meaning.specs.Typings.{Typing}
use Rattle.stk_meaning.specs.Visits.{statement_visits}
use Rattle.stk_meaning.specs.Worlds.{World, trace_of}
use Rattle.stk_meaning.specs.Keys.{keys_of, setting_of, body_of, function_visits, parameter_key}
use Rattle.stk_meaning.specs.Paths.{KeptNumbers, path, path_world, start_registers, function_run, number_under}
use Rattle.stk_meaning.specs.Executions.{Outside, real_world}
use Rattle.stk_meaning.specs.Hits.{seen_hits, is_arm, hits, HitsFree}
use Rattle.stk_run_laws.specs.Visits.{IsIn}
use Rattle.stk_run_laws.proofs.Nodes.{distinct_of}
use Rattle.stk_run_laws.specs.TypedOperands.{HasScalarOperands}
use Rattle.stk_run_laws.specs.Listed.{IsListed, PathRunsAreListed, ExecutionsAreListed}
use Rattle.stk_run_laws.specs.Once.{IsOnce, EachNodeIsEvaluatedOnce, ASufficientSetHasAMember}
use Rattle.stk_run_laws.proofs.Traces.{SameEvent, AreOnce, Traced}
use Rattle.stk_run_laws.proofs.Lists.{violated_in, hit_in, same_of, and_right}
use Rattle.stk_run_laws.proofs.Bodies.{statement_makes}

-- what a run of a function makes, in any world
run_traced : (ty : Typing) (without : Kinds) (f : FunctionTree) (One S : Type 0) (w : World S) → (One → w.turns ≡ 1) → HasScalarOperands ty f → (numbers : ℕ → ℤ) (m : S) → Traced ty without One (statement_visits ty false (body_of f)) (trace_of (function_run (setting_of ty without f) w f numbers m))
run_traced ty without f One S w only h numbers m = (statement_makes (setting_of ty without f) One S w only (body_of f) h.1).at (start_registers ty f numbers) m

listed : (ty : Typing) (without : Kinds) (f : FunctionTree) (trace : List Entry) → Traced ty without ⊥ (statement_visits ty false (body_of f)) trace → IsListed ty without f trace
listed ty without f trace a = record {
  violated = λ k i. violated_in ty without (function_visits ty f) k (inr (a.says (Ub k) i));
  hit = λ c e i h. hit_in ty without (function_visits ty f) c e (inr (a.says e i)) h;
}

pub path_runs_are_listed : PathRunsAreListed
path_runs_are_listed ty without f h numbers =
    let inputs = number_under (keys_of ty without f) numbers in
    listed ty without f _ (run_traced ty without f ⊥ KeptNumbers (path_world inputs) (λ b. absurd b) h (λ k. inputs (parameter_key k)) (replicate (length (setting_of ty without f).kept) None))

pub executions_are_listed : ExecutionsAreListed
executions_are_listed ty without f h start memory answers n =
    listed ty without f _ (run_traced ty without f ⊥ Outside (real_world start.addresses n) (λ b. absurd b) h start.numbers (record { memory = memory; answers = answers }))

-- two entries of one list that is without repeats
once_apart : (before : List Entry) (e : Entry) (between : List Entry) (e' : Entry) (behind : List Entry) → AreOnce (before ++ (e ∷ (between ++ (e' ∷ behind)))) → SameEvent e e' → ⊥
once_apart [] e between e' behind h same = h.0.by e' (there between) same
  where
    there : (t : List Entry) → IsIn e' (t ++ (e' ∷ behind))
    there [] = inl refl
    there (x ∷ t) = inr (there t)
once_apart (x ∷ before) e between e' behind h same = once_apart before e between e' behind h.1 same

arm_unseen : (kind : CandKind) (b : Bool) (o : Option Bool) → is_arm kind ≡ true → seen_hits kind b o ≡ true → ⊥
arm_unseen Arm b o p q = cc
arm_unseen AlwaysTrue b o p q = cc
arm_unseen AlwaysFalse b o p q = cc
arm_unseen Algebra b o p q = cc

-- entries that hit one candidate are of one event
hits_same : (c : Candidate) (e e' : Entry) → hits c e ≡ true → hits c e' ≡ true → SameEvent e e'
hits_same c (Ub k) e' h h' = absurd cc
hits_same c (Enter n) (Ub k) h h' = absurd cc
hits_same c (Enter n) (Enter m) h h' = same_of n c.node (is_arm c.kind) h ∙ sym (same_of m c.node (is_arm c.kind) h')
hits_same c (Enter n) (Seen m b o) h h' = arm_unseen c.kind b o (and_right (n == c.node) (is_arm c.kind) h) (and_right (m == c.node) (seen_hits c.kind b o) h')
hits_same c (Seen n b o) (Ub k) h h' = absurd cc
hits_same c (Seen n b o) (Enter m) h h' = arm_unseen c.kind b o (and_right (m == c.node) (is_arm c.kind) h') (and_right (n == c.node) (seen_hits c.kind b o) h)
hits_same c (Seen n b o) (Seen m d p) h h' = same_of n c.node (seen_hits c.kind b o) h ∙ sym (same_of m c.node (seen_hits c.kind d p) h')

once_of : (trace : List Entry) → AreOnce trace → IsOnce trace
once_of trace a = record {
  hit = λ c before e between e' behind is h h'. once_apart before e between e' behind (subst AreOnce is a) (hits_same c e e' h h');
  violated = λ k before between behind is. once_apart before (Ub k) between (Ub k) behind (subst AreOnce is a) refl;
}

pub each_node_is_evaluated_once : EachNodeIsEvaluatedOnce
each_node_is_evaluated_once ty without f numbered h numbers =
    let inputs = number_under (keys_of ty without f) numbers in
    let a = run_traced ty without f (Unit {0}) KeptNumbers (path_world inputs) (λ u. refl) h (λ k. inputs (parameter_key k)) (replicate (length (setting_of ty without f).kept) None) in
    once_of _ (a.once tt (distinct_of (function_visits ty f) numbered).1)

pub a_sufficient_set_has_a_member : ASufficientSetHasAMember
a_sufficient_set_has_a_member ty without f c set start valid hit h is = h.by start valid (subst (λ z. HitsFree z c (path ty without f start)) (sym is) hit)
