-- What is known of the arguments of a call, and what follows them.
use Rattle.std.proofs.Common.{◌≡◌, ℕ, zero, suc, Bool, true, List, [], ℤ, pos, Option, Some, None, sym, ap, ◌∙◌, subst, get_or, unwrap_or}
use Rattle.std.specs.Prelude.{if◌then◌else◌}
use Rattle.stk_ctype.specs.declared.kind.IntKind.{IntKind}
use Rattle.stk_ctype.specs.Types.{TypeTree}
use Rattle.stk_tree.specs.Syntax.{ExprTree, ExprTrees, ExprFormTree}
use Rattle.stk_tree.specs.Syntax as s
use Rattle.stk_type_rules.specs.Types.{is_void}
use Rattle.stk_meaning.specs.Typings.{Typing, number_kind}
use Rattle.stk_meaning.specs.Libraries.{Library, called_library, called_signature, result_in, never_returns}
use Rattle.stk_meaning.specs.Places.{Setting}
use Rattle.stk_meaning.specs.Worlds.{Went, Cut}
use Rattle.stk_meaning.specs.Keys.{call_key}
use Rattle.stk_meaning.specs.Paths.{InputMap, path_world, all_forgotten}
use Rattle.stk_meaning.specs.Expressions.{breaks, returned}
use Rattle.stk_eval_expr.specs.Parts.{call_end}
use Rattle.stk_guarded.specs.Standing.{Standing, added, moved_to}
use Rattle.stk_guarded.proofs.Evaluations.{moves_goes}
use Rattle.stk_walking.specs.declared.state.WalkState.{WalkState}
use Rattle.stk_walking.specs.declared.operations.Operand.{Operand}
use Rattle.stk_walking.specs.declared.node_tests.Operands.{Operands}
use Rattle.stk_walking.specs.Leads.{Leads}
use Rattle.stk_walking.specs.Stands.{Stands}
use Rattle.stk_walking.specs.NodeTests.{OperandsMade}
use Rattle.stk_walking.proofs.Leading.{leads_after}
use Rattle.stk_walk_values.proofs.Taking.{gives_called}
use Rattle.stk_walk_values.specs.Arguments.{set_operand, parameter_kind, IsFirstKind}

-- ---- one argument more

pub set_made : {V : Type 0} (made : IntKind → V → Type 0) (n : ℕ) (xs : Operands V) (x : Operand V) → OperandsMade made xs → made x.kind x.value → OperandsMade made (set_operand n xs x)
set_made made zero xs x a m = record { first = m; second = a.second; third = a.third }
set_made made (suc zero) xs x a m = record { first = a.first; second = m; third = a.third }
set_made made (suc (suc n)) xs x a m = record { first = a.first; second = a.second; third = m }

pub set_first : {V : Type 0} (l : Library) (n : ℕ) (xs : Operands V) (x : Operand V) → IsFirstKind (Some l) xs.first.kind → ((k : IntKind) → parameter_kind l n ≡ Some k → x.kind ≡ k) → IsFirstKind (Some l) (set_operand n xs x).first.kind
set_first l zero xs x h e = h ∙ ap Some (sym (e xs.first.kind h))
set_first l (suc zero) xs x h e = h
set_first l (suc (suc n)) xs x h e = h

-- ---- the end of a call

pub called_leads : {V : Type 0} (f1 f2 : IntKind → V → ℤ → Type 0) (g : Setting) (inputs : InputMap) (k : ℕ) (callee : ExprTree) (es : ExprTrees) (library : Option Library) (xs : List ℤ) (never : Bool) (s0 : Standing) (w2 : WalkState V) (shown : ℤ → Type 0) →
    never ≡ never_returns (called_signature g.typing callee) → library ≡ called_library g.typing callee →
    Leads f2 g shown (if never then Cut [] else returned (path_world inputs) k (result_in (called_signature g.typing callee)) library xs s0.numbers s0.kept) (added (breaks g k true (s.call callee es) (get_or xs 0 (pos 0)) (get_or xs 1 (pos 0)) (get_or xs 2 (pos 0))) s0) w2 →
    Leads f2 g shown (call_end g (path_world inputs) k callee es xs s0.numbers s0.kept) s0 w2
called_leads f1 f2 g inputs k callee es library xs never s0 w2 shown is same a =
    let f = called_signature g.typing callee in
    let t = breaks g k true (s.call callee es) (get_or xs 0 (pos 0)) (get_or xs 1 (pos 0)) (get_or xs 2 (pos 0)) in
    let a0 = subst (λ (u : Bool). Leads f2 g shown (if u then Cut [] else returned (path_world inputs) k (result_in f) library xs s0.numbers s0.kept) (added t s0) w2) is a in
    let a1 = subst (λ (u : Option Library). Leads f2 g shown (if never_returns f then Cut [] else returned (path_world inputs) k (result_in f) u xs s0.numbers s0.kept) (added t s0) w2) same a0 in
    leads_after f1 f2 g shown t (λ r m. if never_returns f then Cut [] else returned (path_world inputs) k (result_in f) (called_library g.typing callee) xs r m) s0 w2 a1

-- ---- the kind of the value of a library call

some_is : (j k : IntKind) → Some j ≡ Some k → j ≡ k
some_is j k e = ap (λ (o : Option IntKind). unwrap_or o j) e

-- the first argument has the kind of the value
pub first_is : (l : Library) (j k : IntKind) → IsFirstKind (Some l) j → IsFirstKind (Some l) k → j ≡ k
first_is l j k a b = some_is j k (sym a ∙ b)

pub called_kind : (ty : Typing) (e : ExprTree) (library : Option Library) (k : IntKind) → library ≡ called_library ty e → k ≡ number_kind (result_in (called_signature ty e)) → IsFirstKind library k
called_kind ty e library k same is =
    subst (λ (l : Option Library). IsFirstKind l k) (sym same) (subst (IsFirstKind (called_library ty e)) (sym is) (gives_called ty e))

-- ---- the value of a call that isn't of the library

pub outside_leads : {V : Type 0} (f : IntKind → V → ℤ → Type 0) (g : Setting) (inputs : InputMap) (k : ℕ) (t : TypeTree) (xs : List ℤ) (b : Bool) (s0 : Standing) (w : WalkState V) (shown : ℤ → Type 0) → b ≡ is_void t → shown (if b then pos 0 else inputs (call_key k)) →
    Stands f g w (moved_to s0.numbers (all_forgotten s0.kept) s0) → Leads f g shown (returned (path_world inputs) k t None xs s0.numbers s0.kept) s0 w
outside_leads f g inputs k t xs b s0 w shown is a at =
    subst (λ (c : Bool). Leads f g shown (Went (if c then pos 0 else inputs (call_key k)) s0.numbers (all_forgotten s0.kept) []) s0 w) is (record {
      number = if b then pos 0 else inputs (call_key k);
      standing = moved_to s0.numbers (all_forgotten s0.kept) s0;
      value = a;
      stands = at;
      goes = moves_goes (if b then pos 0 else inputs (call_key k)) s0.numbers (all_forgotten s0.kept) s0;
    })
