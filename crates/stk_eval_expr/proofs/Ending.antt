-- What follows the operands of an assignment, over plain values.
use Rattle.std.proofs.Common.{◌≡◌, ℕ, ℤ, pos, List, if◌then◌else◌, ap, subst, ◌∙◌}
use Rattle.stk_tree.specs.declared.expression.StepOp.{StepOp}
use Rattle.stk_tree.specs.Syntax.{ExprTree, ExprFormTree}
use Rattle.stk_tree.specs.Syntax as s
use Rattle.stk_tree.specs.Parts.{bare}
use Rattle.stk_meaning.specs.Typings.{type_in, number_kind, converted, node_of}
use Rattle.stk_meaning.specs.Operations.{Operation, step_operation, gives_old}
use Rattle.stk_meaning.specs.Places.{Setting, target_of}
use Rattle.stk_meaning.specs.Worlds.{World, and_then}
use Rattle.stk_meaning.specs.Expressions.{operate, number_in, stored_at}
use Rattle.stk_eval_expr.specs.declared.state.State.{State}
use Rattle.stk_eval_expr.specs.Leaving.{Leaves}
use Rattle.stk_eval_expr.specs.Parts.{step_end, plain_end, compound_end}
use Rattle.stk_eval_expr.proofs.LeavingLaws.{then_leaves}

module _ {K S : Type 0} {shown : K → S} where
  -- `++` and `--`: what is read at a place, one more or less of it, and the store
  pub stepped : (g : Setting) (w : World S) (k : ℕ) (op : StepOp) (e : ExprTree) (place : ℕ) (o : Operation) (x one n y v : ℤ) (s0 s1 s2 s3 : State K) →
      o ≡ step_operation g.typing op (type_in g.typing e) → one ≡ pos 1 → y ≡ converted (type_in g.typing e) n → v ≡ (if gives_old op then x else y) →
      Leaves shown (number_in w (target_of g e) (node_of (bare e)) (number_kind (type_in g.typing e)) place s0.registers.items (shown s0.kept)) x s0 s1 →
      Leaves shown (operate g k (s.step op e) o x one s1.registers.items (shown s1.kept)) n s1 s2 →
      Leaves shown (stored_at w (target_of g e) (number_kind (type_in g.typing e)) place y v s2.registers.items (shown s2.kept)) v s2 s3 →
      Leaves shown (step_end g w k op e place s0.registers.items (shown s0.kept)) v s0 s3
  stepped g w k op e place o x one n y v s0 s1 s2 s3 is_o is_one is_y is_v a b c =
      let t = type_in g.typing e in
      let kind = number_kind t in
      let p = step_operation g.typing op t in
      let given = λ (x n : ℤ). if gives_old op then x else converted t n in
      let store = λ (x n : ℤ) (r : List ℤ) (m : S). stored_at w (target_of g e) kind place (converted t n) (given x n) r m in
      let v_is : v ≡ given x n = is_v ∙ ap (λ (u : ℤ). if gives_old op then x else u) is_y in
      let b0 = subst (λ (u : Operation). Leaves shown (operate g k (s.step op e) u x one s1.registers.items (shown s1.kept)) n s1 s2) is_o b in
      let b1 = subst (λ (u : ℤ). Leaves shown (operate g k (s.step op e) p x u s1.registers.items (shown s1.kept)) n s1 s2) is_one b0 in
      let c0 = subst (λ (u : ℤ). Leaves shown (stored_at w (target_of g e) kind place u v s2.registers.items (shown s2.kept)) v s2 s3) is_y c in
      let c1 = subst (λ (u : ℤ). Leaves shown (stored_at w (target_of g e) kind place (converted t n) u s2.registers.items (shown s2.kept)) v s2 s3) v_is c0 in
      then_leaves (number_in w (target_of g e) (node_of (bare e)) kind place s0.registers.items (shown s0.kept)) (λ x r m. and_then (operate g k (s.step op e) p x (pos 1) r m) (store x)) x v s0 s1 s3 a
      (then_leaves (operate g k (s.step op e) p x (pos 1) s1.registers.items (shown s1.kept)) (store x) n v s1 s2 s3 b1 c1)

  -- a compound assignment
  pub compounded : (g : Setting) (w : World S) (k : ℕ) (f : ExprFormTree) (o : Operation) (e : ExprTree) (number : ℤ) (place : ℕ) (x n z : ℤ) (s0 s1 s2 s3 : State K) →
      z ≡ converted (type_in g.typing e) n →
      Leaves shown (number_in w (target_of g e) (node_of (bare e)) (number_kind (type_in g.typing e)) place s0.registers.items (shown s0.kept)) x s0 s1 →
      Leaves shown (operate g k f o x number s1.registers.items (shown s1.kept)) n s1 s2 →
      Leaves shown (stored_at w (target_of g e) (number_kind (type_in g.typing e)) place z z s2.registers.items (shown s2.kept)) z s2 s3 →
      Leaves shown (compound_end g w k f o e number place s0.registers.items (shown s0.kept)) z s0 s3
  compounded g w k f o e number place x n z s0 s1 s2 s3 is_z a b c =
      let t = type_in g.typing e in
      let kind = number_kind t in
      let store = λ (n : ℤ) (r : List ℤ) (m : S). stored_at w (target_of g e) kind place (converted t n) (converted t n) r m in
      let c0 = subst (λ (u : ℤ). Leaves shown (stored_at w (target_of g e) kind place u u s2.registers.items (shown s2.kept)) z s2 s3) is_z c in
      then_leaves (number_in w (target_of g e) (node_of (bare e)) kind place s0.registers.items (shown s0.kept)) (λ x r m. and_then (operate g k f o x number r m) store) x z s0 s1 s3 a
      (then_leaves (operate g k f o x number s1.registers.items (shown s1.kept)) store n z s1 s2 s3 b c0)

  -- `=`
  pub assigned : (g : Setting) (w : World S) (e : ExprTree) (number : ℤ) (place : ℕ) (y : ℤ) (s0 s1 : State K) → y ≡ converted (type_in g.typing e) number →
      Leaves shown (stored_at w (target_of g e) (number_kind (type_in g.typing e)) place y y s0.registers.items (shown s0.kept)) y s0 s1 →
      Leaves shown (plain_end g w e number place s0.registers.items (shown s0.kept)) y s0 s1
  assigned g w e number place y s0 s1 is_y a =
      subst (λ (u : ℤ). Leaves shown (stored_at w (target_of g e) (number_kind (type_in g.typing e)) place u u s0.registers.items (shown s0.kept)) y s0 s1) is_y a
