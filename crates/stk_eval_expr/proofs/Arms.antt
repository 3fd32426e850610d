-- What each form of expression leaves, over plain values.
use Rattle.std.proofs.Common.{◌≡◌, ℕ, ◌+◌, Bool, true, false, not, if◌then◌else◌, List, [], ◌∷◌, length, drop, get_or, suc, ◌<◌, add-one, drop-cons, Option, Some, None, ℤ, pos, refl, sym, ap, subst, ◌∙◌, option_map}
use Rattle.stk_ctype.specs.Types.{TypeTree, TypeTrees}
use Rattle.stk_tree.specs.declared.expression.AssignOp.{AssignOp}
use Rattle.stk_tree.specs.Syntax.{ExprTree, ExprTrees, ExprFormTree}
use Rattle.stk_numbers.specs.declared.operators.CompareOp.{CompareOp}
use Rattle.stk_meaning.specs.declared.entry.Entry.{Entry}
use Rattle.stk_meaning.specs.Typings.{is_array, number_kind}
use Rattle.stk_meaning.specs.Operations.{Operator, Operation, truth}
use Rattle.stk_meaning.specs.Libraries.{called_library, called_signature, result_in, never_returns}
use Rattle.stk_meaning.specs.Replacements.{Replaced}
use Rattle.stk_meaning.specs.Places.{Setting, Target}
use Rattle.stk_meaning.specs.Worlds.{Ran, Cut, World, after, and_then, gives}
use Rattle.stk_meaning.specs.Expressions.{Meaning, Sides, operate, operator_sides, comparison_value, assigned_value, place_value, number_in, returned, passed, arguments_values, later_parameters, name_meaning}
use Rattle.stk_eval_expr.specs.declared.state.State.{State}
use Rattle.stk_eval_expr.specs.Leaving.{Leaves, Adds, from}
use Rattle.stk_eval_expr.specs.Parts.{place_end, comparison_end, plain_end, compound_end}
use Rattle.stk_eval_expr.proofs.LeavingLaws.{then_leaves, after_leaves, value_leaves}

-- what is left of a list begins with the element at this place
pub next_of : {A : Type 0} (xs : List A) (i : ℕ) (d : A) → i < length xs → d ≡ get_or xs i d → drop i xs ≡ d ∷ drop (i + 1) xs
next_of xs i d h e = rw add-one (drop-cons xs i d h ∙ ap (λ (z : _). z ∷ drop (suc i) xs) (sym e))

module _ {K S : Type 0} {shown : K → S} where
  -- an operator on two numbers, as a side
  pub operated_sides : (g : Setting) (k : ℕ) (f : ExprFormTree) (o p : Operation) (A B : Meaning S) (x y z : ℤ) (s0 s1 s2 s3 : State K) → p ≡ o →
      Leaves shown (from shown A.value s0) x s0 s1 → Leaves shown (from shown B.value s1) y s1 s2 → Leaves shown (operate g k f p x y s2.registers.items (shown s2.kept)) z s2 s3 →
      Leaves shown (from shown (operator_sides g k f o A B) s0) (record { number = z; left = x; right = y }) s0 s3
  operated_sides g k f o p A B x y z s0 s1 s2 s3 same a b c =
      let v : Sides = record { number = z; left = x; right = y } in
      let c0 = subst (λ (u : Operation). Leaves shown (operate g k f u x y s2.registers.items (shown s2.kept)) z s2 s3) same c in
      then_leaves (from shown A.value s0) (λ x r m. and_then (B.value r m) (λ y r m. and_then (operate g k f o x y r m) (λ z. gives (record { number = z; left = x; right = y })))) x v s0 s1 s3 a
      (then_leaves (from shown B.value s1) (λ y r m. and_then (operate g k f o x y r m) (λ z. gives (record { number = z; left = x; right = y }))) y v s1 s2 s3 b
      (then_leaves (operate g k f o x y s2.registers.items (shown s2.kept)) (λ z. gives (record { number = z; left = x; right = y })) z v s2 s3 s3 c0 (value_leaves v v s3 refl)))

  -- a comparison
  pub compared_leaves : (g : Setting) (k : ℕ) (how : CompareOp) (o : Operation) (found : Option Replaced) (A B : Meaning S) (x y : Sides) (z : ℤ) (s0 s1 s2 s3 : State K) →
      Leaves shown (from shown A.sides s0) x s0 s1 → Leaves shown (from shown B.sides s1) y s1 s2 → Leaves shown (comparison_end g k how o found x y s2.registers.items (shown s2.kept)) z s2 s3 →
      Leaves shown (from shown (comparison_value g k how o found A B) s0) z s0 s3
  compared_leaves g k how o found A B x y z s0 s1 s2 s3 a b c =
      then_leaves (from shown A.sides s0) (λ x r m. and_then (B.sides r m) (λ y r m. comparison_end g k how o found x y r m)) x z s0 s1 s3 a
      (then_leaves (from shown B.sides s1) (λ y r m. comparison_end g k how o found x y r m) y z s1 s2 s3 b c)

  -- assignments
  pub plain_leaves : (g : Setting) (w : World S) (k : ℕ) (op : AssignOp) (left right : ExprTree) (o : Option Operator) (A B : Meaning S) (y : ℤ) (p : ℕ) (v : ℤ) (s0 s1 s2 s3 : State K) → None ≡ o →
      Leaves shown (from shown B.value s0) y s0 s1 → Leaves shown (from shown (A.place true) s1) p s1 s2 → Leaves shown (plain_end g w left y p s2.registers.items (shown s2.kept)) v s2 s3 →
      Leaves shown (from shown (assigned_value g w k op left right o A B) s0) v s0 s3
  plain_leaves g w k op left right o A B y p v s0 s1 s2 s3 none b a c =
      subst (λ (u : Option Operator). Leaves shown (from shown (assigned_value g w k op left right u A B) s0) v s0 s3) none
      (then_leaves (from shown B.value s0) (λ y r m. and_then (A.place true r m) (λ place r m. plain_end g w left y place r m)) y v s0 s1 s3 b
      (then_leaves (from shown (A.place true) s1) (λ place r m. plain_end g w left y place r m) p v s1 s2 s3 a c))

  pub compound_leaves : (g : Setting) (w : World S) (k : ℕ) (op : AssignOp) (left right : ExprTree) (o : Option Operator) (how : Operator) (f : ExprFormTree) (p : Operation) (A B : Meaning S) (y : ℤ) (place : ℕ) (v : ℤ) (s0 s1 s2 s3 : State K) → Some how ≡ o →
      (compound_run : List ℤ → S → Ran ℤ S) → compound_run ≡ assigned_value g w k op left right (Some how) A B →
      compound_run ≡ (λ r m. and_then (B.value r m) (λ y r m. and_then (A.place true r m) (λ place r m. compound_end g w k f p left y place r m))) →
      Leaves shown (from shown B.value s0) y s0 s1 → Leaves shown (from shown (A.place true) s1) place s1 s2 → Leaves shown (compound_end g w k f p left y place s2.registers.items (shown s2.kept)) v s2 s3 →
      Leaves shown (from shown (assigned_value g w k op left right o A B) s0) v s0 s3
  compound_leaves g w k op left right o how f p A B y place v s0 s1 s2 s3 some R is_whole is_parts b a c =
      subst (λ (u : Option Operator). Leaves shown (from shown (assigned_value g w k op left right u A B) s0) v s0 s3) some
      (subst (λ (u : List ℤ → S → Ran ℤ S). Leaves shown (from shown u s0) v s0 s3) (sym is_parts ∙ is_whole)
      (then_leaves (from shown B.value s0) (λ y r m. and_then (A.place true r m) (λ place r m. compound_end g w k f p left y place r m)) y v s0 s1 s3 b
      (then_leaves (from shown (A.place true) s1) (λ place r m. compound_end g w k f p left y place r m) place v s1 s2 s3 a c)))

  -- the value of a place
  pub placed_leaves : (g : Setting) (w : World S) (k : ℕ) (target : Target) (place : Bool → List ℤ → S → Ran ℕ S) (b : Bool) (a : ℕ) (v : ℤ) (s0 s1 s2 : State K) → b ≡ not (is_array (g.typing.type_at k)) →
      Leaves shown (from shown (place b) s0) a s0 s1 → Leaves shown (place_end g w k target a s1.registers.items (shown s1.kept)) v s1 s2 →
      Leaves shown (from shown (place_value w target k (g.typing.type_at k) place) s0) v s0 s2
  placed_leaves g w k target place b a v s0 s1 s2 e p q = by_kind (is_array (g.typing.type_at k)) (subst (λ (u : Bool). Leaves shown (from shown (place u) s0) a s0 s1) e p) q
    where
      t : TypeTree
      t = g.typing.type_at k

      by_kind : (array : Bool) → Leaves shown (from shown (place (not array)) s0) a s0 s1 → Leaves shown (if array then gives (pos a) s1.registers.items (shown s1.kept) else number_in w target k (number_kind t) a s1.registers.items (shown s1.kept)) v s1 s2 →
          Leaves shown (if array then and_then (place false s0.registers.items (shown s0.kept)) (λ a. gives (pos a)) else and_then (place true s0.registers.items (shown s0.kept)) (λ a r m. number_in w target k (number_kind t) a r m)) v s0 s2
      by_kind true p q = then_leaves (from shown (place false) s0) (λ a. gives (pos a)) a v s0 s1 s2 p q
      by_kind false p q = then_leaves (from shown (place true) s0) (λ a r m. number_in w target k (number_kind t) a r m) a v s0 s1 s2 p q

  -- an enumerator's name is no place
  pub named_cut : (g : Setting) (w : World S) (k : ℕ) (f : ExprFormTree) (object : ℕ) (o : Option ℤ) (h : ℤ → ℤ) (n : ℤ) (b : Bool) (v : ℕ) (s0 s1 : State K) → Some n ≡ option_map h o → Leaves {A = ℕ} shown (Cut []) v s0 s1 →
      Leaves shown ((name_meaning g w k f object o).place b s0.registers.items (shown s0.kept)) v s0 s1
  named_cut g w k f object None h n b v s0 s1 is cut = absurd cc
  named_cut g w k f object (Some z) h n b v s0 s1 is cut = cut

  -- the end of a call
  pub called_leaves : (g : Setting) (w : World S) (k : ℕ) (callee : ExprTree) (es : ExprTrees) (xs : List ℤ) (t : List Entry) (never : Bool) (v : ℤ) (s0 s1 s2 : State K) → never ≡ never_returns (called_signature g.typing callee) → Adds t s0 s1 →
      Leaves shown (if never then Cut [] else returned w k (result_in (called_signature g.typing callee)) (called_library g.typing callee) xs s1.registers.items (shown s1.kept)) v s1 s2 →
      Leaves shown (after t (if never_returns (called_signature g.typing callee) then Cut [] else returned w k (result_in (called_signature g.typing callee)) (called_library g.typing callee) xs s0.registers.items (shown s0.kept))) v s0 s2
  called_leaves g w k callee es xs t never v s0 s1 s2 is a b =
      let f = called_signature g.typing callee in
      let b0 = subst (λ (u : Bool). Leaves shown (if u then Cut [] else returned w k (result_in f) (called_library g.typing callee) xs s1.registers.items (shown s1.kept)) v s1 s2) is b in
      after_leaves t (λ r m. if never_returns f then Cut [] else returned w k (result_in f) (called_library g.typing callee) xs r m) v s0 s1 s2 a b0

  -- `?:`
  pub chosen_leaves : (R : Ran ℤ S) (f h : List ℤ → S → Ran ℤ S) (x : ℤ) (b : Bool) (v : ℤ) (s0 s1 s2 : State K) → b ≡ truth x → Leaves shown R x s0 s1 → Leaves shown (if b then from shown f s1 else from shown h s1) v s1 s2 →
      Leaves shown (and_then R (λ x r m. if truth x then f r m else h r m)) v s0 s2
  chosen_leaves R f h x b v s0 s1 s2 is a c =
      then_leaves R (λ x r m. if truth x then f r m else h r m) x v s0 s1 s2 a (subst (λ (u : Bool). Leaves shown (if u then from shown f s1 else from shown h s1) v s1 s2) is c)

  -- arguments: one more, and none
  pub argument_leaves : (g : Setting) (w : World S) (ts us : TypeTrees) (e : ExprTree) (es : ExprTrees) (V : List ℤ → S → Ran ℤ S) (x n : ℤ) (xs : List ℤ) (s0 s1 s2 : State K) → n ≡ passed ts x → us ≡ later_parameters ts →
      Leaves shown (from shown V s0) x s0 s1 → Leaves shown (from shown (arguments_values g w us es) s1) xs s1 s2 →
      Leaves shown (and_then (from shown V s0) (λ x r m. and_then (arguments_values g w (later_parameters ts) es r m) (λ xs. gives (passed ts x ∷ xs)))) (n ∷ xs) s0 s2
  argument_leaves g w ts us e es V x n xs s0 s1 s2 is_n is_us a b =
      let b0 = subst (λ (u : TypeTrees). Leaves shown (from shown (arguments_values g w u es) s1) xs s1 s2) is_us b in
      then_leaves (from shown V s0) (λ x r m. and_then (arguments_values g w (later_parameters ts) es r m) (λ xs. gives (passed ts x ∷ xs))) x (n ∷ xs) s0 s1 s2 a
      (then_leaves (from shown (arguments_values g w (later_parameters ts) es) s1) (λ xs. gives (passed ts x ∷ xs)) xs (n ∷ xs) s1 s2 s2 b0 (value_leaves (passed ts x ∷ xs) (n ∷ xs) s2 (ap (λ z. z ∷ xs) is_n)))

  -- a value that is made of an operand's
  pub one_value : {A B : Type 0} (R : Ran A S) (f : A → B) (x : A) (v : B) (s0 s1 : State K) → v ≡ f x → Leaves shown R x s0 s1 → Leaves shown (and_then R (λ x. gives (f x))) v s0 s1
  one_value {A} {B} R f x v s0 s1 e a = then_leaves R (λ x. gives (f x)) x v s0 s1 s1 a (value_leaves (f x) v s1 e)
