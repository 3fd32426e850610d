-- What evaluations make, by cases on the expression.
use Rattle.std.proofs.Common.{◌≡◌, ℕ, Bool, true, false, List, [], ℤ, pos, Option, Some, None, refl, sym, ap, ◌∙◌, subst, inl, inr}
use Rattle.std.specs.Prelude.{if◌then◌else◌, get_or, option_map}
use Rattle.stk_ctype.specs.declared.kind.IntKind.{IntKind}
use Rattle.stk_ctype.specs.Types.{TypeTree, TypeTrees}
use Rattle.stk_base.specs.declared.span.Span.{Span}
use Rattle.stk_tree.specs.declared.node.Node.{Node}
use Rattle.stk_tree.specs.declared.expression.UnaryOp.{UnaryOp}
use Rattle.stk_tree.specs.declared.expression.UnaryOp.TheVariants as unary
use Rattle.stk_tree.specs.declared.expression.BinaryOp.{BinaryOp}
use Rattle.stk_tree.specs.declared.expression.BinaryOp.TheVariants as binary
use Rattle.stk_tree.specs.declared.expression.AssignOp.{AssignOp}
use Rattle.stk_tree.specs.declared.expression.AssignOp.TheVariants as assign
use Rattle.stk_tree.specs.declared.expression.StepOp.{StepOp}
use Rattle.stk_tree.specs.Syntax.{ExprTree, ExprTrees, MaybeExprTree, ExprFormTree}
use Rattle.stk_tree.specs.Syntax as s
use Rattle.stk_tree.specs.Parts.{bare}
use Rattle.stk_numbers.specs.declared.operators.ArithOp.TheVariants as arith_op
use Rattle.stk_numbers.specs.declared.operators.ShiftOp.TheVariants as shift_op
use Rattle.stk_numbers.specs.declared.operators.CompareOp.{CompareOp}
use Rattle.stk_numbers.specs.declared.operators.CompareOp.TheVariants as compare_op
use Rattle.stk_meaning.specs.Typings.{Typing, node_of, type_in, number_kind, is_array, converted}
use Rattle.stk_meaning.specs.Operations.{Operation, arithmetic, shifting, comparing, operates, sort_of, assigned_operator, operation_of, truth, bit}
use Rattle.stk_meaning.specs.Conditions.{form_tests}
use Rattle.stk_meaning.specs.Replacements.{Replaced, replacement}
use Rattle.stk_meaning.specs.Places.{Setting, Target, in_register, in_kept, in_object, unnamed, object_named, target_of}
use Rattle.stk_meaning.specs.Libraries.{Library, absolute_in, copy_bytes, called_library, called_signature, parameters_in, result_in, never_returns}
use Rattle.stk_meaning.specs.Visits.{Use, read, accessed, taken, Role, reading, accessing, taking, as_arm, as_test, accesses, inner_role, indexed_role, Visit, at_expression, Visits, one_visit, both_visits, expression_visits, arguments_visits, type_name_visits}
use Rattle.stk_meaning.specs.Worlds.{Ran, Cut, World, trace_of, and_then, gives, answered, written}
use Rattle.stk_meaning.specs.Expressions.{Sides, Meaning, alone, only, number_in, stored_at, place_value, at_place, name_meaning, controlled, replaced_by, operate, operator_meaning, comparison_value, right_operand, and_value, or_value, branch_value, binary_meaning, unary_meaning, indexed_from, step_value, plain_assigned, compound_assigned, assigned_value, call_value, returned, later_parameters, meaning, form_meaning, arguments_values}
use Rattle.stk_run_laws.specs.Visits.{EachVisit}
use Rattle.stk_run_laws.specs.TypedOperands.{IsNoArray, VisitHasScalarOperand}
use Rattle.stk_run_laws.proofs.Traces.{OtherSeen, sort_replacement, sort_sees, Says}
use Rattle.stk_run_laws.proofs.Faces.{Makes, makes_then, makes_left, makes_right, makes_none, makes_if, makes_two, makes_crossed, breaks_traced, makes_tail, makes_entries, makes_went, makes_behind}
use Rattle.stk_run_laws.proofs.OnceExpressions.{makes_arm, makes_test}

-- a use of a place, in no branch and no test
abbrev pub plainly : Use → Role
plainly u = record { use_of = u; is_arm = false; is_test = false }

-- what is asked of an expression doesn't depend on its role
pub each_role : (ty : Typing) (e : ExprTree) (R R' : Role) → EachVisit (VisitHasScalarOperand ty) (expression_visits ty R e) → EachVisit (VisitHasScalarOperand ty) (expression_visits ty R' e)
each_role ty (s.expression n (s.paren e)) R R' h = (each_role ty e _ _ h.0, h.1)
each_role ty (s.expression n (s.index a b)) R R' h = ((each_role ty a _ _ h.0.0, h.0.1), h.1)
each_role ty (s.expression n (s.dot e at)) R R' h = (each_role ty e _ _ h.0, h.1)
each_role ty (s.expression n f) R R' h = h

told_none : {S : Type 0} (w : World S) (target : Target) (k : ℕ) (kind : IntKind) (a : ℕ) (r : List ℤ) (m : S) → trace_of (number_in w target k kind a r m) ≡ []
told_none w (in_register i) k kind a r m = refl
told_none w (in_kept q) k kind a r m = refl
told_none w (in_object o) k kind a r m = refl
told_none w unnamed k kind a r m = refl

pub stored_none : {S : Type 0} (w : World S) (target : Target) (kind : IntKind) (a : ℕ) (x y : ℤ) (r : List ℤ) (m : S) → trace_of (stored_at w target kind a x y r m) ≡ []
stored_none w (in_register i) kind a x y r m = refl
stored_none w (in_kept q) kind a x y r m = refl
stored_none w (in_object o) kind a x y r m = refl
stored_none w unnamed kind a x y r m = refl

pub answered_none : {S : Type 0} (o : Option (ℤ × S)) (r : List ℤ) → trace_of (answered o r) ≡ []
answered_none None r = refl
answered_none (Some x) r = refl

pub written_none : {A S : Type 0} (x : A) (o : Option S) (r : List ℤ) → trace_of (written x o r) ≡ []
written_none x None r = refl
written_none x (Some m) r = refl

returned_none : {S : Type 0} (w : World S) (k : ℕ) (t : TypeTree) (library : Option Library) (xs r : List ℤ) (m : S) → trace_of (returned w k t library xs r m) ≡ []
returned_none w k t None xs r m = answered_none (w.call k t m) r
returned_none w k t (Some (absolute_in kind)) xs r m = refl
returned_none w k t (Some copy_bytes) xs r m = written_none (get_or xs 0 (pos 0)) (w.write m) r

if_none : {A S : Type 0} (b : Bool) (x y : Ran A S) → trace_of x ≡ [] → trace_of y ≡ [] → trace_of (if b then x else y) ≡ []
if_none true x y p q = p
if_none false x y p q = q

other_seen : (found : Option Replaced) (f : Replaced → Bool) → OtherSeen found (option_map f found)
other_seen None f = tt
other_seen (Some x) f = tt

-- what is no place has no address
abbrev nowhere : (S : Type 0) → List ℤ → S → Ran ℕ S
nowhere S r m = Cut []

module _ (g : Setting) (One : Type 0) (S : Type 0) (w : World S) where
  -- what an expression makes as a value, as a place and as a side of a comparison, where a is what it means
  pub record IsSound (e : ExprTree) (a : Meaning S) : Type 0 where
    pub value : Makes g One S (expression_visits g.typing reading e) a.value
    pub place : (u : Use) (b : Bool) → accesses (type_in g.typing (bare e)) u ≡ b → Makes g One S (expression_visits g.typing (plainly u) e) (a.place b)
    pub sides : Makes g One S (expression_visits g.typing reading e) a.sides

  -- a value alone
  alone_makes : (v : Visits) (value : List ℤ → S → Ran ℤ S) → Makes g One S v value → Makes g One S v (alone value)
  alone_makes v value a = makes_tail g One S v value _ a (λ x r m. refl)

  cut_makes : (v : Visits) → Makes g One S v (nowhere S)
  cut_makes v = makes_none g One S v _ (λ r m. refl)

  -- what is no place
  only_sound : (e : ExprTree) (value : List ℤ → S → Ran ℤ S) → Makes g One S (expression_visits g.typing reading e) value → IsSound e (only value)
  only_sound e value a = record {
    value = a;
    place = λ u b h. cut_makes (expression_visits g.typing (plainly u) e);
    sides = alone_makes (expression_visits g.typing reading e) value a;
  }

  -- a place that is read: of an array its address, else its number
  place_makes : (v : Visits) (k : ℕ) (target : Target) (place : Bool → List ℤ → S → Ran ℕ S) → ((b : Bool) → accesses (g.typing.type_at k) read ≡ b → Makes g One S v (place b)) → Makes g One S v (place_value w target k (g.typing.type_at k) place)
  place_makes v k target place h = by (is_array (g.typing.type_at k)) refl
    where
      by : (c : Bool) → is_array (g.typing.type_at k) ≡ c → Makes g One S v (λ r m. if c then and_then (place false r m) (λ a. gives (pos a)) else and_then (place true r m) (λ a r m. number_in w target k (number_kind (g.typing.type_at k)) a r m))
      by true is = makes_tail g One S v (place false) _ (h false (ap (λ c. if c then false else true) is)) (λ a r m. refl)
      by false is = makes_tail g One S v (place true) _ (h true (ap (λ c. if c then false else true) is)) (λ a r m. told_none w target k (number_kind (g.typing.type_at k)) a r m)

  -- a place
  at_place_sound : (e : ExprTree) (k : ℕ) (f : ExprFormTree) (place : Bool → List ℤ → S → Ran ℕ S) → type_in g.typing (bare e) ≡ g.typing.type_at k → ((u : Use) (b : Bool) → accesses (g.typing.type_at k) u ≡ b → Makes g One S (expression_visits g.typing (plainly u) e) (place b)) → IsSound e (at_place g w k f place)
  at_place_sound e k f place is h =
      let value = place_makes (expression_visits g.typing reading e) k _ place (λ b i. h read b i) in
      record {
        value = value;
        place = λ u b i. h u b (ap (λ t. accesses t u) (sym is) ∙ i);
        sides = alone_makes (expression_visits g.typing reading e) _ value;
      }

  -- a place as the whole that it is part of is used
  inner_place : (e : ExprTree) (t : TypeTree) (u : Use) (b : Bool) (a : Meaning S) → accesses t u ≡ b → IsSound e a → Makes g One S (expression_visits g.typing (inner_role t u) e) (a.place b)
  inner_place e t u b a h i = subst (λ c. Makes g One S (expression_visits g.typing (if c then accessing else taking) e) (a.place b)) (sym h) (one b)
    where
      one : (b : Bool) → Makes g One S (expression_visits g.typing (if b then accessing else taking) e) (a.place b)
      one true = i.place accessed true refl
      one false = i.place taken false refl

  -- a place that is read and written
  read_place : (e : ExprTree) (a : Meaning S) → IsNoArray g.typing e → IsSound e a → Makes g One S (expression_visits g.typing reading e) (a.place true)
  read_place e a h i = i.place read true (ap (λ c. if c then false else true) h)

  indexed_makes : (e : ExprTree) (t : TypeTree) (u : Use) (b : Bool) (a : Meaning S) → accesses t u ≡ b → IsSound e a → Makes g One S (expression_visits g.typing (indexed_role t (type_in g.typing e) u) e) (indexed_from (type_in g.typing e) b a)
  indexed_makes e t u b a h i = one (is_array (type_in g.typing e))
    where
      one : (c : Bool) → Makes g One S (expression_visits g.typing (if c then inner_role t u else reading) e) (λ r m. if c then and_then (a.place b r m) (λ x. gives (pos x)) else a.value r m)
      one true = makes_tail g One S (expression_visits g.typing (inner_role t u) e) (a.place b) _ (inner_place e t u b a h i) (λ x r m. refl)
      one false = i.value

  -- operators
  operator_sound : (e x y : ExprTree) (k : ℕ) (op : BinaryOp) (how : Operation) (a b : Meaning S) → expression_visits g.typing reading e ≡ both_visits (both_visits (expression_visits g.typing reading x) (expression_visits g.typing reading y)) (one_visit (at_expression k reading (s.binary op x y))) → IsSound x a → IsSound y b → IsSound e (operator_meaning g k (s.binary op x y) how a b)
  operator_sound e x y k op how a b is p q =
      let v = expression_visits g.typing reading x in
      let u = expression_visits g.typing reading y in
      let visit = at_expression k reading (s.binary op x y) in
      let own : (m n : ℤ) → Makes g One S (one_visit visit) (λ r st. operate g k (s.binary op x y) how m n r st) = λ m n. makes_went g One S (one_visit visit) _ _ (breaks_traced g One S k reading (s.binary op x y) true m n (pos 0) refl) in
      record {
        value = subst (λ z. Makes g One S z (operator_meaning g k (s.binary op x y) how a b).value) (sym is)
            (makes_two g One S v u (one_visit visit) a.value (λ m. b.value) (λ m n r st. operate g k (s.binary op x y) how m n r st) p.value (λ m. q.value) own);
        place = λ u b h. cut_makes (expression_visits g.typing (plainly u) e);
        sides = subst (λ z. Makes g One S z (operator_meaning g k (s.binary op x y) how a b).sides) (sym is)
            (makes_two g One S v u (one_visit visit) a.value (λ m. b.value) (λ m n r st. and_then (operate g k (s.binary op x y) how m n r st) (λ z. gives (record { number = z; left = m; right = n }))) p.value (λ m. q.value)
            (λ m n. makes_tail g One S (one_visit visit) (λ r st. operate g k (s.binary op x y) how m n r st) (λ z. gives {A = Sides} {S = S} (record { number = z; left = m; right = n })) (own m n) (λ z r st. refl)));
      }

  -- a comparison
  comparison_sound : (e x y : ExprTree) (k : ℕ) (op : BinaryOp) (cmp : CompareOp) (how : Operation) (found : Option Replaced) (a b : Meaning S) → expression_visits g.typing reading e ≡ both_visits (both_visits (expression_visits g.typing reading x) (expression_visits g.typing reading y)) (one_visit (at_expression k reading (s.binary op x y))) → sort_of op ≡ operates (comparing cmp) → found ≡ replacement g.typing x y → IsSound x a → IsSound y b → IsSound e (only (comparison_value g k cmp how found a b))
  comparison_sound e x y k op cmp how found a b is sort same p q =
      let visit = at_expression k reading (s.binary op x y) in
      only_sound e (comparison_value g k cmp how found a b)
      (subst (λ z. Makes g One S z (comparison_value g k cmp how found a b)) (sym is)
      (makes_two g One S (expression_visits g.typing reading x) (expression_visits g.typing reading y) (one_visit visit) a.sides (λ m. b.sides) _ p.sides (λ m. q.sides)
      (λ m n. makes_went g One S (one_visit visit) _ _ (record {
        says = λ d i. elim i [ inl j ↦ subst (Says g.typing g.without (one_visit visit)) (sym j) (refl, ap (sort_sees false) sort, subst (λ z. OtherSeen (sort_replacement g.typing z x y) (replaced_by g.typing cmp found m n)) (sym sort) (subst (λ z. OtherSeen z (replaced_by g.typing cmp found m n)) same (other_seen found _))) | inr j ↦ absurd j ];
        once = λ one d. (record { by = λ d i t. i }, tt);
      }))))

  -- the right operand of `&&` and `||`, where it is evaluated
  right_makes : (e : ExprTree) (a : Meaning S) → IsSound e a → Makes g One S (expression_visits g.typing as_arm e) (right_operand (node_of e) a)
  right_makes e a p = makes_arm g One S e (λ r m. and_then (a.value r m) (λ y. gives (bit (truth y)))) (makes_tail g One S (expression_visits g.typing reading e) a.value _ p.value (λ y r m. refl))

  joint_sound : (e x y : ExprTree) (visit : Visit) (a b : Meaning S) (value : List ℤ → S → Ran ℤ S) → expression_visits g.typing reading e ≡ both_visits (both_visits (expression_visits g.typing as_test x) (expression_visits g.typing as_arm y)) (one_visit visit) → Makes g One S (both_visits (expression_visits g.typing as_test x) (expression_visits g.typing as_arm y)) value → IsSound e (only value)
  joint_sound e x y visit a b value is p =
      only_sound e value (subst (λ z. Makes g One S z value) (sym is) (makes_left g One S (both_visits (expression_visits g.typing as_test x) (expression_visits g.typing as_arm y)) (one_visit visit) value p))

  and_makes : (x y : ExprTree) (a b : Meaning S) → IsSound x a → IsSound y b → Makes g One S (both_visits (expression_visits g.typing as_test x) (expression_visits g.typing as_arm y)) (and_value x (node_of y) a b)
  and_makes x y a b p q =
      makes_then g One S (expression_visits g.typing as_test x) (expression_visits g.typing as_arm y) (λ r m. controlled x (a.value r m)) _ (makes_test g One S x a.value p.value)
      (λ z. makes_if g One S (expression_visits g.typing as_arm y) (truth z) (right_operand (node_of y) b) (gives (pos 0)) (right_makes y b q) (makes_none g One S (expression_visits g.typing as_arm y) (gives (pos 0)) (λ r m. refl)))

  or_makes : (x y : ExprTree) (a b : Meaning S) → IsSound x a → IsSound y b → Makes g One S (both_visits (expression_visits g.typing as_test x) (expression_visits g.typing as_arm y)) (or_value x (node_of y) a b)
  or_makes x y a b p q =
      makes_then g One S (expression_visits g.typing as_test x) (expression_visits g.typing as_arm y) (λ r m. controlled x (a.value r m)) _ (makes_test g One S x a.value p.value)
      (λ z. makes_if g One S (expression_visits g.typing as_arm y) (truth z) (gives (pos 1)) (right_operand (node_of y) b) (makes_none g One S (expression_visits g.typing as_arm y) (gives (pos 1)) (λ r m. refl)) (right_makes y b q))

  binary_sound : (n : Node) (op : BinaryOp) (x y : ExprTree) (a b : Meaning S) → IsSound x a → IsSound y b → IsSound (s.expression n (s.binary op x y)) (binary_meaning g n.number op x y (sort_of op) a b)
  binary_sound n binary.Comma x y a b p q =
      let visit = at_expression n.number reading (s.binary binary.Comma x y) in
      only_sound _ _ (makes_left g One S (both_visits (expression_visits g.typing reading x) (expression_visits g.typing reading y)) (one_visit visit) _
      (makes_then g One S (expression_visits g.typing reading x) (expression_visits g.typing reading y) a.value _ p.value (λ m. q.value)))
  binary_sound n binary.OrElse x y a b p q = joint_sound _ x y _ a b _ refl (or_makes x y a b p q)
  binary_sound n binary.AndAlso x y a b p q = joint_sound _ x y _ a b _ refl (and_makes x y a b p q)
  binary_sound n binary.Or x y a b p q = operator_sound _ x y n.number binary.Or (operation_of g.typing (arithmetic arith_op.Or) (type_in g.typing x) (type_in g.typing y)) a b refl p q
  binary_sound n binary.Xor x y a b p q = operator_sound _ x y n.number binary.Xor (operation_of g.typing (arithmetic arith_op.Xor) (type_in g.typing x) (type_in g.typing y)) a b refl p q
  binary_sound n binary.And x y a b p q = operator_sound _ x y n.number binary.And (operation_of g.typing (arithmetic arith_op.And) (type_in g.typing x) (type_in g.typing y)) a b refl p q
  binary_sound n binary.Eq x y a b p q = comparison_sound _ x y n.number binary.Eq compare_op.Eq (operation_of g.typing (comparing compare_op.Eq) (type_in g.typing x) (type_in g.typing y)) (replacement g.typing x y) a b refl refl refl p q
  binary_sound n binary.Ne x y a b p q = comparison_sound _ x y n.number binary.Ne compare_op.Ne (operation_of g.typing (comparing compare_op.Ne) (type_in g.typing x) (type_in g.typing y)) (replacement g.typing x y) a b refl refl refl p q
  binary_sound n binary.Lt x y a b p q = comparison_sound _ x y n.number binary.Lt compare_op.Lt (operation_of g.typing (comparing compare_op.Lt) (type_in g.typing x) (type_in g.typing y)) (replacement g.typing x y) a b refl refl refl p q
  binary_sound n binary.Gt x y a b p q = comparison_sound _ x y n.number binary.Gt compare_op.Gt (operation_of g.typing (comparing compare_op.Gt) (type_in g.typing x) (type_in g.typing y)) (replacement g.typing x y) a b refl refl refl p q
  binary_sound n binary.Le x y a b p q = comparison_sound _ x y n.number binary.Le compare_op.Le (operation_of g.typing (comparing compare_op.Le) (type_in g.typing x) (type_in g.typing y)) (replacement g.typing x y) a b refl refl refl p q
  binary_sound n binary.Ge x y a b p q = comparison_sound _ x y n.number binary.Ge compare_op.Ge (operation_of g.typing (comparing compare_op.Ge) (type_in g.typing x) (type_in g.typing y)) (replacement g.typing x y) a b refl refl refl p q
  binary_sound n binary.Left x y a b p q = operator_sound _ x y n.number binary.Left (operation_of g.typing (shifting shift_op.Left) (type_in g.typing x) (type_in g.typing y)) a b refl p q
  binary_sound n binary.Right x y a b p q = operator_sound _ x y n.number binary.Right (operation_of g.typing (shifting shift_op.Right) (type_in g.typing x) (type_in g.typing y)) a b refl p q
  binary_sound n binary.Add x y a b p q = operator_sound _ x y n.number binary.Add (operation_of g.typing (arithmetic arith_op.Add) (type_in g.typing x) (type_in g.typing y)) a b refl p q
  binary_sound n binary.Sub x y a b p q = operator_sound _ x y n.number binary.Sub (operation_of g.typing (arithmetic arith_op.Sub) (type_in g.typing x) (type_in g.typing y)) a b refl p q
  binary_sound n binary.Mul x y a b p q = operator_sound _ x y n.number binary.Mul (operation_of g.typing (arithmetic arith_op.Mul) (type_in g.typing x) (type_in g.typing y)) a b refl p q
  binary_sound n binary.Div x y a b p q = operator_sound _ x y n.number binary.Div (operation_of g.typing (arithmetic arith_op.Div) (type_in g.typing x) (type_in g.typing y)) a b refl p q
  binary_sound n binary.Rem x y a b p q = operator_sound _ x y n.number binary.Rem (operation_of g.typing (arithmetic arith_op.Rem) (type_in g.typing x) (type_in g.typing y)) a b refl p q

  -- a value of an operand, and something without an entry of its own
  plain_value : (v : Visits) (visit : Visit) (value : List ℤ → S → Ran ℤ S) (F : ℤ → List ℤ → S → Ran ℤ S) → Makes g One S v value → ((x : ℤ) (r : List ℤ) (m : S) → trace_of (F x r m) ≡ []) → Makes g One S (both_visits v (one_visit visit)) (λ r m. and_then (value r m) F)
  plain_value v visit value F p h = makes_left g One S v (one_visit visit) _ (makes_tail g One S v value F p h)

  unary_sound : (n : Node) (op : UnaryOp) (e : ExprTree) (a : Meaning S) → IsSound e a → IsSound (s.expression n (s.unary op e)) (unary_meaning g w n.number op e a)
  unary_sound n unary.Address e a p =
      only_sound _ _ (makes_left g One S (expression_visits g.typing taking e) (one_visit (at_expression n.number reading (s.unary unary.Address e))) _ (makes_tail g One S (expression_visits g.typing taking e) (a.place false) _ (p.place taken false refl) (λ x r m. refl)))
  unary_sound n unary.Deref e a p =
      at_place_sound _ n.number (s.unary unary.Deref e) _ refl (λ u b h.
      makes_then g One S (expression_visits g.typing reading e) (one_visit (at_expression n.number (plainly u) (s.unary unary.Deref e))) a.value _ p.value
      (λ x. makes_went g One S (one_visit (at_expression n.number (plainly u) (s.unary unary.Deref e))) _ _ (breaks_traced g One S n.number (plainly u) (s.unary unary.Deref e) b x (pos 0) (pos 0) (ap (λ c. form_tests g.typing c (s.unary unary.Deref e)) h))))
  unary_sound n unary.Plus e a p = only_sound _ _ (plain_value (expression_visits g.typing reading e) (at_expression n.number reading (s.unary unary.Plus e)) a.value _ p.value (λ x r m. refl))
  unary_sound n unary.Minus e a p =
      only_sound _ _ (makes_then g One S (expression_visits g.typing reading e) (one_visit (at_expression n.number reading (s.unary unary.Minus e))) a.value _ p.value
      (λ x. makes_went g One S (one_visit (at_expression n.number reading (s.unary unary.Minus e))) _ _ (breaks_traced g One S n.number reading (s.unary unary.Minus e) true x (pos 0) (pos 0) refl)))
  unary_sound n unary.Flip e a p = only_sound _ _ (plain_value (expression_visits g.typing reading e) (at_expression n.number reading (s.unary unary.Flip e)) a.value _ p.value (λ x r m. refl))
  unary_sound n unary.Not e a p = only_sound _ _ (plain_value (expression_visits g.typing reading e) (at_expression n.number reading (s.unary unary.Not e)) a.value _ p.value (λ x r m. refl))

  name_sound : (n : Node) (at : Span) (object : ℕ) (o : Option ℤ) → IsSound (s.expression n (s.name at)) (name_meaning g w n.number (s.name at) object o)
  name_sound n at object (Some z) = only_sound _ _ (makes_none g One S _ _ (λ r m. refl))
  name_sound n at object None = at_place_sound _ n.number (s.name at) _ refl (λ u b h. makes_none g One S _ _ (λ r m. refl))

  -- `++` and `--`
  step_makes : (k : ℕ) (op : StepOp) (e : ExprTree) (a : Meaning S) → IsNoArray g.typing e → IsSound e a → Makes g One S (both_visits (expression_visits g.typing reading e) (one_visit (at_expression k reading (s.step op e)))) (step_value g w k op e a)
  step_makes k op e a h p =
      let visit = at_expression k reading (s.step op e) in
      makes_then g One S (expression_visits g.typing reading e) (one_visit visit) (a.place true) _ (read_place e a h p)
      (λ place. makes_behind g One S (one_visit visit) (λ r m. number_in w (target_of g e) (node_of (bare e)) (number_kind (type_in g.typing e)) place r m) _ (λ r m. told_none w (target_of g e) (node_of (bare e)) (number_kind (type_in g.typing e)) place r m)
      (λ x. makes_entries g One S (one_visit visit) _ _ (breaks_traced g One S k reading (s.step op e) true x (pos 1) (pos 0) refl) (λ r m. stored_none w (target_of g e) (number_kind (type_in g.typing e)) place _ _ r m)))

  -- assignments: the right side first
  plain_makes : (e x y : ExprTree) (k : ℕ) (op : AssignOp) (a b : Meaning S) → IsSound x a → IsSound y b → Makes g One S (both_visits (both_visits (expression_visits g.typing accessing x) (expression_visits g.typing reading y)) (one_visit (at_expression k reading (s.assign op x y)))) (plain_assigned g w x a b)
  plain_makes e x y k op a b p q =
      let v = expression_visits g.typing accessing x in
      let u = expression_visits g.typing reading y in
      let visit = at_expression k reading (s.assign op x y) in
      makes_crossed g One S v u (one_visit visit) _
      (makes_then g One S u (both_visits v (one_visit visit)) b.value _ q.value
      (λ m. makes_then g One S v (one_visit visit) (a.place true) _ (p.place accessed true refl)
      (λ place. makes_none g One S (one_visit visit) _ (λ r st. stored_none w (target_of g x) (number_kind (type_in g.typing x)) place _ _ r st))))

  compound_makes : (x y : ExprTree) (k : ℕ) (op : AssignOp) (how : Operation) (a b : Meaning S) → ((c d : Bool) → form_tests g.typing c (s.assign op x y) ≡ form_tests g.typing d (s.assign op x y)) → IsNoArray g.typing x → IsSound x a → IsSound y b → Makes g One S (both_visits (both_visits (expression_visits g.typing reading x) (expression_visits g.typing reading y)) (one_visit (at_expression k reading (s.assign op x y)))) (compound_assigned g w k (s.assign op x y) how x a b)
  compound_makes x y k op how a b same h p q =
      let v = expression_visits g.typing reading x in
      let u = expression_visits g.typing reading y in
      let visit = at_expression k reading (s.assign op x y) in
      makes_crossed g One S v u (one_visit visit) _
      (makes_then g One S u (both_visits v (one_visit visit)) b.value _ q.value
      (λ m. makes_then g One S v (one_visit visit) (a.place true) _ (read_place x a h p)
      (λ place. makes_behind g One S (one_visit visit) (λ r st. number_in w (target_of g x) (node_of (bare x)) (number_kind (type_in g.typing x)) place r st) _ (λ r st. told_none w (target_of g x) (node_of (bare x)) (number_kind (type_in g.typing x)) place r st)
      (λ z. makes_entries g One S (one_visit visit) _ _ (breaks_traced g One S k reading (s.assign op x y) true z m (pos 0) (same (accesses (g.typing.type_at k) read) true)) (λ r st. stored_none w (target_of g x) (number_kind (type_in g.typing x)) place _ _ r st)))))

  assigned_sound : (n : Node) (op : AssignOp) (x y : ExprTree) (a b : Meaning S) → IsNoArray g.typing x → IsSound x a → IsSound y b → IsSound (s.expression n (s.assign op x y)) (only (assigned_value g w n.number op x y (assigned_operator op) a b))
  assigned_sound n assign.Plain x y a b h p q = only_sound _ _ (plain_makes x x y n.number assign.Plain a b p q)
  assigned_sound n assign.Mul x y a b h p q = only_sound _ _ (compound_makes x y n.number assign.Mul (operation_of g.typing (arithmetic arith_op.Mul) (type_in g.typing x) (type_in g.typing y)) a b (λ c d. refl) h p q)
  assigned_sound n assign.Div x y a b h p q = only_sound _ _ (compound_makes x y n.number assign.Div (operation_of g.typing (arithmetic arith_op.Div) (type_in g.typing x) (type_in g.typing y)) a b (λ c d. refl) h p q)
  assigned_sound n assign.Rem x y a b h p q = only_sound _ _ (compound_makes x y n.number assign.Rem (operation_of g.typing (arithmetic arith_op.Rem) (type_in g.typing x) (type_in g.typing y)) a b (λ c d. refl) h p q)
  assigned_sound n assign.Add x y a b h p q = only_sound _ _ (compound_makes x y n.number assign.Add (operation_of g.typing (arithmetic arith_op.Add) (type_in g.typing x) (type_in g.typing y)) a b (λ c d. refl) h p q)
  assigned_sound n assign.Sub x y a b h p q = only_sound _ _ (compound_makes x y n.number assign.Sub (operation_of g.typing (arithmetic arith_op.Sub) (type_in g.typing x) (type_in g.typing y)) a b (λ c d. refl) h p q)
  assigned_sound n assign.Left x y a b h p q = only_sound _ _ (compound_makes x y n.number assign.Left (operation_of g.typing (shifting shift_op.Left) (type_in g.typing x) (type_in g.typing y)) a b (λ c d. refl) h p q)
  assigned_sound n assign.Right x y a b h p q = only_sound _ _ (compound_makes x y n.number assign.Right (operation_of g.typing (shifting shift_op.Right) (type_in g.typing x) (type_in g.typing y)) a b (λ c d. refl) h p q)
  assigned_sound n assign.And x y a b h p q = only_sound _ _ (compound_makes x y n.number assign.And (operation_of g.typing (arithmetic arith_op.And) (type_in g.typing x) (type_in g.typing y)) a b (λ c d. refl) h p q)
  assigned_sound n assign.Xor x y a b h p q = only_sound _ _ (compound_makes x y n.number assign.Xor (operation_of g.typing (arithmetic arith_op.Xor) (type_in g.typing x) (type_in g.typing y)) a b (λ c d. refl) h p q)
  assigned_sound n assign.Or x y a b h p q = only_sound _ _ (compound_makes x y n.number assign.Or (operation_of g.typing (arithmetic arith_op.Or) (type_in g.typing x) (type_in g.typing y)) a b (λ c d. refl) h p q)

  -- calls
  call_makes : (k : ℕ) (e : ExprTree) (es : ExprTrees) (arguments : List ℤ → S → Ran (List ℤ) S) → Makes g One S (arguments_visits g.typing es) arguments → Makes g One S (both_visits (arguments_visits g.typing es) (one_visit (at_expression k reading (s.call e es)))) (call_value g w k e es arguments)
  call_makes k e es arguments p =
      let visit = at_expression k reading (s.call e es) in
      makes_then g One S (arguments_visits g.typing es) (one_visit visit) arguments _ p
      (λ xs. makes_entries g One S (one_visit visit) _ _ (breaks_traced g One S k reading (s.call e es) true (get_or xs 0 (pos 0)) (get_or xs 1 (pos 0)) (get_or xs 2 (pos 0)) refl)
      (λ r m. if_none (never_returns (called_signature g.typing e)) _ _ refl (returned_none w k (result_in (called_signature g.typing e)) (called_library g.typing e) xs r m)))

  -- `?:`
  branch_makes : (t : TypeTree) (e : ExprTree) (a : Meaning S) → IsSound e a → Makes g One S (expression_visits g.typing as_arm e) (branch_value t (node_of e) a)
  branch_makes t e a p = makes_arm g One S e (λ r m. and_then (a.value r m) (λ y. gives (converted t y))) (makes_tail g One S (expression_visits g.typing reading e) a.value _ p.value (λ y r m. refl))

  choice_makes : (t : TypeTree) (x y z : ExprTree) (a b c : Meaning S) → IsSound x a → IsSound y b → IsSound z c → Makes g One S (both_visits (expression_visits g.typing as_test x) (both_visits (expression_visits g.typing as_arm y) (expression_visits g.typing as_arm z))) (λ r m. and_then (controlled x (a.value r m)) (λ v r m. if truth v then branch_value t (node_of y) b r m else branch_value t (node_of z) c r m))
  choice_makes t x y z a b c p q o =
      let u = expression_visits g.typing as_arm y in
      let v = expression_visits g.typing as_arm z in
      makes_then g One S (expression_visits g.typing as_test x) (both_visits u v) (λ r m. controlled x (a.value r m)) _ (makes_test g One S x a.value p.value)
      (λ i. makes_if g One S (both_visits u v) (truth i) (branch_value t (node_of y) b) (branch_value t (node_of z) c) (makes_left g One S u v _ (branch_makes t y b q)) (makes_right g One S u v _ (branch_makes t z c o)))

  mutual
    pub sound : (e : ExprTree) → EachVisit (VisitHasScalarOperand g.typing) (expression_visits g.typing reading e) → IsSound e (meaning g w e)
    sound (s.expression n f) h = form_sound n f h

    form_sound : (n : Node) (f : ExprFormTree) → EachVisit (VisitHasScalarOperand g.typing) (expression_visits g.typing reading (s.expression n f)) → IsSound (s.expression n f) (form_meaning g w n.number f)
    form_sound n (s.name at) h = name_sound n at (object_named g n.number at) (g.typing.number_at n.number)
    form_sound n (s.number at) h = only_sound _ _ (makes_none g One S _ _ (λ r m. refl))
    form_sound n (s.character at) h = only_sound _ _ (makes_none g One S _ _ (λ r m. refl))
    form_sound n (s.text parts) h = at_place_sound _ n.number (s.text parts) _ refl (λ u b i. makes_none g One S _ _ (λ r m. refl))
    form_sound n (s.paren e) h =
        let p = sound e h.0 in
        record {
          value = makes_left g One S (expression_visits g.typing reading e) (one_visit (at_expression n.number reading (s.paren e))) _ p.value;
          place = λ u b i. makes_left g One S (expression_visits g.typing (plainly u) e) (one_visit (at_expression n.number (plainly u) (s.paren e))) _ (p.place u b i);
          sides = makes_left g One S (expression_visits g.typing reading e) (one_visit (at_expression n.number reading (s.paren e))) _ p.sides;
        }
    form_sound n (s.index x y) h =
        let p = sound x (each_role g.typing x _ reading h.0.0) in
        let q = sound y h.0.1 in
        at_place_sound _ n.number (s.index x y) _ refl (λ u b i.
        let v = expression_visits g.typing (indexed_role (g.typing.type_at n.number) (type_in g.typing x) u) x in
        let visit = at_expression n.number (plainly u) (s.index x y) in
        makes_two g One S v (expression_visits g.typing reading y) (one_visit visit) (indexed_from (type_in g.typing x) b (meaning g w x)) (λ m. (meaning g w y).value) _ (indexed_makes x (g.typing.type_at n.number) u b (meaning g w x) i p) (λ m. q.value)
        (λ m k. makes_went g One S (one_visit visit) _ _ (breaks_traced g One S n.number (plainly u) (s.index x y) b m k (pos 0) (ap (λ c. form_tests g.typing c (s.index x y)) i))))
    form_sound n (s.call e es) h = only_sound _ _ (call_makes n.number e es _ (arguments_sound (parameters_in (called_signature g.typing e)) es h.0))
    form_sound n (s.dot e at) h =
        let p = sound e (each_role g.typing e _ reading h.0) in
        at_place_sound _ n.number (s.dot e at) _ refl (λ u b i.
        let v = expression_visits g.typing (inner_role (g.typing.type_at n.number) u) e in
        makes_left g One S v (one_visit (at_expression n.number (plainly u) (s.dot e at))) _
        (makes_tail g One S v ((meaning g w e).place b) _ (inner_place e (g.typing.type_at n.number) u b (meaning g w e) i p) (λ x r m. refl)))
    form_sound n (s.arrow e at) h =
        let p = sound e h.0 in
        at_place_sound _ n.number (s.arrow e at) _ refl (λ u b i.
        let visit = at_expression n.number (plainly u) (s.arrow e at) in
        makes_then g One S (expression_visits g.typing reading e) (one_visit visit) (meaning g w e).value _ p.value
        (λ x. makes_went g One S (one_visit visit) _ _ (breaks_traced g One S n.number (plainly u) (s.arrow e at) b x (pos 0) (pos 0) (ap (λ c. form_tests g.typing c (s.arrow e at)) i))))
    form_sound n (s.step op e) h = only_sound _ _ (step_makes n.number op e (meaning g w e) h.1 (sound e h.0))
    form_sound n (s.unary op e) h = unary_sound n op e (meaning g w e) (sound e (each_role g.typing e _ reading h.0))
    form_sound n (s.size_expression e) h = only_sound _ _ (makes_none g One S _ _ (λ r m. refl))
    form_sound n (s.size_name t) h = only_sound _ _ (makes_none g One S _ _ (λ r m. refl))
    form_sound n (s.cast t e) h =
        let p = sound e h.0.1 in
        only_sound _ _ (plain_value (both_visits (type_name_visits g.typing t) (expression_visits g.typing reading e)) (at_expression n.number reading (s.cast t e)) (meaning g w e).value _
        (makes_right g One S (type_name_visits g.typing t) (expression_visits g.typing reading e) _ p.value) (λ x r m. refl))
    form_sound n (s.binary op x y) h = binary_sound n op x y (meaning g w x) (meaning g w y) (sound x (each_role g.typing x _ reading h.0.0)) (sound y (each_role g.typing y _ reading h.0.1))
    form_sound n (s.choice x y z) h =
        only_sound _ _ (makes_left g One S _ (one_visit (at_expression n.number reading (s.choice x y z))) _
        (choice_makes (g.typing.type_at n.number) x y z (meaning g w x) (meaning g w y) (meaning g w z) (sound x (each_role g.typing x _ reading h.0.0)) (sound y (each_role g.typing y _ reading h.0.1.0)) (sound z (each_role g.typing z _ reading h.0.1.1))))
    form_sound n (s.assign op x y) h = assigned_sound n op x y (meaning g w x) (meaning g w y) h.1 (sound x (each_role g.typing x _ reading h.0.0)) (sound y h.0.1)

    arguments_sound : (ts : TypeTrees) (es : ExprTrees) → EachVisit (VisitHasScalarOperand g.typing) (arguments_visits g.typing es) → Makes g One S (arguments_visits g.typing es) (arguments_values g w ts es)
    arguments_sound ts s.no_expressions h = makes_none g One S _ _ (λ r m. refl)
    arguments_sound ts (s.then_expression e es) h =
        let p = sound e h.0 in
        makes_then g One S (expression_visits g.typing reading e) (arguments_visits g.typing es) (meaning g w e).value _ p.value
        (λ x. makes_tail g One S (arguments_visits g.typing es) (arguments_values g w (later_parameters ts) es) _ (arguments_sound (later_parameters ts) es h.1) (λ xs r m. refl))
