-- Path runs show what executions do, by cases on the expression.
use Rattle.std.proofs.Common.{◌≡◌, ℕ, ◌+◌, ◌^◌, ◌<◌, Bool, true, false, List, [], ◌∷◌, ℤ, pos, negsuc, Option, Some, None, refl, sym, ap, ◌∙◌, subst, inl, arith}
use Rattle.std.specs.Prelude.{if◌then◌else◌, get_or, not, ◌-ℤ◌, unwrap_or}
use Rattle.std.proofs.Math.Nat.{mod-eq_of_lt}
use Rattle.stk_base.specs.declared.span.Span.{Span}
use Rattle.stk_ctype.specs.Types.{TypeTree, void_type, integer_type, pointer_type, array_type, struct_type, function_type, TypeTrees}
use Rattle.stk_tree.specs.declared.node.Node.{Node}
use Rattle.stk_tree.specs.declared.expression.UnaryOp.{UnaryOp}
use Rattle.stk_tree.specs.declared.expression.UnaryOp.TheVariants as unary
use Rattle.stk_tree.specs.declared.expression.AssignOp.{AssignOp}
use Rattle.stk_tree.specs.declared.expression.AssignOp.TheVariants as assign
use Rattle.stk_tree.specs.declared.expression.StepOp.{StepOp}
use Rattle.stk_tree.specs.Syntax.{ExprTree, ExprTrees, ExprFormTree}
use Rattle.stk_tree.specs.Syntax as s
use Rattle.stk_numbers.specs.declared.operators.ArithOp.TheVariants as arith_op
use Rattle.stk_numbers.specs.declared.operators.ShiftOp.TheVariants as shift_op
use Rattle.stk_numbers.specs.Kinds.{wrap, promote}
use Rattle.stk_numbers.specs.Values.{moved, absolute}
use Rattle.stk_type_rules.specs.Types.{is_scalar}
use Rattle.stk_meaning.specs.declared.entry.Entry.{Entry}
use Rattle.stk_meaning.specs.Typings.{node_of, type_in, number_kind, is_array, converted, stride_in, pointed}
use Rattle.stk_meaning.specs.Operations.{Operation, arithmetic, shifting, in_kind, assigned_operator, operation_of, step_operation, operated, truth, bit, gives_old, to_address}
use Rattle.stk_meaning.specs.Places.{Target, in_register, in_kept, in_object, unnamed, target_of, member_target}
use Rattle.stk_meaning.specs.Libraries.{Library, absolute_in, copy_bytes, called_library, called_signature, parameters_in, result_in, never_returns}
use Rattle.stk_meaning.specs.Visits.{Use, read, accessed, taken, reading, accessing, taking, as_arm, as_test, inner_role, indexed_role, Visit, at_expression, Visits, no_visit, one_visit, both_visits, expression_visits, arguments_visits, type_name_visits}
use Rattle.stk_meaning.specs.Changes.{call_changes}
use Rattle.stk_meaning.specs.Worlds.{Ran, Went, Cut, and_then, gives}
use Rattle.stk_meaning.specs.Expressions.{Meaning, only, breaks, at_place, controlled, branch_value, unary_meaning, indexed_from, index_place, step_value, plain_assigned, compound_assigned, assigned_value, call_value, returned, later_parameters, passed, meaning, form_meaning, arguments_values}
use Rattle.stk_meaning.specs.Keys.{call_key, result_keys, number_info}
use Rattle.stk_meaning.specs.Paths.{InputMap, KeptNumbers, path_world}
use Rattle.stk_meaning.specs.Executions.{Outside}
use Rattle.stk_run_laws.proofs.WellTyped.{offset_in}
use Rattle.stk_run_laws.proofs.Maps.{Ground, IsListed, Good, good_left}
use Rattle.stk_run_laws.proofs.Parts.{Part, part_as, part_if, part_then, part_seq, part_tail, part_went, part_cut, part_choose, reframes_left, reframes_right}
use Rattle.stk_run_laws.proofs.Leaves.{real, part_address, part_call, part_write, part_store}
use Rattle.stk_run_laws.proofs.Frames.{inner_visits, reframes_first, reframes_crossed, reframes_inner, part_after}
use Rattle.stk_run_laws.proofs.Places.{ends_map, ends_then, ends_all, AddressIs, listed_in, PlaceIs, stores_well, part_update}
use Rattle.stk_run_laws.proofs.GatheredExpressions.{plainly, IsSound, only_sound, place_whole, inner_part, at_place_sound, own_reads, own_place, name_sound, arm_part, test_part, whole_sound, binary_sound}

module _ (c : Ground) (n : ℕ) where
  -- a value of an operand, and something that is found from it, with entries
  tail_sound : (e : ExprTree) (v : Visits) (visit : Visit) (value : List ℤ → Outside → Ran ℤ Outside) (values : InputMap → List ℤ → KeptNumbers → Ran ℤ KeptNumbers) (f : ℤ → ℤ) (t : ℤ → List Entry) → expression_visits c.setting.typing reading e ≡ both_visits v (one_visit visit) → Part c (Unit {0}) v value values → IsSound c n e (only (λ r s. and_then (value r s) (λ x r s. Went (f x) r s (t x)))) (λ m. only (λ r kept. and_then (values m r kept) (λ x r kept. Went (f x) r kept (t x))))
  tail_sound e v visit value values f t is a = whole_sound c n e v visit _ _ is (part_tail c (Unit {0}) v value values (λ x r. f x) t a)

  unary_sound : (k : Node) (op : UnaryOp) (e : ExprTree) (a : Meaning Outside) (p : InputMap → Meaning KeptNumbers) → IsSound c n e a p → IsSound c n (s.expression k (s.unary op e)) (unary_meaning c.setting (real c n) k.number op e a) (λ m. unary_meaning c.setting (path_world m) k.number op e (p m))
  unary_sound k unary.Address e a p h =
      whole_sound c n (s.expression k (s.unary unary.Address e)) (expression_visits c.setting.typing taking e) (at_expression k.number reading (s.unary unary.Address e)) _ _ refl
      (part_tail c (Unit {0}) (expression_visits c.setting.typing taking e) (a.place false) (λ m. (p m).place false) (λ x r. pos x) (λ x. []) (place_whole c n e a p h taken false))
  unary_sound k unary.Deref e a p h =
      let f = s.unary unary.Deref e in
      let v = expression_visits c.setting.typing reading e in
      at_place_sound c n k f _ _ (λ u. refl)
      (λ u b. part_if c (Unit {0}) _ v _ _ (λ q g. tt) (part_tail c (Unit {0}) v a.value (λ m. (p m).value) (λ x r. to_address x) (λ x. breaks c.setting k.number b f x (pos 0) (pos 0)) h.value))
      (λ b r st. ends_all (PlaceIs c (s.expression k f)) (a.value r st) _ (λ x r st. own_place c n k f (to_address x) refl refl tt))
      (own_reads c n k.number f refl (λ q e. cc) (λ g. g.typed))
  unary_sound k unary.Plus e a p h = tail_sound (s.expression k (s.unary unary.Plus e)) (expression_visits c.setting.typing reading e) (at_expression k.number reading (s.unary unary.Plus e)) a.value (λ m. (p m).value) (λ x. converted (c.setting.typing.type_at k.number) x) (λ x. []) refl h.value
  unary_sound k unary.Minus e a p h =
      tail_sound (s.expression k (s.unary unary.Minus e)) (expression_visits c.setting.typing reading e) (at_expression k.number reading (s.unary unary.Minus e)) a.value (λ m. (p m).value)
      (λ x. operated (in_kind arith_op.Sub (promote (number_kind (type_in c.setting.typing e)))) (pos 0) x) (λ x. breaks c.setting k.number true (s.unary unary.Minus e) x (pos 0) (pos 0)) refl h.value
  unary_sound k unary.Flip e a p h = tail_sound (s.expression k (s.unary unary.Flip e)) (expression_visits c.setting.typing reading e) (at_expression k.number reading (s.unary unary.Flip e)) a.value (λ m. (p m).value) (λ x. wrap (promote (number_kind (type_in c.setting.typing e))) (negsuc 0 -ℤ x)) (λ x. []) refl h.value
  unary_sound k unary.Not e a p h = tail_sound (s.expression k (s.unary unary.Not e)) (expression_visits c.setting.typing reading e) (at_expression k.number reading (s.unary unary.Not e)) a.value (λ m. (p m).value) (λ x. bit (not (truth x))) (λ x. []) refl h.value

  -- `e[e]`
  indexed_part : (e : ExprTree) (a : Meaning Outside) (p : InputMap → Meaning KeptNumbers) → IsSound c n e a p → (t : TypeTree) (u : Use) (b : Bool) → Part c (Unit {0}) (expression_visits c.setting.typing (indexed_role t (type_in c.setting.typing e) u) e) (indexed_from (type_in c.setting.typing e) b a) (λ m. indexed_from (type_in c.setting.typing e) b (p m))
  indexed_part e a p h t u b = by (is_array (type_in c.setting.typing e))
    where
      by : (d : Bool) → Part c (Unit {0}) (expression_visits c.setting.typing (if d then inner_role t u else reading) e) (λ r s. if d then and_then (a.place b r s) (λ x. gives (pos x)) else a.value r s) (λ m r kept. if d then and_then ((p m).place b r kept) (λ x. gives (pos x)) else (p m).value r kept)
      by true = part_tail c (Unit {0}) (expression_visits c.setting.typing (inner_role t u) e) (a.place b) (λ m. (p m).place b) (λ x r. pos x) (λ x. []) (inner_part c n e a p h t u b)
      by false = h.value

  index_sound : (k : Node) (x y : ExprTree) (a b : Meaning Outside) (p q : InputMap → Meaning KeptNumbers) → IsSound c n x a p → IsSound c n y b q → IsSound c n (s.expression k (s.index x y)) (at_place c.setting (real c n) k.number (s.index x y) (index_place c.setting k.number x y a b)) (λ m. at_place c.setting (path_world m) k.number (s.index x y) (index_place c.setting k.number x y (p m) (q m)))
  index_sound k x y a b p q h i =
      let f = s.index x y in
      let w = expression_visits c.setting.typing reading y in
      at_place_sound c n k f _ _ (λ u. refl)
      (λ u d. let v = expression_visits c.setting.typing (indexed_role (c.setting.typing.type_at k.number) (type_in c.setting.typing x) u) x in
      part_if c (Unit {0}) _ (both_visits v w) _ _ (λ z g. tt)
      (part_seq c (Unit {0}) v w (indexed_from (type_in c.setting.typing x) d a) (λ m. indexed_from (type_in c.setting.typing x) d (p m)) _ _ (indexed_part x a p h (c.setting.typing.type_at k.number) u d)
      (λ z. part_tail c (Unit {0}) w b.value (λ m. (q m).value) (λ j r. moved (to_address z) j (stride_in c.setting.typing (type_in c.setting.typing x)) false) (λ j. breaks c.setting k.number d f z j (pos 0)) i.value)))
      (λ d r st. ends_all (PlaceIs c (s.expression k f)) (indexed_from (type_in c.setting.typing x) d a r st) _ (λ z r st. ends_all (PlaceIs c (s.expression k f)) (b.value r st) _ (λ j r st. own_place c n k f (moved (to_address z) j (stride_in c.setting.typing (type_in c.setting.typing x)) false) refl refl tt)))
      (own_reads c n k.number f refl (λ q e. cc) (λ g. g.typed))

  -- members
  member_unkept : (t : Target) (q : ℕ) → member_target t ≡ in_kept q → ⊥
  member_unkept (in_register i) q e = cc
  member_unkept (in_kept p) q e = cc
  member_unkept (in_object o) q e = cc
  member_unkept unnamed q e = cc

  member_address : (t : Target) (offset d x : ℕ) → AddressIs c t offset x → AddressIs c (member_target t) (offset + d) (to_address (pos (x + d)))
  member_address (in_register i) offset d x h = tt
  member_address (in_kept q) offset d x h = tt
  member_address (in_object o) offset d x h = (
    (λ l. let same : x ≡ c.addresses o + offset = h.0 (omega arith) in
        let less : x + d < 2 ^ 64 = omega arith in
        mod-eq_of_lt less ∙ omega arith),
    h.1,
  )
  member_address unnamed offset d x h = tt

  dot_sound : (k : Node) (e : ExprTree) (at : Span) (a : Meaning Outside) (p : InputMap → Meaning KeptNumbers) → IsSound c n e a p → IsSound c n (s.expression k (s.dot e at)) (at_place c.setting (real c n) k.number (s.dot e at) (λ b r m. and_then (a.place b r m) (λ x. gives (to_address (pos (x + c.setting.typing.offset_of (type_in c.setting.typing e) at)))))) (λ m. at_place c.setting (path_world m) k.number (s.dot e at) (λ b r kept. and_then ((p m).place b r kept) (λ x. gives (to_address (pos (x + c.setting.typing.offset_of (type_in c.setting.typing e) at))))))
  dot_sound k e at a p h =
      let f = s.dot e at in
      let d = c.setting.typing.offset_of (type_in c.setting.typing e) at in
      at_place_sound c n k f _ _ (λ u. refl)
      (λ u b. let v = expression_visits c.setting.typing (inner_role (c.setting.typing.type_at k.number) u) e in
      part_if c (Unit {0}) _ v _ _ (λ q g. tt) (part_tail c (Unit {0}) v (a.place b) (λ m. (p m).place b) (λ x r. to_address (pos (x + d))) (λ x. []) (inner_part c n e a p h (c.setting.typing.type_at k.number) u b)))
      (λ b r st. ends_then (PlaceIs c e) (PlaceIs c (s.expression k f)) (a.place b r st) _ (λ x r st i. own_place c n k f (to_address (pos (x + d))) refl refl (member_address (target_of c.setting e) (offset_in c.setting.typing e) d x i.address)) (h.known b r st))
      (own_reads c n k.number f refl (λ q e'. member_unkept (target_of c.setting e) q e') (λ g. g.typed))

  arrow_sound : (k : Node) (e : ExprTree) (at : Span) (a : Meaning Outside) (p : InputMap → Meaning KeptNumbers) → IsSound c n e a p → IsSound c n (s.expression k (s.arrow e at)) (at_place c.setting (real c n) k.number (s.arrow e at) (λ b r m. and_then (a.value r m) (λ x r m. Went (to_address (pos (to_address x + c.setting.typing.offset_of (pointed (type_in c.setting.typing e)) at))) r m (breaks c.setting k.number b (s.arrow e at) x (pos 0) (pos 0))))) (λ m. at_place c.setting (path_world m) k.number (s.arrow e at) (λ b r kept. and_then ((p m).value r kept) (λ x r kept. Went (to_address (pos (to_address x + c.setting.typing.offset_of (pointed (type_in c.setting.typing e)) at))) r kept (breaks c.setting k.number b (s.arrow e at) x (pos 0) (pos 0)))))
  arrow_sound k e at a p h =
      let f = s.arrow e at in
      let d = c.setting.typing.offset_of (pointed (type_in c.setting.typing e)) at in
      let v = expression_visits c.setting.typing reading e in
      at_place_sound c n k f _ _ (λ u. refl)
      (λ u b. part_if c (Unit {0}) _ v _ _ (λ q g. tt) (part_tail c (Unit {0}) v a.value (λ m. (p m).value) (λ x r. to_address (pos (to_address x + d))) (λ x. breaks c.setting k.number b f x (pos 0) (pos 0)) h.value))
      (λ b r st. ends_all (PlaceIs c (s.expression k f)) (a.value r st) _ (λ x r st. own_place c n k f (to_address (pos (to_address x + d))) refl refl tt))
      (own_reads c n k.number f refl (λ q e. cc) (λ g. g.typed))

  -- a string: it is an array, whose address is its value
  no_scalar : (t : TypeTree) → is_array t ≡ true → is_scalar t ≡ true → ⊥
  no_scalar void_type p q = cc
  no_scalar (integer_type k) p q = cc
  no_scalar (pointer_type t) p q = cc
  no_scalar (array_type t count) p q = cc
  no_scalar (struct_type id) p q = cc
  no_scalar (function_type f) p q = cc

  text_sound : (k : Node) (parts : List Span) → IsSound c n (s.expression k (s.text parts)) (at_place c.setting (real c n) k.number (s.text parts) (λ b. gives ((real c n).address k.number))) (λ m. at_place c.setting (path_world m) k.number (s.text parts) (λ b. gives ((path_world m).address k.number)))
  text_sound k parts =
      at_place_sound c n k (s.text parts) _ _ (λ u. refl)
      (λ u b. part_address c n (Good c (expression_visits c.setting.typing (plainly u) (s.expression k (s.text parts)))) no_visit k.number (λ q g. q.typed.1.1))
      (λ b r st. record { address = tt; loads = λ g scalar no. absurd (no_scalar (c.setting.typing.type_at k.number) g.typed.1.0 scalar) })
      (λ g. record { listed = λ none no. let both = g.typed.0 in absurd cc; kept = λ q e. absurd cc })

  -- ---- assignments

  step_sound : (k : Node) (op : StepOp) (e : ExprTree) (a : Meaning Outside) (p : InputMap → Meaning KeptNumbers) → IsSound c n e a p → IsSound c n (s.expression k (s.step op e)) (only (step_value c.setting (real c n) k.number op e a)) (λ m. only (step_value c.setting (path_world m) k.number op e (p m)))
  step_sound k op e a p h =
      let t = type_in c.setting.typing e in
      only_sound c n (s.expression k (s.step op e)) _ _
      (part_update c n e (at_expression k.number reading (s.step op e)) (a.place true) (λ m. (p m).place true) (λ x. breaks c.setting k.number true (s.step op e) x (pos 1) (pos 0))
      (λ x. operated (step_operation c.setting.typing op t) x (pos 1)) (λ x. if gives_old op then x else converted t (operated (step_operation c.setting.typing op t) x (pos 1)))
      (h.place read true) (λ r st. h.known true r st) (λ y e. e) (λ g. g.typed))

  compound_part : (k : Node) (op : AssignOp) (x y : ExprTree) (how : Operation) (a b : Meaning Outside) (p q : InputMap → Meaning KeptNumbers) → IsSound c n x a p → IsSound c n y b q → Part c (Unit {0}) (both_visits (both_visits (expression_visits c.setting.typing reading x) (expression_visits c.setting.typing reading y)) (one_visit (at_expression k.number reading (s.assign op x y)))) (compound_assigned c.setting (real c n) k.number (s.assign op x y) how x a b) (λ m. compound_assigned c.setting (path_world m) k.number (s.assign op x y) how x (p m) (q m))
  compound_part k op x y how a b p q h i =
      let t = type_in c.setting.typing x in
      let v = expression_visits c.setting.typing reading x in
      let w = expression_visits c.setting.typing reading y in
      let visit = at_expression k.number reading (s.assign op x y) in
      part_as c (Unit {0}) (both_visits w (both_visits v (one_visit visit))) (both_visits (both_visits v w) (one_visit visit)) _ _ (reframes_crossed c v w (one_visit visit))
      (part_seq c (Unit {0}) w (both_visits v (one_visit visit)) b.value (λ m. (q m).value) _ _ i.value
      (λ z. part_update c n x visit (a.place true) (λ m. (p m).place true) (λ j. breaks c.setting k.number true (s.assign op x y) j z (pos 0))
      (λ j. operated how j z) (λ j. converted t (operated how j z)) (h.place read true) (λ r st. h.known true r st) (λ y e. e) (λ g. g.typed)))

  plain_part : (k : Node) (op : AssignOp) (x y : ExprTree) (a b : Meaning Outside) (p q : InputMap → Meaning KeptNumbers) → IsSound c n x a p → IsSound c n y b q → Part c (Unit {0}) (both_visits (both_visits (expression_visits c.setting.typing accessing x) (expression_visits c.setting.typing reading y)) (one_visit (at_expression k.number reading (s.assign op x y)))) (plain_assigned c.setting (real c n) x a b) (λ m. plain_assigned c.setting (path_world m) x (p m) (q m))
  plain_part k op x y a b p q h i =
      let t = type_in c.setting.typing x in
      let v = expression_visits c.setting.typing accessing x in
      let j = inner_visits c.setting.typing accessing x in
      let w = expression_visits c.setting.typing reading y in
      let visit = one_visit (at_expression k.number reading (s.assign op x y)) in
      let whole = both_visits v visit in
      part_as c (Unit {0}) (both_visits w whole) (both_visits (both_visits v w) visit) _ _ (reframes_crossed c v w visit)
      (part_seq c (Unit {0}) w whole b.value (λ m. (q m).value) _ _ i.value
      (λ z. part_if c (Good c whole) (Unit {0}) whole _ _ (λ u g. g)
      (part_as c (Good c whole) (both_visits j visit) whole _ _ (reframes_first c j v visit (reframes_inner c accessing x))
      (part_then c (Good c whole) (PlaceIs c x) j visit (a.place true) (λ m. (p m).place true) _ _ (part_if c (Good c v) (Good c whole) j _ _ (λ u g. good_left c v visit u) (h.place accessed true)) (λ u g r st. h.known true r st)
      (λ place. part_store c n (PlaceIs c x place) visit (target_of c.setting x) (number_kind t) place (converted t z) (converted t z) (λ y e. e)
      (λ u g. stores_well c g.ground (target_of c.setting x) (offset_in c.setting.typing x) place t z u.address g.typed.suits))))))

  assigned_sound : (k : Node) (op : AssignOp) (x y : ExprTree) (a b : Meaning Outside) (p q : InputMap → Meaning KeptNumbers) → IsSound c n x a p → IsSound c n y b q → IsSound c n (s.expression k (s.assign op x y)) (only (assigned_value c.setting (real c n) k.number op x y (assigned_operator op) a b)) (λ m. only (assigned_value c.setting (path_world m) k.number op x y (assigned_operator op) (p m) (q m)))
  assigned_sound k assign.Plain x y a b p q h i = only_sound c n (s.expression k (s.assign assign.Plain x y)) _ _ (plain_part k assign.Plain x y a b p q h i)
  assigned_sound k assign.Mul x y a b p q h i = only_sound c n (s.expression k (s.assign assign.Mul x y)) _ _ (compound_part k assign.Mul x y (operation_of c.setting.typing (arithmetic arith_op.Mul) (type_in c.setting.typing x) (type_in c.setting.typing y)) a b p q h i)
  assigned_sound k assign.Div x y a b p q h i = only_sound c n (s.expression k (s.assign assign.Div x y)) _ _ (compound_part k assign.Div x y (operation_of c.setting.typing (arithmetic arith_op.Div) (type_in c.setting.typing x) (type_in c.setting.typing y)) a b p q h i)
  assigned_sound k assign.Rem x y a b p q h i = only_sound c n (s.expression k (s.assign assign.Rem x y)) _ _ (compound_part k assign.Rem x y (operation_of c.setting.typing (arithmetic arith_op.Rem) (type_in c.setting.typing x) (type_in c.setting.typing y)) a b p q h i)
  assigned_sound k assign.Add x y a b p q h i = only_sound c n (s.expression k (s.assign assign.Add x y)) _ _ (compound_part k assign.Add x y (operation_of c.setting.typing (arithmetic arith_op.Add) (type_in c.setting.typing x) (type_in c.setting.typing y)) a b p q h i)
  assigned_sound k assign.Sub x y a b p q h i = only_sound c n (s.expression k (s.assign assign.Sub x y)) _ _ (compound_part k assign.Sub x y (operation_of c.setting.typing (arithmetic arith_op.Sub) (type_in c.setting.typing x) (type_in c.setting.typing y)) a b p q h i)
  assigned_sound k assign.And x y a b p q h i = only_sound c n (s.expression k (s.assign assign.And x y)) _ _ (compound_part k assign.And x y (operation_of c.setting.typing (arithmetic arith_op.And) (type_in c.setting.typing x) (type_in c.setting.typing y)) a b p q h i)
  assigned_sound k assign.Xor x y a b p q h i = only_sound c n (s.expression k (s.assign assign.Xor x y)) _ _ (compound_part k assign.Xor x y (operation_of c.setting.typing (arithmetic arith_op.Xor) (type_in c.setting.typing x) (type_in c.setting.typing y)) a b p q h i)
  assigned_sound k assign.Or x y a b p q h i = only_sound c n (s.expression k (s.assign assign.Or x y)) _ _ (compound_part k assign.Or x y (operation_of c.setting.typing (arithmetic arith_op.Or) (type_in c.setting.typing x) (type_in c.setting.typing y)) a b p q h i)
  assigned_sound k assign.Left x y a b p q h i = only_sound c n (s.expression k (s.assign assign.Left x y)) _ _ (compound_part k assign.Left x y (operation_of c.setting.typing (shifting shift_op.Left) (type_in c.setting.typing x) (type_in c.setting.typing y)) a b p q h i)
  assigned_sound k assign.Right x y a b p q h i = only_sound c n (s.expression k (s.assign assign.Right x y)) _ _ (compound_part k assign.Right x y (operation_of c.setting.typing (shifting shift_op.Right) (type_in c.setting.typing x) (type_in c.setting.typing y)) a b p q h i)

  -- ---- calls

  returned_part : (k : ℕ) (e : ExprTree) (es : ExprTrees) (xs : List ℤ) (library : Option Library) → called_library c.setting.typing e ≡ library → Part c (Unit {0}) (one_visit (at_expression k reading (s.call e es))) (returned (real c n) k (result_in (called_signature c.setting.typing e)) library xs) (λ m. returned (path_world m) k (result_in (called_signature c.setting.typing e)) library xs)
  returned_part k e es xs None is =
      let t = result_in (called_signature c.setting.typing e) in
      let visit = one_visit (at_expression k reading (s.call e es)) in
      part_call c n (Unit {0}) visit k t refl (λ y h. subst (λ l. call_changes l y ≡ false) is h)
      (λ q g some. (
        listed_in c visit (call_key k) g
            (subst (λ l. IsListed (result_keys c.setting.typing k t l) (call_key k)) (sym is) (subst (λ b. IsListed (if b then [] else number_info c.setting.typing (call_key k) t None ∷ []) (call_key k)) (sym some) (record { info = number_info c.setting.typing (call_key k) t None; among = inl refl; is = refl }))),
        ap number_kind g.typed,
      ))
  returned_part k e es xs (Some (absolute_in kind)) is = part_went c (Unit {0}) (one_visit (at_expression k reading (s.call e es))) (λ r. absolute kind (get_or xs 0 (pos 0))) []
  returned_part k e es xs (Some copy_bytes) is = part_write c n (Unit {0}) (one_visit (at_expression k reading (s.call e es))) (get_or xs 0 (pos 0)) (λ q g y h. subst (λ l. call_changes l y ≡ false) is h)

  -- a function that never returns cuts the run
  abbrev cut_of : (S : Type 0) → List ℤ → S → Ran ℤ S
  cut_of S r m = Cut []

  call_part : (k : ℕ) (e : ExprTree) (es : ExprTrees) (RO : List ℤ → Outside → Ran (List ℤ) Outside) (PO : InputMap → List ℤ → KeptNumbers → Ran (List ℤ) KeptNumbers) → Part c (Unit {0}) (arguments_visits c.setting.typing es) RO PO → Part c (Unit {0}) (both_visits (arguments_visits c.setting.typing es) (one_visit (at_expression k reading (s.call e es)))) (call_value c.setting (real c n) k e es RO) (λ m. call_value c.setting (path_world m) k e es (PO m))
  call_part k e es RO PO a =
      let visit = one_visit (at_expression k reading (s.call e es)) in
      part_seq c (Unit {0}) (arguments_visits c.setting.typing es) visit RO PO _ _ a
      (λ xs. part_after c (Unit {0}) visit (breaks c.setting k true (s.call e es) (get_or xs 0 (pos 0)) (get_or xs 1 (pos 0)) (get_or xs 2 (pos 0))) _ _
      (part_choose c (Unit {0}) visit (never_returns (called_signature c.setting.typing e)) (cut_of Outside) _ (λ m. cut_of KeptNumbers) _
      (part_cut c (Unit {0}) visit _ _ (λ r st. refl) (λ m r kept. refl)) (returned_part k e es xs (called_library c.setting.typing e) refl)))

  -- ---- `?:`

  branch_part : (t : TypeTree) (e : ExprTree) (a : Meaning Outside) (p : InputMap → Meaning KeptNumbers) → IsSound c n e a p → Part c (Unit {0}) (expression_visits c.setting.typing as_arm e) (branch_value t (node_of e) a) (λ m. branch_value t (node_of e) (p m))
  branch_part t e a p h = arm_part c n e _ _ (part_tail c (Unit {0}) (expression_visits c.setting.typing reading e) a.value (λ m. (p m).value) (λ y r. converted t y) (λ y. []) h.value)

  choice_part : (t : TypeTree) (x y z : ExprTree) (a b d : Meaning Outside) (p q o : InputMap → Meaning KeptNumbers) → IsSound c n x a p → IsSound c n y b q → IsSound c n z d o → Part c (Unit {0}) (both_visits (expression_visits c.setting.typing as_test x) (both_visits (expression_visits c.setting.typing as_arm y) (expression_visits c.setting.typing as_arm z))) (λ r m. and_then (controlled x (a.value r m)) (λ v r m. if truth v then branch_value t (node_of y) b r m else branch_value t (node_of z) d r m)) (λ m r kept. and_then (controlled x ((p m).value r kept)) (λ v r kept. if truth v then branch_value t (node_of y) (q m) r kept else branch_value t (node_of z) (o m) r kept))
  choice_part t x y z a b d p q o h i j =
      let u = expression_visits c.setting.typing as_arm y in
      let v = expression_visits c.setting.typing as_arm z in
      part_seq c (Unit {0}) (expression_visits c.setting.typing as_test x) (both_visits u v) _ _ _ _ (test_part c n x a.value (λ m. (p m).value) h.value)
      (λ l. part_choose c (Unit {0}) (both_visits u v) (truth l) (branch_value t (node_of y) b) (branch_value t (node_of z) d) (λ m. branch_value t (node_of y) (q m)) (λ m. branch_value t (node_of z) (o m))
      (part_as c (Unit {0}) u (both_visits u v) _ _ (reframes_left c u v) (branch_part t y b q i)) (part_as c (Unit {0}) v (both_visits u v) _ _ (reframes_right c u v) (branch_part t z d o j)))

  -- ---- all forms

  mutual
    pub sound : (e : ExprTree) → IsSound c n e (meaning c.setting (real c n) e) (λ m. meaning c.setting (path_world m) e)
    sound (s.expression k f) = form_sound k f

    form_sound : (k : Node) (f : ExprFormTree) → IsSound c n (s.expression k f) (form_meaning c.setting (real c n) k.number f) (λ m. form_meaning c.setting (path_world m) k.number f)
    form_sound k (s.name at) = name_sound c n k at (c.setting.typing.number_at k.number) refl
    form_sound k (s.number at) = only_sound c n (s.expression k (s.number at)) _ _ (part_went c (Unit {0}) _ (λ r. converted (c.setting.typing.type_at k.number) (unwrap_or (c.setting.typing.number_at k.number) (pos 0))) [])
    form_sound k (s.character at) = only_sound c n (s.expression k (s.character at)) _ _ (part_went c (Unit {0}) _ (λ r. converted (c.setting.typing.type_at k.number) (unwrap_or (c.setting.typing.number_at k.number) (pos 0))) [])
    form_sound k (s.text parts) = text_sound k parts
    form_sound k (s.paren e) =
        let h = sound e in
        let v = expression_visits c.setting.typing reading e in
        let visit = one_visit (at_expression k.number reading (s.paren e)) in
        record {
          value = part_as c (Unit {0}) v (both_visits v visit) _ _ (reframes_left c v visit) h.value;
          place = λ u b. part_if c (Good c (expression_visits c.setting.typing (plainly u) e)) _ (inner_visits c.setting.typing (plainly u) e) _ _ (λ q g. good_left c (expression_visits c.setting.typing (plainly u) e) (one_visit (at_expression k.number (plainly u) (s.paren e))) q) (h.place u b);
          sides = part_as c (Unit {0}) v (both_visits v visit) _ _ (reframes_left c v visit) h.sides;
          known = λ b r st. ends_map (PlaceIs c e) (PlaceIs c (s.expression k (s.paren e))) ((meaning c.setting (real c n) e).place b r st) (λ x i. record { address = i.address; loads = λ g scalar no. i.loads (good_left c v visit g) scalar no }) (h.known b r st);
        }
    form_sound k (s.index x y) = index_sound k x y _ _ _ _ (sound x) (sound y)
    form_sound k (s.call e es) = only_sound c n (s.expression k (s.call e es)) _ _ (call_part k.number e es _ _ (arguments_part (parameters_in (called_signature c.setting.typing e)) es))
    form_sound k (s.dot e at) = dot_sound k e at _ _ (sound e)
    form_sound k (s.arrow e at) = arrow_sound k e at _ _ (sound e)
    form_sound k (s.step op e) = step_sound k op e _ _ (sound e)
    form_sound k (s.unary op e) = unary_sound k op e _ _ (sound e)
    form_sound k (s.size_expression e) = only_sound c n (s.expression k (s.size_expression e)) _ _ (part_went c (Unit {0}) _ (λ r. converted (c.setting.typing.type_at k.number) (unwrap_or (c.setting.typing.number_at k.number) (pos 0))) [])
    form_sound k (s.size_name t) = only_sound c n (s.expression k (s.size_name t)) _ _ (part_went c (Unit {0}) _ (λ r. converted (c.setting.typing.type_at k.number) (unwrap_or (c.setting.typing.number_at k.number) (pos 0))) [])
    form_sound k (s.cast t e) =
        let v = type_name_visits c.setting.typing t in
        let w = expression_visits c.setting.typing reading e in
        tail_sound (s.expression k (s.cast t e)) (both_visits v w) (at_expression k.number reading (s.cast t e)) (meaning c.setting (real c n) e).value (λ m. (meaning c.setting (path_world m) e).value) (λ x. converted (c.setting.typing.type_at k.number) x) (λ x. []) refl
        (part_as c (Unit {0}) w (both_visits v w) _ _ (reframes_right c v w) (sound e).value)
    form_sound k (s.binary op x y) = binary_sound c n k op x y _ _ _ _ (sound x) (sound y)
    form_sound k (s.choice x y z) = whole_sound c n (s.expression k (s.choice x y z)) _ (at_expression k.number reading (s.choice x y z)) _ _ refl (choice_part (c.setting.typing.type_at k.number) x y z _ _ _ _ _ _ (sound x) (sound y) (sound z))
    form_sound k (s.assign op x y) = assigned_sound k op x y _ _ _ _ (sound x) (sound y)

    arguments_part : (ts : TypeTrees) (es : ExprTrees) → Part c (Unit {0}) (arguments_visits c.setting.typing es) (arguments_values c.setting (real c n) ts es) (λ m. arguments_values c.setting (path_world m) ts es)
    arguments_part ts s.no_expressions = part_went c (Unit {0}) no_visit (λ r. []) []
    arguments_part ts (s.then_expression e es) =
        part_seq c (Unit {0}) (expression_visits c.setting.typing reading e) (arguments_visits c.setting.typing es) (meaning c.setting (real c n) e).value (λ m. (meaning c.setting (path_world m) e).value) _ _ (sound e).value
        (λ x. part_tail c (Unit {0}) (arguments_visits c.setting.typing es) (arguments_values c.setting (real c n) (later_parameters ts) es) (λ m. arguments_values c.setting (path_world m) (later_parameters ts) es) (λ xs r. passed ts x ∷ xs) (λ xs. []) (arguments_part (later_parameters ts) es))
