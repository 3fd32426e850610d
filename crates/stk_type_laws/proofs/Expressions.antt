-- What typing gives of the evaluated nodes of an expression.
use Rattle.std.proofs.Common.{◌≡◌, ◌≤◌, ℕ, ◌+◌, Bool, true, false, ◌||◌, List, [], ◌∷◌, Option, Some, None, refl, sym, ap, ◌∙◌, subst, inl, inr, arith}
use Rattle.std.specs.Prelude.{if◌then◌else◌, map}
use Rattle.std.specs.Option.{option_map_or}
use Rattle.stk_base.specs.declared.span.Span.{Span}
use Rattle.stk_base.specs.Text.{text_of}
use Rattle.stk_ctype.specs.declared.ctype.CType.{CType}
use Rattle.stk_ctype.specs.Types.{TypeTree, type_of}
use Rattle.stk_ctype.specs.Structs.{member_of, structs_of}
use Rattle.stk_tree.specs.declared.expression.UnaryOp.{UnaryOp}
use Rattle.stk_tree.specs.declared.expression.UnaryOp.TheVariants as unary
use Rattle.stk_tree.specs.Syntax.{ExprTree, ExprTrees, ExprFormTree, TypeNameTree, DimensionTree, DimensionTrees}
use Rattle.stk_tree.specs.Syntax as s
use Rattle.stk_tree.specs.Nodes.{expression_nodes, expression_form_nodes, type_name_nodes}
use Rattle.stk_numbers.specs.Strings.{string_bytes}
use Rattle.stk_type_rules.specs.Facts.{Fact, fact_at, Fits, place}
use Rattle.stk_type_rules.specs.Outcome.{Good}
use Rattle.stk_type_rules.specs.Types.{is_scalar, is_struct, kind_of}
use Rattle.stk_type_rules.specs.Rules.{paren_rule, dot_rule, arrow_rule, step_rule, unary_rule, index_rule, binary_rule, assign_rule, cast_rule, choice_rule}
use Rattle.stk_type_rules.specs.Constants.{converted, negated, flipped}
use Rattle.stk_typing.specs.Locals.{Local}
use Rattle.stk_typing.specs.Literals.{text_as, text_rule}
use Rattle.stk_typing.specs.Calls.{call_rule, have_struct}
use Rattle.stk_typing.specs.Typing.{expression_typed, form_typed, callee_typed, arguments_typed, type_name_typed}
use Rattle.stk_meaning.specs.Typings.{Typing, node_of, type_in, is_array, object_size}
use Rattle.stk_meaning.specs.Libraries.{result_in}
use Rattle.stk_meaning.specs.Visits.{Use, Role, reading, accessing, taking, as_arm, as_test, accesses, inner_role, inside, indexed_role, unary_role, left_role, right_role, assigned_role, Visit, at_expression, both_visits, one_visit}
use Rattle.stk_meaning.specs.Visits.{expression_visits, form_visits, arguments_visits, type_name_visits, dimensions_visits, dimension_visits}
use Rattle.stk_run_laws.specs.Visits.{EachVisit}
use Rattle.stk_run_laws.specs.TypedTree.{IsReadWhole, IsTypedUnary}
use Rattle.stk_type_laws.proofs.Stretches.{Stand, first_stands, rest_stands, last_stands, finished, steps, one, two, three, mapped}
use Rattle.stk_type_laws.proofs.TypedCounts.{form_ends, expression_count, called_count, type_name_count}
use Rattle.stk_type_laws.specs.Orderly.{is_object_type}
use Rattle.stk_type_laws.proofs.Rulings.{both_false, not_broken, same_fact, held, promoted_fits, scalar_no_struct, pointee_no_struct, index_fits, dot_fits, arrow_fits, step_fits, assign_fits, not_fits, deref_fits, cast_fits, binary_fits, choice_fits, paren_fits}
use Rattle.stk_type_laws.proofs.From.{expression_from, form_from, expressions_from}
use Rattle.stk_type_laws.proofs.Raw.{Occurs, Part, part_left, part_right, RawPlace, RawPlaceForm, RawForm, RawVisit, Suits, read_whole, suits_any}
use Rattle.stk_type_laws.proofs.Names.{World, typing, ground_of, in_force, AreDeclared, IsPlace, place_part, name_known}
use Rattle.stk_type_laws.proofs.Calls.{call_fits, callee_is}

-- ---- what isn't evaluated

dimension_each : (P : Visit → Type 0) (ty : Typing) (d : DimensionTree) → EachVisit P (dimension_visits ty d)
dimension_each P ty s.open_dimension = tt
dimension_each P ty (s.sized e) = tt

pub dimensions_each : (P : Visit → Type 0) (ty : Typing) (ds : DimensionTrees) → EachVisit P (dimensions_visits ty ds)
dimensions_each P ty s.no_dimensions = tt
dimensions_each P ty (s.then_dimension d ds) = (dimension_each P ty d, dimensions_each P ty ds)

type_name_each : (P : Visit → Type 0) (ty : Typing) (t : TypeNameTree) → EachVisit P (type_name_visits ty t)
type_name_each P ty (s.type_name n b count ds) = dimensions_each P ty ds

-- ---- roles

inner_suits : (whole : TypeTree) (u : Use) (t : TypeTree) → Suits (inner_role whole u).use_of t
inner_suits whole u t = by (accesses whole u)
  where
    by : (b : Bool) → Suits (if b then accessing else taking).use_of t
    by true = tt
    by false = tt

-- ---- nodes

-- what is known of an expression: its fact stands at its node; its nodes are as they are asked where its use suits its
-- type; and where it is stored to or a struct, it is a place by name, if it is one, as it is asked
pub record Known (w : World) (role : Role) (e : ExprTree) (x : Fact) : Type 0 where
  pub at : fact_at w.facts (node_of e) ≡ x
  pub visits : Suits role.use_of x.ty → EachVisit (RawVisit (ground_of w)) (expression_visits (typing w) role e)
  pub place : IsPlace x → RawPlace (ground_of w) e

pub type_known : (w : World) (role : Role) (e : ExprTree) (x : Fact) → Known w role e x → type_in (typing w) e ≡ x.ty
type_known w role e x k = ap (λ (z : Fact). z.ty) k.at

-- the same of the form of a node
record Formed (w : World) (k : ℕ) (role : Role) (f : ExprFormTree) (x : Fact) : Type 0 where
  inner : Suits role.use_of x.ty → EachVisit (RawVisit (ground_of w)) (form_visits (typing w) k role f)
  own : Suits role.use_of x.ty → RawForm (ground_of w) k role f
  place : IsPlace x → RawPlaceForm (ground_of w) k f

-- a place that is read is one whole
read_at : (w : World) (k : ℕ) (u : Use) (x : Fact) → fact_at w.facts k ≡ x → is_object_type x.ty ≡ true → Suits u x.ty → IsReadWhole ((typing w).type_at k) u
read_at w k u x here object suits = subst (λ (z : Fact). IsReadWhole z.ty u) (sym here) (read_whole u x.ty object suits)

-- ---- unary operators

record OfUnary (w : World) (k : ℕ) (role : Role) (op : UnaryOp) (x y : Fact) : Type 0 where
  operand : Suits (unary_role op).use_of x.ty
  own : Suits role.use_of y.ty → IsTypedUnary (typing w) k role op

of_unary : (w : World) (k : ℕ) (role : Role) (op : UnaryOp) (x y : Fact) → fact_at w.facts k ≡ y → unary_rule (structs_of w.entries) op x ≡ Fits y → OfUnary w k role op x y
of_unary w k role unary.Address x y here e = record { operand = tt; own = λ s. tt }
of_unary w k role unary.Deref x y here e =
    let d = deref_fits (structs_of w.entries) x y e in
    record { operand = pointee_no_struct x.ty d.target d.points; own = λ s. read_at w k role.use_of y here (subst (λ (z : Fact). is_object_type z.ty ≡ true) (sym d.is) d.object) s }
of_unary w k role unary.Plus x y here e = record { operand = promoted_fits converted x y (kind_of x.ty) x.constancy refl e; own = λ s. tt }
of_unary w k role unary.Minus x y here e = record { operand = promoted_fits negated x y (kind_of x.ty) x.constancy refl e; own = λ s. tt }
of_unary w k role unary.Flip x y here e = record { operand = promoted_fits flipped x y (kind_of x.ty) x.constancy refl e; own = λ s. tt }
of_unary w k role unary.Not x y here e = record { operand = not_fits (structs_of w.entries) x y e; own = λ s. tt }

-- ---- string literals

text_at : (o : Option (List ℕ)) (y : Fact) → text_as o ≡ Fits y → is_array y.ty ≡ true
text_at None y e = absurd (not_broken 11 y e)
text_at (Some ns) y e = ap (λ (z : Fact). is_array z.ty) (sym (same_fact _ y (held _ _ 5 y e).rule))

-- ---- members

-- a member by name, of a struct with this fact
member_within : (w : World) (x y : Fact) (at : Span) (found : ℕ × CType) → member_of (structs_of w.entries) x.ty (text_of w.bytes at) ≡ Some found → y ≡ place (type_of found.1) → (is_scalar y.ty || is_struct y.ty) ≡ true
    → (typing w).offset_of x.ty at + object_size (typing w) y.ty ≤ object_size (typing w) x.ty
member_within w x y at found is same part =
    let lies = w.members x.ty (text_of w.bytes at) found is in
    let offset : (typing w).offset_of x.ty at ≡ found.0 = ap (λ (o : Option (ℕ × CType)). option_map_or (λ (z : ℕ × CType). z.0) o 0) is in
    let size : object_size (typing w) y.ty ≡ object_size (typing w) (type_of found.1) = ap (λ (z : Fact). object_size (typing w) z.ty) same in
    let within = lies.within (subst (λ (z : Fact). (is_scalar z.ty || is_struct z.ty) ≡ true) same part) in
    omega (arith, offset, size, within)

-- parentheses round a place
place_inside : (x y : Fact) → y.ty ≡ x.ty → y.lvalue ≡ x.lvalue → IsPlace y → IsPlace x
place_inside x y type lvalue (inl p) = inl (sym lvalue ∙ p.0, subst (λ t. is_scalar t ≡ true) type p.1)
place_inside x y type lvalue (inr p) = inr (subst (λ t. is_struct t ≡ true) type p)

mutual
  pub expression_known : (w : World) (e : ExprTree) (n : ℕ) (role : Role) (ls : List Local) (own : Option ℕ) (x : Fact) (ts : List Fact) → AreDeclared w ls → expression_typed (in_force w ls own) e ≡ Good x ts
      → Stand w.facts n ts → expression_from n e → Part (expression_visits (typing w) role e) w.whole → Known w role e x
  expression_known w (s.expression node f) n role ls own x ts declared e stand from part =
      let last = (form_ends (in_force w ls own) node.number f).by x ts e in
      let count = (expression_count (s.expression node f) (in_force w ls own)).by x ts e in
      let here : fact_at w.facts node.number ≡ x = ap (fact_at w.facts) from.0 ∙ last_stands w.facts n (expression_form_nodes f) ts last.before x last.all count stand in
      let k = form_known w f node.number n role ls own x ts declared e stand from.1 (part_left (form_visits (typing w) node.number role f) (one_visit (at_expression node.number role f)) part) (part.by (at_expression node.number role f) (inr refl)) here in
      record { at = here; visits = λ suits. (k.inner suits, k.own suits); place = k.place }

  form_known : (w : World) (f : ExprFormTree) (k n : ℕ) (role : Role) (ls : List Local) (own : Option ℕ) (x : Fact) (ts : List Fact) → AreDeclared w ls → form_typed (in_force w ls own) k f ≡ Good x ts
      → Stand w.facts n ts → form_from n f → Part (form_visits (typing w) k role f) w.whole → Occurs (at_expression k role f) w.whole → fact_at w.facts k ≡ x → Formed w k role f x
  form_known w (s.name at) k n role ls own x ts declared e stand from part occurs here =
      let m = name_known w ls own k role at x declared (finished k _ x ts e).rule here occurs in
      record { inner = λ suits. tt; own = m.own; place = m.place }
  form_known w (s.number at) k n role ls own x ts declared e stand from part occurs here = record { inner = λ suits. tt; own = λ suits. tt; place = λ p. tt }
  form_known w (s.character at) k n role ls own x ts declared e stand from part occurs here = record { inner = λ suits. tt; own = λ suits. tt; place = λ p. tt }
  form_known w (s.text parts) k n role ls own x ts declared e stand from part occurs here =
      let array = text_at (string_bytes (map (text_of w.bytes) parts)) x (finished k (text_rule w.bytes parts) x ts e).rule in
      record { inner = λ suits. tt; own = λ suits. subst (λ (z : Fact). is_array z.ty ≡ true) (sym here) array; place = λ p. tt }
  form_known w (s.paren e) k n role ls own x ts declared eq stand from part occurs here =
      let o = one (expression_typed (in_force w ls own) e) paren_rule k x ts eq in
      let sub = expression_known w e n (inside role) ls own o.value o.first declared o.gives (first_stands w.facts n ts o.first (x ∷ []) o.all stand) from part in
      let p = paren_fits o.value x o.rule in
      record {
        inner = λ suits. sub.visits (subst (Suits role.use_of) p.type suits);
        own = λ suits. tt;
        place = λ q. (ap (λ (z : Fact). z.ty) here ∙ p.type ∙ sym (type_known w (inside role) e o.value sub), sub.place (place_inside o.value x p.type p.lvalue q));
      }
  form_known w (s.index a b) k n role ls own x ts declared eq stand from part occurs here =
      let o = two (expression_typed (in_force w ls own) a) (expression_typed (in_force w ls own) b) (index_rule (structs_of w.entries)) k x ts eq in
      let left = indexed_role ((typing w).type_at k) (type_in (typing w) a) role.use_of in
      let p = expression_known w a n left ls own o.value o.first declared o.gives (first_stands w.facts n ts o.first o.rest o.all stand) from.0 (part_left (expression_visits (typing w) left a) (expression_visits (typing w) reading b) part) in
      let stand_b = rest_stands w.facts n (expression_nodes a) ts o.first o.rest o.all ((expression_count a (in_force w ls own)).by o.value o.first o.gives) stand in
      let q = expression_known w b (n + expression_nodes a) reading ls own o.then.value o.then.first declared o.then.gives (first_stands w.facts (n + expression_nodes a) o.rest o.then.first (x ∷ []) o.then.all stand_b) from.1 (part_right (expression_visits (typing w) left a) (expression_visits (typing w) reading b) part) in
      let r = index_fits (structs_of w.entries) o.value o.then.value x o.then.rule in
      record {
        inner = λ suits. (p.visits (suits_any left.use_of o.value.ty (pointee_no_struct o.value.ty r.points.target r.points.points)), q.visits r.index);
        own = λ suits. read_at w k role.use_of x here (subst (λ (z : Fact). is_object_type z.ty ≡ true) (sym r.points.is) r.points.object) suits;
        place = λ z. tt;
      }
  form_known w (s.call f args) k n role ls own x ts declared eq stand from part occurs here =
      let o = two (callee_typed (in_force w ls own) f) (arguments_typed (in_force w ls own) args) call_rule k x ts eq in
      let r = call_fits o.value o.then.value x o.then.rule in
      let stand_b = rest_stands w.facts n (expression_nodes f) ts o.first o.rest o.all ((called_count f (in_force w ls own)).by o.value o.first o.gives) stand in
      let callee = callee_is w ls own f r.function o.first (o.gives ∙ ap (λ z. Good z o.first) r.is) in
      record {
        inner = λ suits. arguments_known w args (n + expression_nodes f) ls own o.then.value o.then.first declared o.then.gives (first_stands w.facts (n + expression_nodes f) o.rest o.then.first (x ∷ []) o.then.all stand_b) from part r.plain;
        own = λ suits. ap (λ (z : Fact). z.ty) here ∙ r.type ∙ ap result_in (sym callee);
        place = λ z. tt;
      }
  form_known w (s.dot e at) k n role ls own x ts declared eq stand from part occurs here =
      let o = one (expression_typed (in_force w ls own) e) (λ z. dot_rule (structs_of w.entries) z (text_of w.bytes at)) k x ts eq in
      let inner = inner_role ((typing w).type_at k) role.use_of in
      let sub = expression_known w e n inner ls own o.value o.first declared o.gives (first_stands w.facts n ts o.first (x ∷ []) o.all stand) from part in
      let m = dot_fits (structs_of w.entries) o.value x (text_of w.bytes at) o.rule in
      let lies = w.members o.value.ty (text_of w.bytes at) m.found m.is in
      record {
        inner = λ suits. sub.visits (inner_suits ((typing w).type_at k) role.use_of o.value.ty);
        own = λ suits. read_at w k role.use_of x here (subst (λ (z : Fact). is_object_type z.ty ≡ true) (sym m.place) lies.object) suits;
        place = λ q. (
          subst (λ t. is_struct t ≡ true) (sym (type_known w inner e o.value sub)) m.struct,
          subst (λ t. (typing w).offset_of t at + object_size (typing w) ((typing w).type_at k) ≤ object_size (typing w) t) (sym (type_known w inner e o.value sub))
              (subst (λ (z : Fact). (typing w).offset_of o.value.ty at + object_size (typing w) z.ty ≤ object_size (typing w) o.value.ty) (sym here) (member_within w o.value x at m.found m.is m.place (place_part x q))),
          sub.place (inr m.struct),
        );
      }
  form_known w (s.arrow e at) k n role ls own x ts declared eq stand from part occurs here =
      let o = one (expression_typed (in_force w ls own) e) (λ z. arrow_rule (structs_of w.entries) z (text_of w.bytes at)) k x ts eq in
      let sub = expression_known w e n reading ls own o.value o.first declared o.gives (first_stands w.facts n ts o.first (x ∷ []) o.all stand) from part in
      let m = arrow_fits (structs_of w.entries) o.value x (text_of w.bytes at) o.rule in
      let lies = w.members m.target (text_of w.bytes at) m.member.found m.member.is in
      record {
        inner = λ suits. sub.visits (pointee_no_struct o.value.ty m.target m.points);
        own = λ suits. read_at w k role.use_of x here (subst (λ (z : Fact). is_object_type z.ty ≡ true) (sym m.member.place) lies.object) suits;
        place = λ z. tt;
      }
  form_known w (s.step op e) k n role ls own x ts declared eq stand from part occurs here =
      let o = one (expression_typed (in_force w ls own) e) (step_rule (structs_of w.entries)) k x ts eq in
      let sub = expression_known w e n reading ls own o.value o.first declared o.gives (first_stands w.facts n ts o.first (x ∷ []) o.all stand) from part in
      let r = step_fits (structs_of w.entries) o.value x o.rule in
      record {
        inner = λ suits. sub.visits (scalar_no_struct o.value.ty r.scalar);
        own = λ suits. (subst (λ t. is_scalar t ≡ true) (sym (type_known w reading e o.value sub)) r.scalar, sub.place (inl (r.lvalue, r.scalar)));
        place = λ z. tt;
      }
  form_known w (s.unary op e) k n role ls own x ts declared eq stand from part occurs here =
      let o = one (expression_typed (in_force w ls own) e) (unary_rule (structs_of w.entries) op) k x ts eq in
      let sub = expression_known w e n (unary_role op) ls own o.value o.first declared o.gives (first_stands w.facts n ts o.first (x ∷ []) o.all stand) from part in
      let r = of_unary w k role op o.value x here o.rule in
      record { inner = λ suits. sub.visits r.operand; own = r.own; place = λ z. tt }
  form_known w (s.size_expression e) k n role ls own x ts declared eq stand from part occurs here = record { inner = λ suits. tt; own = λ suits. tt; place = λ p. tt }
  form_known w (s.size_name t) k n role ls own x ts declared eq stand from part occurs here = record { inner = λ suits. type_name_each (RawVisit (ground_of w)) (typing w) t; own = λ suits. tt; place = λ p. tt }
  form_known w (s.cast t e) k n role ls own x ts declared eq stand from part occurs here =
      let o = two (type_name_typed (in_force w ls own) t) (expression_typed (in_force w ls own) e) (λ (z : Fact). cast_rule z.ty) k x ts eq in
      let stand_b = rest_stands w.facts n (type_name_nodes t) ts o.first o.rest o.all ((type_name_count t (in_force w ls own)).by o.value o.first o.gives) stand in
      let q = expression_known w e (n + type_name_nodes t) reading ls own o.then.value o.then.first declared o.then.gives (first_stands w.facts (n + type_name_nodes t) o.rest o.then.first (x ∷ []) o.then.all stand_b) from (part_right (type_name_visits (typing w) t) (expression_visits (typing w) reading e) part) in
      record {
        inner = λ suits. (type_name_each (RawVisit (ground_of w)) (typing w) t, q.visits (cast_fits o.value.ty o.then.value x o.then.rule));
        own = λ suits. tt;
        place = λ z. tt;
      }
  form_known w (s.binary op a b) k n role ls own x ts declared eq stand from part occurs here =
      let o = two (expression_typed (in_force w ls own) a) (expression_typed (in_force w ls own) b) (binary_rule (structs_of w.entries) op) k x ts eq in
      let p = expression_known w a n (left_role op) ls own o.value o.first declared o.gives (first_stands w.facts n ts o.first o.rest o.all stand) from.0 (part_left (expression_visits (typing w) (left_role op) a) (expression_visits (typing w) (right_role op) b) part) in
      let stand_b = rest_stands w.facts n (expression_nodes a) ts o.first o.rest o.all ((expression_count a (in_force w ls own)).by o.value o.first o.gives) stand in
      let q = expression_known w b (n + expression_nodes a) (right_role op) ls own o.then.value o.then.first declared o.then.gives (first_stands w.facts (n + expression_nodes a) o.rest o.then.first (x ∷ []) o.then.all stand_b) from.1 (part_right (expression_visits (typing w) (left_role op) a) (expression_visits (typing w) (right_role op) b) part) in
      let r = binary_fits (structs_of w.entries) op o.value o.then.value x o.then.rule in
      record {
        inner = λ suits. (p.visits (suits_any (left_role op).use_of o.value.ty r.left), q.visits (suits_any (right_role op).use_of o.then.value.ty r.right));
        own = λ suits. tt;
        place = λ z. tt;
      }
  form_known w (s.choice a b c) k n role ls own x ts declared eq stand from part occurs here =
      let o = three (expression_typed (in_force w ls own) a) (expression_typed (in_force w ls own) b) (expression_typed (in_force w ls own) c) choice_rule k x ts eq in
      let va = expression_visits (typing w) as_test a in
      let vb = expression_visits (typing w) as_arm b in
      let vc = expression_visits (typing w) as_arm c in
      let p = expression_known w a n as_test ls own o.value o.first declared o.gives (first_stands w.facts n ts o.first o.rest o.all stand) from.0 (part_left va (both_visits vb vc) part) in
      let stand_b = rest_stands w.facts n (expression_nodes a) ts o.first o.rest o.all ((expression_count a (in_force w ls own)).by o.value o.first o.gives) stand in
      let part_b = part_right va (both_visits vb vc) part in
      let q = expression_known w b (n + expression_nodes a) as_arm ls own o.then.value o.then.first declared o.then.gives (first_stands w.facts (n + expression_nodes a) o.rest o.then.first o.then.rest o.then.all stand_b) from.1 (part_left vb vc part_b) in
      let stand_c = rest_stands w.facts (n + expression_nodes a) (expression_nodes b) o.rest o.then.first o.then.rest o.then.all ((expression_count b (in_force w ls own)).by o.then.value o.then.first o.then.gives) stand_b in
      let l = o.then.then in
      let r = expression_known w c (n + expression_nodes a + expression_nodes b) as_arm ls own l.value l.first declared l.gives (first_stands w.facts (n + expression_nodes a + expression_nodes b) o.then.rest l.first (x ∷ []) l.all stand_c) from.2 (part_right vb vc part_b) in
      let t = choice_fits o.value o.then.value l.value x l.rule in
      record {
        inner = λ suits. (p.visits t.test, (q.visits t.branches.left, r.visits t.branches.right));
        own = λ suits. tt;
        place = λ z. tt;
      }
  form_known w (s.assign op a b) k n role ls own x ts declared eq stand from part occurs here =
      let o = two (expression_typed (in_force w ls own) a) (expression_typed (in_force w ls own) b) (assign_rule (structs_of w.entries) op) k x ts eq in
      let p = expression_known w a n (assigned_role op) ls own o.value o.first declared o.gives (first_stands w.facts n ts o.first o.rest o.all stand) from.0 (part_left (expression_visits (typing w) (assigned_role op) a) (expression_visits (typing w) reading b) part) in
      let stand_b = rest_stands w.facts n (expression_nodes a) ts o.first o.rest o.all ((expression_count a (in_force w ls own)).by o.value o.first o.gives) stand in
      let q = expression_known w b (n + expression_nodes a) reading ls own o.then.value o.then.first declared o.then.gives (first_stands w.facts (n + expression_nodes a) o.rest o.then.first (x ∷ []) o.then.all stand_b) from.1 (part_right (expression_visits (typing w) (assigned_role op) a) (expression_visits (typing w) reading b) part) in
      let r = assign_fits (structs_of w.entries) op o.value o.then.value x o.then.rule in
      record {
        inner = λ suits. (p.visits (suits_any (assigned_role op).use_of o.value.ty (scalar_no_struct o.value.ty r.left.scalar)), q.visits r.right);
        own = λ suits. (subst (λ t. is_scalar t ≡ true) (sym (type_known w (assigned_role op) a o.value p)) r.left.scalar, p.place (inl (r.left.lvalue, r.left.scalar)));
        place = λ z. tt;
      }

  arguments_known : (w : World) (es : ExprTrees) (n : ℕ) (ls : List Local) (own : Option ℕ) (xs : List Fact) (ts : List Fact) → AreDeclared w ls → arguments_typed (in_force w ls own) es ≡ Good xs ts
      → Stand w.facts n ts → expressions_from n es → Part (arguments_visits (typing w) es) w.whole → have_struct xs ≡ false → EachVisit (RawVisit (ground_of w)) (arguments_visits (typing w) es)
  arguments_known w s.no_expressions n ls own xs ts declared eq stand from part plain = tt
  arguments_known w (s.then_expression e es) n ls own xs ts declared eq stand from part plain =
      let o = steps (expression_typed (in_force w ls own) e) _ xs ts eq in
      let m = mapped (arguments_typed (in_force w ls own) es) (λ (z : List Fact). o.value ∷ z) xs o.rest o.then in
      let stand_b = rest_stands w.facts n (expression_nodes e) ts o.first o.rest o.all ((expression_count e (in_force w ls own)).by o.value o.first o.gives) stand in
      let plains = both_false (is_struct o.value.ty) (have_struct m.value) (ap have_struct m.is ∙ plain) in
      let p = expression_known w e n reading ls own o.value o.first declared o.gives (first_stands w.facts n ts o.first o.rest o.all stand) from.0 (part_left (expression_visits (typing w) reading e) (arguments_visits (typing w) es) part) in
      (p.visits plains.0, arguments_known w es (n + expression_nodes e) ls own m.value o.rest declared m.gives stand_b from.1 (part_right (expression_visits (typing w) reading e) (arguments_visits (typing w) es) part) plains.1)
