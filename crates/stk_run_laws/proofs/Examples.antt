-- Functions of which what is asked of typing holds, so that the laws speak of something.
use Rattle.std.proofs.Common.{◌≡◌, true, false, [], ◌∷◌, Some, None, pos, refl}
use Rattle.stk_ctype.specs.declared.kind.IntKind.TheVariants as kind
use Rattle.stk_ctype.specs.Types.{void_type, integer_type, pointer_type, array_type, struct_type}
use Rattle.stk_tree.specs.declared.fixed.Fixed.TheVariants as fixed
use Rattle.stk_tree.specs.declared.expression.StepOp.TheVariants as step
use Rattle.stk_tree.specs.declared.expression.UnaryOp.TheVariants as unary
use Rattle.stk_tree.specs.declared.expression.BinaryOp.TheVariants as binary
use Rattle.stk_tree.specs.Syntax.{FunctionTree}
use Rattle.stk_tree.specs.Syntax as s
use Rattle.stk_meaning.specs.Typings.{Typing}
use Rattle.stk_meaning.proofs.Told.{told, n, at, all_kinds}
use Rattle.std.proofs.Common.{ℕ, ◌<◌, Bool, List, arith, inl}
use Rattle.std.proofs.lemmas.Grind.{common_steps}
use Rattle.std.specs.Prelude.{◌&&◌, nat_lt, map, ◌++◌}
use Rattle.stk_ctype.specs.Types.{struct_type, array_type, function_type, pointer_type, TypeTree}
use Rattle.stk_ctype.specs.Kinds.{bytes_of}
use Rattle.stk_ctype.specs.Structs.{size_of}
use Rattle.stk_type_rules.specs.Types.{is_scalar}
use Rattle.stk_meaning.specs.Typings.{number_kind, declarator_node}
use Rattle.stk_meaning.specs.Keys.{parameters_of, function_visits, object_of}
use Rattle.stk_run_laws.specs.Visits.{IsBelow, Ascends, nodes_of}
use Rattle.stk_run_laws.specs.TypedTree.{IsTypedTree}

-- numbers that ascend, as a test
abbrev ascend_from : ℕ → List ℕ → Bool
ascend_from k [] = true
ascend_from k (j ∷ js) = nat_lt k j && ascend_from j js

abbrev ascend : List ℕ → Bool
ascend [] = true
ascend (k ∷ ks) = ascend_from k ks

below_next : (k j : ℕ) (js : List ℕ) → k < j → IsBelow j js → IsBelow k js
below_next k j [] l h = tt
below_next k j (i ∷ js) l h = let m : j < i = h.0 in (omega arith, below_next k j js l h.1)

record Both (k : ℕ) (ks : List ℕ) : Type 0 where
  below : IsBelow k ks
  ascends : Ascends ks

ascend_both : (k : ℕ) (ks : List ℕ) → ascend_from k ks ≡ true → Both k ks
ascend_both k [] h = record { below = tt; ascends = tt }
ascend_both k (j ∷ js) h = by (nat_lt k j) refl (ascend_from j js) refl h (λ e. ascend_both j js e)
  where
    by : (b : Bool) → nat_lt k j ≡ b → (c : Bool) → ascend_from j js ≡ c → b && c ≡ true → (ascend_from j js ≡ true → Both j js) → Both k (j ∷ js)
    by true d true e h more =
        let a = more e in
        let less : k < j = grind (arith, common_steps) in
        record { below = (less, below_next k j js less a.below); ascends = (a.below, a.ascends) }
    by true d false e h more = absurd cc
    by false d c e h more = absurd cc

ascends_by : (ks : List ℕ) → ascend ks ≡ true → Ascends ks
ascends_by [] h = tt
ascends_by (k ∷ ks) h = let a = ascend_both k ks h in (a.below, a.ascends)

scalar_sizes : (t : TypeTree) → is_scalar t ≡ true → size_of [] t ≡ Some (bytes_of (number_kind t))
scalar_sizes void_type h = absurd cc
scalar_sizes (integer_type k) h = refl
scalar_sizes (pointer_type t) h = refl
scalar_sizes (array_type t count) h = absurd cc
scalar_sizes (struct_type id) h = absurd cc
scalar_sizes (function_type f) h = absurd cc

-- `int f(unsigned char n) { for (unsigned char i = 1; i < 9; i++) if (10 / (i - n) >= 0 && i == n) return 1; return 0;
-- }`
abbrev turned_typing : Typing
turned_typing = told (110 ∷ 102 ∷ 49 ∷ 105 ∷ 57 ∷ 49 ∷ 48 ∷ 48 ∷ []) ((2, (integer_type kind.UChar)) ∷ (6, (integer_type kind.Int)) ∷ (7, (integer_type kind.UChar)) ∷ (8, (integer_type kind.UChar)) ∷ (9, (integer_type kind.Int)) ∷ (10, (integer_type kind.Int)) ∷ (11, (integer_type kind.UChar)) ∷ (12, (integer_type kind.UChar)) ∷ (13, (integer_type kind.Int)) ∷ (14, (integer_type kind.UChar)) ∷ (15, (integer_type kind.UChar)) ∷ (16, (integer_type kind.Int)) ∷ (17, (integer_type kind.Int)) ∷ (18, (integer_type kind.Int)) ∷ (19, (integer_type kind.Int)) ∷ (20, (integer_type kind.Int)) ∷ (21, (integer_type kind.UChar)) ∷ (22, (integer_type kind.UChar)) ∷ (23, (integer_type kind.Int)) ∷ (24, (integer_type kind.Int)) ∷ (25, (integer_type kind.Int)) ∷ (29, (integer_type kind.Int)) ∷ []) ((8, 7) ∷ (11, 7) ∷ (14, 7) ∷ (15, 2) ∷ (21, 7) ∷ (22, 2) ∷ []) ((6, (pos 1)) ∷ (9, (pos 9)) ∷ (13, (pos 10)) ∷ (19, (pos 0)) ∷ (25, (pos 1)) ∷ (29, (pos 0)) ∷ []) ([]) ([]) ([]) ([])

abbrev turned_tree : FunctionTree
turned_tree = (s.function None (s.base (n 0) (s.words (fixed.Int ∷ []))) (s.declarator (n 4) 0 (Some (at 1 2)) (s.with_parameters (s.then_parameter (s.parameter (n 3) (s.base (n 1) (s.words (fixed.Unsigned ∷ fixed.Char ∷ []))) (s.declarator (n 2) 0 (Some (at 0 1)) (s.arrays s.no_dimensions) s.no_initialiser)) s.no_parameters) false) s.no_initialiser) (s.statement (n 31) (s.block (s.then_part (s.run (s.statement (n 28) (s.for_statement (s.start_declaration (s.declaration None (s.base (n 5) (s.words (fixed.Unsigned ∷ fixed.Char ∷ []))) (s.then_declarator (s.declarator (n 7) 0 (Some (at 3 4)) (s.arrays s.no_dimensions) (s.some_initialiser (s.plain (s.expression (n 6) (s.number (at 2 3)))))) s.no_declarators))) (s.some_expression (s.expression (n 10) (s.binary binary.Lt (s.expression (n 8) (s.name (at 3 4))) (s.expression (n 9) (s.number (at 4 5)))))) (s.some_expression (s.expression (n 12) (s.step step.IncAfter (s.expression (n 11) (s.name (at 3 4)))))) (s.statement (n 27) (s.if_statement (s.expression (n 24) (s.binary binary.AndAlso (s.expression (n 20) (s.binary binary.Ge (s.expression (n 18) (s.binary binary.Div (s.expression (n 13) (s.number (at 5 7))) (s.expression (n 17) (s.paren (s.expression (n 16) (s.binary binary.Sub (s.expression (n 14) (s.name (at 3 4))) (s.expression (n 15) (s.name (at 0 1))))))))) (s.expression (n 19) (s.number (at 7 8))))) (s.expression (n 23) (s.binary binary.Eq (s.expression (n 21) (s.name (at 3 4))) (s.expression (n 22) (s.name (at 0 1))))))) (s.statement (n 26) (s.return_statement (s.some_expression (s.expression (n 25) (s.number (at 2 3)))))) s.no_statement))))) (s.then_part (s.run (s.statement (n 30) (s.return_statement (s.some_expression (s.expression (n 29) (s.number (at 7 8))))))) s.no_parts)))))

turned_is_typed : IsTypedTree turned_typing all_kinds turned_tree
turned_is_typed = record {
  numbered = ascends_by (map declarator_node (parameters_of turned_tree) ++ nodes_of (function_visits turned_typing turned_tree)) refl;
  visits =
      ((tt, tt), ((((((tt, ((tt, tt), (refl, tt))), tt), ((((tt, ((record { type = inl refl; means = tt }), refl)), (tt, tt)), tt), (((tt, ((record { type = inl refl; means = tt }), refl)), (refl, (record { type = refl; means = tt }))), (((((((((tt, tt), ((((tt, ((record { type = inl refl; means = tt }), refl)), (tt, ((record { type = inl refl; means = tt }), refl))), tt), tt)), tt), (tt, tt)), tt), (((tt, ((record { type = inl refl; means = tt }), refl)), (tt, ((record { type = inl refl; means = tt }), refl))), tt)), tt), (((tt, tt), tt), tt)), tt)))), tt), (((tt, tt), tt), tt)), tt));
  sizes = scalar_sizes;
}

-- `int f(int k) { int x = k; int *p = &x; int y = 10 / x; if (x == 0) return *p; return y; }`
abbrev remembered_typing : Typing
remembered_typing = told (107 ∷ 102 ∷ 120 ∷ 112 ∷ 49 ∷ 48 ∷ 121 ∷ 48 ∷ []) ((2, (integer_type kind.Int)) ∷ (6, (integer_type kind.Int)) ∷ (7, (integer_type kind.Int)) ∷ (9, (integer_type kind.Int)) ∷ (10, (pointer_type (integer_type kind.Int))) ∷ (11, (pointer_type (integer_type kind.Int))) ∷ (13, (integer_type kind.Int)) ∷ (14, (integer_type kind.Int)) ∷ (15, (integer_type kind.Int)) ∷ (16, (integer_type kind.Int)) ∷ (17, (integer_type kind.Int)) ∷ (18, (integer_type kind.Int)) ∷ (19, (integer_type kind.Int)) ∷ (20, (pointer_type (integer_type kind.Int))) ∷ (21, (integer_type kind.Int)) ∷ (24, (integer_type kind.Int)) ∷ []) ((6, 2) ∷ (9, 7) ∷ (14, 7) ∷ (17, 7) ∷ (20, 11) ∷ (24, 16) ∷ []) ((13, (pos 10)) ∷ (18, (pos 0)) ∷ []) (7 ∷ []) ([]) ([]) ([])

abbrev remembered_tree : FunctionTree
remembered_tree = (s.function None (s.base (n 0) (s.words (fixed.Int ∷ []))) (s.declarator (n 4) 0 (Some (at 1 2)) (s.with_parameters (s.then_parameter (s.parameter (n 3) (s.base (n 1) (s.words (fixed.Int ∷ []))) (s.declarator (n 2) 0 (Some (at 0 1)) (s.arrays s.no_dimensions) s.no_initialiser)) s.no_parameters) false) s.no_initialiser) (s.statement (n 26) (s.block (s.then_part (s.local (s.declaration None (s.base (n 5) (s.words (fixed.Int ∷ []))) (s.then_declarator (s.declarator (n 7) 0 (Some (at 2 3)) (s.arrays s.no_dimensions) (s.some_initialiser (s.plain (s.expression (n 6) (s.name (at 0 1)))))) s.no_declarators))) (s.then_part (s.local (s.declaration None (s.base (n 8) (s.words (fixed.Int ∷ []))) (s.then_declarator (s.declarator (n 11) 1 (Some (at 3 4)) (s.arrays s.no_dimensions) (s.some_initialiser (s.plain (s.expression (n 10) (s.unary unary.Address (s.expression (n 9) (s.name (at 2 3)))))))) s.no_declarators))) (s.then_part (s.local (s.declaration None (s.base (n 12) (s.words (fixed.Int ∷ []))) (s.then_declarator (s.declarator (n 16) 0 (Some (at 6 7)) (s.arrays s.no_dimensions) (s.some_initialiser (s.plain (s.expression (n 15) (s.binary binary.Div (s.expression (n 13) (s.number (at 4 6))) (s.expression (n 14) (s.name (at 2 3)))))))) s.no_declarators))) (s.then_part (s.run (s.statement (n 23) (s.if_statement (s.expression (n 19) (s.binary binary.Eq (s.expression (n 17) (s.name (at 2 3))) (s.expression (n 18) (s.number (at 7 8))))) (s.statement (n 22) (s.return_statement (s.some_expression (s.expression (n 21) (s.unary unary.Deref (s.expression (n 20) (s.name (at 3 4)))))))) s.no_statement))) (s.then_part (s.run (s.statement (n 25) (s.return_statement (s.some_expression (s.expression (n 24) (s.name (at 6 7))))))) s.no_parts))))))))

remembered_is_typed : IsTypedTree remembered_typing all_kinds remembered_tree
remembered_is_typed = record {
  numbered = ascends_by (map declarator_node (parameters_of remembered_tree) ++ nodes_of (function_visits remembered_typing remembered_tree)) refl;
  visits =
      ((tt, tt), ((((tt, ((tt, ((record { type = inl refl; means = tt }), refl)), (refl, tt))), tt), (((tt, (((tt, ((record { type = inl refl; means = record { object = object_of remembered_typing (Some (at 2 3)) 7 4; among = inl refl; node = refl; plain = λ h. refl } }), tt)), tt), (refl, tt))), tt), (((tt, ((((tt, tt), (tt, ((record { type = inl refl; means = record { object = object_of remembered_typing (Some (at 2 3)) 7 4; among = inl refl; node = refl; plain = λ h. refl } }), refl))), tt), (refl, tt))), tt), ((((((tt, ((record { type = inl refl; means = record { object = object_of remembered_typing (Some (at 2 3)) 7 4; among = inl refl; node = refl; plain = λ h. refl } }), refl)), (tt, tt)), tt), ((((tt, ((record { type = inl refl; means = tt }), refl)), refl), tt), tt)), tt), (((tt, ((record { type = inl refl; means = tt }), refl)), tt), tt))))), tt));
  sizes = scalar_sizes;
}
