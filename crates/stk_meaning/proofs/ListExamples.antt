-- The keys, conditions, candidates and weights of a few functions, by which the definitions can be checked.
use Rattle.std.proofs.Common.{◌≡◌, false, [], ◌∷◌, Some, None, pos, refl}
use Rattle.stk_ctype.specs.declared.kind.IntKind.TheVariants as kind
use Rattle.stk_ctype.specs.Types.{integer_type, pointer_type, array_type, no_types, then_type, signature}
use Rattle.stk_tree.specs.declared.fixed.Fixed.TheVariants as fixed
use Rattle.stk_tree.specs.declared.expression.StepOp.TheVariants as step
use Rattle.stk_tree.specs.declared.expression.UnaryOp.TheVariants as unary
use Rattle.stk_tree.specs.declared.expression.BinaryOp.TheVariants as binary
use Rattle.stk_tree.specs.declared.expression.AssignOp.TheVariants as assign
use Rattle.stk_tree.specs.Syntax.{FunctionTree}
use Rattle.stk_tree.specs.Syntax as s
use Rattle.stk_numbers.specs.declared.conditions.UbKind.TheVariants as ub
use Rattle.stk_meaning.specs.Typings.{Typing}
use Rattle.stk_meaning.specs.Keys.{parameter_key, address_key, unset_key, load_key, call_key, loop_key, keys_of, kept_of, input_bits}
use Rattle.stk_meaning.specs.Lists.{conditions, candidates}
use Rattle.stk_meaning.specs.Weights.{weight}
use Rattle.stk_numbers.specs.declared.conditions.CandKind.TheVariants.{Arm, AlwaysTrue, AlwaysFalse, Algebra}
use Rattle.stk_meaning.proofs.Told.{told, n, at, all_kinds, shown_keys, key, condition_at, candidate_at}

-- `int f(unsigned char x) { int y = 10 / x; if (x == 0) return 1; return y; }`
abbrev share_typing : Typing
share_typing = told (120 ∷ 102 ∷ 49 ∷ 48 ∷ 121 ∷ 48 ∷ 49 ∷ []) ((2, (integer_type kind.UChar)) ∷ (6, (integer_type kind.Int)) ∷ (7, (integer_type kind.UChar)) ∷ (8, (integer_type kind.Int)) ∷ (9, (integer_type kind.Int)) ∷ (10, (integer_type kind.UChar)) ∷ (11, (integer_type kind.Int)) ∷ (12, (integer_type kind.Int)) ∷ (13, (integer_type kind.Int)) ∷ (16, (integer_type kind.Int)) ∷ []) ((7, 2) ∷ (10, 2) ∷ (16, 9) ∷ []) ((6, (pos 10)) ∷ (11, (pos 0)) ∷ (13, (pos 1)) ∷ []) ([]) ([]) ([]) ([])

abbrev share_tree : FunctionTree
share_tree = (s.function None (s.base (n 0) (s.words (fixed.Int ∷ []))) (s.declarator (n 4) 0 (Some (at 1 2)) (s.with_parameters (s.then_parameter (s.parameter (n 3) (s.base (n 1) (s.words (fixed.Unsigned ∷ fixed.Char ∷ []))) (s.declarator (n 2) 0 (Some (at 0 1)) (s.arrays s.no_dimensions) s.no_initialiser)) s.no_parameters) false) s.no_initialiser) (s.statement (n 18) (s.block (s.then_part (s.local (s.declaration None (s.base (n 5) (s.words (fixed.Int ∷ []))) (s.then_declarator (s.declarator (n 9) 0 (Some (at 4 5)) (s.arrays s.no_dimensions) (s.some_initialiser (s.plain (s.expression (n 8) (s.binary binary.Div (s.expression (n 6) (s.number (at 2 4))) (s.expression (n 7) (s.name (at 0 1)))))))) s.no_declarators))) (s.then_part (s.run (s.statement (n 15) (s.if_statement (s.expression (n 12) (s.binary binary.Eq (s.expression (n 10) (s.name (at 0 1))) (s.expression (n 11) (s.number (at 5 6))))) (s.statement (n 14) (s.return_statement (s.some_expression (s.expression (n 13) (s.number (at 6 7)))))) s.no_statement))) (s.then_part (s.run (s.statement (n 17) (s.return_statement (s.some_expression (s.expression (n 16) (s.name (at 4 5))))))) s.no_parts))))))

share_keys : shown_keys (keys_of share_typing all_kinds share_tree) ≡ (key (parameter_key 2) kind.UChar 0 ∷ [])
share_keys = refl

share_kept : kept_of share_typing all_kinds share_tree ≡ ([])
share_kept = refl

share_bits : input_bits (keys_of share_typing all_kinds share_tree) ≡ 8
share_bits = refl

share_conditions : conditions share_typing all_kinds share_tree ≡ (condition_at 8 ub.Overflow ∷ condition_at 8 ub.Zero ∷ [])
share_conditions = refl

share_candidates : candidates share_typing share_tree ≡ (candidate_at 12 AlwaysTrue ∷ candidate_at 12 AlwaysFalse ∷ candidate_at 14 Arm ∷ [])
share_candidates = refl

share_weight : weight share_typing all_kinds share_tree ≡ 38912
unfolding lib.Count.ones
share_weight = refl

-- `int f(int k) { int x = k; int *p = &x; int y = 10 / x; if (x == 0) return *p; return y; }`
abbrev remembered_typing : Typing
remembered_typing = told (107 ∷ 102 ∷ 120 ∷ 112 ∷ 49 ∷ 48 ∷ 121 ∷ 48 ∷ []) ((2, (integer_type kind.Int)) ∷ (6, (integer_type kind.Int)) ∷ (7, (integer_type kind.Int)) ∷ (9, (integer_type kind.Int)) ∷ (10, (pointer_type (integer_type kind.Int))) ∷ (11, (pointer_type (integer_type kind.Int))) ∷ (13, (integer_type kind.Int)) ∷ (14, (integer_type kind.Int)) ∷ (15, (integer_type kind.Int)) ∷ (16, (integer_type kind.Int)) ∷ (17, (integer_type kind.Int)) ∷ (18, (integer_type kind.Int)) ∷ (19, (integer_type kind.Int)) ∷ (20, (pointer_type (integer_type kind.Int))) ∷ (21, (integer_type kind.Int)) ∷ (24, (integer_type kind.Int)) ∷ []) ((6, 2) ∷ (9, 7) ∷ (14, 7) ∷ (17, 7) ∷ (20, 11) ∷ (24, 16) ∷ []) ((13, (pos 10)) ∷ (18, (pos 0)) ∷ []) (7 ∷ []) ([]) ([]) ([])

abbrev remembered_tree : FunctionTree
remembered_tree = (s.function None (s.base (n 0) (s.words (fixed.Int ∷ []))) (s.declarator (n 4) 0 (Some (at 1 2)) (s.with_parameters (s.then_parameter (s.parameter (n 3) (s.base (n 1) (s.words (fixed.Int ∷ []))) (s.declarator (n 2) 0 (Some (at 0 1)) (s.arrays s.no_dimensions) s.no_initialiser)) s.no_parameters) false) s.no_initialiser) (s.statement (n 26) (s.block (s.then_part (s.local (s.declaration None (s.base (n 5) (s.words (fixed.Int ∷ []))) (s.then_declarator (s.declarator (n 7) 0 (Some (at 2 3)) (s.arrays s.no_dimensions) (s.some_initialiser (s.plain (s.expression (n 6) (s.name (at 0 1)))))) s.no_declarators))) (s.then_part (s.local (s.declaration None (s.base (n 8) (s.words (fixed.Int ∷ []))) (s.then_declarator (s.declarator (n 11) 1 (Some (at 3 4)) (s.arrays s.no_dimensions) (s.some_initialiser (s.plain (s.expression (n 10) (s.unary unary.Address (s.expression (n 9) (s.name (at 2 3)))))))) s.no_declarators))) (s.then_part (s.local (s.declaration None (s.base (n 12) (s.words (fixed.Int ∷ []))) (s.then_declarator (s.declarator (n 16) 0 (Some (at 6 7)) (s.arrays s.no_dimensions) (s.some_initialiser (s.plain (s.expression (n 15) (s.binary binary.Div (s.expression (n 13) (s.number (at 4 6))) (s.expression (n 14) (s.name (at 2 3)))))))) s.no_declarators))) (s.then_part (s.run (s.statement (n 23) (s.if_statement (s.expression (n 19) (s.binary binary.Eq (s.expression (n 17) (s.name (at 2 3))) (s.expression (n 18) (s.number (at 7 8))))) (s.statement (n 22) (s.return_statement (s.some_expression (s.expression (n 21) (s.unary unary.Deref (s.expression (n 20) (s.name (at 3 4)))))))) s.no_statement))) (s.then_part (s.run (s.statement (n 25) (s.return_statement (s.some_expression (s.expression (n 24) (s.name (at 6 7))))))) s.no_parts))))))))

remembered_keys : shown_keys (keys_of remembered_typing all_kinds remembered_tree) ≡ (key (parameter_key 2) kind.Int 0 ∷ key (address_key 7) kind.ULong 4 ∷ key (load_key 14) kind.Int 0 ∷ key (load_key 17) kind.Int 0 ∷ key (load_key 21) kind.Int 0 ∷ [])
remembered_keys = refl

remembered_kept : kept_of remembered_typing all_kinds remembered_tree ≡ (7 ∷ [])
remembered_kept = refl

remembered_bits : input_bits (keys_of remembered_typing all_kinds remembered_tree) ≡ 192
remembered_bits = refl

remembered_conditions : conditions remembered_typing all_kinds remembered_tree ≡ (condition_at 15 ub.Overflow ∷ condition_at 15 ub.Zero ∷ condition_at 21 ub.Null ∷ [])
remembered_conditions = refl

remembered_candidates : candidates remembered_typing remembered_tree ≡ (candidate_at 19 AlwaysTrue ∷ candidate_at 19 AlwaysFalse ∷ candidate_at 22 Arm ∷ [])
remembered_candidates = refl

remembered_weight : weight remembered_typing all_kinds remembered_tree ≡ 49664
unfolding lib.Count.ones
remembered_weight = refl

-- `int f(unsigned char n) { for (unsigned char i = 1; i < 9; i++) if (10 / (i - n) >= 0 && i == n) return 1; return 0;
-- }`
abbrev turned_typing : Typing
turned_typing = told (110 ∷ 102 ∷ 49 ∷ 105 ∷ 57 ∷ 49 ∷ 48 ∷ 48 ∷ []) ((2, (integer_type kind.UChar)) ∷ (6, (integer_type kind.Int)) ∷ (7, (integer_type kind.UChar)) ∷ (8, (integer_type kind.UChar)) ∷ (9, (integer_type kind.Int)) ∷ (10, (integer_type kind.Int)) ∷ (11, (integer_type kind.UChar)) ∷ (12, (integer_type kind.UChar)) ∷ (13, (integer_type kind.Int)) ∷ (14, (integer_type kind.UChar)) ∷ (15, (integer_type kind.UChar)) ∷ (16, (integer_type kind.Int)) ∷ (17, (integer_type kind.Int)) ∷ (18, (integer_type kind.Int)) ∷ (19, (integer_type kind.Int)) ∷ (20, (integer_type kind.Int)) ∷ (21, (integer_type kind.UChar)) ∷ (22, (integer_type kind.UChar)) ∷ (23, (integer_type kind.Int)) ∷ (24, (integer_type kind.Int)) ∷ (25, (integer_type kind.Int)) ∷ (29, (integer_type kind.Int)) ∷ []) ((8, 7) ∷ (11, 7) ∷ (14, 7) ∷ (15, 2) ∷ (21, 7) ∷ (22, 2) ∷ []) ((6, (pos 1)) ∷ (9, (pos 9)) ∷ (13, (pos 10)) ∷ (19, (pos 0)) ∷ (25, (pos 1)) ∷ (29, (pos 0)) ∷ []) ([]) ([]) ([]) ([])

abbrev turned_tree : FunctionTree
turned_tree = (s.function None (s.base (n 0) (s.words (fixed.Int ∷ []))) (s.declarator (n 4) 0 (Some (at 1 2)) (s.with_parameters (s.then_parameter (s.parameter (n 3) (s.base (n 1) (s.words (fixed.Unsigned ∷ fixed.Char ∷ []))) (s.declarator (n 2) 0 (Some (at 0 1)) (s.arrays s.no_dimensions) s.no_initialiser)) s.no_parameters) false) s.no_initialiser) (s.statement (n 31) (s.block (s.then_part (s.run (s.statement (n 28) (s.for_statement (s.start_declaration (s.declaration None (s.base (n 5) (s.words (fixed.Unsigned ∷ fixed.Char ∷ []))) (s.then_declarator (s.declarator (n 7) 0 (Some (at 3 4)) (s.arrays s.no_dimensions) (s.some_initialiser (s.plain (s.expression (n 6) (s.number (at 2 3)))))) s.no_declarators))) (s.some_expression (s.expression (n 10) (s.binary binary.Lt (s.expression (n 8) (s.name (at 3 4))) (s.expression (n 9) (s.number (at 4 5)))))) (s.some_expression (s.expression (n 12) (s.step step.IncAfter (s.expression (n 11) (s.name (at 3 4)))))) (s.statement (n 27) (s.if_statement (s.expression (n 24) (s.binary binary.AndAlso (s.expression (n 20) (s.binary binary.Ge (s.expression (n 18) (s.binary binary.Div (s.expression (n 13) (s.number (at 5 7))) (s.expression (n 17) (s.paren (s.expression (n 16) (s.binary binary.Sub (s.expression (n 14) (s.name (at 3 4))) (s.expression (n 15) (s.name (at 0 1))))))))) (s.expression (n 19) (s.number (at 7 8))))) (s.expression (n 23) (s.binary binary.Eq (s.expression (n 21) (s.name (at 3 4))) (s.expression (n 22) (s.name (at 0 1))))))) (s.statement (n 26) (s.return_statement (s.some_expression (s.expression (n 25) (s.number (at 2 3)))))) s.no_statement))))) (s.then_part (s.run (s.statement (n 30) (s.return_statement (s.some_expression (s.expression (n 29) (s.number (at 7 8))))))) s.no_parts)))))

turned_keys : shown_keys (keys_of turned_typing all_kinds turned_tree) ≡ (key (parameter_key 2) kind.UChar 0 ∷ key (loop_key 28 7) kind.UChar 0 ∷ [])
turned_keys = refl

turned_kept : kept_of turned_typing all_kinds turned_tree ≡ ([])
turned_kept = refl

turned_bits : input_bits (keys_of turned_typing all_kinds turned_tree) ≡ 16
turned_bits = refl

turned_conditions : conditions turned_typing all_kinds turned_tree ≡ (condition_at 12 ub.Overflow ∷ condition_at 16 ub.Overflow ∷ condition_at 18 ub.Overflow ∷ condition_at 18 ub.Zero ∷ [])
turned_conditions = refl

turned_candidates : candidates turned_typing turned_tree ≡ (candidate_at 10 AlwaysTrue ∷ candidate_at 10 AlwaysFalse ∷ candidate_at 20 AlwaysTrue ∷ candidate_at 20 AlwaysFalse ∷ candidate_at 23 Arm ∷ candidate_at 23 AlwaysTrue ∷ candidate_at 23 AlwaysFalse ∷ candidate_at 24 AlwaysTrue ∷ candidate_at 24 AlwaysFalse ∷ candidate_at 26 Arm ∷ candidate_at 27 Arm ∷ [])
turned_candidates = refl

turned_weight : weight turned_typing all_kinds turned_tree ≡ 47488
unfolding lib.Count.ones
turned_weight = refl

-- `int f(long i) { int u; char *s = "a"; u = g(&count) + count; if (s[i] + u < u) return s[0] ? count : (u); return
-- sizeof(count); }` behind `extern int g(int *); int count;`
abbrev called_typing : Typing
called_typing = told (105 ∷ 102 ∷ 117 ∷ 34 ∷ 97 ∷ 34 ∷ 115 ∷ 103 ∷ 99 ∷ 111 ∷ 117 ∷ 110 ∷ 116 ∷ 48 ∷ []) ((2, (integer_type kind.Long)) ∷ (6, (integer_type kind.Int)) ∷ (8, (array_type (integer_type kind.Char) (Some 2))) ∷ (9, (pointer_type (integer_type kind.Char))) ∷ (10, (integer_type kind.Int)) ∷ (12, (integer_type kind.Int)) ∷ (13, (pointer_type (integer_type kind.Int))) ∷ (14, (integer_type kind.Int)) ∷ (15, (integer_type kind.Int)) ∷ (16, (integer_type kind.Int)) ∷ (17, (integer_type kind.Int)) ∷ (19, (pointer_type (integer_type kind.Char))) ∷ (20, (integer_type kind.Long)) ∷ (21, (integer_type kind.Char)) ∷ (22, (integer_type kind.Int)) ∷ (23, (integer_type kind.Int)) ∷ (24, (integer_type kind.Int)) ∷ (25, (integer_type kind.Int)) ∷ (26, (pointer_type (integer_type kind.Char))) ∷ (27, (integer_type kind.Int)) ∷ (28, (integer_type kind.Char)) ∷ (29, (integer_type kind.Int)) ∷ (30, (integer_type kind.Int)) ∷ (31, (integer_type kind.Int)) ∷ (32, (integer_type kind.Int)) ∷ (35, (integer_type kind.Int)) ∷ (36, (integer_type kind.Int)) ∷ (37, (integer_type kind.ULong)) ∷ []) ((10, 6) ∷ (19, 9) ∷ (20, 2) ∷ (22, 6) ∷ (24, 6) ∷ (26, 9) ∷ (30, 6) ∷ []) ((27, (pos 0)) ∷ (37, (pos 4)) ∷ []) ([]) ([]) ([]) ((7, (signature (integer_type kind.Int) (then_type (pointer_type (integer_type kind.Int)) no_types) false false)) ∷ [])

abbrev called_tree : FunctionTree
called_tree = (s.function None (s.base (n 0) (s.words (fixed.Int ∷ []))) (s.declarator (n 4) 0 (Some (at 1 2)) (s.with_parameters (s.then_parameter (s.parameter (n 3) (s.base (n 1) (s.words (fixed.Long ∷ []))) (s.declarator (n 2) 0 (Some (at 0 1)) (s.arrays s.no_dimensions) s.no_initialiser)) s.no_parameters) false) s.no_initialiser) (s.statement (n 39) (s.block (s.then_part (s.local (s.declaration None (s.base (n 5) (s.words (fixed.Int ∷ []))) (s.then_declarator (s.declarator (n 6) 0 (Some (at 2 3)) (s.arrays s.no_dimensions) s.no_initialiser) s.no_declarators))) (s.then_part (s.local (s.declaration None (s.base (n 7) (s.words (fixed.Char ∷ []))) (s.then_declarator (s.declarator (n 9) 1 (Some (at 6 7)) (s.arrays s.no_dimensions) (s.some_initialiser (s.plain (s.expression (n 8) (s.text ((at 3 6) ∷ [])))))) s.no_declarators))) (s.then_part (s.run (s.statement (n 18) (s.expression_statement (s.some_expression (s.expression (n 17) (s.assign assign.Plain (s.expression (n 10) (s.name (at 2 3))) (s.expression (n 16) (s.binary binary.Add (s.expression (n 14) (s.call (s.expression (n 11) (s.name (at 7 8))) (s.then_expression (s.expression (n 13) (s.unary unary.Address (s.expression (n 12) (s.name (at 8 13))))) s.no_expressions))) (s.expression (n 15) (s.name (at 8 13))))))))))) (s.then_part (s.run (s.statement (n 34) (s.if_statement (s.expression (n 25) (s.binary binary.Lt (s.expression (n 23) (s.binary binary.Add (s.expression (n 21) (s.index (s.expression (n 19) (s.name (at 6 7))) (s.expression (n 20) (s.name (at 0 1))))) (s.expression (n 22) (s.name (at 2 3))))) (s.expression (n 24) (s.name (at 2 3))))) (s.statement (n 33) (s.return_statement (s.some_expression (s.expression (n 32) (s.choice (s.expression (n 28) (s.index (s.expression (n 26) (s.name (at 6 7))) (s.expression (n 27) (s.number (at 13 14))))) (s.expression (n 29) (s.name (at 8 13))) (s.expression (n 31) (s.paren (s.expression (n 30) (s.name (at 2 3)))))))))) s.no_statement))) (s.then_part (s.run (s.statement (n 38) (s.return_statement (s.some_expression (s.expression (n 37) (s.size_expression (s.expression (n 36) (s.paren (s.expression (n 35) (s.name (at 8 13))))))))))) s.no_parts))))))))

called_keys : shown_keys (keys_of called_typing all_kinds called_tree) ≡ (key (parameter_key 2) kind.Long 0 ∷ key (unset_key 6) kind.Int 0 ∷ key (address_key 8) kind.ULong 2 ∷ key (address_key 12) kind.ULong 4 ∷ key (call_key 14) kind.Int 0 ∷ key (load_key 15) kind.Int 0 ∷ key (load_key 21) kind.Char 0 ∷ key (load_key 28) kind.Char 0 ∷ key (load_key 29) kind.Int 0 ∷ [])
called_keys = refl

called_kept : kept_of called_typing all_kinds called_tree ≡ (12 ∷ [])
called_kept = refl

called_bits : input_bits (keys_of called_typing all_kinds called_tree) ≡ 336
called_bits = refl

called_conditions : conditions called_typing all_kinds called_tree ≡ (condition_at 16 ub.Overflow ∷ condition_at 21 ub.Null ∷ condition_at 21 ub.Pointer ∷ condition_at 23 ub.Overflow ∷ condition_at 28 ub.Null ∷ condition_at 28 ub.Pointer ∷ [])
called_conditions = refl

called_candidates : candidates called_typing called_tree ≡ (candidate_at 25 AlwaysTrue ∷ candidate_at 25 AlwaysFalse ∷ candidate_at 25 Algebra ∷ candidate_at 28 AlwaysTrue ∷ candidate_at 28 AlwaysFalse ∷ candidate_at 29 Arm ∷ candidate_at 31 Arm ∷ candidate_at 33 Arm ∷ [])
called_candidates = refl

called_weight : weight called_typing all_kinds called_tree ≡ 29840
unfolding lib.Count.ones
called_weight = refl
