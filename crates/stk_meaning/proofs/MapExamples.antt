-- Valid addresses of objects, by which the definitions can be checked: each lies in memory, and kept ones share no byte
-- with others.
use Rattle.std.proofs.Common.{◌≡◌, ℕ, true, false, List, [], ◌∷◌, Option, Some, None, ℤ, pos, negsuc, refl}
use Rattle.stk_ctype.specs.declared.kind.IntKind.TheVariants as kind
use Rattle.stk_ctype.specs.Types.{void_type, integer_type, pointer_type, array_type, struct_type, no_types, then_type, signature}
use Rattle.stk_tree.specs.declared.fixed.Fixed.TheVariants as fixed
use Rattle.stk_tree.specs.declared.declaration.Storage.TheVariants as storage
use Rattle.stk_tree.specs.declared.expression.StepOp.TheVariants as step
use Rattle.stk_tree.specs.declared.expression.UnaryOp.TheVariants as unary
use Rattle.stk_tree.specs.declared.expression.BinaryOp.TheVariants as binary
use Rattle.stk_tree.specs.declared.expression.AssignOp.TheVariants as assign
use Rattle.stk_tree.specs.Syntax.{FunctionTree}
use Rattle.stk_tree.specs.Syntax as s
use Rattle.stk_meaning.specs.Typings.{Typing}
use Rattle.stk_meaning.specs.Keys.{kept_of, objects_of}
use Rattle.stk_meaning.specs.Maps.{are_valid}
use Rattle.stk_meaning.proofs.Told.{told, n, at, all_kinds, beside, beside_or}

-- addresses of objects, each by its node
abbrev placed : List (ℕ × ℕ) → ℕ → ℕ
placed xs k = beside_or 0 (beside xs k)

-- `int f(int i) { return t[i]; }` behind `int t[4];`
abbrev element_typing : Typing
element_typing = told (105 ∷ 102 ∷ 116 ∷ []) ((2, (integer_type kind.Int)) ∷ (5, (array_type (integer_type kind.Int) (Some 4))) ∷ (6, (integer_type kind.Int)) ∷ (7, (integer_type kind.Int)) ∷ []) ((6, 2) ∷ []) ([]) ([]) ([]) ([]) ([])

abbrev element_tree : FunctionTree
element_tree = (s.function None (s.base (n 0) (s.words (fixed.Int ∷ []))) (s.declarator (n 4) 0 (Some (at 1 2)) (s.with_parameters (s.then_parameter (s.parameter (n 3) (s.base (n 1) (s.words (fixed.Int ∷ []))) (s.declarator (n 2) 0 (Some (at 0 1)) (s.arrays s.no_dimensions) s.no_initialiser)) s.no_parameters) false) s.no_initialiser) (s.statement (n 9) (s.block (s.then_part (s.run (s.statement (n 8) (s.return_statement (s.some_expression (s.expression (n 7) (s.index (s.expression (n 5) (s.name (at 2 3))) (s.expression (n 6) (s.name (at 0 1))))))))) s.no_parts))))

element_at_0 : are_valid (kept_of element_typing all_kinds element_tree) (objects_of element_typing all_kinds element_tree) (placed ((5, 0) ∷ [])) ≡ false
element_at_0 = refl

element_first : are_valid (kept_of element_typing all_kinds element_tree) (objects_of element_typing all_kinds element_tree) (placed ((5, 1) ∷ [])) ≡ true
element_first = refl

element_last : are_valid (kept_of element_typing all_kinds element_tree) (objects_of element_typing all_kinds element_tree) (placed ((5, 18446744073709551599) ∷ [])) ≡ true
element_last = refl

element_beyond : are_valid (kept_of element_typing all_kinds element_tree) (objects_of element_typing all_kinds element_tree) (placed ((5, 18446744073709551600) ∷ [])) ≡ false
element_beyond = refl

-- `int f(int k) { int x = k; char c = k; int *p = &x; char *q = &c; return *p + *q + whole.n + row[0]; }` behind
-- `struct s { long n; }; struct s whole; int row[2];`
abbrev pair_typing : Typing
pair_typing = told (107 ∷ 102 ∷ 120 ∷ 99 ∷ 112 ∷ 113 ∷ 119 ∷ 104 ∷ 111 ∷ 108 ∷ 101 ∷ 110 ∷ 114 ∷ 111 ∷ 119 ∷ 48 ∷ []) ((2, (integer_type kind.Int)) ∷ (6, (integer_type kind.Int)) ∷ (7, (integer_type kind.Int)) ∷ (9, (integer_type kind.Int)) ∷ (10, (integer_type kind.Char)) ∷ (12, (integer_type kind.Int)) ∷ (13, (pointer_type (integer_type kind.Int))) ∷ (14, (pointer_type (integer_type kind.Int))) ∷ (16, (integer_type kind.Char)) ∷ (17, (pointer_type (integer_type kind.Char))) ∷ (18, (pointer_type (integer_type kind.Char))) ∷ (19, (pointer_type (integer_type kind.Int))) ∷ (20, (integer_type kind.Int)) ∷ (21, (pointer_type (integer_type kind.Char))) ∷ (22, (integer_type kind.Char)) ∷ (23, (integer_type kind.Int)) ∷ (24, (struct_type 0)) ∷ (25, (integer_type kind.Long)) ∷ (26, (integer_type kind.Long)) ∷ (27, (array_type (integer_type kind.Int) (Some 2))) ∷ (28, (integer_type kind.Int)) ∷ (29, (integer_type kind.Int)) ∷ (30, (integer_type kind.Long)) ∷ []) ((6, 2) ∷ (9, 2) ∷ (12, 7) ∷ (16, 10) ∷ (19, 14) ∷ (21, 18) ∷ []) ((28, (pos 0)) ∷ []) (7 ∷ 10 ∷ []) ((Some 8) ∷ []) ((0, 11, 0) ∷ []) ([])

abbrev pair_tree : FunctionTree
pair_tree = (s.function None (s.base (n 0) (s.words (fixed.Int ∷ []))) (s.declarator (n 4) 0 (Some (at 1 2)) (s.with_parameters (s.then_parameter (s.parameter (n 3) (s.base (n 1) (s.words (fixed.Int ∷ []))) (s.declarator (n 2) 0 (Some (at 0 1)) (s.arrays s.no_dimensions) s.no_initialiser)) s.no_parameters) false) s.no_initialiser) (s.statement (n 32) (s.block (s.then_part (s.local (s.declaration None (s.base (n 5) (s.words (fixed.Int ∷ []))) (s.then_declarator (s.declarator (n 7) 0 (Some (at 2 3)) (s.arrays s.no_dimensions) (s.some_initialiser (s.plain (s.expression (n 6) (s.name (at 0 1)))))) s.no_declarators))) (s.then_part (s.local (s.declaration None (s.base (n 8) (s.words (fixed.Char ∷ []))) (s.then_declarator (s.declarator (n 10) 0 (Some (at 3 4)) (s.arrays s.no_dimensions) (s.some_initialiser (s.plain (s.expression (n 9) (s.name (at 0 1)))))) s.no_declarators))) (s.then_part (s.local (s.declaration None (s.base (n 11) (s.words (fixed.Int ∷ []))) (s.then_declarator (s.declarator (n 14) 1 (Some (at 4 5)) (s.arrays s.no_dimensions) (s.some_initialiser (s.plain (s.expression (n 13) (s.unary unary.Address (s.expression (n 12) (s.name (at 2 3)))))))) s.no_declarators))) (s.then_part (s.local (s.declaration None (s.base (n 15) (s.words (fixed.Char ∷ []))) (s.then_declarator (s.declarator (n 18) 1 (Some (at 5 6)) (s.arrays s.no_dimensions) (s.some_initialiser (s.plain (s.expression (n 17) (s.unary unary.Address (s.expression (n 16) (s.name (at 3 4)))))))) s.no_declarators))) (s.then_part (s.run (s.statement (n 31) (s.return_statement (s.some_expression (s.expression (n 30) (s.binary binary.Add (s.expression (n 26) (s.binary binary.Add (s.expression (n 23) (s.binary binary.Add (s.expression (n 20) (s.unary unary.Deref (s.expression (n 19) (s.name (at 4 5))))) (s.expression (n 22) (s.unary unary.Deref (s.expression (n 21) (s.name (at 5 6))))))) (s.expression (n 25) (s.dot (s.expression (n 24) (s.name (at 6 11))) (at 11 12))))) (s.expression (n 29) (s.index (s.expression (n 27) (s.name (at 12 15))) (s.expression (n 28) (s.number (at 15 16))))))))))) s.no_parts))))))))

pair_apart : are_valid (kept_of pair_typing all_kinds pair_tree) (objects_of pair_typing all_kinds pair_tree) (placed ((7, 64) ∷ (10, 68) ∷ (24, 56) ∷ (27, 128) ∷ [])) ≡ true
pair_apart = refl

pair_behind : are_valid (kept_of pair_typing all_kinds pair_tree) (objects_of pair_typing all_kinds pair_tree) (placed ((7, 64) ∷ (10, 67) ∷ (24, 56) ∷ (27, 128) ∷ [])) ≡ false
pair_behind = refl

pair_before : are_valid (kept_of pair_typing all_kinds pair_tree) (objects_of pair_typing all_kinds pair_tree) (placed ((7, 64) ∷ (10, 68) ∷ (24, 57) ∷ (27, 128) ∷ [])) ≡ false
pair_before = refl

pair_over_an_array : are_valid (kept_of pair_typing all_kinds pair_tree) (objects_of pair_typing all_kinds pair_tree) (placed ((7, 64) ∷ (10, 72) ∷ (24, 32) ∷ (27, 64) ∷ [])) ≡ true
pair_over_an_array = refl
