-- Path runs of whole functions, by which the definitions can be checked: an input map, in the order of the keys, and
-- its trace.
use Rattle.std.proofs.Common.{◌≡◌, true, false, [], ◌∷◌, Some, None, pos, negsuc, refl}
use Rattle.stk_ctype.specs.declared.kind.IntKind.TheVariants as kind
use Rattle.stk_ctype.specs.Types.{void_type, integer_type, pointer_type, array_type, struct_type, no_types, then_type, signature}
use Rattle.stk_tree.specs.declared.fixed.Fixed.TheVariants as fixed
use Rattle.stk_tree.specs.declared.expression.StepOp.TheVariants as step
use Rattle.stk_tree.specs.declared.expression.UnaryOp.TheVariants as unary
use Rattle.stk_tree.specs.declared.expression.BinaryOp.TheVariants as binary
use Rattle.stk_tree.specs.declared.expression.AssignOp.TheVariants as assign
use Rattle.stk_tree.specs.Syntax.{FunctionTree}
use Rattle.stk_tree.specs.Syntax as s
use Rattle.stk_numbers.specs.declared.conditions.UbKind.TheVariants as ub
use Rattle.stk_meaning.specs.declared.entry.Entry.TheVariants.{Enter, Seen}
use Rattle.stk_meaning.specs.Typings.{Typing}
use Rattle.stk_meaning.specs.Paths.{path}
use Rattle.stk_meaning.proofs.Told.{told, n, at, ub_at, all_kinds, no_zero}

-- `int f(unsigned char x) { int y = 10 / x; if (x == 0) return 1; return y; }`
abbrev share_typing : Typing
share_typing = told (120 ∷ 102 ∷ 49 ∷ 48 ∷ 121 ∷ 48 ∷ 49 ∷ []) ((2, (integer_type kind.UChar)) ∷ (6, (integer_type kind.Int)) ∷ (7, (integer_type kind.UChar)) ∷ (8, (integer_type kind.Int)) ∷ (9, (integer_type kind.Int)) ∷ (10, (integer_type kind.UChar)) ∷ (11, (integer_type kind.Int)) ∷ (12, (integer_type kind.Int)) ∷ (13, (integer_type kind.Int)) ∷ (16, (integer_type kind.Int)) ∷ []) ((7, 2) ∷ (10, 2) ∷ (16, 9) ∷ []) ((6, (pos 10)) ∷ (11, (pos 0)) ∷ (13, (pos 1)) ∷ []) ([]) ([]) ([]) ([])

abbrev share_tree : FunctionTree
share_tree = (s.function None (s.base (n 0) (s.words (fixed.Int ∷ []))) (s.declarator (n 4) 0 (Some (at 1 2)) (s.with_parameters (s.then_parameter (s.parameter (n 3) (s.base (n 1) (s.words (fixed.Unsigned ∷ fixed.Char ∷ []))) (s.declarator (n 2) 0 (Some (at 0 1)) (s.arrays s.no_dimensions) s.no_initialiser)) s.no_parameters) false) s.no_initialiser) (s.statement (n 18) (s.block (s.then_part (s.local (s.declaration None (s.base (n 5) (s.words (fixed.Int ∷ []))) (s.then_declarator (s.declarator (n 9) 0 (Some (at 4 5)) (s.arrays s.no_dimensions) (s.some_initialiser (s.plain (s.expression (n 8) (s.binary binary.Div (s.expression (n 6) (s.number (at 2 4))) (s.expression (n 7) (s.name (at 0 1)))))))) s.no_declarators))) (s.then_part (s.run (s.statement (n 15) (s.if_statement (s.expression (n 12) (s.binary binary.Eq (s.expression (n 10) (s.name (at 0 1))) (s.expression (n 11) (s.number (at 5 6))))) (s.statement (n 14) (s.return_statement (s.some_expression (s.expression (n 13) (s.number (at 6 7)))))) s.no_statement))) (s.then_part (s.run (s.statement (n 17) (s.return_statement (s.some_expression (s.expression (n 16) (s.name (at 4 5))))))) s.no_parts))))))

share_at_0 : path share_typing all_kinds share_tree ((pos 0) ∷ []) ≡ ub_at 8 ub.Zero ∷ Seen 12 true None ∷ Enter 14 ∷ []
share_at_0 = refl

share_at_1 : path share_typing all_kinds share_tree ((pos 1) ∷ []) ≡ Seen 12 false None ∷ []
share_at_1 = refl

share_without_zero : path share_typing no_zero share_tree ((pos 0) ∷ []) ≡ Seen 12 true None ∷ Enter 14 ∷ []
share_without_zero = refl

-- `int f(int x) { if (x + 100 < x) return 1; return 0; }`
abbrev grow_typing : Typing
grow_typing = told (120 ∷ 102 ∷ 49 ∷ 48 ∷ 48 ∷ 49 ∷ 48 ∷ []) ((2, (integer_type kind.Int)) ∷ (5, (integer_type kind.Int)) ∷ (6, (integer_type kind.Int)) ∷ (7, (integer_type kind.Int)) ∷ (8, (integer_type kind.Int)) ∷ (9, (integer_type kind.Int)) ∷ (10, (integer_type kind.Int)) ∷ (13, (integer_type kind.Int)) ∷ []) ((5, 2) ∷ (8, 2) ∷ []) ((6, (pos 100)) ∷ (10, (pos 1)) ∷ (13, (pos 0)) ∷ []) ([]) ([]) ([]) ([])

abbrev grow_tree : FunctionTree
grow_tree = (s.function None (s.base (n 0) (s.words (fixed.Int ∷ []))) (s.declarator (n 4) 0 (Some (at 1 2)) (s.with_parameters (s.then_parameter (s.parameter (n 3) (s.base (n 1) (s.words (fixed.Int ∷ []))) (s.declarator (n 2) 0 (Some (at 0 1)) (s.arrays s.no_dimensions) s.no_initialiser)) s.no_parameters) false) s.no_initialiser) (s.statement (n 15) (s.block (s.then_part (s.run (s.statement (n 12) (s.if_statement (s.expression (n 9) (s.binary binary.Lt (s.expression (n 7) (s.binary binary.Add (s.expression (n 5) (s.name (at 0 1))) (s.expression (n 6) (s.number (at 2 5))))) (s.expression (n 8) (s.name (at 0 1))))) (s.statement (n 11) (s.return_statement (s.some_expression (s.expression (n 10) (s.number (at 5 6)))))) s.no_statement))) (s.then_part (s.run (s.statement (n 14) (s.return_statement (s.some_expression (s.expression (n 13) (s.number (at 6 7))))))) s.no_parts)))))

grow_below : path grow_typing all_kinds grow_tree ((pos 2147483547) ∷ []) ≡ Seen 9 false (Some false) ∷ []
grow_below = refl

grow_first : path grow_typing all_kinds grow_tree ((pos 2147483548) ∷ []) ≡ ub_at 7 ub.Overflow ∷ Seen 9 true (Some false) ∷ Enter 11 ∷ []
grow_first = refl

grow_last : path grow_typing all_kinds grow_tree ((pos 2147483647) ∷ []) ≡ ub_at 7 ub.Overflow ∷ Seen 9 true (Some false) ∷ Enter 11 ∷ []
grow_last = refl

grow_least : path grow_typing all_kinds grow_tree ((negsuc 2147483647) ∷ []) ≡ Seen 9 false (Some false) ∷ []
grow_least = refl

-- `int f(struct tun *tun) { struct sock *sk = tun->sk; if (!tun) return 1; return sk != 0; }` behind `struct sock;
-- struct tun { int flags; struct sock *sk; };`
abbrev poll_typing : Typing
poll_typing = told (116 ∷ 117 ∷ 110 ∷ 102 ∷ 115 ∷ 111 ∷ 99 ∷ 107 ∷ 115 ∷ 107 ∷ 49 ∷ 48 ∷ []) ((2, (pointer_type (struct_type 1))) ∷ (6, (pointer_type (struct_type 1))) ∷ (7, (pointer_type (struct_type 0))) ∷ (8, (pointer_type (struct_type 0))) ∷ (9, (pointer_type (struct_type 1))) ∷ (10, (integer_type kind.Int)) ∷ (11, (integer_type kind.Int)) ∷ (14, (pointer_type (struct_type 0))) ∷ (15, (integer_type kind.Int)) ∷ (16, (integer_type kind.Int)) ∷ []) ((6, 2) ∷ (9, 2) ∷ (14, 8) ∷ []) ((11, (pos 1)) ∷ (15, (pos 0)) ∷ []) ([]) (None ∷ (Some 16) ∷ []) ((1, 8, 8) ∷ []) ([])

abbrev poll_tree : FunctionTree
poll_tree = (s.function None (s.base (n 0) (s.words (fixed.Int ∷ []))) (s.declarator (n 4) 0 (Some (at 3 4)) (s.with_parameters (s.then_parameter (s.parameter (n 3) (s.base (n 1) (s.struct_ref (at 0 3))) (s.declarator (n 2) 1 (Some (at 0 3)) (s.arrays s.no_dimensions) s.no_initialiser)) s.no_parameters) false) s.no_initialiser) (s.statement (n 18) (s.block (s.then_part (s.local (s.declaration None (s.base (n 5) (s.struct_ref (at 4 8))) (s.then_declarator (s.declarator (n 8) 1 (Some (at 8 10)) (s.arrays s.no_dimensions) (s.some_initialiser (s.plain (s.expression (n 7) (s.arrow (s.expression (n 6) (s.name (at 0 3))) (at 8 10)))))) s.no_declarators))) (s.then_part (s.run (s.statement (n 13) (s.if_statement (s.expression (n 10) (s.unary unary.Not (s.expression (n 9) (s.name (at 0 3))))) (s.statement (n 12) (s.return_statement (s.some_expression (s.expression (n 11) (s.number (at 10 11)))))) s.no_statement))) (s.then_part (s.run (s.statement (n 17) (s.return_statement (s.some_expression (s.expression (n 16) (s.binary binary.Ne (s.expression (n 14) (s.name (at 8 10))) (s.expression (n 15) (s.number (at 11 12))))))))) s.no_parts))))))

poll_null : path poll_typing all_kinds poll_tree ((pos 0) ∷ (pos 5) ∷ []) ≡ ub_at 7 ub.Null ∷ Seen 10 true None ∷ Enter 12 ∷ []
poll_null = refl

poll_there : path poll_typing all_kinds poll_tree ((pos 8) ∷ (pos 5) ∷ []) ≡ Seen 10 false None ∷ Seen 16 true None ∷ []
poll_there = refl

-- `int f(int x, int y) { int r = x % y; if (y == -1 && x == -2147483647 - 1) return 1; return r; }`
abbrev remainder_typing : Typing
remainder_typing = told (120 ∷ 121 ∷ 102 ∷ 114 ∷ 49 ∷ 50 ∷ 49 ∷ 52 ∷ 55 ∷ 52 ∷ 56 ∷ 51 ∷ 54 ∷ 52 ∷ 55 ∷ []) ((2, (integer_type kind.Int)) ∷ (5, (integer_type kind.Int)) ∷ (9, (integer_type kind.Int)) ∷ (10, (integer_type kind.Int)) ∷ (11, (integer_type kind.Int)) ∷ (12, (integer_type kind.Int)) ∷ (13, (integer_type kind.Int)) ∷ (14, (integer_type kind.Int)) ∷ (15, (integer_type kind.Int)) ∷ (16, (integer_type kind.Int)) ∷ (17, (integer_type kind.Int)) ∷ (18, (integer_type kind.Int)) ∷ (19, (integer_type kind.Int)) ∷ (20, (integer_type kind.Int)) ∷ (21, (integer_type kind.Int)) ∷ (22, (integer_type kind.Int)) ∷ (23, (integer_type kind.Int)) ∷ (24, (integer_type kind.Int)) ∷ (27, (integer_type kind.Int)) ∷ []) ((9, 2) ∷ (10, 5) ∷ (13, 5) ∷ (17, 2) ∷ (27, 12) ∷ []) ((14, (pos 1)) ∷ (18, (pos 2147483647)) ∷ (20, (pos 1)) ∷ (24, (pos 1)) ∷ []) ([]) ([]) ([]) ([])

abbrev remainder_tree : FunctionTree
remainder_tree = (s.function None (s.base (n 0) (s.words (fixed.Int ∷ []))) (s.declarator (n 7) 0 (Some (at 2 3)) (s.with_parameters (s.then_parameter (s.parameter (n 3) (s.base (n 1) (s.words (fixed.Int ∷ []))) (s.declarator (n 2) 0 (Some (at 0 1)) (s.arrays s.no_dimensions) s.no_initialiser)) (s.then_parameter (s.parameter (n 6) (s.base (n 4) (s.words (fixed.Int ∷ []))) (s.declarator (n 5) 0 (Some (at 1 2)) (s.arrays s.no_dimensions) s.no_initialiser)) s.no_parameters)) false) s.no_initialiser) (s.statement (n 29) (s.block (s.then_part (s.local (s.declaration None (s.base (n 8) (s.words (fixed.Int ∷ []))) (s.then_declarator (s.declarator (n 12) 0 (Some (at 3 4)) (s.arrays s.no_dimensions) (s.some_initialiser (s.plain (s.expression (n 11) (s.binary binary.Rem (s.expression (n 9) (s.name (at 0 1))) (s.expression (n 10) (s.name (at 1 2)))))))) s.no_declarators))) (s.then_part (s.run (s.statement (n 26) (s.if_statement (s.expression (n 23) (s.binary binary.AndAlso (s.expression (n 16) (s.binary binary.Eq (s.expression (n 13) (s.name (at 1 2))) (s.expression (n 15) (s.unary unary.Minus (s.expression (n 14) (s.number (at 4 5))))))) (s.expression (n 22) (s.binary binary.Eq (s.expression (n 17) (s.name (at 0 1))) (s.expression (n 21) (s.binary binary.Sub (s.expression (n 19) (s.unary unary.Minus (s.expression (n 18) (s.number (at 5 15))))) (s.expression (n 20) (s.number (at 4 5))))))))) (s.statement (n 25) (s.return_statement (s.some_expression (s.expression (n 24) (s.number (at 4 5)))))) s.no_statement))) (s.then_part (s.run (s.statement (n 28) (s.return_statement (s.some_expression (s.expression (n 27) (s.name (at 3 4))))))) s.no_parts))))))

remainder_overflow : path remainder_typing all_kinds remainder_tree ((negsuc 2147483647) ∷ (negsuc 0) ∷ []) ≡ ub_at 11 ub.Overflow ∷ Seen 16 true None ∷ Enter 22 ∷ Seen 22 true None ∷ Seen 23 true None ∷ Enter 25 ∷ []
remainder_overflow = refl

remainder_zero : path remainder_typing all_kinds remainder_tree ((pos 7) ∷ (pos 0) ∷ []) ≡ ub_at 11 ub.Zero ∷ Seen 16 false None ∷ Seen 23 false None ∷ []
remainder_zero = refl

remainder_neither : path remainder_typing all_kinds remainder_tree ((pos 7) ∷ (pos 2) ∷ []) ≡ Seen 16 false None ∷ Seen 23 false None ∷ []
remainder_neither = refl

-- `int f(int k) { int g = 1 << k; if (g == 0) return 1; return g; }`
abbrev shift_typing : Typing
shift_typing = told (107 ∷ 102 ∷ 49 ∷ 103 ∷ 48 ∷ []) ((2, (integer_type kind.Int)) ∷ (6, (integer_type kind.Int)) ∷ (7, (integer_type kind.Int)) ∷ (8, (integer_type kind.Int)) ∷ (9, (integer_type kind.Int)) ∷ (10, (integer_type kind.Int)) ∷ (11, (integer_type kind.Int)) ∷ (12, (integer_type kind.Int)) ∷ (13, (integer_type kind.Int)) ∷ (16, (integer_type kind.Int)) ∷ []) ((7, 2) ∷ (10, 9) ∷ (16, 9) ∷ []) ((6, (pos 1)) ∷ (11, (pos 0)) ∷ (13, (pos 1)) ∷ []) ([]) ([]) ([]) ([])

abbrev shift_tree : FunctionTree
shift_tree = (s.function None (s.base (n 0) (s.words (fixed.Int ∷ []))) (s.declarator (n 4) 0 (Some (at 1 2)) (s.with_parameters (s.then_parameter (s.parameter (n 3) (s.base (n 1) (s.words (fixed.Int ∷ []))) (s.declarator (n 2) 0 (Some (at 0 1)) (s.arrays s.no_dimensions) s.no_initialiser)) s.no_parameters) false) s.no_initialiser) (s.statement (n 18) (s.block (s.then_part (s.local (s.declaration None (s.base (n 5) (s.words (fixed.Int ∷ []))) (s.then_declarator (s.declarator (n 9) 0 (Some (at 3 4)) (s.arrays s.no_dimensions) (s.some_initialiser (s.plain (s.expression (n 8) (s.binary binary.Left (s.expression (n 6) (s.number (at 2 3))) (s.expression (n 7) (s.name (at 0 1)))))))) s.no_declarators))) (s.then_part (s.run (s.statement (n 15) (s.if_statement (s.expression (n 12) (s.binary binary.Eq (s.expression (n 10) (s.name (at 3 4))) (s.expression (n 11) (s.number (at 4 5))))) (s.statement (n 14) (s.return_statement (s.some_expression (s.expression (n 13) (s.number (at 2 3)))))) s.no_statement))) (s.then_part (s.run (s.statement (n 17) (s.return_statement (s.some_expression (s.expression (n 16) (s.name (at 3 4))))))) s.no_parts))))))

shift_last : path shift_typing all_kinds shift_tree ((pos 31) ∷ []) ≡ Seen 12 false None ∷ []
shift_last = refl

shift_oversized : path shift_typing all_kinds shift_tree ((pos 32) ∷ []) ≡ ub_at 8 ub.Shift ∷ Seen 12 true None ∷ Enter 14 ∷ []
shift_oversized = refl

shift_negative : path shift_typing all_kinds shift_tree ((negsuc 0) ∷ []) ≡ ub_at 8 ub.Shift ∷ Seen 12 true None ∷ Enter 14 ∷ []
shift_negative = refl

-- `int f(int i) { int v = t[i]; if (i >= 4) return -1; return v; }` behind `int t[4];`
abbrev element_typing : Typing
element_typing = told (105 ∷ 102 ∷ 116 ∷ 118 ∷ 52 ∷ 49 ∷ []) ((2, (integer_type kind.Int)) ∷ (6, (array_type (integer_type kind.Int) (Some 4))) ∷ (7, (integer_type kind.Int)) ∷ (8, (integer_type kind.Int)) ∷ (9, (integer_type kind.Int)) ∷ (10, (integer_type kind.Int)) ∷ (11, (integer_type kind.Int)) ∷ (12, (integer_type kind.Int)) ∷ (13, (integer_type kind.Int)) ∷ (14, (integer_type kind.Int)) ∷ (17, (integer_type kind.Int)) ∷ []) ((7, 2) ∷ (10, 2) ∷ (17, 9) ∷ []) ((11, (pos 4)) ∷ (13, (pos 1)) ∷ []) ([]) ([]) ([]) ([])

abbrev element_tree : FunctionTree
element_tree = (s.function None (s.base (n 0) (s.words (fixed.Int ∷ []))) (s.declarator (n 4) 0 (Some (at 1 2)) (s.with_parameters (s.then_parameter (s.parameter (n 3) (s.base (n 1) (s.words (fixed.Int ∷ []))) (s.declarator (n 2) 0 (Some (at 0 1)) (s.arrays s.no_dimensions) s.no_initialiser)) s.no_parameters) false) s.no_initialiser) (s.statement (n 19) (s.block (s.then_part (s.local (s.declaration None (s.base (n 5) (s.words (fixed.Int ∷ []))) (s.then_declarator (s.declarator (n 9) 0 (Some (at 3 4)) (s.arrays s.no_dimensions) (s.some_initialiser (s.plain (s.expression (n 8) (s.index (s.expression (n 6) (s.name (at 2 3))) (s.expression (n 7) (s.name (at 0 1)))))))) s.no_declarators))) (s.then_part (s.run (s.statement (n 16) (s.if_statement (s.expression (n 12) (s.binary binary.Ge (s.expression (n 10) (s.name (at 0 1))) (s.expression (n 11) (s.number (at 4 5))))) (s.statement (n 15) (s.return_statement (s.some_expression (s.expression (n 14) (s.unary unary.Minus (s.expression (n 13) (s.number (at 5 6)))))))) s.no_statement))) (s.then_part (s.run (s.statement (n 18) (s.return_statement (s.some_expression (s.expression (n 17) (s.name (at 3 4))))))) s.no_parts))))))

element_outside : path element_typing all_kinds element_tree ((pos 4) ∷ (pos 1) ∷ (pos 7) ∷ []) ≡ ub_at 8 ub.Bounds ∷ Seen 12 true None ∷ Enter 15 ∷ []
element_outside = refl

element_inside : path element_typing all_kinds element_tree ((pos 3) ∷ (pos 1) ∷ (pos 7) ∷ []) ≡ Seen 12 false None ∷ []
element_inside = refl

-- `int f(char *buf, unsigned len) { if (buf + len < buf) return 1; return 0; }`
abbrev buffer_typing : Typing
buffer_typing = told (98 ∷ 117 ∷ 102 ∷ 108 ∷ 101 ∷ 110 ∷ 102 ∷ 49 ∷ 48 ∷ []) ((2, (pointer_type (integer_type kind.Char))) ∷ (5, (integer_type kind.UInt)) ∷ (8, (pointer_type (integer_type kind.Char))) ∷ (9, (integer_type kind.UInt)) ∷ (10, (pointer_type (integer_type kind.Char))) ∷ (11, (pointer_type (integer_type kind.Char))) ∷ (12, (integer_type kind.Int)) ∷ (13, (integer_type kind.Int)) ∷ (16, (integer_type kind.Int)) ∷ []) ((8, 2) ∷ (9, 5) ∷ (11, 2) ∷ []) ((13, (pos 1)) ∷ (16, (pos 0)) ∷ []) ([]) ([]) ([]) ([])

abbrev buffer_tree : FunctionTree
buffer_tree = (s.function None (s.base (n 0) (s.words (fixed.Int ∷ []))) (s.declarator (n 7) 0 (Some (at 6 7)) (s.with_parameters (s.then_parameter (s.parameter (n 3) (s.base (n 1) (s.words (fixed.Char ∷ []))) (s.declarator (n 2) 1 (Some (at 0 3)) (s.arrays s.no_dimensions) s.no_initialiser)) (s.then_parameter (s.parameter (n 6) (s.base (n 4) (s.words (fixed.Unsigned ∷ []))) (s.declarator (n 5) 0 (Some (at 3 6)) (s.arrays s.no_dimensions) s.no_initialiser)) s.no_parameters)) false) s.no_initialiser) (s.statement (n 18) (s.block (s.then_part (s.run (s.statement (n 15) (s.if_statement (s.expression (n 12) (s.binary binary.Lt (s.expression (n 10) (s.binary binary.Add (s.expression (n 8) (s.name (at 0 3))) (s.expression (n 9) (s.name (at 3 6))))) (s.expression (n 11) (s.name (at 0 3))))) (s.statement (n 14) (s.return_statement (s.some_expression (s.expression (n 13) (s.number (at 7 8)))))) s.no_statement))) (s.then_part (s.run (s.statement (n 17) (s.return_statement (s.some_expression (s.expression (n 16) (s.number (at 8 9))))))) s.no_parts)))))

buffer_wraps : path buffer_typing all_kinds buffer_tree ((pos 18446744073709551615) ∷ (pos 1) ∷ []) ≡ ub_at 10 ub.Pointer ∷ Seen 12 true (Some false) ∷ Enter 14 ∷ []
buffer_wraps = refl

buffer_fits : path buffer_typing all_kinds buffer_tree ((pos 18446744073709551614) ∷ (pos 1) ∷ []) ≡ Seen 12 false (Some false) ∷ []
buffer_fits = refl

-- `int f(int x) { if (abs(x) < 0) return 1; return 0; }` behind `extern int abs(int __x);`
abbrev magnitude_typing : Typing
magnitude_typing = told (120 ∷ 102 ∷ 97 ∷ 98 ∷ 115 ∷ 48 ∷ 49 ∷ []) ((2, (integer_type kind.Int)) ∷ (6, (integer_type kind.Int)) ∷ (7, (integer_type kind.Int)) ∷ (8, (integer_type kind.Int)) ∷ (9, (integer_type kind.Int)) ∷ (10, (integer_type kind.Int)) ∷ (13, (integer_type kind.Int)) ∷ []) ((6, 2) ∷ []) ((8, (pos 0)) ∷ (10, (pos 1)) ∷ (13, (pos 0)) ∷ []) ([]) ([]) ([]) ((2, (signature (integer_type kind.Int) (then_type (integer_type kind.Int) no_types) false false)) ∷ [])

abbrev magnitude_tree : FunctionTree
magnitude_tree = (s.function None (s.base (n 0) (s.words (fixed.Int ∷ []))) (s.declarator (n 4) 0 (Some (at 1 2)) (s.with_parameters (s.then_parameter (s.parameter (n 3) (s.base (n 1) (s.words (fixed.Int ∷ []))) (s.declarator (n 2) 0 (Some (at 0 1)) (s.arrays s.no_dimensions) s.no_initialiser)) s.no_parameters) false) s.no_initialiser) (s.statement (n 15) (s.block (s.then_part (s.run (s.statement (n 12) (s.if_statement (s.expression (n 9) (s.binary binary.Lt (s.expression (n 7) (s.call (s.expression (n 5) (s.name (at 2 5))) (s.then_expression (s.expression (n 6) (s.name (at 0 1))) s.no_expressions))) (s.expression (n 8) (s.number (at 5 6))))) (s.statement (n 11) (s.return_statement (s.some_expression (s.expression (n 10) (s.number (at 6 7)))))) s.no_statement))) (s.then_part (s.run (s.statement (n 14) (s.return_statement (s.some_expression (s.expression (n 13) (s.number (at 5 6))))))) s.no_parts)))))

magnitude_least : path magnitude_typing all_kinds magnitude_tree ((negsuc 2147483647) ∷ []) ≡ ub_at 7 ub.AbsValue ∷ Seen 9 true None ∷ Enter 11 ∷ []
magnitude_least = refl

magnitude_negative : path magnitude_typing all_kinds magnitude_tree ((negsuc 4) ∷ []) ≡ Seen 9 false None ∷ []
magnitude_negative = refl

-- `int f(char *d, char *s, unsigned long n) { memcpy(d, s, n); if (d == s && n) return 1; return 0; }` behind `extern
-- void *memcpy(void *, const void *, unsigned long);`
abbrev copied_typing : Typing
copied_typing = told (100 ∷ 115 ∷ 110 ∷ 102 ∷ 109 ∷ 101 ∷ 109 ∷ 99 ∷ 112 ∷ 121 ∷ 49 ∷ 48 ∷ []) ((2, (pointer_type (integer_type kind.Char))) ∷ (5, (pointer_type (integer_type kind.Char))) ∷ (8, (integer_type kind.ULong)) ∷ (12, (pointer_type (integer_type kind.Char))) ∷ (13, (pointer_type (integer_type kind.Char))) ∷ (14, (integer_type kind.ULong)) ∷ (15, (pointer_type void_type)) ∷ (17, (pointer_type (integer_type kind.Char))) ∷ (18, (pointer_type (integer_type kind.Char))) ∷ (19, (integer_type kind.Int)) ∷ (20, (integer_type kind.ULong)) ∷ (21, (integer_type kind.Int)) ∷ (22, (integer_type kind.Int)) ∷ (25, (integer_type kind.Int)) ∷ []) ((12, 2) ∷ (13, 5) ∷ (14, 8) ∷ (17, 2) ∷ (18, 5) ∷ (20, 8) ∷ []) ((22, (pos 1)) ∷ (25, (pos 0)) ∷ []) ([]) ([]) ([]) ((4, (signature (pointer_type void_type) (then_type (pointer_type void_type) (then_type (pointer_type void_type) (then_type (integer_type kind.ULong) no_types))) false false)) ∷ [])

abbrev copied_tree : FunctionTree
copied_tree = (s.function None (s.base (n 0) (s.words (fixed.Int ∷ []))) (s.declarator (n 10) 0 (Some (at 3 4)) (s.with_parameters (s.then_parameter (s.parameter (n 3) (s.base (n 1) (s.words (fixed.Char ∷ []))) (s.declarator (n 2) 1 (Some (at 0 1)) (s.arrays s.no_dimensions) s.no_initialiser)) (s.then_parameter (s.parameter (n 6) (s.base (n 4) (s.words (fixed.Char ∷ []))) (s.declarator (n 5) 1 (Some (at 1 2)) (s.arrays s.no_dimensions) s.no_initialiser)) (s.then_parameter (s.parameter (n 9) (s.base (n 7) (s.words (fixed.Unsigned ∷ fixed.Long ∷ []))) (s.declarator (n 8) 0 (Some (at 2 3)) (s.arrays s.no_dimensions) s.no_initialiser)) s.no_parameters))) false) s.no_initialiser) (s.statement (n 27) (s.block (s.then_part (s.run (s.statement (n 16) (s.expression_statement (s.some_expression (s.expression (n 15) (s.call (s.expression (n 11) (s.name (at 4 10))) (s.then_expression (s.expression (n 12) (s.name (at 0 1))) (s.then_expression (s.expression (n 13) (s.name (at 1 2))) (s.then_expression (s.expression (n 14) (s.name (at 2 3))) s.no_expressions))))))))) (s.then_part (s.run (s.statement (n 24) (s.if_statement (s.expression (n 21) (s.binary binary.AndAlso (s.expression (n 19) (s.binary binary.Eq (s.expression (n 17) (s.name (at 0 1))) (s.expression (n 18) (s.name (at 1 2))))) (s.expression (n 20) (s.name (at 2 3))))) (s.statement (n 23) (s.return_statement (s.some_expression (s.expression (n 22) (s.number (at 10 11)))))) s.no_statement))) (s.then_part (s.run (s.statement (n 26) (s.return_statement (s.some_expression (s.expression (n 25) (s.number (at 11 12))))))) s.no_parts))))))

copied_same : path copied_typing all_kinds copied_tree ((pos 16) ∷ (pos 16) ∷ (pos 1) ∷ []) ≡ ub_at 15 ub.Overlap ∷ Seen 19 true None ∷ Enter 20 ∷ Seen 21 true None ∷ Enter 23 ∷ []
copied_same = refl

copied_nothing : path copied_typing all_kinds copied_tree ((pos 16) ∷ (pos 16) ∷ (pos 0) ∷ []) ≡ Seen 19 true None ∷ Enter 20 ∷ Seen 21 false None ∷ []
copied_nothing = refl

copied_apart : path copied_typing all_kinds copied_tree ((pos 16) ∷ (pos 24) ∷ (pos 8) ∷ []) ≡ Seen 19 false None ∷ Seen 21 false None ∷ []
copied_apart = refl

-- `int f(unsigned char n) { for (unsigned char i = 1; i < 9; i++) if (10 / (i - n) >= 0 && i == n) return 1; return 0;
-- }`
abbrev turned_typing : Typing
turned_typing = told (110 ∷ 102 ∷ 49 ∷ 105 ∷ 57 ∷ 49 ∷ 48 ∷ 48 ∷ []) ((2, (integer_type kind.UChar)) ∷ (6, (integer_type kind.Int)) ∷ (7, (integer_type kind.UChar)) ∷ (8, (integer_type kind.UChar)) ∷ (9, (integer_type kind.Int)) ∷ (10, (integer_type kind.Int)) ∷ (11, (integer_type kind.UChar)) ∷ (12, (integer_type kind.UChar)) ∷ (13, (integer_type kind.Int)) ∷ (14, (integer_type kind.UChar)) ∷ (15, (integer_type kind.UChar)) ∷ (16, (integer_type kind.Int)) ∷ (17, (integer_type kind.Int)) ∷ (18, (integer_type kind.Int)) ∷ (19, (integer_type kind.Int)) ∷ (20, (integer_type kind.Int)) ∷ (21, (integer_type kind.UChar)) ∷ (22, (integer_type kind.UChar)) ∷ (23, (integer_type kind.Int)) ∷ (24, (integer_type kind.Int)) ∷ (25, (integer_type kind.Int)) ∷ (29, (integer_type kind.Int)) ∷ []) ((8, 7) ∷ (11, 7) ∷ (14, 7) ∷ (15, 2) ∷ (21, 7) ∷ (22, 2) ∷ []) ((6, (pos 1)) ∷ (9, (pos 9)) ∷ (13, (pos 10)) ∷ (19, (pos 0)) ∷ (25, (pos 1)) ∷ (29, (pos 0)) ∷ []) ([]) ([]) ([]) ([])

abbrev turned_tree : FunctionTree
turned_tree = (s.function None (s.base (n 0) (s.words (fixed.Int ∷ []))) (s.declarator (n 4) 0 (Some (at 1 2)) (s.with_parameters (s.then_parameter (s.parameter (n 3) (s.base (n 1) (s.words (fixed.Unsigned ∷ fixed.Char ∷ []))) (s.declarator (n 2) 0 (Some (at 0 1)) (s.arrays s.no_dimensions) s.no_initialiser)) s.no_parameters) false) s.no_initialiser) (s.statement (n 31) (s.block (s.then_part (s.run (s.statement (n 28) (s.for_statement (s.start_declaration (s.declaration None (s.base (n 5) (s.words (fixed.Unsigned ∷ fixed.Char ∷ []))) (s.then_declarator (s.declarator (n 7) 0 (Some (at 3 4)) (s.arrays s.no_dimensions) (s.some_initialiser (s.plain (s.expression (n 6) (s.number (at 2 3)))))) s.no_declarators))) (s.some_expression (s.expression (n 10) (s.binary binary.Lt (s.expression (n 8) (s.name (at 3 4))) (s.expression (n 9) (s.number (at 4 5)))))) (s.some_expression (s.expression (n 12) (s.step step.IncAfter (s.expression (n 11) (s.name (at 3 4)))))) (s.statement (n 27) (s.if_statement (s.expression (n 24) (s.binary binary.AndAlso (s.expression (n 20) (s.binary binary.Ge (s.expression (n 18) (s.binary binary.Div (s.expression (n 13) (s.number (at 5 7))) (s.expression (n 17) (s.paren (s.expression (n 16) (s.binary binary.Sub (s.expression (n 14) (s.name (at 3 4))) (s.expression (n 15) (s.name (at 0 1))))))))) (s.expression (n 19) (s.number (at 7 8))))) (s.expression (n 23) (s.binary binary.Eq (s.expression (n 21) (s.name (at 3 4))) (s.expression (n 22) (s.name (at 0 1))))))) (s.statement (n 26) (s.return_statement (s.some_expression (s.expression (n 25) (s.number (at 2 3)))))) s.no_statement))))) (s.then_part (s.run (s.statement (n 30) (s.return_statement (s.some_expression (s.expression (n 29) (s.number (at 7 8))))))) s.no_parts)))))

turned_zero : path turned_typing all_kinds turned_tree ((pos 0) ∷ (pos 0) ∷ []) ≡ Seen 10 true None ∷ Enter 27 ∷ ub_at 18 ub.Zero ∷ Seen 20 true None ∷ Enter 23 ∷ Seen 23 true None ∷ Seen 24 true None ∷ Enter 26 ∷ []
turned_zero = refl

turned_beyond : path turned_typing all_kinds turned_tree ((pos 0) ∷ (pos 9) ∷ []) ≡ Seen 10 false None ∷ []
turned_beyond = refl

-- `int f(int n) { int i; for (i = 0; i < n; i++) if (i < 0) return 1; return 0; }`
abbrev count_typing : Typing
count_typing = told (110 ∷ 102 ∷ 105 ∷ 48 ∷ 49 ∷ []) ((2, (integer_type kind.Int)) ∷ (6, (integer_type kind.Int)) ∷ (7, (integer_type kind.Int)) ∷ (8, (integer_type kind.Int)) ∷ (9, (integer_type kind.Int)) ∷ (10, (integer_type kind.Int)) ∷ (11, (integer_type kind.Int)) ∷ (12, (integer_type kind.Int)) ∷ (13, (integer_type kind.Int)) ∷ (14, (integer_type kind.Int)) ∷ (15, (integer_type kind.Int)) ∷ (16, (integer_type kind.Int)) ∷ (17, (integer_type kind.Int)) ∷ (18, (integer_type kind.Int)) ∷ (22, (integer_type kind.Int)) ∷ []) ((7, 6) ∷ (10, 6) ∷ (11, 2) ∷ (13, 6) ∷ (15, 6) ∷ []) ((8, (pos 0)) ∷ (16, (pos 0)) ∷ (18, (pos 1)) ∷ (22, (pos 0)) ∷ []) ([]) ([]) ([]) ([])

abbrev count_tree : FunctionTree
count_tree = (s.function None (s.base (n 0) (s.words (fixed.Int ∷ []))) (s.declarator (n 4) 0 (Some (at 1 2)) (s.with_parameters (s.then_parameter (s.parameter (n 3) (s.base (n 1) (s.words (fixed.Int ∷ []))) (s.declarator (n 2) 0 (Some (at 0 1)) (s.arrays s.no_dimensions) s.no_initialiser)) s.no_parameters) false) s.no_initialiser) (s.statement (n 24) (s.block (s.then_part (s.local (s.declaration None (s.base (n 5) (s.words (fixed.Int ∷ []))) (s.then_declarator (s.declarator (n 6) 0 (Some (at 2 3)) (s.arrays s.no_dimensions) s.no_initialiser) s.no_declarators))) (s.then_part (s.run (s.statement (n 21) (s.for_statement (s.start_expression (s.some_expression (s.expression (n 9) (s.assign assign.Plain (s.expression (n 7) (s.name (at 2 3))) (s.expression (n 8) (s.number (at 3 4))))))) (s.some_expression (s.expression (n 12) (s.binary binary.Lt (s.expression (n 10) (s.name (at 2 3))) (s.expression (n 11) (s.name (at 0 1)))))) (s.some_expression (s.expression (n 14) (s.step step.IncAfter (s.expression (n 13) (s.name (at 2 3)))))) (s.statement (n 20) (s.if_statement (s.expression (n 17) (s.binary binary.Lt (s.expression (n 15) (s.name (at 2 3))) (s.expression (n 16) (s.number (at 3 4))))) (s.statement (n 19) (s.return_statement (s.some_expression (s.expression (n 18) (s.number (at 4 5)))))) s.no_statement))))) (s.then_part (s.run (s.statement (n 23) (s.return_statement (s.some_expression (s.expression (n 22) (s.number (at 3 4))))))) s.no_parts))))))

count_forgets : path count_typing all_kinds count_tree ((pos 3) ∷ (pos 0) ∷ (negsuc 0) ∷ []) ≡ Seen 12 true None ∷ Enter 20 ∷ Seen 17 true None ∷ Enter 19 ∷ []
count_forgets = refl

count_steps : path count_typing all_kinds count_tree ((pos 3) ∷ (pos 0) ∷ (pos 2) ∷ []) ≡ Seen 12 true None ∷ Enter 20 ∷ Seen 17 false None ∷ []
count_steps = refl

-- `int f(int x) { if (x != x) return 1; return 0; }`
abbrev dead_typing : Typing
dead_typing = told (120 ∷ 102 ∷ 49 ∷ 48 ∷ []) ((2, (integer_type kind.Int)) ∷ (5, (integer_type kind.Int)) ∷ (6, (integer_type kind.Int)) ∷ (7, (integer_type kind.Int)) ∷ (8, (integer_type kind.Int)) ∷ (11, (integer_type kind.Int)) ∷ []) ((5, 2) ∷ (6, 2) ∷ []) ((8, (pos 1)) ∷ (11, (pos 0)) ∷ []) ([]) ([]) ([]) ([])

abbrev dead_tree : FunctionTree
dead_tree = (s.function None (s.base (n 0) (s.words (fixed.Int ∷ []))) (s.declarator (n 4) 0 (Some (at 1 2)) (s.with_parameters (s.then_parameter (s.parameter (n 3) (s.base (n 1) (s.words (fixed.Int ∷ []))) (s.declarator (n 2) 0 (Some (at 0 1)) (s.arrays s.no_dimensions) s.no_initialiser)) s.no_parameters) false) s.no_initialiser) (s.statement (n 13) (s.block (s.then_part (s.run (s.statement (n 10) (s.if_statement (s.expression (n 7) (s.binary binary.Ne (s.expression (n 5) (s.name (at 0 1))) (s.expression (n 6) (s.name (at 0 1))))) (s.statement (n 9) (s.return_statement (s.some_expression (s.expression (n 8) (s.number (at 2 3)))))) s.no_statement))) (s.then_part (s.run (s.statement (n 12) (s.return_statement (s.some_expression (s.expression (n 11) (s.number (at 3 4))))))) s.no_parts)))))

dead_never : path dead_typing all_kinds dead_tree ((pos 5) ∷ []) ≡ Seen 7 false None ∷ []
dead_never = refl

-- `int f(unsigned char a, unsigned char b) { if (a + b < 0) return 1; return 0; }`
abbrev small_typing : Typing
small_typing = told (97 ∷ 98 ∷ 102 ∷ 48 ∷ 49 ∷ []) ((2, (integer_type kind.UChar)) ∷ (5, (integer_type kind.UChar)) ∷ (8, (integer_type kind.UChar)) ∷ (9, (integer_type kind.UChar)) ∷ (10, (integer_type kind.Int)) ∷ (11, (integer_type kind.Int)) ∷ (12, (integer_type kind.Int)) ∷ (13, (integer_type kind.Int)) ∷ (16, (integer_type kind.Int)) ∷ []) ((8, 2) ∷ (9, 5) ∷ []) ((11, (pos 0)) ∷ (13, (pos 1)) ∷ (16, (pos 0)) ∷ []) ([]) ([]) ([]) ([])

abbrev small_tree : FunctionTree
small_tree = (s.function None (s.base (n 0) (s.words (fixed.Int ∷ []))) (s.declarator (n 7) 0 (Some (at 2 3)) (s.with_parameters (s.then_parameter (s.parameter (n 3) (s.base (n 1) (s.words (fixed.Unsigned ∷ fixed.Char ∷ []))) (s.declarator (n 2) 0 (Some (at 0 1)) (s.arrays s.no_dimensions) s.no_initialiser)) (s.then_parameter (s.parameter (n 6) (s.base (n 4) (s.words (fixed.Unsigned ∷ fixed.Char ∷ []))) (s.declarator (n 5) 0 (Some (at 1 2)) (s.arrays s.no_dimensions) s.no_initialiser)) s.no_parameters)) false) s.no_initialiser) (s.statement (n 18) (s.block (s.then_part (s.run (s.statement (n 15) (s.if_statement (s.expression (n 12) (s.binary binary.Lt (s.expression (n 10) (s.binary binary.Add (s.expression (n 8) (s.name (at 0 1))) (s.expression (n 9) (s.name (at 1 2))))) (s.expression (n 11) (s.number (at 3 4))))) (s.statement (n 14) (s.return_statement (s.some_expression (s.expression (n 13) (s.number (at 4 5)))))) s.no_statement))) (s.then_part (s.run (s.statement (n 17) (s.return_statement (s.some_expression (s.expression (n 16) (s.number (at 3 4))))))) s.no_parts)))))

small_never : path small_typing all_kinds small_tree ((pos 255) ∷ (pos 255) ∷ []) ≡ Seen 12 false None ∷ []
small_never = refl

-- `int f(int k) { int x = k; int *p = &x; int y = 10 / x; if (x == 0) return *p; return y; }`
abbrev remembered_typing : Typing
remembered_typing = told (107 ∷ 102 ∷ 120 ∷ 112 ∷ 49 ∷ 48 ∷ 121 ∷ 48 ∷ []) ((2, (integer_type kind.Int)) ∷ (6, (integer_type kind.Int)) ∷ (7, (integer_type kind.Int)) ∷ (9, (integer_type kind.Int)) ∷ (10, (pointer_type (integer_type kind.Int))) ∷ (11, (pointer_type (integer_type kind.Int))) ∷ (13, (integer_type kind.Int)) ∷ (14, (integer_type kind.Int)) ∷ (15, (integer_type kind.Int)) ∷ (16, (integer_type kind.Int)) ∷ (17, (integer_type kind.Int)) ∷ (18, (integer_type kind.Int)) ∷ (19, (integer_type kind.Int)) ∷ (20, (pointer_type (integer_type kind.Int))) ∷ (21, (integer_type kind.Int)) ∷ (24, (integer_type kind.Int)) ∷ []) ((6, 2) ∷ (9, 7) ∷ (14, 7) ∷ (17, 7) ∷ (20, 11) ∷ (24, 16) ∷ []) ((13, (pos 10)) ∷ (18, (pos 0)) ∷ []) (7 ∷ []) ([]) ([]) ([])

abbrev remembered_tree : FunctionTree
remembered_tree = (s.function None (s.base (n 0) (s.words (fixed.Int ∷ []))) (s.declarator (n 4) 0 (Some (at 1 2)) (s.with_parameters (s.then_parameter (s.parameter (n 3) (s.base (n 1) (s.words (fixed.Int ∷ []))) (s.declarator (n 2) 0 (Some (at 0 1)) (s.arrays s.no_dimensions) s.no_initialiser)) s.no_parameters) false) s.no_initialiser) (s.statement (n 26) (s.block (s.then_part (s.local (s.declaration None (s.base (n 5) (s.words (fixed.Int ∷ []))) (s.then_declarator (s.declarator (n 7) 0 (Some (at 2 3)) (s.arrays s.no_dimensions) (s.some_initialiser (s.plain (s.expression (n 6) (s.name (at 0 1)))))) s.no_declarators))) (s.then_part (s.local (s.declaration None (s.base (n 8) (s.words (fixed.Int ∷ []))) (s.then_declarator (s.declarator (n 11) 1 (Some (at 3 4)) (s.arrays s.no_dimensions) (s.some_initialiser (s.plain (s.expression (n 10) (s.unary unary.Address (s.expression (n 9) (s.name (at 2 3)))))))) s.no_declarators))) (s.then_part (s.local (s.declaration None (s.base (n 12) (s.words (fixed.Int ∷ []))) (s.then_declarator (s.declarator (n 16) 0 (Some (at 6 7)) (s.arrays s.no_dimensions) (s.some_initialiser (s.plain (s.expression (n 15) (s.binary binary.Div (s.expression (n 13) (s.number (at 4 6))) (s.expression (n 14) (s.name (at 2 3)))))))) s.no_declarators))) (s.then_part (s.run (s.statement (n 23) (s.if_statement (s.expression (n 19) (s.binary binary.Eq (s.expression (n 17) (s.name (at 2 3))) (s.expression (n 18) (s.number (at 7 8))))) (s.statement (n 22) (s.return_statement (s.some_expression (s.expression (n 21) (s.unary unary.Deref (s.expression (n 20) (s.name (at 3 4)))))))) s.no_statement))) (s.then_part (s.run (s.statement (n 25) (s.return_statement (s.some_expression (s.expression (n 24) (s.name (at 6 7))))))) s.no_parts))))))))

remembered_kept : path remembered_typing all_kinds remembered_tree ((pos 0) ∷ (pos 4096) ∷ (pos 7) ∷ (pos 7) ∷ (pos 7) ∷ []) ≡ ub_at 15 ub.Zero ∷ Seen 19 true None ∷ Enter 22 ∷ []
remembered_kept = refl

-- `int f(int k) { int x = k; int y = 10 / x; g(&x); if (x == 0) return 1; return y; }` behind `extern void g(int *);`
abbrev called_typing : Typing
called_typing = told (107 ∷ 102 ∷ 120 ∷ 49 ∷ 48 ∷ 121 ∷ 103 ∷ 48 ∷ 49 ∷ []) ((2, (integer_type kind.Int)) ∷ (6, (integer_type kind.Int)) ∷ (7, (integer_type kind.Int)) ∷ (9, (integer_type kind.Int)) ∷ (10, (integer_type kind.Int)) ∷ (11, (integer_type kind.Int)) ∷ (12, (integer_type kind.Int)) ∷ (14, (integer_type kind.Int)) ∷ (15, (pointer_type (integer_type kind.Int))) ∷ (18, (integer_type kind.Int)) ∷ (19, (integer_type kind.Int)) ∷ (20, (integer_type kind.Int)) ∷ (21, (integer_type kind.Int)) ∷ (24, (integer_type kind.Int)) ∷ []) ((6, 2) ∷ (10, 7) ∷ (14, 7) ∷ (18, 7) ∷ (24, 12) ∷ []) ((9, (pos 10)) ∷ (19, (pos 0)) ∷ (21, (pos 1)) ∷ []) (7 ∷ []) ([]) ([]) ((6, (signature void_type (then_type (pointer_type (integer_type kind.Int)) no_types) false false)) ∷ [])

abbrev called_tree : FunctionTree
called_tree = (s.function None (s.base (n 0) (s.words (fixed.Int ∷ []))) (s.declarator (n 4) 0 (Some (at 1 2)) (s.with_parameters (s.then_parameter (s.parameter (n 3) (s.base (n 1) (s.words (fixed.Int ∷ []))) (s.declarator (n 2) 0 (Some (at 0 1)) (s.arrays s.no_dimensions) s.no_initialiser)) s.no_parameters) false) s.no_initialiser) (s.statement (n 26) (s.block (s.then_part (s.local (s.declaration None (s.base (n 5) (s.words (fixed.Int ∷ []))) (s.then_declarator (s.declarator (n 7) 0 (Some (at 2 3)) (s.arrays s.no_dimensions) (s.some_initialiser (s.plain (s.expression (n 6) (s.name (at 0 1)))))) s.no_declarators))) (s.then_part (s.local (s.declaration None (s.base (n 8) (s.words (fixed.Int ∷ []))) (s.then_declarator (s.declarator (n 12) 0 (Some (at 5 6)) (s.arrays s.no_dimensions) (s.some_initialiser (s.plain (s.expression (n 11) (s.binary binary.Div (s.expression (n 9) (s.number (at 3 5))) (s.expression (n 10) (s.name (at 2 3)))))))) s.no_declarators))) (s.then_part (s.run (s.statement (n 17) (s.expression_statement (s.some_expression (s.expression (n 16) (s.call (s.expression (n 13) (s.name (at 6 7))) (s.then_expression (s.expression (n 15) (s.unary unary.Address (s.expression (n 14) (s.name (at 2 3))))) s.no_expressions))))))) (s.then_part (s.run (s.statement (n 23) (s.if_statement (s.expression (n 20) (s.binary binary.Eq (s.expression (n 18) (s.name (at 2 3))) (s.expression (n 19) (s.number (at 7 8))))) (s.statement (n 22) (s.return_statement (s.some_expression (s.expression (n 21) (s.number (at 8 9)))))) s.no_statement))) (s.then_part (s.run (s.statement (n 25) (s.return_statement (s.some_expression (s.expression (n 24) (s.name (at 5 6))))))) s.no_parts))))))))

called_forgotten : path called_typing all_kinds called_tree ((pos 0) ∷ (pos 4096) ∷ (pos 7) ∷ (pos 5) ∷ []) ≡ ub_at 11 ub.Zero ∷ Seen 20 false None ∷ []
called_forgotten = refl
