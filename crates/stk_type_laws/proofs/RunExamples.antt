-- Path runs over the facts that typing gives, by which the definitions of typing and of runs can be checked together.
use Rattle.std.proofs.Common.{◌≡◌, ℕ, true, false, List, [], ◌∷◌, Some, None, pos, negsuc, refl}
use Rattle.stk_tree.specs.declared.fixed.Fixed.TheVariants as fixed
use Rattle.stk_tree.specs.declared.expression.StepOp.TheVariants as step
use Rattle.stk_tree.specs.declared.expression.UnaryOp.TheVariants as unary
use Rattle.stk_tree.specs.declared.expression.BinaryOp.TheVariants as binary
use Rattle.stk_tree.specs.declared.expression.AssignOp.TheVariants as assign
use Rattle.stk_tree.specs.Syntax.{FunctionTree}
use Rattle.stk_tree.specs.Syntax as s
use Rattle.stk_numbers.specs.declared.conditions.UbKind.TheVariants as ub
use Rattle.stk_meaning.specs.declared.entry.Entry.TheVariants.{Enter, Seen}
use Rattle.stk_type_rules.specs.Facts.{Fact}
use Rattle.stk_type_rules.specs.Outcome.{Outcome, Good, Refused}
use Rattle.stk_function_types.specs.Functions.{function_typed}
use Rattle.stk_meaning.specs.Typings.{Typing, typing_of}
use Rattle.stk_meaning.specs.Paths.{path}
use Rattle.stk_meaning.proofs.Told.{n, at, ub_at, all_kinds}

-- the facts of a function that isn't refused
abbrev facts_in : Outcome Fact → List Fact
facts_in (Good x t) = t
facts_in (Refused n r) = []

-- what typing answers of a function behind an empty file, with these declarators whose names are operands of `&`
abbrev typed : List ℕ → List ℕ → ℕ → FunctionTree → Typing
typed bytes taken k f = typing_of bytes [] taken (facts_in (function_typed bytes [] taken k f))

-- `int f(unsigned char x) { int y = 10 / x; if (x == 0) return 1; return y; }`
abbrev share_tree : FunctionTree
share_tree = (s.function None (s.base (n 0) (s.words (fixed.Int ∷ []))) (s.declarator (n 4) 0 (Some (at 1 2)) (s.with_parameters (s.then_parameter (s.parameter (n 3) (s.base (n 1) (s.words (fixed.Unsigned ∷ fixed.Char ∷ []))) (s.declarator (n 2) 0 (Some (at 0 1)) (s.arrays s.no_dimensions) s.no_initialiser)) s.no_parameters) false) s.no_initialiser) (s.statement (n 18) (s.block (s.then_part (s.local (s.declaration None (s.base (n 5) (s.words (fixed.Int ∷ []))) (s.then_declarator (s.declarator (n 9) 0 (Some (at 4 5)) (s.arrays s.no_dimensions) (s.some_initialiser (s.plain (s.expression (n 8) (s.binary binary.Div (s.expression (n 6) (s.number (at 2 4))) (s.expression (n 7) (s.name (at 0 1)))))))) s.no_declarators))) (s.then_part (s.run (s.statement (n 15) (s.if_statement (s.expression (n 12) (s.binary binary.Eq (s.expression (n 10) (s.name (at 0 1))) (s.expression (n 11) (s.number (at 5 6))))) (s.statement (n 14) (s.return_statement (s.some_expression (s.expression (n 13) (s.number (at 6 7)))))) s.no_statement))) (s.then_part (s.run (s.statement (n 17) (s.return_statement (s.some_expression (s.expression (n 16) (s.name (at 4 5))))))) s.no_parts))))))

abbrev share_typing : Typing
share_typing = typed (120 ∷ 102 ∷ 49 ∷ 48 ∷ 121 ∷ 48 ∷ 49 ∷ []) ([]) 19 share_tree

share_at_0 : path share_typing all_kinds share_tree ((pos 0) ∷ []) ≡ ub_at 8 ub.Zero ∷ Seen 12 true None ∷ Enter 14 ∷ []
share_at_0 = refl

share_at_1 : path share_typing all_kinds share_tree ((pos 1) ∷ []) ≡ Seen 12 false None ∷ []
share_at_1 = refl

-- `int f(int x) { if (x + 100 < x) return 1; return 0; }`
abbrev grow_tree : FunctionTree
grow_tree = (s.function None (s.base (n 0) (s.words (fixed.Int ∷ []))) (s.declarator (n 4) 0 (Some (at 1 2)) (s.with_parameters (s.then_parameter (s.parameter (n 3) (s.base (n 1) (s.words (fixed.Int ∷ []))) (s.declarator (n 2) 0 (Some (at 0 1)) (s.arrays s.no_dimensions) s.no_initialiser)) s.no_parameters) false) s.no_initialiser) (s.statement (n 15) (s.block (s.then_part (s.run (s.statement (n 12) (s.if_statement (s.expression (n 9) (s.binary binary.Lt (s.expression (n 7) (s.binary binary.Add (s.expression (n 5) (s.name (at 0 1))) (s.expression (n 6) (s.number (at 2 5))))) (s.expression (n 8) (s.name (at 0 1))))) (s.statement (n 11) (s.return_statement (s.some_expression (s.expression (n 10) (s.number (at 5 6)))))) s.no_statement))) (s.then_part (s.run (s.statement (n 14) (s.return_statement (s.some_expression (s.expression (n 13) (s.number (at 6 7))))))) s.no_parts)))))

abbrev grow_typing : Typing
grow_typing = typed (120 ∷ 102 ∷ 49 ∷ 48 ∷ 48 ∷ 49 ∷ 48 ∷ []) ([]) 16 grow_tree

grow_below : path grow_typing all_kinds grow_tree ((pos 2147483547) ∷ []) ≡ Seen 9 false (Some false) ∷ []
grow_below = refl

grow_first : path grow_typing all_kinds grow_tree ((pos 2147483548) ∷ []) ≡ ub_at 7 ub.Overflow ∷ Seen 9 true (Some false) ∷ Enter 11 ∷ []
grow_first = refl

-- `int f(int x, int y) { int r = x % y; if (y == -1 && x == -2147483647 - 1) return 1; return r; }`
abbrev remainder_tree : FunctionTree
remainder_tree = (s.function None (s.base (n 0) (s.words (fixed.Int ∷ []))) (s.declarator (n 7) 0 (Some (at 2 3)) (s.with_parameters (s.then_parameter (s.parameter (n 3) (s.base (n 1) (s.words (fixed.Int ∷ []))) (s.declarator (n 2) 0 (Some (at 0 1)) (s.arrays s.no_dimensions) s.no_initialiser)) (s.then_parameter (s.parameter (n 6) (s.base (n 4) (s.words (fixed.Int ∷ []))) (s.declarator (n 5) 0 (Some (at 1 2)) (s.arrays s.no_dimensions) s.no_initialiser)) s.no_parameters)) false) s.no_initialiser) (s.statement (n 29) (s.block (s.then_part (s.local (s.declaration None (s.base (n 8) (s.words (fixed.Int ∷ []))) (s.then_declarator (s.declarator (n 12) 0 (Some (at 3 4)) (s.arrays s.no_dimensions) (s.some_initialiser (s.plain (s.expression (n 11) (s.binary binary.Rem (s.expression (n 9) (s.name (at 0 1))) (s.expression (n 10) (s.name (at 1 2)))))))) s.no_declarators))) (s.then_part (s.run (s.statement (n 26) (s.if_statement (s.expression (n 23) (s.binary binary.AndAlso (s.expression (n 16) (s.binary binary.Eq (s.expression (n 13) (s.name (at 1 2))) (s.expression (n 15) (s.unary unary.Minus (s.expression (n 14) (s.number (at 4 5))))))) (s.expression (n 22) (s.binary binary.Eq (s.expression (n 17) (s.name (at 0 1))) (s.expression (n 21) (s.binary binary.Sub (s.expression (n 19) (s.unary unary.Minus (s.expression (n 18) (s.number (at 5 15))))) (s.expression (n 20) (s.number (at 4 5))))))))) (s.statement (n 25) (s.return_statement (s.some_expression (s.expression (n 24) (s.number (at 4 5)))))) s.no_statement))) (s.then_part (s.run (s.statement (n 28) (s.return_statement (s.some_expression (s.expression (n 27) (s.name (at 3 4))))))) s.no_parts))))))

abbrev remainder_typing : Typing
remainder_typing = typed (120 ∷ 121 ∷ 102 ∷ 114 ∷ 49 ∷ 50 ∷ 49 ∷ 52 ∷ 55 ∷ 52 ∷ 56 ∷ 51 ∷ 54 ∷ 52 ∷ 55 ∷ []) ([]) 30 remainder_tree

remainder_overflow : path remainder_typing all_kinds remainder_tree ((negsuc 2147483647) ∷ (negsuc 0) ∷ []) ≡ ub_at 11 ub.Overflow ∷ Seen 16 true None ∷ Enter 22 ∷ Seen 22 true None ∷ Seen 23 true None ∷ Enter 25 ∷ []
remainder_overflow = refl

remainder_zero : path remainder_typing all_kinds remainder_tree ((pos 7) ∷ (pos 0) ∷ []) ≡ ub_at 11 ub.Zero ∷ Seen 16 false None ∷ Seen 23 false None ∷ []
remainder_zero = refl

-- `int f(unsigned char n) { for (unsigned char i = 1; i < 9; i++) if (10 / (i - n) >= 0 && i == n) return 1; return 0;
-- }`
abbrev turned_tree : FunctionTree
turned_tree = (s.function None (s.base (n 0) (s.words (fixed.Int ∷ []))) (s.declarator (n 4) 0 (Some (at 1 2)) (s.with_parameters (s.then_parameter (s.parameter (n 3) (s.base (n 1) (s.words (fixed.Unsigned ∷ fixed.Char ∷ []))) (s.declarator (n 2) 0 (Some (at 0 1)) (s.arrays s.no_dimensions) s.no_initialiser)) s.no_parameters) false) s.no_initialiser) (s.statement (n 31) (s.block (s.then_part (s.run (s.statement (n 28) (s.for_statement (s.start_declaration (s.declaration None (s.base (n 5) (s.words (fixed.Unsigned ∷ fixed.Char ∷ []))) (s.then_declarator (s.declarator (n 7) 0 (Some (at 3 4)) (s.arrays s.no_dimensions) (s.some_initialiser (s.plain (s.expression (n 6) (s.number (at 2 3)))))) s.no_declarators))) (s.some_expression (s.expression (n 10) (s.binary binary.Lt (s.expression (n 8) (s.name (at 3 4))) (s.expression (n 9) (s.number (at 4 5)))))) (s.some_expression (s.expression (n 12) (s.step step.IncAfter (s.expression (n 11) (s.name (at 3 4)))))) (s.statement (n 27) (s.if_statement (s.expression (n 24) (s.binary binary.AndAlso (s.expression (n 20) (s.binary binary.Ge (s.expression (n 18) (s.binary binary.Div (s.expression (n 13) (s.number (at 5 7))) (s.expression (n 17) (s.paren (s.expression (n 16) (s.binary binary.Sub (s.expression (n 14) (s.name (at 3 4))) (s.expression (n 15) (s.name (at 0 1))))))))) (s.expression (n 19) (s.number (at 7 8))))) (s.expression (n 23) (s.binary binary.Eq (s.expression (n 21) (s.name (at 3 4))) (s.expression (n 22) (s.name (at 0 1))))))) (s.statement (n 26) (s.return_statement (s.some_expression (s.expression (n 25) (s.number (at 2 3)))))) s.no_statement))))) (s.then_part (s.run (s.statement (n 30) (s.return_statement (s.some_expression (s.expression (n 29) (s.number (at 7 8))))))) s.no_parts)))))

abbrev turned_typing : Typing
turned_typing = typed (110 ∷ 102 ∷ 49 ∷ 105 ∷ 57 ∷ 49 ∷ 48 ∷ 48 ∷ []) ([]) 32 turned_tree

turned_zero : path turned_typing all_kinds turned_tree ((pos 0) ∷ (pos 0) ∷ []) ≡ Seen 10 true None ∷ Enter 27 ∷ ub_at 18 ub.Zero ∷ Seen 20 true None ∷ Enter 23 ∷ Seen 23 true None ∷ Seen 24 true None ∷ Enter 26 ∷ []
turned_zero = refl

turned_beyond : path turned_typing all_kinds turned_tree ((pos 0) ∷ (pos 9) ∷ []) ≡ Seen 10 false None ∷ []
turned_beyond = refl

-- `int f(int k) { int x = k; int *p = &x; int y = 10 / x; if (x == 0) return *p; return y; }`
abbrev remembered_tree : FunctionTree
remembered_tree = (s.function None (s.base (n 0) (s.words (fixed.Int ∷ []))) (s.declarator (n 4) 0 (Some (at 1 2)) (s.with_parameters (s.then_parameter (s.parameter (n 3) (s.base (n 1) (s.words (fixed.Int ∷ []))) (s.declarator (n 2) 0 (Some (at 0 1)) (s.arrays s.no_dimensions) s.no_initialiser)) s.no_parameters) false) s.no_initialiser) (s.statement (n 26) (s.block (s.then_part (s.local (s.declaration None (s.base (n 5) (s.words (fixed.Int ∷ []))) (s.then_declarator (s.declarator (n 7) 0 (Some (at 2 3)) (s.arrays s.no_dimensions) (s.some_initialiser (s.plain (s.expression (n 6) (s.name (at 0 1)))))) s.no_declarators))) (s.then_part (s.local (s.declaration None (s.base (n 8) (s.words (fixed.Int ∷ []))) (s.then_declarator (s.declarator (n 11) 1 (Some (at 3 4)) (s.arrays s.no_dimensions) (s.some_initialiser (s.plain (s.expression (n 10) (s.unary unary.Address (s.expression (n 9) (s.name (at 2 3)))))))) s.no_declarators))) (s.then_part (s.local (s.declaration None (s.base (n 12) (s.words (fixed.Int ∷ []))) (s.then_declarator (s.declarator (n 16) 0 (Some (at 6 7)) (s.arrays s.no_dimensions) (s.some_initialiser (s.plain (s.expression (n 15) (s.binary binary.Div (s.expression (n 13) (s.number (at 4 6))) (s.expression (n 14) (s.name (at 2 3)))))))) s.no_declarators))) (s.then_part (s.run (s.statement (n 23) (s.if_statement (s.expression (n 19) (s.binary binary.Eq (s.expression (n 17) (s.name (at 2 3))) (s.expression (n 18) (s.number (at 7 8))))) (s.statement (n 22) (s.return_statement (s.some_expression (s.expression (n 21) (s.unary unary.Deref (s.expression (n 20) (s.name (at 3 4)))))))) s.no_statement))) (s.then_part (s.run (s.statement (n 25) (s.return_statement (s.some_expression (s.expression (n 24) (s.name (at 6 7))))))) s.no_parts))))))))

abbrev remembered_typing : Typing
remembered_typing = typed (107 ∷ 102 ∷ 120 ∷ 112 ∷ 49 ∷ 48 ∷ 121 ∷ 48 ∷ []) (7 ∷ []) 27 remembered_tree

remembered_kept : path remembered_typing all_kinds remembered_tree ((pos 0) ∷ (pos 4096) ∷ (pos 7) ∷ (pos 7) ∷ (pos 7) ∷ []) ≡ ub_at 15 ub.Zero ∷ Seen 19 true None ∷ Enter 22 ∷ []
remembered_kept = refl

-- `int f(void) { if (0x10 == 020 && 'a' == 97 && '\377' == -1 && sizeof(int) == 4 && 4294967295 > 0) return 1; return
-- 0; }`
abbrev constants_tree : FunctionTree
constants_tree = (s.function None (s.base (n 0) (s.words (fixed.Int ∷ []))) (s.declarator (n 1) 0 (Some (at 0 1)) s.void_parameters s.no_initialiser) (s.statement (n 29) (s.block (s.then_part (s.run (s.statement (n 26) (s.if_statement (s.expression (n 23) (s.binary binary.AndAlso (s.expression (n 19) (s.binary binary.AndAlso (s.expression (n 13) (s.binary binary.AndAlso (s.expression (n 8) (s.binary binary.AndAlso (s.expression (n 4) (s.binary binary.Eq (s.expression (n 2) (s.number (at 1 5))) (s.expression (n 3) (s.number (at 5 8))))) (s.expression (n 7) (s.binary binary.Eq (s.expression (n 5) (s.character (at 8 11))) (s.expression (n 6) (s.number (at 11 13))))))) (s.expression (n 12) (s.binary binary.Eq (s.expression (n 9) (s.character (at 13 19))) (s.expression (n 11) (s.unary unary.Minus (s.expression (n 10) (s.number (at 19 20))))))))) (s.expression (n 18) (s.binary binary.Eq (s.expression (n 16) (s.size_name (s.type_name (n 15) (s.base (n 14) (s.words (fixed.Int ∷ []))) 0 s.no_dimensions))) (s.expression (n 17) (s.number (at 20 21))))))) (s.expression (n 22) (s.binary binary.Gt (s.expression (n 20) (s.number (at 21 31))) (s.expression (n 21) (s.number (at 31 32))))))) (s.statement (n 25) (s.return_statement (s.some_expression (s.expression (n 24) (s.number (at 19 20)))))) s.no_statement))) (s.then_part (s.run (s.statement (n 28) (s.return_statement (s.some_expression (s.expression (n 27) (s.number (at 31 32))))))) s.no_parts)))))

abbrev constants_typing : Typing
constants_typing = typed (102 ∷ 48 ∷ 120 ∷ 49 ∷ 48 ∷ 48 ∷ 50 ∷ 48 ∷ 39 ∷ 97 ∷ 39 ∷ 57 ∷ 55 ∷ 39 ∷ 92 ∷ 51 ∷ 55 ∷ 55 ∷ 39 ∷ 49 ∷ 52 ∷ 52 ∷ 50 ∷ 57 ∷ 52 ∷ 57 ∷ 54 ∷ 55 ∷ 50 ∷ 57 ∷ 53 ∷ 48 ∷ []) ([]) 30 constants_tree

constants_all : path constants_typing all_kinds constants_tree ([]) ≡ Seen 4 true None ∷ Enter 7 ∷ Seen 7 true None ∷ Seen 8 true None ∷ Enter 12 ∷ Seen 12 true None ∷ Seen 13 true None ∷ Enter 18 ∷ Seen 18 true None ∷ Seen 19 true None ∷ Enter 22 ∷ Seen 22 true None ∷ Seen 23 true None ∷ Enter 25 ∷ []
constants_all = refl

-- `int f(int x) { if ((unsigned char)x == 0 && (_Bool)x == 1 && (char)x >= 0) return (long)(int *)x < 0; return 0; }`
abbrev casts_tree : FunctionTree
casts_tree = (s.function None (s.base (n 0) (s.words (fixed.Int ∷ []))) (s.declarator (n 4) 0 (Some (at 1 2)) (s.with_parameters (s.then_parameter (s.parameter (n 3) (s.base (n 1) (s.words (fixed.Int ∷ []))) (s.declarator (n 2) 0 (Some (at 0 1)) (s.arrays s.no_dimensions) s.no_initialiser)) s.no_parameters) false) s.no_initialiser) (s.statement (n 38) (s.block (s.then_part (s.run (s.statement (n 35) (s.if_statement (s.expression (n 24) (s.binary binary.AndAlso (s.expression (n 17) (s.binary binary.AndAlso (s.expression (n 10) (s.binary binary.Eq (s.expression (n 8) (s.cast (s.type_name (n 6) (s.base (n 5) (s.words (fixed.Unsigned ∷ fixed.Char ∷ []))) 0 s.no_dimensions) (s.expression (n 7) (s.name (at 0 1))))) (s.expression (n 9) (s.number (at 2 3))))) (s.expression (n 16) (s.binary binary.Eq (s.expression (n 14) (s.cast (s.type_name (n 12) (s.base (n 11) (s.words (fixed.Bool ∷ []))) 0 s.no_dimensions) (s.expression (n 13) (s.name (at 0 1))))) (s.expression (n 15) (s.number (at 3 4))))))) (s.expression (n 23) (s.binary binary.Ge (s.expression (n 21) (s.cast (s.type_name (n 19) (s.base (n 18) (s.words (fixed.Char ∷ []))) 0 s.no_dimensions) (s.expression (n 20) (s.name (at 0 1))))) (s.expression (n 22) (s.number (at 2 3))))))) (s.statement (n 34) (s.return_statement (s.some_expression (s.expression (n 33) (s.binary binary.Lt (s.expression (n 31) (s.cast (s.type_name (n 26) (s.base (n 25) (s.words (fixed.Long ∷ []))) 0 s.no_dimensions) (s.expression (n 30) (s.cast (s.type_name (n 28) (s.base (n 27) (s.words (fixed.Int ∷ []))) 1 s.no_dimensions) (s.expression (n 29) (s.name (at 0 1))))))) (s.expression (n 32) (s.number (at 2 3)))))))) s.no_statement))) (s.then_part (s.run (s.statement (n 37) (s.return_statement (s.some_expression (s.expression (n 36) (s.number (at 2 3))))))) s.no_parts)))))

abbrev casts_typing : Typing
casts_typing = typed (120 ∷ 102 ∷ 48 ∷ 49 ∷ []) ([]) 39 casts_tree

casts_of_256 : path casts_typing all_kinds casts_tree ((negsuc 255) ∷ []) ≡ Seen 10 true None ∷ Enter 16 ∷ Seen 16 true None ∷ Seen 17 true None ∷ Enter 23 ∷ Seen 23 true None ∷ Seen 24 true None ∷ Enter 34 ∷ Seen 33 true None ∷ []
casts_of_256 = refl

-- `int f(int x, unsigned u) { if ((x ? x : u) > 0) return 1; return 0; }`
abbrev choice_tree : FunctionTree
choice_tree = (s.function None (s.base (n 0) (s.words (fixed.Int ∷ []))) (s.declarator (n 7) 0 (Some (at 2 3)) (s.with_parameters (s.then_parameter (s.parameter (n 3) (s.base (n 1) (s.words (fixed.Int ∷ []))) (s.declarator (n 2) 0 (Some (at 0 1)) (s.arrays s.no_dimensions) s.no_initialiser)) (s.then_parameter (s.parameter (n 6) (s.base (n 4) (s.words (fixed.Unsigned ∷ []))) (s.declarator (n 5) 0 (Some (at 1 2)) (s.arrays s.no_dimensions) s.no_initialiser)) s.no_parameters)) false) s.no_initialiser) (s.statement (n 20) (s.block (s.then_part (s.run (s.statement (n 17) (s.if_statement (s.expression (n 14) (s.binary binary.Gt (s.expression (n 12) (s.paren (s.expression (n 11) (s.choice (s.expression (n 8) (s.name (at 0 1))) (s.expression (n 9) (s.name (at 0 1))) (s.expression (n 10) (s.name (at 1 2))))))) (s.expression (n 13) (s.number (at 3 4))))) (s.statement (n 16) (s.return_statement (s.some_expression (s.expression (n 15) (s.number (at 4 5)))))) s.no_statement))) (s.then_part (s.run (s.statement (n 19) (s.return_statement (s.some_expression (s.expression (n 18) (s.number (at 3 4))))))) s.no_parts)))))

abbrev choice_typing : Typing
choice_typing = typed (120 ∷ 117 ∷ 102 ∷ 48 ∷ 49 ∷ []) ([]) 21 choice_tree

choice_converted : path choice_typing all_kinds choice_tree ((negsuc 0) ∷ (pos 0) ∷ []) ≡ Seen 8 true None ∷ Enter 9 ∷ Seen 14 true None ∷ Enter 16 ∷ []
choice_converted = refl

choice_other : path choice_typing all_kinds choice_tree ((pos 0) ∷ (pos 0) ∷ []) ≡ Seen 8 false None ∷ Enter 10 ∷ Seen 14 false None ∷ []
choice_other = refl

-- `int f(unsigned char c, int y) { c += y; if (c == 44) return 1; return (c = y) == y; }`
abbrev assigned_tree : FunctionTree
assigned_tree = (s.function None (s.base (n 0) (s.words (fixed.Int ∷ []))) (s.declarator (n 7) 0 (Some (at 2 3)) (s.with_parameters (s.then_parameter (s.parameter (n 3) (s.base (n 1) (s.words (fixed.Unsigned ∷ fixed.Char ∷ []))) (s.declarator (n 2) 0 (Some (at 0 1)) (s.arrays s.no_dimensions) s.no_initialiser)) (s.then_parameter (s.parameter (n 6) (s.base (n 4) (s.words (fixed.Int ∷ []))) (s.declarator (n 5) 0 (Some (at 1 2)) (s.arrays s.no_dimensions) s.no_initialiser)) s.no_parameters)) false) s.no_initialiser) (s.statement (n 25) (s.block (s.then_part (s.run (s.statement (n 11) (s.expression_statement (s.some_expression (s.expression (n 10) (s.assign assign.Add (s.expression (n 8) (s.name (at 0 1))) (s.expression (n 9) (s.name (at 1 2))))))))) (s.then_part (s.run (s.statement (n 17) (s.if_statement (s.expression (n 14) (s.binary binary.Eq (s.expression (n 12) (s.name (at 0 1))) (s.expression (n 13) (s.number (at 3 5))))) (s.statement (n 16) (s.return_statement (s.some_expression (s.expression (n 15) (s.number (at 5 6)))))) s.no_statement))) (s.then_part (s.run (s.statement (n 24) (s.return_statement (s.some_expression (s.expression (n 23) (s.binary binary.Eq (s.expression (n 21) (s.paren (s.expression (n 20) (s.assign assign.Plain (s.expression (n 18) (s.name (at 0 1))) (s.expression (n 19) (s.name (at 1 2))))))) (s.expression (n 22) (s.name (at 1 2))))))))) s.no_parts))))))

abbrev assigned_typing : Typing
assigned_typing = typed (99 ∷ 121 ∷ 102 ∷ 52 ∷ 52 ∷ 49 ∷ []) ([]) 26 assigned_tree

assigned_wrapped : path assigned_typing all_kinds assigned_tree ((pos 200) ∷ (pos 100) ∷ []) ≡ Seen 14 true None ∷ Enter 16 ∷ []
assigned_wrapped = refl

assigned_in_its_type : path assigned_typing all_kinds assigned_tree ((pos 0) ∷ (pos 256) ∷ []) ≡ Seen 14 false None ∷ Seen 23 false None ∷ []
assigned_in_its_type = refl

-- `int f(int x) { int r = 0; switch (x) { case 1: r = 1; break; default: r += 2; case 3: r += 4; case 5: r += 8; break;
-- case 7: ; } return r == 14; }`
abbrev chosen_tree : FunctionTree
chosen_tree = (s.function None (s.base (n 0) (s.words (fixed.Int ∷ []))) (s.declarator (n 4) 0 (Some (at 1 2)) (s.with_parameters (s.then_parameter (s.parameter (n 3) (s.base (n 1) (s.words (fixed.Int ∷ []))) (s.declarator (n 2) 0 (Some (at 0 1)) (s.arrays s.no_dimensions) s.no_initialiser)) s.no_parameters) false) s.no_initialiser) (s.statement (n 42) (s.block (s.then_part (s.local (s.declaration None (s.base (n 5) (s.words (fixed.Int ∷ []))) (s.then_declarator (s.declarator (n 7) 0 (Some (at 3 4)) (s.arrays s.no_dimensions) (s.some_initialiser (s.plain (s.expression (n 6) (s.number (at 2 3)))))) s.no_declarators))) (s.then_part (s.run (s.statement (n 37) (s.switch_statement (s.expression (n 8) (s.name (at 0 1))) (s.then_section (s.section (n 15) (s.then_label (s.case_label (s.expression (n 9) (s.number (at 4 5)))) s.no_labels) (s.then_statement (s.statement (n 13) (s.expression_statement (s.some_expression (s.expression (n 12) (s.assign assign.Plain (s.expression (n 10) (s.name (at 3 4))) (s.expression (n 11) (s.number (at 4 5)))))))) (s.then_statement (s.statement (n 14) s.break_statement) s.no_statements))) (s.then_section (s.section (n 20) (s.then_label s.default_label s.no_labels) (s.then_statement (s.statement (n 19) (s.expression_statement (s.some_expression (s.expression (n 18) (s.assign assign.Add (s.expression (n 16) (s.name (at 3 4))) (s.expression (n 17) (s.number (at 5 6)))))))) s.no_statements)) (s.then_section (s.section (n 26) (s.then_label (s.case_label (s.expression (n 21) (s.number (at 6 7)))) s.no_labels) (s.then_statement (s.statement (n 25) (s.expression_statement (s.some_expression (s.expression (n 24) (s.assign assign.Add (s.expression (n 22) (s.name (at 3 4))) (s.expression (n 23) (s.number (at 7 8)))))))) s.no_statements)) (s.then_section (s.section (n 33) (s.then_label (s.case_label (s.expression (n 27) (s.number (at 8 9)))) s.no_labels) (s.then_statement (s.statement (n 31) (s.expression_statement (s.some_expression (s.expression (n 30) (s.assign assign.Add (s.expression (n 28) (s.name (at 3 4))) (s.expression (n 29) (s.number (at 9 10)))))))) (s.then_statement (s.statement (n 32) s.break_statement) s.no_statements))) (s.then_section (s.section (n 36) (s.then_label (s.case_label (s.expression (n 34) (s.number (at 10 11)))) s.no_labels) (s.then_statement (s.statement (n 35) (s.expression_statement s.no_expression)) s.no_statements)) s.no_sections)))))))) (s.then_part (s.run (s.statement (n 41) (s.return_statement (s.some_expression (s.expression (n 40) (s.binary binary.Eq (s.expression (n 38) (s.name (at 3 4))) (s.expression (n 39) (s.number (at 11 13))))))))) s.no_parts))))))

abbrev chosen_typing : Typing
chosen_typing = typed (120 ∷ 102 ∷ 48 ∷ 114 ∷ 49 ∷ 50 ∷ 51 ∷ 52 ∷ 53 ∷ 56 ∷ 55 ∷ 49 ∷ 52 ∷ []) ([]) 43 chosen_tree

chosen_first : path chosen_typing all_kinds chosen_tree ((pos 1) ∷ []) ≡ Enter 15 ∷ Seen 40 false None ∷ []
chosen_first = refl

chosen_through_default : path chosen_typing all_kinds chosen_tree ((pos 2) ∷ []) ≡ Enter 20 ∷ Enter 26 ∷ Enter 33 ∷ Seen 40 true None ∷ []
chosen_through_default = refl

-- `int f(int n) { int i = 0; do { i++; if (i == n) continue; n--; } while (i < n); return n == 3; }`
abbrev again_tree : FunctionTree
again_tree = (s.function None (s.base (n 0) (s.words (fixed.Int ∷ []))) (s.declarator (n 4) 0 (Some (at 1 2)) (s.with_parameters (s.then_parameter (s.parameter (n 3) (s.base (n 1) (s.words (fixed.Int ∷ []))) (s.declarator (n 2) 0 (Some (at 0 1)) (s.arrays s.no_dimensions) s.no_initialiser)) s.no_parameters) false) s.no_initialiser) (s.statement (n 28) (s.block (s.then_part (s.local (s.declaration None (s.base (n 5) (s.words (fixed.Int ∷ []))) (s.then_declarator (s.declarator (n 7) 0 (Some (at 3 4)) (s.arrays s.no_dimensions) (s.some_initialiser (s.plain (s.expression (n 6) (s.number (at 2 3)))))) s.no_declarators))) (s.then_part (s.run (s.statement (n 23) (s.do_statement (s.statement (n 19) (s.block (s.then_part (s.run (s.statement (n 10) (s.expression_statement (s.some_expression (s.expression (n 9) (s.step step.IncAfter (s.expression (n 8) (s.name (at 3 4))))))))) (s.then_part (s.run (s.statement (n 15) (s.if_statement (s.expression (n 13) (s.binary binary.Eq (s.expression (n 11) (s.name (at 3 4))) (s.expression (n 12) (s.name (at 0 1))))) (s.statement (n 14) s.continue_statement) s.no_statement))) (s.then_part (s.run (s.statement (n 18) (s.expression_statement (s.some_expression (s.expression (n 17) (s.step step.DecAfter (s.expression (n 16) (s.name (at 0 1))))))))) s.no_parts))))) (s.expression (n 22) (s.binary binary.Lt (s.expression (n 20) (s.name (at 3 4))) (s.expression (n 21) (s.name (at 0 1)))))))) (s.then_part (s.run (s.statement (n 27) (s.return_statement (s.some_expression (s.expression (n 26) (s.binary binary.Eq (s.expression (n 24) (s.name (at 0 1))) (s.expression (n 25) (s.number (at 4 5))))))))) s.no_parts))))))

abbrev again_typing : Typing
again_typing = typed (110 ∷ 102 ∷ 48 ∷ 105 ∷ 51 ∷ []) ([]) 29 again_tree

again_continues : path again_typing all_kinds again_tree ((pos 3) ∷ (pos 3) ∷ (pos 2) ∷ []) ≡ Enter 19 ∷ Seen 13 true None ∷ Enter 14 ∷ Seen 22 false None ∷ Seen 26 true None ∷ []
again_continues = refl

again_turns : path again_typing all_kinds again_tree ((pos 3) ∷ (pos 9) ∷ (pos 2) ∷ []) ≡ Enter 19 ∷ Seen 13 false None ∷ Seen 22 true None ∷ []
again_turns = refl

-- `int f(int x) { if (x > 0) { int y = 2; if (y == 2) ; else ; } else if (x == 0) return 1; else { ; } return 0; }`
abbrev branches_tree : FunctionTree
branches_tree = (s.function None (s.base (n 0) (s.words (fixed.Int ∷ []))) (s.declarator (n 4) 0 (Some (at 1 2)) (s.with_parameters (s.then_parameter (s.parameter (n 3) (s.base (n 1) (s.words (fixed.Int ∷ []))) (s.declarator (n 2) 0 (Some (at 0 1)) (s.arrays s.no_dimensions) s.no_initialiser)) s.no_parameters) false) s.no_initialiser) (s.statement (n 29) (s.block (s.then_part (s.run (s.statement (n 26) (s.if_statement (s.expression (n 7) (s.binary binary.Gt (s.expression (n 5) (s.name (at 0 1))) (s.expression (n 6) (s.number (at 2 3))))) (s.statement (n 17) (s.block (s.then_part (s.local (s.declaration None (s.base (n 8) (s.words (fixed.Int ∷ []))) (s.then_declarator (s.declarator (n 10) 0 (Some (at 4 5)) (s.arrays s.no_dimensions) (s.some_initialiser (s.plain (s.expression (n 9) (s.number (at 3 4)))))) s.no_declarators))) (s.then_part (s.run (s.statement (n 16) (s.if_statement (s.expression (n 13) (s.binary binary.Eq (s.expression (n 11) (s.name (at 4 5))) (s.expression (n 12) (s.number (at 3 4))))) (s.statement (n 14) (s.expression_statement s.no_expression)) (s.some_statement (s.statement (n 15) (s.expression_statement s.no_expression)))))) s.no_parts)))) (s.some_statement (s.statement (n 25) (s.if_statement (s.expression (n 20) (s.binary binary.Eq (s.expression (n 18) (s.name (at 0 1))) (s.expression (n 19) (s.number (at 2 3))))) (s.statement (n 22) (s.return_statement (s.some_expression (s.expression (n 21) (s.number (at 5 6)))))) (s.some_statement (s.statement (n 24) (s.block (s.then_part (s.run (s.statement (n 23) (s.expression_statement s.no_expression))) s.no_parts)))))))))) (s.then_part (s.run (s.statement (n 28) (s.return_statement (s.some_expression (s.expression (n 27) (s.number (at 2 3))))))) s.no_parts)))))

abbrev branches_typing : Typing
branches_typing = typed (120 ∷ 102 ∷ 48 ∷ 50 ∷ 121 ∷ 49 ∷ []) ([]) 30 branches_tree

branches_first : path branches_typing all_kinds branches_tree ((pos 1) ∷ []) ≡ Seen 7 true None ∷ Enter 17 ∷ Seen 13 true None ∷ Enter 14 ∷ []
branches_first = refl

branches_second : path branches_typing all_kinds branches_tree ((pos 0) ∷ []) ≡ Seen 7 false None ∷ Enter 25 ∷ Seen 20 true None ∷ Enter 22 ∷ []
branches_second = refl
