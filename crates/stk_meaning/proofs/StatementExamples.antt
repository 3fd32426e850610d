-- Path runs with each form of statement and of local declarations.
use Rattle.std.proofs.Common.{◌≡◌, true, false, [], ◌∷◌, Some, None, pos, negsuc, refl}
use Rattle.stk_ctype.specs.declared.kind.IntKind.TheVariants as kind
use Rattle.stk_ctype.specs.Types.{integer_type, array_type, no_types, then_type, signature}
use Rattle.stk_tree.specs.declared.fixed.Fixed.TheVariants as fixed
use Rattle.stk_tree.specs.declared.declaration.Storage.TheVariants as storage
use Rattle.stk_tree.specs.declared.expression.StepOp.TheVariants as step
use Rattle.stk_tree.specs.declared.expression.UnaryOp.TheVariants as unary
use Rattle.stk_tree.specs.declared.expression.BinaryOp.TheVariants as binary
use Rattle.stk_tree.specs.declared.expression.AssignOp.TheVariants as assign
use Rattle.stk_tree.specs.Syntax.{FunctionTree}
use Rattle.stk_tree.specs.Syntax as s
use Rattle.stk_numbers.specs.declared.conditions.UbKind.TheVariants as ub
use Rattle.stk_meaning.specs.declared.entry.Entry.TheVariants.{Enter, Seen}
use Rattle.stk_meaning.specs.Typings.{Typing}
use Rattle.stk_meaning.specs.Paths.{path}
use Rattle.stk_meaning.proofs.Told.{told, n, at, ub_at, all_kinds}

-- `int f(int x) { int r = 0; switch (x) { case 1: r = 1; break; default: r += 2; case 3: r += 4; case 5: r += 8; break;
-- case 7: ; } return r == 14; }`
abbrev chosen_typing : Typing
chosen_typing = told (120 ∷ 102 ∷ 48 ∷ 114 ∷ 49 ∷ 50 ∷ 51 ∷ 52 ∷ 53 ∷ 56 ∷ 55 ∷ 49 ∷ 52 ∷ []) ((2, (integer_type kind.Int)) ∷ (6, (integer_type kind.Int)) ∷ (7, (integer_type kind.Int)) ∷ (8, (integer_type kind.Int)) ∷ (9, (integer_type kind.Int)) ∷ (10, (integer_type kind.Int)) ∷ (11, (integer_type kind.Int)) ∷ (12, (integer_type kind.Int)) ∷ (16, (integer_type kind.Int)) ∷ (17, (integer_type kind.Int)) ∷ (18, (integer_type kind.Int)) ∷ (21, (integer_type kind.Int)) ∷ (22, (integer_type kind.Int)) ∷ (23, (integer_type kind.Int)) ∷ (24, (integer_type kind.Int)) ∷ (27, (integer_type kind.Int)) ∷ (28, (integer_type kind.Int)) ∷ (29, (integer_type kind.Int)) ∷ (30, (integer_type kind.Int)) ∷ (34, (integer_type kind.Int)) ∷ (38, (integer_type kind.Int)) ∷ (39, (integer_type kind.Int)) ∷ (40, (integer_type kind.Int)) ∷ []) ((8, 2) ∷ (10, 7) ∷ (16, 7) ∷ (22, 7) ∷ (28, 7) ∷ (38, 7) ∷ []) ((6, (pos 0)) ∷ (9, (pos 1)) ∷ (11, (pos 1)) ∷ (17, (pos 2)) ∷ (21, (pos 3)) ∷ (23, (pos 4)) ∷ (27, (pos 5)) ∷ (29, (pos 8)) ∷ (34, (pos 7)) ∷ (39, (pos 14)) ∷ []) ([]) ([]) ([]) ([])

abbrev chosen_tree : FunctionTree
chosen_tree = (s.function None (s.base (n 0) (s.words (fixed.Int ∷ []))) (s.declarator (n 4) 0 (Some (at 1 2)) (s.with_parameters (s.then_parameter (s.parameter (n 3) (s.base (n 1) (s.words (fixed.Int ∷ []))) (s.declarator (n 2) 0 (Some (at 0 1)) (s.arrays s.no_dimensions) s.no_initialiser)) s.no_parameters) false) s.no_initialiser) (s.statement (n 42) (s.block (s.then_part (s.local (s.declaration None (s.base (n 5) (s.words (fixed.Int ∷ []))) (s.then_declarator (s.declarator (n 7) 0 (Some (at 3 4)) (s.arrays s.no_dimensions) (s.some_initialiser (s.plain (s.expression (n 6) (s.number (at 2 3)))))) s.no_declarators))) (s.then_part (s.run (s.statement (n 37) (s.switch_statement (s.expression (n 8) (s.name (at 0 1))) (s.then_section (s.section (n 15) (s.then_label (s.case_label (s.expression (n 9) (s.number (at 4 5)))) s.no_labels) (s.then_statement (s.statement (n 13) (s.expression_statement (s.some_expression (s.expression (n 12) (s.assign assign.Plain (s.expression (n 10) (s.name (at 3 4))) (s.expression (n 11) (s.number (at 4 5)))))))) (s.then_statement (s.statement (n 14) s.break_statement) s.no_statements))) (s.then_section (s.section (n 20) (s.then_label s.default_label s.no_labels) (s.then_statement (s.statement (n 19) (s.expression_statement (s.some_expression (s.expression (n 18) (s.assign assign.Add (s.expression (n 16) (s.name (at 3 4))) (s.expression (n 17) (s.number (at 5 6)))))))) s.no_statements)) (s.then_section (s.section (n 26) (s.then_label (s.case_label (s.expression (n 21) (s.number (at 6 7)))) s.no_labels) (s.then_statement (s.statement (n 25) (s.expression_statement (s.some_expression (s.expression (n 24) (s.assign assign.Add (s.expression (n 22) (s.name (at 3 4))) (s.expression (n 23) (s.number (at 7 8)))))))) s.no_statements)) (s.then_section (s.section (n 33) (s.then_label (s.case_label (s.expression (n 27) (s.number (at 8 9)))) s.no_labels) (s.then_statement (s.statement (n 31) (s.expression_statement (s.some_expression (s.expression (n 30) (s.assign assign.Add (s.expression (n 28) (s.name (at 3 4))) (s.expression (n 29) (s.number (at 9 10)))))))) (s.then_statement (s.statement (n 32) s.break_statement) s.no_statements))) (s.then_section (s.section (n 36) (s.then_label (s.case_label (s.expression (n 34) (s.number (at 10 11)))) s.no_labels) (s.then_statement (s.statement (n 35) (s.expression_statement s.no_expression)) s.no_statements)) s.no_sections)))))))) (s.then_part (s.run (s.statement (n 41) (s.return_statement (s.some_expression (s.expression (n 40) (s.binary binary.Eq (s.expression (n 38) (s.name (at 3 4))) (s.expression (n 39) (s.number (at 11 13))))))))) s.no_parts))))))

chosen_first : path chosen_typing all_kinds chosen_tree ((pos 1) ∷ []) ≡ Enter 15 ∷ Seen 40 false None ∷ []
chosen_first = refl

chosen_through_default : path chosen_typing all_kinds chosen_tree ((pos 2) ∷ []) ≡ Enter 20 ∷ Enter 26 ∷ Enter 33 ∷ Seen 40 true None ∷ []
chosen_through_default = refl

chosen_behind_default : path chosen_typing all_kinds chosen_tree ((pos 3) ∷ []) ≡ Enter 26 ∷ Enter 33 ∷ Seen 40 false None ∷ []
chosen_behind_default = refl

chosen_last : path chosen_typing all_kinds chosen_tree ((pos 7) ∷ []) ≡ Enter 36 ∷ Seen 40 false None ∷ []
chosen_last = refl

-- `int f(unsigned char c, long x) { switch (c) { case -1: return 1; case 256: return 2; } switch (x) { case 1: return
-- 3; } return 4; }`
abbrev labels_typing : Typing
labels_typing = told (99 ∷ 120 ∷ 102 ∷ 49 ∷ 50 ∷ 53 ∷ 54 ∷ 50 ∷ 51 ∷ 52 ∷ []) ((2, (integer_type kind.UChar)) ∷ (5, (integer_type kind.Long)) ∷ (8, (integer_type kind.UChar)) ∷ (9, (integer_type kind.Int)) ∷ (10, (integer_type kind.Int)) ∷ (11, (integer_type kind.Int)) ∷ (14, (integer_type kind.Int)) ∷ (15, (integer_type kind.Int)) ∷ (19, (integer_type kind.Long)) ∷ (20, (integer_type kind.Int)) ∷ (21, (integer_type kind.Int)) ∷ (25, (integer_type kind.Int)) ∷ []) ((8, 2) ∷ (19, 5) ∷ []) ((9, (pos 1)) ∷ (10, (negsuc 0)) ∷ (11, (pos 1)) ∷ (14, (pos 256)) ∷ (15, (pos 2)) ∷ (20, (pos 1)) ∷ (21, (pos 3)) ∷ (25, (pos 4)) ∷ []) ([]) ([]) ([]) ([])

abbrev labels_tree : FunctionTree
labels_tree = (s.function None (s.base (n 0) (s.words (fixed.Int ∷ []))) (s.declarator (n 7) 0 (Some (at 2 3)) (s.with_parameters (s.then_parameter (s.parameter (n 3) (s.base (n 1) (s.words (fixed.Unsigned ∷ fixed.Char ∷ []))) (s.declarator (n 2) 0 (Some (at 0 1)) (s.arrays s.no_dimensions) s.no_initialiser)) (s.then_parameter (s.parameter (n 6) (s.base (n 4) (s.words (fixed.Long ∷ []))) (s.declarator (n 5) 0 (Some (at 1 2)) (s.arrays s.no_dimensions) s.no_initialiser)) s.no_parameters)) false) s.no_initialiser) (s.statement (n 27) (s.block (s.then_part (s.run (s.statement (n 18) (s.switch_statement (s.expression (n 8) (s.name (at 0 1))) (s.then_section (s.section (n 13) (s.then_label (s.case_label (s.expression (n 10) (s.unary unary.Minus (s.expression (n 9) (s.number (at 3 4)))))) s.no_labels) (s.then_statement (s.statement (n 12) (s.return_statement (s.some_expression (s.expression (n 11) (s.number (at 3 4)))))) s.no_statements)) (s.then_section (s.section (n 17) (s.then_label (s.case_label (s.expression (n 14) (s.number (at 4 7)))) s.no_labels) (s.then_statement (s.statement (n 16) (s.return_statement (s.some_expression (s.expression (n 15) (s.number (at 7 8)))))) s.no_statements)) s.no_sections))))) (s.then_part (s.run (s.statement (n 24) (s.switch_statement (s.expression (n 19) (s.name (at 1 2))) (s.then_section (s.section (n 23) (s.then_label (s.case_label (s.expression (n 20) (s.number (at 3 4)))) s.no_labels) (s.then_statement (s.statement (n 22) (s.return_statement (s.some_expression (s.expression (n 21) (s.number (at 8 9)))))) s.no_statements)) s.no_sections)))) (s.then_part (s.run (s.statement (n 26) (s.return_statement (s.some_expression (s.expression (n 25) (s.number (at 9 10))))))) s.no_parts))))))

labels_in_the_promoted_kind : path labels_typing all_kinds labels_tree ((pos 255) ∷ (pos 4294967297) ∷ []) ≡ []
labels_in_the_promoted_kind = refl

labels_of_long : path labels_typing all_kinds labels_tree ((pos 0) ∷ (pos 1) ∷ []) ≡ Enter 23 ∷ []
labels_of_long = refl

-- `int f(int n) { while (1) { if (n > 5) break; switch (n) { case 0: continue; case 1: return 2; } break; } return n;
-- }`
abbrev left_typing : Typing
left_typing = told (110 ∷ 102 ∷ 49 ∷ 53 ∷ 48 ∷ 50 ∷ []) ((2, (integer_type kind.Int)) ∷ (5, (integer_type kind.Int)) ∷ (6, (integer_type kind.Int)) ∷ (7, (integer_type kind.Int)) ∷ (8, (integer_type kind.Int)) ∷ (11, (integer_type kind.Int)) ∷ (12, (integer_type kind.Int)) ∷ (15, (integer_type kind.Int)) ∷ (16, (integer_type kind.Int)) ∷ (23, (integer_type kind.Int)) ∷ []) ((6, 2) ∷ (11, 2) ∷ (23, 2) ∷ []) ((5, (pos 1)) ∷ (7, (pos 5)) ∷ (12, (pos 0)) ∷ (15, (pos 1)) ∷ (16, (pos 2)) ∷ []) ([]) ([]) ([]) ([])

abbrev left_tree : FunctionTree
left_tree = (s.function None (s.base (n 0) (s.words (fixed.Int ∷ []))) (s.declarator (n 4) 0 (Some (at 1 2)) (s.with_parameters (s.then_parameter (s.parameter (n 3) (s.base (n 1) (s.words (fixed.Int ∷ []))) (s.declarator (n 2) 0 (Some (at 0 1)) (s.arrays s.no_dimensions) s.no_initialiser)) s.no_parameters) false) s.no_initialiser) (s.statement (n 25) (s.block (s.then_part (s.run (s.statement (n 22) (s.while_statement (s.expression (n 5) (s.number (at 2 3))) (s.statement (n 21) (s.block (s.then_part (s.run (s.statement (n 10) (s.if_statement (s.expression (n 8) (s.binary binary.Gt (s.expression (n 6) (s.name (at 0 1))) (s.expression (n 7) (s.number (at 3 4))))) (s.statement (n 9) s.break_statement) s.no_statement))) (s.then_part (s.run (s.statement (n 19) (s.switch_statement (s.expression (n 11) (s.name (at 0 1))) (s.then_section (s.section (n 14) (s.then_label (s.case_label (s.expression (n 12) (s.number (at 4 5)))) s.no_labels) (s.then_statement (s.statement (n 13) s.continue_statement) s.no_statements)) (s.then_section (s.section (n 18) (s.then_label (s.case_label (s.expression (n 15) (s.number (at 2 3)))) s.no_labels) (s.then_statement (s.statement (n 17) (s.return_statement (s.some_expression (s.expression (n 16) (s.number (at 5 6)))))) s.no_statements)) s.no_sections))))) (s.then_part (s.run (s.statement (n 20) s.break_statement)) s.no_parts)))))))) (s.then_part (s.run (s.statement (n 24) (s.return_statement (s.some_expression (s.expression (n 23) (s.name (at 0 1))))))) s.no_parts)))))

left_by_break : path left_typing all_kinds left_tree ((pos 6) ∷ []) ≡ Seen 5 true None ∷ Enter 21 ∷ Seen 8 true None ∷ Enter 9 ∷ []
left_by_break = refl

left_by_continue : path left_typing all_kinds left_tree ((pos 0) ∷ []) ≡ Seen 5 true None ∷ Enter 21 ∷ Seen 8 false None ∷ Enter 14 ∷ []
left_by_continue = refl

left_by_return : path left_typing all_kinds left_tree ((pos 1) ∷ []) ≡ Seen 5 true None ∷ Enter 21 ∷ Seen 8 false None ∷ Enter 18 ∷ []
left_by_return = refl

left_past : path left_typing all_kinds left_tree ((pos 2) ∷ []) ≡ Seen 5 true None ∷ Enter 21 ∷ Seen 8 false None ∷ []
left_past = refl

-- `int f(int n) { int i = 0; do { i++; if (i == n) continue; n--; } while (i < n); return n == 3; }`
abbrev again_typing : Typing
again_typing = told (110 ∷ 102 ∷ 48 ∷ 105 ∷ 51 ∷ []) ((2, (integer_type kind.Int)) ∷ (6, (integer_type kind.Int)) ∷ (7, (integer_type kind.Int)) ∷ (8, (integer_type kind.Int)) ∷ (9, (integer_type kind.Int)) ∷ (11, (integer_type kind.Int)) ∷ (12, (integer_type kind.Int)) ∷ (13, (integer_type kind.Int)) ∷ (16, (integer_type kind.Int)) ∷ (17, (integer_type kind.Int)) ∷ (20, (integer_type kind.Int)) ∷ (21, (integer_type kind.Int)) ∷ (22, (integer_type kind.Int)) ∷ (24, (integer_type kind.Int)) ∷ (25, (integer_type kind.Int)) ∷ (26, (integer_type kind.Int)) ∷ []) ((8, 7) ∷ (11, 7) ∷ (12, 2) ∷ (16, 2) ∷ (20, 7) ∷ (21, 2) ∷ (24, 2) ∷ []) ((6, (pos 0)) ∷ (25, (pos 3)) ∷ []) ([]) ([]) ([]) ([])

abbrev again_tree : FunctionTree
again_tree = (s.function None (s.base (n 0) (s.words (fixed.Int ∷ []))) (s.declarator (n 4) 0 (Some (at 1 2)) (s.with_parameters (s.then_parameter (s.parameter (n 3) (s.base (n 1) (s.words (fixed.Int ∷ []))) (s.declarator (n 2) 0 (Some (at 0 1)) (s.arrays s.no_dimensions) s.no_initialiser)) s.no_parameters) false) s.no_initialiser) (s.statement (n 28) (s.block (s.then_part (s.local (s.declaration None (s.base (n 5) (s.words (fixed.Int ∷ []))) (s.then_declarator (s.declarator (n 7) 0 (Some (at 3 4)) (s.arrays s.no_dimensions) (s.some_initialiser (s.plain (s.expression (n 6) (s.number (at 2 3)))))) s.no_declarators))) (s.then_part (s.run (s.statement (n 23) (s.do_statement (s.statement (n 19) (s.block (s.then_part (s.run (s.statement (n 10) (s.expression_statement (s.some_expression (s.expression (n 9) (s.step step.IncAfter (s.expression (n 8) (s.name (at 3 4))))))))) (s.then_part (s.run (s.statement (n 15) (s.if_statement (s.expression (n 13) (s.binary binary.Eq (s.expression (n 11) (s.name (at 3 4))) (s.expression (n 12) (s.name (at 0 1))))) (s.statement (n 14) s.continue_statement) s.no_statement))) (s.then_part (s.run (s.statement (n 18) (s.expression_statement (s.some_expression (s.expression (n 17) (s.step step.DecAfter (s.expression (n 16) (s.name (at 0 1))))))))) s.no_parts))))) (s.expression (n 22) (s.binary binary.Lt (s.expression (n 20) (s.name (at 3 4))) (s.expression (n 21) (s.name (at 0 1)))))))) (s.then_part (s.run (s.statement (n 27) (s.return_statement (s.some_expression (s.expression (n 26) (s.binary binary.Eq (s.expression (n 24) (s.name (at 0 1))) (s.expression (n 25) (s.number (at 4 5))))))))) s.no_parts))))))

again_continues : path again_typing all_kinds again_tree ((pos 3) ∷ (pos 3) ∷ (pos 2) ∷ []) ≡ Enter 19 ∷ Seen 13 true None ∷ Enter 14 ∷ Seen 22 false None ∷ Seen 26 true None ∷ []
again_continues = refl

again_turns : path again_typing all_kinds again_tree ((pos 3) ∷ (pos 9) ∷ (pos 2) ∷ []) ≡ Enter 19 ∷ Seen 13 false None ∷ Seen 22 true None ∷ []
again_turns = refl

-- `int f(int n) { int s = 0; for (int i = 0; i < n; i++) for (int j = 0; j < i; j++) s += j; return s; }`
abbrev nested_typing : Typing
nested_typing = told (110 ∷ 102 ∷ 48 ∷ 115 ∷ 105 ∷ 106 ∷ []) ((2, (integer_type kind.Int)) ∷ (6, (integer_type kind.Int)) ∷ (7, (integer_type kind.Int)) ∷ (9, (integer_type kind.Int)) ∷ (10, (integer_type kind.Int)) ∷ (11, (integer_type kind.Int)) ∷ (12, (integer_type kind.Int)) ∷ (13, (integer_type kind.Int)) ∷ (14, (integer_type kind.Int)) ∷ (15, (integer_type kind.Int)) ∷ (17, (integer_type kind.Int)) ∷ (18, (integer_type kind.Int)) ∷ (19, (integer_type kind.Int)) ∷ (20, (integer_type kind.Int)) ∷ (21, (integer_type kind.Int)) ∷ (22, (integer_type kind.Int)) ∷ (23, (integer_type kind.Int)) ∷ (24, (integer_type kind.Int)) ∷ (25, (integer_type kind.Int)) ∷ (26, (integer_type kind.Int)) ∷ (30, (integer_type kind.Int)) ∷ []) ((11, 10) ∷ (12, 2) ∷ (14, 10) ∷ (19, 18) ∷ (20, 10) ∷ (22, 18) ∷ (24, 7) ∷ (25, 18) ∷ (30, 7) ∷ []) ((6, (pos 0)) ∷ (9, (pos 0)) ∷ (17, (pos 0)) ∷ []) ([]) ([]) ([]) ([])

abbrev nested_tree : FunctionTree
nested_tree = (s.function None (s.base (n 0) (s.words (fixed.Int ∷ []))) (s.declarator (n 4) 0 (Some (at 1 2)) (s.with_parameters (s.then_parameter (s.parameter (n 3) (s.base (n 1) (s.words (fixed.Int ∷ []))) (s.declarator (n 2) 0 (Some (at 0 1)) (s.arrays s.no_dimensions) s.no_initialiser)) s.no_parameters) false) s.no_initialiser) (s.statement (n 32) (s.block (s.then_part (s.local (s.declaration None (s.base (n 5) (s.words (fixed.Int ∷ []))) (s.then_declarator (s.declarator (n 7) 0 (Some (at 3 4)) (s.arrays s.no_dimensions) (s.some_initialiser (s.plain (s.expression (n 6) (s.number (at 2 3)))))) s.no_declarators))) (s.then_part (s.run (s.statement (n 29) (s.for_statement (s.start_declaration (s.declaration None (s.base (n 8) (s.words (fixed.Int ∷ []))) (s.then_declarator (s.declarator (n 10) 0 (Some (at 4 5)) (s.arrays s.no_dimensions) (s.some_initialiser (s.plain (s.expression (n 9) (s.number (at 2 3)))))) s.no_declarators))) (s.some_expression (s.expression (n 13) (s.binary binary.Lt (s.expression (n 11) (s.name (at 4 5))) (s.expression (n 12) (s.name (at 0 1)))))) (s.some_expression (s.expression (n 15) (s.step step.IncAfter (s.expression (n 14) (s.name (at 4 5)))))) (s.statement (n 28) (s.for_statement (s.start_declaration (s.declaration None (s.base (n 16) (s.words (fixed.Int ∷ []))) (s.then_declarator (s.declarator (n 18) 0 (Some (at 5 6)) (s.arrays s.no_dimensions) (s.some_initialiser (s.plain (s.expression (n 17) (s.number (at 2 3)))))) s.no_declarators))) (s.some_expression (s.expression (n 21) (s.binary binary.Lt (s.expression (n 19) (s.name (at 5 6))) (s.expression (n 20) (s.name (at 4 5)))))) (s.some_expression (s.expression (n 23) (s.step step.IncAfter (s.expression (n 22) (s.name (at 5 6)))))) (s.statement (n 27) (s.expression_statement (s.some_expression (s.expression (n 26) (s.assign assign.Add (s.expression (n 24) (s.name (at 3 4))) (s.expression (n 25) (s.name (at 5 6))))))))))))) (s.then_part (s.run (s.statement (n 31) (s.return_statement (s.some_expression (s.expression (n 30) (s.name (at 3 4))))))) s.no_parts))))))

nested_once_each : path nested_typing all_kinds nested_tree ((pos 5) ∷ (pos 2) ∷ (pos 0) ∷ (pos 0) ∷ (pos 1) ∷ []) ≡ Seen 13 true None ∷ Enter 28 ∷ Seen 21 true None ∷ Enter 27 ∷ []
nested_once_each = refl

-- `void f(int n) { for (;;) if (n) return; }`
abbrev endless_typing : Typing
endless_typing = told (110 ∷ 102 ∷ []) ((2, (integer_type kind.Int)) ∷ (5, (integer_type kind.Int)) ∷ []) ((5, 2) ∷ []) ([]) ([]) ([]) ([]) ([])

abbrev endless_tree : FunctionTree
endless_tree = (s.function None (s.base (n 0) (s.words (fixed.Void ∷ []))) (s.declarator (n 4) 0 (Some (at 1 2)) (s.with_parameters (s.then_parameter (s.parameter (n 3) (s.base (n 1) (s.words (fixed.Int ∷ []))) (s.declarator (n 2) 0 (Some (at 0 1)) (s.arrays s.no_dimensions) s.no_initialiser)) s.no_parameters) false) s.no_initialiser) (s.statement (n 9) (s.block (s.then_part (s.run (s.statement (n 8) (s.for_statement (s.start_expression s.no_expression) s.no_expression s.no_expression (s.statement (n 7) (s.if_statement (s.expression (n 5) (s.name (at 0 1))) (s.statement (n 6) (s.return_statement s.no_expression)) s.no_statement))))) s.no_parts))))

endless_returns : path endless_typing all_kinds endless_tree ((pos 1) ∷ []) ≡ Enter 7 ∷ Seen 5 true None ∷ Enter 6 ∷ []
endless_returns = refl

endless_turns : path endless_typing all_kinds endless_tree ((pos 0) ∷ []) ≡ Enter 7 ∷ Seen 5 false None ∷ []
endless_turns = refl

-- `int f(int x) { static int count = 3; int a[2] = { x + 1, [1] = g(x) }; char b[] = "ab"; int u; return (count ==
-- a[0]) + (u == 4); }` behind `extern int g(int);`
abbrev locals_typing : Typing
locals_typing = told (120 ∷ 102 ∷ 51 ∷ 99 ∷ 111 ∷ 117 ∷ 110 ∷ 116 ∷ 50 ∷ 49 ∷ 103 ∷ 97 ∷ 34 ∷ 97 ∷ 98 ∷ 34 ∷ 98 ∷ 117 ∷ 48 ∷ 52 ∷ []) ((2, (integer_type kind.Int)) ∷ (6, (integer_type kind.Int)) ∷ (7, (integer_type kind.Int)) ∷ (9, (integer_type kind.Int)) ∷ (10, (integer_type kind.Int)) ∷ (11, (integer_type kind.Int)) ∷ (12, (integer_type kind.Int)) ∷ (13, (integer_type kind.Int)) ∷ (15, (integer_type kind.Int)) ∷ (16, (integer_type kind.Int)) ∷ (17, (array_type (integer_type kind.Int) (Some 2))) ∷ (19, (array_type (integer_type kind.Char) (Some 3))) ∷ (20, (array_type (integer_type kind.Char) (Some 3))) ∷ (22, (integer_type kind.Int)) ∷ (23, (integer_type kind.Int)) ∷ (24, (array_type (integer_type kind.Int) (Some 2))) ∷ (25, (integer_type kind.Int)) ∷ (26, (integer_type kind.Int)) ∷ (27, (integer_type kind.Int)) ∷ (28, (integer_type kind.Int)) ∷ (29, (integer_type kind.Int)) ∷ (30, (integer_type kind.Int)) ∷ (31, (integer_type kind.Int)) ∷ (32, (integer_type kind.Int)) ∷ (33, (integer_type kind.Int)) ∷ []) ((10, 2) ∷ (15, 2) ∷ (23, 7) ∷ (24, 17) ∷ (29, 22) ∷ []) ((6, (pos 3)) ∷ (9, (pos 2)) ∷ (11, (pos 1)) ∷ (13, (pos 1)) ∷ (25, (pos 0)) ∷ (30, (pos 4)) ∷ []) ([]) ([]) ([]) ((10, (signature (integer_type kind.Int) (then_type (integer_type kind.Int) no_types) false false)) ∷ [])

abbrev locals_tree : FunctionTree
locals_tree = (s.function None (s.base (n 0) (s.words (fixed.Int ∷ []))) (s.declarator (n 4) 0 (Some (at 1 2)) (s.with_parameters (s.then_parameter (s.parameter (n 3) (s.base (n 1) (s.words (fixed.Int ∷ []))) (s.declarator (n 2) 0 (Some (at 0 1)) (s.arrays s.no_dimensions) s.no_initialiser)) s.no_parameters) false) s.no_initialiser) (s.statement (n 35) (s.block (s.then_part (s.local (s.declaration (Some storage.Static) (s.base (n 5) (s.words (fixed.Int ∷ []))) (s.then_declarator (s.declarator (n 7) 0 (Some (at 3 8)) (s.arrays s.no_dimensions) (s.some_initialiser (s.plain (s.expression (n 6) (s.number (at 2 3)))))) s.no_declarators))) (s.then_part (s.local (s.declaration None (s.base (n 8) (s.words (fixed.Int ∷ []))) (s.then_declarator (s.declarator (n 17) 0 (Some (at 11 12)) (s.arrays (s.then_dimension (s.sized (s.expression (n 9) (s.number (at 8 9)))) s.no_dimensions)) (s.some_initialiser (s.braces (s.then_item (s.item s.no_designators (s.plain (s.expression (n 12) (s.binary binary.Add (s.expression (n 10) (s.name (at 0 1))) (s.expression (n 11) (s.number (at 9 10))))))) (s.then_item (s.item (s.then_designator (s.at_designator (s.expression (n 13) (s.number (at 9 10)))) s.no_designators) (s.plain (s.expression (n 16) (s.call (s.expression (n 14) (s.name (at 10 11))) (s.then_expression (s.expression (n 15) (s.name (at 0 1))) s.no_expressions))))) s.no_items)) false))) s.no_declarators))) (s.then_part (s.local (s.declaration None (s.base (n 18) (s.words (fixed.Char ∷ []))) (s.then_declarator (s.declarator (n 20) 0 (Some (at 16 17)) (s.arrays (s.then_dimension s.open_dimension s.no_dimensions)) (s.some_initialiser (s.plain (s.expression (n 19) (s.text ((at 12 16) ∷ [])))))) s.no_declarators))) (s.then_part (s.local (s.declaration None (s.base (n 21) (s.words (fixed.Int ∷ []))) (s.then_declarator (s.declarator (n 22) 0 (Some (at 17 18)) (s.arrays s.no_dimensions) s.no_initialiser) s.no_declarators))) (s.then_part (s.run (s.statement (n 34) (s.return_statement (s.some_expression (s.expression (n 33) (s.binary binary.Add (s.expression (n 28) (s.paren (s.expression (n 27) (s.binary binary.Eq (s.expression (n 23) (s.name (at 3 8))) (s.expression (n 26) (s.index (s.expression (n 24) (s.name (at 11 12))) (s.expression (n 25) (s.number (at 18 19))))))))) (s.expression (n 32) (s.paren (s.expression (n 31) (s.binary binary.Eq (s.expression (n 29) (s.name (at 17 18))) (s.expression (n 30) (s.number (at 19 20))))))))))))) s.no_parts))))))))

locals_in_order : path locals_typing all_kinds locals_tree ((pos 2147483647) ∷ (pos 64) ∷ (pos 128) ∷ (pos 5) ∷ (pos 200) ∷ (pos 192) ∷ (pos 4) ∷ (pos 6) ∷ (pos 6) ∷ []) ≡ ub_at 12 ub.Overflow ∷ Seen 27 true None ∷ Seen 31 true None ∷ []
locals_in_order = refl

-- `int f(int x) { if (x > 0) { int y = 2; if (y == 2) ; else ; } else if (x == 0) return 1; else { ; } return 0; }`
abbrev branches_typing : Typing
branches_typing = told (120 ∷ 102 ∷ 48 ∷ 50 ∷ 121 ∷ 49 ∷ []) ((2, (integer_type kind.Int)) ∷ (5, (integer_type kind.Int)) ∷ (6, (integer_type kind.Int)) ∷ (7, (integer_type kind.Int)) ∷ (9, (integer_type kind.Int)) ∷ (10, (integer_type kind.Int)) ∷ (11, (integer_type kind.Int)) ∷ (12, (integer_type kind.Int)) ∷ (13, (integer_type kind.Int)) ∷ (18, (integer_type kind.Int)) ∷ (19, (integer_type kind.Int)) ∷ (20, (integer_type kind.Int)) ∷ (21, (integer_type kind.Int)) ∷ (27, (integer_type kind.Int)) ∷ []) ((5, 2) ∷ (11, 10) ∷ (18, 2) ∷ []) ((6, (pos 0)) ∷ (9, (pos 2)) ∷ (12, (pos 2)) ∷ (19, (pos 0)) ∷ (21, (pos 1)) ∷ (27, (pos 0)) ∷ []) ([]) ([]) ([]) ([])

abbrev branches_tree : FunctionTree
branches_tree = (s.function None (s.base (n 0) (s.words (fixed.Int ∷ []))) (s.declarator (n 4) 0 (Some (at 1 2)) (s.with_parameters (s.then_parameter (s.parameter (n 3) (s.base (n 1) (s.words (fixed.Int ∷ []))) (s.declarator (n 2) 0 (Some (at 0 1)) (s.arrays s.no_dimensions) s.no_initialiser)) s.no_parameters) false) s.no_initialiser) (s.statement (n 29) (s.block (s.then_part (s.run (s.statement (n 26) (s.if_statement (s.expression (n 7) (s.binary binary.Gt (s.expression (n 5) (s.name (at 0 1))) (s.expression (n 6) (s.number (at 2 3))))) (s.statement (n 17) (s.block (s.then_part (s.local (s.declaration None (s.base (n 8) (s.words (fixed.Int ∷ []))) (s.then_declarator (s.declarator (n 10) 0 (Some (at 4 5)) (s.arrays s.no_dimensions) (s.some_initialiser (s.plain (s.expression (n 9) (s.number (at 3 4)))))) s.no_declarators))) (s.then_part (s.run (s.statement (n 16) (s.if_statement (s.expression (n 13) (s.binary binary.Eq (s.expression (n 11) (s.name (at 4 5))) (s.expression (n 12) (s.number (at 3 4))))) (s.statement (n 14) (s.expression_statement s.no_expression)) (s.some_statement (s.statement (n 15) (s.expression_statement s.no_expression)))))) s.no_parts)))) (s.some_statement (s.statement (n 25) (s.if_statement (s.expression (n 20) (s.binary binary.Eq (s.expression (n 18) (s.name (at 0 1))) (s.expression (n 19) (s.number (at 2 3))))) (s.statement (n 22) (s.return_statement (s.some_expression (s.expression (n 21) (s.number (at 5 6)))))) (s.some_statement (s.statement (n 24) (s.block (s.then_part (s.run (s.statement (n 23) (s.expression_statement s.no_expression))) s.no_parts)))))))))) (s.then_part (s.run (s.statement (n 28) (s.return_statement (s.some_expression (s.expression (n 27) (s.number (at 2 3))))))) s.no_parts)))))

branches_first : path branches_typing all_kinds branches_tree ((pos 1) ∷ []) ≡ Seen 7 true None ∷ Enter 17 ∷ Seen 13 true None ∷ Enter 14 ∷ []
branches_first = refl

branches_second : path branches_typing all_kinds branches_tree ((pos 0) ∷ []) ≡ Seen 7 false None ∷ Enter 25 ∷ Seen 20 true None ∷ Enter 22 ∷ []
branches_second = refl

branches_third : path branches_typing all_kinds branches_tree ((negsuc 0) ∷ []) ≡ Seen 7 false None ∷ Enter 25 ∷ Seen 20 false None ∷ Enter 24 ∷ []
branches_third = refl
