-- A layout looks at no token behind its unit: two ways to set the records of nodes that agree on the tokens of a unit
-- lay it out alike.
use Rattle.std.proofs.Common.{◌≡◌, ℕ, zero, suc, ◌+◌, ◌<◌, ◌≤◌, List, [], ◌∷◌, ◌++◌, length, refl, length-append, arith}
use Rattle.std.proofs.lemmas.List.{length-replicate}
use Rattle.std.proofs.Math.ListN.{get_or-append}
use Rattle.stk_base.specs.declared.span.Span.{Span}
use Rattle.stk_tree.specs.declared.fixed.Fixed.TheVariants as fixed
use Rattle.stk_tree.specs.declared.fixed.Lexeme.{Lexeme}
use Rattle.stk_tree.specs.declared.fixed.Lexeme.TheVariants.{Fixed as Token}
use Rattle.stk_tree.specs.declared.expression.StepOp.{StepOp}
use Rattle.stk_tree.specs.declared.expression.StepOp.TheVariants as step
use Rattle.stk_tree.specs.declared.node.Node.{Node}
use Rattle.stk_tree.specs.Syntax.{BaseFormTree, BaseTree, DeclarationTree, DeclrTree, DeclrTrees, DesigTree, DesigTrees, DimensionTree, DimensionTrees, EnumrTree, EnumrTrees, ExprFormTree, ExprTree, ExprTrees, FunctionTree, InitTree, ItemTree, ItemTrees, LabelTree, LabelTrees, MaybeExprTree, MaybeInitTree, MaybeStmtTree, MemberTree, MemberTrees, ParamTree, ParamTrees, PartTree, PartTrees, SectionTree, SectionTrees, StartTree, StmtFormTree, StmtTree, StmtTrees, TailTree, TypeNameTree, UnitTree}
use Rattle.stk_tree.specs.Syntax as s
use Rattle.stk_tree.specs.Nodes.{base_form_nodes, base_nodes, declaration_nodes, declarator_nodes, designator_nodes, designators_nodes, dimension_nodes, dimensions_nodes, enumerator_nodes, expression_form_nodes, expression_nodes, function_nodes, item_nodes, label_nodes, labels_nodes, maybe_expression_nodes, maybe_initialiser_nodes, member_nodes, parameter_nodes, part_nodes, section_nodes, start_nodes, statement_form_nodes, statement_nodes, statements_nodes, tail_nodes, type_name_nodes}
use Rattle.stk_tree.specs.Tokens.{assign_punctuator, base_form_tokens, base_tokens, binary_punctuator, declaration_tokens, declarator_tokens, declarators_tokens, designator_tokens, designators_tokens, dimension_tokens, dimensions_tokens, else_tokens, enumerator_tokens, enumerators_tokens, expression_form_tokens, expression_tokens, expressions_tokens, function_tokens, initial_tokens, initialiser_tokens, item_tokens, items_tokens, label_tokens, labels_tokens, last_comma, member_tokens, members_tokens, more_declarators, more_enumerators, more_expressions, more_items, more_parameters, more_tokens, optional_tokens, optional_word, parameter_tokens, parameters_tokens, part_tokens, parts_tokens, path_end, section_tokens, sections_tokens, stars, start_tokens, statement_form_tokens, statement_tokens, statements_tokens, step_tokens, storage_tokens, tail_tokens, type_name_tokens, unit_tokens, value_tokens, word}
use Rattle.stk_tree.specs.Layout.{before_operand, covered, laid_base, laid_base_form, laid_declaration, laid_declarator, laid_declarators, laid_designator, laid_designators, laid_dimension, laid_dimensions, laid_enumerator, laid_enumerators, laid_expression, laid_expression_form, laid_expressions, laid_function, laid_initialiser, laid_item, laid_items, laid_label, laid_labels, laid_maybe_expression, laid_maybe_initialiser, laid_maybe_statement, laid_member, laid_members, laid_parameter, laid_parameters, laid_part, laid_parts, laid_section, laid_sections, laid_start, laid_statement, laid_statement_form, laid_statements, laid_tail, laid_type_name, node_at, unit_laid_out}

-- an operand stands within its operator's tokens
step_room : (op : StepOp) (e : List Lexeme) → before_operand op + length e ≤ length (step_tokens op e)
step_room step.IncBefore e = omega arith
step_room step.DecBefore e = omega arith
step_room step.IncAfter e = omega (arith, length-append e (Token fixed.PlusPlus ∷ []))
step_room step.DecAfter e = omega (arith, length-append e (Token fixed.MinusMinus ∷ []))

-- a statement prints a token
statement_some : (f : StmtFormTree) → 0 < length (statement_form_tokens f)
statement_some (s.block ps) =
    let f0 : length (statement_form_tokens (s.block ps)) ≡ suc (length (parts_tokens ps)) + 1 = length-append (Token fixed.LeftBrace ∷ parts_tokens ps) (Token fixed.RightBrace ∷ []) in
    omega arith
statement_some (s.expression_statement e) =
    let f0 : length (statement_form_tokens (s.expression_statement e)) ≡ length (optional_tokens e) + 1 = length-append (optional_tokens e) (Token fixed.Semicolon ∷ []) in
    omega arith
statement_some (s.if_statement e x other) =
    let f0 : length (statement_form_tokens (s.if_statement e x other)) ≡ length (Token fixed.If ∷ Token fixed.LeftParen ∷ expression_tokens e ++ Token fixed.RightParen ∷ statement_tokens x) + length (else_tokens other) = length-append (Token fixed.If ∷ Token fixed.LeftParen ∷ expression_tokens e ++ Token fixed.RightParen ∷ statement_tokens x) (else_tokens other) in
    let f1 : length (Token fixed.If ∷ Token fixed.LeftParen ∷ expression_tokens e ++ Token fixed.RightParen ∷ statement_tokens x) ≡ suc (suc (length (expression_tokens e))) + suc (length (statement_tokens x)) = length-append (Token fixed.If ∷ Token fixed.LeftParen ∷ expression_tokens e) (Token fixed.RightParen ∷ statement_tokens x) in
    omega arith
statement_some (s.switch_statement e xs) =
    let f0 : length (statement_form_tokens (s.switch_statement e xs)) ≡ length (Token fixed.Switch ∷ Token fixed.LeftParen ∷ expression_tokens e ++ Token fixed.RightParen ∷ Token fixed.LeftBrace ∷ sections_tokens xs) + 1 = length-append (Token fixed.Switch ∷ Token fixed.LeftParen ∷ expression_tokens e ++ Token fixed.RightParen ∷ Token fixed.LeftBrace ∷ sections_tokens xs) (Token fixed.RightBrace ∷ []) in
    let f1 : length (Token fixed.Switch ∷ Token fixed.LeftParen ∷ expression_tokens e ++ Token fixed.RightParen ∷ Token fixed.LeftBrace ∷ sections_tokens xs) ≡ suc (suc (length (expression_tokens e))) + suc (suc (length (sections_tokens xs))) = length-append (Token fixed.Switch ∷ Token fixed.LeftParen ∷ expression_tokens e) (Token fixed.RightParen ∷ Token fixed.LeftBrace ∷ sections_tokens xs) in
    omega arith
statement_some (s.while_statement e x) =
    let f0 : length (statement_form_tokens (s.while_statement e x)) ≡ suc (suc (length (expression_tokens e))) + suc (length (statement_tokens x)) = length-append (Token fixed.While ∷ Token fixed.LeftParen ∷ expression_tokens e) (Token fixed.RightParen ∷ statement_tokens x) in
    omega arith
statement_some (s.do_statement x e) =
    let f0 : length (statement_form_tokens (s.do_statement x e)) ≡ length (Token fixed.Do ∷ statement_tokens x ++ Token fixed.While ∷ Token fixed.LeftParen ∷ expression_tokens e) + 2 = length-append (Token fixed.Do ∷ statement_tokens x ++ Token fixed.While ∷ Token fixed.LeftParen ∷ expression_tokens e) (Token fixed.RightParen ∷ Token fixed.Semicolon ∷ []) in
    let f1 : length (Token fixed.Do ∷ statement_tokens x ++ Token fixed.While ∷ Token fixed.LeftParen ∷ expression_tokens e) ≡ suc (length (statement_tokens x)) + suc (suc (length (expression_tokens e))) = length-append (Token fixed.Do ∷ statement_tokens x) (Token fixed.While ∷ Token fixed.LeftParen ∷ expression_tokens e) in
    omega arith
statement_some (s.for_statement first test step x) =
    let f0 : length (statement_form_tokens (s.for_statement first test step x)) ≡ length (Token fixed.For ∷ Token fixed.LeftParen ∷ start_tokens first ++ optional_tokens test ++ Token fixed.Semicolon ∷ optional_tokens step) + suc (length (statement_tokens x)) = length-append (Token fixed.For ∷ Token fixed.LeftParen ∷ start_tokens first ++ optional_tokens test ++ Token fixed.Semicolon ∷ optional_tokens step) (Token fixed.RightParen ∷ statement_tokens x) in
    let f1 : length (Token fixed.For ∷ Token fixed.LeftParen ∷ start_tokens first ++ optional_tokens test ++ Token fixed.Semicolon ∷ optional_tokens step) ≡ length (Token fixed.For ∷ Token fixed.LeftParen ∷ start_tokens first ++ optional_tokens test) + suc (length (optional_tokens step)) = length-append (Token fixed.For ∷ Token fixed.LeftParen ∷ start_tokens first ++ optional_tokens test) (Token fixed.Semicolon ∷ optional_tokens step) in
    let f2 : length (Token fixed.For ∷ Token fixed.LeftParen ∷ start_tokens first ++ optional_tokens test) ≡ suc (suc (length (start_tokens first))) + length (optional_tokens test) = length-append (Token fixed.For ∷ Token fixed.LeftParen ∷ start_tokens first) (optional_tokens test) in
    omega arith
statement_some s.break_statement =
    let f0 : length (statement_form_tokens s.break_statement) ≡ 2 = refl in
    omega arith
statement_some s.continue_statement =
    let f0 : length (statement_form_tokens s.continue_statement) ≡ 2 = refl in
    omega arith
statement_some (s.return_statement e) =
    let f0 : length (statement_form_tokens (s.return_statement e)) ≡ suc (length (optional_tokens e)) + 1 = length-append (Token fixed.Return ∷ optional_tokens e) (Token fixed.Semicolon ∷ []) in
    omega arith

statement_prints : (x : StmtTree) → 0 < length (statement_tokens x)
statement_prints (s.statement node f) = statement_some f

-- a declaration prints a token, and so does a function definition
declaration_some : (d : DeclarationTree) → 0 < length (declaration_tokens d)
declaration_some (s.declaration storage b ds) =
    let f0 : length (declaration_tokens (s.declaration storage b ds)) ≡ length (storage_tokens storage ++ base_tokens b ++ declarators_tokens ds) + 1 = length-append (storage_tokens storage ++ base_tokens b ++ declarators_tokens ds) (Token fixed.Semicolon ∷ []) in
    let f1 : length (storage_tokens storage ++ base_tokens b ++ declarators_tokens ds) ≡ length (storage_tokens storage ++ base_tokens b) + length (declarators_tokens ds) = length-append (storage_tokens storage ++ base_tokens b) (declarators_tokens ds) in
    let f2 : length (storage_tokens storage ++ base_tokens b) ≡ length (storage_tokens storage) + length (base_tokens b) = length-append (storage_tokens storage) (base_tokens b) in
    omega arith

function_some : (f : FunctionTree) → 0 < length (function_tokens f)
function_some (s.function storage b d (s.statement node body)) =
    let f0 : length (function_tokens (s.function storage b d (s.statement node body))) ≡ length (storage_tokens storage ++ base_tokens b ++ declarator_tokens d) + length (statement_form_tokens body) = length-append (storage_tokens storage ++ base_tokens b ++ declarator_tokens d) (statement_form_tokens body) in
    let f1 : length (storage_tokens storage ++ base_tokens b ++ declarator_tokens d) ≡ length (storage_tokens storage ++ base_tokens b) + length (declarator_tokens d) = length-append (storage_tokens storage ++ base_tokens b) (declarator_tokens d) in
    let f2 : length (storage_tokens storage ++ base_tokens b) ≡ length (storage_tokens storage) + length (base_tokens b) = length-append (storage_tokens storage) (base_tokens b) in
    let f = statement_some body in
    omega arith

module _ (set other : ℕ → ℕ → ℕ → Node) (w : ℕ) (agree : (n t k : ℕ) → t < w → t + k ≤ w → set n t k ≡ other n t k) where
  mutual
    same_base : (n t : ℕ) (x : BaseTree) → t + length (base_tokens x) < w → laid_base set n t x ≡ laid_base other n t x
    same_base n t (s.base node f) h =
        let f0 : length (base_tokens (s.base node f)) ≡ length (base_form_tokens f) = refl in
        let p0 = agree (n + base_form_nodes f) t (length (base_form_tokens f)) (omega arith) (omega arith) in
        let p1 = same_base_form n t f (omega arith) in
        λ j. s.base (p0 j) (p1 j)

    same_base_form : (n t : ℕ) (x : BaseFormTree) → t + length (base_form_tokens x) < w → laid_base_form set n t x ≡ laid_base_form other n t x
    same_base_form n t (s.words ws) h = refl
    same_base_form n t (s.struct_ref tag) h = refl
    same_base_form n t (s.struct_def tag ms) h =
        let f0 : length (base_form_tokens (s.struct_def tag ms)) ≡ length (Token fixed.Struct ∷ optional_word tag ++ Token fixed.LeftBrace ∷ members_tokens ms) + 1 = length-append (Token fixed.Struct ∷ optional_word tag ++ Token fixed.LeftBrace ∷ members_tokens ms) (Token fixed.RightBrace ∷ []) in
        let f1 : length (Token fixed.Struct ∷ optional_word tag ++ Token fixed.LeftBrace ∷ members_tokens ms) ≡ suc (length (optional_word tag)) + suc (length (members_tokens ms)) = length-append (Token fixed.Struct ∷ optional_word tag) (Token fixed.LeftBrace ∷ members_tokens ms) in
        let p0 = same_members n (t + length (optional_word tag) + 2) ms (omega arith) in
        λ j. s.struct_def tag (p0 j)
    same_base_form n t (s.enum_ref tag) h = refl
    same_base_form n t (s.enum_def tag es comma) h =
        let f0 : length (base_form_tokens (s.enum_def tag es comma)) ≡ length (Token fixed.Enum ∷ optional_word tag ++ Token fixed.LeftBrace ∷ enumerators_tokens es ++ last_comma comma) + 1 = length-append (Token fixed.Enum ∷ optional_word tag ++ Token fixed.LeftBrace ∷ enumerators_tokens es ++ last_comma comma) (Token fixed.RightBrace ∷ []) in
        let f1 : length (Token fixed.Enum ∷ optional_word tag ++ Token fixed.LeftBrace ∷ enumerators_tokens es ++ last_comma comma) ≡ length (Token fixed.Enum ∷ optional_word tag ++ Token fixed.LeftBrace ∷ enumerators_tokens es) + length (last_comma comma) = length-append (Token fixed.Enum ∷ optional_word tag ++ Token fixed.LeftBrace ∷ enumerators_tokens es) (last_comma comma) in
        let f2 : length (Token fixed.Enum ∷ optional_word tag ++ Token fixed.LeftBrace ∷ enumerators_tokens es) ≡ suc (length (optional_word tag)) + suc (length (enumerators_tokens es)) = length-append (Token fixed.Enum ∷ optional_word tag) (Token fixed.LeftBrace ∷ enumerators_tokens es) in
        let p0 = same_enumerators n (t + length (optional_word tag) + 2) es (omega arith) in
        λ j. s.enum_def tag (p0 j) comma
    same_base_form n t (s.named at) h = refl

    same_member : (n t : ℕ) (x : MemberTree) → t + length (member_tokens x) < w → laid_member set n t x ≡ laid_member other n t x
    same_member n t (s.member b ds) h =
        let f0 : length (member_tokens (s.member b ds)) ≡ length (base_tokens b ++ declarators_tokens ds) + 1 = length-append (base_tokens b ++ declarators_tokens ds) (Token fixed.Semicolon ∷ []) in
        let f1 : length (base_tokens b ++ declarators_tokens ds) ≡ length (base_tokens b) + length (declarators_tokens ds) = length-append (base_tokens b) (declarators_tokens ds) in
        let p0 = same_base n t b (omega arith) in
        let p1 = same_declarators (n + base_nodes b) (t + length (base_tokens b)) ds (omega arith) in
        λ j. s.member (p0 j) (p1 j)

    same_members : (n t : ℕ) (x : MemberTrees) → t + length (members_tokens x) < w → laid_members set n t x ≡ laid_members other n t x
    same_members n t s.no_members h = refl
    same_members n t (s.then_member x xs) h =
        let f0 : length (members_tokens (s.then_member x xs)) ≡ length (member_tokens x) + length (members_tokens xs) = length-append (member_tokens x) (members_tokens xs) in
        let p0 = same_member n t x (omega arith) in
        let p1 = same_members (n + member_nodes x) (t + length (member_tokens x)) xs (omega arith) in
        λ j. s.then_member (p0 j) (p1 j)

    same_enumerator : (n t : ℕ) (x : EnumrTree) → t + length (enumerator_tokens x) < w → laid_enumerator set n t x ≡ laid_enumerator other n t x
    same_enumerator n t (s.enumerator at e) h =
        let f0 : length (enumerator_tokens (s.enumerator at e)) ≡ 1 + length (value_tokens e) = length-append (word at) (value_tokens e) in
        let p0 = same_value n (t + 2) e (omega arith) in
        λ j. s.enumerator at (p0 j)

    same_enumerators : (n t : ℕ) (x : EnumrTrees) → t + length (enumerators_tokens x) < w → laid_enumerators set n t x ≡ laid_enumerators other n t x
    same_enumerators n t s.no_enumerators h = refl
    same_enumerators n t (s.then_enumerator x xs) h =
        let f0 : length (enumerators_tokens (s.then_enumerator x xs)) ≡ length (enumerator_tokens x) + length (more_enumerators xs) = length-append (enumerator_tokens x) (more_enumerators xs) in
        let p0 = same_enumerator n t x (omega arith) in
        let p1 = same_more_enumerators (n + enumerator_nodes x) (t + length (enumerator_tokens x) + 1) xs (omega arith) in
        λ j. s.then_enumerator (p0 j) (p1 j)

    same_more_enumerators : (n t : ℕ) (x : EnumrTrees) → t + length (more_enumerators x) < suc w → laid_enumerators set n t x ≡ laid_enumerators other n t x
    same_more_enumerators n t s.no_enumerators h = refl
    same_more_enumerators n t (s.then_enumerator x xs) h =
        let f0 : length (more_enumerators (s.then_enumerator x xs)) ≡ suc (length (enumerator_tokens x)) + length (more_enumerators xs) = length-append (Token fixed.Comma ∷ enumerator_tokens x) (more_enumerators xs) in
        let p0 = same_enumerator n t x (omega arith) in
        let p1 = same_more_enumerators (n + enumerator_nodes x) (t + length (enumerator_tokens x) + 1) xs (omega arith) in
        λ j. s.then_enumerator (p0 j) (p1 j)

    same_declarator : (n t : ℕ) (x : DeclrTree) → t + length (declarator_tokens x) < w → laid_declarator set n t x ≡ laid_declarator other n t x
    same_declarator n t (s.declarator node count at x i) h =
        let f0 : length (declarator_tokens (s.declarator node count at x i)) ≡ length (stars count ++ optional_word at ++ tail_tokens x) + length (initial_tokens i) = length-append (stars count ++ optional_word at ++ tail_tokens x) (initial_tokens i) in
        let f1 : length (stars count ++ optional_word at ++ tail_tokens x) ≡ length (stars count ++ optional_word at) + length (tail_tokens x) = length-append (stars count ++ optional_word at) (tail_tokens x) in
        let f2 : length (stars count ++ optional_word at) ≡ length (stars count) + length (optional_word at) = length-append (stars count) (optional_word at) in
        let f3 : length (stars count) ≡ count = length-replicate count (Token fixed.Star) in
        let p0 = agree (n + tail_nodes x + maybe_initialiser_nodes i) t (count + length (optional_word at) + length (tail_tokens x) + length (initial_tokens i)) (omega arith) (omega arith) in
        let p1 = same_tail n (t + count + length (optional_word at)) x (omega arith) in
        let p2 = same_maybe_initialiser (n + tail_nodes x) (t + count + length (optional_word at) + length (tail_tokens x) + 1) i (omega arith) in
        λ j. s.declarator (p0 j) count at (p1 j) (p2 j)

    same_declarators : (n t : ℕ) (x : DeclrTrees) → t + length (declarators_tokens x) < w → laid_declarators set n t x ≡ laid_declarators other n t x
    same_declarators n t s.no_declarators h = refl
    same_declarators n t (s.then_declarator x xs) h =
        let f0 : length (declarators_tokens (s.then_declarator x xs)) ≡ length (declarator_tokens x) + length (more_declarators xs) = length-append (declarator_tokens x) (more_declarators xs) in
        let p0 = same_declarator n t x (omega arith) in
        let p1 = same_more_declarators (n + declarator_nodes x) (t + length (declarator_tokens x) + 1) xs (omega arith) in
        λ j. s.then_declarator (p0 j) (p1 j)

    same_more_declarators : (n t : ℕ) (x : DeclrTrees) → t + length (more_declarators x) < suc w → laid_declarators set n t x ≡ laid_declarators other n t x
    same_more_declarators n t s.no_declarators h = refl
    same_more_declarators n t (s.then_declarator x xs) h =
        let f0 : length (more_declarators (s.then_declarator x xs)) ≡ suc (length (declarator_tokens x)) + length (more_declarators xs) = length-append (Token fixed.Comma ∷ declarator_tokens x) (more_declarators xs) in
        let p0 = same_declarator n t x (omega arith) in
        let p1 = same_more_declarators (n + declarator_nodes x) (t + length (declarator_tokens x) + 1) xs (omega arith) in
        λ j. s.then_declarator (p0 j) (p1 j)

    same_tail : (n t : ℕ) (x : TailTree) → t + length (tail_tokens x) < w → laid_tail set n t x ≡ laid_tail other n t x
    same_tail n t (s.arrays ds) h =
        let f0 : length (tail_tokens (s.arrays ds)) ≡ length (dimensions_tokens ds) = refl in
        let p0 = same_dimensions n t ds (omega arith) in
        λ j. s.arrays (p0 j)
    same_tail n t s.unspecified h = refl
    same_tail n t s.void_parameters h = refl
    same_tail n t (s.with_parameters ps more) h =
        let f0 : length (tail_tokens (s.with_parameters ps more)) ≡ length (Token fixed.LeftParen ∷ parameters_tokens ps ++ more_tokens more) + 1 = length-append (Token fixed.LeftParen ∷ parameters_tokens ps ++ more_tokens more) (Token fixed.RightParen ∷ []) in
        let f1 : length (Token fixed.LeftParen ∷ parameters_tokens ps ++ more_tokens more) ≡ suc (length (parameters_tokens ps)) + length (more_tokens more) = length-append (Token fixed.LeftParen ∷ parameters_tokens ps) (more_tokens more) in
        let p0 = same_parameters n (t + 1) ps (omega arith) in
        λ j. s.with_parameters (p0 j) more

    same_dimension : (n t : ℕ) (x : DimensionTree) → t + length (dimension_tokens x) < w → laid_dimension set n t x ≡ laid_dimension other n t x
    same_dimension n t s.open_dimension h = refl
    same_dimension n t (s.sized e) h =
        let f0 : length (dimension_tokens (s.sized e)) ≡ suc (length (expression_tokens e)) + 1 = length-append (Token fixed.LeftBracket ∷ expression_tokens e) (Token fixed.RightBracket ∷ []) in
        let p0 = same_expression n (t + 1) e (omega arith) in
        λ j. s.sized (p0 j)

    same_dimensions : (n t : ℕ) (x : DimensionTrees) → t + length (dimensions_tokens x) < w → laid_dimensions set n t x ≡ laid_dimensions other n t x
    same_dimensions n t s.no_dimensions h = refl
    same_dimensions n t (s.then_dimension x xs) h =
        let f0 : length (dimensions_tokens (s.then_dimension x xs)) ≡ length (dimension_tokens x) + length (dimensions_tokens xs) = length-append (dimension_tokens x) (dimensions_tokens xs) in
        let p0 = same_dimension n t x (omega arith) in
        let p1 = same_dimensions (n + dimension_nodes x) (t + length (dimension_tokens x)) xs (omega arith) in
        λ j. s.then_dimension (p0 j) (p1 j)

    same_parameter : (n t : ℕ) (x : ParamTree) → t + length (parameter_tokens x) < w → laid_parameter set n t x ≡ laid_parameter other n t x
    same_parameter n t (s.parameter node b d) h =
        let f0 : length (parameter_tokens (s.parameter node b d)) ≡ length (base_tokens b) + length (declarator_tokens d) = length-append (base_tokens b) (declarator_tokens d) in
        let p0 = agree (n + base_nodes b + declarator_nodes d) t (length (base_tokens b) + length (declarator_tokens d)) (omega arith) (omega arith) in
        let p1 = same_base n t b (omega arith) in
        let p2 = same_declarator (n + base_nodes b) (t + length (base_tokens b)) d (omega arith) in
        λ j. s.parameter (p0 j) (p1 j) (p2 j)

    same_parameters : (n t : ℕ) (x : ParamTrees) → t + length (parameters_tokens x) < w → laid_parameters set n t x ≡ laid_parameters other n t x
    same_parameters n t s.no_parameters h = refl
    same_parameters n t (s.then_parameter x xs) h =
        let f0 : length (parameters_tokens (s.then_parameter x xs)) ≡ length (parameter_tokens x) + length (more_parameters xs) = length-append (parameter_tokens x) (more_parameters xs) in
        let p0 = same_parameter n t x (omega arith) in
        let p1 = same_more_parameters (n + parameter_nodes x) (t + length (parameter_tokens x) + 1) xs (omega arith) in
        λ j. s.then_parameter (p0 j) (p1 j)

    same_more_parameters : (n t : ℕ) (x : ParamTrees) → t + length (more_parameters x) < suc w → laid_parameters set n t x ≡ laid_parameters other n t x
    same_more_parameters n t s.no_parameters h = refl
    same_more_parameters n t (s.then_parameter x xs) h =
        let f0 : length (more_parameters (s.then_parameter x xs)) ≡ suc (length (parameter_tokens x)) + length (more_parameters xs) = length-append (Token fixed.Comma ∷ parameter_tokens x) (more_parameters xs) in
        let p0 = same_parameter n t x (omega arith) in
        let p1 = same_more_parameters (n + parameter_nodes x) (t + length (parameter_tokens x) + 1) xs (omega arith) in
        λ j. s.then_parameter (p0 j) (p1 j)

    same_type_name : (n t : ℕ) (x : TypeNameTree) → t + length (type_name_tokens x) < w → laid_type_name set n t x ≡ laid_type_name other n t x
    same_type_name n t (s.type_name node b count ds) h =
        let f0 : length (type_name_tokens (s.type_name node b count ds)) ≡ length (base_tokens b ++ stars count) + length (dimensions_tokens ds) = length-append (base_tokens b ++ stars count) (dimensions_tokens ds) in
        let f1 : length (base_tokens b ++ stars count) ≡ length (base_tokens b) + length (stars count) = length-append (base_tokens b) (stars count) in
        let f2 : length (stars count) ≡ count = length-replicate count (Token fixed.Star) in
        let p0 = agree (n + base_nodes b + dimensions_nodes ds) t (length (base_tokens b) + count + length (dimensions_tokens ds)) (omega arith) (omega arith) in
        let p1 = same_base n t b (omega arith) in
        let p2 = same_dimensions (n + base_nodes b) (t + length (base_tokens b) + count) ds (omega arith) in
        λ j. s.type_name (p0 j) (p1 j) count (p2 j)

    same_initialiser : (n t : ℕ) (x : InitTree) → t + length (initialiser_tokens x) < w → laid_initialiser set n t x ≡ laid_initialiser other n t x
    same_initialiser n t (s.plain e) h =
        let f0 : length (initialiser_tokens (s.plain e)) ≡ length (expression_tokens e) = refl in
        let p0 = same_expression n t e (omega arith) in
        λ j. s.plain (p0 j)
    same_initialiser n t (s.braces is comma) h =
        let f0 : length (initialiser_tokens (s.braces is comma)) ≡ length (Token fixed.LeftBrace ∷ items_tokens is ++ last_comma comma) + 1 = length-append (Token fixed.LeftBrace ∷ items_tokens is ++ last_comma comma) (Token fixed.RightBrace ∷ []) in
        let f1 : length (Token fixed.LeftBrace ∷ items_tokens is ++ last_comma comma) ≡ suc (length (items_tokens is)) + length (last_comma comma) = length-append (Token fixed.LeftBrace ∷ items_tokens is) (last_comma comma) in
        let p0 = same_items n (t + 1) is (omega arith) in
        λ j. s.braces (p0 j) comma

    same_maybe_initialiser : (n t : ℕ) (x : MaybeInitTree) → t + length (initial_tokens x) < suc w → laid_maybe_initialiser set n t x ≡ laid_maybe_initialiser other n t x
    same_maybe_initialiser n t s.no_initialiser h = refl
    same_maybe_initialiser n t (s.some_initialiser i) h =
        let f0 : length (initial_tokens (s.some_initialiser i)) ≡ suc (length (initialiser_tokens i)) = refl in
        let p0 = same_initialiser n t i (omega arith) in
        λ j. s.some_initialiser (p0 j)

    same_item : (n t : ℕ) (x : ItemTree) → t + length (item_tokens x) < w → laid_item set n t x ≡ laid_item other n t x
    same_item n t (s.item ds i) h =
        let f0 : length (item_tokens (s.item ds i)) ≡ length (designators_tokens ds ++ path_end ds) + length (initialiser_tokens i) = length-append (designators_tokens ds ++ path_end ds) (initialiser_tokens i) in
        let f1 : length (designators_tokens ds ++ path_end ds) ≡ length (designators_tokens ds) + length (path_end ds) = length-append (designators_tokens ds) (path_end ds) in
        let p0 = same_designators n t ds (omega arith) in
        let p1 = same_initialiser (n + designators_nodes ds) (t + length (designators_tokens ds) + length (path_end ds)) i (omega arith) in
        λ j. s.item (p0 j) (p1 j)

    same_items : (n t : ℕ) (x : ItemTrees) → t + length (items_tokens x) < w → laid_items set n t x ≡ laid_items other n t x
    same_items n t s.no_items h = refl
    same_items n t (s.then_item x xs) h =
        let f0 : length (items_tokens (s.then_item x xs)) ≡ length (item_tokens x) + length (more_items xs) = length-append (item_tokens x) (more_items xs) in
        let p0 = same_item n t x (omega arith) in
        let p1 = same_more_items (n + item_nodes x) (t + length (item_tokens x) + 1) xs (omega arith) in
        λ j. s.then_item (p0 j) (p1 j)

    same_more_items : (n t : ℕ) (x : ItemTrees) → t + length (more_items x) < suc w → laid_items set n t x ≡ laid_items other n t x
    same_more_items n t s.no_items h = refl
    same_more_items n t (s.then_item x xs) h =
        let f0 : length (more_items (s.then_item x xs)) ≡ suc (length (item_tokens x)) + length (more_items xs) = length-append (Token fixed.Comma ∷ item_tokens x) (more_items xs) in
        let p0 = same_item n t x (omega arith) in
        let p1 = same_more_items (n + item_nodes x) (t + length (item_tokens x) + 1) xs (omega arith) in
        λ j. s.then_item (p0 j) (p1 j)

    same_designator : (n t : ℕ) (x : DesigTree) → t + length (designator_tokens x) < w → laid_designator set n t x ≡ laid_designator other n t x
    same_designator n t (s.dot_designator at) h = refl
    same_designator n t (s.at_designator e) h =
        let f0 : length (designator_tokens (s.at_designator e)) ≡ suc (length (expression_tokens e)) + 1 = length-append (Token fixed.LeftBracket ∷ expression_tokens e) (Token fixed.RightBracket ∷ []) in
        let p0 = same_expression n (t + 1) e (omega arith) in
        λ j. s.at_designator (p0 j)

    same_designators : (n t : ℕ) (x : DesigTrees) → t + length (designators_tokens x) < w → laid_designators set n t x ≡ laid_designators other n t x
    same_designators n t s.no_designators h = refl
    same_designators n t (s.then_designator x xs) h =
        let f0 : length (designators_tokens (s.then_designator x xs)) ≡ length (designator_tokens x) + length (designators_tokens xs) = length-append (designator_tokens x) (designators_tokens xs) in
        let p0 = same_designator n t x (omega arith) in
        let p1 = same_designators (n + designator_nodes x) (t + length (designator_tokens x)) xs (omega arith) in
        λ j. s.then_designator (p0 j) (p1 j)

    same_expression : (n t : ℕ) (x : ExprTree) → t + length (expression_tokens x) < w → laid_expression set n t x ≡ laid_expression other n t x
    same_expression n t (s.expression node f) h =
        let f0 : length (expression_tokens (s.expression node f)) ≡ length (expression_form_tokens f) = refl in
        let p0 = agree (n + expression_form_nodes f) t (length (expression_form_tokens f)) (omega arith) (omega arith) in
        let p1 = same_expression_form n t f (omega arith) in
        λ j. s.expression (p0 j) (p1 j)

    same_expressions : (n t : ℕ) (x : ExprTrees) → t + length (expressions_tokens x) < w → laid_expressions set n t x ≡ laid_expressions other n t x
    same_expressions n t s.no_expressions h = refl
    same_expressions n t (s.then_expression x xs) h =
        let f0 : length (expressions_tokens (s.then_expression x xs)) ≡ length (expression_tokens x) + length (more_expressions xs) = length-append (expression_tokens x) (more_expressions xs) in
        let p0 = same_expression n t x (omega arith) in
        let p1 = same_more_expressions (n + expression_nodes x) (t + length (expression_tokens x) + 1) xs (omega arith) in
        λ j. s.then_expression (p0 j) (p1 j)

    same_more_expressions : (n t : ℕ) (x : ExprTrees) → t + length (more_expressions x) < suc w → laid_expressions set n t x ≡ laid_expressions other n t x
    same_more_expressions n t s.no_expressions h = refl
    same_more_expressions n t (s.then_expression x xs) h =
        let f0 : length (more_expressions (s.then_expression x xs)) ≡ suc (length (expression_tokens x)) + length (more_expressions xs) = length-append (Token fixed.Comma ∷ expression_tokens x) (more_expressions xs) in
        let p0 = same_expression n t x (omega arith) in
        let p1 = same_more_expressions (n + expression_nodes x) (t + length (expression_tokens x) + 1) xs (omega arith) in
        λ j. s.then_expression (p0 j) (p1 j)

    same_maybe_expression : (n t : ℕ) (x : MaybeExprTree) → t + length (optional_tokens x) < w → laid_maybe_expression set n t x ≡ laid_maybe_expression other n t x
    same_maybe_expression n t s.no_expression h = refl
    same_maybe_expression n t (s.some_expression e) h =
        let f0 : length (optional_tokens (s.some_expression e)) ≡ length (expression_tokens e) = refl in
        let p0 = same_expression n t e (omega arith) in
        λ j. s.some_expression (p0 j)

    same_value : (n t : ℕ) (x : MaybeExprTree) → t + length (value_tokens x) < suc w → laid_maybe_expression set n t x ≡ laid_maybe_expression other n t x
    same_value n t s.no_expression h = refl
    same_value n t (s.some_expression e) h =
        let f0 : length (value_tokens (s.some_expression e)) ≡ suc (length (expression_tokens e)) = refl in
        let p0 = same_expression n t e (omega arith) in
        λ j. s.some_expression (p0 j)

    same_expression_form : (n t : ℕ) (x : ExprFormTree) → t + length (expression_form_tokens x) < w → laid_expression_form set n t x ≡ laid_expression_form other n t x
    same_expression_form n t (s.name at) h = refl
    same_expression_form n t (s.number at) h = refl
    same_expression_form n t (s.character at) h = refl
    same_expression_form n t (s.text parts) h = refl
    same_expression_form n t (s.paren e) h =
        let f0 : length (expression_form_tokens (s.paren e)) ≡ suc (length (expression_tokens e)) + 1 = length-append (Token fixed.LeftParen ∷ expression_tokens e) (Token fixed.RightParen ∷ []) in
        let p0 = same_expression n (t + 1) e (omega arith) in
        λ j. s.paren (p0 j)
    same_expression_form n t (s.index a b) h =
        let f0 : length (expression_form_tokens (s.index a b)) ≡ length (expression_tokens a ++ Token fixed.LeftBracket ∷ expression_tokens b) + 1 = length-append (expression_tokens a ++ Token fixed.LeftBracket ∷ expression_tokens b) (Token fixed.RightBracket ∷ []) in
        let f1 : length (expression_tokens a ++ Token fixed.LeftBracket ∷ expression_tokens b) ≡ length (expression_tokens a) + suc (length (expression_tokens b)) = length-append (expression_tokens a) (Token fixed.LeftBracket ∷ expression_tokens b) in
        let p0 = same_expression n t a (omega arith) in
        let p1 = same_expression (n + expression_nodes a) (t + length (expression_tokens a) + 1) b (omega arith) in
        λ j. s.index (p0 j) (p1 j)
    same_expression_form n t (s.call f args) h =
        let f0 : length (expression_form_tokens (s.call f args)) ≡ length (expression_tokens f ++ Token fixed.LeftParen ∷ expressions_tokens args) + 1 = length-append (expression_tokens f ++ Token fixed.LeftParen ∷ expressions_tokens args) (Token fixed.RightParen ∷ []) in
        let f1 : length (expression_tokens f ++ Token fixed.LeftParen ∷ expressions_tokens args) ≡ length (expression_tokens f) + suc (length (expressions_tokens args)) = length-append (expression_tokens f) (Token fixed.LeftParen ∷ expressions_tokens args) in
        let p0 = same_expression n t f (omega arith) in
        let p1 = same_expressions (n + expression_nodes f) (t + length (expression_tokens f) + 1) args (omega arith) in
        λ j. s.call (p0 j) (p1 j)
    same_expression_form n t (s.dot e at) h =
        let f0 : length (expression_form_tokens (s.dot e at)) ≡ length (expression_tokens e) + 2 = length-append (expression_tokens e) (Token fixed.Dot ∷ word at) in
        let p0 = same_expression n t e (omega arith) in
        λ j. s.dot (p0 j) at
    same_expression_form n t (s.arrow e at) h =
        let f0 : length (expression_form_tokens (s.arrow e at)) ≡ length (expression_tokens e) + 2 = length-append (expression_tokens e) (Token fixed.Arrow ∷ word at) in
        let p0 = same_expression n t e (omega arith) in
        λ j. s.arrow (p0 j) at
    same_expression_form n t (s.step op e) h =
        let f0 : length (expression_form_tokens (s.step op e)) ≡ length (step_tokens op (expression_tokens e)) = refl in
        let f1 = step_room op (expression_tokens e) in
        let p0 = same_expression n (t + before_operand op) e (omega arith) in
        λ j. s.step op (p0 j)
    same_expression_form n t (s.unary op e) h =
        let f0 : length (expression_form_tokens (s.unary op e)) ≡ suc (length (expression_tokens e)) = refl in
        let p0 = same_expression n (t + 1) e (omega arith) in
        λ j. s.unary op (p0 j)
    same_expression_form n t (s.size_expression e) h =
        let f0 : length (expression_form_tokens (s.size_expression e)) ≡ suc (length (expression_tokens e)) = refl in
        let p0 = same_expression n (t + 1) e (omega arith) in
        λ j. s.size_expression (p0 j)
    same_expression_form n t (s.size_name x) h =
        let f0 : length (expression_form_tokens (s.size_name x)) ≡ suc (suc (length (type_name_tokens x))) + 1 = length-append (Token fixed.Sizeof ∷ Token fixed.LeftParen ∷ type_name_tokens x) (Token fixed.RightParen ∷ []) in
        let p0 = same_type_name n (t + 2) x (omega arith) in
        λ j. s.size_name (p0 j)
    same_expression_form n t (s.cast x e) h =
        let f0 : length (expression_form_tokens (s.cast x e)) ≡ suc (length (type_name_tokens x)) + suc (length (expression_tokens e)) = length-append (Token fixed.LeftParen ∷ type_name_tokens x) (Token fixed.RightParen ∷ expression_tokens e) in
        let p0 = same_type_name n (t + 1) x (omega arith) in
        let p1 = same_expression (n + type_name_nodes x) (t + length (type_name_tokens x) + 2) e (omega arith) in
        λ j. s.cast (p0 j) (p1 j)
    same_expression_form n t (s.binary op a b) h =
        let f0 : length (expression_form_tokens (s.binary op a b)) ≡ length (expression_tokens a) + suc (length (expression_tokens b)) = length-append (expression_tokens a) (Token (binary_punctuator op) ∷ expression_tokens b) in
        let p0 = same_expression n t a (omega arith) in
        let p1 = same_expression (n + expression_nodes a) (t + length (expression_tokens a) + 1) b (omega arith) in
        λ j. s.binary op (p0 j) (p1 j)
    same_expression_form n t (s.choice a b c) h =
        let f0 : length (expression_form_tokens (s.choice a b c)) ≡ length (expression_tokens a ++ Token fixed.Question ∷ expression_tokens b) + suc (length (expression_tokens c)) = length-append (expression_tokens a ++ Token fixed.Question ∷ expression_tokens b) (Token fixed.Colon ∷ expression_tokens c) in
        let f1 : length (expression_tokens a ++ Token fixed.Question ∷ expression_tokens b) ≡ length (expression_tokens a) + suc (length (expression_tokens b)) = length-append (expression_tokens a) (Token fixed.Question ∷ expression_tokens b) in
        let p0 = same_expression n t a (omega arith) in
        let p1 = same_expression (n + expression_nodes a) (t + length (expression_tokens a) + 1) b (omega arith) in
        let p2 = same_expression (n + expression_nodes a + expression_nodes b) (t + length (expression_tokens a) + length (expression_tokens b) + 2) c (omega arith) in
        λ j. s.choice (p0 j) (p1 j) (p2 j)
    same_expression_form n t (s.assign op a b) h =
        let f0 : length (expression_form_tokens (s.assign op a b)) ≡ length (expression_tokens a) + suc (length (expression_tokens b)) = length-append (expression_tokens a) (Token (assign_punctuator op) ∷ expression_tokens b) in
        let p0 = same_expression n t a (omega arith) in
        let p1 = same_expression (n + expression_nodes a) (t + length (expression_tokens a) + 1) b (omega arith) in
        λ j. s.assign op (p0 j) (p1 j)

  pub same_declaration : (n t : ℕ) (x : DeclarationTree) → t + length (declaration_tokens x) ≤ w → laid_declaration set n t x ≡ laid_declaration other n t x
  same_declaration n t (s.declaration storage b ds) h =
      let f0 : length (declaration_tokens (s.declaration storage b ds)) ≡ length (storage_tokens storage ++ base_tokens b ++ declarators_tokens ds) + 1 = length-append (storage_tokens storage ++ base_tokens b ++ declarators_tokens ds) (Token fixed.Semicolon ∷ []) in
      let f1 : length (storage_tokens storage ++ base_tokens b ++ declarators_tokens ds) ≡ length (storage_tokens storage ++ base_tokens b) + length (declarators_tokens ds) = length-append (storage_tokens storage ++ base_tokens b) (declarators_tokens ds) in
      let f2 : length (storage_tokens storage ++ base_tokens b) ≡ length (storage_tokens storage) + length (base_tokens b) = length-append (storage_tokens storage) (base_tokens b) in
      let p0 = same_base n (t + length (storage_tokens storage)) b (omega arith) in
      let p1 = same_declarators (n + base_nodes b) (t + length (storage_tokens storage) + length (base_tokens b)) ds (omega arith) in
      λ j. s.declaration storage (p0 j) (p1 j)

  same_start : (n t : ℕ) (x : StartTree) → t + length (start_tokens x) < w → laid_start set n t x ≡ laid_start other n t x
  same_start n t (s.start_declaration d) h =
      let f0 : length (start_tokens (s.start_declaration d)) ≡ length (declaration_tokens d) = refl in
      let p0 = same_declaration n t d (omega arith) in
      λ j. s.start_declaration (p0 j)
  same_start n t (s.start_expression e) h =
      let f0 : length (start_tokens (s.start_expression e)) ≡ length (optional_tokens e) + 1 = length-append (optional_tokens e) (Token fixed.Semicolon ∷ []) in
      let p0 = same_maybe_expression n t e (omega arith) in
      λ j. s.start_expression (p0 j)

  same_label : (n t : ℕ) (x : LabelTree) → t + length (label_tokens x) < w → laid_label set n t x ≡ laid_label other n t x
  same_label n t s.default_label h = refl
  same_label n t (s.case_label e) h =
      let f0 : length (label_tokens (s.case_label e)) ≡ suc (length (expression_tokens e)) + 1 = length-append (Token fixed.Case ∷ expression_tokens e) (Token fixed.Colon ∷ []) in
      let p0 = same_expression n (t + 1) e (omega arith) in
      λ j. s.case_label (p0 j)

  same_labels : (n t : ℕ) (x : LabelTrees) → t + length (labels_tokens x) < w → laid_labels set n t x ≡ laid_labels other n t x
  same_labels n t s.no_labels h = refl
  same_labels n t (s.then_label x xs) h =
      let f0 : length (labels_tokens (s.then_label x xs)) ≡ length (label_tokens x) + length (labels_tokens xs) = length-append (label_tokens x) (labels_tokens xs) in
      let p0 = same_label n t x (omega arith) in
      let p1 = same_labels (n + label_nodes x) (t + length (label_tokens x)) xs (omega arith) in
      λ j. s.then_label (p0 j) (p1 j)

  mutual
    same_statement : (n t : ℕ) (x : StmtTree) → t + length (statement_tokens x) ≤ w → laid_statement set n t x ≡ laid_statement other n t x
    same_statement n t (s.statement node f) h =
        let f0 : length (statement_tokens (s.statement node f)) ≡ length (statement_form_tokens f) = refl in
        let f1 = statement_some f in
        let p0 = agree (n + statement_form_nodes f) t (length (statement_form_tokens f)) (omega arith) (omega arith) in
        let p1 = same_statement_form n t f (omega arith) in
        λ j. s.statement (p0 j) (p1 j)

    same_statements : (n t : ℕ) (x : StmtTrees) → t + length (statements_tokens x) < w → laid_statements set n t x ≡ laid_statements other n t x
    same_statements n t s.no_statements h = refl
    same_statements n t (s.then_statement x xs) h =
        let f0 : length (statements_tokens (s.then_statement x xs)) ≡ length (statement_tokens x) + length (statements_tokens xs) = length-append (statement_tokens x) (statements_tokens xs) in
        let p0 = same_statement n t x (omega arith) in
        let p1 = same_statements (n + statement_nodes x) (t + length (statement_tokens x)) xs (omega arith) in
        λ j. s.then_statement (p0 j) (p1 j)

    same_maybe_statement : (n t : ℕ) (x : MaybeStmtTree) → t + length (else_tokens x) ≤ suc w → laid_maybe_statement set n t x ≡ laid_maybe_statement other n t x
    same_maybe_statement n t s.no_statement h = refl
    same_maybe_statement n t (s.some_statement x) h =
        let f0 : length (else_tokens (s.some_statement x)) ≡ suc (length (statement_tokens x)) = refl in
        let p0 = same_statement n t x (omega arith) in
        λ j. s.some_statement (p0 j)

    same_statement_form : (n t : ℕ) (x : StmtFormTree) → t + length (statement_form_tokens x) ≤ w → laid_statement_form set n t x ≡ laid_statement_form other n t x
    same_statement_form n t (s.block ps) h =
        let f0 : length (statement_form_tokens (s.block ps)) ≡ suc (length (parts_tokens ps)) + 1 = length-append (Token fixed.LeftBrace ∷ parts_tokens ps) (Token fixed.RightBrace ∷ []) in
        let p0 = same_parts n (t + 1) ps (omega arith) in
        λ j. s.block (p0 j)
    same_statement_form n t (s.expression_statement e) h =
        let f0 : length (statement_form_tokens (s.expression_statement e)) ≡ length (optional_tokens e) + 1 = length-append (optional_tokens e) (Token fixed.Semicolon ∷ []) in
        let p0 = same_maybe_expression n t e (omega arith) in
        λ j. s.expression_statement (p0 j)
    same_statement_form n t (s.if_statement e x other) h =
        let f0 : length (statement_form_tokens (s.if_statement e x other)) ≡ length (Token fixed.If ∷ Token fixed.LeftParen ∷ expression_tokens e ++ Token fixed.RightParen ∷ statement_tokens x) + length (else_tokens other) = length-append (Token fixed.If ∷ Token fixed.LeftParen ∷ expression_tokens e ++ Token fixed.RightParen ∷ statement_tokens x) (else_tokens other) in
        let f1 : length (Token fixed.If ∷ Token fixed.LeftParen ∷ expression_tokens e ++ Token fixed.RightParen ∷ statement_tokens x) ≡ suc (suc (length (expression_tokens e))) + suc (length (statement_tokens x)) = length-append (Token fixed.If ∷ Token fixed.LeftParen ∷ expression_tokens e) (Token fixed.RightParen ∷ statement_tokens x) in
        let p0 = same_expression n (t + 2) e (omega arith) in
        let p1 = same_statement (n + expression_nodes e) (t + length (expression_tokens e) + 3) x (omega arith) in
        let p2 = same_maybe_statement (n + expression_nodes e + statement_nodes x) (t + length (expression_tokens e) + length (statement_tokens x) + 4) other (omega arith) in
        λ j. s.if_statement (p0 j) (p1 j) (p2 j)
    same_statement_form n t (s.switch_statement e xs) h =
        let f0 : length (statement_form_tokens (s.switch_statement e xs)) ≡ length (Token fixed.Switch ∷ Token fixed.LeftParen ∷ expression_tokens e ++ Token fixed.RightParen ∷ Token fixed.LeftBrace ∷ sections_tokens xs) + 1 = length-append (Token fixed.Switch ∷ Token fixed.LeftParen ∷ expression_tokens e ++ Token fixed.RightParen ∷ Token fixed.LeftBrace ∷ sections_tokens xs) (Token fixed.RightBrace ∷ []) in
        let f1 : length (Token fixed.Switch ∷ Token fixed.LeftParen ∷ expression_tokens e ++ Token fixed.RightParen ∷ Token fixed.LeftBrace ∷ sections_tokens xs) ≡ suc (suc (length (expression_tokens e))) + suc (suc (length (sections_tokens xs))) = length-append (Token fixed.Switch ∷ Token fixed.LeftParen ∷ expression_tokens e) (Token fixed.RightParen ∷ Token fixed.LeftBrace ∷ sections_tokens xs) in
        let p0 = same_expression n (t + 2) e (omega arith) in
        let p1 = same_sections (n + expression_nodes e) (t + length (expression_tokens e) + 4) xs (omega arith) in
        λ j. s.switch_statement (p0 j) (p1 j)
    same_statement_form n t (s.while_statement e x) h =
        let f0 : length (statement_form_tokens (s.while_statement e x)) ≡ suc (suc (length (expression_tokens e))) + suc (length (statement_tokens x)) = length-append (Token fixed.While ∷ Token fixed.LeftParen ∷ expression_tokens e) (Token fixed.RightParen ∷ statement_tokens x) in
        let p0 = same_expression n (t + 2) e (omega arith) in
        let p1 = same_statement (n + expression_nodes e) (t + length (expression_tokens e) + 3) x (omega arith) in
        λ j. s.while_statement (p0 j) (p1 j)
    same_statement_form n t (s.do_statement x e) h =
        let f0 : length (statement_form_tokens (s.do_statement x e)) ≡ length (Token fixed.Do ∷ statement_tokens x ++ Token fixed.While ∷ Token fixed.LeftParen ∷ expression_tokens e) + 2 = length-append (Token fixed.Do ∷ statement_tokens x ++ Token fixed.While ∷ Token fixed.LeftParen ∷ expression_tokens e) (Token fixed.RightParen ∷ Token fixed.Semicolon ∷ []) in
        let f1 : length (Token fixed.Do ∷ statement_tokens x ++ Token fixed.While ∷ Token fixed.LeftParen ∷ expression_tokens e) ≡ suc (length (statement_tokens x)) + suc (suc (length (expression_tokens e))) = length-append (Token fixed.Do ∷ statement_tokens x) (Token fixed.While ∷ Token fixed.LeftParen ∷ expression_tokens e) in
        let p0 = same_statement n (t + 1) x (omega arith) in
        let p1 = same_expression (n + statement_nodes x) (t + length (statement_tokens x) + 3) e (omega arith) in
        λ j. s.do_statement (p0 j) (p1 j)
    same_statement_form n t (s.for_statement first test step x) h =
        let f0 : length (statement_form_tokens (s.for_statement first test step x)) ≡ length (Token fixed.For ∷ Token fixed.LeftParen ∷ start_tokens first ++ optional_tokens test ++ Token fixed.Semicolon ∷ optional_tokens step) + suc (length (statement_tokens x)) = length-append (Token fixed.For ∷ Token fixed.LeftParen ∷ start_tokens first ++ optional_tokens test ++ Token fixed.Semicolon ∷ optional_tokens step) (Token fixed.RightParen ∷ statement_tokens x) in
        let f1 : length (Token fixed.For ∷ Token fixed.LeftParen ∷ start_tokens first ++ optional_tokens test ++ Token fixed.Semicolon ∷ optional_tokens step) ≡ length (Token fixed.For ∷ Token fixed.LeftParen ∷ start_tokens first ++ optional_tokens test) + suc (length (optional_tokens step)) = length-append (Token fixed.For ∷ Token fixed.LeftParen ∷ start_tokens first ++ optional_tokens test) (Token fixed.Semicolon ∷ optional_tokens step) in
        let f2 : length (Token fixed.For ∷ Token fixed.LeftParen ∷ start_tokens first ++ optional_tokens test) ≡ suc (suc (length (start_tokens first))) + length (optional_tokens test) = length-append (Token fixed.For ∷ Token fixed.LeftParen ∷ start_tokens first) (optional_tokens test) in
        let p0 = same_start n (t + 2) first (omega arith) in
        let p1 = same_maybe_expression (n + start_nodes first) (t + length (start_tokens first) + 2) test (omega arith) in
        let p2 = same_maybe_expression (n + start_nodes first + maybe_expression_nodes test) (t + length (start_tokens first) + length (optional_tokens test) + 3) step (omega arith) in
        let p3 = same_statement (n + start_nodes first + maybe_expression_nodes test + maybe_expression_nodes step) (t + length (start_tokens first) + length (optional_tokens test) + length (optional_tokens step) + 4) x (omega arith) in
        λ j. s.for_statement (p0 j) (p1 j) (p2 j) (p3 j)
    same_statement_form n t s.break_statement h = refl
    same_statement_form n t s.continue_statement h = refl
    same_statement_form n t (s.return_statement e) h =
        let f0 : length (statement_form_tokens (s.return_statement e)) ≡ suc (length (optional_tokens e)) + 1 = length-append (Token fixed.Return ∷ optional_tokens e) (Token fixed.Semicolon ∷ []) in
        let p0 = same_maybe_expression n (t + 1) e (omega arith) in
        λ j. s.return_statement (p0 j)

    same_part : (n t : ℕ) (x : PartTree) → t + length (part_tokens x) < w → laid_part set n t x ≡ laid_part other n t x
    same_part n t (s.local d) h =
        let f0 : length (part_tokens (s.local d)) ≡ length (declaration_tokens d) = refl in
        let p0 = same_declaration n t d (omega arith) in
        λ j. s.local (p0 j)
    same_part n t (s.run x) h =
        let f0 : length (part_tokens (s.run x)) ≡ length (statement_tokens x) = refl in
        let p0 = same_statement n t x (omega arith) in
        λ j. s.run (p0 j)

    same_parts : (n t : ℕ) (x : PartTrees) → t + length (parts_tokens x) < w → laid_parts set n t x ≡ laid_parts other n t x
    same_parts n t s.no_parts h = refl
    same_parts n t (s.then_part x xs) h =
        let f0 : length (parts_tokens (s.then_part x xs)) ≡ length (part_tokens x) + length (parts_tokens xs) = length-append (part_tokens x) (parts_tokens xs) in
        let p0 = same_part n t x (omega arith) in
        let p1 = same_parts (n + part_nodes x) (t + length (part_tokens x)) xs (omega arith) in
        λ j. s.then_part (p0 j) (p1 j)

    same_section : (n t : ℕ) (x : SectionTree) → t + length (section_tokens x) < w → laid_section set n t x ≡ laid_section other n t x
    same_section n t (s.section node labels body) h =
        let f0 : length (section_tokens (s.section node labels body)) ≡ length (labels_tokens labels) + length (statements_tokens body) = length-append (labels_tokens labels) (statements_tokens body) in
        let p0 = agree (n + labels_nodes labels + statements_nodes body) t (length (labels_tokens labels) + length (statements_tokens body)) (omega arith) (omega arith) in
        let p1 = same_labels n t labels (omega arith) in
        let p2 = same_statements (n + labels_nodes labels) (t + length (labels_tokens labels)) body (omega arith) in
        λ j. s.section (p0 j) (p1 j) (p2 j)

    same_sections : (n t : ℕ) (x : SectionTrees) → t + length (sections_tokens x) < w → laid_sections set n t x ≡ laid_sections other n t x
    same_sections n t s.no_sections h = refl
    same_sections n t (s.then_section x xs) h =
        let f0 : length (sections_tokens (s.then_section x xs)) ≡ length (section_tokens x) + length (sections_tokens xs) = length-append (section_tokens x) (sections_tokens xs) in
        let p0 = same_section n t x (omega arith) in
        let p1 = same_sections (n + section_nodes x) (t + length (section_tokens x)) xs (omega arith) in
        λ j. s.then_section (p0 j) (p1 j)

  pub same_function : (n t : ℕ) (x : FunctionTree) → t + length (function_tokens x) ≤ w → laid_function set n t x ≡ laid_function other n t x
  same_function n t (s.function storage b d body) h =
      let f0 : length (function_tokens (s.function storage b d body)) ≡ length (storage_tokens storage ++ base_tokens b ++ declarator_tokens d) + length (statement_tokens body) = length-append (storage_tokens storage ++ base_tokens b ++ declarator_tokens d) (statement_tokens body) in
      let f1 : length (storage_tokens storage ++ base_tokens b ++ declarator_tokens d) ≡ length (storage_tokens storage ++ base_tokens b) + length (declarator_tokens d) = length-append (storage_tokens storage ++ base_tokens b) (declarator_tokens d) in
      let f2 : length (storage_tokens storage ++ base_tokens b) ≡ length (storage_tokens storage) + length (base_tokens b) = length-append (storage_tokens storage) (base_tokens b) in
      let f3 = statement_prints body in
      let p0 = same_base n (t + length (storage_tokens storage)) b (omega arith) in
      let p1 = same_declarator (n + base_nodes b) (t + length (storage_tokens storage) + length (base_tokens b)) d (omega arith) in
      let p2 = same_statement (n + base_nodes b + declarator_nodes d) (t + length (storage_tokens storage) + length (base_tokens b) + length (declarator_tokens d)) body (omega arith) in
      λ j. s.function storage (p0 j) (p1 j) (p2 j)

-- what is covered by tokens of a list doesn't change where more tokens follow
covered_same : (spans behind : List Span) (t k : ℕ) → t < length spans → t + k ≤ length spans → covered (spans ++ behind) t k ≡ covered spans t k
covered_same spans behind t zero h m =
    let at = get_or-append spans behind (record { from = 0; to = 0 }) t h in
    λ j. record { from = (at j).from; to = (at j).from }
covered_same spans behind t (suc k) h m =
    let first = get_or-append spans behind (record { from = 0; to = 0 }) t h in
    let last = get_or-append spans behind (record { from = 0; to = 0 }) (t + k) (omega arith) in
    λ j. record { from = (first j).from; to = (last j).to }

node_same : (spans behind : List Span) (n t k : ℕ) → t < length spans → t + k ≤ length spans → node_at (spans ++ behind) n t k ≡ node_at spans n t k
node_same spans behind n t k h m = let c = covered_same spans behind t k h m in λ j. record { number = n; span = c j }

pub by_its_tokens : (u : UnitTree) (spans behind : List Span) → length spans ≡ length (unit_tokens u) → unit_laid_out (spans ++ behind) u ≡ unit_laid_out spans u
by_its_tokens (s.empty_unit node) spans behind h = let p = node_same spans behind 0 0 1 (omega arith) (omega arith) in λ j. s.empty_unit (p j)
by_its_tokens (s.declares node d) spans behind h =
    let some = declaration_some d in
    let whole : length spans ≡ length (declaration_tokens d) = h in
    let p = node_same spans behind (declaration_nodes d) 0 (length (declaration_tokens d)) (omega arith) (omega arith) in
    let q = same_declaration (node_at (spans ++ behind)) (node_at spans) (length spans) (node_same spans behind) 0 0 d (omega arith) in
    λ j. s.declares (p j) (q j)
by_its_tokens (s.defines node f) spans behind h =
    let some = function_some f in
    let whole : length spans ≡ length (function_tokens f) = h in
    let p = node_same spans behind (function_nodes f) 0 (length (function_tokens f)) (omega arith) (omega arith) in
    let q = same_function (node_at (spans ++ behind)) (node_at spans) (length spans) (node_same spans behind) 0 0 f (omega arith) in
    λ j. s.defines (p j) (q j)
