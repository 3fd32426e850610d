-- What the trees of declarations print holds no `;` outside of brackets but the last token.
use Rattle.std.proofs.Common.{◌≡◌, ℕ, suc, ◌+◌, ◌-◌, ◌≤◌, Bool, true, false, not, ◌&&◌, List, [], ◌∷◌, ◌++◌, length, drop, slice_range, refl, sym, ap, ◌∙◌, append_assoc, length-append, length-take, arith}
use Rattle.std.specs.Prelude.{nat_le}
use Rattle.std.proofs.lemmas.Bool.{false≢true}
use Rattle.std.proofs.lemmas.List.{length-drop}
use Rattle.stk_base.specs.declared.span.Span.{Span}
use Rattle.stk_tree.specs.declared.fixed.Fixed.TheVariants as fixed
use Rattle.stk_tree.specs.declared.fixed.Lexeme.{Lexeme}
use Rattle.stk_tree.specs.declared.fixed.Lexeme.TheVariants.{Fixed as Token}
use Rattle.stk_tree.specs.Placed.{arguments_placed, base_form_placed, base_placed, comma_placed, constant_placed, declarator_placed, declarators_placed, designator_placed, designators_placed, dimension_placed, dimensions_placed, enumerator_placed, enumerators_placed, expression_form_placed, expression_placed, file_declarators, form_level, initialiser_placed, is_unbraced, item_placed, items_placed, local_declarators, local_storage, lone_void, maybe_initialiser_placed, member_declarators, member_placed, members_placed, parameter_declarator, parameter_placed, parameters_placed, some_declarators, some_enumerators, some_members, some_parameters, tail_placed, type_name_placed}
use Rattle.stk_tree.specs.Syntax.{BaseTree, BaseFormTree, MemberTree, MemberTrees, EnumrTree, EnumrTrees, DeclrTree, DeclrTrees, TailTree, DimensionTree, DimensionTrees, ParamTree, ParamTrees, TypeNameTree, InitTree, MaybeInitTree, ItemTree, ItemTrees, DesigTree, DesigTrees, ExprTree, ExprTrees, MaybeExprTree, ExprFormTree, DeclarationTree}
use Rattle.stk_tree.specs.Syntax as s
use Rattle.stk_tree.specs.Tokens.{base_form_tokens, base_tokens, declaration_tokens, declarator_tokens, declarators_tokens, designator_tokens, designators_tokens, dimension_tokens, dimensions_tokens, enumerator_tokens, enumerators_tokens, expression_form_tokens, expression_tokens, expressions_tokens, initial_tokens, initialiser_tokens, item_tokens, items_tokens, member_tokens, members_tokens, more_declarators, more_enumerators, more_expressions, more_items, more_parameters, parameter_tokens, parameters_tokens, storage_tokens, tail_tokens, type_name_tokens, value_tokens}
use Rattle.stk_grammar.specs.Declarations.{IsDeclaration, declaration_placed}
use Rattle.stk_grammar.proofs.DeclarationLaws.{leads_of_slice}
use Rattle.stk_text_laws.specs.Semicolons.{up_to_semicolon}
use Rattle.stk_text_laws.proofs.Passing.{Passes, nothing, then, open_paren, open_bracket, open_brace, close_paren, close_bracket, close_brace, inner_semicolon, ended}
use Rattle.stk_text_laws.proofs.Flat.{Level, leaf, comma_level, dot_level, arrow_level, sizeof_level, question_level, colon_level, assign_level, struct_level, enum_level, void_level, word_level, optional_level, texts_level, stars_level, reserved_level, storage_level, last_comma_level, more_level, path_level, step_level, unary_level, binary_level, assignment_level}

-- these tokens pass inside of brackets, where they may hold a `;`
abbrev Inner : List Lexeme → Type 0
Inner xs = (d : ℕ) → Passes (suc d) xs (suc d)

both : (p q : Bool) → (p && q) ≡ true → (p ≡ true) × (q ≡ true)
both true q e = (refl, e)
both false q e = absurd (false≢true e)

mutual
  base : (x : BaseTree) → base_placed x ≡ true → Level (base_tokens x)
  base (s.base n f) p = base_form f p

  base_form : (x : BaseFormTree) → base_form_placed x ≡ true → Level (base_form_tokens x)
  base_form (s.words []) p = absurd (false≢true p)
  base_form (s.words (w ∷ ws)) p = reserved_level (w ∷ ws) p
  base_form (s.struct_ref tag) p = λ d. then (struct_level d) (word_level tag d)
  base_form (s.struct_def tag ms) p =
      let q = both (some_members ms) (members_placed ms) p in
      λ d. then (then (then (struct_level d) (optional_level tag d)) (then (open_brace d) (members ms q.1 d))) (close_brace d)
  base_form (s.enum_ref tag) p = λ d. then (enum_level d) (word_level tag d)
  base_form (s.enum_def tag es comma) p =
      let q = both (some_enumerators es) (enumerators_placed es) p in
      λ d. then (then (then (then (enum_level d) (optional_level tag d)) (then (open_brace d) (enumerators es q.1 (suc d)))) (last_comma_level comma (suc d))) (close_brace d)
  base_form (s.named at) p = word_level at

  member : (x : MemberTree) → member_placed x ≡ true → Inner (member_tokens x)
  member (s.member b ds) p =
      let q = both (base_placed b && some_declarators ds && member_declarators ds) (declarators_placed ds) p in
      let r = both (base_placed b && some_declarators ds) (member_declarators ds) q.0 in
      let t = both (base_placed b) (some_declarators ds) r.0 in
      λ d. then (then (base b t.0 (suc d)) (declarators ds q.1 (suc d))) (inner_semicolon d)

  members : (x : MemberTrees) → members_placed x ≡ true → Inner (members_tokens x)
  members s.no_members p = λ d. nothing (suc d)
  members (s.then_member x xs) p = let q = both (member_placed x) (members_placed xs) p in λ d. then (member x q.0 d) (members xs q.1 d)

  enumerator : (x : EnumrTree) → enumerator_placed x ≡ true → Level (enumerator_tokens x)
  enumerator (s.enumerator at e) p = λ d. then (word_level at d) (value e p d)

  enumerators : (x : EnumrTrees) → enumerators_placed x ≡ true → Level (enumerators_tokens x)
  enumerators s.no_enumerators p = λ d. nothing d
  enumerators (s.then_enumerator x xs) p = let q = both (enumerator_placed x) (enumerators_placed xs) p in λ d. then (enumerator x q.0 d) (further_enumerators xs q.1 d)

  further_enumerators : (x : EnumrTrees) → enumerators_placed x ≡ true → Level (more_enumerators x)
  further_enumerators s.no_enumerators p = λ d. nothing d
  further_enumerators (s.then_enumerator x xs) p = let q = both (enumerator_placed x) (enumerators_placed xs) p in λ d. then (then (comma_level d) (enumerator x q.0 d)) (further_enumerators xs q.1 d)

  value : (x : MaybeExprTree) → constant_placed x ≡ true → Level (value_tokens x)
  value s.no_expression p = λ d. nothing d
  value (s.some_expression e) p = λ d. then (assign_level d) (expression _ e p d)

  declarator : (x : DeclrTree) → declarator_placed x ≡ true → Level (declarator_tokens x)
  declarator (s.declarator n count at t i) p =
      let q = both (tail_placed t) (maybe_initialiser_placed i) p in
      λ d. then (then (then (stars_level count d) (optional_level at d)) (tail t q.0 d)) (initial i q.1 d)

  declarators : (x : DeclrTrees) → declarators_placed x ≡ true → Level (declarators_tokens x)
  declarators s.no_declarators p = λ d. nothing d
  declarators (s.then_declarator x xs) p = let q = both (declarator_placed x) (declarators_placed xs) p in λ d. then (declarator x q.0 d) (further_declarators xs q.1 d)

  further_declarators : (x : DeclrTrees) → declarators_placed x ≡ true → Level (more_declarators x)
  further_declarators s.no_declarators p = λ d. nothing d
  further_declarators (s.then_declarator x xs) p = let q = both (declarator_placed x) (declarators_placed xs) p in λ d. then (then (comma_level d) (declarator x q.0 d)) (further_declarators xs q.1 d)

  initial : (x : MaybeInitTree) → maybe_initialiser_placed x ≡ true → Level (initial_tokens x)
  initial s.no_initialiser p = λ d. nothing d
  initial (s.some_initialiser i) p = λ d. then (assign_level d) (initialiser i p d)

  tail : (x : TailTree) → tail_placed x ≡ true → Level (tail_tokens x)
  tail (s.arrays ds) p = dimensions ds p
  tail s.unspecified p = λ d. then (open_paren d) (close_paren d)
  tail s.void_parameters p = λ d. then (open_paren d) (then (void_level (suc d)) (close_paren d))
  tail (s.with_parameters ps more) p =
      let q = both (some_parameters ps && not (lone_void ps more)) (parameters_placed ps) p in
      λ d. then (then (then (open_paren d) (parameters ps q.1 (suc d))) (more_level more (suc d))) (close_paren d)

  dimension : (x : DimensionTree) → dimension_placed x ≡ true → Level (dimension_tokens x)
  dimension s.open_dimension p = λ d. then (open_bracket d) (close_bracket d)
  dimension (s.sized e) p = λ d. then (then (open_bracket d) (expression _ e p (suc d))) (close_bracket d)

  dimensions : (x : DimensionTrees) → dimensions_placed x ≡ true → Level (dimensions_tokens x)
  dimensions s.no_dimensions p = λ d. nothing d
  dimensions (s.then_dimension x xs) p = let q = both (dimension_placed x) (dimensions_placed xs) p in λ d. then (dimension x q.0 d) (dimensions xs q.1 d)

  parameter : (x : ParamTree) → parameter_placed x ≡ true → Level (parameter_tokens x)
  parameter (s.parameter n b e) p =
      let q = both (is_unbraced b && base_placed b && parameter_declarator e) (declarator_placed e) p in
      let r = both (is_unbraced b && base_placed b) (parameter_declarator e) q.0 in
      let t = both (is_unbraced b) (base_placed b) r.0 in
      λ d. then (base b t.1 d) (declarator e q.1 d)

  parameters : (x : ParamTrees) → parameters_placed x ≡ true → Level (parameters_tokens x)
  parameters s.no_parameters p = λ d. nothing d
  parameters (s.then_parameter x xs) p = let q = both (parameter_placed x) (parameters_placed xs) p in λ d. then (parameter x q.0 d) (further_parameters xs q.1 d)

  further_parameters : (x : ParamTrees) → parameters_placed x ≡ true → Level (more_parameters x)
  further_parameters s.no_parameters p = λ d. nothing d
  further_parameters (s.then_parameter x xs) p = let q = both (parameter_placed x) (parameters_placed xs) p in λ d. then (then (comma_level d) (parameter x q.0 d)) (further_parameters xs q.1 d)

  type_name : (x : TypeNameTree) → type_name_placed x ≡ true → Level (type_name_tokens x)
  type_name (s.type_name n b count ds) p =
      let q = both (is_unbraced b && base_placed b) (dimensions_placed ds) p in
      let r = both (is_unbraced b) (base_placed b) q.0 in
      λ d. then (then (base b r.1 d) (stars_level count d)) (dimensions ds q.1 d)

  initialiser : (x : InitTree) → initialiser_placed x ≡ true → Level (initialiser_tokens x)
  initialiser (s.plain e) p = expression _ e p
  initialiser (s.braces is comma) p =
      let q = both (comma_placed comma is) (items_placed is) p in
      λ d. then (then (then (open_brace d) (items is q.1 (suc d))) (last_comma_level comma (suc d))) (close_brace d)

  item : (x : ItemTree) → item_placed x ≡ true → Level (item_tokens x)
  item (s.item ds i) p = let q = both (designators_placed ds) (initialiser_placed i) p in λ d. then (then (designators ds q.0 d) (path_level ds d)) (initialiser i q.1 d)

  items : (x : ItemTrees) → items_placed x ≡ true → Level (items_tokens x)
  items s.no_items p = λ d. nothing d
  items (s.then_item x xs) p = let q = both (item_placed x) (items_placed xs) p in λ d. then (item x q.0 d) (further_items xs q.1 d)

  further_items : (x : ItemTrees) → items_placed x ≡ true → Level (more_items x)
  further_items s.no_items p = λ d. nothing d
  further_items (s.then_item x xs) p = let q = both (item_placed x) (items_placed xs) p in λ d. then (then (comma_level d) (item x q.0 d)) (further_items xs q.1 d)

  designator : (x : DesigTree) → designator_placed x ≡ true → Level (designator_tokens x)
  designator (s.dot_designator at) p = λ d. then (dot_level d) (word_level at d)
  designator (s.at_designator e) p = λ d. then (then (open_bracket d) (expression _ e p (suc d))) (close_bracket d)

  designators : (x : DesigTrees) → designators_placed x ≡ true → Level (designators_tokens x)
  designators s.no_designators p = λ d. nothing d
  designators (s.then_designator x xs) p = let q = both (designator_placed x) (designators_placed xs) p in λ d. then (designator x q.0 d) (designators xs q.1 d)

  expression : (least : ℕ) (x : ExprTree) → expression_placed least x ≡ true → Level (expression_tokens x)
  expression least (s.expression n f) p = form f (both (nat_le least (form_level f)) (expression_form_placed f) p).1

  arguments : (x : ExprTrees) → arguments_placed x ≡ true → Level (expressions_tokens x)
  arguments s.no_expressions p = λ d. nothing d
  arguments (s.then_expression x xs) p = let q = both (expression_placed 2 x) (arguments_placed xs) p in λ d. then (expression _ x q.0 d) (further_arguments xs q.1 d)

  further_arguments : (x : ExprTrees) → arguments_placed x ≡ true → Level (more_expressions x)
  further_arguments s.no_expressions p = λ d. nothing d
  further_arguments (s.then_expression x xs) p = let q = both (expression_placed 2 x) (arguments_placed xs) p in λ d. then (then (comma_level d) (expression _ x q.0 d)) (further_arguments xs q.1 d)

  form : (x : ExprFormTree) → expression_form_placed x ≡ true → Level (expression_form_tokens x)
  form (s.name at) p = word_level at
  form (s.number at) p = leaf _ at
  form (s.character at) p = leaf _ at
  form (s.text parts) p = texts_level parts
  form (s.paren e) p = λ d. then (then (open_paren d) (expression _ e p (suc d))) (close_paren d)
  form (s.index a b) p = let q = both (expression_placed 16 a) (expression_placed 1 b) p in λ d. then (then (expression _ a q.0 d) (then (open_bracket d) (expression _ b q.1 (suc d)))) (close_bracket d)
  form (s.call f args) p = let q = both (expression_placed 16 f) (arguments_placed args) p in λ d. then (then (expression _ f q.0 d) (then (open_paren d) (arguments args q.1 (suc d)))) (close_paren d)
  form (s.dot e at) p = λ d. then (expression _ e p d) (then (dot_level d) (word_level at d))
  form (s.arrow e at) p = λ d. then (expression _ e p d) (then (arrow_level d) (word_level at d))
  form (s.step op e) p = step_level op (expression_tokens e) (expression _ e p)
  form (s.unary op e) p = λ d. then (unary_level op d) (expression _ e p d)
  form (s.size_expression e) p = λ d. then (sizeof_level d) (expression _ e p d)
  form (s.size_name t) p = λ d. then (then (sizeof_level d) (then (open_paren d) (type_name t p (suc d)))) (close_paren d)
  form (s.cast t e) p = let q = both (type_name_placed t) (expression_placed 14 e) p in λ d. then (then (open_paren d) (type_name t q.0 (suc d))) (then (close_paren d) (expression _ e q.1 d))
  form (s.binary op a b) p = let q = both (expression_placed _ a) (expression_placed _ b) p in λ d. then (expression _ a q.0 d) (then (binary_level op d) (expression _ b q.1 d))
  form (s.choice a b c) p =
      let q = both (expression_placed 4 a && expression_placed 1 b) (expression_placed 3 c) p in
      let r = both (expression_placed 4 a) (expression_placed 1 b) q.0 in
      λ d. then (then (expression _ a r.0 d) (then (question_level d) (expression _ b r.1 d))) (then (colon_level d) (expression _ c q.1 d))
  form (s.assign op a b) p = let q = both (expression_placed 15 a) (expression_placed 2 b) p in λ d. then (expression _ a q.0 d) (then (assignment_level op d) (expression _ b q.1 d))

-- a declaration before its `;`
front : DeclarationTree → List Lexeme
front (s.declaration word b ds) = storage_tokens word ++ base_tokens b ++ declarators_tokens ds

whole : (x : DeclarationTree) → declaration_tokens x ≡ front x ++ (Token fixed.Semicolon ∷ [])
unfolding front
whole (s.declaration word b ds) = refl

front_level : (x : DeclarationTree) (file : Bool) → declaration_placed file x ≡ true → Passes 0 (front x) 0
unfolding front
front_level (s.declaration word b ds) true p =
    let q = both (base_placed b && file_declarators ds) (declarators_placed ds) p in
    let r = both (base_placed b) (file_declarators ds) q.0 in
    then (then (storage_level word 0) (base b r.0 0)) (declarators ds q.1 0)
front_level (s.declaration word b ds) false p =
    let q = both (local_storage word && is_unbraced b && base_placed b && some_declarators ds && local_declarators ds) (declarators_placed ds) p in
    let r = both (local_storage word && is_unbraced b && base_placed b && some_declarators ds) (local_declarators ds) q.0 in
    let t = both (local_storage word && is_unbraced b && base_placed b) (some_declarators ds) r.0 in
    let u = both (local_storage word && is_unbraced b) (base_placed b) t.0 in
    then (then (storage_level word 0) (base b u.1 0)) (declarators ds q.1 0)

length_of : (ts : List Lexeme) (from to : ℕ) → from ≤ to → to ≤ length ts → length (slice_range ts from to) ≡ to - from
length_of ts from to h k = omega (arith, h, k, length-take (to - from) (drop from ts), length-drop from ts)

pub ends_first : (named : Span → Bool) (file : Bool) (ts : List Lexeme) (from to : ℕ) (d : DeclarationTree) → IsDeclaration named file ts from to d
    → up_to_semicolon 0 (drop from ts) ≡ to - from
ends_first named file ts from to d h =
    let behind = drop to ts in
    let tokens : drop from ts ≡ front d ++ (Token fixed.Semicolon ∷ behind) =
    leads_of_slice ts (declaration_tokens d) from to h.within.0 h.tokens ∙ ap (λ (xs : List Lexeme). xs ++ behind) (whole d) ∙ append_assoc (front d) (Token fixed.Semicolon ∷ []) behind in
    let size : length (front d) + 1 ≡ to - from = sym (length-append (front d) (Token fixed.Semicolon ∷ [])) ∙ ap length (sym (whole d)) ∙ ap length (sym h.tokens) ∙ length_of ts from to h.within.0 h.within.1 in
    ap (up_to_semicolon 0) tokens ∙ ended (front d) behind (front_level d file h.placed) ∙ size
