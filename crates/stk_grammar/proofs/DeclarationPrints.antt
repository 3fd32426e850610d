-- The tokens of a declaration in front of others, with no `++`.
use Rattle.std.proofs.Common.{◌≡◌, Bool, true, false, List, [], ◌∷◌, ◌++◌, Option, Some, None, refl, ap, ◌∙◌, append_assoc}
use Rattle.stk_base.specs.declared.span.Span.{Span}
use Rattle.stk_base.specs.declared.token.Class.TheVariants.{Word}
use Rattle.stk_tree.specs.declared.fixed.Fixed.TheVariants as fixed
use Rattle.stk_tree.specs.declared.fixed.Lexeme.{Lexeme}
use Rattle.stk_tree.specs.declared.fixed.Lexeme.TheVariants.{Leaf, Fixed as Token}
use Rattle.stk_tree.specs.declared.declaration.Storage.{Storage}
use Rattle.stk_tree.specs.declared.declaration.Storage.TheVariants.{Typedef, Extern, Static}
use Rattle.stk_tree.specs.Syntax.{BaseTree, BaseFormTree, MemberTree, MemberTrees, EnumrTree, EnumrTrees, DeclrTree, DeclrTrees, TailTree, ParamTree, ParamTrees, InitTree, MaybeInitTree, ItemTree, ItemTrees, DesigTree, DesigTrees, MaybeExprTree, DeclarationTree}
use Rattle.stk_tree.specs.Syntax as s
use Rattle.stk_tree.specs.Tokens.{base_form_tokens, base_tokens, declaration_tokens, declarator_tokens, declarators_tokens, designator_tokens, designators_tokens, enumerator_tokens, enumerators_tokens, expression_tokens, initial_tokens, initialiser_tokens, item_tokens, items_tokens, last_comma, member_tokens, members_tokens, more_declarators, more_enumerators, more_items, more_parameters, more_tokens, optional_word, parameter_tokens, parameters_tokens, path_end, stars, storage_tokens, tail_tokens, value_tokens}
use Rattle.stk_grammar.specs.Declarations.{front_tokens}
use Rattle.stk_grammar.proofs.Prints.{dimensions-append, infix_append, prints, prints_dimensions, prints_stars, prints_words, stars-append, tokens-append, words-append}

abbrev pub prints_name : Option Span → List Lexeme → List Lexeme
prints_name None r = r
prints_name (Some at) r = Leaf Word at ∷ r

abbrev pub prints_storage : Option Storage → List Lexeme → List Lexeme
prints_storage None r = r
prints_storage (Some Typedef) r = Token fixed.Typedef ∷ r
prints_storage (Some Extern) r = Token fixed.Extern ∷ r
prints_storage (Some Static) r = Token fixed.Static ∷ r

-- the comma that may stand before a closing brace
abbrev pub prints_comma : Bool → List Lexeme → List Lexeme
prints_comma true r = Token fixed.Comma ∷ r
prints_comma false r = r

abbrev pub prints_ellipsis : Bool → List Lexeme → List Lexeme
prints_ellipsis true r = Token fixed.Comma ∷ Token fixed.Ellipsis ∷ r
prints_ellipsis false r = r

abbrev pub prints_path_end : DesigTrees → List Lexeme → List Lexeme
prints_path_end s.no_designators r = r
prints_path_end (s.then_designator d ds) r = Token fixed.Assign ∷ r

abbrev pub prints_value : MaybeExprTree → List Lexeme → List Lexeme
prints_value s.no_expression r = r
prints_value (s.some_expression e) r = Token fixed.Assign ∷ prints e r

abbrev pub prints_designator : DesigTree → List Lexeme → List Lexeme
prints_designator (s.dot_designator at) r = Token fixed.Dot ∷ Leaf Word at ∷ r
prints_designator (s.at_designator e) r = Token fixed.LeftBracket ∷ prints e (Token fixed.RightBracket ∷ r)

abbrev pub prints_designators : DesigTrees → List Lexeme → List Lexeme
prints_designators s.no_designators r = r
prints_designators (s.then_designator x xs) r = prints_designator x (prints_designators xs r)

abbrev pub prints_enumerator : EnumrTree → List Lexeme → List Lexeme
prints_enumerator (s.enumerator at e) r = Leaf Word at ∷ prints_value e r

abbrev pub prints_more_enumerators : EnumrTrees → List Lexeme → List Lexeme
prints_more_enumerators s.no_enumerators r = r
prints_more_enumerators (s.then_enumerator x xs) r = Token fixed.Comma ∷ prints_enumerator x (prints_more_enumerators xs r)

abbrev pub prints_enumerators : EnumrTrees → List Lexeme → List Lexeme
prints_enumerators s.no_enumerators r = r
prints_enumerators (s.then_enumerator x xs) r = prints_enumerator x (prints_more_enumerators xs r)

abbrev mutual
  pub prints_initialiser : InitTree → List Lexeme → List Lexeme
  prints_initialiser (s.plain e) r = prints e r
  prints_initialiser (s.braces is comma) r = Token fixed.LeftBrace ∷ prints_items is (prints_comma comma (Token fixed.RightBrace ∷ r))

  pub prints_item : ItemTree → List Lexeme → List Lexeme
  prints_item (s.item ds i) r = prints_designators ds (prints_path_end ds (prints_initialiser i r))

  pub prints_items : ItemTrees → List Lexeme → List Lexeme
  prints_items s.no_items r = r
  prints_items (s.then_item x xs) r = prints_item x (prints_more_items xs r)

  pub prints_more_items : ItemTrees → List Lexeme → List Lexeme
  prints_more_items s.no_items r = r
  prints_more_items (s.then_item x xs) r = Token fixed.Comma ∷ prints_item x (prints_more_items xs r)

abbrev pub prints_initial : MaybeInitTree → List Lexeme → List Lexeme
prints_initial s.no_initialiser r = r
prints_initial (s.some_initialiser i) r = Token fixed.Assign ∷ prints_initialiser i r

abbrev mutual
  -- a base, with its braces where it has some
  pub prints_specifier : BaseTree → List Lexeme → List Lexeme
  prints_specifier (s.base n f) r = prints_specifier_form f r

  pub prints_specifier_form : BaseFormTree → List Lexeme → List Lexeme
  prints_specifier_form (s.words ws) r = prints_words ws r
  prints_specifier_form (s.struct_ref tag) r = Token fixed.Struct ∷ Leaf Word tag ∷ r
  prints_specifier_form (s.struct_def tag ms) r = Token fixed.Struct ∷ prints_name tag (Token fixed.LeftBrace ∷ prints_members ms (Token fixed.RightBrace ∷ r))
  prints_specifier_form (s.enum_ref tag) r = Token fixed.Enum ∷ Leaf Word tag ∷ r
  prints_specifier_form (s.enum_def tag es comma) r = Token fixed.Enum ∷ prints_name tag (Token fixed.LeftBrace ∷ prints_enumerators es (prints_comma comma (Token fixed.RightBrace ∷ r)))
  prints_specifier_form (s.named at) r = Leaf Word at ∷ r

  pub prints_member : MemberTree → List Lexeme → List Lexeme
  prints_member (s.member b ds) r = prints_specifier b (prints_declarators ds (Token fixed.Semicolon ∷ r))

  pub prints_members : MemberTrees → List Lexeme → List Lexeme
  prints_members s.no_members r = r
  prints_members (s.then_member x xs) r = prints_member x (prints_members xs r)

  pub prints_declarator : DeclrTree → List Lexeme → List Lexeme
  prints_declarator (s.declarator n count at t i) r = prints_stars count (prints_name at (prints_tail t (prints_initial i r)))

  pub prints_declarators : DeclrTrees → List Lexeme → List Lexeme
  prints_declarators s.no_declarators r = r
  prints_declarators (s.then_declarator x xs) r = prints_declarator x (prints_more_declarators xs r)

  pub prints_more_declarators : DeclrTrees → List Lexeme → List Lexeme
  prints_more_declarators s.no_declarators r = r
  prints_more_declarators (s.then_declarator x xs) r = Token fixed.Comma ∷ prints_declarator x (prints_more_declarators xs r)

  pub prints_tail : TailTree → List Lexeme → List Lexeme
  prints_tail (s.arrays ds) r = prints_dimensions ds r
  prints_tail s.unspecified r = Token fixed.LeftParen ∷ Token fixed.RightParen ∷ r
  prints_tail s.void_parameters r = Token fixed.LeftParen ∷ Token fixed.Void ∷ Token fixed.RightParen ∷ r
  prints_tail (s.with_parameters ps more) r = Token fixed.LeftParen ∷ prints_parameters ps (prints_ellipsis more (Token fixed.RightParen ∷ r))

  pub prints_parameter : ParamTree → List Lexeme → List Lexeme
  prints_parameter (s.parameter n b d) r = prints_specifier b (prints_declarator d r)

  pub prints_parameters : ParamTrees → List Lexeme → List Lexeme
  prints_parameters s.no_parameters r = r
  prints_parameters (s.then_parameter x xs) r = prints_parameter x (prints_more_parameters xs r)

  pub prints_more_parameters : ParamTrees → List Lexeme → List Lexeme
  prints_more_parameters s.no_parameters r = r
  prints_more_parameters (s.then_parameter x xs) r = Token fixed.Comma ∷ prints_parameter x (prints_more_parameters xs r)

abbrev pub prints_declaration : DeclarationTree → List Lexeme → List Lexeme
prints_declaration (s.declaration word b ds) r = prints_storage word (prints_specifier b (prints_declarators ds (Token fixed.Semicolon ∷ r)))

-- what stands before a function's body
abbrev pub prints_front : DeclarationTree → List Lexeme → List Lexeme
prints_front (s.declaration word b ds) r = prints_storage word (prints_specifier b (prints_declarators ds r))

-- ---- these are the tokens of the tree, and then the others

-- one behind the other
join : (a b r w v : List Lexeme) → b ++ r ≡ w → a ++ w ≡ v → (a ++ b) ++ r ≡ v
join a b r w v e d = append_assoc a b r ∙ ap (λ x. a ++ x) e ∙ d

-- and with a punctuator between
join_by : (a : List Lexeme) (u : Lexeme) (b r w v : List Lexeme) → b ++ r ≡ w → a ++ u ∷ w ≡ v → (a ++ u ∷ b) ++ r ≡ v
join_by a u b r w v e d = infix_append a u b r w e ∙ d

pub name-append : (at : Option Span) (r : List Lexeme) → optional_word at ++ r ≡ prints_name at r
name-append None r = refl
name-append (Some at) r = refl

storage-append : (w : Option Storage) (r : List Lexeme) → storage_tokens w ++ r ≡ prints_storage w r
storage-append None r = refl
storage-append (Some Typedef) r = refl
storage-append (Some Extern) r = refl
storage-append (Some Static) r = refl

comma-append : (b : Bool) (r : List Lexeme) → last_comma b ++ r ≡ prints_comma b r
comma-append true r = refl
comma-append false r = refl

ellipsis-append : (b : Bool) (r : List Lexeme) → more_tokens b ++ r ≡ prints_ellipsis b r
ellipsis-append true r = refl
ellipsis-append false r = refl

path-append : (ds : DesigTrees) (r : List Lexeme) → path_end ds ++ r ≡ prints_path_end ds r
path-append s.no_designators r = refl
path-append (s.then_designator d ds) r = refl

value-append : (e : MaybeExprTree) (r : List Lexeme) → value_tokens e ++ r ≡ prints_value e r
value-append s.no_expression r = refl
value-append (s.some_expression e) r = ap (λ x. Token fixed.Assign ∷ x) (tokens-append e r)

pub designator-append : (d : DesigTree) (r : List Lexeme) → designator_tokens d ++ r ≡ prints_designator d r
designator-append (s.dot_designator at) r = refl
designator-append (s.at_designator e) r = ap (λ x. Token fixed.LeftBracket ∷ x) (join (expression_tokens e) (Token fixed.RightBracket ∷ []) r _ _ refl (tokens-append e (Token fixed.RightBracket ∷ r)))

pub designators-append : (ds : DesigTrees) (r : List Lexeme) → designators_tokens ds ++ r ≡ prints_designators ds r
designators-append s.no_designators r = refl
designators-append (s.then_designator x xs) r = join (designator_tokens x) (designators_tokens xs) r _ _ (designators-append xs r) (designator-append x (prints_designators xs r))

pub enumerator-append : (x : EnumrTree) (r : List Lexeme) → enumerator_tokens x ++ r ≡ prints_enumerator x r
enumerator-append (s.enumerator at e) r = ap (λ x. Leaf Word at ∷ x) (value-append e r)

pub more_enumerators-append : (xs : EnumrTrees) (r : List Lexeme) → more_enumerators xs ++ r ≡ prints_more_enumerators xs r
more_enumerators-append s.no_enumerators r = refl
more_enumerators-append (s.then_enumerator x xs) r = ap (λ x. Token fixed.Comma ∷ x) (join (enumerator_tokens x) (more_enumerators xs) r _ _ (more_enumerators-append xs r) (enumerator-append x (prints_more_enumerators xs r)))

pub enumerators-append : (xs : EnumrTrees) (r : List Lexeme) → enumerators_tokens xs ++ r ≡ prints_enumerators xs r
enumerators-append s.no_enumerators r = refl
enumerators-append (s.then_enumerator x xs) r = join (enumerator_tokens x) (more_enumerators xs) r _ _ (more_enumerators-append xs r) (enumerator-append x (prints_more_enumerators xs r))

mutual
  pub initialiser-append : (i : InitTree) (r : List Lexeme) → initialiser_tokens i ++ r ≡ prints_initialiser i r
  initialiser-append (s.plain e) r = tokens-append e r
  initialiser-append (s.braces is comma) r =
      ap (λ x. Token fixed.LeftBrace ∷ x) (join (items_tokens is ++ last_comma comma) (Token fixed.RightBrace ∷ []) r _ _ refl
      (join (items_tokens is) (last_comma comma) (Token fixed.RightBrace ∷ r) _ _ (comma-append comma (Token fixed.RightBrace ∷ r)) (items-append is (prints_comma comma (Token fixed.RightBrace ∷ r)))))

  pub item-append : (x : ItemTree) (r : List Lexeme) → item_tokens x ++ r ≡ prints_item x r
  item-append (s.item ds i) r =
      join (designators_tokens ds ++ path_end ds) (initialiser_tokens i) r _ _ (initialiser-append i r)
      (join (designators_tokens ds) (path_end ds) (prints_initialiser i r) _ _ (path-append ds (prints_initialiser i r)) (designators-append ds (prints_path_end ds (prints_initialiser i r))))

  pub items-append : (xs : ItemTrees) (r : List Lexeme) → items_tokens xs ++ r ≡ prints_items xs r
  items-append s.no_items r = refl
  items-append (s.then_item x xs) r = join (item_tokens x) (more_items xs) r _ _ (more_items-append xs r) (item-append x (prints_more_items xs r))

  pub more_items-append : (xs : ItemTrees) (r : List Lexeme) → more_items xs ++ r ≡ prints_more_items xs r
  more_items-append s.no_items r = refl
  more_items-append (s.then_item x xs) r = ap (λ x. Token fixed.Comma ∷ x) (join (item_tokens x) (more_items xs) r _ _ (more_items-append xs r) (item-append x (prints_more_items xs r)))

initial-append : (i : MaybeInitTree) (r : List Lexeme) → initial_tokens i ++ r ≡ prints_initial i r
initial-append s.no_initialiser r = refl
initial-append (s.some_initialiser i) r = ap (λ x. Token fixed.Assign ∷ x) (initialiser-append i r)

mutual
  pub specifier-append : (b : BaseTree) (r : List Lexeme) → base_tokens b ++ r ≡ prints_specifier b r
  specifier-append (s.base n f) r = specifier_form-append f r

  pub specifier_form-append : (f : BaseFormTree) (r : List Lexeme) → base_form_tokens f ++ r ≡ prints_specifier_form f r
  specifier_form-append (s.words ws) r = words-append ws r
  specifier_form-append (s.struct_ref tag) r = refl
  specifier_form-append (s.struct_def tag ms) r =
      ap (λ x. Token fixed.Struct ∷ x) (join (optional_word tag ++ Token fixed.LeftBrace ∷ members_tokens ms) (Token fixed.RightBrace ∷ []) r _ _ refl
      (join_by (optional_word tag) (Token fixed.LeftBrace) (members_tokens ms) (Token fixed.RightBrace ∷ r) _ _ (members-append ms (Token fixed.RightBrace ∷ r))
      (name-append tag (Token fixed.LeftBrace ∷ prints_members ms (Token fixed.RightBrace ∷ r)))))
  specifier_form-append (s.enum_ref tag) r = refl
  specifier_form-append (s.enum_def tag es comma) r =
      ap (λ x. Token fixed.Enum ∷ x) (join ((optional_word tag ++ Token fixed.LeftBrace ∷ enumerators_tokens es) ++ last_comma comma) (Token fixed.RightBrace ∷ []) r _ _ refl
      (join (optional_word tag ++ Token fixed.LeftBrace ∷ enumerators_tokens es) (last_comma comma) (Token fixed.RightBrace ∷ r) _ _ (comma-append comma (Token fixed.RightBrace ∷ r))
      (join_by (optional_word tag) (Token fixed.LeftBrace) (enumerators_tokens es) (prints_comma comma (Token fixed.RightBrace ∷ r)) _ _ (enumerators-append es (prints_comma comma (Token fixed.RightBrace ∷ r)))
      (name-append tag (Token fixed.LeftBrace ∷ prints_enumerators es (prints_comma comma (Token fixed.RightBrace ∷ r)))))))
  specifier_form-append (s.named at) r = refl

  pub member-append : (x : MemberTree) (r : List Lexeme) → member_tokens x ++ r ≡ prints_member x r
  member-append (s.member b ds) r =
      join (base_tokens b ++ declarators_tokens ds) (Token fixed.Semicolon ∷ []) r _ _ refl
      (join (base_tokens b) (declarators_tokens ds) (Token fixed.Semicolon ∷ r) _ _ (declarators-append ds (Token fixed.Semicolon ∷ r)) (specifier-append b (prints_declarators ds (Token fixed.Semicolon ∷ r))))

  pub members-append : (xs : MemberTrees) (r : List Lexeme) → members_tokens xs ++ r ≡ prints_members xs r
  members-append s.no_members r = refl
  members-append (s.then_member x xs) r = join (member_tokens x) (members_tokens xs) r _ _ (members-append xs r) (member-append x (prints_members xs r))

  pub declarator-append : (d : DeclrTree) (r : List Lexeme) → declarator_tokens d ++ r ≡ prints_declarator d r
  declarator-append (s.declarator n count at t i) r =
      join ((stars count ++ optional_word at) ++ tail_tokens t) (initial_tokens i) r _ _ (initial-append i r)
      (join (stars count ++ optional_word at) (tail_tokens t) (prints_initial i r) _ _ (tail-append t (prints_initial i r))
      (join (stars count) (optional_word at) (prints_tail t (prints_initial i r)) _ _ (name-append at (prints_tail t (prints_initial i r))) (stars-append count (prints_name at (prints_tail t (prints_initial i r))))))

  pub declarators-append : (xs : DeclrTrees) (r : List Lexeme) → declarators_tokens xs ++ r ≡ prints_declarators xs r
  declarators-append s.no_declarators r = refl
  declarators-append (s.then_declarator x xs) r = join (declarator_tokens x) (more_declarators xs) r _ _ (more_declarators-append xs r) (declarator-append x (prints_more_declarators xs r))

  pub more_declarators-append : (xs : DeclrTrees) (r : List Lexeme) → more_declarators xs ++ r ≡ prints_more_declarators xs r
  more_declarators-append s.no_declarators r = refl
  more_declarators-append (s.then_declarator x xs) r = ap (λ x. Token fixed.Comma ∷ x) (join (declarator_tokens x) (more_declarators xs) r _ _ (more_declarators-append xs r) (declarator-append x (prints_more_declarators xs r)))

  pub tail-append : (t : TailTree) (r : List Lexeme) → tail_tokens t ++ r ≡ prints_tail t r
  tail-append (s.arrays ds) r = dimensions-append ds r
  tail-append s.unspecified r = refl
  tail-append s.void_parameters r = refl
  tail-append (s.with_parameters ps more) r =
      ap (λ x. Token fixed.LeftParen ∷ x) (join (parameters_tokens ps ++ more_tokens more) (Token fixed.RightParen ∷ []) r _ _ refl
      (join (parameters_tokens ps) (more_tokens more) (Token fixed.RightParen ∷ r) _ _ (ellipsis-append more (Token fixed.RightParen ∷ r)) (parameters-append ps (prints_ellipsis more (Token fixed.RightParen ∷ r)))))

  pub parameter-append : (x : ParamTree) (r : List Lexeme) → parameter_tokens x ++ r ≡ prints_parameter x r
  parameter-append (s.parameter n b d) r = join (base_tokens b) (declarator_tokens d) r _ _ (declarator-append d r) (specifier-append b (prints_declarator d r))

  pub parameters-append : (xs : ParamTrees) (r : List Lexeme) → parameters_tokens xs ++ r ≡ prints_parameters xs r
  parameters-append s.no_parameters r = refl
  parameters-append (s.then_parameter x xs) r = join (parameter_tokens x) (more_parameters xs) r _ _ (more_parameters-append xs r) (parameter-append x (prints_more_parameters xs r))

  pub more_parameters-append : (xs : ParamTrees) (r : List Lexeme) → more_parameters xs ++ r ≡ prints_more_parameters xs r
  more_parameters-append s.no_parameters r = refl
  more_parameters-append (s.then_parameter x xs) r = ap (λ x. Token fixed.Comma ∷ x) (join (parameter_tokens x) (more_parameters xs) r _ _ (more_parameters-append xs r) (parameter-append x (prints_more_parameters xs r)))

pub declaration-append : (d : DeclarationTree) (r : List Lexeme) → declaration_tokens d ++ r ≡ prints_declaration d r
declaration-append (s.declaration word b ds) r =
    join ((storage_tokens word ++ base_tokens b) ++ declarators_tokens ds) (Token fixed.Semicolon ∷ []) r _ _ refl
    (join (storage_tokens word ++ base_tokens b) (declarators_tokens ds) (Token fixed.Semicolon ∷ r) _ _ (declarators-append ds (Token fixed.Semicolon ∷ r))
    (join (storage_tokens word) (base_tokens b) (prints_declarators ds (Token fixed.Semicolon ∷ r)) _ _ (specifier-append b (prints_declarators ds (Token fixed.Semicolon ∷ r)))
    (storage-append word (prints_specifier b (prints_declarators ds (Token fixed.Semicolon ∷ r))))))

pub front-append : (d : DeclarationTree) (r : List Lexeme) → front_tokens d ++ r ≡ prints_front d r
front-append (s.declaration word b ds) r =
    join (storage_tokens word ++ base_tokens b) (declarators_tokens ds) r _ _ (declarators-append ds r)
    (join (storage_tokens word) (base_tokens b) (prints_declarators ds r) _ _ (specifier-append b (prints_declarators ds r)) (storage-append word (prints_specifier b (prints_declarators ds r))))
