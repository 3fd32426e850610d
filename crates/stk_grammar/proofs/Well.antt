-- Well-placed trees that fit the names, as one relation: each operand has at least the level of its place.
use Rattle.std.proofs.Common.{◌≡◌, ℕ, ◌+◌, ◌≤◌, Bool, true, false, not, ◌&&◌, refl, ap}
use Rattle.std.proofs.lemmas.Bool.{le-leb, leb-true}
use Rattle.stk_base.specs.declared.span.Span.{Span}
use Rattle.stk_tree.specs.declared.node.Node.{Node}
use Rattle.stk_tree.specs.Syntax.{BaseTree, BaseFormTree, TypeNameTree, DimensionTree, DimensionTrees, ExprTree, ExprTrees, ExprFormTree}
use Rattle.stk_tree.specs.Syntax as s
use Rattle.stk_tree.specs.Nesting.{expression_nesting, expressions_nesting, expression_form_nesting, dimension_nesting, dimensions_nesting, type_name_nesting, base_form_nesting}
use Rattle.stk_tree.specs.Placed.{arguments_placed, base_form_placed, basic_words, binary_level, dimension_placed, dimensions_placed, expression_form_placed, expression_placed, form_level, is_unbraced, is_filled, step_level, type_name_placed}
use Rattle.stk_tree.specs.Unlaid.{unlaid_base_form, unlaid_dimension, unlaid_dimensions, unlaid_expression, unlaid_expression_form, unlaid_expressions, unlaid_type_name}
use Rattle.stk_tree.specs.Fits.{base_form_fits, dimension_fits, dimensions_fits, expression_fits, expression_form_fits, expressions_fits, type_name_fits}
use Rattle.stk_grammar.specs.Reading.{level}
use Rattle.stk_grammar.proofs.Operators.{both_true, true_both}

-- a base without braces
abbrev pub IsWellBase : (Span → Bool) → BaseFormTree → Type 0
IsWellBase named (s.words ws) = basic_words ws ≡ true
IsWellBase named (s.struct_ref tag) = Unit {0}
IsWellBase named (s.struct_def tag ms) = ⊥
IsWellBase named (s.enum_ref tag) = Unit {0}
IsWellBase named (s.enum_def tag es comma) = ⊥
IsWellBase named (s.named at) = named at ≡ true

abbrev mutual
  pub IsWell : (Span → Bool) → ExprTree → Type 0
  IsWell named (s.expression n f) = IsWellForm named f

  pub AreWell : (Span → Bool) → ExprTrees → Type 0
  AreWell named s.no_expressions = Unit {0}
  AreWell named (s.then_expression x xs) = (2 ≤ level x) × IsWell named x × AreWell named xs

  pub IsWellDimension : (Span → Bool) → DimensionTree → Type 0
  IsWellDimension named s.open_dimension = Unit {0}
  IsWellDimension named (s.sized e) = (3 ≤ level e) × IsWell named e

  pub AreWellDimensions : (Span → Bool) → DimensionTrees → Type 0
  AreWellDimensions named s.no_dimensions = Unit {0}
  AreWellDimensions named (s.then_dimension x xs) = IsWellDimension named x × AreWellDimensions named xs

  pub IsWellType : (Span → Bool) → TypeNameTree → Type 0
  IsWellType named (s.type_name n (s.base m b) count ds) = IsWellBase named b × AreWellDimensions named ds

  pub IsWellForm : (Span → Bool) → ExprFormTree → Type 0
  IsWellForm named (s.name at) = named at ≡ false
  IsWellForm named (s.number at) = Unit {0}
  IsWellForm named (s.character at) = Unit {0}
  IsWellForm named (s.text parts) = is_filled parts ≡ true
  IsWellForm named (s.paren e) = (1 ≤ level e) × IsWell named e
  IsWellForm named (s.index a b) = (16 ≤ level a) × IsWell named a × (1 ≤ level b) × IsWell named b
  IsWellForm named (s.call f args) = (16 ≤ level f) × IsWell named f × AreWell named args
  IsWellForm named (s.dot e at) = (16 ≤ level e) × IsWell named e
  IsWellForm named (s.arrow e at) = (16 ≤ level e) × IsWell named e
  IsWellForm named (s.step op e) = (step_level op ≤ level e) × IsWell named e
  IsWellForm named (s.unary op e) = (14 ≤ level e) × IsWell named e
  IsWellForm named (s.size_expression e) = (15 ≤ level e) × IsWell named e
  IsWellForm named (s.size_name y) = IsWellType named y
  IsWellForm named (s.cast y e) = IsWellType named y × (14 ≤ level e) × IsWell named e
  IsWellForm named (s.binary op a b) = (binary_level op ≤ level a) × IsWell named a × (binary_level op + 1 ≤ level b) × IsWell named b
  IsWellForm named (s.choice a b c) = (4 ≤ level a) × IsWell named a × (1 ≤ level b) × IsWell named b × (3 ≤ level c) × IsWell named c
  IsWellForm named (s.assign op a b) = (15 ≤ level a) × IsWell named a × (2 ≤ level b) × IsWell named b

-- ---- from the definitions, and to them

pub not_true : (b : Bool) → not b ≡ true → b ≡ false
not_true true e = absurd cc
not_true false e = refl

pub true_not : (b : Bool) → b ≡ false → not b ≡ true
true_not true e = absurd cc
true_not false e = refl

pub base_well : (named : Span → Bool) (n : Node) (b : BaseFormTree) → is_unbraced (s.base n b) ≡ true → base_form_placed b ≡ true → base_form_fits named b ≡ true → IsWellBase named b
base_well named n (s.words ws) unlaid p f = p
base_well named n (s.struct_ref tag) unlaid p f = tt
base_well named n (s.struct_def tag ms) unlaid p f = absurd cc
base_well named n (s.enum_ref tag) unlaid p f = tt
base_well named n (s.enum_def tag es comma) unlaid p f = absurd cc
base_well named n (s.named at) unlaid p f = f

mutual
  pub well_of : (named : Span → Bool) (least : ℕ) (t : ExprTree) → expression_placed least t ≡ true → expression_fits named t ≡ true → (least ≤ level t) × IsWell named t
  well_of named least (s.expression n f) p q = let a = both_true _ _ p in (leb-true _ _ a.0, form_well named f a.1 q)

  all_well : (named : Span → Bool) (es : ExprTrees) → arguments_placed es ≡ true → expressions_fits named es ≡ true → AreWell named es
  all_well named s.no_expressions p q = tt
  all_well named (s.then_expression x xs) p q =
      let a = both_true _ _ p in
      let b = both_true _ _ q in
      let w = well_of named 2 x a.0 b.0 in
      (w.0, w.1, all_well named xs a.1 b.1)

  dimension_well : (named : Span → Bool) (d : DimensionTree) → dimension_placed d ≡ true → dimension_fits named d ≡ true → IsWellDimension named d
  dimension_well named s.open_dimension p q = tt
  dimension_well named (s.sized e) p q = well_of named 3 e p q

  pub dimensions_well : (named : Span → Bool) (ds : DimensionTrees) → dimensions_placed ds ≡ true → dimensions_fits named ds ≡ true → AreWellDimensions named ds
  dimensions_well named s.no_dimensions p q = tt
  dimensions_well named (s.then_dimension x xs) p q =
      let a = both_true _ _ p in
      let b = both_true _ _ q in
      (dimension_well named x a.0 b.0, dimensions_well named xs a.1 b.1)

  type_well : (named : Span → Bool) (y : TypeNameTree) → type_name_placed y ≡ true → type_name_fits named y ≡ true → IsWellType named y
  type_well named (s.type_name n (s.base m b) count ds) p q =
      let a = both_true _ _ p in
      let c = both_true _ _ a.0 in
      let d = both_true _ _ q in
      (base_well named m b c.0 c.1 d.0, dimensions_well named ds a.1 d.1)

  form_well : (named : Span → Bool) (f : ExprFormTree) → expression_form_placed f ≡ true → expression_form_fits named f ≡ true → IsWellForm named f
  form_well named (s.name at) p q = not_true _ q
  form_well named (s.number at) p q = tt
  form_well named (s.character at) p q = tt
  form_well named (s.text parts) p q = p
  form_well named (s.paren e) p q = well_of named 1 e p q
  form_well named (s.index a b) p q =
      let c = both_true _ _ p in
      let d = both_true _ _ q in
      let x = well_of named 16 a c.0 d.0 in
      let y = well_of named 1 b c.1 d.1 in
      (x.0, x.1, y.0, y.1)
  form_well named (s.call f args) p q =
      let c = both_true _ _ p in
      let d = both_true _ _ q in
      let x = well_of named 16 f c.0 d.0 in
      (x.0, x.1, all_well named args c.1 d.1)
  form_well named (s.dot e at) p q = well_of named 16 e p q
  form_well named (s.arrow e at) p q = well_of named 16 e p q
  form_well named (s.step op e) p q = well_of named (step_level op) e p q
  form_well named (s.unary op e) p q = well_of named 14 e p q
  form_well named (s.size_expression e) p q = well_of named 15 e p q
  form_well named (s.size_name y) p q = type_well named y p q
  form_well named (s.cast y e) p q =
      let c = both_true _ _ p in
      let d = both_true _ _ q in
      let x = well_of named 14 e c.1 d.1 in
      (type_well named y c.0 d.0, x.0, x.1)
  form_well named (s.binary op a b) p q =
      let c = both_true _ _ p in
      let d = both_true _ _ q in
      let x = well_of named (binary_level op) a c.0 d.0 in
      let y = well_of named (binary_level op + 1) b c.1 d.1 in
      (x.0, x.1, y.0, y.1)
  form_well named (s.choice a b c) p q =
      let u = both_true _ _ p in
      let v = both_true _ _ q in
      let k = both_true _ _ u.0 in
      let l = both_true _ _ v.0 in
      let x = well_of named 4 a k.0 l.0 in
      let y = well_of named 1 b k.1 l.1 in
      let z = well_of named 3 c u.1 v.1 in
      (x.0, x.1, y.0, y.1, z.0, z.1)
  form_well named (s.assign op a b) p q =
      let c = both_true _ _ p in
      let d = both_true _ _ q in
      let x = well_of named 15 a c.0 d.0 in
      let y = well_of named 2 b c.1 d.1 in
      (x.0, x.1, y.0, y.1)

-- both tests of a tree
abbrev Passes : Bool → Bool → Type 0
Passes p q = (p ≡ true) × (q ≡ true)

both_pass : (p q p' q' : Bool) → Passes p q → Passes p' q' → Passes (p && p') (q && q')
both_pass p q p' q' a b = (true_both p p' a.0 b.0, true_both q q' a.1 b.1)

pub base_passes : (named : Span → Bool) (n : Node) (b : BaseFormTree) → IsWellBase named b → (is_unbraced (s.base n b) ≡ true) × (base_form_placed b ≡ true) × (base_form_fits named b ≡ true)
base_passes named n (s.words ws) w = (refl, w, refl)
base_passes named n (s.struct_ref tag) w = (refl, refl, refl)
base_passes named n (s.struct_def tag ms) w = absurd w
base_passes named n (s.enum_ref tag) w = (refl, refl, refl)
base_passes named n (s.enum_def tag es comma) w = absurd w
base_passes named n (s.named at) w = (refl, refl, w)

mutual
  pub passes_of : (named : Span → Bool) (least : ℕ) (t : ExprTree) → least ≤ level t → IsWell named t → (expression_placed least t ≡ true) × (expression_fits named t ≡ true)
  passes_of named least (s.expression n f) at w = let a = form_passes named f w in (true_both _ _ (le-leb _ _ at) a.0, a.1)

  all_pass : (named : Span → Bool) (es : ExprTrees) → AreWell named es → Passes (arguments_placed es) (expressions_fits named es)
  all_pass named s.no_expressions w = (refl, refl)
  all_pass named (s.then_expression x xs) w = both_pass _ _ _ _ (passes_of named 2 x w.0 w.1) (all_pass named xs w.2)

  dimension_passes : (named : Span → Bool) (d : DimensionTree) → IsWellDimension named d → Passes (dimension_placed d) (dimension_fits named d)
  dimension_passes named s.open_dimension w = (refl, refl)
  dimension_passes named (s.sized e) w = passes_of named 3 e w.0 w.1

  pub dimensions_pass : (named : Span → Bool) (ds : DimensionTrees) → AreWellDimensions named ds → Passes (dimensions_placed ds) (dimensions_fits named ds)
  dimensions_pass named s.no_dimensions w = (refl, refl)
  dimensions_pass named (s.then_dimension x xs) w = both_pass _ _ _ _ (dimension_passes named x w.0) (dimensions_pass named xs w.1)

  type_passes : (named : Span → Bool) (y : TypeNameTree) → IsWellType named y → Passes (type_name_placed y) (type_name_fits named y)
  type_passes named (s.type_name n (s.base m b) count ds) w =
      let p = base_passes named m b w.0 in
      let q = dimensions_pass named ds w.1 in
      (true_both _ _ (true_both _ _ p.0 p.1) q.0, true_both _ _ p.2 q.1)

  form_passes : (named : Span → Bool) (f : ExprFormTree) → IsWellForm named f → Passes (expression_form_placed f) (expression_form_fits named f)
  form_passes named (s.name at) w = (refl, true_not _ w)
  form_passes named (s.number at) w = (refl, refl)
  form_passes named (s.character at) w = (refl, refl)
  form_passes named (s.text parts) w = (w, refl)
  form_passes named (s.paren e) w = passes_of named 1 e w.0 w.1
  form_passes named (s.index a b) w = both_pass _ _ _ _ (passes_of named 16 a w.0 w.1) (passes_of named 1 b w.2 w.3)
  form_passes named (s.call f args) w = both_pass _ _ _ _ (passes_of named 16 f w.0 w.1) (all_pass named args w.2)
  form_passes named (s.dot e at) w = passes_of named 16 e w.0 w.1
  form_passes named (s.arrow e at) w = passes_of named 16 e w.0 w.1
  form_passes named (s.step op e) w = passes_of named (step_level op) e w.0 w.1
  form_passes named (s.unary op e) w = passes_of named 14 e w.0 w.1
  form_passes named (s.size_expression e) w = passes_of named 15 e w.0 w.1
  form_passes named (s.size_name y) w = type_passes named y w
  form_passes named (s.cast y e) w = both_pass _ _ _ _ (type_passes named y w.0) (passes_of named 14 e w.1 w.2)
  form_passes named (s.binary op a b) w = both_pass _ _ _ _ (passes_of named (binary_level op) a w.0 w.1) (passes_of named (binary_level op + 1) b w.2 w.3)
  form_passes named (s.choice a b c) w = both_pass _ _ _ _ (both_pass _ _ _ _ (passes_of named 4 a w.0 w.1) (passes_of named 1 b w.2 w.3)) (passes_of named 3 c w.4 w.5)
  form_passes named (s.assign op a b) w = both_pass _ _ _ _ (passes_of named 15 a w.0 w.1) (passes_of named 2 b w.2 w.3)

-- ---- trees without the records of their nodes

form_level-unlaid : (f : ExprFormTree) → form_level (unlaid_expression_form f) ≡ form_level f
form_level-unlaid (s.name at) = refl
form_level-unlaid (s.number at) = refl
form_level-unlaid (s.character at) = refl
form_level-unlaid (s.text parts) = refl
form_level-unlaid (s.paren e) = refl
form_level-unlaid (s.index a b) = refl
form_level-unlaid (s.call f args) = refl
form_level-unlaid (s.dot e at) = refl
form_level-unlaid (s.arrow e at) = refl
form_level-unlaid (s.step op e) = refl
form_level-unlaid (s.unary op e) = refl
form_level-unlaid (s.size_expression e) = refl
form_level-unlaid (s.size_name y) = refl
form_level-unlaid (s.cast y e) = refl
form_level-unlaid (s.binary op a b) = refl
form_level-unlaid (s.choice a b c) = refl
form_level-unlaid (s.assign op a b) = refl

pub level-unlaid : (t : ExprTree) → level (unlaid_expression t) ≡ level t
level-unlaid (s.expression n f) = form_level-unlaid f

base_nesting-unlaid : (named : Span → Bool) (b : BaseFormTree) → IsWellBase named b → base_form_nesting (unlaid_base_form b) ≡ base_form_nesting b
base_nesting-unlaid named (s.words ws) w = refl
base_nesting-unlaid named (s.struct_ref tag) w = refl
base_nesting-unlaid named (s.struct_def tag ms) w = absurd w
base_nesting-unlaid named (s.enum_ref tag) w = refl
base_nesting-unlaid named (s.enum_def tag es comma) w = absurd w
base_nesting-unlaid named (s.named at) w = refl

mutual
  pub nesting-unlaid : (named : Span → Bool) (t : ExprTree) → IsWell named t → expression_nesting (unlaid_expression t) ≡ expression_nesting t
  nesting-unlaid named (s.expression n f) w = ap (λ h. h + 1) (form_nesting-unlaid named f w)

  nestings-unlaid : (named : Span → Bool) (es : ExprTrees) → AreWell named es → expressions_nesting (unlaid_expressions es) ≡ expressions_nesting es
  nestings-unlaid named s.no_expressions w = refl
  nestings-unlaid named (s.then_expression x xs) w = rw (nesting-unlaid named x w.1, nestings-unlaid named xs w.2) refl

  dimension_nesting-unlaid : (named : Span → Bool) (d : DimensionTree) → IsWellDimension named d → dimension_nesting (unlaid_dimension d) ≡ dimension_nesting d
  dimension_nesting-unlaid named s.open_dimension w = refl
  dimension_nesting-unlaid named (s.sized e) w = nesting-unlaid named e w.1

  dimensions_nesting-unlaid : (named : Span → Bool) (ds : DimensionTrees) → AreWellDimensions named ds → dimensions_nesting (unlaid_dimensions ds) ≡ dimensions_nesting ds
  dimensions_nesting-unlaid named s.no_dimensions w = refl
  dimensions_nesting-unlaid named (s.then_dimension x xs) w = rw (dimension_nesting-unlaid named x w.0, dimensions_nesting-unlaid named xs w.1) refl

  type_nesting-unlaid : (named : Span → Bool) (y : TypeNameTree) → IsWellType named y → type_name_nesting (unlaid_type_name y) ≡ type_name_nesting y
  type_nesting-unlaid named (s.type_name n (s.base m b) count ds) w = rw (base_nesting-unlaid named b w.0, dimensions_nesting-unlaid named ds w.1) refl

  form_nesting-unlaid : (named : Span → Bool) (f : ExprFormTree) → IsWellForm named f → expression_form_nesting (unlaid_expression_form f) ≡ expression_form_nesting f
  form_nesting-unlaid named (s.name at) w = refl
  form_nesting-unlaid named (s.number at) w = refl
  form_nesting-unlaid named (s.character at) w = refl
  form_nesting-unlaid named (s.text parts) w = refl
  form_nesting-unlaid named (s.paren e) w = nesting-unlaid named e w.1
  form_nesting-unlaid named (s.index a b) w = rw (nesting-unlaid named a w.1, nesting-unlaid named b w.3) refl
  form_nesting-unlaid named (s.call f args) w = rw (nesting-unlaid named f w.1, nestings-unlaid named args w.2) refl
  form_nesting-unlaid named (s.dot e at) w = nesting-unlaid named e w.1
  form_nesting-unlaid named (s.arrow e at) w = nesting-unlaid named e w.1
  form_nesting-unlaid named (s.step op e) w = nesting-unlaid named e w.1
  form_nesting-unlaid named (s.unary op e) w = nesting-unlaid named e w.1
  form_nesting-unlaid named (s.size_expression e) w = nesting-unlaid named e w.1
  form_nesting-unlaid named (s.size_name y) w = type_nesting-unlaid named y w
  form_nesting-unlaid named (s.cast y e) w = rw (type_nesting-unlaid named y w.0, nesting-unlaid named e w.2) refl
  form_nesting-unlaid named (s.binary op a b) w = rw (nesting-unlaid named a w.1, nesting-unlaid named b w.3) refl
  form_nesting-unlaid named (s.choice a b c) w = rw (nesting-unlaid named a w.1, nesting-unlaid named b w.3, nesting-unlaid named c w.5) refl
  form_nesting-unlaid named (s.assign op a b) w = rw (nesting-unlaid named a w.1, nesting-unlaid named b w.3) refl
