-- The sections of a `switch` and their labels (C11 6.8.1, 6.8.4.2).
use Rattle.std.specs.Prelude.{Bool, true, false, ◌||◌, if◌then◌else◌, List, [], ◌∷◌, Option, Some, None, ℤ}
use Rattle.std.specs.Ordering.{int_eq}
use Rattle.stk_ctype.specs.declared.kind.IntKind.{IntKind}
use Rattle.stk_tree.specs.Syntax.{LabelTree, LabelTrees}
use Rattle.stk_tree.specs.Syntax as s
use Rattle.stk_numbers.specs.Kinds.{wrap, promote}
use Rattle.stk_type_rules.specs.declared.facts.Constancy.{Constancy}
use Rattle.stk_type_rules.specs.declared.facts.Constancy.TheVariants.{Varies, Violates, Number}
use Rattle.stk_type_rules.specs.Facts.{Fact, Ruled, Breaks, Fits, plain}
use Rattle.stk_type_rules.specs.Outcome.{Outcome, Good, Refused, and_then}
use Rattle.stk_typing.specs.Scope.{Scope}
use Rattle.stk_typing.specs.Typing.{expression_typed}

-- the labels so far: the numbers of the cases, whether there is a `default`, whether one stood twice, and whether a
-- case had no number
pub record Labelled : Type 0 where
  pub cases : List ℤ
  pub has_default : Bool
  pub twice : Bool
  pub improper : Bool

-- no label
abbrev pub unlabelled : Labelled
unlabelled = record { cases = []; has_default = false; twice = false; improper = false }

-- whether a number is one of these
abbrev pub has_case : ℤ → List ℤ → Bool
has_case z [] = false
has_case z (y ∷ ys) = int_eq z y || has_case z ys

-- one more case with this number
abbrev pub with_number_of : ℤ → Labelled → Labelled
with_number_of z l = record { cases = z ∷ l.cases; has_default = l.has_default; twice = l.twice || has_case z l.cases; improper = l.improper }

-- the same, compared in the promoted kind of the controlling expression; where that is no integer nothing is compared
abbrev pub with_compared : Option IntKind → Labelled → ℤ → Labelled
with_compared None l z = l
with_compared (Some k) l z = with_number_of (wrap (promote k) z) l

-- one more case with this constant expression
abbrev pub with_case : Option IntKind → Labelled → Constancy → Labelled
with_case kind l Varies = record { cases = l.cases; has_default = l.has_default; twice = l.twice; improper = true }
with_case kind l Violates = record { cases = l.cases; has_default = l.has_default; twice = l.twice; improper = true }
with_case kind l (Number z) = with_compared kind l z

abbrev pub with_default : Labelled → Labelled
with_default l = record { cases = l.cases; has_default = true; twice = l.twice || l.has_default; improper = l.improper }

-- the number that a constant expression has
abbrev pub number_in : Constancy → Option ℤ
number_in Varies = None
number_in Violates = None
number_in (Number z) = Some z

-- what is known of the expression of a case: it has its number by itself
abbrev pub with_number : Fact → Fact
with_number x = record { role = x.role; ty = x.ty; lvalue = x.lvalue; means = x.means; constancy = x.constancy; number = number_in x.constancy; is_null = x.is_null }

-- the same of the last one of some facts, which is the expression's own
abbrev pub last_numbered : List Fact → List Fact
last_numbered [] = []
last_numbered (x ∷ []) = with_number x ∷ []
last_numbered (x ∷ y ∷ ys) = x ∷ last_numbered (y ∷ ys)

abbrev pub numbered : Outcome Fact → Outcome Fact
numbered (Good x t) = Good x (last_numbered t)
numbered (Refused n r) = Refused n r

-- a label
abbrev pub label_typed : Scope → Option IntKind → Labelled → LabelTree → Outcome Labelled
label_typed scope kind l s.default_label = Good (with_default l) []
label_typed scope kind l (s.case_label e) = and_then (numbered (expression_typed scope e)) (λ x. Good (with_case kind l x.constancy) [])

abbrev pub labels_typed : Scope → Option IntKind → Labelled → LabelTrees → Outcome Labelled
labels_typed scope kind l s.no_labels = Good l []
labels_typed scope kind l (s.then_label x xs) = and_then (label_typed scope kind l x) (λ m. labels_typed scope kind m xs)

-- the labels before a section, with nothing said yet of its own
abbrev pub carried : Labelled → Labelled
carried l = record { cases = l.cases; has_default = l.has_default; twice = false; improper = false }

-- a section: each of its labels is constant, and none stood before
abbrev pub section_rule : Labelled → Ruled
section_rule l = if l.improper then Breaks 5 else (if l.twice then Breaks 12 else Fits plain)
