-- How the code shows what typing a statement gives.
use Rattle.std.specs.Prelude.{ℕ, ◌≡◌, ◌<◌, Bool, List, ◌++◌, length, Option, Some, None, ℤ}
use Rattle.std.specs.BTreeSet.{BTreeSet, contains_by}
use Rattle.std.specs.Ordering.{int_cmp}
use Rattle.stk_ctype.specs.declared.ctype.CType.{CType}
use Rattle.stk_ctype.specs.Types.{type_of}
use Rattle.stk_type_rules.specs.Facts.{Fact, fact_at}
use Rattle.stk_typing.specs.Locals.{Local}
use Rattle.stk_statements.specs.declared.labels.Labels.{Labels}
use Rattle.stk_function_types.specs.Sections.{Labelled, has_case}
use Rattle.stk_function_types.specs.Statements.{Started}
use Rattle.stk_function_types.specs.Functions.{Headed}

-- whatever is known of a statement
abbrev pub AnyFact : Fact → Unit {0} → Type 0
AnyFact x v = Unit {0}

-- whatever is known of labels
abbrev pub AnyLabels : Labelled → Unit {0} → Type 0
AnyLabels x v = Unit {0}

-- nothing is known
abbrev pub Nothing : Unit {0} → Unit {0} → Type 0
Nothing x v = Unit {0}

-- the locals in force are those before and these
abbrev pub AreLocals : List Local → List Local → List Local → Unit {0} → Type 0
AreLocals before now ls v = now ≡ before ++ ls

-- the facts at a place that may be missing
abbrev pub known_at : List Fact → Option ℕ → Option Fact
known_at facts None = None
known_at facts (Some i) = Some (fact_at facts i)

abbrev pub IsBelow : ℕ → Option ℕ → Type 0
IsBelow n None = Unit {0}
IsBelow n (Some i) = i < n

-- a fact that may be missing stands at a place
pub record IsKnown (facts : List Fact) (x : Option Fact) (i : Option ℕ) : Type 0 where
  pub below : IsBelow (length facts) i
  pub is : known_at facts i ≡ x

-- the first part of a `for`: its locals are in force, and its expression stands at a place
pub record IsStarted (before now : List Local) (facts : List Fact) (x : Started) (i : Option ℕ) : Type 0 where
  pub locals : now ≡ before ++ x.locals
  pub value : IsKnown facts x.value i

-- the head of a function: its result, and its parameters are in force
pub record IsHeaded (before now : List Local) (h : Headed) (t : CType) : Type 0 where
  pub returns : type_of t ≡ h.returns
  pub locals : now ≡ before ++ h.locals

-- a set of numbers has this one
abbrev pub is_in : BTreeSet ℤ → ℤ → Bool
is_in cases z = contains_by (λ y. int_cmp z y) cases

-- labels
pub record IsLabelled (l : Labelled) (r : Labels) : Type 0 where
  pub cases : (z : ℤ) → is_in r.cases z ≡ has_case z l.cases
  pub has_default : r.has_default ≡ l.has_default
  pub twice : r.twice ≡ l.twice
  pub improper : r.improper ≡ l.improper
