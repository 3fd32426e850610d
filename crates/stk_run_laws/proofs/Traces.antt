-- The entries of a run of a part: each is one that a visit of the part may make, and none is made twice.
use Rattle.std.proofs.Common.{◌≡◌, ℕ, ◌⊎◌, Bool, true, false, List, [], ◌∷◌, ◌++◌, Option, Some, None, refl, sym, ap, subst, inl, inr}
use Rattle.stk_tree.specs.Syntax.{ExprTree, ExprFormTree}
use Rattle.stk_tree.specs.Syntax as s
use Rattle.stk_numbers.specs.declared.conditions.Condition.{Condition}
use Rattle.stk_numbers.specs.declared.conditions.Kinds.{Kinds}
use Rattle.stk_meaning.specs.declared.entry.Entry.{Entry}
use Rattle.stk_meaning.specs.declared.entry.Entry.TheVariants.{Ub, Enter, Seen}
use Rattle.stk_meaning.specs.Typings.{Typing}
use Rattle.stk_meaning.specs.Operations.{arithmetic, shifting, comparing, BinarySort, operates, joins, or_else, and_also, sort_of, Test}
use Rattle.stk_meaning.specs.Conditions.{conditions_of}
use Rattle.stk_meaning.specs.Replacements.{Replaced, replacement}
use Rattle.stk_meaning.specs.Visits.{Visit, at_expression, at_declarator, at_statement, at_section, Visits, no_visit, one_visit, both_visits, scope, unevaluated}
use Rattle.stk_meaning.specs.Lists.{visit_conditions}
use Rattle.stk_run_laws.specs.Visits.{visit_node, IsIn}
use Rattle.stk_run_laws.proofs.Nodes.{Stands, Apart, Distinct, in_either}

-- ---- what an entry speaks of

-- the node of an entry
abbrev pub entry_node : Entry → ℕ
entry_node (Ub c) = c.node
entry_node (Enter k) = k
entry_node (Seen k b o) = k

-- two entries are of one event: one condition, one node that is entered, or one node that is seen
abbrev pub SameEvent : Entry → Entry → Type 0
SameEvent (Ub c) (Ub d) = c ≡ d
SameEvent (Ub c) (Enter j) = ⊥
SameEvent (Ub c) (Seen j b o) = ⊥
SameEvent (Enter k) (Ub d) = ⊥
SameEvent (Enter k) (Enter j) = k ≡ j
SameEvent (Enter k) (Seen j b o) = ⊥
SameEvent (Seen k b o) (Ub d) = ⊥
SameEvent (Seen k b o) (Enter j) = ⊥
SameEvent (Seen k b o) (Seen j c p) = k ≡ j

pub same_node : (d e : Entry) → SameEvent d e → entry_node d ≡ entry_node e
same_node (Ub c) (Ub d) h = ap (λ (z : Condition). z.node) h
same_node (Ub c) (Enter j) h = absurd h
same_node (Ub c) (Seen j b o) h = absurd h
same_node (Enter k) (Ub d) h = absurd h
same_node (Enter k) (Enter j) h = h
same_node (Enter k) (Seen j b o) h = absurd h
same_node (Seen k b o) (Ub d) h = absurd h
same_node (Seen k b o) (Enter j) h = absurd h
same_node (Seen k b o) (Seen j c p) h = h

-- an event is of no entry of a list
pub record IsNew (e : Entry) (t : List Entry) : Type 0 where
  pub by : (d : Entry) → IsIn d t → SameEvent e d → ⊥

-- no two entries are of one event
abbrev pub AreOnce : List Entry → Type 0
AreOnce [] = Unit {0}
AreOnce (e ∷ t) = IsNew e t × AreOnce t

pub once_append : (a b : List Entry) → AreOnce a → AreOnce b → ((d e : Entry) → IsIn d a → IsIn e b → SameEvent d e → ⊥) → AreOnce (a ++ b)
once_append [] b p q h = q
once_append (x ∷ a) b p q h = (
  record { by = λ d i s. elim (in_either d a b i) [ inl j ↦ p.0.by d j s | inr j ↦ h x d (inl refl) j s ] },
  once_append a b p.1 q (λ d e i j s. h d e (inr i) j s),
)

-- ---- what a visit may make

-- whether an expression is seen: a comparison wherever it is evaluated, and else where it is a controlling expression;
-- parentheses never are
abbrev pub sort_sees : Bool → BinarySort → Bool
sort_sees test (operates (arithmetic op)) = test
sort_sees test (operates (shifting op)) = test
sort_sees test (operates (comparing op)) = true
sort_sees test joins = test
sort_sees test or_else = test
sort_sees test and_also = test

abbrev pub form_sees : Bool → ExprFormTree → Bool
form_sees test (s.name at) = test
form_sees test (s.number at) = test
form_sees test (s.character at) = test
form_sees test (s.text parts) = test
form_sees test (s.paren e) = false
form_sees test (s.index a b) = test
form_sees test (s.call e es) = test
form_sees test (s.dot e at) = test
form_sees test (s.arrow e at) = test
form_sees test (s.step op e) = test
form_sees test (s.unary op e) = test
form_sees test (s.size_expression e) = test
form_sees test (s.size_name t) = test
form_sees test (s.cast t e) = test
form_sees test (s.binary op a b) = sort_sees test (sort_of op)
form_sees test (s.choice a b c) = test
form_sees test (s.assign op a b) = test

-- the replacement of a comparison
abbrev pub sort_replacement : Typing → BinarySort → ExprTree → ExprTree → Option Replaced
sort_replacement ty (operates (arithmetic op)) a b = None
sort_replacement ty (operates (shifting op)) a b = None
sort_replacement ty (operates (comparing op)) a b = replacement ty a b
sort_replacement ty joins a b = None
sort_replacement ty or_else a b = None
sort_replacement ty and_also a b = None

abbrev pub form_replacement : Typing → ExprFormTree → Option Replaced
form_replacement ty (s.name at) = None
form_replacement ty (s.number at) = None
form_replacement ty (s.character at) = None
form_replacement ty (s.text parts) = None
form_replacement ty (s.paren e) = None
form_replacement ty (s.index a b) = None
form_replacement ty (s.call e es) = None
form_replacement ty (s.dot e at) = None
form_replacement ty (s.arrow e at) = None
form_replacement ty (s.step op e) = None
form_replacement ty (s.unary op e) = None
form_replacement ty (s.size_expression e) = None
form_replacement ty (s.size_name t) = None
form_replacement ty (s.cast t e) = None
form_replacement ty (s.binary op a b) = sort_replacement ty (sort_of op) a b
form_replacement ty (s.choice a b c) = None
form_replacement ty (s.assign op a b) = None

-- a truth of a replacement is seen where there is a replacement
abbrev pub OtherSeen : Option Replaced → Option Bool → Type 0
OtherSeen found None = Unit {0}
OtherSeen None (Some other) = ⊥
OtherSeen (Some found) (Some other) = Unit {0}

abbrev pub visit_enters : Visit → Bool
visit_enters (at_expression k role f) = role.is_arm
visit_enters (at_declarator k static at init) = false
visit_enters (at_statement k arm f) = arm
visit_enters (at_section k ls) = true

abbrev pub visit_sees : Visit → Bool
visit_sees (at_expression k role f) = form_sees role.is_test f
visit_sees (at_declarator k static at init) = false
visit_sees (at_statement k arm f) = false
visit_sees (at_section k ls) = false

abbrev pub visit_replacement : Typing → Visit → Option Replaced
visit_replacement ty (at_expression k role f) = form_replacement ty f
visit_replacement ty (at_declarator k static at init) = None
visit_replacement ty (at_statement k arm f) = None
visit_replacement ty (at_section k ls) = None

module _ (ty : Typing) (without : Kinds) where
  abbrev pub VisitSays : Visit → Entry → Type 0
  VisitSays x (Ub c) = IsIn c (visit_conditions ty without x)
  VisitSays x (Enter k) = (k ≡ visit_node x) × (visit_enters x ≡ true)
  VisitSays x (Seen k b o) = (k ≡ visit_node x) × (visit_sees x ≡ true) × OtherSeen (visit_replacement ty x) o

  -- some visit of what is visited may make the entry
  abbrev pub Says : Visits → Entry → Type 0
  Says no_visit e = ⊥
  Says (one_visit x) e = VisitSays x e
  Says (both_visits a b) e = Says a e ⊎ Says b e
  Says (scope ks a) e = Says a e
  Says (unevaluated a) e = ⊥

  condition_node : (k : ℕ) (ts : List Test) (c : Condition) → IsIn c (conditions_of k ts) → c.node ≡ k
  condition_node k [] c h = absurd h
  condition_node k (t ∷ ts) c (inl h) = ap (λ (z : Condition). z.node) h
  condition_node k (t ∷ ts) c (inr h) = condition_node k ts c h

  visit_stands : (x : Visit) (e : Entry) → VisitSays x e → entry_node e ≡ visit_node x
  visit_stands (at_expression k role f) (Ub c) h = condition_node k _ c h
  visit_stands (at_declarator k static at init) (Ub c) h = absurd h
  visit_stands (at_statement k arm f) (Ub c) h = absurd h
  visit_stands (at_section k ls) (Ub c) h = absurd h
  visit_stands x (Enter k) h = h.0
  visit_stands x (Seen k b o) h = h.0

  pub says_stands : (v : Visits) (e : Entry) → Says v e → Stands (entry_node e) v
  says_stands no_visit e h = absurd h
  says_stands (one_visit x) e h = visit_stands x e h
  says_stands (both_visits a b) e (inl h) = inl (says_stands a e h)
  says_stands (both_visits a b) e (inr h) = inr (says_stands b e h)
  says_stands (scope ks a) e h = says_stands a e h
  says_stands (unevaluated a) e h = absurd h

  -- entries of parts that have no node in common are of different events
  pub says_apart : (v w : Visits) (d e : Entry) → Apart v w → Says v d → Says w e → SameEvent d e → ⊥
  says_apart v w d e h p q same = h.by (entry_node d) (says_stands v d p) (subst (λ k. Stands k w) (sym (same_node d e same)) (says_stands w e q))

  -- the entries of a part: One is what has to hold for them to be of different events
  pub record Traced (One : Type 0) (v : Visits) (t : List Entry) : Type 0 where
    pub says : (e : Entry) → IsIn e t → Says v e
    pub once : One → Distinct v → AreOnce t

  module _ (One : Type 0) where
    pub traced_nil : (v : Visits) → Traced One v []
    traced_nil v = record { says = λ e h. absurd h; once = λ one d. tt }

    pub traced_both : (v w : Visits) (t u : List Entry) → Traced One v t → Traced One w u → Traced One (both_visits v w) (t ++ u)
    traced_both v w t u a b = record {
      says = λ e h. elim (in_either e t u h) [ inl i ↦ inl (a.says e i) | inr i ↦ inr (b.says e i) ];
      once = λ one d. once_append t u (a.once one d.0) (b.once one d.1) (λ x y i j s. says_apart v w x y d.2 (a.says x i) (b.says y j) s);
    }

    -- the second part is evaluated before the first
    pub traced_swapped : (v w : Visits) (t u : List Entry) → Traced One v t → Traced One w u → Traced One (both_visits w v) (t ++ u)
    traced_swapped v w t u a b = record {
      says = λ e h. elim (in_either e t u h) [ inl i ↦ inr (a.says e i) | inr i ↦ inl (b.says e i) ];
      once = λ one d. once_append t u (a.once one d.1) (b.once one d.0) (λ x y i j s. says_apart v w x y (record { by = λ k p q. d.2.by k q p }) (a.says x i) (b.says y j) s);
    }

    -- parts that are visited otherwise
    pub traced_as : (v w : Visits) (t : List Entry) → ((e : Entry) → Says v e → Says w e) → (Distinct w → Distinct v) → Traced One v t → Traced One w t
    traced_as v w t p q a = record { says = λ e h. p e (a.says e h); once = λ one d. a.once one (q d) }

    pub traced_left : (v w : Visits) (t : List Entry) → Traced One v t → Traced One (both_visits v w) t
    traced_left v w t a = traced_as v (both_visits v w) t (λ e h. inl h) (λ d. d.0) a

    pub traced_right : (v w : Visits) (t : List Entry) → Traced One w t → Traced One (both_visits v w) t
    traced_right v w t a = traced_as w (both_visits v w) t (λ e h. inr h) (λ d. d.1) a
