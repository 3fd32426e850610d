-- Why functions are skipped, and what a function that isn't has.
use Rattle.std.proofs.Common.{◌≡◌, ℕ, ◌≤◌, Bool, true, false, not, List, Option, Some, None, Ok, Err, refl, sym, ap, subst, ◌∙◌}
use Rattle.std.specs.Prelude.{nat_le, nat_lt, if◌then◌else◌}
use Rattle.std.proofs.lemmas.Bool.{ltb-false, leb-true}
use Rattle.stk_ctype.specs.declared.symbol.NameEntry.{NameEntry}
use Rattle.stk_tree.specs.Syntax.{UnitTree, FunctionTree}
use Rattle.stk_tree.specs.Nodes.{unit_nodes}
use Rattle.stk_tree.specs.View.{view_unit}
use Rattle.stk_numbers.specs.declared.conditions.Kinds.{Kinds}
use Rattle.stk_type_rules.specs.Facts.{Fact}
use Rattle.stk_type_rules.specs.Outcome.{Outcome, Good, Refused}
use Rattle.stk_meaning.specs.Typings.{Typing}
use Rattle.stk_meaning.specs.Keys.{body_of, keys_of, setting_of}
use Rattle.stk_meaning.specs.Weights.{weight, most_weight}
use Rattle.stk_run_laws.specs.Visits.{IsNumbered}
use Rattle.stk_run_laws.proofs.Numbered.{what_is_laid_out_is_numbered}
use Rattle.stk_function_types.specs.Units.{TypedUnit, unit_typed}
use Rattle.stk_function_types.specs.Nodes.{typing_in}
use Rattle.stk_function_env.specs.Settings.{FunctionPlaces, setting_in}
use Rattle.stk_eval_expr.specs.Loops.{EachLoop}
use Rattle.stk_path_runs.specs.Rows.{Tables, Knows}
use Rattle.stk_path_runs.specs.FunctionTables.{AreTablesOf}
use Rattle.stk_weights.specs.Units.{IsSettingOf, IsSettingOfFunction, IsWhole}
use Rattle.stk_typed.specs.Answering.{Answers, has_many, most_nodes}
use Rattle.stk_records.specs.declared.line.Cause.{Cause}
use Rattle.stk_records.specs.declared.line.Cause.TheVariants.{Nodes}
use Rattle.stk_units.specs.Functions.{unit_typing, IsDefinition, IsLaidOut}
use Rattle.stk_units.specs.Causes.{refused_cause, weight_cause, measured_cause, first_cause, body_cause}

-- ---- settings

-- a setting of a function's own types
pub of_function : (f : FunctionTree) (p : FunctionPlaces) (t : TypedUnit) (without : Kinds) → setting_in p ≡ setting_of (typing_in t) without f → p.keys ≡ keys_of (typing_in t) without f → p.types ≡ t → IsSettingOfFunction f p
of_function f p t without e k same =
    let kinds : without ≡ p.without = sym (ap (λ g. g.without) e) in
    record {
      setting = e ∙ (λ i. setting_of (typing_in (sym same i)) (kinds i) f);
      keys = k ∙ (λ i. keys_of (typing_in (sym same i)) (kinds i) f);
    }

-- tables that are made of a function's setting are the function's
pub tables_of : (f : FunctionTree) (t : Tables) (p : FunctionPlaces) → t.places ≡ p → IsSettingOfFunction f p → EachLoop (Knows (setting_in p) p.keys t.rows) (body_of f) → AreTablesOf f t
tables_of f t p e h l = record {
  setting = subst (λ x. setting_in x ≡ setting_of (typing_in x.types) x.without f) (sym e) h.setting;
  keys = subst (λ x. x.keys ≡ keys_of (typing_in x.types) x.without f) (sym e) h.keys;
  loops = subst (λ x. EachLoop (Knows (setting_in x) x.keys t.rows) (body_of f)) (sym e) l;
}

-- a unit that defines the function has its setting
pub whole : (f : FunctionTree) (p : FunctionPlaces) → IsDefinition (view_unit p.types.unit) f → IsSettingOfFunction f p → IsWhole p
whole f p d h = subst (λ u. IsSettingOf u p) (sym d.1) h

-- the function of a unit that is laid out is numbered children first
pub numbered : (ty : Typing) (u : UnitTree) (f : FunctionTree) → IsDefinition u f → IsLaidOut u → IsNumbered ty f
numbered ty u f d l = (what_is_laid_out_is_numbered ty l.0 l.1.0 d.0 f (sym l.1.1 ∙ d.1)).body

-- ---- causes

pub measured_of : (ty : Typing) (without : Kinds) (u : UnitTree) (f : FunctionTree) → IsDefinition u f → measured_cause ty without u ≡ weight_cause (weight ty without f)
measured_of ty without u f d = ap (measured_cause ty without) d.1

-- the cause by a setting of the function's own types
pub measured_here : (f : FunctionTree) (p : FunctionPlaces) (t : TypedUnit) (without : Kinds) (o : Option Cause) → IsDefinition (view_unit t.unit) f → setting_in p ≡ setting_of (typing_in t) without f → p.types ≡ t
    → o ≡ weight_cause (weight (typing_in p.types) p.without f) → measured_cause (typing_in t) without (view_unit t.unit) ≡ o
measured_here f p t without o d e same is =
    let kinds : without ≡ p.without = sym (ap (λ g. g.without) e) in
    measured_of (typing_in t) without (view_unit t.unit) f d
    ∙ (λ i. weight_cause (weight (typing_in (sym same i)) (kinds i) f))
    ∙ sym is

-- the cause is that of the function's weight, by the weight that was found
pub weighed : (f : FunctionTree) (p : FunctionPlaces) (t : TypedUnit) (w : ℕ) (o : Option Cause) → IsDefinition (view_unit t.unit) f → p.types ≡ t → o ≡ weight_cause w
    → ((other : FunctionTree) → IsDefinition (view_unit p.types.unit) other → w ≡ weight (typing_in p.types) p.without other) → o ≡ weight_cause (weight (typing_in p.types) p.without f)
weighed f p t w o d same is known = is ∙ ap weight_cause (known f (subst (λ (x : TypedUnit). IsDefinition (view_unit x.unit) f) (sym same) d))

-- a function without a cause isn't too heavy
pub light : (w : ℕ) → weight_cause w ≡ None → w ≤ most_weight
light w = on (nat_lt most_weight w) _ refl where
  on : (a : Bool) (x : Cause) → nat_lt most_weight w ≡ a → (if a then Some x else None) ≡ None → w ≤ most_weight
  on true x e h = absurd cc
  on false x e h = ltb-false most_weight w e

few_nodes : (u : UnitTree) → has_many u ≡ false → unit_nodes u ≤ 20000
few_nodes u e = leb-true (unit_nodes u) most_nodes (is_true (nat_le (unit_nodes u) most_nodes) e) where
  is_true : (b : Bool) → not b ≡ false → b ≡ true
  is_true true e = refl
  is_true false e = absurd cc

-- a unit without a cause has few nodes, and its function isn't too heavy
pub record IsSmall (bytes : List ℕ) (without : Kinds) (now : List NameEntry) (u : UnitTree) : Type 0 where
  pub nodes : unit_nodes u ≤ 20000
  pub measured : measured_cause (unit_typing bytes now u) without u ≡ None
  pub result : Fact
  pub facts : List Fact
  pub typed : unit_typed bytes now u ≡ Good result facts

-- what isn't refused has facts
record HasFacts (o : Outcome Fact) : Type 0 where
  result : Fact
  facts : List Fact
  is : o ≡ Good result facts

has_facts : (bytes : List ℕ) (u : UnitTree) (o : Outcome Fact) (m : Option Cause) → first_cause (refused_cause bytes u o) m ≡ None → HasFacts o
has_facts bytes u (Good x facts) m e = record { result = x; facts = facts; is = refl }
has_facts bytes u (Refused k s) m e = absurd cc

second_none : (a b : Option Cause) → first_cause a b ≡ None → b ≡ None
second_none (Some x) b e = absurd cc
second_none None b e = e

pub small : (bytes : List ℕ) (without : Kinds) (now : List NameEntry) (u : UnitTree) → body_cause bytes without now u ≡ None → IsSmall bytes without now u
small bytes without now u = on (has_many u) refl where
  on : (many : Bool) → has_many u ≡ many → (if many then Some (Nodes (unit_nodes u)) else first_cause (refused_cause bytes u (unit_typed bytes now u)) (measured_cause (unit_typing bytes now u) without u)) ≡ None → IsSmall bytes without now u
  on true e h = absurd cc
  on false e h =
      let found = has_facts bytes u (unit_typed bytes now u) (measured_cause (unit_typing bytes now u) without u) h in
      record { nodes = few_nodes u e; measured = second_none _ _ h; result = found.result; facts = found.facts; typed = found.is }

-- ---- what typing answers

-- a function that is typed has the cause by its measures
pub record IsTypedUnit (bytes : List ℕ) (without : Kinds) (now : List NameEntry) (u : UnitTree) : Type 0 where
  pub cause : body_cause bytes without now u ≡ measured_cause (unit_typing bytes now u) without u
  pub nodes : unit_nodes u ≤ 20000
  pub result : Fact
  pub facts : List Fact
  pub typed : unit_typed bytes now u ≡ Good result facts

pub is_typed : {T : Type 0} (bytes : List ℕ) (without : Kinds) (now : List NameEntry) (u : UnitTree) (t : T) → Answers (has_many u) (unit_nodes u) (unit_typed bytes now u) (Ok t) → IsTypedUnit bytes without now u
is_typed {T = T} bytes without now u t h =
    let found = facts_by (has_many u) (unit_typed bytes now u) h in
    record { cause = same (has_many u) (unit_typed bytes now u) h; nodes = few_nodes u (none (has_many u) (unit_typed bytes now u) h); result = found.result; facts = found.facts; typed = found.is }
  where
    facts_by : (many : Bool) (o : Outcome Fact) → Answers {T = T} many (unit_nodes u) o (Ok t) → HasFacts o
    facts_by true o h = absurd h
    facts_by false (Good x facts) h = record { result = x; facts = facts; is = refl }
    facts_by false (Refused m s) h = absurd h

    none : (many : Bool) (o : Outcome Fact) → Answers {T = T} many (unit_nodes u) o (Ok t) → many ≡ false
    none true o h = absurd h
    none false o h = refl

    same : (many : Bool) (o : Outcome Fact) → Answers {T = T} many (unit_nodes u) o (Ok t) → (if many then Some (Nodes (unit_nodes u)) else first_cause (refused_cause bytes u o) (measured_cause (unit_typing bytes now u) without u)) ≡ measured_cause (unit_typing bytes now u) without u
    same true o h = absurd h
    same false (Good x facts) h = refl
    same false (Refused m s) h = absurd h
