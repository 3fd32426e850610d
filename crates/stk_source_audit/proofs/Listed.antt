-- The lists of a function, where it is judged.
use Rattle.std.proofs.Common.{◌≡◌, ◌≢◌, ℕ, Bool, true, false, List, [], ◌∷◌, map, Option, Some, None, Err, refl, sym, ap, subst, ◌∙◌}
use Rattle.std.specs.Prelude.{if◌then◌else◌}
use Rattle.std.specs.Option.{is_some}
use Rattle.std.proofs.lemmas.Bool.{true≢false}
use Rattle.stk_ctype.specs.declared.kind.IntKind.{IntKind}
use Rattle.stk_ctype.specs.declared.symbol.NameEntry.{NameEntry}
use Rattle.stk_tree.specs.Syntax.{FunctionTree, UnitTree}
use Rattle.stk_tree.specs.Nodes.{unit_nodes}
use Rattle.stk_numbers.specs.declared.conditions.Kinds.{Kinds}
use Rattle.stk_type_rules.specs.Facts.{Fact}
use Rattle.stk_type_rules.specs.Outcome.{Outcome, Good, Refused}
use Rattle.stk_meaning.specs.Typings.{Typing}
use Rattle.stk_meaning.specs.Keys as keys
use Rattle.stk_function_types.specs.Units.{unit_typed}
use Rattle.stk_function_env.specs.declared.infos.KeyInfo.{KeyInfo}
use Rattle.stk_function_env.specs.Infos.{info_in}
use Rattle.stk_typed.specs.declared.untyped.Untyped.{Untyped}
use Rattle.stk_typed.specs.declared.untyped.Untyped.TheVariants as untyped
use Rattle.stk_typed.specs.Answering.{Answers, has_many}
use Rattle.stk_records.specs.declared.line.Cause.{Cause}
use Rattle.stk_records.specs.declared.line.Cause.TheVariants.{Nodes}
use Rattle.stk_units.specs.Functions.{unit_typing, IsDefinition}
use Rattle.stk_units.specs.Causes.{body_cause, measured_cause, refused_cause, first_cause}
use Rattle.stk_source_audit.specs.declared.lists.FunctionLists.{FunctionLists}
use Rattle.stk_source_audit.specs.Judged.{AreListsBy, AreListsOf, AreUnitLists}

-- the kinds of keys of the code are those of the keys that they show
pub kinds_shown : (infos : List KeyInfo) (shown : List keys.KeyInfo) → map info_in infos ≡ shown → map (λ (k : KeyInfo). k.kind) infos ≡ map (λ (k : keys.KeyInfo). k.kind) shown
kinds_shown infos shown e = all infos ∙ ap (map (λ (k : keys.KeyInfo). k.kind)) e where
  all : (ks : List KeyInfo) → map (λ (k : KeyInfo). k.kind) ks ≡ map (λ (k : keys.KeyInfo). k.kind) (map info_in ks)
  all [] = refl
  all (k ∷ ks) = ap (λ (rest : List IntKind). k.kind ∷ rest) (all ks)

module _ (ty : Typing) (without : Kinds) (f : FunctionTree) where
  none_of : (cause : Option Cause) → is_some cause ≡ true → AreListsOf ty without f cause None
  none_of None e = absurd (true≢false (sym e))
  none_of (Some x) e = tt

  some_of : (l : FunctionLists) (cause : Option Cause) → is_some cause ≡ false → AreListsBy ty without f (keys.keys_of ty without f) l → AreListsOf ty without f cause (Some l)
  some_of l None e h = h
  some_of l (Some x) e h = absurd (true≢false e)

  -- there are none where there is a cause
  pub no_lists : (cause found : Option Cause) → cause ≡ found → is_some found ≡ true → AreListsOf ty without f cause None
  no_lists cause found same e = none_of cause (ap is_some same ∙ e)

  -- by a setting of the function
  pub lists_by : (cause found : Option Cause) (own : Kinds) (shown : List keys.KeyInfo) (l : FunctionLists) → cause ≡ found → is_some found ≡ false → own ≡ without → shown ≡ keys.keys_of ty without f → AreListsBy ty own f shown l → AreListsOf ty without f cause (Some l)
  lists_by cause found own shown l same e kinds keys_are h =
      some_of l cause (ap is_some same ∙ e) (subst (λ (w : Kinds). AreListsBy ty w f (keys.keys_of ty without f) l) kinds (subst (λ (ks : List keys.KeyInfo). AreListsBy ty own f ks l) keys_are h))

-- what isn't typed has a cause
by_answer : (T : Type 0) (bytes : List ℕ) (u : UnitTree) (n : ℕ) (x : Cause) (m : Option Cause) (many : Bool) (o : Outcome Fact) (e : Untyped) → Answers {T = T} many n o (Err e) → e ≢ untyped.NoMemory → is_some (if many then Some x else first_cause (refused_cause bytes u o) m) ≡ true
by_answer T bytes u n x m true o e h other = refl
by_answer T bytes u n x m false (Refused k r) e h other = refl
by_answer T bytes u n x m false (Good y facts) (untyped.Rule k r) h other = absurd h
by_answer T bytes u n x m false (Good y facts) (untyped.Nodes c) h other = absurd h
by_answer T bytes u n x m false (Good y facts) untyped.NoMemory h other = absurd (other refl)

pub untyped_lists : (T : Type 0) (ty : Typing) (f : FunctionTree) (bytes : List ℕ) (without : Kinds) (now : List NameEntry) (u : UnitTree) (e : Untyped) → Answers {T = T} (has_many u) (unit_nodes u) (unit_typed bytes now u) (Err e) → e ≢ untyped.NoMemory
    → AreListsOf ty without f (body_cause bytes without now u) None
untyped_lists T ty f bytes without now u e h other =
    none_of ty without f (body_cause bytes without now u) (by_answer T bytes u (unit_nodes u) (Nodes (unit_nodes u)) (measured_cause (unit_typing bytes now u) without u) (has_many u) (unit_typed bytes now u) e h other)

-- the lists of a unit's own function
pub lists_of_unit : (bytes : List ℕ) (without : Kinds) (now : List NameEntry) (u : UnitTree) (f : FunctionTree) (o : Option FunctionLists) → IsDefinition u f → AreListsOf (unit_typing bytes now u) without f (body_cause bytes without now u) o → AreUnitLists bytes without now u o
lists_of_unit bytes without now u f o d h =
    subst (λ (v : UnitTree). AreUnitLists bytes without now v o) (sym d.1) (subst (λ (v : UnitTree). AreListsOf (unit_typing bytes now v) without f (body_cause bytes without now v) o) d.1 h)
