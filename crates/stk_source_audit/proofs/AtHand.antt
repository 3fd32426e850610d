-- What the function at hand answers.
use Rattle.std.proofs.Common.{◌≡◌, ◌↔◌, ℕ, ◌≤◌, ◌^◌, Bool, true, List, Option, Some, Result, Ok, Err, sym, ap, subst, ◌∙◌}
use Rattle.std.specs.Prelude.{IfOk, IfSome, IsTrue, MatchOption, nat_le}
use Rattle.std.specs.List.{Contains}
use Rattle.stk_ctype.specs.declared.kind.IntKind.{IntKind}
use Rattle.stk_ctype.specs.declared.symbol.NameEntry.{NameEntry}
use Rattle.stk_tree.specs.Syntax.{FunctionTree}
use Rattle.stk_tree.specs.View.{view_function, view_unit}
use Rattle.stk_numbers.specs.declared.conditions.Candidate.{Candidate}
use Rattle.stk_numbers.specs.declared.conditions.Condition.{Condition}
use Rattle.stk_numbers.specs.declared.conditions.Kinds.{Kinds}
use Rattle.stk_numbers.specs.Taken.{number_of}
use Rattle.stk_meaning.specs.Typings.{Typing}
use Rattle.stk_meaning.specs.Keys.{keys_of, input_bits}
use Rattle.stk_meaning.specs.PathFindings.{most_bits}
use Rattle.stk_clauses.specs.declared.store.Cnf.{Cnf}
use Rattle.stk_hits.specs.InputMaps.{bits_in}
use Rattle.stk_hits.specs.PathSubjects.{kinds_of}
use Rattle.stk_hits.specs.Tables.{Table}
use Rattle.stk_hits.specs.PathTables.{IsTableOf}
use Rattle.stk_units.specs.Functions.{IsDefinition}
use Rattle.stk_bundle.specs.Claims.{candidate_number}
use Rattle.stk_audit_rules.specs.Worlds.{AuditedFunction, IsAnsweredBy}
use Rattle.stk_audit.specs.Hands.{Hand, function_at, IsNamedCandidate, IsNamedCondition, TellsNone}
use Rattle.stk_source_audit.specs.declared.judged.JudgedFunction.{JudgedFunction}
use Rattle.stk_source_audit.specs.declared.answering.FunctionAtHand.{FunctionAtHand}
use Rattle.stk_source_audit.specs.Definitions.{definition_typing}
use Rattle.stk_source_audit.specs.Functions.{IsFormulaOf, audited_subject, audited_function}
use Rattle.stk_source_audit.specs.Sources.{CutSource, source_world, SourceAtHand}
use Rattle.stk_source_audit.specs.Asked.{judged_typing, judged_tree, judged_function}
use Rattle.stk_source_audit.specs.Keeping.{hand_in, IsHand}
use Rattle.stk_source_audit.proofs.Named.{named_candidate, named_condition}
use Rattle.stk_source_audit.proofs.Handed as handed
use Rattle.stk_source_audit.proofs.Kept.{at_hand, asked_of_it}

if_some : {A : Type 0} (o : Option A) (x : A) (P : A → Type 0) → o ≡ Some x → IfSome o P → P x
if_some {A = A} o x P e h = subst (λ (y : Option A). IfSome y P) e h

if_ok : {A E : Type 0} (r : Result A E) (P Q : A → Type 0) → ((x : A) → P x → Q x) → IfOk r P → IfOk r Q
if_ok (Ok x) P Q g p = g x p
if_ok (Err e) P Q g p = p

module _ (s : CutSource) (names : List NameEntry) (hand : Option FunctionAtHand) (hits : Option Table) (at : IfSome hand (IsHand s names hits)) (self : SourceAtHand) (view : ◌≡◌ {A = SourceAtHand} (record { source = s; hand = hand_in hand }) self) (h : FunctionAtHand) (is : hand ≡ Some h) where
  pub known : IsHand s names hits h
  known = if_some hand h (IsHand s names hits) is at

  same_view : ◌≡◌ {A = SourceAtHand} (record { source = s; hand = hand_in (Some h) }) self
  same_view = ap (λ (o : Option FunctionAtHand). record { source = s; hand = hand_in o }) (sym is) ∙ view

  abbrev ty : Typing
  ty = definition_typing s.bytes known.definition

  abbrev f : FunctionTree
  f = known.definition.function

  answer : (P : AuditedFunction → Type 0) → P (audited_function ty h.without f) → (x : Hand) → self.hand ≡ Some x → P (function_at (source_world self.source) x)
  answer P p = at_hand s names hits h known P p self same_view

  asked : (P : AuditedFunction → Type 0) (x : Hand) → self.hand ≡ Some x → P (function_at (source_world self.source) x) → P (audited_function ty h.without f)
  asked P = asked_of_it s names hits h known P self same_view

  pub all_there : (x : Hand) → self.hand ≡ Some x → h.lists.tries_all ≡ (function_at (source_world self.source) x).subject.tries_all
  all_there = answer (λ a. h.lists.tries_all ≡ a.subject.tries_all) known.lists.all

  pub candidate_there : (node kind : ℕ) (cs : List Candidate) (r : Option Candidate) → cs ≡ h.lists.candidates.items → MatchOption r ((c : Candidate) → Contains cs c → c.node ≡ node → candidate_number c.kind ≡ kind → ⊥) (λ c. Contains cs c × (c.node ≡ node) × (candidate_number c.kind ≡ kind))
      → (x : Hand) → self.hand ≡ Some x → MatchOption r ((c : Candidate) → IsNamedCandidate (function_at (source_world self.source) x) node kind c → ⊥) (IsNamedCandidate (function_at (source_world self.source) x) node kind)
  candidate_there node kind cs r e found =
      answer (λ a. MatchOption r ((c : Candidate) → IsNamedCandidate a node kind c → ⊥) (IsNamedCandidate a node kind)) (named_candidate (audited_function ty h.without f) node kind cs (e ∙ known.lists.candidates_are) r found)

  pub condition_there : (node kind : ℕ) (ks : List Condition) (r : Option Condition) → ks ≡ h.lists.conditions.items → MatchOption r ((k : Condition) → Contains ks k → k.node ≡ node → number_of k.kind ≡ kind → ⊥) (λ k. Contains ks k × (k.node ≡ node) × (number_of k.kind ≡ kind))
      → (x : Hand) → self.hand ≡ Some x → MatchOption r ((k : Condition) → IsNamedCondition (function_at (source_world self.source) x) node kind k → ⊥) (IsNamedCondition (function_at (source_world self.source) x) node kind)
  condition_there node kind ks r e found =
      answer (λ a. MatchOption r ((k : Condition) → IsNamedCondition a node kind k → ⊥) (IsNamedCondition a node kind)) (named_condition (audited_function ty h.without f) node kind ks (e ∙ known.lists.conditions_are) r found)

  -- where all maps are to be tried
  pub all_asked : ((x : Hand) → self.hand ≡ Some x → (function_at (source_world self.source) x).subject.tries_all ≡ true) → nat_le (input_bits (keys_of ty h.without f)) most_bits ≡ true
  all_asked all =
      let x : Hand = record { without = h.without; at = h.at } in
      let here : self.hand ≡ Some x = sym (ap (λ (y : SourceAtHand). y.hand) same_view) in
      asked (λ a. a.subject.tries_all ≡ true) x here (all x here)

  pub few_bits : ((x : Hand) → self.hand ≡ Some x → (function_at (source_world self.source) x).subject.tries_all ≡ true) → (given : List IntKind) → given ≡ h.lists.kinds.items → bits_in given ≤ 16
  few_bits all given e = subst (λ (ks : List IntKind). bits_in ks ≤ 16) (sym e) (handed.few_bits s names hits h known (all_asked all))

  pub none_there : {E : Type 0} → ((x : Hand) → self.hand ≡ Some x → (function_at (source_world self.source) x).subject.tries_all ≡ true) → (table : Table) → IsTableOf ty h.without f (2 ^ bits_in h.lists.kinds.items) table → (c : Candidate) (set : List Condition) (r : Result Bool E)
      → ((t : Typing) (w : Kinds) (g : FunctionTree) → input_bits (keys_of t w g) ≤ 16 → IsTableOf t w g (2 ^ bits_in (kinds_of (keys_of t w g))) table → IfOk r (TellsNone (audited_subject t w g) c set))
      → IfOk r (λ none. (x : Hand) → self.hand ≡ Some x → TellsNone (function_at (source_world self.source) x).subject c set none)
  none_there all table is c set r told =
      if_ok r (TellsNone (audited_subject ty h.without f) c set) (λ none. (x : Hand) → self.hand ≡ Some x → TellsNone (function_at (source_world self.source) x).subject c set none)
      (λ none t. answer (λ a. TellsNone a.subject c set none) t)
      (told ty h.without f (handed.few_input_bits s names hits h known (all_asked all)) (handed.table_there s names hits h known table is))

  -- a table that was kept
  pub none_by_table : {E : Type 0} → ((x : Hand) → self.hand ≡ Some x → (function_at (source_world self.source) x).subject.tries_all ≡ true) → (table : Table) → hits ≡ Some table → (c : Candidate) (set : List Condition) (r : Result Bool E)
      → ((t : Typing) (w : Kinds) (g : FunctionTree) → input_bits (keys_of t w g) ≤ 16 → IsTableOf t w g (2 ^ bits_in (kinds_of (keys_of t w g))) table → IfOk r (TellsNone (audited_subject t w g) c set))
      → IfOk r (λ none. (x : Hand) → self.hand ≡ Some x → TellsNone (function_at (source_world self.source) x).subject c set none)
  none_by_table all table e = none_there all table (if_some hits table (IsTableOf ty h.without f (2 ^ bits_in h.lists.kinds.items)) e known.table)

  module _ (j : JudgedFunction) (bytes_are : j.bytes.now ≡ s.bytes) (unit_is : j.unit.now ≡ h.unit) (function_is : IsDefinition (view_unit h.unit) (view_function j.function.now)) (names_are : j.names.now ≡ names) (without_is : j.without ≡ h.without) where
    of_judged : (P : Typing → Kinds → FunctionTree → Type 0) → P (judged_typing j) j.without (judged_tree j) → P ty h.without f
    of_judged = handed.of_judged s names hits h known j bytes_are unit_is function_is names_are without_is

    pub is_answer_there : {E : Type 0} (c : Candidate) (set : List Condition) (start : List ℕ) (r : Result Bool E) → IfOk r (λ yes. IsTrue yes ↔ IsAnsweredBy (judged_function j) c set start)
        → IfOk r (λ yes. (x : Hand) → self.hand ≡ Some x → IsTrue yes ↔ IsAnsweredBy (function_at (source_world self.source) x) c set start)
    is_answer_there c set start r h' =
        if_ok r (λ yes. IsTrue yes ↔ IsAnsweredBy (judged_function j) c set start) (λ yes. (x : Hand) → self.hand ≡ Some x → IsTrue yes ↔ IsAnsweredBy (function_at (source_world self.source) x) c set start)
        (λ yes t. answer (λ a. IsTrue yes ↔ IsAnsweredBy a c set start) (of_judged (λ x w g. IsTrue yes ↔ IsAnsweredBy (audited_function x w g) c set start) t)) h'

    pub formula_there : {E : Type 0} (c : Candidate) (set : List Condition) (r : Result Cnf E) → IfOk r (IsFormulaOf (judged_typing j) j.without (judged_tree j) c set)
        → IfOk r (λ own. (x : Hand) → self.hand ≡ Some x → (function_at (source_world self.source) x).Stands c set own)
    formula_there c set r h' =
        if_ok r (IsFormulaOf (judged_typing j) j.without (judged_tree j) c set) (λ own. (x : Hand) → self.hand ≡ Some x → (function_at (source_world self.source) x).Stands c set own)
        (λ own t. answer (λ a. a.Stands c set own) (of_judged (λ x w g. IsFormulaOf x w g c set own) t)) h'

    pub none_by_judged : ((x : Hand) → self.hand ≡ Some x → (function_at (source_world self.source) x).subject.tries_all ≡ true) → (given : List IntKind) → given ≡ h.lists.kinds.items → (table : Table) → IsTableOf (judged_typing j) j.without (judged_tree j) (2 ^ bits_in given) table
        → (c : Candidate) (set : List Condition) (none : Bool) → ((t : Typing) (w : Kinds) (g : FunctionTree) → input_bits (keys_of t w g) ≤ 16 → IsTableOf t w g (2 ^ bits_in (kinds_of (keys_of t w g))) table → TellsNone (audited_subject t w g) c set none)
        → (x : Hand) → self.hand ≡ Some x → TellsNone (function_at (source_world self.source) x).subject c set none
    none_by_judged all given e table made c set none told =
        let own = subst (λ (ks : List IntKind). IsTableOf (judged_typing j) j.without (judged_tree j) (2 ^ bits_in ks) table) e made in
        let is' = of_judged (λ t w g. IsTableOf t w g (2 ^ bits_in h.lists.kinds.items) table) own in
        answer (λ a. TellsNone a.subject c set none) (told ty h.without f (handed.few_input_bits s names hits h known (all_asked all)) (handed.table_there s names hits h known table is'))
