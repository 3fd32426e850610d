-- Path runs show what executions do: statements.
use Rattle.std.proofs.Common.{◌≡◌, ℕ, zero, suc, Bool, true, false, not, ◌&&◌, ◌||◌, List, [], ◌∷◌, ℤ, Option, Some, None, refl, sym, ap, ◌∙◌, subst, inl, inr}
use Rattle.std.proofs.lemmas.List.{append-nil}
use Rattle.std.specs.Prelude.{if◌then◌else◌}
use Rattle.stk_base.specs.declared.span.Span.{Span}
use Rattle.stk_tree.specs.Syntax.{ExprTree, MaybeExprTree, InitTree, MaybeInitTree, ItemTree, ItemTrees, DeclrTree, DeclrTrees, DeclarationTree, StartTree, LabelTrees, StmtTree, StmtTrees, MaybeStmtTree, StmtFormTree, PartTree, PartTrees, SectionTree, SectionTrees}
use Rattle.stk_tree.specs.Syntax as s
use Rattle.stk_tree.specs.Parts.{is_static}
use Rattle.stk_numbers.specs.Kinds.{wrap, promote}
use Rattle.stk_type_rules.specs.Types.{is_scalar}
use Rattle.stk_meaning.specs.declared.entry.Entry.TheVariants.{Enter}
use Rattle.stk_meaning.specs.Typings.{number_kind, converted, statement_node, type_in, is_among}
use Rattle.stk_meaning.specs.Operations.{truth}
use Rattle.stk_meaning.specs.Places.{Target, in_register, in_kept, in_object, unnamed, target_at, object_target, position_behind}
use Rattle.stk_meaning.specs.Visits.{reading, as_test, Visit, at_declarator, at_statement, at_section, Visits, no_visit, one_visit, both_visits, scope, expression_visits, maybe_visits, items_visits, item_visits, initialiser_visits, designators_visits, tail_visits, initial_visits, declarator_visits, declarators_visits, declaration_visits, start_visits, labels_visits, statement_visits, statement_form_visits, maybe_statement_visits, statements_visits, parts_visits, part_visits, sections_visits, section_visits, turn_visits, parts_declare, start_declares}
use Rattle.stk_meaning.specs.Changes.{Spot, is_any_kept, stored_in, declarator_changes, initial_changes, is_own, changes}
use Rattle.stk_meaning.specs.Worlds.{Ran, Went, Cut, and_then, gives, entered, written, Flow, Normal, Break, Continue, Return, next, Turned, Another, Ended, behind_body, left_switch}
use Rattle.stk_meaning.specs.Expressions.{value_of, test_of, stored_at, address_of}
use Rattle.stk_meaning.specs.Declarations.{items_run, item_run, initialiser_run, begun_with, begun_without, automatic_run, declarator_run, declarators_run, declaration_run}
use Rattle.stk_meaning.specs.Statements.{discarded_run, start_run, return_run, chosen, from_chosen, turned_body, while_turn, do_turn, statement_run, statement_form_run, otherwise_run, statements_run, parts_run, part_run, sections_run, section_run}
use Rattle.stk_meaning.specs.Keys.{unset_key, declarator_keys, number_info}
use Rattle.stk_meaning.specs.Paths.{InputMap, KeptNumbers, path_world}
use Rattle.stk_meaning.specs.Executions.{Outside}
use Rattle.stk_run_laws.proofs.WellTyped.{Suits}
use Rattle.stk_run_laws.proofs.Maps.{Ground, IsListed, Good}
use Rattle.stk_run_laws.proofs.Parts.{Part, Reframes, part_as, part_seq, part_tail, part_went, part_equal, part_choose, reframes_left, reframes_right, reframes_then}
use Rattle.stk_run_laws.proofs.Leaves.{real, part_write, part_store, part_unset, part_begin}
use Rattle.stk_run_laws.proofs.Frames.{reframes_first, reframes_second, reframes_swapped, reframes_grouped, reframes_alone, reframes_statement, part_after}
use Rattle.stk_run_laws.proofs.Places.{AddressIs, target_address, listed_in, stores_well}
use Rattle.stk_run_laws.proofs.GatheredExpressions.{test_part}
use Rattle.stk_run_laws.proofs.Evaluations.{sound}
use Rattle.stk_run_laws.proofs.Turns.{part_loop, part_scope}

-- ---- what comes behind a statement, as one run after another

abbrev followed : {S : Type 0} → (List ℤ → S → Ran Flow S) → Flow → List ℤ → S → Ran Flow S
followed f Normal = f
followed f Break = gives Break
followed f Continue = gives Continue
followed f Return = gives Return

followed_is : {S : Type 0} (x : Ran Flow S) (f : List ℤ → S → Ran Flow S) → and_then x (followed f) ≡ next x f
followed_is (Went Normal r m t) f = refl
followed_is (Went Break r m t) f = ap (λ u. Went Break r m u) (append-nil t)
followed_is (Went Continue r m t) f = ap (λ u. Went Continue r m u) (append-nil t)
followed_is (Went Return r m t) f = ap (λ u. Went Return r m u) (append-nil t)
followed_is (Cut t) f = refl

abbrev turned_by : {S : Type 0} → (List ℤ → S → Ran Turned S) → Flow → List ℤ → S → Ran Turned S
turned_by f Normal = f
turned_by f Break = gives (Ended Normal)
turned_by f Continue = f
turned_by f Return = gives (Ended Return)

turned_is : {S : Type 0} (x : Ran Flow S) (f : List ℤ → S → Ran Turned S) → and_then x (turned_by f) ≡ behind_body x f
turned_is (Went Normal r m t) f = refl
turned_is (Went Break r m t) f = ap (λ u. Went (Ended Normal) r m u) (append-nil t)
turned_is (Went Continue r m t) f = refl
turned_is (Went Return r m t) f = ap (λ u. Went (Ended Return) r m u) (append-nil t)
turned_is (Cut t) f = refl

abbrev switched : Flow → Flow
switched Normal = Normal
switched Break = Normal
switched Continue = Continue
switched Return = Return

switched_is : {S : Type 0} (x : Ran Flow S) → and_then x (λ flow r m. Went (switched flow) r m []) ≡ left_switch x
switched_is (Went Normal r m t) = ap (λ u. Went Normal r m u) (append-nil t)
switched_is (Went Break r m t) = ap (λ u. Went Normal r m u) (append-nil t)
switched_is (Went Continue r m t) = ap (λ u. Went Continue r m u) (append-nil t)
switched_is (Went Return r m t) = ap (λ u. Went Return r m u) (append-nil t)
switched_is (Cut t) = refl

module _ (c : Ground) where
  part_next : (v w : Visits) (RA RB : List ℤ → Outside → Ran Flow Outside) (PA PB : InputMap → List ℤ → KeptNumbers → Ran Flow KeptNumbers) → Part c (Unit {0}) v RA PA → Part c (Unit {0}) w RB PB → Part c (Unit {0}) (both_visits v w) (λ r st. next (RA r st) RB) (λ m r kept. next (PA m r kept) (PB m))
  part_next v w RA RB PA PB a b =
      part_equal c (Unit {0}) (both_visits v w) _ _ _ _ (λ r st. followed_is (RA r st) RB) (λ m r kept. sym (followed_is (PA m r kept) (PB m)))
      (part_seq c (Unit {0}) v w RA PA (followed RB) (λ m. followed (PB m)) a by)
    where
      by : (flow : Flow) → Part c (Unit {0}) w (followed RB flow) (λ m. followed (PB m) flow)
      by Normal = b
      by Break = part_went c (Unit {0}) w (λ r. Break) []
      by Continue = part_went c (Unit {0}) w (λ r. Continue) []
      by Return = part_went c (Unit {0}) w (λ r. Return) []

  part_body : (v w : Visits) (RA : List ℤ → Outside → Ran Flow Outside) (RB : List ℤ → Outside → Ran Turned Outside) (PA : InputMap → List ℤ → KeptNumbers → Ran Flow KeptNumbers) (PB : InputMap → List ℤ → KeptNumbers → Ran Turned KeptNumbers) → Part c (Unit {0}) v RA PA → Part c (Unit {0}) w RB PB → Part c (Unit {0}) (both_visits v w) (λ r st. behind_body (RA r st) RB) (λ m r kept. behind_body (PA m r kept) (PB m))
  part_body v w RA RB PA PB a b =
      part_equal c (Unit {0}) (both_visits v w) _ _ _ _ (λ r st. turned_is (RA r st) RB) (λ m r kept. sym (turned_is (PA m r kept) (PB m)))
      (part_seq c (Unit {0}) v w RA PA (turned_by RB) (λ m. turned_by (PB m)) a by)
    where
      by : (flow : Flow) → Part c (Unit {0}) w (turned_by RB flow) (λ m. turned_by (PB m) flow)
      by Normal = b
      by Break = part_went c (Unit {0}) w (λ r. Ended Normal) []
      by Continue = b
      by Return = part_went c (Unit {0}) w (λ r. Ended Return) []

  part_switched : (v : Visits) (RA : List ℤ → Outside → Ran Flow Outside) (PA : InputMap → List ℤ → KeptNumbers → Ran Flow KeptNumbers) → Part c (Unit {0}) v RA PA → Part c (Unit {0}) v (λ r st. left_switch (RA r st)) (λ m r kept. left_switch (PA m r kept))
  part_switched v RA PA a =
      part_equal c (Unit {0}) v _ _ _ _ (λ r st. switched_is (RA r st)) (λ m r kept. sym (switched_is (PA m r kept)))
      (part_tail c (Unit {0}) v RA PA (λ flow r. switched flow) (λ flow. []) a)

module _ (c : Ground) (n : ℕ) where
  value_part : (e : ExprTree) → Part c (Unit {0}) (expression_visits c.setting.typing reading e) (value_of c.setting (real c n) e) (λ m. value_of c.setting (path_world m) e)
  value_part e = (sound c n e).value

  tested_part : (e : ExprTree) → Part c (Unit {0}) (expression_visits c.setting.typing as_test e) (test_of c.setting (real c n) e) (λ m. test_of c.setting (path_world m) e)
  tested_part e = test_part c n e _ _ (value_part e)

  discarded_part : (e : MaybeExprTree) → Part c (Unit {0}) (maybe_visits c.setting.typing reading e) (discarded_run c.setting (real c n) e) (λ m. discarded_run c.setting (path_world m) e)
  discarded_part s.no_expression = part_went c (Unit {0}) no_visit (λ r. Normal) []
  discarded_part (s.some_expression e) = part_tail c (Unit {0}) (expression_visits c.setting.typing reading e) _ _ (λ x r. Normal) (λ x. []) (value_part e)

  return_part : (e : MaybeExprTree) → Part c (Unit {0}) (maybe_visits c.setting.typing reading e) (return_run c.setting (real c n) e) (λ m. return_run c.setting (path_world m) e)
  return_part s.no_expression = part_went c (Unit {0}) no_visit (λ r. Return) []
  return_part (s.some_expression e) = part_tail c (Unit {0}) (expression_visits c.setting.typing reading e) _ _ (λ x r. Return) (λ x. []) (value_part e)

  -- ---- declarations

  mutual
    items_part : (xs : ItemTrees) → Part c (Unit {0}) (items_visits c.setting.typing xs) (items_run c.setting (real c n) xs) (λ m. items_run c.setting (path_world m) xs)
    items_part s.no_items = part_went c (Unit {0}) no_visit (λ r. Normal) []
    items_part (s.then_item x xs) = part_seq c (Unit {0}) (item_visits c.setting.typing x) (items_visits c.setting.typing xs) _ _ _ _ (item_part x) (λ flow. items_part xs)

    item_part : (x : ItemTree) → Part c (Unit {0}) (item_visits c.setting.typing x) (item_run c.setting (real c n) x) (λ m. item_run c.setting (path_world m) x)
    item_part (s.item path x) = part_as c (Unit {0}) (initialiser_visits c.setting.typing x) _ _ _ (reframes_right c (designators_visits c.setting.typing path) (initialiser_visits c.setting.typing x)) (initialiser_part x)

    initialiser_part : (x : InitTree) → Part c (Unit {0}) (initialiser_visits c.setting.typing x) (initialiser_run c.setting (real c n) x) (λ m. initialiser_run c.setting (path_world m) x)
    initialiser_part (s.plain e) = part_tail c (Unit {0}) (expression_visits c.setting.typing reading e) _ _ (λ x r. Normal) (λ x. []) (value_part e)
    initialiser_part (s.braces items comma) = items_part items

  -- what a declarator changes
  declared_changes : (static : Bool) (k : ℕ) (at : Option Span) (init : MaybeInitTree) (y : Spot) → changes c.setting (one_visit (at_declarator k static at init)) y ≡ false → declarator_changes (target_at c.setting k) y ≡ false
  declared_changes static k at init y h = by (declarator_changes (target_at c.setting k) y) (not static && initial_changes (c.setting.typing.type_at k) init y) h
    where
      by : (a b : Bool) → a || b ≡ false → a ≡ false
      by true b h = h
      by false b h = refl

  stored_changes : (t : Target) (y : Spot) → (t ≡ unnamed → ⊥) → declarator_changes t y ≡ false → stored_in t y ≡ false
  stored_changes (in_register i) y named h = h
  stored_changes (in_kept q) y named h = h
  stored_changes (in_object o) y named h = h
  stored_changes unnamed y named h = absurd (named refl)

  never_unnamed : (k : ℕ) → target_at c.setting k ≡ unnamed → ⊥
  never_unnamed k h = by (is_among k c.setting.registers) (position_behind 0 k c.setting.kept) h
    where
      by : (b : Bool) (p : Option ℕ) → (if b then in_register k else object_target k p) ≡ unnamed → ⊥
      by true p h = cc
      by false None h = cc
      by false (Some q) h = cc

  -- a register is that of its own declarator
  register_is : (k i : ℕ) → target_at c.setting k ≡ in_register i → (i ≡ k) × (is_among k c.setting.registers ≡ true)
  register_is k i h = by (is_among k c.setting.registers) refl (position_behind 0 k c.setting.kept) h
    where
      by : (b : Bool) → is_among k c.setting.registers ≡ b → (p : Option ℕ) → (if b then in_register k else object_target k p) ≡ in_register i → (i ≡ k) × (b ≡ true)
      by true e p h = (let same : k ≡ i = cc in sym same, refl)
      by false e None h = absurd cc
      by false e (Some q) h = absurd cc

  begun_at : (k : ℕ) (at : Option Span) (init : MaybeInitTree) (x : ℤ) → is_scalar (c.setting.typing.type_at k) ≡ true → (t : Target) → target_at c.setting k ≡ t → Part c (Unit {0}) (one_visit (at_declarator k false at init)) (λ r st. and_then (stored_at (real c n) t (number_kind (c.setting.typing.type_at k)) (address_of (real c n) t k) (converted (c.setting.typing.type_at k) x) x r st) (λ y. gives Normal)) (λ m r kept. and_then (stored_at (path_world m) t (number_kind (c.setting.typing.type_at k)) (address_of (real c n) t k) (converted (c.setting.typing.type_at k) x) x r kept) (λ y. gives Normal))
  begun_at k at init x scalar t is =
      let u = c.setting.typing.type_at k in
      let v = one_visit (at_declarator k false at init) in
      let a = address_of (real c n) t k in
      part_tail c (Unit {0}) v _ _ (λ y r. Normal) (λ y. [])
      (part_store c n (Unit {0}) v t (number_kind u) a (converted u x) x
      (λ y h. stored_changes t y (λ e. never_unnamed k (is ∙ e)) (subst (λ t. declarator_changes t y ≡ false) is (declared_changes false k at init y h)))
      (λ q g. stores_well c g.ground t 0 a u x (subst (λ t. AddressIs c t 0 (address_of (real c n) t k)) is (target_address c n k)) (subst (λ t. Suits c.setting c.objects t 0 u) is (g.typed.0 scalar))))

  -- the object of a declarator gets the number of its scalar initialiser
  begun_part : (k : ℕ) (at : Option Span) (init : MaybeInitTree) (x : ℤ) → is_scalar (c.setting.typing.type_at k) ≡ true → Part c (Unit {0}) (one_visit (at_declarator k false at init)) (begun_with c.setting (real c n) k x) (λ m. begun_with c.setting (path_world m) k x)
  begun_part k at init x scalar = by (target_at c.setting k) refl
    where
      by : (t : Target) → target_at c.setting k ≡ t → Part c (Unit {0}) (one_visit (at_declarator k false at init)) (λ r st. and_then (stored_at (real c n) t (number_kind (c.setting.typing.type_at k)) (address_of (real c n) t k) (converted (c.setting.typing.type_at k) x) x r st) (λ y. gives Normal)) (λ m r kept. and_then (stored_at (path_world m) t (number_kind (c.setting.typing.type_at k)) (address_of (path_world m) t k) (converted (c.setting.typing.type_at k) x) x r kept) (λ y. gives Normal))
      by (in_register i) is = begun_at k at init x scalar (in_register i) is
      by (in_kept q) is = begun_at k at init x scalar (in_kept q) is
      by (in_object o) is = begun_at k at init x scalar (in_object o) is
      by unnamed is = begun_at k at init x scalar unnamed is

  -- an object without initialiser
  without_part : (k : ℕ) (at : Option Span) (t : Target) → target_at c.setting k ≡ t → Part c (Unit {0}) (one_visit (at_declarator k false at s.no_initialiser)) (begun_without c.setting (real c n) k t) (λ m. begun_without c.setting (path_world m) k t)
  without_part k at (in_register i) is =
      let v = one_visit (at_declarator k false at s.no_initialiser) in
      let own = register_is k i is in
      subst (λ j. Part c (Unit {0}) v (begun_without c.setting (real c n) k (in_register j)) (λ m. begun_without c.setting (path_world m) k (in_register j))) (sym own.0)
      (part_unset c n v Normal k refl (λ z h. subst (λ t. declarator_changes t z ≡ false) (is ∙ ap in_register own.0) (declared_changes false k at s.no_initialiser z h)) own.1
      (λ g. listed_in c v (unset_key k) g (subst (λ t. IsListed (declarator_keys c.setting k at s.no_initialiser t) (unset_key k)) (sym is) (record { info = number_info c.setting.typing (unset_key k) (c.setting.typing.type_at k) at; among = inl refl; is = refl }))))
  without_part k at (in_kept q) is = part_begin c n (Unit {0}) (one_visit (at_declarator k false at s.no_initialiser)) Normal q
  without_part k at (in_object o) is = part_went c (Unit {0}) (one_visit (at_declarator k false at s.no_initialiser)) (λ r. Normal) []
  without_part k at unnamed is = part_went c (Unit {0}) (one_visit (at_declarator k false at s.no_initialiser)) (λ r. Normal) []

  -- the writes of the outside behind the items of an array or a struct: each kept object may change
  written_part : (k : ℕ) (at : Option Span) (x : InitTree) → (Good c (one_visit (at_declarator k false at (s.some_initialiser x))) → is_scalar (c.setting.typing.type_at k) ≡ false) → Part c (Unit {0}) (one_visit (at_declarator k false at (s.some_initialiser x))) (λ r st. written Normal ((real c n).write st) r) (λ m r kept. written Normal ((path_world m).write kept) r)
  written_part k at x none = part_write c n (Unit {0}) (one_visit (at_declarator k false at (s.some_initialiser x))) Normal (λ q g y h. all (declarator_changes (target_at c.setting k) y) (is_any_kept y) (subst (λ b. declarator_changes (target_at c.setting k) y || (not b && is_any_kept y) ≡ false) (none g) h))
    where
      all : (a b : Bool) → a || b ≡ false → b ≡ false
      all true b h = absurd cc
      all false b h = h

  automatic_part : (k : ℕ) (at : Option Span) (init : MaybeInitTree) → Part c (Unit {0}) (both_visits (initial_visits c.setting.typing false init) (one_visit (at_declarator k false at init))) (automatic_run c.setting (real c n) k init) (λ m. automatic_run c.setting (path_world m) k init)
  automatic_part k at s.no_initialiser = part_as c (Unit {0}) (one_visit (at_declarator k false at s.no_initialiser)) _ _ _ (reframes_right c no_visit (one_visit (at_declarator k false at s.no_initialiser))) (without_part k at (target_at c.setting k) refl)
  automatic_part k at (s.some_initialiser (s.plain e)) =
      let visit = one_visit (at_declarator k false at (s.some_initialiser (s.plain e))) in
      part_seq c (Unit {0}) (expression_visits c.setting.typing reading e) visit _ _ _ _ (value_part e) (λ x. by x (is_scalar (c.setting.typing.type_at k)) refl)
    where
      by : (x : ℤ) (b : Bool) → is_scalar (c.setting.typing.type_at k) ≡ b → Part c (Unit {0}) (one_visit (at_declarator k false at (s.some_initialiser (s.plain e)))) (λ r st. if b then begun_with c.setting (real c n) k x r st else written Normal ((real c n).write st) r) (λ m r kept. if b then begun_with c.setting (path_world m) k x r kept else written Normal ((path_world m).write kept) r)
      by x true is = begun_part k at (s.some_initialiser (s.plain e)) x is
      by x false is = written_part k at (s.plain e) (λ g. is)
  automatic_part k at (s.some_initialiser (s.braces items comma)) = part_seq c (Unit {0}) (items_visits c.setting.typing items) (one_visit (at_declarator k false at (s.some_initialiser (s.braces items comma)))) _ _ _ _ (items_part items) (λ flow. written_part k at (s.braces items comma) (λ g. g.typed.1))

  declarator_part : (static : Bool) (d : DeclrTree) → Part c (Unit {0}) (declarator_visits c.setting.typing static d) (declarator_run c.setting (real c n) static d) (λ m. declarator_run c.setting (path_world m) static d)
  declarator_part true (s.declarator k count at tail init) = part_went c (Unit {0}) _ (λ r. Normal) []
  declarator_part false (s.declarator k count at tail init) =
      let v = both_visits (initial_visits c.setting.typing false init) (one_visit (at_declarator k.number false at init)) in
      part_as c (Unit {0}) v (both_visits (tail_visits c.setting.typing tail) v) _ _ (reframes_right c (tail_visits c.setting.typing tail) v) (automatic_part k.number at init)

  declarators_part : (static : Bool) (ds : DeclrTrees) → Part c (Unit {0}) (declarators_visits c.setting.typing static ds) (declarators_run c.setting (real c n) static ds) (λ m. declarators_run c.setting (path_world m) static ds)
  declarators_part static s.no_declarators = part_went c (Unit {0}) no_visit (λ r. Normal) []
  declarators_part static (s.then_declarator d ds) = part_seq c (Unit {0}) (declarator_visits c.setting.typing static d) (declarators_visits c.setting.typing static ds) _ _ _ _ (declarator_part static d) (λ flow. declarators_part static ds)

  declaration_part : (d : DeclarationTree) → Part c (Unit {0}) (declaration_visits c.setting.typing d) (declaration_run c.setting (real c n) d) (λ m. declaration_run c.setting (path_world m) d)
  declaration_part (s.declaration word specifiers ds) = declarators_part (is_static word) ds

  start_part : (x : StartTree) → Part c (Unit {0}) (start_visits c.setting.typing x) (start_run c.setting (real c n) x) (λ m. start_run c.setting (path_world m) x)
  start_part (s.start_declaration d) = declaration_part d
  start_part (s.start_expression e) = discarded_part e

  -- ---- branches, and turns of loops

  entered_part : {A : Type 0} (x : StmtTree) (RO : List ℤ → Outside → Ran A Outside) (PO : InputMap → List ℤ → KeptNumbers → Ran A KeptNumbers) → Part c (Unit {0}) (statement_visits c.setting.typing false x) RO PO → Part c (Unit {0}) (statement_visits c.setting.typing true x) (λ r st. entered (statement_node x) (RO r st)) (λ m r kept. entered (statement_node x) (PO m r kept))
  entered_part x RO PO a =
      part_as c (Unit {0}) (statement_visits c.setting.typing false x) (statement_visits c.setting.typing true x) _ _ (reframes_statement c x)
      (part_after c (Unit {0}) (statement_visits c.setting.typing false x) (Enter (statement_node x) ∷ []) RO PO a)

  -- the body, and the step behind it
  turned_part : (x : StmtTree) (v : Visits) (RA RB : List ℤ → Outside → Ran Flow Outside) (PA PB : InputMap → List ℤ → KeptNumbers → Ran Flow KeptNumbers) → Part c (Unit {0}) (statement_visits c.setting.typing false x) RA PA → Part c (Unit {0}) v RB PB → Part c (Unit {0}) (both_visits v (statement_visits c.setting.typing true x)) (turned_body (statement_node x) RA RB) (λ m. turned_body (statement_node x) (PA m) (PB m))
  turned_part x v RA RB PA PB a b =
      let body = statement_visits c.setting.typing false x in
      let arm = statement_visits c.setting.typing true x in
      part_as c (Unit {0}) (both_visits body v) (both_visits v arm) _ _
      (reframes_then c (both_visits body v) (both_visits arm v) (both_visits v arm) (reframes_first c body arm v (reframes_statement c x)) (reframes_swapped c arm v))
      (part_after c (Unit {0}) (both_visits body v) (Enter (statement_node x) ∷ []) _ _
      (part_body c body v RA _ PA _ a (part_tail c (Unit {0}) v RB PB (λ flow r. Another) (λ flow. []) b)))

  while_part : (e : MaybeExprTree) (x : StmtTree) (v : Visits) (RA RB : List ℤ → Outside → Ran Flow Outside) (PA PB : InputMap → List ℤ → KeptNumbers → Ran Flow KeptNumbers) → Part c (Unit {0}) (statement_visits c.setting.typing false x) RA PA → Part c (Unit {0}) v RB PB → Part c (Unit {0}) (both_visits (maybe_visits c.setting.typing as_test e) (both_visits v (statement_visits c.setting.typing true x))) (while_turn c.setting (real c n) e (statement_node x) RA RB) (λ m. while_turn c.setting (path_world m) e (statement_node x) (PA m) (PB m))
  while_part s.no_expression x v RA RB PA PB a b =
      let u = both_visits v (statement_visits c.setting.typing true x) in
      part_as c (Unit {0}) u (both_visits no_visit u) _ _ (reframes_right c no_visit u) (turned_part x v RA RB PA PB a b)
  while_part (s.some_expression e) x v RA RB PA PB a b =
      let u = both_visits v (statement_visits c.setting.typing true x) in
      part_seq c (Unit {0}) (expression_visits c.setting.typing as_test e) u _ _ _ _ (tested_part e)
      (λ z. part_choose c (Unit {0}) u (truth z) (turned_body (statement_node x) RA RB) (gives (Ended Normal)) (λ m. turned_body (statement_node x) (PA m) (PB m)) (λ m. gives (Ended Normal)) (turned_part x v RA RB PA PB a b) (part_went c (Unit {0}) u (λ r. Ended Normal) []))

  do_part : (e : ExprTree) (x : StmtTree) (RA : List ℤ → Outside → Ran Flow Outside) (PA : InputMap → List ℤ → KeptNumbers → Ran Flow KeptNumbers) → Part c (Unit {0}) (statement_visits c.setting.typing false x) RA PA → Part c (Unit {0}) (both_visits (statement_visits c.setting.typing true x) (expression_visits c.setting.typing as_test e)) (do_turn c.setting (real c n) e (statement_node x) RA) (λ m. do_turn c.setting (path_world m) e (statement_node x) (PA m))
  do_part e x RA PA a =
      let body = statement_visits c.setting.typing false x in
      let arm = statement_visits c.setting.typing true x in
      let v = expression_visits c.setting.typing as_test e in
      part_as c (Unit {0}) (both_visits body v) (both_visits arm v) _ _ (reframes_first c body arm v (reframes_statement c x))
      (part_after c (Unit {0}) (both_visits body v) (Enter (statement_node x) ∷ []) _ _
      (part_body c body v RA _ PA _ a (part_tail c (Unit {0}) v _ _ (λ z r. if truth z then Another else Ended Normal) (λ z. []) (tested_part e))))

  from_part : (v : Visits) (o : Option ℕ) (RO : ℕ → List ℤ → Outside → Ran Flow Outside) (PO : InputMap → ℕ → List ℤ → KeptNumbers → Ran Flow KeptNumbers) → ((j : ℕ) → Part c (Unit {0}) v (RO j) (λ m. PO m j)) → Part c (Unit {0}) v (from_chosen o RO) (λ m. from_chosen o (PO m))
  from_part v None RO PO a = part_went c (Unit {0}) v (λ r. Normal) []
  from_part v (Some j) RO PO a = part_switched c v (RO j) (λ m. PO m j) (a j)

  -- a form that needs nothing of its own node
  form_left : (v : Visits) (visit : Visit) (RO : List ℤ → Outside → Ran Flow Outside) (PO : InputMap → List ℤ → KeptNumbers → Ran Flow KeptNumbers) → Part c (Unit {0}) v RO PO → Part c (Unit {0}) (both_visits v (one_visit visit)) RO PO
  form_left v visit RO PO a = part_as c (Unit {0}) v (both_visits v (one_visit visit)) RO PO (reframes_left c v (one_visit visit)) a

  -- a `for`, whose own node stands outside of its scope
  for_reframes : (ks : List ℕ) (a b : Visits) (visit : Visit) → ((x : Spot) → changes c.setting (one_visit visit) x ≡ false) → Reframes c (scope ks (both_visits a (both_visits b (one_visit visit)))) (both_visits (scope ks (both_visits a b)) (one_visit visit))
  for_reframes ks a b visit quiet =
      let v = both_visits (both_visits a b) (one_visit visit) in
      let g = reframes_grouped c a b (one_visit visit) in
      record {
        good = λ h.
            let i = g.good (record { ground = h.ground; distinct = (h.distinct.0, tt, record { by = λ k p q. h.distinct.2.by k p q }); listed = h.listed; typed = h.typed }) in
            record { ground = i.ground; distinct = i.distinct; listed = i.listed; typed = i.typed };
        stands = λ k h. elim h [ inl i ↦ inl (inl i) | inr i ↦ elim i [ inl j ↦ inl (inr j) | inr j ↦ inr j ] ];
        changes = λ x h. own (is_own ks x) (changes c.setting a x) (changes c.setting b x) (changes c.setting (one_visit visit) x) (quiet x) h;
      }
    where
      own : (o p q d : Bool) → d ≡ false → (not o && (p || q)) || d ≡ false → not o && (p || (q || d)) ≡ false
      own true p q d e h = refl
      own false true q d e h = absurd cc
      own false false true d e h = absurd cc
      own false false false d e h = e

  mutual
    pub statement_part : (arm : Bool) (x : StmtTree) → Part c (Unit {0}) (statement_visits c.setting.typing arm x) (statement_run c.setting (real c n) x) (λ m. statement_run c.setting (path_world m) x)
    statement_part arm (s.statement k f) = form_part k.number arm f

    form_part : (k : ℕ) (arm : Bool) (f : StmtFormTree) → Part c (Unit {0}) (both_visits (statement_form_visits c.setting.typing f) (one_visit (at_statement k arm f))) (statement_form_run c.setting (real c n) k f) (λ m. statement_form_run c.setting (path_world m) k f)
    form_part k arm (s.block ps) = form_left (scope (parts_declare ps) (parts_visits c.setting.typing ps)) (at_statement k arm (s.block ps)) _ _ (part_scope c (parts_declare ps) (parts_visits c.setting.typing ps) _ _ (parts_part ps))
    form_part k arm (s.expression_statement e) = form_left (maybe_visits c.setting.typing reading e) (at_statement k arm (s.expression_statement e)) _ _ (discarded_part e)
    form_part k arm (s.if_statement e x y) =
        let u = statement_visits c.setting.typing true x in
        let v = maybe_statement_visits c.setting.typing y in
        form_left (both_visits (expression_visits c.setting.typing as_test e) (both_visits u v)) (at_statement k arm (s.if_statement e x y)) _ _
        (part_seq c (Unit {0}) (expression_visits c.setting.typing as_test e) (both_visits u v) _ _ _ _ (tested_part e)
        (λ z. part_choose c (Unit {0}) (both_visits u v) (truth z) _ _ _ _
        (part_as c (Unit {0}) u (both_visits u v) _ _ (reframes_left c u v) (entered_part x _ _ (statement_part false x)))
        (part_as c (Unit {0}) v (both_visits u v) _ _ (reframes_right c u v) (otherwise_part y))))
    form_part k arm (s.switch_statement e ss) =
        let v = sections_visits c.setting.typing ss in
        let kind = promote (number_kind (type_in c.setting.typing e)) in
        form_left (both_visits (expression_visits c.setting.typing reading e) v) (at_statement k arm (s.switch_statement e ss)) _ _
        (part_seq c (Unit {0}) (expression_visits c.setting.typing reading e) v _ _ _ _ (value_part e)
        (λ x. from_part v (chosen c.setting.typing kind (wrap kind x) ss) (λ j r st. sections_run c.setting (real c n) ss j r st) (λ m j r kept. sections_run c.setting (path_world m) ss j r kept) (λ j. sections_part ss j)))
    form_part k arm (s.while_statement e x) =
        let t = expression_visits c.setting.typing as_test e in
        let b = statement_visits c.setting.typing true x in
        part_loop c k arm (s.while_statement e x) _ _
        (part_as c (Unit {0}) (both_visits t (both_visits no_visit b)) (both_visits t b) _ _ (reframes_second c t (both_visits no_visit b) b (reframes_alone c b))
        (while_part (s.some_expression e) x no_visit _ (gives Normal) _ (λ m. gives Normal) (statement_part false x) (part_went c (Unit {0}) no_visit (λ r. Normal) []))) n
    form_part k arm (s.do_statement x e) = part_loop c k arm (s.do_statement x e) _ _ (do_part e x _ _ (statement_part false x)) n
    form_part k arm (s.for_statement first test step x) =
        let f = s.for_statement first test step x in
        let visit = one_visit (at_statement k arm f) in
        let a = start_visits c.setting.typing first in
        let b = turn_visits c.setting.typing f in
        part_as c (Unit {0}) (scope (start_declares first) (both_visits a (both_visits b visit))) (both_visits (scope (start_declares first) (both_visits a b)) visit) _ _ (for_reframes (start_declares first) a b (at_statement k arm f) (λ x. refl))
        (part_scope c (start_declares first) (both_visits a (both_visits b visit)) _ _
        (part_seq c (Unit {0}) a (both_visits b visit) _ _ _ _ (start_part first)
        (λ flow. part_loop c k arm f _ _ (while_part test x (maybe_visits c.setting.typing reading step) _ _ _ _ (statement_part false x) (discarded_part step)) n)))
    form_part k arm s.break_statement = part_went c (Unit {0}) _ (λ r. Break) []
    form_part k arm s.continue_statement = part_went c (Unit {0}) _ (λ r. Continue) []
    form_part k arm (s.return_statement e) = form_left (maybe_visits c.setting.typing reading e) (at_statement k arm (s.return_statement e)) _ _ (return_part e)

    otherwise_part : (y : MaybeStmtTree) → Part c (Unit {0}) (maybe_statement_visits c.setting.typing y) (otherwise_run c.setting (real c n) y) (λ m. otherwise_run c.setting (path_world m) y)
    otherwise_part s.no_statement = part_went c (Unit {0}) no_visit (λ r. Normal) []
    otherwise_part (s.some_statement x) = entered_part x _ _ (statement_part false x)

    statements_part : (xs : StmtTrees) → Part c (Unit {0}) (statements_visits c.setting.typing xs) (statements_run c.setting (real c n) xs) (λ m. statements_run c.setting (path_world m) xs)
    statements_part s.no_statements = part_went c (Unit {0}) no_visit (λ r. Normal) []
    statements_part (s.then_statement x xs) = part_next c (statement_visits c.setting.typing false x) (statements_visits c.setting.typing xs) _ _ _ _ (statement_part false x) (statements_part xs)

    parts_part : (ps : PartTrees) → Part c (Unit {0}) (parts_visits c.setting.typing ps) (parts_run c.setting (real c n) ps) (λ m. parts_run c.setting (path_world m) ps)
    parts_part s.no_parts = part_went c (Unit {0}) no_visit (λ r. Normal) []
    parts_part (s.then_part p ps) = part_next c (part_visits c.setting.typing p) (parts_visits c.setting.typing ps) _ _ _ _ (part_part p) (parts_part ps)

    part_part : (p : PartTree) → Part c (Unit {0}) (part_visits c.setting.typing p) (part_run c.setting (real c n) p) (λ m. part_run c.setting (path_world m) p)
    part_part (s.local d) = declaration_part d
    part_part (s.run x) = statement_part false x

    sections_part : (ss : SectionTrees) (j : ℕ) → Part c (Unit {0}) (sections_visits c.setting.typing ss) (sections_run c.setting (real c n) ss j) (λ m. sections_run c.setting (path_world m) ss j)
    sections_part s.no_sections j = part_went c (Unit {0}) no_visit (λ r. Normal) []
    sections_part (s.then_section x xs) zero = part_next c (section_visits c.setting.typing x) (sections_visits c.setting.typing xs) _ _ _ _ (section_part x) (sections_part xs zero)
    sections_part (s.then_section x xs) (suc j) = part_as c (Unit {0}) (sections_visits c.setting.typing xs) _ _ _ (reframes_right c (section_visits c.setting.typing x) (sections_visits c.setting.typing xs)) (sections_part xs j)

    section_part : (x : SectionTree) → Part c (Unit {0}) (section_visits c.setting.typing x) (section_run c.setting (real c n) x) (λ m. section_run c.setting (path_world m) x)
    section_part (s.section k ls body) =
        let v = statements_visits c.setting.typing body in
        let w = both_visits v (one_visit (at_section k.number ls)) in
        part_as c (Unit {0}) v (both_visits (labels_visits c.setting.typing ls) w) _ _ (reframes_then c v w (both_visits (labels_visits c.setting.typing ls) w) (reframes_left c v (one_visit (at_section k.number ls))) (reframes_right c (labels_visits c.setting.typing ls) w))
        (part_after c (Unit {0}) v (Enter k.number ∷ []) _ _ (statements_part body))
