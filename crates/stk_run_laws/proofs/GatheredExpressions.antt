-- Path runs show what executions do: expressions.
use Rattle.std.proofs.Common.{◌≡◌, ℕ, Bool, true, false, List, [], ◌∷◌, ◌++◌, ℤ, pos, Option, Some, None, refl, sym, subst}
use Rattle.std.specs.Prelude.{if◌then◌else◌}
use Rattle.std.specs.Option.{is_some}
use Rattle.stk_base.specs.declared.span.Span.{Span}
use Rattle.stk_ctype.specs.Types.{TypeTree}
use Rattle.stk_tree.specs.declared.node.Node.{Node}
use Rattle.stk_tree.specs.declared.expression.BinaryOp.{BinaryOp}
use Rattle.stk_tree.specs.declared.expression.BinaryOp.TheVariants as binary
use Rattle.stk_tree.specs.Syntax.{ExprTree, ExprTrees, ExprFormTree}
use Rattle.stk_tree.specs.Syntax as s
use Rattle.stk_tree.specs.Parts.{bare}
use Rattle.stk_numbers.specs.declared.operators.ArithOp.TheVariants as arith_op
use Rattle.stk_numbers.specs.declared.operators.ShiftOp.TheVariants as shift_op
use Rattle.stk_numbers.specs.declared.operators.CompareOp.{CompareOp}
use Rattle.stk_numbers.specs.declared.operators.CompareOp.TheVariants as compare_op
use Rattle.stk_type_rules.specs.Types.{is_scalar}
use Rattle.stk_meaning.specs.declared.entry.Entry.TheVariants.{Enter, Seen}
use Rattle.stk_meaning.specs.Typings.{converted, node_of, type_in, number_kind}
use Rattle.stk_meaning.specs.Operations.{Operation, arithmetic, shifting, comparing, sort_of, operation_of, operated, truth, bit}
use Rattle.stk_meaning.specs.Replacements.{Replaced, replacement}
use Rattle.stk_meaning.specs.Places.{Target, in_register, in_kept, in_object, unnamed, object_named, target_at, form_target}
use Rattle.stk_meaning.specs.Visits.{Use, read, accessed, taken, Role, reading, accessing, taking, as_arm, as_test, accesses, inner_role, Visit, at_expression, Visits, no_visit, one_visit, both_visits, expression_visits, form_visits}
use Rattle.stk_meaning.specs.Worlds.{Ran, gives, entered}
use Rattle.stk_meaning.specs.Expressions.{Meaning, alone, only, breaks, at_place, address_of, name_meaning, seen, controlled, replaced_by, operator_meaning, comparison_value, right_operand, and_value, or_value, binary_meaning}
use Rattle.stk_meaning.specs.Keys.{Key, load_key, visit_keys, mention_keys, load_keys}
use Rattle.stk_meaning.specs.Paths.{InputMap, KeptNumbers, path_world}
use Rattle.stk_meaning.specs.Executions.{Outside}
use Rattle.stk_run_laws.proofs.Nodes.{in_right}
use Rattle.stk_run_laws.specs.TypedTree.{kept_kind, IsReadWhole}
use Rattle.stk_run_laws.proofs.WellTyped.{offset_in, MeansWell, IsWellName}
use Rattle.stk_run_laws.proofs.Maps.{Ground, IsListed, Good, good_right}
use Rattle.stk_run_laws.proofs.Join.{EndsIn}
use Rattle.stk_run_laws.proofs.Parts.{Part, part_as, part_if, part_seq, part_tail, part_went, part_cut, part_choose, reframes_left}
use Rattle.stk_run_laws.proofs.Leaves.{real, part_address}
use Rattle.stk_run_laws.proofs.Frames.{inner_visits, reframes_inner, reframes_arm, reframes_test, part_after}
use Rattle.stk_run_laws.proofs.Places.{ends_map, AddressIs, target_address, load_listed, listed_in, PlaceIs, ReadsWell, read_scalar, part_place}

-- a use of a place, in no branch and no test
abbrev pub plainly : Use → Role
plainly u = record { use_of = u; is_arm = false; is_test = false }

module _ (c : Ground) (n : ℕ) where
  -- an expression as a value, as a place and as a side of a comparison, where these are what it means in executions and
  -- in path runs
  pub record IsSound (e : ExprTree) (a : Meaning Outside) (p : InputMap → Meaning KeptNumbers) : Type 0 where
    pub value : Part c (Unit {0}) (expression_visits c.setting.typing reading e) a.value (λ m. (p m).value)
    pub place : (u : Use) (b : Bool) → Part c (Good c (expression_visits c.setting.typing (plainly u) e)) (inner_visits c.setting.typing (plainly u) e) (a.place b) (λ m. (p m).place b)
    pub sides : Part c (Unit {0}) (expression_visits c.setting.typing reading e) a.sides (λ m. (p m).sides)
    pub known : (b : Bool) (r : List ℤ) (s : Outside) → EndsIn (PlaceIs c e) (a.place b r s)

  pub alone_part : (v : Visits) (value : List ℤ → Outside → Ran ℤ Outside) (values : InputMap → List ℤ → KeptNumbers → Ran ℤ KeptNumbers) → Part c (Unit {0}) v value values → Part c (Unit {0}) v (alone value) (λ m. alone (values m))
  alone_part v value values a = part_tail c (Unit {0}) v value values (λ x r. record { number = x; left = pos 0; right = pos 0 }) (λ x. []) a

  -- what is no place
  pub only_sound : (e : ExprTree) (value : List ℤ → Outside → Ran ℤ Outside) (values : InputMap → List ℤ → KeptNumbers → Ran ℤ KeptNumbers) → Part c (Unit {0}) (expression_visits c.setting.typing reading e) value values → IsSound e (only value) (λ m. only (values m))
  only_sound e value values a = record {
    value = a;
    place = λ u b. part_cut c _ (inner_visits c.setting.typing (plainly u) e) _ _ (λ r s. refl) (λ m r kept. refl);
    sides = alone_part (expression_visits c.setting.typing reading e) value values a;
    known = λ b r s. tt;
  }

  -- a place of a part, as the whole part
  pub place_whole : (e : ExprTree) (a : Meaning Outside) (p : InputMap → Meaning KeptNumbers) → IsSound e a p → (u : Use) (b : Bool) → Part c (Unit {0}) (expression_visits c.setting.typing (plainly u) e) (a.place b) (λ m. (p m).place b)
  place_whole e a p h u b =
      let v = expression_visits c.setting.typing (plainly u) e in
      part_if c (Good c v) (Unit {0}) v _ _ (λ q g. g) (part_as c (Good c v) (inner_visits c.setting.typing (plainly u) e) v _ _ (reframes_inner c (plainly u) e) (h.place u b))

  pub inner_part : (e : ExprTree) (a : Meaning Outside) (p : InputMap → Meaning KeptNumbers) → IsSound e a p → (t : TypeTree) (u : Use) (b : Bool) → Part c (Unit {0}) (expression_visits c.setting.typing (inner_role t u) e) (a.place b) (λ m. (p m).place b)
  inner_part e a p h t u b = by (accesses t u)
    where
      by : (d : Bool) → Part c (Unit {0}) (expression_visits c.setting.typing (if d then accessing else taking) e) (a.place b) (λ m. (p m).place b)
      by true = place_whole e a p h accessed b
      by false = place_whole e a p h taken b

  -- a place at its own node
  pub at_place_sound : (k : Node) (f : ExprFormTree) (RO : Bool → List ℤ → Outside → Ran ℕ Outside) (PO : InputMap → Bool → List ℤ → KeptNumbers → Ran ℕ KeptNumbers) → ((u : Use) → inner_visits c.setting.typing (plainly u) (s.expression k f) ≡ form_visits c.setting.typing k.number (plainly u) f) → ((u : Use) (b : Bool) → Part c (Good c (expression_visits c.setting.typing (plainly u) (s.expression k f))) (form_visits c.setting.typing k.number (plainly u) f) (RO b) (λ m. PO m b)) → ((b : Bool) (r : List ℤ) (st : Outside) → EndsIn (PlaceIs c (s.expression k f)) (RO b r st)) → (Good c (one_visit (at_expression k.number reading f)) → ReadsWell c k.number (form_target c.setting k.number f)) → IsSound (s.expression k f) (at_place c.setting (real c n) k.number f RO) (λ m. at_place c.setting (path_world m) k.number f (PO m))
  at_place_sound k f RO PO is place known well =
      let value = part_place c n (form_visits c.setting.typing k.number reading f) k.number f (form_target c.setting k.number f) (offset_in c.setting.typing (s.expression k f)) RO PO (λ b. place read b) (λ r st. ends_map (PlaceIs c (s.expression k f)) _ (RO true r st) (λ y h. h.address) (known true r st)) well in
      record {
        value = value;
        place = λ u b. subst (λ v. Part c (Good c (expression_visits c.setting.typing (plainly u) (s.expression k f))) v (RO b) (λ m. PO m b)) (sym (is u)) (place u b);
        sides = alone_part (expression_visits c.setting.typing reading (s.expression k f)) _ _ value;
        known = known;
      }

  -- a place whose load is listed at its own node
  pub own_reads : (k : ℕ) (f : ExprFormTree) → visit_keys c.setting (at_expression k reading f) ≡ load_keys c.setting k reading f → ((q : ℕ) → form_target c.setting k f ≡ in_kept q → ⊥) → (Good c (one_visit (at_expression k reading f)) → IsReadWhole (c.setting.typing.type_at k) read) → Good c (one_visit (at_expression k reading f)) → ReadsWell c k (form_target c.setting k f)
  own_reads k f is none whole h = record {
    listed = λ no_array no_register. listed_in c (one_visit (at_expression k reading f)) (load_key k) h (subst (λ ks. IsListed ks (load_key k)) (sym is) (load_listed c k f (read_scalar c (c.setting.typing.type_at k) no_array (whole h)) no_register));
    kept = λ q e. absurd (none q e);
  }

  -- what is known of a place whose load is listed at its own node
  pub own_place : (k : Node) (f : ExprFormTree) (x : ℕ) → bare (s.expression k f) ≡ s.expression k f → visit_keys c.setting (at_expression k.number reading f) ≡ load_keys c.setting k.number reading f → AddressIs c (form_target c.setting k.number f) (offset_in c.setting.typing (s.expression k f)) x → PlaceIs c (s.expression k f) x
  own_place k f x is keys a = record {
    address = a;
    loads = λ h scalar no. subst (λ e. IsListed c.keys (load_key (node_of e))) (sym is)
        (listed_in c (one_visit (at_expression k.number reading f)) (load_key k.number) (good_right c (form_visits c.setting.typing k.number reading f) (one_visit (at_expression k.number reading f)) h)
        (subst (λ ks. IsListed ks (load_key k.number)) (sym keys) (load_listed c k.number f (subst (λ e. is_scalar (type_in c.setting.typing e) ≡ true) is scalar) no)));
  }

  -- ---- names

  name_target : (k object : ℕ) (t : Target) → MeansWell c.setting c.objects k object t → (q : ℕ) → t ≡ in_kept q → number_kind (c.setting.typing.type_at k) ≡ kept_kind c.setting q
  name_target k object (in_register i) h q e = absurd cc
  name_target k object (in_kept p) h q e = let same : p ≡ q = cc in subst (λ z. number_kind (c.setting.typing.type_at k) ≡ kept_kind c.setting z) same h.1
  name_target k object (in_object o) h q e = absurd cc
  name_target k object unnamed h q e = absurd cc

  name_part : (Q : Type 0) (v : Visits) (k object : ℕ) (t : Target) → (Q → Good c v → MeansWell c.setting c.objects k object t) → Part c Q v (gives (address_of (real c n) t object)) (λ m. gives (address_of (path_world m) t object))
  name_part Q v k object (in_register i) h = part_went c Q v (λ r. 0) []
  name_part Q v k object (in_kept q) h = part_address c n Q v object (λ q g. (h q g).0)
  name_part Q v k object (in_object o) h = part_address c n Q v object h
  name_part Q v k object unnamed h = part_address c n Q v object h

  -- the keys of a name that is no enumerator's
  name_keys_are : (k : ℕ) (at : Span) → c.setting.typing.number_at k ≡ None → (x : Key) → IsListed (load_keys c.setting k reading (s.name at)) x → IsListed (visit_keys c.setting (at_expression k reading (s.name at))) x
  name_keys_are k at none x h =
      subst (λ (o : Option ℤ). IsListed (if is_some o then [] else mention_keys c.setting k at ++ load_keys c.setting k reading (s.name at)) x) (sym none)
      (record { info = h.info; among = in_right h.info (mention_keys c.setting k at) (load_keys c.setting k reading (s.name at)) h.among; is = h.is })

  pub name_sound : (k : Node) (at : Span) (o : Option ℤ) → c.setting.typing.number_at k.number ≡ o → IsSound (s.expression k (s.name at)) (name_meaning c.setting (real c n) k.number (s.name at) (object_named c.setting k.number at) o) (λ m. name_meaning c.setting (path_world m) k.number (s.name at) (object_named c.setting k.number at) o)
  name_sound k at (Some z) e = only_sound (s.expression k (s.name at)) _ _ (part_went c (Unit {0}) _ (λ r. converted (c.setting.typing.type_at k.number) z) [])
  name_sound k at None e =
      let object = object_named c.setting k.number at in
      let visit = one_visit (at_expression k.number reading (s.name at)) in
      let typed : (R : Role) → Good c (one_visit (at_expression k.number R (s.name at))) → MeansWell c.setting c.objects k.number object (target_at c.setting object) × IsReadWhole (c.setting.typing.type_at k.number) R.use_of = λ R h. subst (λ (o : Option ℤ). IsWellName c.setting c.objects k.number R object o) e h.typed in
      at_place_sound k (s.name at) (λ b. gives (address_of (real c n) (target_at c.setting object) object)) (λ m b. gives (address_of (path_world m) (target_at c.setting object) object)) (λ u. refl)
      (λ u b. name_part (Good c (expression_visits c.setting.typing (plainly u) (s.expression k (s.name at)))) no_visit k.number object (target_at c.setting object) (λ q h. (typed (plainly u) (good_right c no_visit (one_visit (at_expression k.number (plainly u) (s.name at))) q)).0))
      (λ b r st. record {
        address = target_address c n object;
        loads = λ h scalar no. listed_in c visit (load_key k.number) (good_right c no_visit visit h) (name_keys_are k.number at e (load_key k.number) (load_listed c k.number (s.name at) scalar no));
      })
      (λ h. record {
        listed = λ no_array no_register. listed_in c visit (load_key k.number) h (name_keys_are k.number at e (load_key k.number) (load_listed c k.number (s.name at) (read_scalar c (c.setting.typing.type_at k.number) no_array (typed reading h).1) no_register));
        kept = name_target k.number object (target_at c.setting object) (typed reading h).0;
      })

  -- ---- operators

  operator_sound : (e x y : ExprTree) (k : ℕ) (f : ExprFormTree) (how : Operation) (a b : Meaning Outside) (p q : InputMap → Meaning KeptNumbers) → expression_visits c.setting.typing reading e ≡ both_visits (both_visits (expression_visits c.setting.typing reading x) (expression_visits c.setting.typing reading y)) (one_visit (at_expression k reading f)) → IsSound x a p → IsSound y b q → IsSound e (operator_meaning c.setting k f how a b) (λ m. operator_meaning c.setting k f how (p m) (q m))
  operator_sound e x y k f how a b p q is h i =
      let v = expression_visits c.setting.typing reading x in
      let w = expression_visits c.setting.typing reading y in
      let visit = one_visit (at_expression k reading f) in
      let whole = both_visits (both_visits v w) visit in
      record {
        value = subst (λ z. Part c (Unit {0}) z (operator_meaning c.setting k f how a b).value (λ m. (operator_meaning c.setting k f how (p m) (q m)).value)) (sym is)
            (part_as c (Unit {0}) (both_visits v w) whole _ _ (reframes_left c (both_visits v w) visit)
            (part_seq c (Unit {0}) v w a.value (λ m. (p m).value) _ _ h.value (λ x. part_tail c (Unit {0}) w b.value (λ m. (q m).value) (λ y r. operated how x y) (λ y. breaks c.setting k true f x y (pos 0)) i.value)));
        place = λ u b. part_cut c _ (inner_visits c.setting.typing (plainly u) e) _ _ (λ r s. refl) (λ m r kept. refl);
        sides = subst (λ z. Part c (Unit {0}) z (operator_meaning c.setting k f how a b).sides (λ m. (operator_meaning c.setting k f how (p m) (q m)).sides)) (sym is)
            (part_as c (Unit {0}) (both_visits v w) whole _ _ (reframes_left c (both_visits v w) visit)
            (part_seq c (Unit {0}) v w a.value (λ m. (p m).value) _ _ h.value (λ x. part_tail c (Unit {0}) w b.value (λ m. (q m).value) (λ y r. record { number = operated how x y; left = x; right = y }) (λ y. breaks c.setting k true f x y (pos 0) ++ []) i.value)));
        known = λ b r s. tt;
      }

  comparison_sound : (e x y : ExprTree) (k : ℕ) (f : ExprFormTree) (op : CompareOp) (how : Operation) (found : Option Replaced) (a b : Meaning Outside) (p q : InputMap → Meaning KeptNumbers) → expression_visits c.setting.typing reading e ≡ both_visits (both_visits (expression_visits c.setting.typing reading x) (expression_visits c.setting.typing reading y)) (one_visit (at_expression k reading f)) → IsSound x a p → IsSound y b q → IsSound e (only (comparison_value c.setting k op how found a b)) (λ m. only (comparison_value c.setting k op how found (p m) (q m)))
  comparison_sound e x y k f op how found a b p q is h i =
      let v = expression_visits c.setting.typing reading x in
      let w = expression_visits c.setting.typing reading y in
      let visit = one_visit (at_expression k reading f) in
      only_sound e _ _ (subst (λ z. Part c (Unit {0}) z (comparison_value c.setting k op how found a b) (λ m. comparison_value c.setting k op how found (p m) (q m))) (sym is)
      (part_as c (Unit {0}) (both_visits v w) (both_visits (both_visits v w) visit) _ _ (reframes_left c (both_visits v w) visit)
      (part_seq c (Unit {0}) v w a.sides (λ m. (p m).sides) _ _ h.sides
      (λ x. part_tail c (Unit {0}) w b.sides (λ m. (q m).sides) (λ y r. operated how x.number y.number) (λ y. Seen k (truth (operated how x.number y.number)) (replaced_by c.setting.typing op found x y) ∷ []) i.sides))))

  -- branches and controlling expressions

  pub arm_part : {A : Type 0} (e : ExprTree) (RO : List ℤ → Outside → Ran A Outside) (PO : InputMap → List ℤ → KeptNumbers → Ran A KeptNumbers) → Part c (Unit {0}) (expression_visits c.setting.typing reading e) RO PO → Part c (Unit {0}) (expression_visits c.setting.typing as_arm e) (λ r s. entered (node_of e) (RO r s)) (λ m r kept. entered (node_of e) (PO m r kept))
  arm_part e RO PO a =
      part_as c (Unit {0}) (expression_visits c.setting.typing reading e) (expression_visits c.setting.typing as_arm e) _ _ (reframes_arm c e)
      (part_after c (Unit {0}) (expression_visits c.setting.typing reading e) (Enter (node_of e) ∷ []) RO PO a)

  pub test_part : (e : ExprTree) (RO : List ℤ → Outside → Ran ℤ Outside) (PO : InputMap → List ℤ → KeptNumbers → Ran ℤ KeptNumbers) → Part c (Unit {0}) (expression_visits c.setting.typing reading e) RO PO → Part c (Unit {0}) (expression_visits c.setting.typing as_test e) (λ r s. controlled e (RO r s)) (λ m r kept. controlled e (PO m r kept))
  test_part e RO PO a =
      part_as c (Unit {0}) (expression_visits c.setting.typing reading e) (expression_visits c.setting.typing as_test e) _ _ (reframes_test c e)
      (part_tail c (Unit {0}) (expression_visits c.setting.typing reading e) RO PO (λ x r. x) (λ x. seen (bare e) x) a)

  right_part : (e : ExprTree) (a : Meaning Outside) (p : InputMap → Meaning KeptNumbers) → IsSound e a p → Part c (Unit {0}) (expression_visits c.setting.typing as_arm e) (right_operand (node_of e) a) (λ m. right_operand (node_of e) (p m))
  right_part e a p h = arm_part e _ _ (part_tail c (Unit {0}) (expression_visits c.setting.typing reading e) a.value (λ m. (p m).value) (λ y r. bit (truth y)) (λ y. []) h.value)

  and_part : (x y : ExprTree) (a b : Meaning Outside) (p q : InputMap → Meaning KeptNumbers) → IsSound x a p → IsSound y b q → Part c (Unit {0}) (both_visits (expression_visits c.setting.typing as_test x) (expression_visits c.setting.typing as_arm y)) (and_value x (node_of y) a b) (λ m. and_value x (node_of y) (p m) (q m))
  and_part x y a b p q h i =
      let v = expression_visits c.setting.typing as_arm y in
      part_seq c (Unit {0}) (expression_visits c.setting.typing as_test x) v _ _ _ _ (test_part x a.value (λ m. (p m).value) h.value)
      (λ z. part_choose c (Unit {0}) v (truth z) (right_operand (node_of y) b) (gives (pos 0)) (λ m. right_operand (node_of y) (q m)) (λ m. gives (pos 0)) (right_part y b q i) (part_went c (Unit {0}) v (λ r. pos 0) []))

  or_part : (x y : ExprTree) (a b : Meaning Outside) (p q : InputMap → Meaning KeptNumbers) → IsSound x a p → IsSound y b q → Part c (Unit {0}) (both_visits (expression_visits c.setting.typing as_test x) (expression_visits c.setting.typing as_arm y)) (or_value x (node_of y) a b) (λ m. or_value x (node_of y) (p m) (q m))
  or_part x y a b p q h i =
      let v = expression_visits c.setting.typing as_arm y in
      part_seq c (Unit {0}) (expression_visits c.setting.typing as_test x) v _ _ _ _ (test_part x a.value (λ m. (p m).value) h.value)
      (λ z. part_choose c (Unit {0}) v (truth z) (gives (pos 1)) (right_operand (node_of y) b) (λ m. gives (pos 1)) (λ m. right_operand (node_of y) (q m)) (part_went c (Unit {0}) v (λ r. pos 1) []) (right_part y b q i))

  pub whole_sound : (e : ExprTree) (v : Visits) (visit : Visit) (value : List ℤ → Outside → Ran ℤ Outside) (values : InputMap → List ℤ → KeptNumbers → Ran ℤ KeptNumbers) → expression_visits c.setting.typing reading e ≡ both_visits v (one_visit visit) → Part c (Unit {0}) v value values → IsSound e (only value) (λ m. only (values m))
  whole_sound e v visit value values is a = only_sound e value values (subst (λ z. Part c (Unit {0}) z value values) (sym is) (part_as c (Unit {0}) v (both_visits v (one_visit visit)) value values (reframes_left c v (one_visit visit)) a))

  pub binary_sound : (k : Node) (op : BinaryOp) (x y : ExprTree) (a b : Meaning Outside) (p q : InputMap → Meaning KeptNumbers) → IsSound x a p → IsSound y b q → IsSound (s.expression k (s.binary op x y)) (binary_meaning c.setting k.number op x y (sort_of op) a b) (λ m. binary_meaning c.setting k.number op x y (sort_of op) (p m) (q m))
  binary_sound k binary.Comma x y a b p q h i =
      whole_sound _ (both_visits (expression_visits c.setting.typing reading x) (expression_visits c.setting.typing reading y)) (at_expression k.number reading (s.binary binary.Comma x y)) _ _ refl
      (part_seq c (Unit {0}) (expression_visits c.setting.typing reading x) (expression_visits c.setting.typing reading y) a.value (λ m. (p m).value) _ _ h.value (λ z. i.value))
  binary_sound k binary.OrElse x y a b p q h i = whole_sound _ _ (at_expression k.number reading (s.binary binary.OrElse x y)) _ _ refl (or_part x y a b p q h i)
  binary_sound k binary.AndAlso x y a b p q h i = whole_sound _ _ (at_expression k.number reading (s.binary binary.AndAlso x y)) _ _ refl (and_part x y a b p q h i)
  binary_sound k binary.Or x y a b p q h i = operator_sound _ x y k.number (s.binary binary.Or x y) (operation_of c.setting.typing (arithmetic arith_op.Or) (type_in c.setting.typing x) (type_in c.setting.typing y)) a b p q refl h i
  binary_sound k binary.Xor x y a b p q h i = operator_sound _ x y k.number (s.binary binary.Xor x y) (operation_of c.setting.typing (arithmetic arith_op.Xor) (type_in c.setting.typing x) (type_in c.setting.typing y)) a b p q refl h i
  binary_sound k binary.And x y a b p q h i = operator_sound _ x y k.number (s.binary binary.And x y) (operation_of c.setting.typing (arithmetic arith_op.And) (type_in c.setting.typing x) (type_in c.setting.typing y)) a b p q refl h i
  binary_sound k binary.Add x y a b p q h i = operator_sound _ x y k.number (s.binary binary.Add x y) (operation_of c.setting.typing (arithmetic arith_op.Add) (type_in c.setting.typing x) (type_in c.setting.typing y)) a b p q refl h i
  binary_sound k binary.Sub x y a b p q h i = operator_sound _ x y k.number (s.binary binary.Sub x y) (operation_of c.setting.typing (arithmetic arith_op.Sub) (type_in c.setting.typing x) (type_in c.setting.typing y)) a b p q refl h i
  binary_sound k binary.Mul x y a b p q h i = operator_sound _ x y k.number (s.binary binary.Mul x y) (operation_of c.setting.typing (arithmetic arith_op.Mul) (type_in c.setting.typing x) (type_in c.setting.typing y)) a b p q refl h i
  binary_sound k binary.Div x y a b p q h i = operator_sound _ x y k.number (s.binary binary.Div x y) (operation_of c.setting.typing (arithmetic arith_op.Div) (type_in c.setting.typing x) (type_in c.setting.typing y)) a b p q refl h i
  binary_sound k binary.Rem x y a b p q h i = operator_sound _ x y k.number (s.binary binary.Rem x y) (operation_of c.setting.typing (arithmetic arith_op.Rem) (type_in c.setting.typing x) (type_in c.setting.typing y)) a b p q refl h i
  binary_sound k binary.Left x y a b p q h i = operator_sound _ x y k.number (s.binary binary.Left x y) (operation_of c.setting.typing (shifting shift_op.Left) (type_in c.setting.typing x) (type_in c.setting.typing y)) a b p q refl h i
  binary_sound k binary.Right x y a b p q h i = operator_sound _ x y k.number (s.binary binary.Right x y) (operation_of c.setting.typing (shifting shift_op.Right) (type_in c.setting.typing x) (type_in c.setting.typing y)) a b p q refl h i
  binary_sound k binary.Eq x y a b p q h i = comparison_sound _ x y k.number (s.binary binary.Eq x y) compare_op.Eq (operation_of c.setting.typing (comparing compare_op.Eq) (type_in c.setting.typing x) (type_in c.setting.typing y)) (replacement c.setting.typing x y) a b p q refl h i
  binary_sound k binary.Ne x y a b p q h i = comparison_sound _ x y k.number (s.binary binary.Ne x y) compare_op.Ne (operation_of c.setting.typing (comparing compare_op.Ne) (type_in c.setting.typing x) (type_in c.setting.typing y)) (replacement c.setting.typing x y) a b p q refl h i
  binary_sound k binary.Lt x y a b p q h i = comparison_sound _ x y k.number (s.binary binary.Lt x y) compare_op.Lt (operation_of c.setting.typing (comparing compare_op.Lt) (type_in c.setting.typing x) (type_in c.setting.typing y)) (replacement c.setting.typing x y) a b p q refl h i
  binary_sound k binary.Gt x y a b p q h i = comparison_sound _ x y k.number (s.binary binary.Gt x y) compare_op.Gt (operation_of c.setting.typing (comparing compare_op.Gt) (type_in c.setting.typing x) (type_in c.setting.typing y)) (replacement c.setting.typing x y) a b p q refl h i
  binary_sound k binary.Le x y a b p q h i = comparison_sound _ x y k.number (s.binary binary.Le x y) compare_op.Le (operation_of c.setting.typing (comparing compare_op.Le) (type_in c.setting.typing x) (type_in c.setting.typing y)) (replacement c.setting.typing x y) a b p q refl h i
  binary_sound k binary.Ge x y a b p q h i = comparison_sound _ x y k.number (s.binary binary.Ge x y) compare_op.Ge (operation_of c.setting.typing (comparing compare_op.Ge) (type_in c.setting.typing x) (type_in c.setting.typing y)) (replacement c.setting.typing x y) a b p q refl h i
