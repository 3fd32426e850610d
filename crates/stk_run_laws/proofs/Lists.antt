-- What entries speak of is in the lists, and the lists are in order.
use Rattle.std.proofs.Common.{◌≡◌, ℕ, ◌<◌, ◌==◌, Bool, true, false, List, [], ◌∷◌, ◌++◌, Option, Some, None, refl, sym, ap, ◌∙◌, subst, inl, inr, arith}
use Rattle.std.proofs.lemmas.Grind.{common_steps}
use Rattle.std.specs.Prelude.{◌&&◌}
use Rattle.stk_tree.specs.Syntax.{ExprTree, ExprFormTree, FunctionTree}
use Rattle.stk_tree.specs.Syntax as s
use Rattle.stk_numbers.specs.declared.conditions.CandKind.{CandKind}
use Rattle.stk_numbers.specs.declared.conditions.CandKind.TheVariants.{Arm, AlwaysTrue, AlwaysFalse, Algebra}
use Rattle.stk_numbers.specs.declared.conditions.Candidate.{Candidate}
use Rattle.stk_numbers.specs.declared.conditions.Condition.{Condition}
use Rattle.stk_numbers.specs.declared.conditions.Kinds.{Kinds}
use Rattle.stk_numbers.specs.Taken.{number_of}
use Rattle.stk_meaning.specs.declared.entry.Entry.{Entry}
use Rattle.stk_meaning.specs.declared.entry.Entry.TheVariants.{Ub, Enter, Seen}
use Rattle.stk_meaning.specs.Typings.{Typing}
use Rattle.stk_meaning.specs.Operations.{arithmetic, shifting, comparing, BinarySort, operates, joins, or_else, and_also, sort_of, Test}
use Rattle.stk_meaning.specs.Replacements.{Replaced, replacement}
use Rattle.stk_meaning.specs.Conditions.{conditions_of}
use Rattle.stk_meaning.specs.Visits.{accesses, Visit, at_expression, at_declarator, at_statement, at_section, Visits, no_visit, one_visit, both_visits, scope, unevaluated, collected}
use Rattle.stk_meaning.specs.Keys.{function_visits}
use Rattle.stk_meaning.specs.Lists.{visit_conditions, candidate, arm_candidates, seen_candidates, replaced_candidates, binary_candidates, form_candidates, visit_candidates}
use Rattle.stk_meaning.specs.Hits.{seen_hits, is_arm, hits}
use Rattle.stk_run_laws.specs.Visits.{visit_node, Ascends, nodes_of, IsIn}
use Rattle.stk_run_laws.proofs.Nodes.{in_left, in_right, in_either, ascends_left, ascends_right, ascends_apart}
use Rattle.stk_run_laws.specs.Listed.{ConditionBefore, CandidateBefore, IsBeforeAll, AreInOrder, ConditionsAreInOrder, CandidatesAreInOrder}
use Rattle.stk_run_laws.proofs.Tests.{AreAbove, Ascend, tests_ascend}
use Rattle.stk_run_laws.proofs.Traces.{form_sees, sort_sees, sort_replacement, form_replacement, OtherSeen, visit_enters, visit_sees, visit_replacement, VisitSays, Says}

-- ---- what an entry speaks of is listed

arms_listed : (ty : Typing) (x : Visit) → visit_enters x ≡ true → IsIn (candidate (visit_node x) Arm) (visit_candidates ty x)
arms_listed ty (at_expression k role f) h = subst (λ b. IsIn (candidate k Arm) (arm_candidates k b ++ form_candidates ty k role.is_test f)) (sym h) (inl refl)
arms_listed ty (at_declarator k static at init) h = absurd cc
arms_listed ty (at_statement k arm f) h = subst (λ b. IsIn (candidate k Arm) (arm_candidates k b)) (sym h) (inl refl)
arms_listed ty (at_section k ls) h = inl refl

-- both kinds of a truth that is seen
record AreSeen (k : ℕ) (cs : List Candidate) : Type 0 where
  always : IsIn (candidate k AlwaysTrue) cs
  never : IsIn (candidate k AlwaysFalse) cs

seen_true : (k : ℕ) (test : Bool) → test ≡ true → AreSeen k (seen_candidates k test)
seen_true k true h = record { always = inl refl; never = inr (inl refl) }
seen_true k false h = absurd cc

sort_seen : (ty : Typing) (k : ℕ) (test : Bool) (sort : BinarySort) (a b : ExprTree) → sort_sees test sort ≡ true → AreSeen k (binary_candidates ty k test sort a b)
sort_seen ty k test (operates (arithmetic op)) a b h = seen_true k test h
sort_seen ty k test (operates (shifting op)) a b h = seen_true k test h
sort_seen ty k test (operates (comparing op)) a b h = record { always = inl refl; never = inr (inl refl) }
sort_seen ty k test joins a b h = seen_true k test h
sort_seen ty k test or_else a b h = seen_true k test h
sort_seen ty k test and_also a b h = seen_true k test h

form_seen : (ty : Typing) (k : ℕ) (test : Bool) (f : ExprFormTree) → form_sees test f ≡ true → AreSeen k (form_candidates ty k test f)
form_seen ty k test (s.paren e) h = absurd cc
form_seen ty k test (s.binary op a b) h = sort_seen ty k test (sort_of op) a b h
form_seen ty k test f h = seen_true k test h

visits_seen : (ty : Typing) (x : Visit) → visit_sees x ≡ true → AreSeen (visit_node x) (visit_candidates ty x)
visits_seen ty (at_expression k role f) h =
    let a = form_seen ty k role.is_test f h in
    record { always = in_right _ (arm_candidates k role.is_arm) (form_candidates ty k role.is_test f) a.always; never = in_right _ (arm_candidates k role.is_arm) (form_candidates ty k role.is_test f) a.never }
visits_seen ty (at_declarator k static at init) h = absurd cc
visits_seen ty (at_statement k arm f) h = absurd cc
visits_seen ty (at_section k ls) h = absurd cc

replaced_listed : (k : ℕ) (found : Option Replaced) (other : Bool) → OtherSeen found (Some other) → IsIn (candidate k Algebra) (replaced_candidates k found)
replaced_listed k None other h = absurd h
replaced_listed k (Some x) other h = inl refl

sort_replaced : (ty : Typing) (k : ℕ) (test : Bool) (sort : BinarySort) (a b : ExprTree) (other : Bool) → OtherSeen (sort_replacement ty sort a b) (Some other) → IsIn (candidate k Algebra) (binary_candidates ty k test sort a b)
sort_replaced ty k test (operates (arithmetic op)) a b other h = absurd h
sort_replaced ty k test (operates (shifting op)) a b other h = absurd h
sort_replaced ty k test (operates (comparing op)) a b other h = inr (inr (replaced_listed k (replacement ty a b) other h))
sort_replaced ty k test joins a b other h = absurd h
sort_replaced ty k test or_else a b other h = absurd h
sort_replaced ty k test and_also a b other h = absurd h

form_replaced : (ty : Typing) (k : ℕ) (test : Bool) (f : ExprFormTree) (other : Bool) → OtherSeen (form_replacement ty f) (Some other) → IsIn (candidate k Algebra) (form_candidates ty k test f)
form_replaced ty k test (s.binary op a b) other h = sort_replaced ty k test (sort_of op) a b other h
form_replaced ty k test f other h = absurd h

visits_replaced : (ty : Typing) (x : Visit) (other : Bool) → OtherSeen (visit_replacement ty x) (Some other) → IsIn (candidate (visit_node x) Algebra) (visit_candidates ty x)
visits_replaced ty (at_expression k role f) other h = in_right _ (arm_candidates k role.is_arm) (form_candidates ty k role.is_test f) (form_replaced ty k role.is_test f other h)
visits_replaced ty (at_declarator k static at init) other h = absurd h
visits_replaced ty (at_statement k arm f) other h = absurd h
visits_replaced ty (at_section k ls) other h = absurd h

pub same_of : (n j : ℕ) (b : Bool) → n == j && b ≡ true → n ≡ j
same_of n j b h = grind (arith, common_steps)

pub and_right : (a b : Bool) → a && b ≡ true → b ≡ true
and_right true b h = h
and_right false b h = absurd cc

module _ (ty : Typing) (without : Kinds) where
  enter_listed : (x : Visit) (n : ℕ) (kind : CandKind) → visit_enters x ≡ true → n ≡ visit_node x → is_arm kind ≡ true → IsIn (candidate n kind) (visit_candidates ty x)
  enter_listed x n Arm h same arm = subst (λ k. IsIn (candidate k Arm) (visit_candidates ty x)) (sym same) (arms_listed ty x h)
  enter_listed x n AlwaysTrue h same arm = absurd cc
  enter_listed x n AlwaysFalse h same arm = absurd cc
  enter_listed x n Algebra h same arm = absurd cc

  seen_listed : (x : Visit) (n : ℕ) (kind : CandKind) (b : Bool) (o : Option Bool) → VisitSays ty without x (Seen n b o) → seen_hits kind b o ≡ true → IsIn (candidate n kind) (visit_candidates ty x)
  seen_listed x n Arm b o h hit = absurd cc
  seen_listed x n AlwaysTrue b o h hit = subst (λ k. IsIn (candidate k AlwaysTrue) (visit_candidates ty x)) (sym h.0) (visits_seen ty x h.1).always
  seen_listed x n AlwaysFalse b o h hit = subst (λ k. IsIn (candidate k AlwaysFalse) (visit_candidates ty x)) (sym h.0) (visits_seen ty x h.1).never
  seen_listed x n Algebra true None h hit = absurd cc
  seen_listed x n Algebra false None h hit = absurd cc
  seen_listed x n Algebra b (Some other) h hit = subst (λ k. IsIn (candidate k Algebra) (visit_candidates ty x)) (sym h.0) (visits_replaced ty x other h.2)

  hit_listed : (x : Visit) (c : Candidate) (e : Entry) → VisitSays ty without x e → hits c e ≡ true → IsIn c (visit_candidates ty x)
  hit_listed x c (Ub k) h hit = absurd cc
  hit_listed x c (Enter n) h hit =
      let same : n ≡ c.node = same_of n c.node (is_arm c.kind) hit in
      enter_listed x c.node c.kind h.1 (sym same ∙ h.0) (and_right (n == c.node) (is_arm c.kind) hit)
  hit_listed x c (Seen n b o) h hit =
      let same : n ≡ c.node = same_of n c.node (seen_hits c.kind b o) hit in
      seen_listed x c.node c.kind b o (sym same ∙ h.0, h.1, h.2) (and_right (n == c.node) (seen_hits c.kind b o) hit)

  pub violated_in : (v : Visits) (k : Condition) → Says ty without v (Ub k) → IsIn k (collected (visit_conditions ty without) v)
  violated_in no_visit k h = absurd h
  violated_in (one_visit x) k h = h
  violated_in (both_visits a b) k (inl h) = in_left k _ (collected (visit_conditions ty without) b) (violated_in a k h)
  violated_in (both_visits a b) k (inr h) = in_right k (collected (visit_conditions ty without) a) _ (violated_in b k h)
  violated_in (scope ks a) k h = violated_in a k h
  violated_in (unevaluated a) k h = absurd h

  pub hit_in : (v : Visits) (c : Candidate) (e : Entry) → Says ty without v e → hits c e ≡ true → IsIn c (collected (visit_candidates ty) v)
  hit_in no_visit c e h hit = absurd h
  hit_in (one_visit x) c e h hit = hit_listed x c e h hit
  hit_in (both_visits a b) c e (inl h) hit = in_left c _ (collected (visit_candidates ty) b) (hit_in a c e h hit)
  hit_in (both_visits a b) c e (inr h) hit = in_right c (collected (visit_candidates ty) a) _ (hit_in b c e h hit)
  hit_in (scope ks a) c e h hit = hit_in a c e h hit
  hit_in (unevaluated a) c e h hit = absurd h

-- ---- the lists are in order

before_append : {A : Type 0} (Before : A → A → Type 0) (x : A) (a b : List A) → IsBeforeAll Before x a → IsBeforeAll Before x b → IsBeforeAll Before x (a ++ b)
before_append Before x [] b p q = q
before_append Before x (y ∷ a) b p q = (p.0, before_append Before x a b p.1 q)

before_every : {A : Type 0} (Before : A → A → Type 0) (x : A) (b : List A) → ((y : A) → IsIn y b → Before x y) → IsBeforeAll Before x b
before_every Before x [] h = tt
before_every Before x (y ∷ b) h = (h y (inl refl), before_every Before x b (λ z i. h z (inr i)))

order_append : {A : Type 0} (Before : A → A → Type 0) (a b : List A) → AreInOrder Before a → AreInOrder Before b → ((x y : A) → IsIn x a → IsIn y b → Before x y) → AreInOrder Before (a ++ b)
order_append Before [] b p q h = q
order_append Before (x ∷ a) b p q h = (before_append Before x a b p.0 (before_every Before x b (λ y i. h x y (inl refl) i)), order_append Before a b p.1 q (λ y z i j. h y z (inr i) j))

module _ {A : Type 0} (Before : A → A → Type 0) (node : A → ℕ) (f : Visit → List A) (by_node : (x y : A) → node x < node y → Before x y) (each : (x : Visit) → AreInOrder Before (f x)) (there : (x : Visit) (y : A) → IsIn y (f x) → node y ≡ visit_node x) where
  stands_there : (v : Visits) (y : A) → IsIn y (collected f v) → IsIn (node y) (nodes_of v)
  stands_there no_visit y h = absurd h
  stands_there (one_visit x) y h = inl (there x y h)
  stands_there (both_visits a b) y h = elim (in_either y (collected f a) (collected f b) h) [ inl i ↦ in_left (node y) _ (nodes_of b) (stands_there a y i) | inr i ↦ in_right (node y) (nodes_of a) _ (stands_there b y i) ]
  stands_there (scope ks a) y h = stands_there a y h
  stands_there (unevaluated a) y h = absurd h

  collected_order : (v : Visits) → Ascends (nodes_of v) → AreInOrder Before (collected f v)
  collected_order no_visit h = tt
  collected_order (one_visit x) h = each x
  collected_order (both_visits a b) h =
      order_append Before (collected f a) (collected f b) (collected_order a (ascends_left (nodes_of a) (nodes_of b) h)) (collected_order b (ascends_right (nodes_of a) (nodes_of b) h))
      (λ x y i j. by_node x y (ascends_apart (nodes_of a) (nodes_of b) (node x) (node y) h (stands_there a x i) (stands_there b y j)))
  collected_order (scope ks a) h = collected_order a h
  collected_order (unevaluated a) h = tt

-- conditions at a node

condition_before : (k : ℕ) (t : Test) (ts : List Test) → AreAbove (number_of t.kind) ts → IsBeforeAll ConditionBefore (record { node = k; kind = t.kind }) (conditions_of k ts)
condition_before k t [] h = tt
condition_before k t (u ∷ ts) h = (inr (refl, h.0), condition_before k t ts h.1)

conditions_order : (k : ℕ) (ts : List Test) → Ascend ts → AreInOrder ConditionBefore (conditions_of k ts)
conditions_order k [] h = tt
conditions_order k (t ∷ ts) h = (condition_before k t ts h.0, conditions_order k ts h.1)

condition_there : (k : ℕ) (ts : List Test) (c : Condition) → IsIn c (conditions_of k ts) → c.node ≡ k
condition_there k [] c h = absurd h
condition_there k (t ∷ ts) c (inl h) = ap (λ (z : Condition). z.node) h
condition_there k (t ∷ ts) c (inr h) = condition_there k ts c h

visit_order : (ty : Typing) (without : Kinds) (x : Visit) → AreInOrder ConditionBefore (visit_conditions ty without x)
visit_order ty without (at_expression k role f) = conditions_order k _ (tests_ascend ty without (accesses (ty.type_at k) role.use_of) f)
visit_order ty without (at_declarator k static at init) = tt
visit_order ty without (at_statement k arm f) = tt
visit_order ty without (at_section k ls) = tt

visit_there : (ty : Typing) (without : Kinds) (x : Visit) (c : Condition) → IsIn c (visit_conditions ty without x) → c.node ≡ visit_node x
visit_there ty without (at_expression k role f) c h = condition_there k _ c h
visit_there ty without (at_declarator k static at init) c h = absurd h
visit_there ty without (at_statement k arm f) c h = absurd h
visit_there ty without (at_section k ls) c h = absurd h

pub conditions_in_order : ConditionsAreInOrder
conditions_in_order ty without f h = collected_order ConditionBefore (λ c. c.node) (visit_conditions ty without) (λ x y l. inl l) (visit_order ty without) (visit_there ty without) (function_visits ty f) h

-- candidates at a node

seen_order : (k : ℕ) (arm test : Bool) → AreInOrder CandidateBefore (arm_candidates k arm ++ seen_candidates k test)
seen_order k true true = ((inr (refl, omega arith), (inr (refl, omega arith), tt)), ((inr (refl, omega arith), tt), (tt, tt)))
seen_order k true false = (tt, tt)
seen_order k false true = ((inr (refl, omega arith), tt), (tt, tt))
seen_order k false false = tt

replaced_order : (k : ℕ) (arm : Bool) (found : Option Replaced) → AreInOrder CandidateBefore (arm_candidates k arm ++ (seen_candidates k true ++ replaced_candidates k found))
replaced_order k arm None = seen_order k arm true
replaced_order k true (Some x) = ((inr (refl, omega arith), (inr (refl, omega arith), (inr (refl, omega arith), tt))), ((inr (refl, omega arith), (inr (refl, omega arith), tt)), ((inr (refl, omega arith), tt), (tt, tt))))
replaced_order k false (Some x) = ((inr (refl, omega arith), (inr (refl, omega arith), tt)), ((inr (refl, omega arith), tt), (tt, tt)))

binary_order : (ty : Typing) (k : ℕ) (arm test : Bool) (sort : BinarySort) (a b : ExprTree) → AreInOrder CandidateBefore (arm_candidates k arm ++ binary_candidates ty k test sort a b)
binary_order ty k arm test (operates (arithmetic op)) a b = seen_order k arm test
binary_order ty k arm test (operates (shifting op)) a b = seen_order k arm test
binary_order ty k arm test (operates (comparing op)) a b = replaced_order k arm (replacement ty a b)
binary_order ty k arm test joins a b = seen_order k arm test
binary_order ty k arm test or_else a b = seen_order k arm test
binary_order ty k arm test and_also a b = seen_order k arm test

form_order : (ty : Typing) (k : ℕ) (arm test : Bool) (f : ExprFormTree) → AreInOrder CandidateBefore (arm_candidates k arm ++ form_candidates ty k test f)
form_order ty k arm test (s.paren e) = seen_order k arm false
form_order ty k arm test (s.binary op a b) = binary_order ty k arm test (sort_of op) a b
form_order ty k arm test f = seen_order k arm test

arm_order : (k : ℕ) (arm : Bool) → AreInOrder CandidateBefore (arm_candidates k arm)
arm_order k true = (tt, tt)
arm_order k false = tt

visit_candidates_order : (ty : Typing) (x : Visit) → AreInOrder CandidateBefore (visit_candidates ty x)
visit_candidates_order ty (at_expression k role f) = form_order ty k role.is_arm role.is_test f
visit_candidates_order ty (at_declarator k static at init) = tt
visit_candidates_order ty (at_statement k arm f) = arm_order k arm
visit_candidates_order ty (at_section k ls) = (tt, tt)

arm_there : (k : ℕ) (arm : Bool) (c : Candidate) → IsIn c (arm_candidates k arm) → c.node ≡ k
arm_there k true c (inl h) = ap (λ (z : Candidate). z.node) h
arm_there k true c (inr h) = absurd h
arm_there k false c h = absurd h

seen_there : (k : ℕ) (test : Bool) (c : Candidate) → IsIn c (seen_candidates k test) → c.node ≡ k
seen_there k true c (inl h) = ap (λ (z : Candidate). z.node) h
seen_there k true c (inr (inl h)) = ap (λ (z : Candidate). z.node) h
seen_there k true c (inr (inr h)) = absurd h
seen_there k false c h = absurd h

replaced_there : (k : ℕ) (found : Option Replaced) (c : Candidate) → IsIn c (replaced_candidates k found) → c.node ≡ k
replaced_there k None c h = absurd h
replaced_there k (Some x) c (inl h) = ap (λ (z : Candidate). z.node) h
replaced_there k (Some x) c (inr h) = absurd h

binary_there : (ty : Typing) (k : ℕ) (test : Bool) (sort : BinarySort) (a b : ExprTree) (c : Candidate) → IsIn c (binary_candidates ty k test sort a b) → c.node ≡ k
binary_there ty k test (operates (arithmetic op)) a b c h = seen_there k test c h
binary_there ty k test (operates (shifting op)) a b c h = seen_there k test c h
binary_there ty k test (operates (comparing op)) a b c h = elim (in_either c (seen_candidates k true) (replaced_candidates k (replacement ty a b)) h) [ inl i ↦ seen_there k true c i | inr i ↦ replaced_there k (replacement ty a b) c i ]
binary_there ty k test joins a b c h = seen_there k test c h
binary_there ty k test or_else a b c h = seen_there k test c h
binary_there ty k test and_also a b c h = seen_there k test c h

form_there : (ty : Typing) (k : ℕ) (test : Bool) (f : ExprFormTree) (c : Candidate) → IsIn c (form_candidates ty k test f) → c.node ≡ k
form_there ty k test (s.paren e) c h = absurd h
form_there ty k test (s.binary op a b) c h = binary_there ty k test (sort_of op) a b c h
form_there ty k test f c h = seen_there k test c h

visit_candidates_there : (ty : Typing) (x : Visit) (c : Candidate) → IsIn c (visit_candidates ty x) → c.node ≡ visit_node x
visit_candidates_there ty (at_expression k role f) c h = elim (in_either c (arm_candidates k role.is_arm) (form_candidates ty k role.is_test f) h) [ inl i ↦ arm_there k role.is_arm c i | inr i ↦ form_there ty k role.is_test f c i ]
visit_candidates_there ty (at_declarator k static at init) c h = absurd h
visit_candidates_there ty (at_statement k arm f) c h = arm_there k arm c h
visit_candidates_there ty (at_section k ls) c h = arm_there k true c h

pub candidates_in_order : CandidatesAreInOrder
candidates_in_order ty f h = collected_order CandidateBefore (λ c. c.node) (visit_candidates ty) (λ x y l. inl l) (visit_candidates_order ty) (visit_candidates_there ty) (function_visits ty f) h
