-- How what runs make is composed.
use Rattle.std.proofs.Common.{◌≡◌, ℕ, ◌<◌, ◌⊎◌, Bool, true, false, List, [], ◌∷◌, ◌++◌, ℤ, refl, sym, ap, ◌∙◌, subst, inl, inr, arith}
use Rattle.std.proofs.lemmas.List.{append-nil}
use Rattle.std.specs.Prelude.{if◌then◌else◌, not, filter}
use Rattle.stk_tree.specs.Syntax.{ExprFormTree}
use Rattle.stk_numbers.specs.declared.conditions.Condition.{Condition}
use Rattle.stk_numbers.specs.Taken.{number_of, is_taken}
use Rattle.stk_meaning.specs.declared.entry.Entry.{Entry}
use Rattle.stk_meaning.specs.declared.entry.Entry.TheVariants.{Ub, Enter, Seen}
use Rattle.stk_meaning.specs.Operations.{Test}
use Rattle.stk_meaning.specs.Conditions.{tests_at, conditions_of, violated, form_tests}
use Rattle.stk_meaning.specs.Places.{Setting}
use Rattle.stk_meaning.specs.Visits.{accesses, Role, Visit, at_expression, Visits, one_visit, both_visits}
use Rattle.stk_meaning.specs.Worlds.{Ran, Went, Cut, trace_of, after, and_then, entered}
use Rattle.stk_meaning.specs.Expressions.{breaks}
use Rattle.stk_run_laws.specs.Visits.{IsIn}
use Rattle.stk_run_laws.proofs.Nodes.{Distinct, in_either}
use Rattle.stk_run_laws.proofs.Tests.{AreAbove, Ascend, tests_ascend}
use Rattle.stk_run_laws.proofs.Traces.{SameEvent, AreOnce, once_append, VisitSays, Says, Traced, traced_nil, traced_both, traced_swapped, traced_as, traced_left, traced_right}

pub trace_after : {A S : Type 0} (t : List Entry) (x : Ran A S) → trace_of (after t x) ≡ t ++ trace_of x
trace_after t (Went x r m u) = refl
trace_after t (Cut u) = refl

module _ (g : Setting) (One : Type 0) (S : Type 0) where
  -- what a run of a part makes, from any registers and state
  pub record Makes {A : Type 0} (v : Visits) (P : List ℤ → S → Ran A S) : Type 0 where
    pub at : (r : List ℤ) (m : S) → Traced g.typing g.without One v (trace_of (P r m))

  -- ---- one run after another

  then_makes : {A B : Type 0} (v w : Visits) (x : Ran A S) (F : A → List ℤ → S → Ran B S) → Traced g.typing g.without One v (trace_of x) → ((y : A) → Makes w (F y)) → Traced g.typing g.without One (both_visits v w) (trace_of (and_then x F))
  then_makes v w (Went y r m t) F a b = subst (Traced g.typing g.without One (both_visits v w)) (sym (trace_after t (F y r m))) (traced_both g.typing g.without One v w t (trace_of (F y r m)) a ((b y).at r m))
  then_makes v w (Cut t) F a b = traced_left g.typing g.without One v w t a

  pub makes_then : {A B : Type 0} (v w : Visits) (P : List ℤ → S → Ran A S) (F : A → List ℤ → S → Ran B S) → Makes v P → ((y : A) → Makes w (F y)) → Makes (both_visits v w) (λ r m. and_then (P r m) F)
  makes_then v w P F a b = record { at = λ r m. then_makes v w (P r m) F (a.at r m) b }

  swapped_makes : {A B : Type 0} (v w : Visits) (x : Ran A S) (F : A → List ℤ → S → Ran B S) → Traced g.typing g.without One v (trace_of x) → ((y : A) → Makes w (F y)) → Traced g.typing g.without One (both_visits w v) (trace_of (and_then x F))
  swapped_makes v w (Went y r m t) F a b = subst (Traced g.typing g.without One (both_visits w v)) (sym (trace_after t (F y r m))) (traced_swapped g.typing g.without One v w t (trace_of (F y r m)) a ((b y).at r m))
  swapped_makes v w (Cut t) F a b = traced_right g.typing g.without One w v t a

  -- the second part is evaluated before the first
  pub makes_swapped : {A B : Type 0} (v w : Visits) (P : List ℤ → S → Ran A S) (F : A → List ℤ → S → Ran B S) → Makes v P → ((y : A) → Makes w (F y)) → Makes (both_visits w v) (λ r m. and_then (P r m) F)
  makes_swapped v w P F a b = record { at = λ r m. swapped_makes v w (P r m) F (a.at r m) b }

  -- ---- the same run, of parts that are visited otherwise

  pub makes_as : {A : Type 0} (v w : Visits) (P : List ℤ → S → Ran A S) → ((e : Entry) → Says g.typing g.without v e → Says g.typing g.without w e) → (Distinct w → Distinct v) → Makes v P → Makes w P
  makes_as v w P p q a = record { at = λ r m. traced_as g.typing g.without One v w _ p q (a.at r m) }

  pub makes_left : {A : Type 0} (v w : Visits) (P : List ℤ → S → Ran A S) → Makes v P → Makes (both_visits v w) P
  makes_left v w P a = record { at = λ r m. traced_left g.typing g.without One v w _ (a.at r m) }

  pub makes_right : {A : Type 0} (v w : Visits) (P : List ℤ → S → Ran A S) → Makes w P → Makes (both_visits v w) P
  makes_right v w P a = record { at = λ r m. traced_right g.typing g.without One v w _ (a.at r m) }

  pub makes_none : {A : Type 0} (v : Visits) (P : List ℤ → S → Ran A S) → ((r : List ℤ) (m : S) → trace_of (P r m) ≡ []) → Makes v P
  makes_none v P h = record { at = λ r m. subst (Traced g.typing g.without One v) (sym (h r m)) (traced_nil g.typing g.without One v) }

  pub makes_if : {A : Type 0} (v : Visits) (b : Bool) (P Q : List ℤ → S → Ran A S) → Makes v P → Makes v Q → Makes v (λ r m. if b then P r m else Q r m)
  makes_if v true P Q p q = p
  makes_if v false P Q p q = q

  regrouped : (v w x : Visits) → Distinct (both_visits (both_visits v w) x) → Distinct (both_visits v (both_visits w x))
  regrouped v w x d = (d.0.0, (d.0.1, d.1, record { by = λ k p q. d.2.by k (inr p) q }), record { by = λ k p q. elim q [ inl i ↦ d.0.2.by k p i | inr i ↦ d.2.by k (inl p) i ] })

  -- two operands and what comes behind them
  pub makes_grouped : {A : Type 0} (v w x : Visits) (P : List ℤ → S → Ran A S) → Makes (both_visits v (both_visits w x)) P → Makes (both_visits (both_visits v w) x) P
  makes_grouped v w x P a = makes_as (both_visits v (both_visits w x)) (both_visits (both_visits v w) x) P (λ e h. elim h [ inl i ↦ inl (inl i) | inr i ↦ elim i [ inl j ↦ inl (inr j) | inr j ↦ inr j ] ]) (regrouped v w x) a

  pub makes_two : {A B C : Type 0} (v w x : Visits) (P : List ℤ → S → Ran A S) (Q : A → List ℤ → S → Ran B S) (F : A → B → List ℤ → S → Ran C S) → Makes v P → ((a : A) → Makes w (Q a)) → ((a : A) (b : B) → Makes x (F a b)) → Makes (both_visits (both_visits v w) x) (λ r m. and_then (P r m) (λ a r m. and_then (Q a r m) (F a)))
  makes_two v w x P Q F p q f = makes_grouped v w x _ (makes_then v (both_visits w x) P (λ a r m. and_then (Q a r m) (F a)) p (λ a. makes_then w x (Q a) (F a) (q a) (f a)))

  -- ---- an entry before or behind what a part makes

  pub traced_front : (v w : Visits) (e : Entry) (t : List Entry) → ((d : Entry) → Says g.typing g.without v d → Says g.typing g.without w d) → (Distinct w → Distinct v) → Says g.typing g.without w e → (Distinct w → (d : Entry) → Says g.typing g.without v d → SameEvent e d → ⊥) → Traced g.typing g.without One v t → Traced g.typing g.without One w (e ∷ t)
  traced_front v w e t p q own new a = record {
    says = says;
    once = λ one d. (record { by = λ x i s. new d x (a.says x i) s }, a.once one (q d));
  }
    where
      says : (d : Entry) → IsIn d (e ∷ t) → Says g.typing g.without w d
      says d (inl i) = subst (Says g.typing g.without w) (sym i) own
      says d (inr i) = p d (a.says d i)

  pub traced_behind : (v w : Visits) (e : Entry) (t : List Entry) → ((d : Entry) → Says g.typing g.without v d → Says g.typing g.without w d) → (Distinct w → Distinct v) → Says g.typing g.without w e → (Distinct w → (d : Entry) → Says g.typing g.without v d → SameEvent d e → ⊥) → Traced g.typing g.without One v t → Traced g.typing g.without One w (t ++ e ∷ [])
  traced_behind v w e t p q own new a = record {
    says = λ d i. says d (in_either d t (e ∷ []) i);
    once = λ one d. once_append t (e ∷ []) (a.once one (q d)) (record { by = λ x i s. i }, tt) (λ x y i j s. elim j [ inl k ↦ new d x (a.says x i) (subst (SameEvent x) k s) | inr k ↦ k ]);
  }
    where
      says : (d : Entry) → IsIn d t ⊎ IsIn d (e ∷ []) → Says g.typing g.without w d
      says d (inl i) = p d (a.says d i)
      says d (inr (inl i)) = subst (Says g.typing g.without w) (sym i) own
      says d (inr (inr i)) = absurd i

  pub makes_front : {A : Type 0} (v w : Visits) (k : ℕ) (P : List ℤ → S → Ran A S) → ((d : Entry) → Says g.typing g.without v d → Says g.typing g.without w d) → (Distinct w → Distinct v) → Says g.typing g.without w (Enter k) → (Distinct w → (d : Entry) → Says g.typing g.without v d → SameEvent (Enter k) d → ⊥) → Makes v P → Makes w (λ r m. entered k (P r m))
  makes_front v w k P p q own new a = record { at = λ r m. subst (Traced g.typing g.without One w) (sym (trace_after (Enter k ∷ []) (P r m))) (traced_front v w (Enter k) (trace_of (P r m)) p q own new (a.at r m)) }

  -- ---- the conditions that are violated at a node

  violated_says : (x : Visit) (k : ℕ) (ts : List Test) (a b c : ℤ) → ((d : Condition) → IsIn d (conditions_of k ts) → VisitSays g.typing g.without x (Ub d)) → (e : Entry) → IsIn e (violated k ts a b c) → VisitSays g.typing g.without x e
  violated_says x k [] a b c h e i = absurd i
  violated_says x k (t ∷ ts) a b c h e i = one (t.broken a b c) (λ j. violated_says x k ts a b c (λ d l. h d (inr l)) e j) (in_either e _ (violated k ts a b c) i)
    where
      one : (broken : Bool) → (IsIn e (violated k ts a b c) → VisitSays g.typing g.without x e) → IsIn e (if broken then Ub (record { node = k; kind = t.kind }) ∷ [] else []) ⊎ IsIn e (violated k ts a b c) → VisitSays g.typing g.without x e
      one broken more (inr j) = more j
      one true more (inl (inl j)) = subst (VisitSays g.typing g.without x) (sym j) (h _ (inl refl))
      one true more (inl (inr j)) = absurd j
      one false more (inl j) = absurd j

  -- an entry is no condition of a kind with a number up to n
  abbrev IsPast : ℕ → Entry → Type 0
  IsPast n (Ub c) = n < number_of c.kind
  IsPast n (Enter k) = ⊥
  IsPast n (Seen k b o) = ⊥

  violated_past : (n k : ℕ) (ts : List Test) (a b c : ℤ) → AreAbove n ts → (e : Entry) → IsIn e (violated k ts a b c) → IsPast n e
  violated_past n k [] a b c h e i = absurd i
  violated_past n k (t ∷ ts) a b c h e i = one (t.broken a b c) (λ j. violated_past n k ts a b c h.1 e j) (in_either e _ (violated k ts a b c) i)
    where
      one : (broken : Bool) → (IsIn e (violated k ts a b c) → IsPast n e) → IsIn e (if broken then Ub (record { node = k; kind = t.kind }) ∷ [] else []) ⊎ IsIn e (violated k ts a b c) → IsPast n e
      one broken more (inr j) = more j
      one true more (inl (inl j)) = subst (IsPast n) (sym j) h.0
      one true more (inl (inr j)) = absurd j
      one false more (inl j) = absurd j

  past_new : (c : Condition) (e : Entry) → IsPast (number_of c.kind) e → SameEvent (Ub c) e → ⊥
  past_new c (Ub d) p same = let e : number_of c.kind ≡ number_of d.kind = ap (λ (z : Condition). number_of z.kind) same in absurd (omega arith)
  past_new c (Enter k) p same = p
  past_new c (Seen k b o) p same = p

  violated_once : (k : ℕ) (ts : List Test) (a b c : ℤ) → Ascend ts → AreOnce (violated k ts a b c)
  violated_once k [] a b c h = tt
  violated_once k (t ∷ ts) a b c h = one (t.broken a b c) (violated_once k ts a b c h.1)
    where
      one : (broken : Bool) → AreOnce (violated k ts a b c) → AreOnce ((if broken then Ub (record { node = k; kind = t.kind }) ∷ [] else []) ++ violated k ts a b c)
      one true more = (record { by = λ e i s. past_new (record { node = k; kind = t.kind }) e (violated_past (number_of t.kind) k ts a b c h.0 e i) s }, more)
      one false more = more

  pub breaks_traced : (k : ℕ) (role : Role) (f : ExprFormTree) (b : Bool) (x y z : ℤ) → form_tests g.typing (accesses (g.typing.type_at k) role.use_of) f ≡ form_tests g.typing b f → Traced g.typing g.without One (one_visit (at_expression k role f)) (breaks g k b f x y z)
  breaks_traced k role f b x y z same = record {
    says = λ e i. violated_says (at_expression k role f) k (tests_at g.typing g.without b f) x y z (λ d j. subst (λ ts. IsIn d (conditions_of k (filter (λ t. not (is_taken g.without t.kind)) ts))) (sym same) j) e i;
    once = λ one d. violated_once k (tests_at g.typing g.without b f) x y z (tests_ascend g.typing g.without b f);
  }

  -- what makes no entry behind what a part makes
  tail_makes : {A B : Type 0} (v : Visits) (x : Ran A S) (F : A → List ℤ → S → Ran B S) → Traced g.typing g.without One v (trace_of x) → ((y : A) (r : List ℤ) (m : S) → trace_of (F y r m) ≡ []) → Traced g.typing g.without One v (trace_of (and_then x F))
  tail_makes v (Went y r m t) F a h = subst (Traced g.typing g.without One v) (sym (trace_after t (F y r m) ∙ ap (λ u. t ++ u) (h y r m) ∙ append-nil t)) a
  tail_makes v (Cut t) F a h = a

  pub makes_tail : {A B : Type 0} (v : Visits) (P : List ℤ → S → Ran A S) (F : A → List ℤ → S → Ran B S) → Makes v P → ((y : A) (r : List ℤ) (m : S) → trace_of (F y r m) ≡ []) → Makes v (λ r m. and_then (P r m) F)
  makes_tail v P F a h = record { at = λ r m. tail_makes v (P r m) F (a.at r m) h }

  -- entries before what makes none
  pub makes_entries : {A : Type 0} (v : Visits) (t : List Entry) (P : List ℤ → S → Ran A S) → Traced g.typing g.without One v t → ((r : List ℤ) (m : S) → trace_of (P r m) ≡ []) → Makes v (λ r m. after t (P r m))
  makes_entries v t P a h = record { at = λ r m. subst (Traced g.typing g.without One v) (sym (trace_after t (P r m) ∙ ap (λ u. t ++ u) (h r m) ∙ append-nil t)) a }

  pub makes_went : {A : Type 0} (v : Visits) (t : List Entry) (x : A) → Traced g.typing g.without One v t → Makes v (λ r m. Went x r m t)
  makes_went v t x a = record { at = λ r m. a }

  crossed : (v w x : Visits) → Distinct (both_visits (both_visits v w) x) → Distinct (both_visits w (both_visits v x))
  crossed v w x d = (d.0.1, (d.0.0, d.1, record { by = λ k p q. d.2.by k (inl p) q }), record { by = λ k p q. elim q [ inl i ↦ d.0.2.by k i p | inr i ↦ d.2.by k (inr p) i ] })

  -- two operands, the second one evaluated before the first, and what comes behind them
  pub makes_crossed : {A : Type 0} (v w x : Visits) (P : List ℤ → S → Ran A S) → Makes (both_visits w (both_visits v x)) P → Makes (both_visits (both_visits v w) x) P
  makes_crossed v w x P a = makes_as (both_visits w (both_visits v x)) (both_visits (both_visits v w) x) P (λ e h. elim h [ inl i ↦ inl (inr i) | inr i ↦ elim i [ inl j ↦ inl (inl j) | inr j ↦ inr j ] ]) (crossed v w x) a

  behind_makes : {A B : Type 0} (v : Visits) (x : Ran A S) (F : A → List ℤ → S → Ran B S) → trace_of x ≡ [] → ((y : A) → Makes v (F y)) → Traced g.typing g.without One v (trace_of (and_then x F))
  behind_makes v (Went y r m t) F h b = subst (Traced g.typing g.without One v) (sym (trace_after t (F y r m) ∙ ap (λ u. u ++ trace_of (F y r m)) h)) ((b y).at r m)
  behind_makes v (Cut t) F h b = subst (Traced g.typing g.without One v) (sym h) (traced_nil g.typing g.without One v)

  -- a part behind what makes no entry
  pub makes_behind : {A B : Type 0} (v : Visits) (P : List ℤ → S → Ran A S) (F : A → List ℤ → S → Ran B S) → ((r : List ℤ) (m : S) → trace_of (P r m) ≡ []) → ((y : A) → Makes v (F y)) → Makes v (λ r m. and_then (P r m) F)
  makes_behind v P F h b = record { at = λ r m. behind_makes v (P r m) F (h r m) b }
