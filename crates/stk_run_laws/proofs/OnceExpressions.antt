-- What evaluations of expressions make.
use Rattle.std.proofs.Common.{◌≡◌, ℕ, Bool, true, false, List, [], ◌∷◌, ◌++◌, ℤ, None, refl, sym, subst, inl, inr}
use Rattle.std.proofs.lemmas.List.{append-nil}
use Rattle.std.specs.Prelude.{if◌then◌else◌}
use Rattle.stk_tree.specs.Syntax.{ExprTree, ExprTrees, MaybeExprTree, ExprFormTree}
use Rattle.stk_tree.specs.Syntax as s
use Rattle.stk_tree.specs.Parts.{bare}
use Rattle.stk_meaning.specs.declared.entry.Entry.{Entry}
use Rattle.stk_meaning.specs.declared.entry.Entry.TheVariants.{Ub, Enter, Seen}
use Rattle.stk_meaning.specs.Typings.{node_of}
use Rattle.stk_meaning.specs.Operations.{arithmetic, shifting, comparing, BinarySort, operates, joins, or_else, and_also, sort_of, truth}
use Rattle.stk_meaning.specs.Places.{Setting}
use Rattle.stk_meaning.specs.Visits.{reading, as_arm, as_test, at_expression, one_visit, both_visits, expression_visits, form_visits}
use Rattle.stk_meaning.specs.Worlds.{Ran, Went, Cut, trace_of, entered}
use Rattle.stk_meaning.specs.Expressions.{compares, form_compares, is_comparison, controlled}
use Rattle.stk_run_laws.proofs.Nodes.{Stands, Distinct}
use Rattle.stk_run_laws.proofs.Traces.{SameEvent, sort_sees, form_sees, Says, says_stands, Traced, traced_as}
use Rattle.stk_run_laws.proofs.Faces.{Makes, traced_behind, makes_front}

-- ---- branches and controlling expressions: the role of the whole changes, and nothing in it

module _ (g : Setting) where
  arm_inside : (k : ℕ) (f : ExprFormTree) → form_visits g.typing k as_arm f ≡ form_visits g.typing k reading f
  arm_inside k (s.name at) = refl
  arm_inside k f = refl

  -- what a branch makes beside its entry
  arm_says : (e : ExprTree) (d : Entry) → Says g.typing g.without (expression_visits g.typing reading e) d → Says g.typing g.without (expression_visits g.typing as_arm e) d
  arm_says (s.expression n f) d (inl h) = inl (subst (λ v. Says g.typing g.without v d) (sym (arm_inside n.number f)) h)
  arm_says (s.expression n f) (Ub c) (inr h) = inr h
  arm_says (s.expression n f) (Enter k) (inr h) = absurd cc
  arm_says (s.expression n f) (Seen k b o) (inr h) = inr h

  arm_distinct : (e : ExprTree) → Distinct (expression_visits g.typing as_arm e) → Distinct (expression_visits g.typing reading e)
  arm_distinct (s.expression n f) d =
      let a = subst (λ v. Distinct (both_visits v (one_visit (at_expression n.number as_arm f)))) (arm_inside n.number f) d in
      (a.0, tt, record { by = a.2.by })

  arm_new : (e : ExprTree) → Distinct (expression_visits g.typing as_arm e) → (d : Entry) → Says g.typing g.without (expression_visits g.typing reading e) d → SameEvent (Enter (node_of e)) d → ⊥
  arm_new (s.expression n f) d (Ub c) h same = absurd same
  arm_new (s.expression n f) d (Enter k) (inl h) same = (arm_distinct (s.expression n f) d).2.by k (says_stands g.typing g.without (form_visits g.typing n.number reading f) (Enter k) h) (sym same)
  arm_new (s.expression n f) d (Enter k) (inr h) same = absurd cc
  arm_new (s.expression n f) d (Seen k b o) h same = absurd same

  sort_sees_true : (sort : BinarySort) → sort_sees true sort ≡ true
  sort_sees_true (operates (arithmetic op)) = refl
  sort_sees_true (operates (shifting op)) = refl
  sort_sees_true (operates (comparing op)) = refl
  sort_sees_true joins = refl
  sort_sees_true or_else = refl
  sort_sees_true and_also = refl

  sort_quiet : (sort : BinarySort) → compares sort ≡ false → sort_sees false sort ≡ true → ⊥
  sort_quiet (operates (arithmetic op)) p q = cc
  sort_quiet (operates (shifting op)) p q = cc
  sort_quiet (operates (comparing op)) p q = cc
  sort_quiet joins p q = cc
  sort_quiet or_else p q = cc
  sort_quiet and_also p q = cc

  sees_true : (f : ExprFormTree) → form_sees false f ≡ true → form_sees true f ≡ true
  sees_true (s.paren e) h = h
  sees_true (s.binary op a b) h = sort_sees_true (sort_of op)
  sees_true f h = refl

  quiet : (f : ExprFormTree) → form_compares f ≡ false → form_sees false f ≡ true → ⊥
  quiet (s.binary op a b) p q = sort_quiet (sort_of op) p q
  quiet f p q = cc

  -- what a controlling expression makes beside its being seen
  test_says : (e : ExprTree) (d : Entry) → Says g.typing g.without (expression_visits g.typing reading e) d → Says g.typing g.without (expression_visits g.typing as_test e) d
  test_says (s.expression n (s.paren e)) d (inl h) = inl (test_says e d h)
  test_says (s.expression n f) d (inl h) = inl h
  test_says (s.expression n f) (Ub c) (inr h) = inr h
  test_says (s.expression n f) (Enter k) (inr h) = inr h
  test_says (s.expression n f) (Seen k b o) (inr h) = inr (h.0, sees_true f h.1, h.2)

  test_stands : (e : ExprTree) (k : ℕ) → Stands k (expression_visits g.typing reading e) → Stands k (expression_visits g.typing as_test e)
  test_stands (s.expression n (s.paren e)) k (inl h) = inl (test_stands e k h)
  test_stands (s.expression n f) k (inl h) = inl h
  test_stands (s.expression n f) k (inr h) = inr h

  test_distinct : (e : ExprTree) → Distinct (expression_visits g.typing as_test e) → Distinct (expression_visits g.typing reading e)
  test_distinct (s.expression n (s.paren e)) d = (test_distinct e d.0, tt, record { by = λ k p q. d.2.by k (test_stands e k p) q })
  test_distinct (s.expression n f) d = (d.0, tt, record { by = d.2.by })

  test_own : (e : ExprTree) (b : Bool) → Says g.typing g.without (expression_visits g.typing as_test e) (Seen (node_of (bare e)) b None)
  test_own (s.expression n (s.paren e)) b = inl (test_own e b)
  test_own (s.expression n (s.binary op x y)) b = inr (refl, sort_sees_true (sort_of op), tt)
  test_own (s.expression n f) b = inr (refl, refl, tt)

  test_new : (e : ExprTree) (b : Bool) → is_comparison (bare e) ≡ false → Distinct (expression_visits g.typing reading e) → (d : Entry) → Says g.typing g.without (expression_visits g.typing reading e) d → SameEvent d (Seen (node_of (bare e)) b None) → ⊥
  test_new (s.expression n (s.paren e)) b c d (Ub x) h same = same
  test_new (s.expression n (s.paren e)) b c d (Enter k) h same = same
  test_new (s.expression n (s.paren e)) b c d (Seen k x o) (inl h) same = test_new e b c d.0 (Seen k x o) h same
  test_new (s.expression n (s.paren e)) b c d (Seen k x o) (inr h) same = absurd cc
  test_new (s.expression n f) b c d (Ub x) h same = same
  test_new (s.expression n f) b c d (Enter k) h same = same
  test_new (s.expression n f) b c d (Seen k x o) (inl h) same = d.2.by k (says_stands g.typing g.without (form_visits g.typing n.number reading f) (Seen k x o) h) same
  test_new (s.expression n f) b c d (Seen k x o) (inr h) same = quiet f c h.1

  -- ---- evaluations

  module _ (One : Type 0) (S : Type 0) where
    -- a branch that is entered
    pub makes_arm : {A : Type 0} (e : ExprTree) (P : List ℤ → S → Ran A S) → Makes g One S (expression_visits g.typing reading e) P → Makes g One S (expression_visits g.typing as_arm e) (λ r m. entered (node_of e) (P r m))
    makes_arm (s.expression n f) P a =
        makes_front g One S (expression_visits g.typing reading (s.expression n f)) (expression_visits g.typing as_arm (s.expression n f)) n.number P
        (arm_says (s.expression n f)) (arm_distinct (s.expression n f)) (inr (refl, refl)) (arm_new (s.expression n f)) a

    test_traced : (e : ExprTree) (run : Ran ℤ S) → Traced g.typing g.without One (expression_visits g.typing reading e) (trace_of run) → Traced g.typing g.without One (expression_visits g.typing as_test e) (trace_of (controlled e run))
    test_traced e (Went x r m t) a = behind (is_comparison (bare e)) refl
      where
        behind : (b : Bool) → is_comparison (bare e) ≡ b → Traced g.typing g.without One (expression_visits g.typing as_test e) (t ++ (if b then [] else Seen (node_of (bare e)) (truth x) None ∷ []))
        behind true h = subst (Traced g.typing g.without One (expression_visits g.typing as_test e)) (sym (append-nil t)) (traced_as g.typing g.without One (expression_visits g.typing reading e) (expression_visits g.typing as_test e) t (test_says e) (test_distinct e) a)
        behind false h =
            traced_behind g One S (expression_visits g.typing reading e) (expression_visits g.typing as_test e) (Seen (node_of (bare e)) (truth x) None) t
            (test_says e) (test_distinct e) (test_own e (truth x)) (λ d y i same. test_new e (truth x) h (test_distinct e d) y i same) a
    test_traced e (Cut t) a = traced_as g.typing g.without One (expression_visits g.typing reading e) (expression_visits g.typing as_test e) t (test_says e) (test_distinct e) a

    -- a controlling expression
    pub makes_test : (e : ExprTree) (P : List ℤ → S → Ran ℤ S) → Makes g One S (expression_visits g.typing reading e) P → Makes g One S (expression_visits g.typing as_test e) (λ r m. controlled e (P r m))
    makes_test e P a = record { at = λ r m. test_traced e (P r m) (a.at r m) }
