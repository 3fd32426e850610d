-- What statements make.
use Rattle.std.proofs.Common.{◌≡◌, ℕ, zero, suc, true, false, List, ℤ, refl, sym, subst, inl, inr}
use Rattle.std.proofs.lemmas.List.{append-nil}
use Rattle.stk_tree.specs.Syntax.{ExprTree, MaybeExprTree, InitTree, MaybeInitTree, ItemTree, ItemTrees, DeclrTree, DeclrTrees, DeclarationTree, StartTree, StmtTree, StmtTrees, MaybeStmtTree, StmtFormTree, PartTree, PartTrees, SectionTree, SectionTrees}
use Rattle.stk_tree.specs.Syntax as s
use Rattle.stk_meaning.specs.declared.entry.Entry.{Entry}
use Rattle.stk_meaning.specs.declared.entry.Entry.TheVariants.{Ub, Enter, Seen}
use Rattle.stk_meaning.specs.Typings.{statement_node}
use Rattle.stk_meaning.specs.Places.{Setting}
use Rattle.stk_meaning.specs.Visits.{Visits, both_visits, scope, statement_visits, statement_form_visits}
use Rattle.stk_meaning.specs.Worlds.{Ran, Went, Cut, trace_of, entered, Flow, Normal, Break, Continue, Return, next, give_back, Turned, Another, Ended, again, repeated, behind_body, left_switch}
use Rattle.stk_run_laws.specs.Visits.{IsIn}
use Rattle.stk_run_laws.proofs.Nodes.{Stands, Distinct, in_either}
use Rattle.stk_run_laws.proofs.Traces.{SameEvent, AreOnce, Says, says_stands, Traced, traced_as, traced_both, traced_left}
use Rattle.stk_run_laws.proofs.Faces.{Makes, makes_front, trace_after}

module _ (g : Setting) (One : Type 0) (S : Type 0) where
  -- ---- statements one after another

  next_makes : (v w : Visits) (x : Ran Flow S) (F : List ℤ → S → Ran Flow S) → Traced g.typing g.without One v (trace_of x) → Makes g One S w F → Traced g.typing g.without One (both_visits v w) (trace_of (next x F))
  next_makes v w (Went Normal r m t) F a b = subst (Traced g.typing g.without One (both_visits v w)) (sym (trace_after t (F r m))) (traced_both g.typing g.without One v w t (trace_of (F r m)) a (b.at r m))
  next_makes v w (Went Break r m t) F a b = traced_left g.typing g.without One v w t a
  next_makes v w (Went Continue r m t) F a b = traced_left g.typing g.without One v w t a
  next_makes v w (Went Return r m t) F a b = traced_left g.typing g.without One v w t a
  next_makes v w (Cut t) F a b = traced_left g.typing g.without One v w t a

  pub makes_next : (v w : Visits) (P F : List ℤ → S → Ran Flow S) → Makes g One S v P → Makes g One S w F → Makes g One S (both_visits v w) (λ r m. next (P r m) F)
  makes_next v w P F a b = record { at = λ r m. next_makes v w (P r m) F (a.at r m) b }

  body_makes : (v w : Visits) (x : Ran Flow S) (F : List ℤ → S → Ran Turned S) → Traced g.typing g.without One v (trace_of x) → Makes g One S w F → Traced g.typing g.without One (both_visits v w) (trace_of (behind_body x F))
  body_makes v w (Went Normal r m t) F a b = subst (Traced g.typing g.without One (both_visits v w)) (sym (trace_after t (F r m))) (traced_both g.typing g.without One v w t (trace_of (F r m)) a (b.at r m))
  body_makes v w (Went Continue r m t) F a b = subst (Traced g.typing g.without One (both_visits v w)) (sym (trace_after t (F r m))) (traced_both g.typing g.without One v w t (trace_of (F r m)) a (b.at r m))
  body_makes v w (Went Break r m t) F a b = traced_left g.typing g.without One v w t a
  body_makes v w (Went Return r m t) F a b = traced_left g.typing g.without One v w t a
  body_makes v w (Cut t) F a b = traced_left g.typing g.without One v w t a

  pub makes_body : (v w : Visits) (P : List ℤ → S → Ran Flow S) (F : List ℤ → S → Ran Turned S) → Makes g One S v P → Makes g One S w F → Makes g One S (both_visits v w) (λ r m. behind_body (P r m) F)
  makes_body v w P F a b = record { at = λ r m. body_makes v w (P r m) F (a.at r m) b }

  back_trace : (ks : List ℕ) (r : List ℤ) (x : Ran Flow S) → trace_of (give_back ks r x) ≡ trace_of x
  back_trace ks r (Went y r' m t) = refl
  back_trace ks r (Cut t) = refl

  -- a scope
  pub makes_scope : (v : Visits) (ks : List ℕ) (P : List ℤ → S → Ran Flow S) → Makes g One S v P → Makes g One S (scope ks v) (λ r m. give_back ks r (P r m))
  makes_scope v ks P a = record { at = λ r m. subst (Traced g.typing g.without One (scope ks v)) (sym (back_trace ks r (P r m))) (traced_as g.typing g.without One v (scope ks v) _ (λ e h. h) (λ d. d) (a.at r m)) }

  pub left_trace : (x : Ran Flow S) → trace_of (left_switch x) ≡ trace_of x
  left_trace (Went Normal r m t) = refl
  left_trace (Went Break r m t) = refl
  left_trace (Went Continue r m t) = refl
  left_trace (Went Return r m t) = refl
  left_trace (Cut t) = refl

  -- ---- loops

  again_says : (v : Visits) (x : Ran Turned S) (F : List ℤ → S → Ran Flow S) → ((e : Entry) → IsIn e (trace_of x) → Says g.typing g.without v e) → ((r : List ℤ) (m : S) (e : Entry) → IsIn e (trace_of (F r m)) → Says g.typing g.without v e) → (e : Entry) → IsIn e (trace_of (again x F)) → Says g.typing g.without v e
  again_says v (Went Another r m t) F a b e h = elim (in_either e t (trace_of (F r m)) (subst (IsIn e) (trace_after t (F r m)) h)) [ inl i ↦ a e i | inr i ↦ b r m e i ]
  again_says v (Went (Ended flow) r m t) F a b e h = a e h
  again_says v (Cut t) F a b e h = a e h

  repeated_says : (v : Visits) (turn : List ℤ → S → Ran Turned S) → Makes g One S v turn → (n : ℕ) (r : List ℤ) (m : S) (e : Entry) → IsIn e (trace_of (repeated n turn r m)) → Says g.typing g.without v e
  repeated_says v turn a zero r m e h = absurd h
  repeated_says v turn a (suc n) r m e h = again_says v (turn r m) (repeated n turn) (λ d i. (a.at r m).says d i) (λ r m d i. repeated_says v turn a n r m d i) e h

  again_trace : (x : Ran Turned S) (turn : List ℤ → S → Ran Turned S) → trace_of (again x (repeated 0 turn)) ≡ trace_of x
  again_trace (Went Another r m t) turn = append-nil t
  again_trace (Went (Ended flow) r m t) turn = refl
  again_trace (Cut t) turn = refl

  -- turns of a loop: where each event is to be made once, there is one
  pub makes_repeated : (v : Visits) (turn : List ℤ → S → Ran Turned S) (n : ℕ) → (One → n ≡ 1) → Makes g One S v turn → Makes g One S v (repeated n turn)
  makes_repeated v turn n only a = record {
    at = λ r m. record {
      says = λ e h. repeated_says v turn a n r m e h;
      once = λ one d. subst (λ k. AreOnce (trace_of (repeated k turn r m))) (sym (only one)) (subst AreOnce (sym (again_trace (turn r m) turn)) ((a.at r m).once one d));
    };
  }

  -- ---- a branch that is entered

  entered_says : (x : StmtTree) (d : Entry) → Says g.typing g.without (statement_visits g.typing false x) d → Says g.typing g.without (statement_visits g.typing true x) d
  entered_says (s.statement n f) d (inl h) = inl h
  entered_says (s.statement n f) (Ub c) (inr h) = inr h
  entered_says (s.statement n f) (Enter k) (inr h) = absurd cc
  entered_says (s.statement n f) (Seen k b o) (inr h) = inr h

  entered_distinct : (x : StmtTree) → Distinct (statement_visits g.typing true x) → Distinct (statement_visits g.typing false x)
  entered_distinct (s.statement n f) d = (d.0, tt, record { by = d.2.by })

  entered_own : (x : StmtTree) → Says g.typing g.without (statement_visits g.typing true x) (Enter (statement_node x))
  entered_own (s.statement n f) = inr (refl, refl)

  entered_new : (x : StmtTree) → Distinct (statement_visits g.typing true x) → (d : Entry) → Says g.typing g.without (statement_visits g.typing false x) d → SameEvent (Enter (statement_node x)) d → ⊥
  entered_new (s.statement n f) d (Ub c) h same = same
  entered_new (s.statement n f) d (Enter k) (inl h) same = d.2.by k (says_stands g.typing g.without (statement_form_visits g.typing f) (Enter k) h) (sym same)
  entered_new (s.statement n f) d (Enter k) (inr h) same = absurd cc
  entered_new (s.statement n f) d (Seen k b o) h same = same

  pub makes_entered : {A : Type 0} (x : StmtTree) (P : List ℤ → S → Ran A S) → Makes g One S (statement_visits g.typing false x) P → Makes g One S (statement_visits g.typing true x) (λ r m. entered (statement_node x) (P r m))
  makes_entered x P a = makes_front g One S (statement_visits g.typing false x) (statement_visits g.typing true x) (statement_node x) P (entered_says x) (entered_distinct x) (entered_own x) (entered_new x) a

  -- a branch with what comes behind it, a step or a test
  pub makes_entered_then : {A : Type 0} (x : StmtTree) (w : Visits) (P : List ℤ → S → Ran A S) → Makes g One S (both_visits w (statement_visits g.typing false x)) P → Makes g One S (both_visits w (statement_visits g.typing true x)) (λ r m. entered (statement_node x) (P r m))
  makes_entered_then x w P a =
      makes_front g One S (both_visits w (statement_visits g.typing false x)) (both_visits w (statement_visits g.typing true x)) (statement_node x) P
      (λ d h. elim h [ inl i ↦ inl i | inr i ↦ inr (entered_says x d i) ])
      (λ d. (d.0, entered_distinct x d.1, record { by = λ k p q. d.2.by k p (stands x k q) }))
      (inr (entered_own x))
      (λ d e h same. elim h [ inl i ↦ outside d e i same | inr i ↦ entered_new x d.1 e i same ])
      a
    where
      stands : (x : StmtTree) (k : ℕ) → Stands k (statement_visits g.typing false x) → Stands k (statement_visits g.typing true x)
      stands (s.statement n f) k (inl h) = inl h
      stands (s.statement n f) k (inr h) = inr h

      own : (x : StmtTree) → Stands (statement_node x) (statement_visits g.typing true x)
      own (s.statement n f) = inr refl

      outside : Distinct (both_visits w (statement_visits g.typing true x)) → (d : Entry) → Says g.typing g.without w d → SameEvent (Enter (statement_node x)) d → ⊥
      outside d (Ub c) h same = same
      outside d (Enter k) h same = d.2.by k (says_stands g.typing g.without w (Enter k) h) (subst (λ j. Stands j (statement_visits g.typing true x)) same (own x))
      outside d (Seen k b o) h same = same
