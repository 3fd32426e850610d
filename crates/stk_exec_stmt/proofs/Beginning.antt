-- What the declarator of an automatic object leaves, over plain values.
use Rattle.std.proofs.Common.{◌≡◌, inl, ℕ, List, [], Bool, true, false, if◌then◌else◌, Option, Some, None, ℤ, set, refl, sym, subst, ◌∙◌}
use Rattle.std.proofs.lemmas.List.{append-nil}
use Rattle.stk_ctype.specs.declared.kind.IntKind.{IntKind}
use Rattle.stk_type_rules.specs.Types.{is_scalar}
use Rattle.stk_meaning.specs.Typings.{number_kind, converted}
use Rattle.stk_meaning.specs.Places.{Setting, Target, in_register, target_at}
use Rattle.stk_meaning.specs.Worlds.{World, Cut, and_then, answered, written, gives, Normal}
use Rattle.stk_meaning.specs.Expressions.{stored_at, address_of}
use Rattle.stk_meaning.specs.Declarations.{begun_with, begun_without}
use Rattle.stk_eval_expr.specs.declared.state.State.{State}
use Rattle.stk_eval_expr.specs.Answering.{Answers}
use Rattle.stk_eval_expr.specs.Leaving.{Leaves}
use Rattle.stk_eval_expr.proofs.LeavingLaws.{then_leaves, value_leaves}
use Rattle.stk_exec_stmt.specs.Ending.{automatic_end}
use Rattle.stk_exec_stmt.proofs.Flowing.{grown, revalued}

module _ {K S : Type 0} {shown : K → S} where
  -- the outside writes, whatever the value that comes behind
  pub rewritten : {A B : Type 0} (x : A) (y : B) (o : Option S) (r : List ℤ) (s0 s1 : State K) → Leaves shown (written x o r) x s0 s1 → Leaves shown (written y o r) y s0 s1
  rewritten x y None r s0 s1 a = grown (Cut []) (Cut []) x y [] s0 s1 (λ e. e) refl a
  rewritten x y (Some m) r s0 s1 a = revalued x y r m [] s0 s1 a

  -- a scalar's number is stored
  pub stored_leaves : (g : Setting) (w : World S) (k : ℕ) (t : Target) (kind : IntKind) (place : ℕ) (x y : ℤ) (s0 s1 : State K) →
      true ≡ is_scalar (g.typing.type_at k) → t ≡ target_at g k → kind ≡ number_kind (g.typing.type_at k) → place ≡ address_of w (target_at g k) k → y ≡ converted (g.typing.type_at k) x →
      ((z : ℤ) → Leaves shown (stored_at w t kind place y z s0.registers.items (shown s0.kept)) z s0 s1) →
      Leaves shown (automatic_end g w k x s0.registers.items (shown s0.kept)) Normal s0 s1
  stored_leaves g w k t kind place x y s0 s1 scalar et ek ep ey a =
      let j = number_kind (g.typing.type_at k) in
      let r = s0.registers.items in
      let m = shown s0.kept in
      let a0 = subst (λ (u : Target). Leaves shown (stored_at w u kind place y x r m) x s0 s1) et (a x) in
      let a1 = subst (λ (u : IntKind). Leaves shown (stored_at w (target_at g k) u place y x r m) x s0 s1) ek a0 in
      let a2 = subst (λ (u : ℕ). Leaves shown (stored_at w (target_at g k) j u y x r m) x s0 s1) ep a1 in
      let a3 = subst (λ (u : ℤ). Leaves shown (stored_at w (target_at g k) j (address_of w (target_at g k) k) u x r m) x s0 s1) ey a2 in
      subst (λ (u : Bool). Leaves shown (if u then begun_with g w k x r m else written Normal (w.write m) r) Normal s0 s1) scalar
      (then_leaves (stored_at w (target_at g k) j (address_of w (target_at g k) k) (converted (g.typing.type_at k) x) x r m) (λ y. gives Normal) x Normal s0 s1 s1 a3 (value_leaves Normal Normal s1 refl))

  -- the outside writes an array or a struct
  pub outside_leaves : (g : Setting) (w : World S) (k : ℕ) (x : ℤ) (s0 s1 : State K) → false ≡ is_scalar (g.typing.type_at k) →
      Leaves shown (written x (w.write (shown s0.kept)) s0.registers.items) x s0 s1 →
      Leaves shown (automatic_end g w k x s0.registers.items (shown s0.kept)) Normal s0 s1
  outside_leaves g w k x s0 s1 other a =
      let r = s0.registers.items in
      let m = shown s0.kept in
      subst (λ (u : Bool). Leaves shown (if u then begun_with g w k x r m else written Normal (w.write m) r) Normal s0 s1) other
      (rewritten x Normal (w.write m) r s0 s1 a)

  -- a register without initialiser has the number that the outside answers
  pub unset_leaves : (g : Setting) (w : World S) (k i : ℕ) (kind : IntKind) (o : Option ℤ) (x : ℤ) (m : S) (s0 s1 : State K) → kind ≡ number_kind (g.typing.type_at k) → o ≡ Some x → Answers o m (w.unset k kind (shown s0.kept)) →
      s1.cut ≡ s0.cut → s1.registers.items ≡ set s0.registers.items i x → shown s1.kept ≡ m → s1.entries.items ≡ s0.entries.items → s1.most ≡ s0.most →
      Leaves shown (begun_without g w k (in_register i) s0.registers.items (shown s0.kept)) Normal s0 s1
  unset_leaves g w k i kind o x m s0 s1 ek eo a ec er em en eb =
      let j = number_kind (g.typing.type_at k) in
      let r = s0.registers.items in
      let a0 : w.unset k kind (shown s0.kept) ≡ Some (x, m) = subst (λ (u : Option ℤ). Answers u m (w.unset k kind (shown s0.kept))) eo a in
      let a1 : w.unset k j (shown s0.kept) ≡ Some (x, m) = subst (λ (u : IntKind). w.unset k u (shown s0.kept) ≡ Some (x, m)) ek a0 in
      subst (λ (u : Option (ℤ × S)). Leaves shown (and_then (answered u r) (λ x r m. gives Normal (set r i x) m)) Normal s0 s1) (sym a1)
      (record { goes = λ h. inl (refl, ec ∙ h, er, em, en ∙ sym (append-nil s0.entries.items)); stays = λ h. record { cut = ec ∙ h; entries = en }; most = eb })

  -- where no answer is left, the run ends
  pub unset_cut : (g : Setting) (w : World S) (k i : ℕ) (kind : IntKind) (o : Option ℤ) (m : S) (s0 s1 : State K) → kind ≡ number_kind (g.typing.type_at k) → o ≡ None → Answers o m (w.unset k kind (shown s0.kept)) →
      s1.cut ≡ true → s1.entries.items ≡ s0.entries.items → s1.most ≡ s0.most →
      Leaves shown (begun_without g w k (in_register i) s0.registers.items (shown s0.kept)) Normal s0 s1
  unset_cut g w k i kind o m s0 s1 ek eo a ec en eb =
      let j = number_kind (g.typing.type_at k) in
      let r = s0.registers.items in
      let a0 : w.unset k kind (shown s0.kept) ≡ None = subst (λ (u : Option ℤ). Answers u m (w.unset k kind (shown s0.kept))) eo a in
      let a1 : w.unset k j (shown s0.kept) ≡ None = subst (λ (u : IntKind). w.unset k u (shown s0.kept) ≡ None) ek a0 in
      subst (λ (u : Option (ℤ × S)). Leaves shown (and_then (answered u r) (λ x r m. gives Normal (set r i x) m)) Normal s0 s1) (sym a1)
      (record { goes = λ h. inl (ec, en ∙ sym (append-nil s0.entries.items)); stays = λ h. record { cut = ec; entries = en }; most = eb })
