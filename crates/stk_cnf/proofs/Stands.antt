-- The clauses of named gates stand for the goal.
use Rattle.std.proofs.Common.{◌≡◌, ℕ, ◌+◌, ◌-◌, ◌*◌, ◌/◌, ◌<◌, ◌≤◌, Bool, ◌&&◌, List, [], ◌∷◌, length, get_or, refl, sym, ap, ◌∙◌, subst, arith, inl, inr, if◌then◌else◌}
use Rattle.std.specs.List.{All}
use Rattle.std.proofs.lemmas.Bool.{cases_lt, le-ltb, lt-ltb}
use Rattle.std.proofs.lemmas.List.Elements.{Contains-get_or}
use Rattle.stk_clauses.specs.declared.store.Cnf.{Cnf}
use Rattle.stk_clauses.specs.Literals.{AreBelow}
use Rattle.stk_gates.specs.declared.edge.Edge.{Edge}
use Rattle.stk_gates.specs.Edges.{edge_value}
use Rattle.stk_gates.specs.Tables.{Table, gate_count, IsOrdered, IsEdge}
use Rattle.stk_cnf.specs.Clauses.{HasName, named, all_tied, IsGrown}
use Rattle.stk_cnf.specs.Marks.{AreMarked}
use Rattle.stk_cnf.specs.Naming.{IsNumbering}
use Rattle.stk_cnf.specs.Standing.{Needs, itself, first, second, variables, StandsFor}
use Rattle.stk_cnf.proofs.Literals.{satisfies_from, value_from}
use Rattle.stk_cnf.proofs.Down.{needs_marked}
use Rattle.stk_cnf.proofs.Up.{closed, has_name}
use Rattle.stk_cnf.proofs.Exact.{only_extensions, each_extension}

-- what is needed stands on the goal's gate or below
pub needs_low : (t : Table) (goal : Edge) → IsOrdered t → (n : ℕ) → Needs t goal n → n ≤ goal.0 / 2
needs_low t goal ordered n itself = omega arith
needs_low t goal ordered n (first k p need at) = let o = (ordered k p at).0 in omega (arith, o, needs_low t goal ordered (1 + t.inputs + k) need)
needs_low t goal ordered n (second k p need at) = let o = (ordered k p at).1 in omega (arith, o, needs_low t goal ordered (1 + t.inputs + k) need)

module _ (t : Table) (goal : Edge) (marks : List Bool) (names ands : List ℕ) (vars : ℕ) (ordered : IsOrdered t) (edge : IsEdge t goal) (m : AreMarked t goal marks 0) (r : IsNumbering t marks names ands vars) where
  pub listed_within : All (λ n. (t.inputs < n) × (n < gate_count t)) ands
  listed_within j d lt = let e = (r.exact (get_or ands j d)).0 (Contains-get_or ands j d lt) in (e.0, e.1)

  pub goal_name : HasName names vars goal
  goal_name = has_name t goal marks names ands vars m r goal (omega (arith, edge)) m.itself

  pub stands : (cnf : Cnf) → cnf.vars ≡ vars → IsGrown vars (3 * length ands + 1) [] cnf.store (λ v. all_tied t (named names v) ands && edge_value (named names v) goal) → StandsFor t goal cnf
  stands cnf same g =
      let shut = closed t goal marks names ands vars m r ordered edge in
      record {
        ands = ands;
        ascending = r.rising;
        needed = λ n. (
          (λ h. let e = (r.exact n).0 h in (m.sound n e.2, e.0)),
          (λ h. (r.exact n).1 (h.1, omega (arith, needs_low t goal ordered n h.0, edge), needs_marked t goal marks m n h.0)),
        );
        count = same ∙ r.count;
        within = subst (λ k. All (AreBelow k) cnf.store) (sym same) (g.below (λ k d lt. absurd (omega (arith, lt))));
        extensions = λ gates o holds. satisfies_from (variables t ands gates) cnf.store (g.value (variables t ands gates) ∙ each_extension t ands names goal gates ordered r.naming shut o holds);
        alone = λ v gates s o inputs.
            let only = only_extensions t ands names goal v gates ordered r.naming shut (sym (g.value v) ∙ value_from v cnf.store s) o inputs in (
              only.0,
              λ i lt. elim (cases_lt i t.inputs) [
                | inl in' ↦ sym (inputs i in') ∙ sym (ap (λ b. if b then gates (1 + i) else gates (get_or ands (i - t.inputs) 0)) (lt-ltb i t.inputs in'))
                | inr out ↦
                    let j : ℕ = i - t.inputs in
                    let e : i ≡ t.inputs + j = omega (arith, out) in
                    ap v e ∙ only.1 j (omega (arith, lt, same, r.count, out)) ∙ sym (ap (λ b. if b then gates (1 + i) else gates (get_or ands j 0)) (le-ltb i t.inputs out))
              ],
            );
        few = omega (arith, g.few);
        short = g.short (λ k d lt. absurd (omega (arith, lt)));
      }

-- a constant goal needs no AND gate
pub none_listed : (t : Table) (goal : Edge) (marks : List Bool) (names ands : List ℕ) (vars : ℕ) → IsOrdered t → goal.0 < 2 → AreMarked t goal marks 0 → IsNumbering t marks names ands vars → ands ≡ []
none_listed t goal marks names [] vars ordered small m r = refl
none_listed t goal marks names (n ∷ ns) vars ordered small m r =
    let e = (r.exact n).0 (0, omega arith, refl) in
    let k = needs_low t goal ordered n (m.sound n e.2) in
    absurd (omega (arith, e.0, k, small))
