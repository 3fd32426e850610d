-- Names of the inputs and the marked AND gates, from the inputs up.
use Rattle.std.proofs.Common.{◌≡◌, ℕ, ◌+◌, ◌-◌, ◌*◌, ◌/◌, ◌<◌, Bool, List, [], ◌∷◌, ◌++◌, Option, Some, None, length, get_or, slice_get, refl, sym, ap, ◌∙◌, subst, arith, inl, inr, length-append}
use Rattle.std.specs.List.{Contains, All}
use Rattle.std.proofs.lemmas.Bool.{cases_eq, cases_lt}
use Rattle.std.proofs.lemmas.List.{get_or_append_left, get_or_at, get_or_default}
use Rattle.std.proofs.lemmas.List.Elements.{Contains-push_cases, Contains-push, Contains-append_left, Contains-get_or}
use Rattle.std.proofs.lemmas.Option.{slice_get_within}
use Rattle.std.proofs.lemmas.Bool.Decides.{nat_tests}
use Rattle.stk_gates.specs.declared.edge.Edge.{Edge}
use Rattle.stk_gates.specs.Edges.{folded}
use Rattle.stk_gates.specs.Tables.{Table, gate_count, IsOrdered, IsReduced, IsEdge}
use Rattle.stk_cnf.specs.Clauses.{HasName}
use Rattle.stk_cnf.specs.Marks.{IsMarked, AreMarked}
use Rattle.stk_cnf.specs.Naming.{IsAmong, IsClosed, HasNames, IsNumberedTo, IsNumbering}

-- a gate's name stays as names are pushed
name_kept : (names : List ℕ) (x k : ℕ) → k < length names → get_or (names ++ x ∷ []) k 0 ≡ get_or names k 0
name_kept names x k lt = get_or_append_left names (x ∷ []) 0 k lt

in_ands : (ands : List ℕ) (j : ℕ) → j < length ands → Contains ands (get_or ands j 0)
in_ands ands j lt = Contains-get_or ands j 0 lt

-- a gate that isn't marked
pub numbered_past : (t : Table) (marks : List Bool) (names ands : List ℕ) (vars gate : ℕ) → (IsMarked marks gate → ⊥) → t.inputs < gate → IsNumberedTo t marks names ands vars gate → IsNumberedTo t marks (names ++ vars ∷ []) ands vars (gate + 1)
numbered_past t marks names ands vars gate un above r =
    let low : (j : ℕ) → j < length ands → get_or ands j 0 < length names = λ j lt. let e = (r.exact (get_or ands j 0)).0 (in_ands ands j lt) in omega (arith, e.1, r.long) in
    record {
      long = omega (arith, r.long, length-append names (vars ∷ []));
      naming = record {
        inputs = λ k lt. name_kept names vars (1 + k) (omega (arith, lt, above, r.long)) ∙ r.naming.inputs k lt;
        gate_names = λ j lt. name_kept names vars (get_or ands j 0) (low j lt) ∙ r.naming.gate_names j lt;
      };
      rising = r.rising;
      exact = λ n. (
        (λ h. let e = (r.exact n).0 h in (e.0, omega (arith, e.1), e.2)),
        (λ h. elim (cases_eq n gate) [ inl e ↦ absurd (un (subst (λ x. IsMarked marks x) e h.2)) | inr ne ↦ (r.exact n).1 (h.0, omega (arith, h.1, ne), h.2) ]),
      );
      count = r.count;
      few = omega (arith, r.few);
    }

-- a marked gate
pub numbered_more : (t : Table) (marks : List Bool) (names ands : List ℕ) (vars gate : ℕ) → IsMarked marks gate → t.inputs < gate → IsNumberedTo t marks names ands vars gate → IsNumberedTo t marks (names ++ vars ∷ []) (ands ++ gate ∷ []) (vars + 1) (gate + 1)
numbered_more t marks names ands vars gate is above r =
    let low : (j : ℕ) → j < length ands → get_or ands j 0 < gate = λ j lt. let e = (r.exact (get_or ands j 0)).0 (in_ands ands j lt) in omega (arith, e.1) in
    let last : get_or (ands ++ gate ∷ []) (length ands) 0 ≡ gate = get_or_at ands gate [] 0 (length ands) refl in
    record {
      long = omega (arith, r.long, length-append names (vars ∷ []));
      naming = record {
        inputs = λ k lt. name_kept names vars (1 + k) (omega (arith, lt, above, r.long)) ∙ r.naming.inputs k lt;
        gate_names = λ j lt. elim (cases_lt j (length ands)) [
          | inl old ↦
              ap (λ n. get_or (names ++ vars ∷ []) n 0) (name_kept ands gate j old) ∙ name_kept names vars (get_or ands j 0) (omega (arith, low j old, r.long)) ∙ r.naming.gate_names j old
          | inr new ↦
              let e : j ≡ length ands = omega (arith, lt, new, length-append ands (gate ∷ [])) in
              ap (λ n. get_or (names ++ vars ∷ []) n 0) (ap (λ n. get_or (ands ++ gate ∷ []) n 0) e ∙ last) ∙ get_or_at names vars [] 0 gate r.long ∙ omega (arith, e, r.count)
        ];
      };
      rising = λ i j lt l. elim (cases_lt j (length ands)) [
        | inl old ↦ omega (arith, r.rising i j lt old, name_kept ands gate i (omega (arith, lt, old)), name_kept ands gate j old)
        | inr new ↦
            let e : j ≡ length ands = omega (arith, l, new, length-append ands (gate ∷ [])) in
            let i' : i < length ands = omega (arith, lt, e) in
            let v : get_or (ands ++ gate ∷ []) j 0 ≡ gate = ap (λ n. get_or (ands ++ gate ∷ []) n 0) e ∙ last in
            omega (arith, low i i', name_kept ands gate i i', v)
      ];
      exact = λ n. (
        (λ h. elim (Contains-push_cases ands gate n h) [
          | inl k ↦ let e = (r.exact n).0 k in (e.0, omega (arith, e.1), e.2)
          | inr e ↦ (omega (arith, e, above), omega (arith, e), subst (λ x. IsMarked marks x) e is)
        ]),
        (λ h. elim (cases_eq n gate) [
          | inl e ↦ subst (λ x. Contains (ands ++ gate ∷ []) x) (sym e) (Contains-push ands gate)
          | inr ne ↦ Contains-append_left ands (gate ∷ []) n ((r.exact n).1 (h.0, omega (arith, h.1, ne), h.2))
        ]),
      );
      count = omega (arith, r.count, length-append ands (gate ∷ []));
      few = omega (arith, r.few);
    }

-- the edges of an AND that needs a gate are no constants, and come from two gates
pub whole : (a b : Edge) → a.0 < b.0 → folded a b ≡ None → (1 < a.0) × (a.0 / 2 < b.0 / 2)
whole a b lt h = grind (arith, nat_tests)

-- a gate has a larger variable than its second edge, and that a larger one than its first
abbrev pub Rises : Table → List ℕ → ℕ → Type 0
Rises t names n = (p : Edge × Edge) → slice_get t.pairs (n - (1 + t.inputs)) ≡ Some p → (get_or names (p.0.0 / 2) 0 < get_or names (p.1.0 / 2) 0) × (get_or names (p.1.0 / 2) 0 < get_or names n 0)

-- the two edges of an AND gate with names, and their variables
pub record HasEdges (t : Table) (names : List ℕ) (vars gate : ℕ) (a b : Edge) : Type 0 where
  pub at : slice_get t.pairs (gate - (1 + t.inputs)) ≡ Some (a, b)
  pub first : HasName names vars a
  pub second : HasName names vars b
  pub some : 1 < a.0
  pub other : a.0 / 2 < b.0 / 2
  pub low : get_or names (a.0 / 2) 0 < get_or names (b.0 / 2) 0
  pub high : get_or names (b.0 / 2) 0 < get_or names gate 0

pub gate_edges : (t : Table) (names : List ℕ) (vars gate : ℕ) (a b : Edge) (r : Option (Edge × Edge)) → r ≡ Some (a, b) → ((k : ℕ) → gate ≡ 1 + t.inputs + k → r ≡ slice_get t.pairs k) → t.inputs < gate → IsReduced t → HasNames t names vars gate → Rises t names gate → HasEdges t names vars gate a b
gate_edges t names vars gate a b r is within above reduced has rises =
    let k : ℕ = gate - (1 + t.inputs) in
    let at : slice_get t.pairs k ≡ Some (a, b) = sym (within k (omega (arith, above))) ∙ is in
    let both = has.1 (a, b) at in
    let red = reduced k (a, b) at in
    let apart = whole a b red.0 red.1 in
    let up = rises (a, b) at in
    record { at = at; first = both.0; second = both.1; some = apart.0; other = apart.1; low = up.0; high = up.1 }

module _ (t : Table) (goal : Edge) (marks : List Bool) (names ands : List ℕ) (vars : ℕ) (m : AreMarked t goal marks 0) (r : IsNumbering t marks names ands vars) where
  -- a marked gate of the table is an input or listed
  among : (n : ℕ) → n < gate_count t → IsMarked marks n → IsAmong t ands n
  among n lt h =
      elim (cases_lt t.inputs n) [
        | inl above ↦ let k = (r.exact n).1 (above, lt, h) in inr (k.0, k.1, get_or_default ands k.0 0 n k.1 ∙ k.2)
        | inr low ↦ inl low
      ]

  -- and has a name, unless it is the constant
  pub has_name : (e : Edge) → e.0 / 2 < gate_count t → IsMarked marks (e.0 / 2) → HasName names vars e
  has_name e lt h = (
    omega (arith, lt, r.long),
    λ some. elim (among (e.0 / 2) lt h) [
      | inl low ↦
          let k : ℕ = e.0 / 2 - 1 in
          let shape : 1 + k ≡ e.0 / 2 = omega (arith, some) in
          let is : get_or names (e.0 / 2) 0 ≡ k = ap (λ n. get_or names n 0) (sym shape) ∙ r.naming.inputs k (omega (arith, low, some)) in
          omega (arith, is, low, some, r.count)
      | inr f ↦
          let is : get_or names (e.0 / 2) 0 ≡ t.inputs + f.0 = ap (λ n. get_or names n 0) (sym f.2) ∙ r.naming.gate_names f.0 f.1 in
          omega (arith, is, f.1, r.count)
    ],
  )

  module _ (ordered : IsOrdered t) where
    operands_of : (n : ℕ) (p : Edge × Edge) → t.inputs < n → IsMarked marks n → slice_get t.pairs (n - (1 + t.inputs)) ≡ Some p → (IsMarked marks (p.0.0 / 2) × IsMarked marks (p.1.0 / 2)) × ((p.0.0 / 2 < gate_count t) × (p.1.0 / 2 < gate_count t))
    operands_of n p above h at =
        let k : ℕ = n - (1 + t.inputs) in
        let e : n ≡ 1 + t.inputs + k = omega (arith, above) in
        let o = ordered k p at in
        let w = slice_get_within t.pairs k p at in
        (m.closed k p (omega arith) (subst (λ x. IsMarked marks x) e h) at, (omega (arith, o.0, w), omega (arith, o.1, w)))

    pub listed_names : All (HasNames t names vars) ands
    listed_names j d lt =
        let n : ℕ = get_or ands j d in
        let k : Contains ands n = Contains-get_or ands j d lt in
        let e = (r.exact n).0 k in
        let twice : 2 * n / 2 ≡ n = omega arith in (
          has_name (record { 0 = 2 * n }) (omega (arith, e.1, twice)) (subst (λ x. IsMarked marks x) (sym twice) e.2),
          λ p at. let o = operands_of n p e.0 e.2 at in (has_name p.0 o.1.0 o.0.0, has_name p.1 o.1.1 o.0.1),
        )

    -- the variables rise with the gates
    name_rises : (a b : ℕ) → 0 < a → a < b → b < gate_count t → IsMarked marks a → IsMarked marks b → get_or names a 0 < get_or names b 0
    name_rises a b some lt within ma mb =
        elim (among a (omega (arith, lt, within)) ma) [
          | inl low ↦
              let k : ℕ = a - 1 in
              let shape : 1 + k ≡ a = omega (arith, some) in
              let is : get_or names a 0 ≡ k = ap (λ n. get_or names n 0) (sym shape) ∙ r.naming.inputs k (omega (arith, low, some)) in
              elim (among b within mb) [
                | inl low' ↦
                    let j : ℕ = b - 1 in
                    let shape' : 1 + j ≡ b = omega (arith, some, lt) in
                    let is' : get_or names b 0 ≡ j = ap (λ n. get_or names n 0) (sym shape') ∙ r.naming.inputs j (omega (arith, low', some, lt)) in
                    omega (arith, is, is', lt, some)
                | inr g ↦
                    let is' : get_or names b 0 ≡ t.inputs + g.0 = ap (λ n. get_or names n 0) (sym g.2) ∙ r.naming.gate_names g.0 g.1 in
                    omega (arith, is, is', low, some)
              ]
          | inr f ↦
              let e = (r.exact (get_or ands f.0 0)).0 (in_ands ands f.0 f.1) in
              let is : get_or names a 0 ≡ t.inputs + f.0 = ap (λ n. get_or names n 0) (sym f.2) ∙ r.naming.gate_names f.0 f.1 in
              elim (among b within mb) [
                | inl low' ↦ absurd (omega (arith, e.0, f.2, low', lt))
                | inr g ↦
                    let is' : get_or names b 0 ≡ t.inputs + g.0 = ap (λ n. get_or names n 0) (sym g.2) ∙ r.naming.gate_names g.0 g.1 in
                    elim (cases_lt f.0 g.0) [
                      | inl before ↦ omega (arith, is, is', before)
                      | inr later ↦ elim (cases_eq f.0 g.0) [
                        | inl same ↦ absurd (omega (arith, lt, f.2, g.2, ap (λ j. get_or ands j 0) same))
                        | inr other ↦ absurd (omega (arith, lt, f.2, g.2, r.rising g.0 f.0 (omega (arith, later, other)) f.1))
                      ]
                    ]
              ]
        ]

    pub listed_rising : IsReduced t → All (Rises t names) ands
    listed_rising reduced j d lt p at =
        let n : ℕ = get_or ands j d in
        let e = (r.exact n).0 (Contains-get_or ands j d lt) in
        let o = operands_of n p e.0 e.2 at in
        let red = reduced (n - (1 + t.inputs)) p at in
        let apart = whole p.0 p.1 red.0 red.1 in
        let below = ordered (n - (1 + t.inputs)) p at in (
          name_rises (p.0.0 / 2) (p.1.0 / 2) (omega (arith, apart.0)) apart.1 o.1.1 o.0.0 o.0.1,
          name_rises (p.1.0 / 2) n (omega (arith, apart.0, apart.1)) (omega (arith, below.1, e.0)) e.1 o.0.1 e.2,
        )

    pub closed : IsEdge t goal → IsClosed t ands goal
    closed edge = record {
      within = λ j lt. let e = (r.exact (get_or ands j 0)).0 (in_ands ands j lt) in (e.0, e.1);
      operands = λ j p lt at.
          let e = (r.exact (get_or ands j 0)).0 (in_ands ands j lt) in
          let o = operands_of (get_or ands j 0) p e.0 e.2 at in
          (among (p.0.0 / 2) o.1.0 o.0.0, among (p.1.0 / 2) o.1.1 o.0.1);
      goal_among = among (goal.0 / 2) (omega (arith, edge)) m.itself;
    }
