-- A conflict above level 0 stands.
use Rattle.std.proofs.Common.{◌≡◌, ℕ, zero, suc, ◌+◌, ◌<◌, List, [], length, get_or, take, map, sym, ◌∙◌, ap, subst, arith, refl, Option, Some, None}
use Rattle.std.specs.List.{Contains}
use Rattle.std.proofs.lemmas.List.{length-take, length-map, get_or-take, get_or-map, get_or_default}
use Rattle.std.proofs.lemmas.List.Elements.{Contains-get_or}
use Rattle.stk_clauses.specs.declared.literal.Lit.{Lit}
use Rattle.stk_clauses.specs.Literals.{negated}
use Rattle.stk_clauses.specs.Propagation.{IsOpen, AllFalse, AreQuiet, Forced, assumed, unit}
use Rattle.stk_clauses.specs.Derivations.{ConflictStands}
use Rattle.stk_clauses.proofs.Units.{no_falsified, leaves}
use Rattle.stk_propagate.specs.Assigned.{AreFresh}
use Rattle.stk_propagate.specs.Trailed.{Trailed}
use Rattle.stk_propagate.specs.Fitting.{Fits}
use Rattle.stk_propagate.proofs.Lists.{no_pair}
use Rattle.stk_solver.specs.Learnt.{AreLevels}
use Rattle.stk_solver.proofs.Leading.{fresh_front}
use Rattle.stk_solver.proofs.LearntClauses.{quiet_at}

abbrev zero_lit : Lit
zero_lit = record { 0 = 0 }

-- the assumed literals, in order
abbrev pub turns_of : List Lit → List ℕ → List Lit
turns_of t ls = map (λ k. get_or t k zero_lit) ls

module _ (s : Trailed) (cs : List (List Lit)) (ls : List ℕ) (f : Fits s cs) (a : AreLevels s.assigned ls) (fresh : AreFresh s.assigned.literals) where
  abbrev t : List Lit
  t = s.assigned.literals

  abbrev turns : List Lit
  turns = turns_of t ls

  turn_at : (j : ℕ) (e : Lit) → j < length ls → get_or turns j e ≡ get_or t (get_or ls j 0) zero_lit
  turn_at j e lt = get_or-map (λ k. get_or t k zero_lit) ls j 0 e lt

  -- the turns before the one at i stand before its place
  before : (i : ℕ) → i < length ls → (m : Lit) → Contains (take i turns) m → Contains (take (get_or ls i 0) t) m
  before i ilt m (j, jlt, e) =
      let ji : j < i = omega (arith, jlt, length-take i turns) in
      let jl : j < length ls = omega (arith, ji, ilt) in
      let p : ℕ = get_or ls j 0 in
      let lt : p < get_or ls i 0 = a.rising j i ji ilt in
      let w = (a.known i ilt).0 in
      let q : get_or t p m ≡ m = get_or_default t p m zero_lit (omega (arith, lt, w)) ∙ sym (turn_at j m jl) ∙ sym (get_or-take i turns j m ji) ∙ e in
      (p, omega (arith, length-take (get_or ls i 0) t, lt, w), get_or-take (get_or ls i 0) t p m lt ∙ q)

  by_reason : (k : ℕ) → k < length t → ((m : Lit) → Contains (take k t) m → Forced cs (Contains turns) m) → (r : Option ℕ) → get_or s.assigned.reasons k None ≡ r → Forced cs (Contains turns) (get_or t k zero_lit)
  by_reason k lt inner None e =
      let h = a.each k (lt, e) in
      let x : Lit = get_or t k zero_lit in
      let n : length turns ≡ length ls = length-map ls (λ i. get_or t i zero_lit) in
      let q : get_or turns h.0 x ≡ x = turn_at h.0 x h.1 ∙ ap (λ i. get_or t i zero_lit) h.2 in
      assumed (h.0, omega (arith, n, h.1), q)
  by_reason k lt inner (Some r) e =
      let w = f.reasons k r zero_lit lt e in
      unit (Contains-get_or cs r [] w.0) w.1.has (λ m cm ne. inner (negated m) (w.1.others m cm ne))

  -- each true literal is found by propagation from the assumed ones
  forced_below : (n k : ℕ) → k < n → k < length t → Forced cs (Contains turns) (get_or t k zero_lit)
  forced_below zero k kn lt = absurd (omega (arith, kn))
  forced_below (suc n) k kn lt =
      let inner : (m : Lit) → Contains (take k t) m → Forced cs (Contains turns) m = λ m h.
      let jk : h.0 < k = omega (arith, h.1, length-take k t) in
      let jt : h.0 < length t = omega (arith, jk, lt) in
      let e : get_or t h.0 zero_lit ≡ m = get_or_default t h.0 zero_lit m jt ∙ sym (get_or-take k t h.0 m jk) ∙ h.2 in
      subst (λ y. Forced cs (Contains turns) y) e (forced_below n h.0 (omega (arith, jk, kn)) jt) in
      by_reason k lt inner (get_or s.assigned.reasons k None) refl

  pub conflict_stands : (id : ℕ) → 0 < length ls → (Contains cs [] → ⊥) → id < length cs → AllFalse t (get_or cs id []) → ConflictStands cs turns
  conflict_stands id some full lt falsified =
      let n : length turns ≡ length ls = length-map ls (λ k. get_or t k zero_lit) in
      record {
        some = omega (arith, n, some);
        quiet = λ i ilt.
            let il : i < length ls = omega (arith, ilt, n) in
            let p : ℕ = get_or ls i 0 in
            let quiet : AreQuiet (take p t) cs = quiet_at s cs p f (a.known i il) full in
            no_falsified cs (Contains (take i turns)) (take p t) (before i il) (fresh_front t p (no_pair t fresh)) quiet;
        unassigned = λ i d ilt.
            let il : i < length ls = omega (arith, ilt, n) in
            let p : ℕ = get_or ls i 0 in
            let quiet : AreQuiet (take p t) cs = quiet_at s cs p f (a.known i il) full in
            let o = subst (λ y. IsOpen (take p t) y) (sym (turn_at i d il)) (fresh p zero_lit (a.known i il).0) in
            leaves cs (Contains (take i turns)) (take p t) (before i il) (fresh_front t p (no_pair t fresh)) quiet (get_or turns i d) o;
        last = (
          get_or cs id [],
          Contains-get_or cs id [] lt,
          λ m cm.
              let h = falsified m cm in
              subst (λ y. Forced cs (Contains turns) y) (get_or_default t h.0 zero_lit (negated m) h.1 ∙ h.2) (forced_below (h.0 + 1) h.0 (omega arith) h.1),
        );
      }
