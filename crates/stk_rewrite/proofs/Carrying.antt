-- What stands for the parts of a term costs no more than they.
use Rattle.std.proofs.Common.{◌≡◌, ℕ, suc, ◌-◌, ◌<◌, ◌≤◌, Bool, true, false, ◌&&◌, List, [], ◌∷◌, ◌++◌, length, get_or, refl, sym, ap, subst, ◌∙◌, arith, length-append, nat_lt, if◌then◌else◌}
use Rattle.stk_terms.specs.declared.term.TermId.{TermId}
use Rattle.stk_terms.specs.Terms.{Stored, child, nth}
use Rattle.stk_terms.specs.Fitting.{IsSound}
use Rattle.stk_terms.specs.Growth.{Keeps}
use Rattle.stk_terms.specs.Cost.{bound_at, cost, weight, IsClosed, Grows}
use Rattle.stk_terms.proofs.Reading.{child_below}
use Rattle.stk_terms.proofs.Older.{term_kept}
use Rattle.stk_terms.proofs.Weighing.{weight_none, weight_grows, bound_kept, only, only_closed, only_has, all_weighs, cost_grown}
use Rattle.stk_rewrite.specs.Normal.{AreSimplified}
use Rattle.stk_rewrite.specs.Carries.{HasChildren, Carries}
use Rattle.stk_rewrite.proofs.Standing.{behind}

pub carries_none : (s : Stored) (q : ℕ → Bool) → Carries s s q []
carries_none s q = record { chosen = λ _. false; closed = record { closed = λ i k h l. h }; has = λ k e l. absurd (omega arith); within = (let h = weight_none s (length s.terms) in omega (arith, h)) }

module _ (first old new : Stored) (known : IsSound first) (sound : IsSound old) (before : Keeps first old) (keeps : Keeps old new) (q : ℕ → Bool) (closed : IsClosed first q) (done : List TermId) (all : AreSimplified old q done) (carry : Carries first old q done) (v : TermId) (i : ℕ) (count : length done ≡ i) (h : i < length first.terms) (next : q i ≡ true → (c : ℕ → Bool) → IsClosed old c → HasChildren c old done i → Grows old new c (bound_at old i) v.0) where
  kids : q i ≡ true → HasChildren carry.chosen old done i
  kids e k d l =
      let t = term_kept first old known before i h in
      let m = subst (λ u. k < length u.args) t l in
      let f : child old i k ≡ child first i k = ap (λ u. nth u.args k) t in
      let b : child first i k < i = child_below first known i k h m in
      subst (λ n. carry.chosen (get_or done n d).0 ≡ true) (sym f) (carry.has (child first i k) d (omega (arith, b, count)) (closed.closed i k e m))

  grown : q i ≡ true → Grows old new carry.chosen (bound_at old i) v.0
  grown e = next e carry.chosen carry.closed (kids e)

  same_bound : bound_at old i ≡ bound_at first i
  same_bound = bound_kept first old known before q closed i h

  one_more : length (done ++ v ∷ []) ≡ suc i
  one_more = length-append done (v ∷ []) ∙ omega (arith, count)

  fresh : (b : Bool) → q i ≡ b → Carries first new q (done ++ v ∷ [])
  fresh true e =
      let g = grown e in
      let w : (if q i then bound_at first i else 0) ≡ bound_at first i = ap (λ b. if b then bound_at first i else 0) e in
      let z : weight first q (length done) ≡ weight first q i = ap (weight first q) count in
      record {
        chosen = g.more;
        closed = g.closed;
        has = behind (λ k u. q k ≡ true → g.more u ≡ true) done v (λ k d l y. g.extends (get_or done k d).0 (all k d l y).normal.exists_ (carry.has k d l y)) (λ y. g.has);
        within = subst (λ n. weight new g.more (length new.terms) ≤ weight first q n) (sym one_more) (omega (arith, g.within, carry.within, same_bound, w, z));
      }
  fresh false e =
      let w : (if q i then bound_at first i else 0) ≡ 0 = ap (λ b. if b then bound_at first i else 0) e in
      let z : weight first q (length done) ≡ weight first q i = ap (weight first q) count in
      let a = all_weighs old new sound keeps carry.chosen carry.closed in
      record {
        chosen = only old new sound keeps carry.chosen carry.closed;
        closed = only_closed old new sound keeps carry.chosen carry.closed;
        has = behind (λ k u. q k ≡ true → (carry.chosen u && nat_lt u (length old.terms)) ≡ true) done v (λ k d l y. only_has old new sound keeps carry.chosen carry.closed (get_or done k d).0 (all k d l y).normal.exists_ (carry.has k d l y)) (λ y. absurd (let x : q i ≡ true = subst (λ n. q n ≡ true) count y in cc));
        within = subst (λ n. weight new (only old new sound keeps carry.chosen carry.closed) (length new.terms) ≤ weight first q n) (sym one_more) (omega (arith, a, carry.within, w, z));
      }

  pub carries_more : Carries first new q (done ++ v ∷ [])
  carries_more = fresh (q i) refl

  -- the last one costs no more than the whole
  pub costs : q i ≡ true → cost new v.0 ≤ weight first q (length first.terms)
  costs e =
      let g = cost_grown old new carry.chosen (bound_at old i) v.0 (grown e) in
      let w : (if q i then bound_at first i else 0) ≡ bound_at first i = ap (λ b. if b then bound_at first i else 0) e in
      let z : weight first q (length done) ≡ weight first q i = ap (weight first q) count in
      let m = weight_grows first q (length first.terms - suc i) (suc i) (length first.terms) (omega arith) in
      omega (arith, g, carry.within, same_bound, w, z, m)
