-- What a visit of a clause leaves.
use Rattle.std.proofs.Common.{◌≡◌, ◌≢◌, ◌⊎◌, ℕ, ◌*◌, ◌/◌, ◌%◌, ◌<◌, ◌≤◌, List, [], ◌∷◌, ◌++◌, length, get_or, take, set, map, sym, ◌∙◌, ap, subst, inl, inr, refl, arith, Option, Some, None, append_assoc, Bool, true, false}
use Rattle.std.specs.Bool.{MatchBool}
use Rattle.std.specs.List.{Contains}
use Rattle.std.proofs.lemmas.Bool.{cases_eq}
use Rattle.std.proofs.lemmas.List.{append-nil, map-append, get_or-set_other, length-append}
use Rattle.std.proofs.lemmas.List.Elements.{Contains-append_left}
use Rattle.stk_clauses.specs.declared.literal.Lit.{Lit}
use Rattle.stk_clauses.specs.Literals.{negated}
use Rattle.stk_clauses.specs.Propagation.{HasNoPair}
use Rattle.stk_clauses.proofs.Values.{lit_cases}
use Rattle.stk_propagate.specs.Assigned.{Assigned}
use Rattle.stk_propagate.specs.declared.inner.Inner.{Inner}
use Rattle.stk_propagate.specs.Trailed.{Trailed, IsGrown}
use Rattle.stk_propagate.specs.Fitting.{IsReason, IsWatched, IsCalm, Fits}
use Rattle.stk_propagate.specs.Linked.{side_of, watch_at, twin, pair_of, InSpare, InSpareOr, AreLinked, AreCalmed, IsFree}
use Rattle.stk_propagate.proofs.Lists.{in_take}
use Rattle.stk_propagate.proofs.Calm.{watched_pair, pair_watched, calm_pair, pair_calm}
use Rattle.stk_propagate.proofs.Fits.{fits_watches}
use Rattle.stk_propagate.proofs.Links.{Watches, other_side}

pub grown_refl : (a : Assigned) → IsGrown a a
grown_refl a = record { vars = refl; more = ([], sym (append-nil a.literals)); why = ([], sym (append-nil a.reasons)) }

pub grown_trans : (a b c : Assigned) → IsGrown a b → IsGrown b c → IsGrown a c
grown_trans a b c g h = record {
  vars = h.vars ∙ g.vars;
  more = (g.more.0 ++ h.more.0, h.more.1 ∙ ap (λ (y : List Lit). y ++ h.more.0) g.more.1 ∙ append_assoc a.literals g.more.0 h.more.0);
  why = (
    g.why.0 ++ h.why.0,
    h.why.1 ∙ ap (λ (y : List (Option ℕ)). y ++ map (λ (r : ℕ). Some r) h.why.0) g.why.1 ∙ append_assoc a.reasons (map (λ (r : ℕ). Some r) g.why.0) (map (λ (r : ℕ). Some r) h.why.0)
        ∙ ap (λ (y : List (Option ℕ)). a.reasons ++ y) (sym (map-append (λ (r : ℕ). Some r) g.why.0 h.why.0)),
  );
}

pub grown_true : (a b : Assigned) (l : Lit) → IsGrown a b → Contains a.literals l → Contains b.literals l
grown_true a b l g h = subst (λ xs. Contains xs l) (sym g.more.1) (Contains-append_left a.literals g.more.0 l h)

pub grown_length : (a b : Assigned) → IsGrown a b → length a.literals ≤ length b.literals
grown_length a b g = omega (arith, ap length g.more.1, length-append a.literals g.more.0)

-- one literal more, for a clause
pub grown_push : (a b : Assigned) (l : Lit) (id : ℕ) → b.vars ≡ a.vars → b.literals ≡ a.literals ++ l ∷ [] → b.reasons ≡ a.reasons ++ Some id ∷ [] → IsGrown a b
grown_push a b l id ev el er = record { vars = ev; more = (l ∷ [], el); why = (id ∷ [], er) }

pub twin_half : (x : ℕ) → twin x / 2 ≡ x / 2
twin_half x = omega arith

pub twin_odd : (x : ℕ) → twin x % 2 ≢ x % 2
twin_odd x e = omega arith

-- the place beside the one that watches l watches the other literal
pub twin_watch : (ws : Watches) (x : ℕ) (l o : Lit) → get_or ws (x / 2) None ≡ Some (pair_of x l o) → watch_at ws (twin x) ≡ Some o
twin_watch ws x l o e =
    ap (λ (j : ℕ). side_of (get_or ws j None) (twin x % 2)) (twin_half x) ∙ ap (λ (v : Option (Lit × Lit)). side_of v (twin x % 2)) e ∙ other_side x (twin x) l o (twin_odd x)

-- the place was put into the spare chain, and the literal beside it is true
pub calmed_kept : (f g : Inner) (x : ℕ) (l o : Lit) → g.watches.items ≡ f.watches.items → ((y : ℕ) → InSpare g y → (y ≡ x) ⊎ InSpare f y) → ((m : Lit) → Contains f.assigned.literals m → Contains g.assigned.literals m) → Contains g.assigned.literals o
    → get_or f.watches.items (x / 2) None ≡ Some (pair_of x l o) → AreCalmed f → AreCalmed g
calmed_kept f g x l o ew spare more true' pair old y m h e =
    let e' : watch_at f.watches.items (twin y) ≡ Some m = sym (ap (λ (v : Watches). watch_at v (twin y)) ew) ∙ e in
    elim (spare y h) [
      | inl is ↦
          let t : watch_at f.watches.items (twin y) ≡ Some o = ap (λ (j : ℕ). watch_at f.watches.items (twin j)) is ∙ twin_watch f.watches.items x l o pair in
          let both : Some o ≡ Some m = sym t ∙ e' in
          let same : o ≡ m = cc in
          subst (λ z. Contains g.assigned.literals z) same true'
      | inr k ↦ more m (old y m k e')
    ]

-- the place n watches another literal
pub calmed_moved : (f g : Inner) (n : ℕ) (w to o : Lit) → w.0 < 2 * f.assigned.vars → w ≢ o → g.assigned ≡ f.assigned → g.watches.items ≡ set f.watches.items (n / 2) (Some (pair_of n to o)) → ((y : ℕ) → InSpare g y → InSpare f y)
    → get_or f.watches.items (n / 2) None ≡ Some (pair_of n w o) → IsFree f.chains n → AreLinked f w (InSpareOr f n) → AreCalmed f → AreCalmed g
calmed_moved f g n w to o below ne ea ew spare pair free linked old y m h e =
    let k = spare y h in
    let ws : Watches = f.watches.items in
    let watching : watch_at ws y ≡ Some w = ((linked w y below).0 (inr (refl, inl k))).1 in
    let e' : watch_at (set ws (n / 2) (Some (pair_of n to o))) (twin y) ≡ Some m = sym (ap (λ (v : Watches). watch_at v (twin y)) ew) ∙ e in
    elim (cases_eq (y / 2) (n / 2)) [
      | inl half ↦
          let ny : y ≢ n = λ q. free (2 * f.assigned.vars) (subst (λ j. InSpare f j) q k) in
          let odd : y % 2 ≢ n % 2 = λ q. ny (omega (arith, q, half)) in
          let t : watch_at ws y ≡ Some o = ap (λ (j : ℕ). side_of (get_or ws j None) (y % 2)) half ∙ ap (λ (v : Option (Lit × Lit)). side_of v (y % 2)) pair ∙ other_side n y w o odd in
          let both : Some w ≡ Some o = sym watching ∙ t in
          let same : w ≡ o = cc in
          absurd (ne same)
      | inr half ↦
          let apart : twin y / 2 ≢ n / 2 = λ q. half (sym (twin_half y) ∙ q) in
          let t : watch_at (set ws (n / 2) (Some (pair_of n to o))) (twin y) ≡ watch_at ws (twin y) = ap (λ (v : Option (Lit × Lit)). side_of v (twin y % 2)) (get_or-set_other ws (n / 2) (twin y / 2) (Some (pair_of n to o)) None apart) in
          subst (λ (a : Assigned). Contains a.literals m) (sym ea) (old y m k (sym t ∙ e'))
    ]

-- a watch may be moved from a false literal to one that isn't false
pub fits_moved : (s : Trailed) (ws : Watches) (cs : List (List Lit)) (n : ℕ) (w to o : Lit) → Fits s cs → HasNoPair s.assigned.literals → n / 2 < s.looked → get_or s.watches (n / 2) None ≡ Some (pair_of n w o) → ws ≡ set s.watches (n / 2) (Some (pair_of n to o))
    → Contains s.assigned.literals (negated w) → Contains (get_or cs (n / 2) []) to → to ≢ o → (Contains s.assigned.literals (negated to) → ⊥) → Fits (record s { watches = ws }) cs
fits_moved s ws cs n w to o f ok seen pair e falsified has ne live =
    let t : List Lit = s.assigned.literals in
    let c : List Lit = get_or cs (n / 2) [] in
    let lt : n / 2 < length cs = omega (arith, seen, f.looking) in
    let was = watched_pair n w o c (subst (λ v. IsWatched c v) pair (f.watched (n / 2) lt)) in
    let calm_at : (k : ℕ) (u : List Lit) → ((x : Lit) → Contains u x → Contains t x) → IsCalm (take k t) u c (get_or s.watches (n / 2) None) → IsCalm (take k t) u c (Some (pair_of n to o)) = λ k u part q.
    let old = calm_pair n w o (take k t) u c (subst (λ v. IsCalm (take k t) u c v) pair q) in
    pair_calm n to o (take k t) u c (λ h. absurd (live (in_take t k (negated to) h))) (λ h. absurd (ok w (part w (old.1 h)) falsified)) in
    fits_watches s ws cs (n / 2) (Some (pair_of n to o)) f lt e (pair_watched n to o c has was.1 ne)
    (λ k p. calm_at k (take k t) (λ x h. in_take t k x h) (f.calm k (n / 2) p seen))
    (calm_at s.propagated t (λ x h. h) (f.covered (n / 2) seen))

-- where all literals but two are false, and one of these two is, the clause is a reason of the other
pub reason_here : (t c : List Lit) (w o : Lit) → Contains c o → Contains t (negated w) → ((m : Lit) → Contains c m → m ≢ w → m ≢ o → Contains t (negated m)) → IsReason t c o
reason_here t c w o has falsified rest = record {
  has = has;
  others = λ m cm ne. elim (lit_cases m w) [
    | inl e ↦ subst (λ y. Contains t (negated y)) (sym e) falsified
    | inr n ↦ rest m cm n ne
  ];
}

pub found_map : (b : Bool) (P Q R : Type 0) → (Q → R) → MatchBool b P Q → MatchBool b P R
found_map true P Q R f h = h
found_map false P Q R f h = f h
