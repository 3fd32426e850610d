-- What propagation leaves when it ends.
use Rattle.std.proofs.Common.{◌≡◌, ℕ, ◌+◌, ◌<◌, List, [], ◌∷◌, ◌++◌, length, get_or, take, map, sym, ◌∙◌, ap, subst, inl, inr, refl, arith, Option, Some, None, length-append}
use Rattle.std.specs.Option.{MatchOption}
use Rattle.std.specs.List.{Contains}
use Rattle.std.proofs.lemmas.List.{append-nil, take_all, get_or_default, get_or_append_left, get_or_at}
use Rattle.std.proofs.lemmas.List.Elements.{Contains-get_or}
use Rattle.stk_clauses.specs.declared.literal.Lit.{Lit}
use Rattle.stk_clauses.specs.Literals.{negated}
use Rattle.stk_clauses.specs.Propagation.{Forced, Falsifies, IsQuiet, AreQuiet, AllFalse, HasNoPair}
use Rattle.stk_clauses.proofs.Units.{forced_in}
use Rattle.stk_propagate.specs.Assigned.{Assigned, IsAssigned, AreFresh}
use Rattle.stk_propagate.proofs.Dropping.{one_place}
use Rattle.stk_propagate.specs.Trailed.{Trailed, IsGrown}
use Rattle.stk_propagate.specs.Fitting.{Fits, AreReasons, IsCalm}
use Rattle.stk_propagate.proofs.Lists.{no_pair}
use Rattle.stk_propagate.proofs.Calm.{calm_quiet}
use Rattle.stk_propagate.proofs.Visiting.{grown_true}
use Rattle.stk_propagate.proofs.Forcing.{forced_grown, nothing_added}

-- where propagation has ended, the watches are calm by all true literals
pub calm_all : (s : Trailed) (cs : List (List Lit)) → Fits s cs → s.looked ≡ length cs → s.propagated ≡ length s.assigned.literals → (id : ℕ) → id < length cs → IsCalm s.assigned.literals s.assigned.literals (get_or cs id []) (get_or s.watches id None)
calm_all s cs f all end id lt =
    let t : List Lit = s.assigned.literals in
    let whole : take s.propagated t ≡ t = take_all s.propagated t (omega (arith, end)) in
    subst (λ (xs : List Lit). IsCalm xs t (get_or cs id []) (get_or s.watches id None)) whole (f.covered id (omega (arith, lt, all)))

pub quiet_all : (s : Trailed) (cs : List (List Lit)) → Fits s cs → s.looked ≡ length cs → s.propagated ≡ length s.assigned.literals → AreQuiet s.assigned.literals cs
quiet_all s cs f all end id d lt =
    let t : List Lit = s.assigned.literals in
    subst (λ (c : List Lit). IsQuiet t c) (get_or_default cs id [] d lt) (calm_quiet t (get_or cs id []) (get_or s.watches id None) (f.watched id lt) (calm_all s cs f all end id lt))

-- a quiet clause has a literal that isn't false
pub quiet_not_false : (t c : List Lit) → HasNoPair t → IsQuiet t c → AllFalse t c → ⊥
quiet_not_false t c ok (inl (l, cl, tl)) false' = ok l tl (false' l cl)
quiet_not_false t c ok (inr (a, b, ne, ca, cb, oa, ob)) false' = oa.1 (false' a ca)

-- what an answer says, by what it is
pub ended : (r : Option ℕ) (t : List Lit) (cs : List (List Lit)) (P : Type 0) → HasNoPair t → AreQuiet t cs → MatchOption r P (λ id. (id < length cs) × AllFalse t (get_or cs id [])) → P
ended None t cs P ok quiet h = h
ended (Some id) t cs P ok quiet h = absurd (quiet_not_false t (get_or cs id []) ok (quiet id [] h.0) h.1)

pub found_none : (r : Option ℕ) (P Q : Type 0) (R : ℕ → Type 0) → (P → Q) → MatchOption r P R → MatchOption r Q R
found_none None P Q R f h = f h
found_none (Some id) P Q R f h = h

pub when_none : (r : Option ℕ) (P : Type 0) (R : ℕ → Type 0) → r ≡ None → MatchOption r P R → P
when_none r P R e h = subst (λ (x : Option ℕ). MatchOption x P R) e h

-- literals that are all among the old ones add nothing
same_literals : (a b : Assigned) (xs : List Lit) → AreFresh b.literals → b.literals ≡ a.literals ++ xs → ((l : Lit) → Contains b.literals l → Contains a.literals l) → b.literals ≡ a.literals
same_literals a b [] fresh e only = e ∙ append-nil a.literals
same_literals a b (x ∷ xs) fresh e only =
    let n : ℕ = length a.literals in
    let long : length b.literals ≡ n + length (x ∷ xs) = ap length e ∙ length-append a.literals (x ∷ xs) in
    let here : get_or b.literals n x ≡ x = ap (λ (ys : List Lit). get_or ys n x) e ∙ get_or_at a.literals x xs x n refl in
    let nb : n < length b.literals = omega (arith, long) in
    let old = only x (n, nb, here) in
    let there : get_or b.literals old.0 x ≡ x = ap (λ (ys : List Lit). get_or ys old.0 x) e ∙ get_or_append_left a.literals (x ∷ xs) x old.0 old.1 ∙ old.2 in
    let jb : old.0 < length b.literals = omega (arith, old.1, nb) in
    let same : old.0 ≡ n = one_place b.literals x old.0 n fresh jb nb there here in
    absurd (omega (arith, same, old.1))

same_reasons : (a b : Assigned) (rs : List ℕ) → b.reasons ≡ a.reasons ++ map (λ (r : ℕ). Some r) rs → length b.reasons ≡ length a.reasons → b.reasons ≡ a.reasons
same_reasons a b [] e long = e ∙ append-nil a.reasons
same_reasons a b (r ∷ rs) e long =
    let more : length b.reasons ≡ length a.reasons + length (Some r ∷ map (λ (r : ℕ). Some r) rs) = ap length e ∙ length-append a.reasons (Some r ∷ map (λ (r : ℕ). Some r) rs) in
    absurd (omega (arith, more, long))

-- where every clause is quiet, the literals and the reasons stay
pub quiet_literals : (a b : Assigned) (cs : List (List Lit)) → IsAssigned a → IsAssigned b → IsGrown a b → AreReasons b cs → AreQuiet a.literals cs → b.literals ≡ a.literals
quiet_literals a b cs pa pb g why quiet = same_literals a b g.more.0 pb.fresh g.more.1 (nothing_added a b cs pb.fresh pa.paired pb.paired g why pa.fresh quiet)

pub quiet_reasons : (a b : Assigned) → IsAssigned a → IsAssigned b → IsGrown a b → b.literals ≡ a.literals → b.reasons ≡ a.reasons
quiet_reasons a b pa pb g same = same_reasons a b g.why.0 g.why.1 (pb.paired ∙ ap length same ∙ sym pa.paired)

-- propagation makes true what unit propagation gives, or unit propagation falsifies a clause
pub all_forced : (r : Option ℕ) (a b : Assigned) (cs : List (List Lit)) → IsAssigned a → IsAssigned b → IsGrown a b → AreReasons b cs → MatchOption r (AreQuiet b.literals cs) (λ id. (id < length cs) × AllFalse b.literals (get_or cs id []))
    → MatchOption r ((l : Lit) → Forced cs (Contains a.literals) l → Contains b.literals l) (λ id. Falsifies cs (Contains a.literals))
all_forced None a b cs pa pb g why quiet = λ l h. forced_in cs (Contains a.literals) b.literals (λ m k. grown_true a b m g k) (no_pair b.literals pb.fresh) quiet l h
all_forced (Some id) a b cs pa pb g why h = (get_or cs id [], Contains-get_or cs id [] h.0, λ m cm. forced_grown a b cs pa.paired pb.paired g why (negated m) (h.1 m cm))
