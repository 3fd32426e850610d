-- Events that hit, position by position.
use Rattle.std.proofs.Common.{ℕ, zero, suc, ◌≡◌, ◌+◌, ◌<◌, ◌∙◌, Bool, true, false, not, ◌&&◌, ◌||◌, List, [], ◌∷◌, ◌++◌, length, get_or, refl, sym, ap, arith}
use Rattle.std.specs.Prelude.{nat_eq, if◌then◌else◌}
use Rattle.stk_numbers.specs.declared.conditions.Candidate.{Candidate}
use Rattle.stk_numbers.specs.declared.conditions.Condition.{Condition}
use Rattle.stk_meaning.specs.declared.entry.Entry.{Entry}
use Rattle.stk_meaning.specs.declared.entry.Entry.TheVariants.{Ub, Enter, Seen}
use Rattle.stk_meaning.specs.Hits as runs
use Rattle.stk_values.specs.Walks.{ListedEvent, is_violated, is_hit}
use Rattle.stk_event_laws.specs.Positions.{hit_positions, listed_entry, listed_events}
use Rattle.stk_symbols.specs.Goals as goals
use Rattle.stk_goal_laws.specs.Queries.{GoalsAreOfQueries}

-- whether an entry hits the candidate at a position of a list, the first of which stands at another
abbrev hit_at : ℕ → List Candidate → ℕ → Entry → Bool
hit_at i [] j e = false
hit_at i (c ∷ cs) j e = (runs.hits c e && nat_eq i j) || hit_at (i + 1) cs j e

or_assoc : (a b c : Bool) → (a || b) || c ≡ a || (b || c)
or_assoc true b c = refl
or_assoc false b c = refl

-- the hits of one entry, and what follows them
hits_then : (set : List Condition) (i : ℕ) (cs : List Candidate) (j : ℕ) (e : Entry) (rest : List ListedEvent) → goals.is_hit_free set j (hit_positions i cs e ++ rest) ≡ hit_at i cs j e || goals.is_hit_free set j rest
hits_then set i [] j e rest = refl
hits_then set i (c ∷ cs) j e rest = by (runs.hits c e) (hits_then set (i + 1) cs j e rest) where
  by : (b : Bool) → goals.is_hit_free set j (hit_positions (i + 1) cs e ++ rest) ≡ hit_at (i + 1) cs j e || goals.is_hit_free set j rest → goals.is_hit_free set j (((if b then is_hit i ∷ [] else []) ++ hit_positions (i + 1) cs e) ++ rest) ≡ ((b && nat_eq i j) || hit_at (i + 1) cs j e) || goals.is_hit_free set j rest
  by true h = ap (λ z. nat_eq i j || z) h ∙ sym (or_assoc (nat_eq i j) (hit_at (i + 1) cs j e) (goals.is_hit_free set j rest))
  by false h = h

same_place : (i j : ℕ) → i ≡ j → nat_eq i j ≡ true
same_place i j e = grind (arith, e)

other_place : (i j : ℕ) → j < i → nat_eq i j ≡ false
other_place i j h = grind (arith, h)

and_false : (a : Bool) → a && false ≡ false
and_false true = refl
and_false false = refl

and_true : (a : Bool) → a && true ≡ a
and_true true = refl
and_true false = refl

or_false : (a : Bool) → a || false ≡ a
or_false true = refl
or_false false = refl

-- a position before the list
hit_before : (i : ℕ) (cs : List Candidate) (j : ℕ) (e : Entry) → j < i → hit_at i cs j e ≡ false
hit_before i [] j e h = refl
hit_before i (c ∷ cs) j e h = ap (λ z. (runs.hits c e && z) || hit_at (i + 1) cs j e) (other_place i j h) ∙ ap (λ z. z || hit_at (i + 1) cs j e) (and_false (runs.hits c e)) ∙ hit_before (i + 1) cs j e (omega (arith, h))

less_place : (i m : ℕ) → nat_eq i (i + suc m) ≡ false
less_place i m = grind arith

hit_there : (i : ℕ) (cs : List Candidate) (m j : ℕ) (d : Candidate) (e : Entry) → j ≡ i + m → m < length cs → hit_at i cs j e ≡ runs.hits (get_or cs m d) e
hit_there i [] m j d e s l = absurd (omega (arith, l))
hit_there i (c ∷ cs) zero j d e s l =
    let here : nat_eq i j ≡ true = same_place i j (omega (arith, s)) in
    ap (λ z. (runs.hits c e && z) || hit_at (i + 1) cs j e) here ∙ ap (λ z. z || hit_at (i + 1) cs j e) (and_true (runs.hits c e)) ∙ ap (λ z. runs.hits c e || z) (hit_before (i + 1) cs j e (omega (arith, s))) ∙ or_false (runs.hits c e)
hit_there i (c ∷ cs) (suc m) j d e s l =
    let apart : nat_eq i j ≡ false = ap (nat_eq i) s ∙ less_place i m in
    ap (λ z. (runs.hits c e && z) || hit_at (i + 1) cs j e) apart ∙ ap (λ z. z || hit_at (i + 1) cs j e) (and_false (runs.hits c e)) ∙ hit_there (i + 1) cs m j d e (omega (arith, s)) (omega (arith, l))

-- an entry that violates nothing
hit_entry : (cs : List Candidate) (set : List Condition) (j : ℕ) (d : Candidate) (e : Entry) (rest : List ListedEvent) (more : Bool) → j < length cs → goals.is_hit_free set j rest ≡ more → goals.is_hit_free set j (hit_positions 0 cs e ++ rest) ≡ runs.hits (get_or cs j d) e || more
hit_entry cs set j d e rest more l h = hits_then set 0 cs j e rest ∙ ap (λ z. z || goals.is_hit_free set j rest) (hit_there 0 cs j j d e (omega arith) l) ∙ ap (λ z. runs.hits (get_or cs j d) e || z) h

pub goals_of_queries : GoalsAreOfQueries
goals_of_queries cs set j d [] l = refl
goals_of_queries cs set j d (Ub k ∷ t) l = ap (λ z. not (runs.has set k) && z) (goals_of_queries cs set j d t l)
goals_of_queries cs set j d (Enter n ∷ t) l = hit_entry cs set j d (Enter n) (listed_events cs t) (runs.is_hit_free set (get_or cs j d) t) l (goals_of_queries cs set j d t l)
goals_of_queries cs set j d (Seen n truth other ∷ t) l = hit_entry cs set j d (Seen n truth other) (listed_events cs t) (runs.is_hit_free set (get_or cs j d) t) l (goals_of_queries cs set j d t l)
