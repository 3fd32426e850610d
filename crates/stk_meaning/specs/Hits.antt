-- Which entries of a trace hit a candidate, and free of which conditions (Wang, Zeldovich, Kaashoek, Solar-Lezama, SOSP
-- 2013, section 3).
use Rattle.std.specs.Prelude.{◌≡◌, Bool, true, false, not, ◌&&◌, ◌||◌, ◌==◌, List, [], ◌∷◌, ◌++◌, Option, Some, None}
use Rattle.std.specs.List.{list_any, list_all}
use Rattle.stk_numbers.specs.declared.conditions.CandKind.{CandKind}
use Rattle.stk_numbers.specs.declared.conditions.CandKind.TheVariants.{Arm, AlwaysTrue, AlwaysFalse, Algebra}
use Rattle.stk_numbers.specs.declared.conditions.Candidate.{Candidate}
use Rattle.stk_numbers.specs.declared.conditions.Condition.{Condition}
use Rattle.stk_numbers.specs.Taken.{number_of}
use Rattle.stk_meaning.specs.declared.entry.Entry.{Entry}
use Rattle.stk_meaning.specs.declared.entry.Entry.TheVariants.{Ub, Enter, Seen}

-- whether two truths differ
abbrev pub differs : Bool → Option Bool → Bool
differs truth None = false
differs true (Some other) = not other
differs false (Some other) = other

-- whether a truth that is seen hits a candidate: a test that might be taken for true by its being false, one that might
-- be taken for false by its being true, and a comparison that might be replaced by a truth other than its replacement's
abbrev pub seen_hits : CandKind → Bool → Option Bool → Bool
seen_hits Arm truth other = false
seen_hits AlwaysTrue truth other = not truth
seen_hits AlwaysFalse truth other = truth
seen_hits Algebra truth other = differs truth other

-- whether a candidate is a branch, which is hit by its being entered
abbrev pub is_arm : CandKind → Bool
is_arm Arm = true
is_arm AlwaysTrue = false
is_arm AlwaysFalse = false
is_arm Algebra = false

-- whether an entry hits a candidate
abbrev pub hits : Candidate → Entry → Bool
hits c (Ub k) = false
hits c (Enter n) = n == c.node && is_arm c.kind
hits c (Seen n truth other) = n == c.node && seen_hits c.kind truth other

-- whether two conditions are one
abbrev pub same_condition : Condition → Condition → Bool
same_condition a b = a.node == b.node && number_of a.kind == number_of b.kind

-- whether a condition is in a set
abbrev pub has : List Condition → Condition → Bool
has set k = list_any (λ j. same_condition j k) set

-- whether an entry says that a condition of the set is violated
abbrev pub breaks : List Condition → Entry → Bool
breaks set (Ub k) = has set k
breaks set (Enter n) = false
breaks set (Seen n truth other) = false

-- no condition of the set is violated in these entries
abbrev pub free_of : List Condition → List Entry → Bool
free_of set entries = list_all (λ e. not (breaks set e)) entries

-- some entry of the trace hits the candidate, and no condition of the set is violated before it
pub record HitsFree (set : List Condition) (c : Candidate) (trace : List Entry) : Type 0 where
  pub before : List Entry
  pub entry : Entry
  pub behind : List Entry
  pub is : trace ≡ before ++ entry ∷ behind
  pub hit : hits c entry ≡ true
  pub free : free_of set before ≡ true

-- the same as a test, from left to right
abbrev pub is_hit_free : List Condition → Candidate → List Entry → Bool
is_hit_free set c [] = false
is_hit_free set c (e ∷ t) = hits c e || (not (breaks set e) && is_hit_free set c t)
