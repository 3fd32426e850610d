-- Memory objects in pairs: what a pair asks of an object, and the counts from which the pairs are told in one pass from
-- the back.
use Rattle.std.specs.Prelude.{ℕ, ◌+◌, Bool, true, false, ◌&&◌, ◌||◌, List, [], ◌∷◌, length, filter}
use Rattle.stk_meaning.specs.Typings.{is_among}
use Rattle.stk_meaning.specs.Keys.{Object}
use Rattle.stk_weights.specs.declared.objects.ObjectTraits.{ObjectTraits}
use Rattle.stk_weights.specs.declared.objects.Counts.{Counts}
use Rattle.stk_weights.specs.Sums.{capped}

-- whether an object is kept, and whether it has a name and a scalar or struct type
abbrev pub traits_of : List ℕ → Object → ObjectTraits
traits_of kept o = record { is_kept = is_among o.node kept; is_plain = o.is_plain }

-- whether two objects are a pair
abbrev pub are_pair : ObjectTraits → ObjectTraits → Bool
are_pair a b = (a.is_kept && b.is_plain) || (b.is_kept && a.is_plain)

-- the pairs among objects, each counted once
abbrev pub pairs_of : List ObjectTraits → ℕ
pairs_of [] = 0
pairs_of (m ∷ ms) = length (filter (are_pair m) ms) + pairs_of ms

-- 1 where something holds
abbrev pub one_where : Bool → ℕ
one_where true = 1
one_where false = 0

-- with how many of the objects behind an object is a pair
abbrev pub pairs_with : Bool → Bool → Counts → ℕ
pairs_with true true c = c.either
pairs_with true false c = c.plain
pairs_with false true c = c.kept
pairs_with false false c = 0

-- the counts with one object more in front
abbrev pub counts_before : ObjectTraits → Counts → Counts
counts_before m c = record {
  kept = one_where m.is_kept + c.kept;
  plain = one_where m.is_plain + c.plain;
  either = one_where (m.is_kept || m.is_plain) + c.either;
  pairs = capped (pairs_with m.is_kept m.is_plain c + c.pairs);
}

abbrev pub counts_of : List ObjectTraits → Counts
counts_of [] = record { kept = 0; plain = 0; either = 0; pairs = 0 }
counts_of (m ∷ ms) = counts_before m (counts_of ms)
