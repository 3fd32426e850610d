-- What stands behind a prefix of a text.
use Rattle.std.proofs.Common.{◌≡◌, ◌+◌, ℕ, false, true, List, ◌++◌, length, take, drop, Some, None, Bor}
use Rattle.std.specs.Prelude.{nat_eq}
use Rattle.std.specs.Cmp.Lexicographic.{pointwise}
use Rattle.std.proofs.lemmas.Bool.Decides.{Decides-eqb}
use Rattle.std.proofs.lemmas.Slice.Eq.{strip_prefix_is}

pub no_prefix : (text word : List ℕ) → pointwise nat_eq (take (length word) text) word ≡ false → (rest : List ℕ) → text ≡ word ++ rest → ⊥
no_prefix text word e = strip_prefix_is Decides-eqb text word None e

pub behind_prefix : (text word : List ℕ) (behind : Bor (List ℕ)) → (pointwise nat_eq (take (length word) text) word ≡ true) × (behind.now ≡ drop (length word) text) × (length behind.now + length word ≡ length text) → text ≡ word ++ behind.now
behind_prefix text word behind h = strip_prefix_is Decides-eqb text word (Some behind) h
