-- Lists of kinds of undefined behaviour, as the words name them: one or more names, each at most once, with a comma
-- between each two.
use Rattle.std.specs.Prelude.{◌≡◌, ℕ, Bool, true, false, not, nat_eq, List, [], ◌∷◌, ◌++◌}
use Rattle.stk_numbers.specs.declared.conditions.UbKind.{UbKind}
use Rattle.stk_numbers.specs.declared.conditions.UbKind.TheVariants as ub
use Rattle.stk_numbers.specs.declared.conditions.Kinds.{Kinds}
use Rattle.stk_numbers.specs.Taken.{is_taken}

-- the name of a kind: overflow, zero, shift, null, pointer, bounds, abs, copy
abbrev pub kind_name : UbKind → List ℕ
kind_name ub.Overflow = 111 ∷ 118 ∷ 101 ∷ 114 ∷ 102 ∷ 108 ∷ 111 ∷ 119 ∷ []
kind_name ub.Zero = 122 ∷ 101 ∷ 114 ∷ 111 ∷ []
kind_name ub.Shift = 115 ∷ 104 ∷ 105 ∷ 102 ∷ 116 ∷ []
kind_name ub.Null = 110 ∷ 117 ∷ 108 ∷ 108 ∷ []
kind_name ub.Pointer = 112 ∷ 111 ∷ 105 ∷ 110 ∷ 116 ∷ 101 ∷ 114 ∷ []
kind_name ub.Bounds = 98 ∷ 111 ∷ 117 ∷ 110 ∷ 100 ∷ 115 ∷ []
kind_name ub.AbsValue = 97 ∷ 98 ∷ 115 ∷ []
kind_name ub.Overlap = 99 ∷ 111 ∷ 112 ∷ 121 ∷ []

-- a byte is no comma
abbrev pub is_no_comma : ℕ → Bool
is_no_comma b = not (nat_eq b 44)

-- no kind
abbrev pub no_kinds : Kinds
no_kinds = record { overflow = false; zero = false; shift = false; null = false; pointer = false; bounds = false; abs = false; copy = false }

-- one kind more
abbrev pub with_kind : Kinds → UbKind → Kinds
with_kind ks ub.Overflow = record ks { overflow = true }
with_kind ks ub.Zero = record ks { zero = true }
with_kind ks ub.Shift = record ks { shift = true }
with_kind ks ub.Null = record ks { null = true }
with_kind ks ub.Pointer = record ks { pointer = true }
with_kind ks ub.Bounds = record ks { bounds = true }
with_kind ks ub.AbsValue = record ks { abs = true }
with_kind ks ub.Overlap = record ks { copy = true }

-- a text is names of kinds that aren't among those before it, and with these it names these kinds
pub data AreNames : Kinds → List ℕ → Kinds → Type 0 where
  last : {before : Kinds} {text : List ℕ} {all : Kinds} (k : UbKind) → text ≡ kind_name k → is_taken before k ≡ false → all ≡ with_kind before k → AreNames before text all
  more : {before : Kinds} {text : List ℕ} {all : Kinds} (k : UbKind) (rest : List ℕ) → text ≡ kind_name k ++ 44 ∷ rest → is_taken before k ≡ false → AreNames (with_kind before k) rest all → AreNames before text all

-- a text names these kinds and no others
abbrev pub AreOnly : List ℕ → Kinds → Type 0
AreOnly text ks = AreNames no_kinds text ks × ((other : Kinds) → AreNames no_kinds text other → other ≡ ks)
