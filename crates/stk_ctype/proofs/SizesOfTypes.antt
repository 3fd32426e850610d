-- Sizes of sound types, and the loops that find them.
use Rattle.std.proofs.Common.{◌≡◌, ◌≤◌, ◌<◌, ◌*◌, ℕ, List, [], Option, Some, None, IsSome, refl, sym, ap, subst, ◌∙◌, arith, nat_lt, ◌^◌}
use mathlib.Core.Logic.{◌⊎◌, inl, inr}
use Rattle.std.proofs.lemmas.Bool.{cond-true, lt-ltb}
use Rattle.std.specs.Prelude.{IfSome}
use Rattle.std.specs.Option.{option_map}
use Rattle.stk_ctype.specs.declared.kind.IntKind.{IntKind}
use Rattle.stk_ctype.specs.declared.kind.IntKind.TheVariants as kind
use Rattle.stk_ctype.specs.declared.symbol.NameEntry.{NameEntry}
use Rattle.stk_ctype.specs.declared.facts.Layout.{Layout}
use Rattle.stk_ctype.specs.declared.facts.Facts.{Facts}
use Rattle.stk_ctype.specs.Kinds.{bytes_of}
use Rattle.stk_ctype.specs.Types.{TypeTree, void_type, integer_type, pointer_type, array_type, struct_type, function_type}
use Rattle.stk_ctype.specs.Innermost.{inmost_of, count_in, product_of, size_inside}
use Rattle.stk_ctype.specs.declared.shared_type.Inmost.{Inmost}
use Rattle.stk_ctype.specs.declared.shared_type.Inmost.TheVariants as inside
use Rattle.stk_ctype.specs.Structs.{Structs, StructLayout, struct_at, structs_of, array_size, size_of, alignment_of, size_limit}
use Rattle.stk_ctype.specs.Sound.{IsSound, IsWithinLimit, IsCount}
use Rattle.stk_ctype.specs.Names.{struct_count}
use Rattle.stk_ctype.specs.Facts.{IsKept, AreFactsOf}
use Rattle.stk_ctype.proofs.Noting.{length-structs_behind}

-- ---- sizes are at least 1 and within the limit
-- each struct that has members has a size of at least 1
abbrev pub HaveSizes : Structs → Type 0
HaveSizes structs = (id : ℕ) → IfSome (struct_at structs id) (λ s. 1 ≤ s.size)

kept_size : (es : List NameEntry) (id : ℕ) (k : Option Layout) (s : Option StructLayout) → IsKept es id k s → IfSome s (λ l. 1 ≤ l.size)
kept_size es id None None so = tt
kept_size es id None (Some s) so = absurd so
kept_size es id (Some k) None so = tt
kept_size es id (Some k) (Some s) so = so.some

pub have_sizes : (facts : Facts) (es : List NameEntry) → AreFactsOf facts es → HaveSizes (structs_of es)
have_sizes facts es so id = kept_size es id _ _ (so.layouts id)

pub bytes_least : (k : IntKind) → 1 ≤ bytes_of k
bytes_least kind.Bool = omega arith
bytes_least kind.Char = omega arith
bytes_least kind.SChar = omega arith
bytes_least kind.UChar = omega arith
bytes_least kind.Short = omega arith
bytes_least kind.UShort = omega arith
bytes_least kind.Int = omega arith
bytes_least kind.UInt = omega arith
bytes_least kind.Long = omega arith
bytes_least kind.ULong = omega arith
bytes_least kind.LLong = omega arith
bytes_least kind.ULLong = omega arith

bytes_most : (k : IntKind) → bytes_of k ≤ 8
bytes_most kind.Bool = omega arith
bytes_most kind.Char = omega arith
bytes_most kind.SChar = omega arith
bytes_most kind.UChar = omega arith
bytes_most kind.Short = omega arith
bytes_most kind.UShort = omega arith
bytes_most kind.Int = omega arith
bytes_most kind.UInt = omega arith
bytes_most kind.Long = omega arith
bytes_most kind.ULong = omega arith
bytes_most kind.LLong = omega arith
bytes_most kind.ULLong = omega arith

product_least : (m n : ℕ) → 1 ≤ n → m ≤ m * n
product_least m n q = grind arith

array_least : (count size : Option ℕ) → IsCount count → IfSome size (λ n. 1 ≤ n) → IfSome (array_size count size) (λ n. 1 ≤ n)
array_least None size p q = tt
array_least (Some c) None p q = tt
array_least (Some c) (Some s) p q = omega (arith, p, product_least c s q)

mapped_least : (o : Option StructLayout) → IfSome o (λ s. 1 ≤ s.size) → IfSome (option_map (λ s. s.size) o) (λ n. 1 ≤ n)
mapped_least None so = tt
mapped_least (Some s) so = so

pub least_size : (S : Structs) → HaveSizes S → (t : TypeTree) → IsSound S t → IfSome (size_of S t) (λ n. 1 ≤ n)
least_size S have void_type so = tt
least_size S have (integer_type k) so = bytes_least k
least_size S have (pointer_type t) so = omega arith
least_size S have (array_type t count) so = array_least count (size_of S t) so.2 (least_size S have t so.0)
least_size S have (struct_type id) so = mapped_least (struct_at S id) (have id)
least_size S have (function_type f) so = tt

pub sound_within : (S : Structs) (t : TypeTree) → IsSound S t → IsWithinLimit (size_of S t)
sound_within S void_type so = tt
sound_within S (integer_type k) so = omega (arith, bytes_most k)
sound_within S (pointer_type t) so = omega arith
sound_within S (array_type t count) so = so.3
sound_within S (struct_type id) so = so.1
sound_within S (function_type f) so = tt

kept_within : (es : List NameEntry) (id : ℕ) (k : Option Layout) (s : Option StructLayout) → IsKept es id k s → IsWithinLimit (option_map (λ l. l.size) s)
kept_within es id None None so = tt
kept_within es id None (Some s) so = absurd so
kept_within es id (Some k) None so = tt
kept_within es id (Some k) (Some s) so = so.within

-- each struct is within the limit
pub struct_within : (facts : Facts) (es : List NameEntry) → AreFactsOf facts es → (id : ℕ) → IsWithinLimit (size_of (structs_of es) (struct_type id))
struct_within facts es so id = kept_within es id _ _ (so.layouts id)

-- a struct that is declared is sound
pub declared_sound : (facts : Facts) (es : List NameEntry) (id : ℕ) → AreFactsOf facts es → id < struct_count es → IsSound (structs_of es) (struct_type id)
declared_sound facts es id so below = (omega (arith, below, length-structs_behind [] es), struct_within facts es so id)

-- ---- what is inside all arrays of a type, and how many of them
one_size : (o : Option ℕ) → o ≡ array_size (Some 1) o
one_size None = refl
one_size (Some s) = ap Some (omega arith)

below_product : (n m : ℕ) → n * m ≤ size_limit → product_of (Some n) (Some m) ≡ Some (n * m)
below_product n m few = cond-true (nat_lt (n * m) (2 ^ 64)) (Some (n * m)) None (lt-ltb (n * m) (2 ^ 64) (omega (arith, few)))

product_size : (n : ℕ) (count size : Option ℕ) → IsSome (array_size count size) → IfSome size (λ s. 1 ≤ s) → IsWithinLimit (array_size (Some n) (array_size count size))
    → array_size (Some n) (array_size count size) ≡ array_size (product_of (Some n) count) size
product_size n None size some least within = cc
product_size n (Some m) None some least within = cc
product_size n (Some m) (Some s) some least within =
    ap Some (omega arith) ∙ sym (ap (λ c. array_size c (Some s)) (below_product n m (omega (arith, within, product_least (n * m) s least))))

inside_least : (S : Structs) → HaveSizes S → (t : TypeTree) → IfSome (size_inside S (inmost_of t)) (λ s. 1 ≤ s)
inside_least S have void_type = tt
inside_least S have (integer_type k) = bytes_least k
inside_least S have (pointer_type t) = omega arith
inside_least S have (array_type t count) = inside_least S have t
inside_least S have (struct_type id) = mapped_least (struct_at S id) (have id)
inside_least S have (function_type f) = tt

pub size_by_inmost : (S : Structs) → HaveSizes S → (t : TypeTree) → IsSound S t → size_of S t ≡ array_size (count_in t) (size_inside S (inmost_of t))
size_by_inmost S have void_type so = refl
size_by_inmost S have (integer_type k) so = one_size (Some (bytes_of k))
size_by_inmost S have (pointer_type t) so = refl
size_by_inmost S have (array_type t None) so = refl
size_by_inmost S have (array_type t (Some n)) so =
    let inner = size_by_inmost S have t so.0 in
    ap (array_size (Some n)) inner ∙ product_size n (count_in t) (size_inside S (inmost_of t)) (subst IsSome inner so.1) (inside_least S have t) (subst (λ o. IsWithinLimit (array_size (Some n) o)) inner so.3)
size_by_inmost S have (struct_type id) so = one_size (size_of S (struct_type id))
size_by_inmost S have (function_type f) so = refl

-- so many of so many bytes
pub size_of_all : (S : Structs) → HaveSizes S → (t : TypeTree) (count size : ℕ) → IsSound S t → count_in t ≡ Some count → size_inside S (inmost_of t) ≡ Some size → (Some (count * size) ≡ size_of S t) × (count * size ≤ size_limit)
size_of_all S have t count size so counted is =
    let all = size_by_inmost S have t so ∙ ap (λ c. array_size c (size_inside S (inmost_of t))) counted ∙ ap (array_size (Some count)) is in
    (sym all, subst IsWithinLimit all (sound_within S t so))

without_size : (count : Option ℕ) → array_size count None ≡ None
without_size None = refl
without_size (Some c) = refl

-- how many of them isn't known, or their size
pub size_of_none : (S : Structs) → HaveSizes S → (t : TypeTree) → IsSound S t → (count_in t ≡ None) ⊎ (size_inside S (inmost_of t) ≡ None) → None ≡ size_of S t
size_of_none S have t so (inl none) = sym (size_by_inmost S have t so ∙ ap (λ c. array_size c (size_inside S (inmost_of t))) none)
size_of_none S have t so (inr none) = sym (size_by_inmost S have t so ∙ ap (array_size (count_in t)) none ∙ without_size (count_in t))

-- ---- alignments
-- the alignment of what is inside
abbrev aligned : Structs → Inmost → ℕ
aligned S (inside.Bytes bytes) = bytes
aligned S (inside.Struct id) = alignment_of S (struct_type id)
aligned S inside.Nothing = 1

-- its bytes, where it is no struct
abbrev AreFew : Inmost → Type 0
AreFew (inside.Bytes bytes) = (1 ≤ bytes) × (bytes ≤ 8)
AreFew (inside.Struct id) = Unit {0}
AreFew inside.Nothing = Unit {0}

pub alignment_inside : (S : Structs) (t : TypeTree) (i : Inmost) → inmost_of t ≡ i → alignment_of S t ≡ aligned S i
alignment_inside S void_type i is = ap (aligned S) is
alignment_inside S (integer_type k) i is = ap (aligned S) is
alignment_inside S (pointer_type t) i is = ap (aligned S) is
alignment_inside S (array_type t count) i is = alignment_inside S t i is
alignment_inside S (struct_type id) i is = ap (aligned S) is
alignment_inside S (function_type f) i is = ap (aligned S) is

few_bytes : (t : TypeTree) → AreFew (inmost_of t)
few_bytes void_type = tt
few_bytes (integer_type k) = (bytes_least k, bytes_most k)
few_bytes (pointer_type t) = (omega arith, omega arith)
few_bytes (array_type t count) = few_bytes t
few_bytes (struct_type id) = tt
few_bytes (function_type f) = tt

pub bytes_inside : (t : TypeTree) (bytes : ℕ) → inmost_of t ≡ inside.Bytes bytes → (1 ≤ bytes) × (bytes ≤ 8)
bytes_inside t bytes is = subst AreFew is (few_bytes t)
