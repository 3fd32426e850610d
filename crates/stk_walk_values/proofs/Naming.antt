-- Numbers of nodes, addresses, and offsets of members.
use Rattle.std.proofs.Common.{◌≡◌, ℕ, ◌+◌, ◌*◌, Bool, true, false, List, [], ℤ, pos, Option, Some, None, refl, sym, ap, arith}
use Rattle.std.specs.Prelude.{unwrap_or, option_map}
use Rattle.stk_ctype.specs.declared.kind.IntKind.{IntKind}
use Rattle.stk_ctype.specs.declared.kind.IntKind.TheVariants as kind
use Rattle.stk_ctype.specs.Types.{TypeTree, void_type, integer_type, pointer_type, array_type, struct_type, function_type}
use Rattle.stk_tree.specs.Syntax.{ExprFormTree}
use Rattle.stk_numbers.specs.Kinds.{wrap, fits}
use Rattle.stk_numbers.specs.Values.{moved}
use Rattle.stk_numbers.proofs.Wrapping.{wrap_stays}
use Rattle.stk_meaning.specs.Typings.{number_kind, converted, is_array}
use Rattle.stk_meaning.specs.Operations.{to_address}
use Rattle.stk_meaning.specs.Places.{Setting, target_at}
use Rattle.stk_meaning.specs.Worlds.{World, Cut, gives}
use Rattle.stk_meaning.specs.Paths.{KeptNumbers}
use Rattle.stk_meaning.specs.Expressions.{address_of, name_meaning}

-- 0 is in each kind
zero_stays : (k : IntKind) → wrap k (pos 0) ≡ pos 0
zero_stays kind.Bool = refl
zero_stays kind.Char = refl
zero_stays kind.SChar = refl
zero_stays kind.UChar = refl
zero_stays kind.Short = refl
zero_stays kind.UShort = refl
zero_stays kind.Int = refl
zero_stays kind.UInt = refl
zero_stays kind.Long = refl
zero_stays kind.ULong = refl
zero_stays kind.LLong = refl
zero_stays kind.ULLong = refl

-- the number of a node, or 0, in its type
pub own_converted : (t : TypeTree) (o : Option ℤ) → unwrap_or (option_map (λ z. converted t z) o) (pos 0) ≡ converted t (unwrap_or o (pos 0))
own_converted t None = sym (zero_stays (number_kind t))
own_converted t (Some z) = refl

-- an `unsigned long` is an address
pub address_stays : (z : ℤ) → fits kind.ULong z ≡ true → pos (to_address z) ≡ z
address_stays z h = wrap_stays kind.ULong z h

-- the address of an array is a number
pub array_kind : (t : TypeTree) → is_array t ≡ true → number_kind t ≡ kind.ULong
array_kind void_type h = refl
array_kind (integer_type k) h = absurd cc
array_kind (pointer_type t) h = refl
array_kind (array_type t count) h = refl
array_kind (struct_type id) h = refl
array_kind (function_type f) h = refl

-- so many steps of size 1
pub bytes_behind : (b n : ℕ) → moved b (pos n) 1 false ≡ to_address (pos (b + n))
bytes_behind b n = let one : n * 1 ≡ n = omega arith in ap (λ z. to_address (pos (b + z))) one

-- an enumerator's name is no place
pub name_cut : (g : Setting) (w : World KeptNumbers) (k : ℕ) (f : ExprFormTree) (object : ℕ) (o : Option ℤ) (h : ℤ → ℤ) (n : ℤ) → Some n ≡ option_map h o → (b : Bool) (r : List ℤ) (m : KeptNumbers) → Cut [] ≡ (name_meaning g w k f object o).place b r m
name_cut g w k f object None h n is b r m = absurd cc
name_cut g w k f object (Some z) h n is b r m = refl

-- every other name is the address of its object
pub name_found : (g : Setting) (w : World KeptNumbers) (k : ℕ) (f : ExprFormTree) (i object : ℕ) (o : Option ℤ) (h : ℤ → ℤ) → None ≡ option_map h o → i ≡ object → (b : Bool) (r : List ℤ) (m : KeptNumbers) → gives (address_of w (target_at g i) i) r m ≡ (name_meaning g w k f object o).place b r m
name_found g w k f i object None h is same b r m = ap (λ j. gives (address_of w (target_at g j) j) r m) same
name_found g w k f i object (Some z) h is same b r m = absurd cc
