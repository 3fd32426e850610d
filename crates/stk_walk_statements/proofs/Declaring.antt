-- What the declarator of an automatic object makes of where a walk stands.
use Rattle.std.proofs.Common.{◌≡◌, ℕ, List, [], ◌∷◌, Bool, true, false, ℤ, Option, Some, None, refl, sym, ap, subst, set}
use Rattle.std.specs.Prelude.{if◌then◌else◌}
use Rattle.stk_meaning.specs.Typings.{number_kind, converted, is_among}
use Rattle.stk_meaning.specs.Places.{Setting, Target, in_register, in_kept, in_object, unnamed, target_at, object_target, position_behind}
use Rattle.stk_meaning.specs.Worlds.{Ran, Went, World, Flow, Normal, and_then, gives}
use Rattle.stk_meaning.specs.Keys.{unset_key}
use Rattle.stk_meaning.specs.Paths.{InputMap, KeptNumbers, path_world}
use Rattle.stk_meaning.specs.Expressions.{stored_at, address_of}
use Rattle.stk_meaning.specs.Declarations.{begun_with, begun_without}
use Rattle.stk_guarded.specs.Standing.{Standing, moved_to}
use Rattle.stk_guarded.specs.Statements.{Declares}
use Rattle.stk_guarded.proofs.Evaluations.{moves_goes}
use Rattle.stk_guarded.proofs.Statements.{set_declares, goes_declares}

-- both ways the same
pub if_same : {A : Type 0} (b : Bool) (x : A) → x ≡ (if b then x else x)
if_same true x = refl
if_same false x = refl

-- a declarator that is a register is its own
object_register : (k i : ℕ) (o : Option ℕ) → object_target k o ≡ in_register i → i ≡ k
object_register k i None e = absurd cc
object_register k i (Some q) e = absurd cc

own_register : (b : Bool) (k i : ℕ) (o : Option ℕ) → (if b then in_register k else object_target k o) ≡ in_register i → i ≡ k
own_register true k i o e = sym (ap register_in e)
  where
    register_in : Target → ℕ
    register_in (in_register j) = j
    register_in (in_kept q) = k
    register_in (in_object j) = k
    register_in unnamed = k
own_register false k i o e = object_register k i o e

same_register : (g : Setting) (k i : ℕ) → target_at g k ≡ in_register i → i ≡ k
same_register g k i e = own_register (is_among k g.registers) k i (position_behind 0 k g.kept) e

-- a register that is set, whether the run has come here or not
register_declares : (k i : ℕ) (x : ℤ) (s : Standing) → i ≡ k → Declares (k ∷ []) (Went Normal (set s.numbers i x) s.kept []) Normal s (record s { numbers = set s.numbers i x })
register_declares k i x s e = subst (λ (j : ℕ). Declares (j ∷ []) (Went Normal (set s.numbers i x) s.kept []) Normal s (record s { numbers = set s.numbers i x })) e (set_declares i x Normal s)

-- kept numbers that change
pub kept_declares : (k : ℕ) (m : KeptNumbers) (s : Standing) → Declares (k ∷ []) (Went Normal s.numbers m []) Normal s (moved_to s.numbers m s)
kept_declares k m s = goes_declares (k ∷ []) (Went Normal s.numbers m []) Normal s (moved_to s.numbers m s) (moves_goes Normal s.numbers m s)

-- with the number of an initialiser
stored : Setting → World KeptNumbers → ℕ → ℤ → List ℤ → KeptNumbers → Target → Ran Flow KeptNumbers
stored g w k x r m t = and_then (stored_at w t (number_kind (g.typing.type_at k)) (address_of w t k) (converted (g.typing.type_at k) x) x r m) (λ y. gives Normal)

pub register_with : (g : Setting) (inputs : InputMap) (k i : ℕ) (x : ℤ) (s : Standing) → target_at g k ≡ in_register i →
    Declares (k ∷ []) (begun_with g (path_world inputs) k x s.numbers s.kept) Normal s (record s { numbers = set s.numbers i (converted (g.typing.type_at k) x) })
unfolding stored
register_with g inputs k i x s e =
    subst (λ (t : Target). Declares (k ∷ []) (stored g (path_world inputs) k x s.numbers s.kept t) Normal s (record s { numbers = set s.numbers i (converted (g.typing.type_at k) x) })) (sym e)
    (register_declares k i (converted (g.typing.type_at k) x) s (same_register g k i e))

pub kept_with : (g : Setting) (inputs : InputMap) (k q : ℕ) (x : ℤ) (s : Standing) → target_at g k ≡ in_kept q →
    Declares (k ∷ []) (begun_with g (path_world inputs) k x s.numbers s.kept) Normal s (moved_to s.numbers (set s.kept q (Some (converted (g.typing.type_at k) x))) s)
unfolding stored
kept_with g inputs k q x s e =
    subst (λ (t : Target). Declares (k ∷ []) (stored g (path_world inputs) k x s.numbers s.kept t) Normal s (moved_to s.numbers (set s.kept q (Some (converted (g.typing.type_at k) x))) s)) (sym e)
    (kept_declares k (set s.kept q (Some (converted (g.typing.type_at k) x))) s)

-- without initialiser
pub register_without : (g : Setting) (inputs : InputMap) (k i : ℕ) (s : Standing) → target_at g k ≡ in_register i →
    Declares (k ∷ []) (begun_without g (path_world inputs) k (target_at g k) s.numbers s.kept) Normal s (record s { numbers = set s.numbers i (inputs (unset_key k)) })
register_without g inputs k i s e =
    subst (λ (t : Target). Declares (k ∷ []) (begun_without g (path_world inputs) k t s.numbers s.kept) Normal s (record s { numbers = set s.numbers i (inputs (unset_key k)) })) (sym e)
    (register_declares k i (inputs (unset_key k)) s (same_register g k i e))

pub kept_without : (g : Setting) (inputs : InputMap) (k q : ℕ) (s : Standing) → target_at g k ≡ in_kept q →
    Declares (k ∷ []) (begun_without g (path_world inputs) k (target_at g k) s.numbers s.kept) Normal s (moved_to s.numbers (set s.kept q None) s)
kept_without g inputs k q s e =
    subst (λ (t : Target). Declares (k ∷ []) (begun_without g (path_world inputs) k t s.numbers s.kept) Normal s (moved_to s.numbers (set s.kept q None) s)) (sym e)
    (kept_declares k (set s.kept q None) s)
