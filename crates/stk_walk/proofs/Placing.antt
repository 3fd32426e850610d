-- Located objects from store to store, and tests that stand one after the other.
use Rattle.std.proofs.Common.{ℕ, ◌≡◌, Bool, true, false, not, ◌&&◌, List, [], ◌∷◌, ◌++◌, length, ℤ, refl, ap, ◌∙◌}
use Rattle.stk_walk.specs.declared.objects.WalkObject.{WalkObject}
use Rattle.stk_walk.specs.declared.validity.Located.{Located}
use Rattle.stk_walk.specs.Validity.{lies_in_memory, all_lie}
use Rattle.stk_walk.specs.Located.{IsLocated, AreLocated, IsLocatedMade, AreLocatedMade, objects_of}

pub located_shown : {V : Type 0} (f h : V → ℤ → Type 0) → ((v : V) (z : ℤ) → f v z → h v z) → (a : ℕ → ℕ) (x : Located V) → IsLocated f a x → IsLocated h a x
located_shown f h keep a x e = record { address = keep _ _ e.address; end = keep _ _ e.end }

pub all_shown : {V : Type 0} (f h : V → ℤ → Type 0) → ((v : V) (z : ℤ) → f v z → h v z) → (a : ℕ → ℕ) (xs : List (Located V)) → AreLocated f a xs → AreLocated h a xs
all_shown f h keep a [] e = tt
all_shown f h keep a (x ∷ xs) e = (located_shown f h keep a x e.0, all_shown f h keep a xs e.1)

pub located_made : {V : Type 0} (f h : V → Type 0) → ((v : V) → f v → h v) → (x : Located V) → IsLocatedMade f x → IsLocatedMade h x
located_made f h keep x e = record { address = keep _ e.address; end = keep _ e.end }

pub all_made : {V : Type 0} (f h : V → Type 0) → ((v : V) → f v → h v) → (xs : List (Located V)) → AreLocatedMade f xs → AreLocatedMade h xs
all_made f h keep [] e = tt
all_made f h keep (x ∷ xs) e = (located_made f h keep x e.0, all_made f h keep xs e.1)

-- one more
pub more_shown : {V : Type 0} (f : V → ℤ → Type 0) (a : ℕ → ℕ) (xs : List (Located V)) (x : Located V) → AreLocated f a xs → IsLocated f a x → AreLocated f a (xs ++ x ∷ [])
more_shown f a [] x e h = (h, tt)
more_shown f a (y ∷ xs) x e h = (e.0, more_shown f a xs x e.1 h)

pub more_made : {V : Type 0} (f : V → Type 0) (xs : List (Located V)) (x : Located V) → AreLocatedMade f xs → IsLocatedMade f x → AreLocatedMade f (xs ++ x ∷ [])
more_made f [] x e h = (h, tt)
more_made f (y ∷ xs) x e h = (e.0, more_made f xs x e.1 h)

pub objects_more : {V : Type 0} (xs : List (Located V)) (x : Located V) → objects_of (xs ++ x ∷ []) ≡ objects_of xs ++ x.object ∷ []
objects_more [] x = refl
objects_more (y ∷ xs) x = ap (λ z. y.object ∷ z) (objects_more xs x)

pub and_assoc : (a b c : Bool) → (a && b) && c ≡ a && (b && c)
and_assoc false b c = refl
and_assoc true b c = refl

pub and_true : (a : Bool) → a && true ≡ a
and_true false = refl
and_true true = refl

pub all_lie_more : (a : ℕ → ℕ) (os : List WalkObject) (o : WalkObject) → all_lie a (os ++ o ∷ []) ≡ all_lie a os && lies_in_memory a o
all_lie_more a [] o = and_true (lies_in_memory a o)
all_lie_more a (p ∷ os) o = ap (λ z. lies_in_memory a p && z) (all_lie_more a os o) ∙ back (lies_in_memory a p) (all_lie a os) (lies_in_memory a o)
  where
    back : (x y z : Bool) → x && (y && z) ≡ (x && y) && z
    back false y z = refl
    back true y z = refl

pub no_pair : (b p s : Bool) → p ≡ false → b ≡ b && not (p && s)
no_pair false p s e = refl
no_pair true false s e = refl
no_pair true true s e = absurd cc

pub a_pair : (b p s : Bool) → p ≡ true → b && not s ≡ b && not (p && s)
a_pair b true s e = refl
a_pair b false s e = absurd cc

pub none_left : {A : Type 0} (xs : List A) → length xs ≡ 0 → xs ≡ []
none_left [] e = refl
none_left (x ∷ xs) e = absurd cc
