-- Positions of sections: where a `switch` goes, and the sections from there on.
use Rattle.std.proofs.Common.{◌≡◌, ℕ, zero, suc, ◌+◌, ◌<◌, ◌≤◌, Bool, true, false, List, [], ◌∷◌, length, get_or, map, Option, Some, None, ℤ, refl, sym, ap, ◌∙◌, option_map, arith}
use Rattle.stk_tree.specs.declared.statement.Section.{Section}
use Rattle.stk_tree.specs.Syntax.{LabelTrees, SectionTree, SectionTrees}
use Rattle.stk_tree.specs.Syntax as s
use Rattle.stk_tree.specs.View.{view_section, sections}
use Rattle.stk_meaning.specs.Places.{Setting}
use Rattle.stk_meaning.specs.Worlds.{World, gives, next, Normal}
use Rattle.stk_meaning.specs.Statements.{labels_of, sections_before, sections_run, section_run}

-- what is left from the first place on is all
pub from_first : (o : Option ℕ) → option_map (λ n. n + 0) o ≡ o
from_first None = refl
from_first (Some n) = let e : n + 0 ≡ n = omega arith in ap Some e

-- a section that isn't the one that is looked for
later : (o : Option ℕ) (i : ℕ) → option_map (λ n. n + (i + 1)) o ≡ option_map (λ n. n + i) (option_map (λ n. n + 1) o)
later None i = refl
later (Some n) i = let e : n + (i + 1) ≡ (n + 1) + i = omega arith in ap Some e

pub passed_over : (test : LabelTrees → Bool) (x : SectionTree) (rest : SectionTrees) (i : ℕ) → test (labels_of x) ≡ false → option_map (λ n. n + (i + 1)) (sections_before test rest) ≡ option_map (λ n. n + i) (sections_before test (s.then_section x rest))
passed_over test x rest i e = rw e (later (sections_before test rest) i)

-- the one that is looked for
pub found_at : (test : LabelTrees → Bool) (x : SectionTree) (rest : SectionTrees) (i : ℕ) → test (labels_of x) ≡ true → Some i ≡ option_map (λ n. n + i) (sections_before test (s.then_section x rest))
found_at test x rest i e = rw e (let z : i ≡ 0 + i = omega arith in ap Some z)

-- the sections from a place on begin with the one at it
pub section_at : {S : Type 0} (g : Setting) (w : World S) (xs : List Section) (i : ℕ) (d : Section) (r : List ℤ) (m : S) → i < length xs → d ≡ get_or xs i d → sections_run g w (sections (map view_section xs)) i r m ≡ next (section_run g w (view_section d) r m) (λ r m. sections_run g w (sections (map view_section xs)) (i + 1) r m)
section_at g w [] i d r m h e = absurd (omega arith)
section_at g w (x ∷ xs) zero d r m h e = ap (λ (u : Section). next (section_run g w (view_section u) r m) (λ r m. sections_run g w (sections (map view_section xs)) 0 r m)) (sym e)
section_at g w (x ∷ xs) (suc i) d r m h e =
    let k : suc (i + 1) ≡ suc i + 1 = omega arith in
    let below : i < length xs = omega arith in
    section_at g w xs i d r m below e ∙ ap (λ (n : ℕ). next (section_run g w (view_section d) r m) (λ r m. sections_run g w (sections (map view_section (x ∷ xs))) n r m)) k

-- behind the last one there is nothing to do
pub sections_end : {S : Type 0} (g : Setting) (w : World S) (xs : List Section) (i : ℕ) (r : List ℤ) (m : S) → length xs ≤ i → sections_run g w (sections (map view_section xs)) i r m ≡ gives Normal r m
sections_end g w [] i r m h = refl
sections_end g w (x ∷ xs) zero r m h = absurd (omega arith)
sections_end g w (x ∷ xs) (suc i) r m h = let behind : length xs ≤ i = omega arith in sections_end g w xs i r m behind
