-- What a start answers, by the test of its map.
use Rattle.std.proofs.Common.{◌≡◌, ◌↔◌, ℕ, Bool, true, false, ◌&&◌, List, [], ◌∷◌, ℤ, map, Option, Some, None, refl, sym, ap, subst, ◌∙◌}
use Rattle.std.specs.Prelude.{IsTrue, MatchOption}
use Rattle.stk_ctype.specs.declared.kind.IntKind.{IntKind}
use Rattle.stk_tree.specs.Syntax.{FunctionTree}
use Rattle.stk_numbers.specs.Kinds.{width_of}
use Rattle.stk_numbers.specs.Values.{bits_of}
use Rattle.stk_numbers.specs.declared.conditions.Candidate.{Candidate}
use Rattle.stk_numbers.specs.declared.conditions.Condition.{Condition}
use Rattle.stk_numbers.specs.declared.conditions.Kinds.{Kinds}
use Rattle.stk_meaning.specs.Typings.{Typing}
use Rattle.stk_meaning.specs.Keys.{KeyInfo, keys_of}
use Rattle.stk_meaning.specs.Maps.{AreInRange}
use Rattle.stk_meaning.specs.Paths.{path}
use Rattle.stk_meaning.proofs.HitLemmas.{found, finds}
use Rattle.stk_terms.specs.Fitting.{AreResidues}
use Rattle.stk_symbols.specs.Symbolic.{Covers, residues_of}
use Rattle.stk_symbols.specs.Maps.{map_of}
use Rattle.stk_symbols.proofs.Mapped.{one_for_one}
use Rattle.stk_goals.specs.Queries.{key_kinds}
use Rattle.stk_bundle.specs.Claims.{residues}
use Rattle.stk_audit_rules.specs.Worlds.{IsAnsweredBy}
use Rattle.stk_source_audit.specs.Functions.{audited_function}
use Rattle.stk_source_audit.specs.Asked.{AreWordsOf, answers_test}

-- ---- keys and residues

in_range : (keys : List KeyInfo) (m : List ℤ) → Covers (map (λ k. k.kind) keys) m → AreInRange keys m
in_range [] [] h = tt
in_range [] (z ∷ zs) h = absurd h
in_range (k ∷ ks) [] h = absurd h
in_range (k ∷ ks) (z ∷ zs) h = (h.0, in_range ks zs h.1)

pub covers : (keys : List KeyInfo) (m : List ℤ) → AreInRange keys m → Covers (map (λ k. k.kind) keys) m
covers [] [] h = tt
covers [] (z ∷ zs) h = absurd h
covers (k ∷ ks) [] h = absurd h
covers (k ∷ ks) (z ∷ zs) h = (h.0, covers ks zs h.1)

pub same_residues : (ks : List IntKind) (m : List ℤ) → residues ks m ≡ residues_of ks m
same_residues [] m = refl
same_residues (k ∷ ks) [] = refl
same_residues (k ∷ ks) (z ∷ zs) = ap (λ rs. bits_of k z ∷ rs) (same_residues ks zs)

left_true : (a b : Bool) → (a && b) ≡ true → a ≡ true
left_true true b e = refl
left_true false b e = absurd (cc)

right_true : (a b : Bool) → (a && b) ≡ true → b ≡ true
right_true true b e = e
right_true false b e = absurd (cc)

both_true : (a b : Bool) → a ≡ true → b ≡ true → (a && b) ≡ true
both_true true b e h = h
both_true false b e h = absurd (cc)

module _ (ty : Typing) (without : Kinds) (f : FunctionTree) (c : Candidate) (set : List Condition) (start : List ℕ) where
  abbrev ks : List IntKind
  ks = key_kinds ty without f

  module _ (a : IsAnsweredBy (audited_function ty without f) c set start) where
    covered : Covers ks a.map
    covered = covers (keys_of ty without f) a.map a.answers.valid.covers

    residues_are : residues_of ks a.map ≡ start
    residues_are = sym (same_residues ks a.map) ∙ a.same

    fits : AreResidues (map width_of ks) start
    fits = subst (AreResidues (map width_of ks)) residues_are ((one_for_one ks).in_range a.map covered)

    -- the map of the residues is this one
    same_map : a.map ≡ map_of ks start
    same_map = sym ((one_for_one ks).numbers a.map covered) ∙ ap (map_of ks) residues_are

    test_holds : answers_test ty without f c set (map_of ks start) ≡ true
    test_holds = subst (λ (m : List ℤ). answers_test ty without f c set m ≡ true) same_map (both_true _ _ a.answers.valid.apart (finds set c (path ty without f a.map) a.answers.hits))

  -- residues that aren't in range answer nothing
  pub out_of_range : (AreResidues (map width_of ks) start → ⊥) → IsAnsweredBy (audited_function ty without f) c set start → ⊥
  out_of_range none a = none (fits a)

  answers_there : AreResidues (map width_of ks) start → answers_test ty without f c set (map_of ks start) ≡ true → IsAnsweredBy (audited_function ty without f) c set start
  answers_there fit e = record {
    map = map_of ks start;
    same = same_residues ks (map_of ks start) ∙ (one_for_one ks).residues start fit;
    answers = record {
      valid = record { covers = in_range (keys_of ty without f) (map_of ks start) ((one_for_one ks).covers start fit); apart = left_true _ _ e };
      hits = found set c (path ty without f (map_of ks start)) (right_true _ _ e);
    };
  }

  -- the others answer where the test of their map holds
  pub by_test : (words : List ℤ) (b : Bool) → AreWordsOf ks start words → b ≡ answers_test ty without f c set words → IsTrue b ↔ IsAnsweredBy (audited_function ty without f) c set start
  by_test words b w is =
      let same : b ≡ answers_test ty without f c set (map_of ks start) = is ∙ ap (answers_test ty without f c set) w.are in
      ((λ t. answers_there w.fit (sym same ∙ t)), (λ a. same ∙ test_holds a))

-- where none are in range
pub none_fit : {A : Type 0} (o : Option A) (P : Type 0) (Q : A → Type 0) → o ≡ None → MatchOption o P Q → P
none_fit None P Q e h = h
none_fit (Some x) P Q e h = absurd cc

-- the numbers that were found
pub some_fit : {A : Type 0} (o : Option A) (x : A) (P : Type 0) (Q : A → Type 0) → o ≡ Some x → MatchOption o P Q → Q x
some_fit {A = A} o x P Q e h = subst (λ (y : Option A). MatchOption y P Q) e h
