-- What an index of words keeps: for each word the last of its meanings, and behind each word the meaning that it had
-- before.
use Rattle.std.specs.Prelude.{◌≡◌, ℕ, List, [], ◌∷◌, ◌++◌, Option, Some, None, if◌then◌else◌}
use Rattle.std.specs.Ordering.{nat_cmp}
use Rattle.std.specs.Cmp.Lexicographic.{slice_cmp}
use Rattle.std.specs.BTreeMap.{get_by}
use Rattle.stk_base.specs.Text.{same_text}
use Rattle.stk_ctype.specs.declared.index.Index.{Index}
use Rattle.stk_ctype.specs.Names.{later_of}

module _ {M : Type 0} where
  -- the meaning of a word, where it is this one
  abbrev pub meaning_of : List ℕ → List ℕ × M → Option M
  meaning_of word p = if same_text p.0 word then Some p.1 else None

  -- the last meaning of a word among words in order
  abbrev pub last_meaning : List ℕ → List (List ℕ × M) → Option M
  last_meaning word [] = None
  last_meaning word (p ∷ ps) = later_of (meaning_of word p) (last_meaning word ps)

  -- for each word that comes behind others the last meaning that it has among those before it
  abbrev pub earlier_meanings : List (List ℕ × M) → List (List ℕ × M) → List (Option M)
  earlier_meanings before [] = []
  earlier_meanings before (p ∷ ps) = last_meaning p.0 before ∷ earlier_meanings (before ++ p ∷ []) ps

  -- what an index finds under a word
  abbrev pub looked_up : Index M → List ℕ → Option M
  looked_up index word = get_by (λ k. slice_cmp nat_cmp word k.items) index.last

  -- an index keeps these words with their meanings
  pub record IsIndexOf (index : Index M) (words : List (List ℕ × M)) : Type 0 where
    pub last : (word : List ℕ) → looked_up index word ≡ last_meaning word words
    pub earlier : index.earlier.items ≡ earlier_meanings [] words
