-- The first mention of a name is the last one that an index from behind finds.
use Rattle.std.proofs.Common.{ℕ, ◌≡◌, Bool, true, false, List, [], ◌∷◌, ◌++◌, Option, Some, None, refl, sym, ap, ◌∙◌}
use Rattle.std.specs.Prelude.{if◌then◌else◌}
use Rattle.stk_base.specs.Text.{same_text}
use Rattle.stk_ctype.specs.Names.{later_of}
use Rattle.stk_ctype.specs.Index.{meaning_of, last_meaning}
use Rattle.stk_meaning.specs.Places.{Mention, mentioned_in}
use Rattle.stk_function_env.specs.Settings.{words_behind}

later-none : (x : Option ℕ) → x ≡ later_of None x
later-none None = refl
later-none (Some j) = refl

none-later : (x : Option ℕ) → x ≡ later_of x None
none-later None = refl
none-later (Some j) = refl

later-assoc : (x y z : Option ℕ) → later_of x (later_of y z) ≡ later_of (later_of x y) z
later-assoc None None None = refl
later-assoc None None (Some k) = refl
later-assoc None (Some j) None = refl
later-assoc None (Some j) (Some k) = refl
later-assoc (Some i) None None = refl
later-assoc (Some i) None (Some k) = refl
later-assoc (Some i) (Some j) None = refl
later-assoc (Some i) (Some j) (Some k) = refl

last_meaning-append : (name : List ℕ) (ps : List (List ℕ × ℕ)) (p : List ℕ × ℕ) → last_meaning name (ps ++ p ∷ []) ≡ later_of (last_meaning name ps) (meaning_of name p)
last_meaning-append name [] p = sym (none-later (meaning_of name p)) ∙ later-none (meaning_of name p)
last_meaning-append name (x ∷ ps) p = ap (later_of (meaning_of name x)) (last_meaning-append name ps p) ∙ later-assoc (meaning_of name x) (last_meaning name ps) (meaning_of name p)

later_by : (b : Bool) (x : Option ℕ) (k : ℕ) → later_of x (if b then Some k else None) ≡ (if b then Some k else x)
later_by true None k = refl
later_by true (Some j) k = refl
later_by false None k = refl
later_by false (Some j) k = refl

pub last_meaning-words_behind : (name : List ℕ) (ms : List Mention) → last_meaning name (words_behind ms) ≡ mentioned_in name ms
last_meaning-words_behind name [] = refl
last_meaning-words_behind name (m ∷ ms) =
    last_meaning-append name (words_behind ms) (m.name, m.node) ∙ later_by (same_text m.name name) (last_meaning name (words_behind ms)) m.node ∙ ap (λ x. if same_text m.name name then Some m.node else x) (last_meaning-words_behind name ms)
