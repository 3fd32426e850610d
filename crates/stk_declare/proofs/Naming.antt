-- Members are found by their names.
use Rattle.std.proofs.Common.{◌≡◌, ◌∙◌, ◌+◌, ℕ, suc, Bool, true, false, ◌||◌, List, [], ◌∷◌, ◌++◌, length, Option, Some, None, refl, sym, ap, subst, arith}
use Rattle.std.specs.Option.{is_some}
use Rattle.std.specs.Prelude.{if◌then◌else◌}
use Rattle.stk_base.specs.Text.{same_text}
use Rattle.stk_ctype.specs.declared.index.Index.{Index}
use Rattle.stk_ctype.specs.declared.symbol.MemberInfo.{MemberInfo}
use Rattle.stk_ctype.specs.Index.{last_meaning, IsIndexOf}
use Rattle.stk_ctype.specs.Names.{later_of}
use Rattle.stk_declare.specs.Members.{member_words}
use Rattle.stk_declare.specs.Structs.{has_member}

words_behind : (at : ℕ) (ms : List MemberInfo) (m : MemberInfo) → member_words at (ms ++ m ∷ []) ≡ member_words at ms ++ (m.name, at + length ms) ∷ []
words_behind at [] m = let same : at ≡ at + 0 = omega arith in ap (λ n. (m.name, n) ∷ []) same
words_behind at (x ∷ ms) m =
    let same : at + 1 + length ms ≡ at + suc (length ms) = omega arith in
    ap (λ ws. (x.name, at) ∷ ws) (words_behind (at + 1) ms m ∙ ap (λ n. member_words (at + 1) ms ++ (m.name, n) ∷ []) same)

words_more : (ms : List MemberInfo) (m : MemberInfo) → member_words 0 (ms ++ m ∷ []) ≡ member_words 0 ms ++ (m.name, length ms) ∷ []
words_more ms m = let same : 0 + length ms ≡ length ms = omega arith in words_behind 0 ms m ∙ ap (λ n. member_words 0 ms ++ (m.name, n) ∷ []) same

-- one member more
pub pushed : (old new : Index ℕ) (ms now : List MemberInfo) (m : MemberInfo) (word : List ℕ) (place : ℕ) → word ≡ m.name → place ≡ length ms → now ≡ ms ++ m ∷ [] → IsIndexOf old (member_words 0 ms)
    → ((words : List (List ℕ × ℕ)) → IsIndexOf old words → IsIndexOf new (words ++ (word, place) ∷ [])) → IsIndexOf new (member_words 0 now)
pushed old new ms now m word place named counted is so step =
    subst (λ ws. IsIndexOf new ws) (ap (λ (p : List ℕ × ℕ). member_words 0 ms ++ p ∷ []) (ap (λ w. (w, place)) named ∙ ap (λ n. (m.name, n)) counted) ∙ sym (words_more ms m) ∙ ap (member_words 0) (sym is)) (step (member_words 0 ms) so)

some_later : (b : Bool) (at : ℕ) (o : Option ℕ) (r : Bool) → is_some o ≡ r → is_some (later_of (if b then Some at else None) o) ≡ (b || r)
some_later true at None r e = refl
some_later true at (Some i) r e = refl
some_later false at None r e = e
some_later false at (Some i) r e = e

pub found : (name : List ℕ) (first : ℕ) (ms : List MemberInfo) → is_some (last_meaning name (member_words first ms)) ≡ has_member name ms
found name first [] = refl
found name first (m ∷ ms) = some_later (same_text m.name name) first (last_meaning name (member_words (first + 1) ms)) (has_member name ms) (found name (first + 1) ms)
