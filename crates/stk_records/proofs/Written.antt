-- What a sink took of records, one behind the other.
use Rattle.std.proofs.Common.{◌≡◌, ℕ, Bool, true, false, if◌then◌else◌, List, [], ◌∷◌, ◌++◌, Option, Some, None, refl, sym, ap, subst, ◌∙◌, append_assoc}
use Rattle.std.proofs.lemmas.List.{append-nil}
use Rattle.std.specs.Prelude.{is_some}
use Rattle.stk_base.specs.Streams.{Appended, AppendedPrefix}
use Rattle.stk_records.specs.declared.options.Options.{Options}
use Rattle.stk_records.specs.declared.line.Line.{Line}
use Rattle.stk_records.specs.Form.{written_line, written_lines, written_records}

-- ---- what a sink takes

pub nothing_appended : (before : Option (List ℕ)) → Appended before before []
nothing_appended None = refl
nothing_appended (Some taken) = ap (λ (u : List ℕ). Some u) (sym (append-nil taken))

pub appended_more : (before middle after : Option (List ℕ)) (a b : List ℕ) → Appended before middle a → Appended middle after b → Appended before after (a ++ b)
appended_more None middle after a b first second = second ∙ rw first refl
appended_more (Some taken) middle after a b first second = second ∙ rw first (ap (λ (u : List ℕ). Some u) (append_assoc taken a b))

-- nothing is a prefix of anything
pub no_prefix : (before : Option (List ℕ)) (a : List ℕ) → AppendedPrefix before before a
no_prefix before a = ([], a, refl, nothing_appended before)

-- a prefix of what comes behind, and something behind that
pub prefix_more : (before middle after : Option (List ℕ)) (a b rest : List ℕ) → Appended before middle a → AppendedPrefix middle after b → AppendedPrefix before after (a ++ (b ++ rest))
prefix_more before middle after a b rest first (front, back, same, second) =
    let whole : a ++ (b ++ rest) ≡ (a ++ front) ++ (back ++ rest) =
    ap (λ (u : List ℕ). a ++ (u ++ rest)) same ∙ ap (λ (u : List ℕ). a ++ u) (append_assoc front back rest) ∙ sym (append_assoc a front (back ++ rest)) in
    (a ++ front, back ++ rest, whole, appended_more before middle after a front first second)

-- what was taken is a prefix of that and more
pub prefix_of : (before after : Option (List ℕ)) (a rest : List ℕ) → AppendedPrefix before after a → AppendedPrefix before after (a ++ rest)
prefix_of before after a rest (front, back, same, taken) = (front, back ++ rest, ap (λ (u : List ℕ). u ++ rest) same ∙ append_assoc front back rest, taken)

-- ---- what is written of lines

-- of lines, one list behind the other
lines_append : (json : Bool) (xs ys : List Line) → written_lines json (xs ++ ys) ≡ written_lines json xs ++ written_lines json ys
lines_append json [] ys = refl
lines_append json (x ∷ xs) ys = ap (λ (u : List ℕ). written_line json x ++ u) (lines_append json xs ys) ∙ sym (append_assoc (written_line json x) (written_lines json xs) (written_lines json ys))

left_out : (b : Bool) (xs ys : List ℕ) → (if b then [] else (xs ++ ys)) ≡ (if b then [] else xs) ++ (if b then [] else ys)
left_out true xs ys = refl
left_out false xs ys = refl

pub written_append : (o : Options) (xs ys : List Line) → written_records o (xs ++ ys) ≡ written_records o xs ++ written_records o ys
written_append o xs ys = ap (λ (u : List ℕ). if is_some o.generate then [] else u) (lines_append o.json xs ys) ∙ left_out (is_some o.generate) (written_lines o.json xs) (written_lines o.json ys)

-- of no lines
none_by : (b : Bool) (xs : List ℕ) → xs ≡ [] → (if b then [] else xs) ≡ []
none_by true xs e = refl
none_by false xs e = e

pub written_none : (o : Options) → written_records o [] ≡ []
written_none o = none_by (is_some o.generate) [] refl

-- of one line
pub written_one : (o : Options) (x : Line) → is_some o.generate ≡ false → written_records o (x ∷ []) ≡ written_line o.json x
written_one o x e = ap (λ (b : Bool). if b then [] else (written_line o.json x ++ [])) e ∙ append-nil (written_line o.json x)

pub written_left_out : (o : Options) (xs : List Line) → is_some o.generate ≡ true → written_records o xs ≡ []
written_left_out o xs e = ap (λ (b : Bool). if b then [] else written_lines o.json xs) e

-- what lines print is followed by what others print
pub lines_more : (o : Options) (before middle after : Option (List ℕ)) (xs ys : List Line) → Appended before middle (written_records o xs) → Appended middle after (written_records o ys) → Appended before after (written_records o (xs ++ ys))
lines_more o before middle after xs ys first second = subst (Appended before after) (sym (written_append o xs ys)) (appended_more before middle after (written_records o xs) (written_records o ys) first second)
