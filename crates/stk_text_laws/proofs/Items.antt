-- Words that are legal ask for one set of options: no two items stand in front of the same words, and no text names two
-- sets of kinds.
use Rattle.std.proofs.Common.{◌≡◌, ℕ, ◌<◌, true, List, [], ◌∷◌, ◌++◌, length, take, drop, get_or, length-append, inl, inr, refl, sym, ap, ◌∙◌, arith}
use Rattle.std.specs.Prelude.{Some, None}
use Rattle.std.specs.List.{list_all}
use Rattle.std.proofs.lemmas.List.{append-nil}
use Rattle.stk_numbers.specs.declared.conditions.UbKind.{UbKind}
use Rattle.stk_numbers.specs.declared.conditions.UbKind.TheVariants as ub
use Rattle.stk_numbers.specs.declared.conditions.Kinds.{Kinds}
use Rattle.stk_records.specs.declared.options.Options.{Options}
use Rattle.stk_records.specs.Kinds.{kind_name, is_no_comma, AreNames, last, more}
use Rattle.stk_records.specs.Words.{IsItem, by_itself, apart, joined, IsItemAlone, AreItems, no_more, then_item, AreLegal}
use Rattle.stk_records.proofs.Names.{Follows, IsComma, goes_down, only_last}
use Rattle.stk_records.proofs.Forms.{front_of, itself_alone, apart_alone, joined_alone, NamesOne, only_text}
use Rattle.stk_records.proofs.Wholes as wholes
use Rattle.stk_lint.specs.Lint.{AskForReading}

-- ---- the names of kinds

-- a name has no comma
plain_name : (k : UbKind) → list_all is_no_comma (kind_name k) ≡ true
plain_name ub.Overflow = refl
plain_name ub.Zero = refl
plain_name ub.Shift = refl
plain_name ub.Null = refl
plain_name ub.Pointer = refl
plain_name ub.Bounds = refl
plain_name ub.AbsValue = refl
plain_name ub.Overlap = refl

back_of : (a b : List ℕ) → drop (length a) (a ++ b) ≡ b
back_of [] b = refl
back_of (x ∷ a) b = back_of a b

-- what stands behind a name
behind_name : (a b : List ℕ) → get_or (a ++ b) (length a) 0 ≡ get_or b 0 0
behind_name [] b = refl
behind_name (x ∷ a) b = behind_name a b

comma_behind : (a b : List ℕ) → Follows b → length a < length (a ++ b) → get_or b 0 0 ≡ 44
comma_behind a [] f h = absurd (omega (arith, h, length-append a []))
comma_behind a (x ∷ b) (inl e) h = cc
comma_behind a (x ∷ b) (inr r) h = cc (r.1)

-- a text is a name and what follows it: the first comma, or the end, is behind the name
record IsFirst (text : List ℕ) (k : UbKind) (tail : List ℕ) : Type 0 where
  comma : IsComma text (length (kind_name k))
  name : take (length (kind_name k)) text ≡ kind_name k
  behind : drop (length (kind_name k)) text ≡ tail

first_of : (a b : List ℕ) → list_all is_no_comma a ≡ true → Follows b → IsComma (a ++ b) (length a)
first_of a b plain f = record {
  within = omega (arith, length-append a b);
  before = ap (list_all is_no_comma) (front_of a b) ∙ plain;
  here = λ h. behind_name a b ∙ comma_behind a b f h;
}

first_name : (text : List ℕ) (k : UbKind) (tail : List ℕ) → text ≡ kind_name k ++ tail → Follows tail → IsFirst text k tail
first_name text k tail e f = record {
  comma = rw e (first_of (kind_name k) tail (plain_name k) f);
  name = ap (take (length (kind_name k))) e ∙ front_of (kind_name k) tail;
  behind = ap (drop (length (kind_name k))) e ∙ back_of (kind_name k) tail;
}

-- a text names one set of kinds
one_names : {before : Kinds} {text : List ℕ} {all other : Kinds} → AreNames before text all → AreNames before text other → other ≡ all
one_names {text = text} (last k e free is) h =
    let first = first_name text k [] (e ∙ sym (append-nil (kind_name k))) (inl refl) in
    only_last (length (kind_name k)) k first.comma first.name first.behind h ∙ sym is
one_names {text = text} (more k rest e free names) h =
    let first = first_name text k (44 ∷ rest) e (inr (rest, refl)) in
    one_names names (goes_down (length (kind_name k)) k rest first.comma first.name first.behind h)

-- ---- items

names_one : NamesOne
names_one text all other h k = one_names h k

item_alone : {words left : List (List ℕ)} {x : _} → IsItem words x left → IsItemAlone words x left
item_alone (by_itself f e same) = itself_alone f e same
item_alone (apart f e t) = apart_alone f e (only_text names_one f _ _ t)
item_alone (joined f text e t) = joined_alone f e (only_text names_one f text _ t)

one_asked : {seen : _} {words : List (List ℕ)} {o p : Options} → AreItems seen words o → AreItems seen words p → o ≡ p
one_asked (no_more b e) (no_more b' e') = e ∙ sym e'
one_asked (no_more b e) (then_item i free others) = absurd (omega (arith, wholes.shorter i))
one_asked (then_item i free others) h =
    let rest = wholes.goes_down (item_alone i) h (λ none. absurd (omega (arith, wholes.shorter i, ap length none))) in
    one_asked others rest.1

pub one_options : (words : List (List ℕ)) (o p : Options) → AreLegal words o → AreLegal words p → o ≡ p
one_options words o p h k = one_asked h k

-- words that ask for a generated text don't ask for reading
pub no_reading : (words : List (List ℕ)) (o : Options) (asked : ℕ × ℕ) → AreLegal words o → o.generate ≡ Some asked → AskForReading words → ⊥
no_reading words o asked legal e reading =
    let same = one_options words o reading.options legal reading.are in
    let none : Some asked ≡ None = sym e ∙ (ap (λ (x : Options). x.generate) same ∙ reading.generate) in
    cc
