-- Names of kinds and the commas between them.
use Rattle.std.proofs.Common.{◌≡◌, ℕ, zero, suc, ◌≤◌, ◌<◌, ◌⊎◌, inl, inr, Bool, true, false, ◌&&◌, nat_eq, List, [], ◌∷◌, ◌++◌, length, take, drop, get_or, drop-cons, length-drop, ◌-◌, refl, sym, ap, ◌∙◌, subst, arith, if◌then◌else◌}
use Rattle.std.specs.List.{list_all}
use Rattle.std.proofs.lemmas.Bool.{true≢false}
use Rattle.std.proofs.lemmas.List.{append-nil, take-append-drop}
use Rattle.stk_numbers.specs.declared.conditions.UbKind.{UbKind}
use Rattle.stk_numbers.specs.declared.conditions.UbKind.TheVariants as ub
use Rattle.stk_numbers.specs.declared.conditions.Kinds.{Kinds}
use Rattle.stk_numbers.specs.Taken.{is_taken}
use Rattle.stk_records.specs.Kinds.{kind_name, is_no_comma, with_kind, AreNames, last, more}

-- a name has no comma
plain_name : (k : UbKind) → list_all is_no_comma (kind_name k) ≡ true
plain_name ub.Overflow = refl
plain_name ub.Zero = refl
plain_name ub.Shift = refl
plain_name ub.Null = refl
plain_name ub.Pointer = refl
plain_name ub.Bounds = refl
plain_name ub.AbsValue = refl
plain_name ub.Overlap = refl

-- each kind has a name of its own, which its first letter tells
first_of : List ℕ → ℕ
first_of [] = 0
first_of (b ∷ bs) = b

kind_of_first : ℕ → UbKind
kind_of_first b =
    if nat_eq b 111 then ub.Overflow else (if nat_eq b 122 then ub.Zero else (if nat_eq b 115 then ub.Shift else (if nat_eq b 110 then ub.Null
    else (if nat_eq b 112 then ub.Pointer else (if nat_eq b 98 then ub.Bounds else (if nat_eq b 97 then ub.AbsValue else ub.Overlap))))))

kind_back : (k : UbKind) → kind_of_first (first_of (kind_name k)) ≡ k
unfolding first_of kind_of_first
kind_back ub.Overflow = refl
kind_back ub.Zero = refl
kind_back ub.Shift = refl
kind_back ub.Null = refl
kind_back ub.Pointer = refl
kind_back ub.Bounds = refl
kind_back ub.AbsValue = refl
kind_back ub.Overlap = refl

pub own_name : (j k : UbKind) → kind_name j ≡ kind_name k → j ≡ k
own_name j k e = sym (kind_back j) ∙ (ap (λ t. kind_of_first (first_of t)) e ∙ kind_back k)

and_both : (a b : Bool) → a && b ≡ true → (a ≡ true) × (b ≡ true)
and_both true b e = (refl, e)
and_both false b e = absurd cc

-- what follows a name: nothing, or a comma and more
abbrev pub Follows : List ℕ → Type 0
Follows tail = (tail ≡ []) ⊎ ((rest : List ℕ) × (tail ≡ 44 ∷ rest))

-- the first comma of a text, or its end
pub record IsComma (text : List ℕ) (at : ℕ) : Type 0 where
  pub within : at ≤ length text
  pub before : list_all is_no_comma (take at text) ≡ true
  pub here : at < length text → get_or text at 0 ≡ 44

-- a name without comma ends there
cut : (name tail : List ℕ) (at : ℕ) → list_all is_no_comma name ≡ true → Follows tail → IsComma (name ++ tail) at → (take at (name ++ tail) ≡ name) × (drop at (name ++ tail) ≡ tail)
cut [] tail zero plain f c = (refl, refl)
cut [] tail (suc at) plain (inl e) c = absurd (let w = subst (λ t. suc at ≤ length t) e c.within in omega arith)
cut [] tail (suc at) plain (inr r) c = absurd (true≢false (sym c.before ∙ ap (λ t. list_all is_no_comma (take (suc at) t)) r.1))
cut (b ∷ name) tail zero plain f c =
    let comma : b ≡ 44 = c.here (omega arith) in
    absurd (true≢false (sym (and_both _ _ plain).0 ∙ ap (λ x. is_no_comma x) comma))
cut (b ∷ name) tail (suc at) plain f c =
    let inner : IsComma (name ++ tail) at = record { within = (let w = c.within in omega arith); before = (and_both (is_no_comma b) _ c.before).1; here = λ l. c.here (omega arith) } in
    let rest = cut name tail at (and_both (is_no_comma b) _ plain).1 f inner in
    (ap (λ t. b ∷ t) rest.0, rest.1)

-- what names begin with: a kind that isn't taken, and nothing behind it, or a comma and names
pub record Begins (before : Kinds) (text : List ℕ) (at : ℕ) (all : Kinds) : Type 0 where
  pub kind : UbKind
  pub name : take at text ≡ kind_name kind
  pub free : is_taken before kind ≡ false
  pub behind : ((drop at text ≡ []) × (all ≡ with_kind before kind)) ⊎ ((rest : List ℕ) × (drop at text ≡ 44 ∷ rest) × AreNames (with_kind before kind) rest all)

pub begins : {before : Kinds} {text : List ℕ} {all : Kinds} (at : ℕ) → IsComma text at → AreNames before text all → Begins before text at all
begins {before = before} {text = text} {all = all} at c (last k e free is) =
    let whole : text ≡ kind_name k ++ [] = e ∙ sym (append-nil (kind_name k)) in
    let both = cut (kind_name k) [] at (plain_name k) (inl refl) (subst (λ t. IsComma t at) whole c) in
    record { kind = k; name = ap (take at) whole ∙ both.0; free = free; behind = inl (ap (drop at) whole ∙ both.1, is) }
begins {before = before} {text = text} {all = all} at c (more k rest e free names) =
    let both = cut (kind_name k) (44 ∷ rest) at (plain_name k) (inr (rest, refl)) (subst (λ t. IsComma t at) e c) in
    record { kind = k; name = ap (take at) e ∙ both.0; free = free; behind = inr (rest, ap (drop at) e ∙ both.1, names) }

-- no names where what stands before the comma is none
pub no_name : {before : Kinds} {text : List ℕ} {all : Kinds} (at : ℕ) → IsComma text at → ((k : UbKind) → take at text ≡ kind_name k → ⊥) → AreNames before text all → ⊥
no_name at c none names = let b = begins at c names in none b.kind b.name

-- nor where its kind is taken
pub taken_name : {before : Kinds} {text : List ℕ} {all : Kinds} (at : ℕ) (k : UbKind) → IsComma text at → take at text ≡ kind_name k → is_taken before k ≡ true → AreNames before text all → ⊥
taken_name {before = before} at k c name taken names =
    let b = begins at c names in
    let same : k ≡ b.kind = own_name k b.kind (sym name ∙ b.name) in
    true≢false (sym taken ∙ (ap (is_taken before) same ∙ b.free))

whole_text : (text : List ℕ) (at : ℕ) → take at text ++ drop at text ≡ text
whole_text text at = take-append-drop at text

-- the last name
pub is_last : {before : Kinds} {text : List ℕ} (at : ℕ) (k : UbKind) → take at text ≡ kind_name k → is_taken before k ≡ false → drop at text ≡ [] → AreNames before text (with_kind before k)
is_last {text = text} at k name free none = last k (sym (whole_text text at) ∙ (ap (λ t. take at text ++ t) none ∙ (append-nil (take at text) ∙ name))) free refl

-- a name and a comma
pub goes_on : {before : Kinds} {text : List ℕ} {all : Kinds} (at : ℕ) (k : UbKind) (rest : List ℕ) → take at text ≡ kind_name k → is_taken before k ≡ false → drop at text ≡ 44 ∷ rest → AreNames (with_kind before k) rest all → AreNames before text all
goes_on {text = text} at k rest name free comma names = more k rest (sym (whole_text text at) ∙ (ap (λ t. take at text ++ t) comma ∙ ap (λ t. t ++ 44 ∷ rest) name)) free names

tail_of : {a b : ℕ} {x y : List ℕ} → a ∷ x ≡ b ∷ y → x ≡ y
tail_of e = cc

pub goes_down : {before : Kinds} {text : List ℕ} {all : Kinds} (at : ℕ) (k : UbKind) (rest : List ℕ) → IsComma text at → take at text ≡ kind_name k → drop at text ≡ 44 ∷ rest → AreNames before text all → AreNames (with_kind before k) rest all
goes_down {before = before} {all = all} at k rest c name comma names =
    let b = begins at c names in
    let same : b.kind ≡ k = own_name b.kind k (sym b.name ∙ name) in
    elim b.behind [
      | inl g ↦ absurd (nothing (sym g.0 ∙ comma))
      | inr g ↦ subst (λ j. AreNames (with_kind before j) rest all) same (subst (λ t. AreNames (with_kind before b.kind) t all) (tail_of (sym g.1 ∙ comma)) g.2)
    ]
  where
    nothing : {x : ℕ} {xs : List ℕ} → ◌≡◌ {A = List ℕ} [] (x ∷ xs) → ⊥
    nothing e = cc

-- what stands at the end of a name is a comma
pub comma_here : (text : List ℕ) (at x : ℕ) (rest : List ℕ) → IsComma text at → drop at text ≡ x ∷ rest → drop at text ≡ 44 ∷ rest
comma_here text at x rest c e =
    let long : length (drop at text) ≡ suc (length rest) = ap length e in
    let cut_off : length (drop at text) ≡ length text - at = length-drop at text in
    let here : at < length text = omega arith in
    let first : x ≡ 44 = head_of (sym e ∙ drop-cons text at 0 here) ∙ c.here here in
    e ∙ ap (λ u. u ∷ rest) first
  where
    head_of : {a b : ℕ} {u v : List ℕ} → a ∷ u ≡ b ∷ v → a ≡ b
    head_of h = cc

pub none_left : (xs : List ℕ) → length xs ≡ 0 → xs ≡ []
none_left [] e = refl
none_left (x ∷ xs) e = absurd (omega arith)

-- where nothing follows the name, it is all that is named
pub only_last : {before : Kinds} {text : List ℕ} {all : Kinds} (at : ℕ) (k : UbKind) → IsComma text at → take at text ≡ kind_name k → drop at text ≡ [] → AreNames before text all → all ≡ with_kind before k
only_last {before = before} at k c name none names =
    let b = begins at c names in
    elim b.behind [
      | inl g ↦ g.1 ∙ ap (with_kind before) (own_name b.kind k (sym b.name ∙ name))
      | inr g ↦ absurd (nothing (sym none ∙ g.1))
    ]
  where
    nothing : {x : ℕ} {xs : List ℕ} → ◌≡◌ {A = List ℕ} [] (x ∷ xs) → ⊥
    nothing e = cc
