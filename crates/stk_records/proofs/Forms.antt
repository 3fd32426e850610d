-- Which item stands in front of words, and that no other does.
use Rattle.std.proofs.Common.{◌≡◌, ℕ, true, ◌&&◌, ◌==◌, if◌then◌else◌, nat_eq, List, [], ◌∷◌, ◌++◌, length, take, drop, get_or, refl, sym, ap, ◌∙◌, subst, arith}
use Rattle.std.specs.Prelude.{MatchOption, Option, Some, None}
use Rattle.std.specs.Cmp.Lexicographic.{pointwise}
use Rattle.std.proofs.lemmas.Bool.{eq-eqb}
use Rattle.std.proofs.lemmas.List.{length-append}
use Rattle.stk_numbers.specs.declared.conditions.Kinds.{Kinds}
use Rattle.stk_records.specs.declared.options.ConditionSet.{ConditionSet}
use Rattle.stk_records.specs.declared.options.ConditionSet.TheVariants as set
use Rattle.stk_records.specs.declared.options.Item.{Item}
use Rattle.stk_records.specs.declared.options.Item.TheVariants as item
use Rattle.stk_records.specs.declared.items.Form.{Form}
use Rattle.stk_records.specs.declared.items.Form.TheVariants as form
use Rattle.stk_records.specs.Kinds.{no_kinds, AreNames}
use Rattle.stk_records.specs.Words.{form_word, IsScriptAsked, IsText, IsOnlyText, item_of, IsItem, by_itself, apart, joined, IsItemAlone}

pub front_of : (a b : List ℕ) → take (length a) (a ++ b) ≡ a
front_of [] b = refl
front_of (x ∷ a) b = ap (λ t. x ∷ t) (front_of a b)

-- a text is itself
pub alike : (a : List ℕ) → pointwise nat_eq a a ≡ true
alike [] = refl
alike (x ∷ a) = ap (λ b. b && pointwise nat_eq a a) (eq-eqb x x refl) ∙ alike a

-- what stands behind the same text is the same
behind_same : (a b c : List ℕ) → a ++ b ≡ a ++ c → b ≡ c
behind_same [] b c e = e
behind_same (x ∷ a) b c e = behind_same a b c (ap (drop 1) e)

-- ---- the words differ

-- the form of a word that is one, by its third letter, and where these are alike by its fifth or sixth
abbrev formed : List ℕ → Form
formed xs =
    if get_or xs 2 0 == 106 then form.Json else (if get_or xs 2 0 == 98 then (if get_or xs 4 0 == 110 then form.Bundle else form.Budget) else (if get_or xs 2 0 == 119 then form.Without else (if get_or xs 2 0 == 103 then form.Generate else (if get_or xs 2 0 == 102 then form.Functions else (if get_or xs 5 0 == 45 then form.SmtHit else form.Smt)))))

formed_alone : (f : Form) → formed (form_word f) ≡ f
formed_alone form.Json = refl
formed_alone form.Budget = refl
formed_alone form.Without = refl
formed_alone form.Generate = refl
formed_alone form.Functions = refl
formed_alone form.Smt = refl
formed_alone form.SmtHit = refl
formed_alone form.Bundle = refl

formed_joined : (f : Form) (t : List ℕ) → formed (form_word f ++ 61 ∷ t) ≡ f
formed_joined form.Json t = refl
formed_joined form.Budget t = refl
formed_joined form.Without t = refl
formed_joined form.Generate t = refl
formed_joined form.Functions t = refl
formed_joined form.Smt t = refl
formed_joined form.SmtHit t = refl
formed_joined form.Bundle t = refl

-- words that are alike, alone or with `=` behind them, are those of one form
one_form : (f g : Form) → form_word f ≡ form_word g → f ≡ g
one_form f g e = sym (formed_alone f) ∙ (ap formed e ∙ formed_alone g)

joined_form : (f g : Form) (s t : List ℕ) → form_word f ++ 61 ∷ s ≡ form_word g ++ 61 ∷ t → f ≡ g
joined_form f g s t e = sym (formed_joined f s) ∙ (ap formed e ∙ formed_joined g t)

longer : (a t : List ℕ) → a ≡ a ++ 61 ∷ t → ⊥
longer a t e =
    let long : length a ≡ length (a ++ 61 ∷ t) = ap length e in
    let sum = length-append a (61 ∷ t) in
    absurd (omega arith)

apart_joined : (f g : Form) (t : List ℕ) → form_word f ≡ form_word g ++ 61 ∷ t → ⊥
apart_joined f g t e =
    let same = sym (formed_alone f) ∙ (ap formed e ∙ formed_joined g t) in
    longer (form_word f) t (e ∙ ap (λ h. form_word h ++ 61 ∷ t) (sym same))

joined_text : (f g : Form) (s t : List ℕ) → form_word f ++ 61 ∷ s ≡ form_word g ++ 61 ∷ t → s ≡ t
joined_text f g s t e =
    let same = joined_form f g s t e in
    ap (drop 1) (behind_same (form_word g) (61 ∷ s) (61 ∷ t) (ap (λ h. form_word h ++ 61 ∷ s) (sym same) ∙ e))

-- ---- the item of each form

-- a word that is an item by itself takes no text
no_text : (f : Form) (text : List ℕ) (x y : Item) → item_of f ≡ Some y → IsText f text x → ⊥
no_text form.Json text x y e t = t
no_text form.Budget text x y e t = absurd cc
no_text form.Without text x y e t = absurd cc
no_text form.Generate text x y e t = absurd cc
no_text form.Functions text x y e t = absurd cc
no_text form.Smt text x y e t = absurd cc
no_text form.SmtHit text x y e t = absurd cc
no_text form.Bundle text x y e t = t

moved : {f g : Form} {s t : List ℕ} (x : Item) → f ≡ g → s ≡ t → IsText f s x → IsText g t x
moved {g = g} {s = s} x e d i = subst (λ u. IsText g u x) d (subst (λ h. IsText h s x) e i)

one_some : {x y : Item} {a b : Option Item} → a ≡ b → a ≡ Some y → b ≡ Some x → y ≡ x
one_some e d i = cc

itself_only : {first : List ℕ} {ls : List (List ℕ)} {x y : Item} {o : List (List ℕ)} (f : Form) → first ≡ form_word f → item_of f ≡ Some x → IsItem (first ∷ ls) y o → (y ≡ x) × (o ≡ ls)
itself_only f e i (by_itself g d j) = (one_some (ap item_of (one_form g f (sym d ∙ e))) j i, refl)
itself_only {y = y} f e i (apart g d t) = absurd (no_text f _ y _ i (moved y (one_form g f (sym d ∙ e)) refl t))
itself_only f e i (joined g s d t) = absurd (apart_joined f g s (sym e ∙ d))

pub itself_alone : {first : List ℕ} {ls : List (List ℕ)} {x : Item} (f : Form) → first ≡ form_word f → item_of f ≡ Some x → IsItemAlone (first ∷ ls) x ls
itself_alone f e i = record { is = by_itself f e i; alone = λ y o k. itself_only f e i k }

apart_only : {first text : List ℕ} {ls : List (List ℕ)} {x y : Item} {o : List (List ℕ)} (f : Form) → first ≡ form_word f → IsOnlyText f text x → IsItem (first ∷ text ∷ ls) y o → (y ≡ x) × (o ≡ ls)
apart_only {x = x} f e only (by_itself g d j) = absurd (no_text g _ x _ j (moved x (one_form f g (sym e ∙ d)) refl only.is))
apart_only {y = y} f e only (apart g d t) = (only.alone y (moved y (one_form g f (sym d ∙ e)) refl t), refl)
apart_only f e only (joined g s d t) = absurd (apart_joined f g s (sym e ∙ d))

pub apart_alone : {first text : List ℕ} {ls : List (List ℕ)} {x : Item} (f : Form) → first ≡ form_word f → IsOnlyText f text x → IsItemAlone (first ∷ text ∷ ls) x ls
apart_alone f e only = record { is = apart f e only.is; alone = λ y o i. apart_only f e only i }

joined_only : {first text : List ℕ} {ls : List (List ℕ)} {x y : Item} {o : List (List ℕ)} (f : Form) → first ≡ form_word f ++ 61 ∷ text → IsOnlyText f text x → IsItem (first ∷ ls) y o → (y ≡ x) × (o ≡ ls)
joined_only {text = text} f e only (by_itself g d j) = absurd (apart_joined g f text (sym d ∙ e))
joined_only {text = text} f e only (apart g d t) = absurd (apart_joined g f text (sym d ∙ e))
joined_only {text = text} {y = y} f e only (joined g s d t) = (only.alone y (moved y (joined_form g f s text (sym d ∙ e)) (joined_text g f s text (sym d ∙ e)) t), refl)

pub joined_alone : {first text : List ℕ} {ls : List (List ℕ)} {x : Item} (f : Form) → first ≡ form_word f ++ 61 ∷ text → IsOnlyText f text x → IsItemAlone (first ∷ ls) x ls
joined_alone {text = text} f e only = record { is = joined f text e only.is; alone = λ y o i. joined_only f e only i }

-- a text names one set of kinds
abbrev pub NamesOne : Type 0
NamesOne = (text : List ℕ) (all other : Kinds) → AreNames no_kinds text all → AreNames no_kinds text other → other ≡ all

one_script : (conditions : ConditionSet) (text : List ℕ) (x y : Item) → IsScriptAsked conditions text x → IsScriptAsked conditions text y → y ≡ x
one_script conditions text x y t s = s.1 ∙ (ap (λ n. item.Script (record { number = n; set = conditions })) (s.2.is ∙ sym t.2.is) ∙ sym t.1)

-- a form whose text asks for a script says what the call for scripts found
pub script_found : (f : Form) (conditions : ConditionSet) (text : List ℕ) (r : Option Item) → ((x : Item) → IsText f text x → IsScriptAsked conditions text x) → ((x : Item) → IsScriptAsked conditions text x → IsText f text x) → MatchOption r ((x : Item) → IsScriptAsked conditions text x → ⊥) (IsScriptAsked conditions text)
    → MatchOption r ((x : Item) → IsText f text x → ⊥) (IsOnlyText f text)
script_found f conditions text None to back h = λ x t. h x (to x t)
script_found f conditions text (Some y) to back h = record { is = back y h; alone = λ z t. one_script conditions text y z h (to z t) }

one_text : NamesOne → (f : Form) (text : List ℕ) (x y : Item) → IsText f text x → IsText f text y → y ≡ x
one_text one form.Json text x y t s = absurd t
one_text one form.Budget text x y t s = s.1 ∙ (ap item.Budget (s.2.is ∙ sym t.2.is) ∙ sym t.1)
one_text one form.Without text x y t s = s.1 ∙ (ap item.Without (one text t.0 s.0 t.2 s.2) ∙ sym t.1)
one_text one form.Generate text x y t s = s.1 ∙ (ap item.Generate (s.2.is ∙ sym t.2.is) ∙ sym t.1)
one_text one form.Functions text x y t s = s.1 ∙ (ap item.Functions (s.2.is ∙ sym t.2.is) ∙ sym t.1)
one_text one form.Smt text x y t s = one_script set.All text x y t s
one_text one form.SmtHit text x y t s = one_script set.Empty text x y t s
one_text one form.Bundle text x y t s = absurd t

-- and then it says one item
pub only_text : NamesOne → (f : Form) (text : List ℕ) (x : Item) → IsText f text x → IsOnlyText f text x
only_text one f text x t = record { is = t; alone = λ y s. one_text one f text x y t s }

-- ---- no item

not_both : {x : Item} {a b : Option Item} → a ≡ b → a ≡ None → b ≡ Some x → ⊥
not_both e d i = cc

apart_none : {first : List ℕ} {ls : List (List ℕ)} {y : Item} {o : List (List ℕ)} (f : Form) → first ≡ form_word f → item_of f ≡ None → ((text : List ℕ) (behind : List (List ℕ)) (x : Item) → ls ≡ text ∷ behind → IsText f text x → ⊥) → IsItem (first ∷ ls) y o → ⊥
apart_none f e other none (by_itself g d j) = not_both (ap item_of (one_form f g (sym e ∙ d))) other j
apart_none {y = y} f e other none (apart g d t) = none _ _ y refl (moved y (one_form g f (sym d ∙ e)) refl t)
apart_none f e other none (joined g s d t) = apart_joined f g s (sym e ∙ d)

pub joined_none : {first : List ℕ} {ls : List (List ℕ)} (f : Form) (text : List ℕ) → first ≡ form_word f ++ 61 ∷ text → ((x : Item) → IsText f text x → ⊥) → (y : Item) (o : List (List ℕ)) → IsItem (first ∷ ls) y o → ⊥
joined_none f text e none y o (by_itself g d j) = apart_joined g f text (sym d ∙ e)
joined_none f text e none y o (apart g d t) = apart_joined g f text (sym d ∙ e)
joined_none f text e none y o (joined g s d t) = none y (moved y (joined_form g f s text (sym d ∙ e)) (joined_text g f s text (sym d ∙ e)) t)

pub other_none : {first : List ℕ} {ls : List (List ℕ)} {y : Item} {o : List (List ℕ)} → ((f : Form) → first ≡ form_word f → ⊥) → ((f : Form) (text : List ℕ) → first ≡ form_word f ++ 61 ∷ text → ⊥) → IsItem (first ∷ ls) y o → ⊥
other_none a b (by_itself g d j) = a g d
other_none a b (apart g d t) = a g d
other_none a b (joined g s d t) = b g s d

-- no form is in front of `=`
pub none_joined : {word : List ℕ} → ((t : List ℕ) → word ≡ form_word form.Json ++ 61 ∷ t → ⊥) → ((t : List ℕ) → word ≡ form_word form.Budget ++ 61 ∷ t → ⊥) → ((t : List ℕ) → word ≡ form_word form.Without ++ 61 ∷ t → ⊥) → ((t : List ℕ) → word ≡ form_word form.Generate ++ 61 ∷ t → ⊥) → ((t : List ℕ) → word ≡ form_word form.Functions ++ 61 ∷ t → ⊥)
    → ((t : List ℕ) → word ≡ form_word form.Smt ++ 61 ∷ t → ⊥) → ((t : List ℕ) → word ≡ form_word form.SmtHit ++ 61 ∷ t → ⊥) → ((t : List ℕ) → word ≡ form_word form.Bundle ++ 61 ∷ t → ⊥) → (f : Form) (t : List ℕ) → word ≡ form_word f ++ 61 ∷ t → ⊥
none_joined a b c d e k l m form.Json t = a t
none_joined a b c d e k l m form.Budget t = b t
none_joined a b c d e k l m form.Without t = c t
none_joined a b c d e k l m form.Generate t = d t
none_joined a b c d e k l m form.Functions t = e t
none_joined a b c d e k l m form.Smt t = k t
none_joined a b c d e k l m form.SmtHit t = l t
none_joined a b c d e k l m form.Bundle t = m t

-- ---- what the calls answer

-- a word that is neither of those that are items by themselves is none
pub takes_text : (f : Form) → (f ≡ form.Json → ⊥) → (f ≡ form.Bundle → ⊥) → item_of f ≡ None
takes_text form.Json json bundle = absurd (json refl)
takes_text form.Budget json bundle = refl
takes_text form.Without json bundle = refl
takes_text form.Generate json bundle = refl
takes_text form.Functions json bundle = refl
takes_text form.Smt json bundle = refl
takes_text form.SmtHit json bundle = refl
takes_text form.Bundle json bundle = absurd (bundle refl)

-- an item that was found, and the words behind it
abbrev pub Found : {X A : Type 0} → (X → A) → (A → List (List ℕ)) → List (List ℕ) → Option (Item × X) → Type 0
Found now f words r = MatchOption r ((x : Item) (behind : List (List ℕ)) → IsItem words x behind → ⊥) (λ p. IsItemAlone words p.0 (f (now p.1)))

-- the same where the words in front are a form and then what is left
abbrev pub ApartFound : {X A : Type 0} → (X → A) → (A → List (List ℕ)) → Form → List (List ℕ) → Option (Item × X) → Type 0
ApartFound now f g left r = MatchOption r ((text : List ℕ) (behind : List (List ℕ)) (x : Item) → left ≡ text ∷ behind → IsText g text x → ⊥) (λ p. (text : List ℕ) × (left ≡ text ∷ f (now p.1)) × IsOnlyText g text p.0)

pub apart_found : {X A : Type 0} (now : X → A) (f : A → List (List ℕ)) (g : Form) (left : List (List ℕ)) (r : Option (Item × X)) → item_of g ≡ None → ApartFound now f g left r → Found now f (form_word g ∷ left) r
apart_found now f g left None other h = λ x behind i. apart_none g refl other h i
apart_found now f g left (Some p) other h = subst (λ ws. IsItemAlone (form_word g ∷ ws) p.0 (f (now p.1))) (sym h.1) (apart_alone g refl h.2)

-- nothing was found
pub lost : {X A : Type 0} (now : X → A) (f : A → List (List ℕ)) (words : List (List ℕ)) (r : Option (Item × X)) → r ≡ None → ((x : Item) (behind : List (List ℕ)) → IsItem words x behind → ⊥) → Found now f words r
lost now f words r e none = subst (λ o. Found now f words o) (sym e) none

-- the first word is spelled in another way
pub found_at : {X A : Type 0} (now : X → A) (f : A → List (List ℕ)) (left : List (List ℕ)) (r : Option (Item × X)) (first word : List ℕ) → first ≡ word → Found now f (word ∷ left) r → Found now f (first ∷ left) r
found_at now f left r first word e h = subst (λ w. Found now f (w ∷ left) r) (sym e) h
