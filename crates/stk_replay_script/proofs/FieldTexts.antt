-- The lines of a script as texts: a text begins with one line of a word at most, and with one list of them.
use Rattle.std.proofs.Common.{◌≡◌, ℕ, ◌<◌, ◌^◌, true, List, [], ◌∷◌, ◌++◌, length, length-append, append_assoc, decimal, Option, Some, None, MatchOption, Bor, refl, sym, ap, ◌∙◌, subst, arith}
use Rattle.std.specs.List.{list_all, AllByRecursion}
use Rattle.std.proofs.lemmas.Fmt.{decimal_injective}
use Rattle.stk_line_reading.specs.Cuts.{is_other}
use Rattle.stk_line_reading.specs.Lines.{IsFirst}
use Rattle.stk_line_reading.proofs.FirstLines.{one_first}
use Rattle.stk_replay_script.specs.Scripts.{line, lines}
use Rattle.stk_replay_script.specs.Fields.{IsField, IsNumberField, AreFields}
use Rattle.stk_replay_script.proofs.Numerals.{tail_of}

pub same_behind : (word x y : List ℕ) → word ++ x ≡ word ++ y → x ≡ y
same_behind [] x y e = e
same_behind (b ∷ bs) x y e = same_behind bs x y (tail_of e)

-- a line of a word is a first line behind the word
pub field_of : (word text content line behind : List ℕ) → text ≡ word ++ content → IsFirst content line behind → IsField word text line behind
field_of word text content line behind e h = record { same = e ∙ ap (λ t. word ++ t) h.whole; plain = h.others }

pub first_of : (word text content line behind : List ℕ) → text ≡ word ++ content → IsField word text line behind → IsFirst content line behind
first_of word text content line behind e h = record { whole = same_behind word content (line ++ 10 ∷ behind) (sym e ∙ h.same); others = h.plain }

-- where a first line comes behind the word, and where none does
pub field_by_first : (word text content : List ℕ) → text ≡ word ++ content → (r : Option (Bor (List ℕ) × Bor (List ℕ))) → MatchOption r ((line behind : List ℕ) → IsFirst content line behind → ⊥) (λ p. IsFirst content p.0.now p.1.now)
    → MatchOption r ((line behind : List ℕ) → IsField word text line behind → ⊥) (λ p. IsField word text p.0.now p.1.now)
field_by_first word text content e None none = λ line behind h. none line behind (first_of word text content line behind e h)
field_by_first word text content e (Some p) h = field_of word text content p.0.now p.1.now e h

pub one_field : (word text a x b y : List ℕ) → IsField word text a x → IsField word text b y → (a ≡ b) × (x ≡ y)
one_field word text a x b y h k =
    one_first (a ++ 10 ∷ x) a x b y (record { whole = refl; others = h.plain }) (record { whole = same_behind word (a ++ 10 ∷ x) (b ++ 10 ∷ y) (sym h.same ∙ k.same); others = k.plain })

-- the same where the content is a number
pub one_number_field : (word : List ℕ) (most : ℕ) (text : List ℕ) (m n : ℕ) (x y : List ℕ) → most < 2 ^ 64 → IsNumberField word most text m x → IsNumberField word most text n y → (m ≡ n) × (x ≡ y)
one_number_field word most text m n x y small h k =
    let same = one_field word text (decimal m) x (decimal n) y h.field k.field in
    let low = h.fits in
    let also = k.fits in
    (decimal_injective m n (omega arith) (omega arith) same.0, same.1)

-- what comes behind a line is shorter
pub shorter : (word text content behind : List ℕ) → IsField word text content behind → length behind < length text
shorter word text content behind h =
    let all = ap length h.same ∙ length-append word (content ++ 10 ∷ behind) in
    let rest = length-append content (10 ∷ behind) in
    omega arith

laid : (word content rest behind : List ℕ) → (line word content ++ rest) ++ behind ≡ word ++ (content ++ 10 ∷ (rest ++ behind))
laid word content rest behind = simp append_assoc

-- lines of a word, one after the other
module _ {A : Type 0} (word : List ℕ) (text : A → List ℕ) (Is : A → Type 0) where
  -- those that were passed
  pub record Passed (whole left : List ℕ) (done : List A) : Type 0 where
    pub same : whole ≡ lines word text done ++ left
    pub are : AllByRecursion Is done

  pub none_passed : (whole : List ℕ) → Passed whole whole []
  none_passed whole = record { same = refl; are = tt }

  more_lines : (done : List A) (x : A) → lines word text (done ++ x ∷ []) ≡ lines word text done ++ line word (text x)
  more_lines [] x = simp append_assoc
  more_lines (d ∷ ds) x = ap (λ t. line word (text d) ++ t) (more_lines ds x) ∙ sym (append_assoc (line word (text d)) (lines word text ds) (line word (text x)))

  more_are : (done : List A) (x : A) → AllByRecursion Is done → Is x → AllByRecursion Is (done ++ x ∷ [])
  more_are [] x h k = (k, tt)
  more_are (d ∷ ds) x h k = (h.0, more_are ds x h.1 k)

  one_line : (x : A) (behind : List ℕ) → line word (text x) ++ behind ≡ word ++ (text x ++ 10 ∷ behind)
  one_line x behind = simp append_assoc

  pub one_passed : (whole left content behind : List ℕ) (done : List A) (x : A) → Passed whole left done → IsField word left content behind → content ≡ text x → Is x → Passed whole behind (done ++ x ∷ [])
  one_passed whole left content behind done x p h e is = record {
    same = p.same ∙ ap (λ t. lines word text done ++ t) (h.same ∙ ap (λ c. word ++ (c ++ 10 ∷ behind)) e ∙ sym (one_line x behind))
        ∙ sym (append_assoc (lines word text done) (line word (text x)) behind) ∙ ap (λ t. t ++ behind) (sym (more_lines done x));
    are = more_are done x p.are is;
  }

  pub all_passed : (whole left : List ℕ) (done : List A) → Passed whole left done → ((content behind : List ℕ) → IsField word left content behind → ⊥) → AreFields word text Is whole done left
  all_passed whole left done p none = record { same = p.same; are = p.are; end = none }

  first_field : ((x : A) → Is x → list_all (is_other 10) (text x) ≡ true) → (x : A) (xs : List A) (behind : List ℕ) → Is x → IsField word (lines word text (x ∷ xs) ++ behind) (text x) (lines word text xs ++ behind)
  first_field plain x xs behind is = record { same = laid word (text x) (lines word text xs) behind; plain = plain x is }

  field_in : (plain : (x : A) → Is x → list_all (is_other 10) (text x) ≡ true) (whole : List ℕ) (x : A) (xs : List A) (behind : List ℕ) → whole ≡ lines word text (x ∷ xs) ++ behind → Is x → IsField word whole (text x) (lines word text xs ++ behind)
  field_in plain whole x xs behind e is = subst (λ (t : List ℕ). IsField word t (text x) (lines word text xs ++ behind)) (sym e) (first_field plain x xs behind is)

  -- a line whose content is none of the texts
  pub not_lines : ((x : A) → Is x → list_all (is_other 10) (text x) ≡ true) → (whole left content rest : List ℕ) (done : List A) → Passed whole left done → IsField word left content rest → ((x : A) → Is x → content ≡ text x → ⊥)
      → (ys : List A) (y : List ℕ) → AreFields word text Is whole ys y → ⊥
  not_lines plain whole left content rest [] p h none [] y k =
      k.end content rest (subst (λ (t : List ℕ). IsField word t content rest) (sym p.same ∙ k.same) h)
  not_lines plain whole left content rest [] p h none (z ∷ zs) y k =
      let here = subst (λ (t : List ℕ). IsField word t content rest) (sym p.same) h in
      none z k.are.0 (one_field word whole content rest (text z) (lines word text zs ++ y) here (field_in plain whole z zs y k.same k.are.0)).0
  not_lines plain whole left content rest (d ∷ ds) p h none [] y k =
      k.end (text d) (lines word text ds ++ left) (subst (λ (t : List ℕ). IsField word t (text d) (lines word text ds ++ left)) k.same (field_in plain whole d ds left p.same p.are.0))
  not_lines plain whole left content rest (d ∷ ds) p h none (z ∷ zs) y k =
      let both = one_field word whole (text d) (lines word text ds ++ left) (text z) (lines word text zs ++ y) (field_in plain whole d ds left p.same p.are.0) (field_in plain whole z zs y k.same k.are.0) in
      not_lines plain (lines word text zs ++ y) left content rest ds (record { same = sym both.1; are = p.are.1 }) h none zs y (record { same = refl; are = k.are.1; end = k.end })

  pub one_list_of_fields : ((x : A) → Is x → list_all (is_other 10) (text x) ≡ true) → ((x y : A) → Is x → Is y → text x ≡ text y → x ≡ y) → (whole : List ℕ) (xs ys : List A) (x y : List ℕ) → AreFields word text Is whole xs x → AreFields word text Is whole ys y → (xs ≡ ys) × (x ≡ y)
  one_list_of_fields plain one whole [] [] x y h k = (refl, sym h.same ∙ k.same)
  one_list_of_fields plain one whole [] (z ∷ zs) x y h k =
      absurd (h.end (text z) (lines word text zs ++ y) (subst (λ (t : List ℕ). IsField word t (text z) (lines word text zs ++ y)) h.same (field_in plain whole z zs y k.same k.are.0)))
  one_list_of_fields plain one whole (d ∷ ds) [] x y h k =
      absurd (k.end (text d) (lines word text ds ++ x) (subst (λ (t : List ℕ). IsField word t (text d) (lines word text ds ++ x)) k.same (field_in plain whole d ds x h.same h.are.0)))
  one_list_of_fields plain one whole (d ∷ ds) (z ∷ zs) x y h k =
      let both = one_field word whole (text d) (lines word text ds ++ x) (text z) (lines word text zs ++ y) (field_in plain whole d ds x h.same h.are.0) (field_in plain whole z zs y k.same k.are.0) in
      let others = one_list_of_fields plain one (lines word text zs ++ y) ds zs x y (record { same = sym both.1; are = h.are.1; end = h.end }) (record { same = refl; are = k.are.1; end = k.end }) in
      (ap (λ a. a ∷ ds) (one d z h.are.0 k.are.0 both.0) ∙ ap (λ rest. z ∷ rest) others.0, others.1)
