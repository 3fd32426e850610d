-- What is read at the front of tokens, in steps.
use Rattle.std.proofs.Common.{◌≡◌, ℕ, zero, List, [], ◌∷◌, refl, ap, sym, ◌∙◌}
use Rattle.std.specs.Prelude.{Option, Some, None}
use Rattle.stk_scripts.specs.Tokens.{Token, opening, closing, word}
use Rattle.stk_scripts.specs.Numerals.{numeral}
use Rattle.stk_scripts.specs.declared.operators.ExtendOp.{ExtendOp}
use Rattle.stk_scripts.specs.Syntax.{Expr, cut, widened}
use Rattle.stk_scripts.specs.Reading.{Front, ◌>>=◌, worded, with_rest, closed, one_operand, two_operands, indexed, extract_index, extend_index}
use Rattle.stk_script_trees.specs.Fronts.{word_front, bounds_front, count_front, same, paired}

some_is : {A : Type 0} (x y : A) → Some x ≡ Some y → x ≡ y
some_is x y e = cc

pub read_by : {A : Type 0} (read : List ℕ → Option A) (ts : List Token) (y : List ℕ × List Token) → word_front ts ≡ Some y → worded read ts ≡ with_rest y.1 (read y.0)
read_by read [] y e = absurd cc
read_by read (opening ∷ ts) y e = absurd cc
read_by read (closing ∷ ts) y e = absurd cc
read_by read (word v ∷ ts) y e = let k = some_is {A = List ℕ × List Token} (v, ts) y e in ap (λ (u : List ℕ × List Token). with_rest u.1 (read u.0)) k

pub no_word : {A : Type 0} (read : List ℕ → Option A) (ts : List Token) → word_front ts ≡ None → worded read ts ≡ None
no_word read [] e = refl
no_word read (opening ∷ ts) e = refl
no_word read (closing ∷ ts) e = refl
no_word read (word v ∷ ts) e = absurd cc

-- one operand and two, whatever is made of them
closed_by : {A B : Type 0} (g : A → B) (x : A) (ts : List Token) (y : A × List Token) → closed x ts ≡ Some y → closed (g x) ts ≡ Some (g y.0, y.1)
closed_by g x [] y e = absurd cc
closed_by g x (opening ∷ ts) y e = absurd cc
closed_by {A} g x (closing ∷ ts) y e = let k = some_is {A = A × List Token} (x, ts) y e in ap (λ (u : A × List Token). Some (g u.0, u.1)) k
closed_by g x (word w ∷ ts) y e = absurd cc

closed_none : {A B : Type 0} (x : A) (z : B) (ts : List Token) → closed x ts ≡ None → closed z ts ≡ None
closed_none x z [] e = refl
closed_none x z (opening ∷ ts) e = refl
closed_none x z (closing ∷ ts) e = absurd cc
closed_none x z (word w ∷ ts) e = refl

bind_by : {A B C : Type 0} (o : Option A) (f : A → Option B) (g : A → Option C) (h : B → C) → ((x : A) (y : B) → f x ≡ Some y → g x ≡ Some (h y)) → (y : B) → o >>= f ≡ Some y → o >>= g ≡ Some (h y)
bind_by None f g h k y e = absurd cc
bind_by (Some x) f g h k y e = k x y e

bind_none : {A B C : Type 0} (o : Option A) (f : A → Option B) (g : A → Option C) → ((x : A) → f x ≡ None → g x ≡ None) → o >>= f ≡ None → o >>= g ≡ None
bind_none None f g k e = refl
bind_none (Some x) f g k e = k x e

abbrev with_made : {A B : Type 0} → (A → B) → A × List Token → B × List Token
with_made g y = (g y.0, y.1)

pub one_by : (r : List Token → Front Expr) (f : Expr → Expr) (ts : List Token) (y : Expr × List Token) → one_operand r same ts ≡ Some y → one_operand r f ts ≡ Some (f y.0, y.1)
one_by r f ts y e = bind_by (r ts) (λ a. closed a.0 a.1) (λ a. closed (f a.0) a.1) (with_made f) (λ a z. closed_by f a.0 a.1 z) y e

pub one_none : (r : List Token → Front Expr) (f : Expr → Expr) (ts : List Token) → one_operand r same ts ≡ None → one_operand r f ts ≡ None
one_none r f ts e = bind_none (r ts) (λ a. closed a.0 a.1) (λ a. closed (f a.0) a.1) (λ a. closed_none a.0 (f a.0) a.1) e

abbrev applied : {A : Type 0} → (Expr → Expr → A) → Expr × Expr → A
applied f p = f p.0 p.1

pub two_by : {A : Type 0} (r : List Token → Front Expr) (f : Expr → Expr → A) (ts : List Token) (y : (Expr × Expr) × List Token) → two_operands r paired ts ≡ Some y → two_operands r f ts ≡ Some (f y.0.0 y.0.1, y.1)
two_by r f ts y e =
    bind_by (r ts) (λ a. r a.1 >>= λ b. closed (a.0, b.0) b.1) (λ a. r a.1 >>= λ b. closed (f a.0 b.0) b.1) (with_made (applied f))
    (λ a z k. bind_by (r a.1) (λ b. closed (a.0, b.0) b.1) (λ b. closed (f a.0 b.0) b.1) (with_made (applied f)) (λ b u. closed_by (applied f) (a.0, b.0) b.1 u) z k) y e

pub two_none : {A : Type 0} (r : List Token → Front Expr) (f : Expr → Expr → A) (ts : List Token) → two_operands r paired ts ≡ None → two_operands r f ts ≡ None
two_none r f ts e =
    bind_none (r ts) (λ a. r a.1 >>= λ b. closed (a.0, b.0) b.1) (λ a. r a.1 >>= λ b. closed (f a.0 b.0) b.1)
    (λ a k. bind_none (r a.1) (λ b. closed (a.0, b.0) b.1) (λ b. closed (f a.0 b.0) b.1) (λ b. closed_none (a.0, b.0) (f a.0 b.0) b.1) k) e

-- binding twice
bound : {A B C : Type 0} (o : Option A) (f : A → Option B) (g : B → Option C) → (o >>= f) >>= g ≡ (o >>= λ x. f x >>= g)
bound None f g = refl
bound (Some x) f g = refl

same_bind : {A B : Type 0} (o : Option A) (f g : A → Option B) → ((x : A) → f x ≡ g x) → (o >>= f) ≡ (o >>= g)
same_bind None f g h = refl
same_bind (Some x) f g h = h x

cut_is : (r : List Token → Front Expr) (ts : List Token) → indexed r extract_index ts ≡ (bounds_front ts >>= λ x. one_operand r (cut x.0 x.1) x.2)
cut_is r ts =
    same_bind (worded numeral ts) _ _ (λ high. same_bind (worded numeral high.1) _ _ (λ low. sym (bound (closed zero low.1) (λ behind. Some (high.0, low.0, behind.1)) (λ x. one_operand r (cut x.0 x.1) x.2)))
    ∙ sym (bound (worded numeral high.1) _ _))
    ∙ sym (bound (worded numeral ts) _ _)

widened_is : (r : List Token → Front Expr) (op : ExtendOp) (ts : List Token) → indexed r (extend_index op) ts ≡ (count_front ts >>= λ x. one_operand r (widened op x.0) x.1)
widened_is r op ts =
    same_bind (worded numeral ts) _ _ (λ k. sym (bound (closed zero k.1) (λ behind. Some (k.0, behind.1)) (λ x. one_operand r (widened op x.0) x.1)))
    ∙ sym (bound (worded numeral ts) _ _)

pub cut_read : (r : List Token → Front Expr) (ts : List Token) (y : ℕ × ℕ × List Token) → bounds_front ts ≡ Some y → indexed r extract_index ts ≡ one_operand r (cut y.0 y.1) y.2
cut_read r ts y e = cut_is r ts ∙ ap (λ (o : Option (ℕ × ℕ × List Token)). o >>= λ x. one_operand r (cut x.0 x.1) x.2) e

pub no_bounds : (r : List Token → Front Expr) (ts : List Token) → bounds_front ts ≡ None → indexed r extract_index ts ≡ None
no_bounds r ts e = cut_is r ts ∙ ap (λ (o : Option (ℕ × ℕ × List Token)). o >>= λ x. one_operand r (cut x.0 x.1) x.2) e

pub widened_read : (r : List Token → Front Expr) (op : ExtendOp) (ts : List Token) (y : ℕ × List Token) → count_front ts ≡ Some y → indexed r (extend_index op) ts ≡ one_operand r (widened op y.0) y.1
widened_read r op ts y e = widened_is r op ts ∙ ap (λ (o : Front ℕ). o >>= λ x. one_operand r (widened op x.0) x.1) e

pub no_count : (r : List Token → Front Expr) (op : ExtendOp) (ts : List Token) → count_front ts ≡ None → indexed r (extend_index op) ts ≡ None
no_count r op ts e = widened_is r op ts ∙ ap (λ (o : Front ℕ). o >>= λ x. one_operand r (widened op x.0) x.1) e
