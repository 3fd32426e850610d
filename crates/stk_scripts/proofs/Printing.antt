-- What is read prints itself.
use Rattle.std.proofs.Common.{◌≡◌, ℕ, zero, suc, ◌<◌, ◌≤◌, ◌+◌, ◌^◌, Bool, true, false, List, [], ◌∷◌, ◌++◌, refl, ap, sym, ◌∙◌, append_assoc, subst, arith, ◌⊎◌, inl, inr, cond}
use Rattle.std.specs.Prelude.{Option, Some, None, max, codes, decimal}
use Rattle.stk_base.specs.Text.{same_text}
use Rattle.stk_scripts.specs.declared.operators.UnaryOp.TheVariants as unary
use Rattle.stk_scripts.specs.declared.operators.BinaryOp.TheVariants as binary
use Rattle.stk_scripts.specs.declared.operators.ExtendOp.TheVariants as extend
use Rattle.stk_scripts.specs.declared.operators.TestOp.{TestOp}
use Rattle.stk_scripts.specs.declared.operators.TestOp.TheVariants as test
use Rattle.stk_scripts.specs.Syntax.{Expr, named, literal, one_of, two_of, joined, cut, widened, chosen, unary_name, binary_name, extend_name, test_name}
use Rattle.stk_scripts.specs.Tokens.{Token, opening, closing, word, expr_tokens, test_tokens}
use Rattle.stk_scripts.specs.Scripts.{depth}
use Rattle.stk_scripts.specs.Numerals.{numeral}
use Rattle.stk_scripts.specs.Reading.{Head, literal_head, unary_head, binary_head, concat_head, ite_head, Index, extract_index, extend_index, spelled, heads, indices, tests, Front, Test, test_of, choice_of, with_rest, closed, one_operand, two_operands, read_literal, worded, bv_number, is_underscore, term_in, opened, test_in, choice_in, read_term, read_test, ◌>>=◌, headed, indexed}
use Rattle.stk_scripts.specs.Laws.{ReadIsPrinted}
use Rattle.stk_scripts.proofs.Bytes.{chosen_way, and_both}
use Rattle.stk_scripts.proofs.Numerals.{numeral_is, same_is}

-- Parts of what is read

bind_some : {A B : Type 0} (o : Option A) (f : A → Option B) (y : B) → o >>= f ≡ Some y → (x : A) × (o ≡ Some x) × (f x ≡ Some y)
bind_some None f y e = absurd cc
bind_some (Some x) f y e = (x, refl, e)

some_is : {A : Type 0} (x y : A) → Some x ≡ Some y → x ≡ y
some_is x y e = cc

closed_some : {A : Type 0} (x : A) (ts : List Token) (y : A × List Token) → closed x ts ≡ Some y → (ts ≡ closing ∷ y.1) × (y.0 ≡ x)
closed_some x [] y e = absurd cc
closed_some x (opening ∷ ts) y e = absurd cc
closed_some {A} x (closing ∷ ts) y e = let k = some_is {A = A × List Token} (x, ts) y e in (ap (λ (u : A × List Token). closing ∷ u.1) k, ap (λ (u : A × List Token). u.0) (sym k))
closed_some x (word w ∷ ts) y e = absurd cc

rest_some : {A : Type 0} (ts : List Token) (o : Option A) (y : A × List Token) → with_rest ts o ≡ Some y → (o ≡ Some y.0) × (ts ≡ y.1)
rest_some ts None y e = absurd cc
rest_some {A} ts (Some x) y e = let k = some_is {A = A × List Token} (x, ts) y e in (ap (λ (u : A × List Token). Some u.0) k, ap (λ (u : A × List Token). u.1) k)

worded_some : {A : Type 0} (read : List ℕ → Option A) (ts : List Token) (y : A × List Token) → worded read ts ≡ Some y → (w : List ℕ) × (ts ≡ word w ∷ y.1) × (read w ≡ Some y.0)
worded_some read [] y e = absurd cc
worded_some read (opening ∷ ts) y e = absurd cc
worded_some read (closing ∷ ts) y e = absurd cc
worded_some read (word w ∷ ts) y e = let k = rest_some ts (read w) y e in (w, ap (λ u. word w ∷ u) k.1, k.0)

-- Words

-- each pair has the text of its value
abbrev Each : {A : Type 0} → (A → List ℕ) → List (List ℕ × A) → Type 0
Each f [] = Unit {0}
Each f (x ∷ xs) = (f x.1 ≡ x.0) × Each f xs

spelled_some : {A : Type 0} (f : A → List ℕ) (xs : List (List ℕ × A)) (w : List ℕ) (y : A) → Each f xs → spelled xs w ≡ Some y → w ≡ f y
spelled_some f [] w y a e = absurd cc
spelled_some f (x ∷ xs) w y a e = elim (chosen_way (same_text x.0 w) (Some x.1) (spelled xs w) (Some y) e) [
  | inl h ↦ sym (same_is x.0 w h.0) ∙ sym a.0 ∙ ap f (some_is x.1 y h.1)
  | inr h ↦ spelled_some f xs w y a.1 h.1
]

head_text : Head → List ℕ
head_text literal_head = codes "_"
head_text (unary_head op) = unary_name op
head_text (binary_head op) = binary_name op
head_text concat_head = codes "concat"
head_text ite_head = codes "ite"

index_text : Index → List ℕ
index_text extract_index = codes "extract"
index_text (extend_index op) = extend_name op

heads_are : Each head_text heads
unfolding head_text
heads_are = (refl, (refl, (refl, (refl, (refl, (refl, (refl, (refl, (refl, (refl, (refl, (refl, (refl, (refl, (refl, (refl, tt))))))))))))))))

indices_are : Each index_text indices
unfolding index_text
indices_are = (refl, (refl, (refl, tt)))

tests_are : Each test_name tests
tests_are = (refl, (refl, (refl, tt)))

underscore_is : (w : List ℕ) (y : Unit {0}) → is_underscore w ≡ Some y → w ≡ codes "_"
underscore_is w y e = elim (chosen_way (same_text w (codes "_")) (Some tt) None (Some y) e) [ inl h ↦ same_is w (codes "_") h.0 | inr h ↦ absurd (let k = h.1 in cc) ]

bv_is : (w : List ℕ) (n : ℕ) → bv_number w ≡ Some n → w ≡ codes "bv" ++ decimal n
bv_is [] n e = absurd cc
bv_is (b ∷ []) n e = absurd cc
bv_is (b ∷ c ∷ bs) n e = elim (chosen_way (same_text (b ∷ c ∷ []) (codes "bv")) (numeral bs) None (Some n) e) [
  | inl h ↦ ap (λ u. u ++ bs) (same_is (b ∷ c ∷ []) (codes "bv") h.0) ∙ ap (λ u. codes "bv" ++ u) (numeral_is bs n h.1)
  | inr h ↦ absurd (let k = h.1 in cc)
]

-- Terms

abbrev pub Told : ℕ → List Token → Expr × List Token → Type 0
Told n ts y = (ts ≡ expr_tokens y.0 ++ y.1) × (depth y.0 ≤ n)

abbrev pub Prints : ℕ → (List Token → Front Expr) → Type 0
Prints n r = (ts : List Token) (y : Expr × List Token) → r ts ≡ Some y → Told n ts y

abbrev pub PrintsTest : ℕ → (List Token → Front Test) → Type 0
PrintsTest n q = (ts : List Token) (y : Test × List Token) → q ts ≡ Some y → (ts ≡ test_tokens y.0.op y.0.left y.0.right y.1) × (depth y.0.left < n) × (depth y.0.right < n)

told_of : (n : ℕ) (ts : List Token) (y : Expr × List Token) (e : Expr) → y.0 ≡ e → ts ≡ expr_tokens e ++ y.1 → depth e ≤ n → Told n ts y
told_of n ts y e is h d = (h ∙ ap (λ x. expr_tokens x ++ y.1) (sym is), subst (λ x. depth x ≤ n) (sym is) d)

one_some : (n : ℕ) (r : List Token → Front Expr) → Prints n r → (f : Expr → Expr) (ts : List Token) (y : Expr × List Token) → one_operand r f ts ≡ Some y
    → (a : Expr) × (y.0 ≡ f a) × (ts ≡ (expr_tokens a ++ closing ∷ []) ++ y.1) × (depth a ≤ n)
one_some n r p f ts y e =
    let b = bind_some (r ts) (λ a. closed (f a.0) a.1) y e in
    let t = p ts b.0 b.1 in
    let c = closed_some (f b.0.0) b.0.1 y b.2 in
    (b.0.0, c.1, t.0 ∙ ap (λ u. expr_tokens b.0.0 ++ u) c.0 ∙ sym (append_assoc (expr_tokens b.0.0) (closing ∷ []) y.1), t.1)

two_some : {A : Type 0} (n : ℕ) (r : List Token → Front Expr) → Prints n r → (f : Expr → Expr → A) (ts : List Token) (y : A × List Token) → two_operands r f ts ≡ Some y
    → (a : Expr) × (b : Expr) × (y.0 ≡ f a b) × (ts ≡ expr_tokens a ++ (expr_tokens b ++ closing ∷ y.1)) × (depth a ≤ n) × (depth b ≤ n)
two_some n r p f ts y e =
    let a = bind_some (r ts) (λ a. r a.1 >>= λ b. closed (f a.0 b.0) b.1) y e in
    let s = p ts a.0 a.1 in
    let b = bind_some (r a.0.1) (λ b. closed (f a.0.0 b.0) b.1) y a.2 in
    let t = p a.0.1 b.0 b.1 in
    let c = closed_some (f a.0.0 b.0.0) b.0.1 y b.2 in
    (a.0.0, b.0.0, c.1, s.0 ∙ ap (λ u. expr_tokens a.0.0 ++ u) (t.0 ∙ ap (λ u. expr_tokens b.0.0 ++ u) c.0), s.1, t.1)

two_joined : (xs ys end rest : List Token) → xs ++ (ys ++ (end ++ rest)) ≡ (xs ++ (ys ++ end)) ++ rest
two_joined xs ys end rest = sym (append_assoc xs (ys ++ end) rest ∙ ap (λ t. xs ++ t) (append_assoc ys end rest))

headed_told : (n : ℕ) (q : List Token → Front Test) (r : List Token → Front Expr) → PrintsTest n q → Prints n r → (h : Head) (ts : List Token) (y : Expr × List Token)
    → headed q r h ts ≡ Some y → Told (n + 1) (opening ∷ word (head_text h) ∷ ts) y
unfolding head_text
headed_told n q r pq pr literal_head ts y e =
    let a = bind_some (worded bv_number ts) (λ n. worded numeral n.1 >>= λ w. closed (literal w.0 n.0) w.1) y e in
    let k = worded_some bv_number ts a.0 a.1 in
    let b = bind_some (worded numeral a.0.1) (λ w. closed (literal w.0 a.0.0) w.1) y a.2 in
    let l = worded_some numeral a.0.1 b.0 b.1 in
    let c = closed_some (literal b.0.0 a.0.0) b.0.1 y b.2 in
    told_of (n + 1) _ y (literal b.0.0 a.0.0) c.1
    (ap (λ u. opening ∷ word (codes "_") ∷ u) (k.1 ∙ ap (λ u. word u ∷ a.0.1) (bv_is k.0 a.0.0 k.2) ∙ ap (λ u. word (codes "bv" ++ decimal a.0.0) ∷ u) (l.1 ∙ ap (λ u. word u ∷ b.0.1) (numeral_is l.0 b.0.0 l.2) ∙ ap (λ u. word (decimal b.0.0) ∷ u) c.0)))
    (omega arith)
headed_told n q r pq pr (unary_head op) ts y e =
    let a = one_some n r pr (one_of op) ts y e in told_of (n + 1) _ y (one_of op a.0) a.1 (ap (λ u. opening ∷ word (unary_name op) ∷ u) a.2) (omega (arith, a.3))
headed_told n q r pq pr (binary_head op) ts y e =
    let a = two_some n r pr (two_of op) ts y e in
    told_of (n + 1) _ y (two_of op a.0 a.1) a.2 (ap (λ u. opening ∷ word (binary_name op) ∷ u) (a.3 ∙ two_joined (expr_tokens a.0) (expr_tokens a.1) (closing ∷ []) y.1)) (omega (arith, a.4, a.5))
headed_told n q r pq pr concat_head ts y e =
    let a = two_some n r pr joined ts y e in
    told_of (n + 1) _ y (joined a.0 a.1) a.2 (ap (λ u. opening ∷ word (codes "concat") ∷ u) (a.3 ∙ two_joined (expr_tokens a.0) (expr_tokens a.1) (closing ∷ []) y.1)) (omega (arith, a.4, a.5))
headed_told n q r pq pr ite_head ts y e =
    let t = bind_some (q ts) (λ t. two_operands r (choice_of t.0) t.1) y e in
    let k = pq ts t.0 t.1 in
    let a = two_some n r pr (choice_of t.0.0) t.0.1 y t.2 in
    let op = t.0.0.op in
    let l = t.0.0.left in
    let m = t.0.0.right in
    told_of (n + 1) _ y (chosen op l m a.0 a.1) a.2
    (ap (λ u. opening ∷ word (codes "ite") ∷ u) (k.0 ∙ ap (λ u. opening ∷ word (test_name op) ∷ (expr_tokens l ++ (expr_tokens m ++ closing ∷ u))) (a.3 ∙ two_joined (expr_tokens a.0) (expr_tokens a.1) (closing ∷ []) y.1))
    ∙ ap (λ u. opening ∷ word (codes "ite") ∷ opening ∷ word (test_name op) ∷ u) (two_joined (expr_tokens l) (expr_tokens m) (closing ∷ (expr_tokens a.0 ++ (expr_tokens a.1 ++ closing ∷ []))) y.1))
    (omega (arith, k.1, k.2, a.4, a.5))

indexed_told : (n : ℕ) (r : List Token → Front Expr) → Prints n r → (i : Index) (ts : List Token) (y : Expr × List Token)
    → indexed r i ts ≡ Some y → Told (n + 1) (opening ∷ opening ∷ word (codes "_") ∷ word (index_text i) ∷ ts) y
unfolding index_text
indexed_told n r p extract_index ts y e =
    let a = bind_some (worded numeral ts) (λ high. worded numeral high.1 >>= λ low. closed zero low.1 >>= λ behind. one_operand r (cut high.0 low.0) behind.1) y e in
    let k = worded_some numeral ts a.0 a.1 in
    let b = bind_some (worded numeral a.0.1) (λ low. closed zero low.1 >>= λ behind. one_operand r (cut a.0.0 low.0) behind.1) y a.2 in
    let l = worded_some numeral a.0.1 b.0 b.1 in
    let c = bind_some (closed zero b.0.1) (λ behind. one_operand r (cut a.0.0 b.0.0) behind.1) y b.2 in
    let m = closed_some zero b.0.1 c.0 c.1 in
    let d = one_some n r p (cut a.0.0 b.0.0) c.0.1 y c.2 in
    told_of (n + 1) _ y (cut a.0.0 b.0.0 d.0) d.1
    (ap (λ u. opening ∷ opening ∷ word (codes "_") ∷ word (codes "extract") ∷ u)
    (k.1 ∙ ap (λ u. word u ∷ a.0.1) (numeral_is k.0 a.0.0 k.2) ∙ ap (λ u. word (decimal a.0.0) ∷ u) (l.1 ∙ ap (λ u. word u ∷ b.0.1) (numeral_is l.0 b.0.0 l.2) ∙ ap (λ u. word (decimal b.0.0) ∷ u) (m.0 ∙ ap (λ u. closing ∷ u) d.2))))
    (omega (arith, d.3))
indexed_told n r p (extend_index op) ts y e =
    let a = bind_some (worded numeral ts) (λ k. closed zero k.1 >>= λ behind. one_operand r (widened op k.0) behind.1) y e in
    let k = worded_some numeral ts a.0 a.1 in
    let c = bind_some (closed zero a.0.1) (λ behind. one_operand r (widened op a.0.0) behind.1) y a.2 in
    let m = closed_some zero a.0.1 c.0 c.1 in
    let d = one_some n r p (widened op a.0.0) c.0.1 y c.2 in
    told_of (n + 1) _ y (widened op a.0.0 d.0) d.1
    (ap (λ u. opening ∷ opening ∷ word (codes "_") ∷ word (extend_name op) ∷ u)
    (k.1 ∙ ap (λ u. word u ∷ a.0.1) (numeral_is k.0 a.0.0 k.2) ∙ ap (λ u. word (decimal a.0.0) ∷ u) (m.0 ∙ ap (λ u. closing ∷ u) d.2)))
    (omega (arith, d.3))

opened_told : (n : ℕ) (q : List Token → Front Test) (r : List Token → Front Expr) → PrintsTest n q → Prints n r → (ts : List Token) (y : Expr × List Token)
    → opened q r ts ≡ Some y → Told (n + 1) (opening ∷ ts) y
opened_told n q r pq pr [] y e = absurd cc
opened_told n q r pq pr (opening ∷ ts) y e =
    let a = bind_some (worded is_underscore ts) (λ u. worded (spelled indices) u.1 >>= λ i. indexed r i.0 i.1) y e in
    let k = worded_some is_underscore ts a.0 a.1 in
    let b = bind_some (worded (spelled indices) a.0.1) (λ i. indexed r i.0 i.1) y a.2 in
    let l = worded_some (spelled indices) a.0.1 b.0 b.1 in
    let t = indexed_told n r pr b.0.0 b.0.1 y b.2 in
    (ap (λ u. opening ∷ opening ∷ u) (k.1 ∙ ap (λ u. word u ∷ a.0.1) (underscore_is k.0 a.0.0 k.2) ∙ ap (λ u. word (codes "_") ∷ u) (l.1 ∙ ap (λ u. word u ∷ b.0.1) (spelled_some index_text indices l.0 b.0.0 indices_are l.2))) ∙ t.0, t.1)
opened_told n q r pq pr (closing ∷ ts) y e = absurd cc
opened_told n q r pq pr (word w ∷ ts) y e =
    let h = bind_some (spelled heads w) (λ h. headed q r h ts) y e in
    let t = headed_told n q r pq pr h.0 ts y h.2 in
    (ap (λ u. opening ∷ word u ∷ ts) (spelled_some head_text heads w h.0 heads_are h.1) ∙ t.0, t.1)

term_told : (n : ℕ) (q : List Token → Front Test) (r : List Token → Front Expr) → PrintsTest n q → Prints n r → Prints (n + 1) (term_in q r)
term_told n q r pq pr [] y e = absurd cc
term_told n q r pq pr (opening ∷ ts) y e = opened_told n q r pq pr ts y e
term_told n q r pq pr (closing ∷ ts) y e = absurd cc
term_told n q r pq pr (word w ∷ ts) y e =
    let k = some_is {A = Expr × List Token} (named w, ts) y e in
    told_of (n + 1) _ y (named w) (ap (λ (u : Expr × List Token). u.0) (sym k)) (ap (λ (u : Expr × List Token). word w ∷ u.1) k) (omega arith)

test_told : (n : ℕ) (r : List Token → Front Expr) → Prints n r → PrintsTest (n + 1) (test_in r)
test_told n r p [] y e = absurd cc
test_told n r p (opening ∷ ts) y e =
    let a = bind_some (worded (spelled tests) ts) (λ op. two_operands r (test_of op.0) op.1) y e in
    let k = worded_some (spelled tests) ts a.0 a.1 in
    let b = two_some n r p (test_of a.0.0) a.0.1 y a.2 in (
      ap (λ u. opening ∷ u) (k.1 ∙ ap (λ u. word u ∷ a.0.1) (spelled_some test_name tests k.0 a.0.0 tests_are k.2) ∙ ap (λ u. word (test_name a.0.0) ∷ u) b.3)
          ∙ ap (λ (t : Test). test_tokens t.op t.left t.right y.1) (sym b.2),
      subst (λ (t : Test). depth t.left < n + 1) (sym b.2) (omega (arith, b.4)),
      subst (λ (t : Test). depth t.right < n + 1) (sym b.2) (omega (arith, b.5)),
    )
test_told n r p (closing ∷ ts) y e = absurd cc
test_told n r p (word w ∷ ts) y e = absurd cc

-- one more
more_term : (n : ℕ) (r : List Token → Front Expr) → Prints (n + 1) r → Prints (suc n) r
more_term n r p ts y e = let k = p ts y e in (k.0, omega (arith, k.1))

more_test : (n : ℕ) (q : List Token → Front Test) → PrintsTest (n + 1) q → PrintsTest (suc n) q
more_test n q p ts y e = let k = p ts y e in (k.0, omega (arith, k.1), omega (arith, k.2))

-- terms and comparisons
pub both_print : (n : ℕ) → Prints n (read_term n) × PrintsTest n (read_test n)
both_print zero = (λ ts y e. absurd cc, λ ts y e. absurd cc)
both_print (suc n) = let k = both_print n in (more_term n (read_term (suc n)) (term_told n (read_test n) (read_term n) k.1 k.0), more_test n (read_test (suc n)) (test_told n (read_term n) k.0))

pub read_is_printed : ReadIsPrinted
read_is_printed n ts e rest h = (both_print n).0 ts (e, rest) h
