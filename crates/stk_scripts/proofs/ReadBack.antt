-- What a term prints is read as this term.
use Rattle.std.proofs.Common.{◌≡◌, ℕ, zero, suc, ◌<◌, ◌≤◌, ◌+◌, ◌^◌, Bool, true, false, List, [], ◌∷◌, ◌++◌, refl, ap, sym, ◌∙◌, append_assoc, subst, arith}
use Rattle.std.specs.Prelude.{Option, Some, None, max, codes, decimal}
use Rattle.stk_scripts.specs.declared.operators.UnaryOp.{UnaryOp}
use Rattle.stk_scripts.specs.declared.operators.UnaryOp.TheVariants as unary
use Rattle.stk_scripts.specs.declared.operators.BinaryOp.{BinaryOp}
use Rattle.stk_scripts.specs.declared.operators.BinaryOp.TheVariants as binary
use Rattle.stk_scripts.specs.declared.operators.ExtendOp.{ExtendOp}
use Rattle.stk_scripts.specs.declared.operators.ExtendOp.TheVariants as extend
use Rattle.stk_scripts.specs.declared.operators.TestOp.{TestOp}
use Rattle.stk_scripts.specs.declared.operators.TestOp.TheVariants as test
use Rattle.stk_scripts.specs.Syntax.{Expr, named, literal, one_of, two_of, joined, cut, widened, chosen, unary_name, binary_name, extend_name, test_name}
use Rattle.stk_scripts.specs.Tokens.{Token, opening, closing, word, expr_tokens, test_tokens}
use Rattle.stk_scripts.specs.Scripts.{depth}
use Rattle.stk_scripts.specs.Numerals.{numeral}
use Rattle.stk_scripts.specs.Reading.{Head, unary_head, binary_head, Index, extend_index, spelled, heads, indices, tests, Front, Test, test_of, choice_of, with_rest, closed, one_operand, two_operands, read_literal, worded, bv_number, read_term, read_test, ◌>>=◌, headed, indexed}
use Rattle.stk_scripts.specs.Laws.{AreSmall, PrintedIsRead}
use Rattle.stk_scripts.proofs.Numerals.{numeral_of}

unary_spelled : (op : UnaryOp) → spelled heads (unary_name op) ≡ Some (unary_head op)
unary_spelled unary.Not = refl
unary_spelled unary.Neg = refl

binary_spelled : (op : BinaryOp) → spelled heads (binary_name op) ≡ Some (binary_head op)
binary_spelled binary.And = refl
binary_spelled binary.Or = refl
binary_spelled binary.Xor = refl
binary_spelled binary.Add = refl
binary_spelled binary.Sub = refl
binary_spelled binary.Mul = refl
binary_spelled binary.UDiv = refl
binary_spelled binary.URem = refl
binary_spelled binary.Shl = refl
binary_spelled binary.LShr = refl
binary_spelled binary.AShr = refl

extend_spelled : (op : ExtendOp) → spelled indices (extend_name op) ≡ Some (extend_index op)
extend_spelled extend.Zero = refl
extend_spelled extend.Sign = refl

test_spelled : (op : TestOp) → spelled tests (test_name op) ≡ Some op
test_spelled test.Equal = refl
test_spelled test.Below = refl
test_spelled test.SignedBelow = refl

-- a reader of terms that reads this one, whatever follows it
abbrev pub Reads : (List Token → Front Expr) → Expr → Type 0
Reads r e = (rest : List Token) → r (expr_tokens e ++ rest) ≡ Some (e, rest)

one_read : (r : List Token → Front Expr) (f : Expr → Expr) (a : Expr) (rest : List Token) → Reads r a → one_operand r f ((expr_tokens a ++ closing ∷ []) ++ rest) ≡ Some (f a, rest)
one_read r f a rest h = ap (one_operand r f) (append_assoc (expr_tokens a) (closing ∷ []) rest) ∙ ap (λ (o : Front Expr). o >>= λ x. closed (f x.0) x.1) (h (closing ∷ rest))

-- two operands and `)`, before tokens
two_read : {A : Type 0} (r : List Token → Front Expr) (f : Expr → Expr → A) (a b : Expr) (rest : List Token) → Reads r a → Reads r b → two_operands r f (expr_tokens a ++ (expr_tokens b ++ closing ∷ rest)) ≡ Some (f a b, rest)
two_read r f a b rest h k =
    ap (λ (o : Front Expr). o >>= λ x. r x.1 >>= λ y. closed (f x.0 y.0) y.1) (h (expr_tokens b ++ closing ∷ rest))
    ∙ ap (λ (o : Front Expr). o >>= λ y. closed (f a y.0) y.1) (k (closing ∷ rest))

two_joined : (xs ys : List Token) (end rest : List Token) → (xs ++ (ys ++ end)) ++ rest ≡ xs ++ (ys ++ (end ++ rest))
two_joined xs ys end rest = append_assoc xs (ys ++ end) rest ∙ ap (λ t. xs ++ t) (append_assoc ys end rest)

literal_read : (w n : ℕ) (rest : List Token) → w < 2 ^ 128 → n < 2 ^ 128 → read_literal (word (codes "bv" ++ decimal n) ∷ word (decimal w) ∷ closing ∷ rest) ≡ Some (literal w n, rest)
literal_read w n rest h k =
    ap (λ (o : Option ℕ). with_rest (word (decimal w) ∷ closing ∷ rest) o >>= λ n. worded numeral n.1 >>= λ w. closed (literal w.0 n.0) w.1) (numeral_of n k)
    ∙ ap (λ (o : Option ℕ). with_rest (closing ∷ rest) o >>= λ w. closed (literal w.0 n) w.1) (numeral_of w h)

-- a comparison
pub test_read : (t : TestOp) (a b : Expr) (n : ℕ) (rest : List Token) → Reads (read_term n) a → Reads (read_term n) b
    → read_test (suc n) (opening ∷ word (test_name t) ∷ (expr_tokens a ++ (expr_tokens b ++ closing ∷ rest))) ≡ Some (test_of t a b, rest)
test_read t a b n rest h k =
    ap (λ (o : Option TestOp). with_rest (expr_tokens a ++ (expr_tokens b ++ closing ∷ rest)) o >>= λ op. two_operands (read_term n) (test_of op.0) op.1) (test_spelled t)
    ∙ two_read (read_term n) (test_of t) a b rest h k

cut_read : (high low : ℕ) (a : Expr) (n : ℕ) (rest : List Token) → high < 2 ^ 128 → low < 2 ^ 128 → Reads (read_term n) a → read_term (suc n) (expr_tokens (cut high low a) ++ rest) ≡ Some (cut high low a, rest)
cut_read high low a n rest h k r =
    let ts = (expr_tokens a ++ closing ∷ []) ++ rest in
    ap (λ (o : Option ℕ). with_rest (word (decimal low) ∷ closing ∷ ts) o >>= λ high. worded numeral high.1 >>= λ low. closed zero low.1 >>= λ behind. one_operand (read_term n) (cut high.0 low.0) behind.1) (numeral_of high h)
    ∙ ap (λ (o : Option ℕ). with_rest (closing ∷ ts) o >>= λ low. closed zero low.1 >>= λ behind. one_operand (read_term n) (cut high low.0) behind.1) (numeral_of low k)
    ∙ one_read (read_term n) (cut high low) a rest r

widened_read : (op : ExtendOp) (k : ℕ) (a : Expr) (n : ℕ) (rest : List Token) → k < 2 ^ 128 → Reads (read_term n) a → read_term (suc n) (expr_tokens (widened op k a) ++ rest) ≡ Some (widened op k a, rest)
widened_read op k a n rest h r =
    let ts = (expr_tokens a ++ closing ∷ []) ++ rest in
    ap (λ (o : Option Index). with_rest (word (decimal k) ∷ closing ∷ ts) o >>= λ i. indexed (read_term n) i.0 i.1) (extend_spelled op)
    ∙ ap (λ (o : Option ℕ). with_rest (closing ∷ ts) o >>= λ k. closed zero k.1 >>= λ behind. one_operand (read_term n) (widened op k.0) behind.1) (numeral_of k h)
    ∙ one_read (read_term n) (widened op k) a rest r

-- a term
pub term_read : (e : Expr) (n : ℕ) → AreSmall e → depth e ≤ n → Reads (read_term n) e
term_read (named m) zero s d rest = absurd (omega arith)
term_read (named m) (suc n) s d rest = refl
term_read (literal w v) zero s d rest = absurd (omega arith)
term_read (literal w v) (suc n) s d rest = literal_read w v rest s.0 s.1
term_read (one_of op a) zero s d rest = absurd (omega arith)
term_read (one_of op a) (suc n) s d rest =
    ap (λ (o : Option Head). o >>= λ h. headed (read_test n) (read_term n) h ((expr_tokens a ++ closing ∷ []) ++ rest)) (unary_spelled op)
    ∙ one_read (read_term n) (one_of op) a rest (term_read a n s (omega arith))
term_read (two_of op a b) zero s d rest = absurd (omega arith)
term_read (two_of op a b) (suc n) s d rest =
    ap (λ (o : Option Head). o >>= λ h. headed (read_test n) (read_term n) h ((expr_tokens a ++ (expr_tokens b ++ closing ∷ [])) ++ rest)) (binary_spelled op)
    ∙ ap (two_operands (read_term n) (two_of op)) (two_joined (expr_tokens a) (expr_tokens b) (closing ∷ []) rest)
    ∙ two_read (read_term n) (two_of op) a b rest (term_read a n s.0 (omega arith)) (term_read b n s.1 (omega arith))
term_read (joined a b) zero s d rest = absurd (omega arith)
term_read (joined a b) (suc n) s d rest =
    ap (two_operands (read_term n) joined) (two_joined (expr_tokens a) (expr_tokens b) (closing ∷ []) rest)
    ∙ two_read (read_term n) joined a b rest (term_read a n s.0 (omega arith)) (term_read b n s.1 (omega arith))
term_read (cut high low a) zero s d rest = absurd (omega arith)
term_read (cut high low a) (suc n) s d rest = cut_read high low a n rest s.0 s.1 (term_read a n s.2 (omega arith))
term_read (widened op k a) zero s d rest = absurd (omega arith)
term_read (widened op k a) (suc n) s d rest = widened_read op k a n rest s.0 (term_read a n s.1 (omega arith))
term_read (chosen t a b x y) zero s d rest = absurd (omega arith)
term_read (chosen t a b x y) (suc zero) s d rest = absurd (omega arith)
term_read (chosen t a b x y) (suc (suc n)) s d rest =
    ap (λ ts. read_test (suc n) (opening ∷ word (test_name t) ∷ ts) >>= λ u. two_operands (read_term (suc n)) (choice_of u.0) u.1)
    (two_joined (expr_tokens a) (expr_tokens b) (closing ∷ (expr_tokens x ++ (expr_tokens y ++ closing ∷ []))) rest)
    ∙ ap (λ (o : Front Test). o >>= λ u. two_operands (read_term (suc n)) (choice_of u.0) u.1)
    (test_read t a b n ((expr_tokens x ++ (expr_tokens y ++ closing ∷ [])) ++ rest) (term_read a n s.0 (omega arith)) (term_read b n s.1 (omega arith)))
    ∙ ap (two_operands (read_term (suc n)) (chosen t a b)) (two_joined (expr_tokens x) (expr_tokens y) (closing ∷ []) rest)
    ∙ two_read (read_term (suc n)) (chosen t a b) x y rest (term_read x (suc n) s.2 (omega arith)) (term_read y (suc n) s.3 (omega arith))

pub printed_is_read : PrintedIsRead
printed_is_read n e rest s d = term_read e n s d rest
