-- The tokens of what is written of a store are words.
use Rattle.std.proofs.Common.{◌≡◌, ℕ, ◌+◌, ◌-◌, ◌^◌, ◌<◌, ◌≤◌, List, [], ◌∷◌, ◌++◌, length, refl, arith, codes}
use Rattle.stk_terms.specs.declared.term.TermOp.{TermOp}
use Rattle.stk_terms.specs.declared.term.TermOp.TheVariants.{Constant, Input, Not, Neg, And, Or, Xor, Add, Sub, Mul, UDiv, URem, Shl, LShr, AShr, Eq, ULt, SLt, Extract, ZeroExt, SignExt, Concat, Ite}
use Rattle.stk_terms.specs.Terms.{Stored, term_at, child}
use Rattle.stk_terms.specs.Fitting.{IsSound}
use Rattle.stk_terms.specs.Values.{width_at}
use Rattle.stk_terms.proofs.Reading.{two_args, one_arg, no_args, three_args, most}
use Rattle.stk_scripts.specs.declared.operators.UnaryOp.{UnaryOp}
use Rattle.stk_scripts.specs.declared.operators.UnaryOp.TheVariants as unary
use Rattle.stk_scripts.specs.declared.operators.BinaryOp.{BinaryOp}
use Rattle.stk_scripts.specs.declared.operators.BinaryOp.TheVariants as binary
use Rattle.stk_scripts.specs.declared.operators.ExtendOp.{ExtendOp}
use Rattle.stk_scripts.specs.declared.operators.ExtendOp.TheVariants as extend
use Rattle.stk_scripts.specs.declared.operators.TestOp.{TestOp}
use Rattle.stk_scripts.specs.declared.operators.TestOp.TheVariants as test
use Rattle.stk_scripts.specs.Syntax.{one_of, two_of, joined, cut, widened, chosen, literal, binary_name, test_name}
use Rattle.stk_scripts.specs.Scripts.{depth}
use Rattle.std.proofs.Math.Nat.{pow-le-pow_right}
use Rattle.stk_scripts.specs.Tokens.{Token, opening, closing, word, literal_tokens, expr_tokens}
use Rattle.stk_scripts.specs.Laws.{AreWords}
use Rattle.stk_smtlib.specs.Written.{term_name, at, truth_of, body_by, body_of}
use Rattle.stk_smtlib.proofs.Wording.{IsWord, number_word, bits_word, term_word, input_word, unary_word, binary_word, extend_word, test_word}

pub literal_words : (w n : ℕ) (ts : List Token) → w < 2 ^ 128 → n < 2 ^ 128 → AreWords ts → AreWords (literal_tokens w n ++ ts)
literal_words w n ts wide small h = let b = bits_word n small in let d = number_word w wide in (omega arith, refl, (b.some, b.all, (d.some, d.all, h)))

one_words : (op : UnaryOp) (i : ℕ) → i < 2 ^ 128 → AreWords (expr_tokens (one_of op (at i)))
one_words op i small = let o = unary_word op in let a = term_word i small in (o.some, o.all, (a.some, a.all, tt))

pair_words : (name : List ℕ) (i j : ℕ) (ts : List Token) → IsWord name → i < 2 ^ 128 → j < 2 ^ 128 → AreWords ts → AreWords (opening ∷ word name ∷ word (term_name i) ∷ word (term_name j) ∷ closing ∷ ts)
pair_words name i j ts named small little h = let a = term_word i small in let b = term_word j little in (named.some, named.all, (a.some, a.all, (b.some, b.all, h)))

two_words : (op : BinaryOp) (i j : ℕ) → i < 2 ^ 128 → j < 2 ^ 128 → AreWords (expr_tokens (two_of op (at i) (at j)))
two_words op i j small little = pair_words (binary_name op) i j [] (binary_word op) small little tt

truth_words : (op : TestOp) (i j : ℕ) → i < 2 ^ 128 → j < 2 ^ 128 → AreWords (expr_tokens (truth_of op (at i) (at j)))
truth_words op i j small little =
    (omega arith, refl, pair_words (test_name op) i j (literal_tokens 1 1 ++ (literal_tokens 1 0 ++ closing ∷ [])) (test_word op) small little (literal_words 1 1 (literal_tokens 1 0 ++ closing ∷ []) (omega arith) (omega arith) (literal_words 1 0 (closing ∷ []) (omega arith) (omega arith) tt)))

is_words : (i w n : ℕ) (ts : List Token) → i < 2 ^ 128 → w < 2 ^ 128 → n < 2 ^ 128 → AreWords ts → AreWords (opening ∷ word (codes "=") ∷ word (term_name i) ∷ (literal_tokens w n ++ closing ∷ ts))
is_words i w n ts small wide little h = let a = term_word i small in (omega arith, refl, (a.some, a.all, literal_words w n (closing ∷ ts) wide little h))

choice_words : (i j k : ℕ) → i < 2 ^ 128 → j < 2 ^ 128 → k < 2 ^ 128 → AreWords (expr_tokens (chosen test.Equal (at i) (literal 1 1) (at j) (at k)))
choice_words i j k small little least =
    let b = term_word j little in
    let c = term_word k least in
    (omega arith, refl, is_words i 1 1 (word (term_name j) ∷ word (term_name k) ∷ closing ∷ []) small (omega arith) (omega arith) (b.some, b.all, (c.some, c.all, tt)))

quotient_words : (w i j : ℕ) → w < 2 ^ 128 → i < 2 ^ 128 → j < 2 ^ 128 → AreWords (expr_tokens (chosen test.Equal (at j) (literal w 0) (literal w 0) (two_of binary.UDiv (at i) (at j))))
quotient_words w i j wide small little =
    (omega arith, refl, is_words j w 0 (literal_tokens w 0 ++ (expr_tokens (two_of binary.UDiv (at i) (at j)) ++ closing ∷ [])) little wide (omega arith) (literal_words w 0 (expr_tokens (two_of binary.UDiv (at i) (at j)) ++ closing ∷ []) wide (omega arith) (pair_words (binary_name binary.UDiv) i j (closing ∷ []) (binary_word binary.UDiv) small little tt)))

joined_words : (i j : ℕ) → i < 2 ^ 128 → j < 2 ^ 128 → AreWords (expr_tokens (joined (at i) (at j)))
joined_words i j small little = pair_words (codes "concat") i j [] (record { some = omega arith; all = refl }) small little tt

cut_words : (high low i : ℕ) → high < 2 ^ 128 → low < 2 ^ 128 → i < 2 ^ 128 → AreWords (expr_tokens (cut high low (at i)))
cut_words high low i up down small =
    let h = number_word high up in
    let l = number_word low down in
    let a = term_word i small in
    (omega arith, refl, (omega arith, refl, (h.some, h.all, (l.some, l.all, (a.some, a.all, tt)))))

widened_words : (op : ExtendOp) (k i : ℕ) → k < 2 ^ 128 → i < 2 ^ 128 → AreWords (expr_tokens (widened op k (at i)))
widened_words op k i more small =
    let o = extend_word op in
    let n = number_word k more in
    let a = term_word i small in
    (omega arith, refl, (o.some, o.all, (n.some, n.all, (a.some, a.all, tt))))

-- ---- the term of an operator

constant_small : (w n : ℕ) → w ≤ 128 → n < 2 ^ w → n < 2 ^ 128
constant_small w n few small = let k = pow-le-pow_right {n = 2} (omega arith) few in omega (arith, k, small)

module _ (s : Stored) (sound : IsSound s) (many : length s.terms < 2 ^ 128) (inputs : length s.inputs < 2 ^ 128) (j : ℕ) (below : j < length s.terms) where
  abbrev a : ℕ
  a = child s j 0

  abbrev b : ℕ
  b = child s j 1

  abbrev c : ℕ
  c = child s j 2

  few : (i : ℕ) → i < j → i < 2 ^ 128
  few i h = omega (arith, h, below, many)

  body_words_by : (op : TermOp) → (term_at s j).op ≡ op → AreWords (expr_tokens (body_by op (width_at s a) a b c))
  body_words_by (Constant w n) e = let l = no_args s sound j below (Constant w n) e refl in let wide = l.fits.1 in literal_words w n [] (omega (arith, wide)) (constant_small w n l.fits.1 l.fits.2) tt
  body_words_by (Input k) e = let l = no_args s sound j below (Input k) e refl in let there = l.fits in let n = input_word k (omega (arith, there, inputs)) in (n.some, n.all, tt)
  body_words_by Not e = let o = one_arg s sound j below Not e refl in one_words unary.Not a (few a o.first)
  body_words_by Neg e = let o = one_arg s sound j below Neg e refl in one_words unary.Neg a (few a o.first)
  body_words_by And e = let p = two_args s sound j below And e refl in two_words binary.And a b (few a p.first) (few b p.second)
  body_words_by Or e = let p = two_args s sound j below Or e refl in two_words binary.Or a b (few a p.first) (few b p.second)
  body_words_by Xor e = let p = two_args s sound j below Xor e refl in two_words binary.Xor a b (few a p.first) (few b p.second)
  body_words_by Add e = let p = two_args s sound j below Add e refl in two_words binary.Add a b (few a p.first) (few b p.second)
  body_words_by Sub e = let p = two_args s sound j below Sub e refl in two_words binary.Sub a b (few a p.first) (few b p.second)
  body_words_by Mul e = let p = two_args s sound j below Mul e refl in two_words binary.Mul a b (few a p.first) (few b p.second)
  body_words_by UDiv e =
      let p = two_args s sound j below UDiv e refl in
      let wide = most s sound a in
      quotient_words (width_at s a) a b (omega (arith, wide)) (few a p.first) (few b p.second)
  body_words_by URem e = let p = two_args s sound j below URem e refl in two_words binary.URem a b (few a p.first) (few b p.second)
  body_words_by Shl e = let p = two_args s sound j below Shl e refl in two_words binary.Shl a b (few a p.first) (few b p.second)
  body_words_by LShr e = let p = two_args s sound j below LShr e refl in two_words binary.LShr a b (few a p.first) (few b p.second)
  body_words_by AShr e = let p = two_args s sound j below AShr e refl in two_words binary.AShr a b (few a p.first) (few b p.second)
  body_words_by Eq e = let p = two_args s sound j below Eq e refl in truth_words test.Equal a b (few a p.first) (few b p.second)
  body_words_by ULt e = let p = two_args s sound j below ULt e refl in truth_words test.Below a b (few a p.first) (few b p.second)
  body_words_by SLt e = let p = two_args s sound j below SLt e refl in truth_words test.SignedBelow a b (few a p.first) (few b p.second)
  body_words_by (Extract low w) e =
      let o = one_arg s sound j below (Extract low w) e refl in
      let within = o.fits.1 in
      let wide = most s sound a in
      cut_words (low + w - 1) low a (omega (arith, within, wide)) (omega (arith, within, wide)) (few a o.first)
  body_words_by (ZeroExt w) e = let o = one_arg s sound j below (ZeroExt w) e refl in let wide = o.fits.1 in widened_words extend.Zero (w - width_at s a) a (omega (arith, wide)) (few a o.first)
  body_words_by (SignExt w) e = let o = one_arg s sound j below (SignExt w) e refl in let wide = o.fits.1 in widened_words extend.Sign (w - width_at s a) a (omega (arith, wide)) (few a o.first)
  body_words_by Concat e = let p = two_args s sound j below Concat e refl in joined_words a b (few a p.first) (few b p.second)
  body_words_by Ite e = let t = three_args s sound j below Ite e refl in choice_words a b c (few a t.first) (few b t.second) (few c t.third)

  pub body_words : AreWords (expr_tokens (body_of s (term_at s j)))
  body_words = body_words_by (term_at s j).op refl

  -- what is written nests little
  depth_by : (op : TermOp) → depth (body_by op (width_at s a) a b c) ≤ 3
  depth_by (Constant w n) = omega arith
  depth_by (Input k) = omega arith
  depth_by Not = omega arith
  depth_by Neg = omega arith
  depth_by And = omega arith
  depth_by Or = omega arith
  depth_by Xor = omega arith
  depth_by Add = omega arith
  depth_by Sub = omega arith
  depth_by Mul = omega arith
  depth_by UDiv = omega arith
  depth_by URem = omega arith
  depth_by Shl = omega arith
  depth_by LShr = omega arith
  depth_by AShr = omega arith
  depth_by Eq = omega arith
  depth_by ULt = omega arith
  depth_by SLt = omega arith
  depth_by (Extract low w) = omega arith
  depth_by (ZeroExt w) = omega arith
  depth_by (SignExt w) = omega arith
  depth_by Concat = omega arith
  depth_by Ite = omega arith

  pub body_shallow : depth (body_of s (term_at s j)) ≤ 3
  body_shallow = depth_by (term_at s j).op
