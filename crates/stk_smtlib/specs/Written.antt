-- The script of a goal over terms.
use Rattle.std.specs.Prelude.{ℕ, ◌+◌, ◌-◌, Bool, true, List, [], ◌∷◌, ◌++◌, take, codes, decimal, if◌then◌else◌}
use Rattle.stk_terms.specs.declared.term.TermOp.{TermOp}
use Rattle.stk_terms.specs.declared.term.TermOp.TheVariants.{Constant, Input, Not, Neg, And, Or, Xor, Add, Sub, Mul, UDiv, URem, Shl, LShr, AShr, Eq, ULt, SLt, Extract, ZeroExt, SignExt, Concat, Ite}
use Rattle.stk_terms.specs.Terms.{Stored, Term, nth, term_at}
use Rattle.stk_terms.specs.Values.{width_at}
use Rattle.stk_terms.specs.Parts.{is_part}
use Rattle.stk_scripts.specs.declared.operators.UnaryOp.TheVariants as unary
use Rattle.stk_scripts.specs.declared.operators.BinaryOp.TheVariants as binary
use Rattle.stk_scripts.specs.declared.operators.ExtendOp.TheVariants as extend
use Rattle.stk_scripts.specs.declared.operators.TestOp.{TestOp}
use Rattle.stk_scripts.specs.declared.operators.TestOp.TheVariants as test
use Rattle.stk_scripts.specs.Syntax.{Expr, named, literal, one_of, two_of, joined, cut, widened, chosen, Declared, Defined, Script}
use Rattle.stk_scripts.specs.Tokens.{Token, opening, closing, word, sort_tokens, expr_tokens, defined_tokens}
use Rattle.stk_scripts.specs.Texts.{laid}

-- the name of an input, and that of a term
abbrev pub input_name : ℕ → List ℕ
input_name k = codes "k" ++ decimal k

abbrev pub term_name : ℕ → List ℕ
term_name j = codes "t" ++ decimal j

-- the term at a place, by its name
abbrev pub at : ℕ → Expr
at j = named (term_name j)

-- a comparison as a term of width 1
abbrev pub truth_of : TestOp → Expr → Expr → Expr
truth_of t a b = chosen t a b (literal 1 1) (literal 1 0)

-- the term of an operator, by the widths of the first argument and the places of all three
abbrev pub body_by : TermOp → ℕ → ℕ → ℕ → ℕ → Expr
body_by (Constant w n) w0 a b c = literal w n
body_by (Input k) w0 a b c = named (input_name k)
body_by Not w0 a b c = one_of unary.Not (at a)
body_by Neg w0 a b c = one_of unary.Neg (at a)
body_by And w0 a b c = two_of binary.And (at a) (at b)
body_by Or w0 a b c = two_of binary.Or (at a) (at b)
body_by Xor w0 a b c = two_of binary.Xor (at a) (at b)
body_by Add w0 a b c = two_of binary.Add (at a) (at b)
body_by Sub w0 a b c = two_of binary.Sub (at a) (at b)
body_by Mul w0 a b c = two_of binary.Mul (at a) (at b)
body_by UDiv w0 a b c = chosen test.Equal (at b) (literal w0 0) (literal w0 0) (two_of binary.UDiv (at a) (at b))
body_by URem w0 a b c = two_of binary.URem (at a) (at b)
body_by Shl w0 a b c = two_of binary.Shl (at a) (at b)
body_by LShr w0 a b c = two_of binary.LShr (at a) (at b)
body_by AShr w0 a b c = two_of binary.AShr (at a) (at b)
body_by Eq w0 a b c = truth_of test.Equal (at a) (at b)
body_by ULt w0 a b c = truth_of test.Below (at a) (at b)
body_by SLt w0 a b c = truth_of test.SignedBelow (at a) (at b)
body_by (Extract low w) w0 a b c = cut (low + w - 1) low (at a)
body_by (ZeroExt w) w0 a b c = widened extend.Zero (w - w0) (at a)
body_by (SignExt w) w0 a b c = widened extend.Sign (w - w0) (at a)
body_by Concat w0 a b c = joined (at a) (at b)
body_by Ite w0 a b c = chosen test.Equal (at a) (literal 1 1) (at b) (at c)

-- the term at a place of a store, by the names of its arguments
abbrev pub body_of : Stored → Term → Expr
body_of s t = body_by t.op (width_at s (nth t.args 0)) (nth t.args 0) (nth t.args 1) (nth t.args 2)

-- the inputs from a place on
abbrev pub inputs_from : ℕ → List ℕ → List Declared
inputs_from k [] = []
inputs_from k (w ∷ ws) = record { name = input_name k; width = w } ∷ inputs_from (k + 1) ws

-- a definition
abbrev pub definition : Stored → ℕ → Term → Defined
definition s j t = record { name = term_name j; width = width_at s j; body = body_of s t }

-- the definitions of the parts of the goal among terms from a place on
abbrev pub definitions_from : Stored → ℕ → ℕ → List Term → List Defined
definitions_from s goal j [] = []
definitions_from s goal j (t ∷ ts) = if is_part s goal j then definition s j t ∷ definitions_from s goal (j + 1) ts else definitions_from s goal (j + 1) ts

-- the script of a goal: the logic, the inputs, the parts of the goal in order, and that the goal is 1
abbrev pub script_of : Stored → ℕ → Script
script_of s goal = record {
  has_logic = true;
  declared = inputs_from 0 s.inputs;
  defined = definitions_from s goal 0 (take (goal + 1) s.terms);
  test = test.Equal;
  left = at goal;
  right = literal 1 1;
}

-- the text of a term, and that of a definition
abbrev pub body_text : TermOp → ℕ → ℕ → ℕ → ℕ → List ℕ
body_text op w0 a b c = laid (expr_tokens (body_by op w0 a b c))

-- what stands before the term of a definition
abbrev pub head_tokens : ℕ → ℕ → List Token
head_tokens j w = opening ∷ word (codes "define-fun") ∷ word (term_name j) ∷ opening ∷ closing ∷ sort_tokens w []

-- the line of a definition, if it is wanted
abbrev pub wanted_line : Stored → ℕ → Bool → List ℕ
wanted_line s j wanted = if wanted then laid (defined_tokens (definition s j (term_at s j))) ++ 10 ∷ [] else []
