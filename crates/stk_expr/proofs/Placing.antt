-- An expression that is laid out is still the expression that was read.
use Rattle.std.proofs.Common.{◌≡◌, ℕ, ◌≤◌, ◌<◌, ◌+◌, ◌^◌, ◌-◌, Bool, List, length, take, drop, sym, ap, ◌∙◌, arith}
use Rattle.std.proofs.lemmas.List.{length-drop, length-take-le}
use Rattle.stk_base.specs.declared.span.Span.{Span}
use Rattle.stk_tree.specs.declared.node.Node.{Node}
use Rattle.stk_tree.specs.declared.fixed.Lexeme.{Lexeme}
use Rattle.stk_tree.specs.Syntax.{ExprTree}
use Rattle.stk_tree.specs.Nesting.{expression_nesting}
use Rattle.stk_tree.specs.Layout.{laid_expression}
use Rattle.stk_tree.specs.Nodes.{expression_nodes}
use Rattle.stk_tree.specs.Placed.{expression_placed}
use Rattle.stk_tree.specs.Tokens.{expression_tokens}
use Rattle.stk_nodes.proofs.Few.{expression_tokens-few}
use Rattle.stk_nodes.proofs.LaidNestings.{expression_nesting-laid}
use Rattle.stk_nodes.proofs.LaidPlaces.{expression_placed-laid}
use Rattle.stk_nodes.proofs.LaidTokens.{expression_tokens-laid}
use Rattle.stk_tree.specs.Unlaid.{unlaid_expression}
use Rattle.stk_grammar.specs.Expressions.{IsExpression}
use Rattle.stk_tree.specs.Fits.{expression_fits}
use Rattle.stk_grammar.proofs.LaidUnlaid.{unlaid_expression-laid}
use Rattle.stk_grammar.proofs.LaidFits.{expression_fits-laid}

pub laid_is : (set : ℕ → ℕ → ℕ → Node) (named : Span → Bool) (least : ℕ) (ts : List Lexeme) (from to : ℕ) (t : ExprTree) (n m : ℕ) → IsExpression named least ts from to t → IsExpression named least ts from to (laid_expression set n m t)
laid_is set named least ts from to t n m h = record {
  within = h.within;
  tokens = h.tokens ∙ sym (expression_tokens-laid set t n m);
  placed = expression_placed-laid set least t n m ∙ h.placed;
  fits = expression_fits-laid set named t n m ∙ h.fits;
  nesting = rw (expression_nesting-laid set t n m) h.nesting;
  stop = h.stop;
}

-- its tokens are those from one place to the other
pub width_of : (named : Span → Bool) (least : ℕ) (ts : List Lexeme) (from to : ℕ) (t : ExprTree) → IsExpression named least ts from to t → from + length (expression_tokens t) ≤ length ts
width_of named least ts from to t h =
    let size : length (take (to - from) (drop from ts)) ≡ length (expression_tokens t) = ap length h.tokens in
    let all : length (take (to - from) (drop from ts)) ≡ to - from = length-take-le (to - from) (drop from ts) (omega (arith, length-drop from ts, h.within.1)) in
    omega (arith, size, all, h.within.0, h.within.1)

-- a unlaid tree that is laid out is the layout of the unlaid tree
pub laid_unlaid : (set : ℕ → ℕ → ℕ → Node) (t u : ExprTree) (n m : ℕ) → unlaid_expression t ≡ t → u ≡ laid_expression set n m t → u ≡ laid_expression set n m (unlaid_expression u)
laid_unlaid set t u n m unlaid e = e ∙ ap (laid_expression set n m) (sym (ap unlaid_expression e ∙ unlaid_expression-laid set t n m ∙ unlaid))
