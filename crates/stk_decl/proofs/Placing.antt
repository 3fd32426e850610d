-- A declaration that is laid out is still the declaration that was read.
use Rattle.std.proofs.Common.{◌≡◌, ℕ, ◌≤◌, ◌+◌, ◌-◌, ◌++◌, Bool, true, false, List, length, take, drop, refl, sym, ap, ◌∙◌, arith}
use Rattle.std.proofs.lemmas.List.{length-append, length-drop, length-take-le}
use Rattle.stk_base.specs.declared.span.Span.{Span}
use Rattle.stk_tree.specs.declared.node.Node.{Node}
use Rattle.stk_tree.specs.declared.fixed.Lexeme.{Lexeme}
use Rattle.stk_tree.specs.Syntax.{DeclarationTree}
use Rattle.stk_tree.specs.Syntax as s
use Rattle.stk_tree.specs.Layout.{laid_declaration}
use Rattle.stk_tree.specs.Tokens.{base_tokens, declaration_tokens, declarators_tokens, storage_tokens}
use Rattle.stk_nodes.proofs.LaidNestings.{declaration_nesting-laid}
use Rattle.stk_nodes.proofs.LaidPlaces.{base_placed-laid, declarator_placed-laid, file_placed-laid, function_declarator-laid, is_unbraced-laid, local_placed-laid}
use Rattle.stk_nodes.proofs.LaidTokens.{base_tokens-laid, declaration_tokens-laid, declarators_tokens-laid}
use Rattle.stk_grammar.proofs.LaidUnlaid.{unlaid_base-laid, unlaid_declarators-laid}
use Rattle.stk_grammar.proofs.LaidFits.{base_fits-laid, declarators_fits-laid}
use Rattle.stk_tree.specs.Unlaid.{unlaid_declaration}
use Rattle.stk_tree.specs.Fits.{declaration_fits}
use Rattle.stk_grammar.specs.Declarations.{IsDeclaration, IsFront, declaration_placed, front_placed, front_tokens}

module _ (set : ℕ → ℕ → ℕ → Node) where
  fits : (named : Span → Bool) (d : DeclarationTree) (n t : ℕ) → declaration_fits named (laid_declaration set n t d) ≡ declaration_fits named d
  fits named (s.declaration word b ds) n t = rw (base_fits-laid set named b _ _, declarators_fits-laid set named ds _ _) refl

  unlaid : (d : DeclarationTree) (n t : ℕ) → unlaid_declaration (laid_declaration set n t d) ≡ unlaid_declaration d
  unlaid (s.declaration word b ds) n t = rw (unlaid_base-laid set b _ _, unlaid_declarators-laid set ds _ _) refl

  placed : (file : Bool) (d : DeclarationTree) (n t : ℕ) → declaration_placed file (laid_declaration set n t d) ≡ declaration_placed file d
  placed true d n t = file_placed-laid set d n t
  placed false d n t = local_placed-laid set d n t

  front_text : (d : DeclarationTree) (n t : ℕ) → front_tokens (laid_declaration set n t d) ≡ front_tokens d
  front_text (s.declaration word b ds) n t = rw (base_tokens-laid set b _ _, declarators_tokens-laid set ds _ _) refl

  placed_front : (d : DeclarationTree) (n t : ℕ) → front_placed (laid_declaration set n t d) ≡ front_placed d
  placed_front (s.declaration word b s.no_declarators) n t = refl
  placed_front (s.declaration word b (s.then_declarator d s.no_declarators)) n t =
      rw (is_unbraced-laid set b _ _, base_placed-laid set b _ _, function_declarator-laid set d _ _, declarator_placed-laid set d _ _) refl
  placed_front (s.declaration word b (s.then_declarator d (s.then_declarator e es))) n t = refl

  pub laid_is : (named : Span → Bool) (file : Bool) (ts : List Lexeme) (from to : ℕ) (d : DeclarationTree) (n t : ℕ) → IsDeclaration named file ts from to d
      → IsDeclaration named file ts from to (laid_declaration set n t d)
  laid_is named file ts from to d n t h = record {
    within = h.within;
    tokens = h.tokens ∙ sym (declaration_tokens-laid set d n t);
    placed = placed file d n t ∙ h.placed;
    fits = fits named d n t ∙ h.fits;
    nesting = rw (declaration_nesting-laid set d n t) h.nesting;
  }

  pub laid_front_is : (named : Span → Bool) (ts : List Lexeme) (from to : ℕ) (d : DeclarationTree) (n t : ℕ) → IsFront named ts from to d → IsFront named ts from to (laid_declaration set n t d)
  laid_front_is named ts from to d n t h = record {
    within = h.within;
    tokens = h.tokens ∙ sym (front_text d n t);
    placed = placed_front d n t ∙ h.placed;
    fits = fits named d n t ∙ h.fits;
    nesting = rw (declaration_nesting-laid set d n t) h.nesting;
    body = h.body;
  }

  -- a unlaid tree that is laid out is the layout of the unlaid tree
  pub laid_unlaid : (d e : DeclarationTree) (n t : ℕ) → unlaid_declaration d ≡ d → e ≡ laid_declaration set n t d → e ≡ laid_declaration set n t (unlaid_declaration e)
  laid_unlaid d e n t is q = q ∙ ap (laid_declaration set n t) (sym (ap unlaid_declaration q ∙ unlaid d n t ∙ is))

slice_width : (ts : List Lexeme) (from to : ℕ) (xs : List Lexeme) → from ≤ to → to ≤ length ts → take (to - from) (drop from ts) ≡ xs → from + length xs ≤ length ts
slice_width ts from to xs low high e =
    let size : length (take (to - from) (drop from ts)) ≡ length xs = ap length e in
    let all : length (take (to - from) (drop from ts)) ≡ to - from = length-take-le (to - from) (drop from ts) (omega (arith, length-drop from ts, high)) in
    omega (arith, size, all, low, high)

-- its tokens are those from one place to the other
pub width_of : (named : Span → Bool) (file : Bool) (ts : List Lexeme) (from to : ℕ) (d : DeclarationTree) → IsDeclaration named file ts from to d → from + length (declaration_tokens d) ≤ length ts
width_of named file ts from to d h = slice_width ts from to (declaration_tokens d) h.within.0 h.within.1 h.tokens

-- so are a front's, which prints one token less than its declaration
pub front_width_of : (named : Span → Bool) (ts : List Lexeme) (from to : ℕ) (d : DeclarationTree) → IsFront named ts from to d → from + length (declaration_tokens d) ≤ length ts + 1
front_width_of named ts from to (s.declaration word b ds) h =
    let w = slice_width ts from to (storage_tokens word ++ base_tokens b ++ declarators_tokens ds) h.within.0 h.within.1 h.tokens in
    let a : length (storage_tokens word ++ base_tokens b ++ declarators_tokens ds) ≡ length (storage_tokens word) + length (base_tokens b) + length (declarators_tokens ds) = simp length-append refl in
    simp length-append (omega (arith, w, a))
