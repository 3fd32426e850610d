-- What the definitions say, whoever reads: one declaration, one place, and what the reader's answers mean.
use Rattle.std.proofs.Common.{◌≡◌, ℕ, ◌+◌, ◌-◌, ◌≤◌, max, Bool, List, ◌++◌, length, take, drop, slice_range, Some, None, refl, sym, ap, ◌∙◌, arith}
use Rattle.std.proofs.lemmas.List.{take-append-drop, length-append, length-drop, drop-drop}
use Rattle.std.proofs.Math.Seq.{drop-append_seam, take-append_seam}
use Rattle.stk_base.specs.declared.span.Span.{Span}
use Rattle.stk_tree.specs.declared.fixed.Lexeme.{Lexeme}
use Rattle.stk_tree.specs.Syntax.{DeclarationTree}
use Rattle.stk_tree.specs.Tokens.{declaration_tokens}
use Rattle.stk_grammar.specs.Reading.{Found}
use Rattle.stk_grammar.proofs.Operators.{some_is}
use Rattle.stk_tree.specs.Unlaid.{unlaid_declaration}
use Rattle.stk_grammar.specs.Declarations.{DeclarationLeads, FrontLeads, IsDeclaration, IsFront, OneDeclaration, OneFront, front_tokens, opens_body}
use Rattle.stk_grammar.specs.DeclarationReading.{declaration_at, front_at}
use Rattle.stk_grammar.proofs.Declarations.{declaration_reads, declaration_sound, front_reads, front_sound}

-- ---- places

-- what stands from one place up to another stands in front of what stands there
pub leads_of_slice : (ts tokens : List Lexeme) (from to : ℕ) → from ≤ to → slice_range ts from to ≡ tokens → drop from ts ≡ tokens ++ drop to ts
leads_of_slice ts tokens from to h e =
    sym (take-append-drop (to - from) (drop from ts))
    ∙ ap (λ x. x ++ drop (to - from) (drop from ts)) e
    ∙ ap (λ x. tokens ++ x) (drop-drop (to - from) from ts ∙ ap (λ n. drop n ts) (let d : from + (to - from) ≡ to = omega (arith, h) in d))

-- and what stands in front of others stands up to where those begin
pub record IsSlice (ts tokens rest : List Lexeme) (from to : ℕ) : Type 0 where
  pub within : (from ≤ to) × (to ≤ length ts)
  pub tokens_are : slice_range ts from to ≡ tokens
  pub behind : rest ≡ drop to ts

pub slice_of_leads : (ts tokens rest : List Lexeme) (from : ℕ) → from ≤ length ts → drop from ts ≡ tokens ++ rest → IsSlice ts tokens rest from (length ts - length rest)
slice_of_leads ts tokens rest from inside text =
    let len : length ts ≡ from + (length tokens + length rest) = omega (arith, ap length text, length-drop {A = Lexeme}, length-append tokens rest) in
    let size : length ts - length rest - from ≡ length tokens = omega arith in
    let to_is : from + length tokens ≡ length ts - length rest = omega arith in
    record {
      within = (omega arith, omega arith);
      tokens_are = ap (λ n. take n (drop from ts)) size ∙ ap (take (length tokens)) text ∙ take-append_seam tokens rest;
      behind = sym (drop-append_seam tokens rest) ∙ ap (drop (length tokens)) (sym text) ∙ drop-drop (length tokens) from ts ∙ ap (λ n. drop n ts) to_is;
    }

same_end : (ts : List Lexeme) (to end : ℕ) → to ≤ length ts → end ≤ length ts → drop to ts ≡ drop end ts → to ≡ end
same_end ts to end a b e = omega (arith, ap length e, length-drop to ts, length-drop end ts)

-- ---- what stands in front

-- a declaration that stands in front is read
pub declaration_leads_read : (named : Span → Bool) (file : Bool) (room : ℕ) (ts : List Lexeme) (d : DeclarationTree) (rest : List Lexeme) → DeclarationLeads named file room ts d rest
    → declaration_at named file room ts ≡ Some (unlaid_declaration d, rest)
declaration_leads_read named file room ts d rest h = ap (declaration_at named file room) h.tokens ∙ declaration_reads named file room d rest h.placed h.fits h.nesting

no_declaration_by : (named : Span → Bool) (file : Bool) (room : ℕ) (ts : List Lexeme) → ((d : DeclarationTree) (rest : List Lexeme) → DeclarationLeads named file room ts d rest → ⊥) → (o : Found DeclarationTree)
    → declaration_at named file room ts ≡ o → declaration_at named file room ts ≡ None
no_declaration_by named file room ts h None e = e
no_declaration_by named file room ts h (Some (d, rest)) e = absurd (h d rest (declaration_sound named file room ts d rest e).0)

-- where none stands in front, none is read
pub no_declaration_leads : (named : Span → Bool) (file : Bool) (room : ℕ) (ts : List Lexeme) → ((d : DeclarationTree) (rest : List Lexeme) → DeclarationLeads named file room ts d rest → ⊥) → declaration_at named file room ts ≡ None
no_declaration_leads named file room ts h = no_declaration_by named file room ts h (declaration_at named file room ts) refl

-- and where none is read, none stands in front
pub no_declaration_read : (named : Span → Bool) (file : Bool) (room : ℕ) (ts : List Lexeme) → declaration_at named file room ts ≡ None → (d : DeclarationTree) (rest : List Lexeme) → DeclarationLeads named file room ts d rest → ⊥
no_declaration_read named file room ts e d rest h = let k = declaration_leads_read named file room ts d rest h in cc (sym e ∙ k)

pub front_leads_read : (named : Span → Bool) (room : ℕ) (ts : List Lexeme) (d : DeclarationTree) (rest : List Lexeme) → FrontLeads named room ts d rest → front_at named room ts ≡ Some (unlaid_declaration d, rest)
front_leads_read named room ts d rest h = ap (front_at named room) h.tokens ∙ front_reads named room d rest h.placed h.fits h.nesting h.body

no_front_by : (named : Span → Bool) (room : ℕ) (ts : List Lexeme) → ((d : DeclarationTree) (rest : List Lexeme) → FrontLeads named room ts d rest → ⊥) → (o : Found DeclarationTree)
    → front_at named room ts ≡ o → front_at named room ts ≡ None
no_front_by named room ts h None e = e
no_front_by named room ts h (Some (d, rest)) e = absurd (h d rest (front_sound named room ts d rest e).0)

pub no_front_leads : (named : Span → Bool) (room : ℕ) (ts : List Lexeme) → ((d : DeclarationTree) (rest : List Lexeme) → FrontLeads named room ts d rest → ⊥) → front_at named room ts ≡ None
no_front_leads named room ts h = no_front_by named room ts h (front_at named room ts) refl

pub no_front_read : (named : Span → Bool) (room : ℕ) (ts : List Lexeme) → front_at named room ts ≡ None → (d : DeclarationTree) (rest : List Lexeme) → FrontLeads named room ts d rest → ⊥
no_front_read named room ts e d rest h = let k = front_leads_read named room ts d rest h in cc (sym e ∙ k)

-- ---- two in front of the same tokens are one

pub one_declaration_leads : (named : Span → Bool) (file : Bool) (room more : ℕ) (ts : List Lexeme) (x y : DeclarationTree) (rest left : List Lexeme) → DeclarationLeads named file room ts x rest → DeclarationLeads named file more ts y left
    → (unlaid_declaration x ≡ unlaid_declaration y) × (rest ≡ left)
one_declaration_leads named file room more ts x y rest left h k =
    let wide : ℕ = max room more in
    let a = declaration_leads_read named file wide ts x rest (record { tokens = h.tokens; placed = h.placed; fits = h.fits; nesting = omega (arith, h.nesting) }) in
    let b = declaration_leads_read named file wide ts y left (record { tokens = k.tokens; placed = k.placed; fits = k.fits; nesting = omega (arith, k.nesting) }) in
    let both = some_is (unlaid_declaration x, rest) (unlaid_declaration y, left) (sym a ∙ b) in
    (ap (λ p. p.0) both, ap (λ p. p.1) both)

pub one_front_leads : (named : Span → Bool) (room more : ℕ) (ts : List Lexeme) (x y : DeclarationTree) (rest left : List Lexeme) → FrontLeads named room ts x rest → FrontLeads named more ts y left
    → (unlaid_declaration x ≡ unlaid_declaration y) × (rest ≡ left)
one_front_leads named room more ts x y rest left h k =
    let wide : ℕ = max room more in
    let a = front_leads_read named wide ts x rest (record { tokens = h.tokens; placed = h.placed; fits = h.fits; nesting = omega (arith, h.nesting); body = h.body }) in
    let b = front_leads_read named wide ts y left (record { tokens = k.tokens; placed = k.placed; fits = k.fits; nesting = omega (arith, k.nesting); body = k.body }) in
    let both = some_is (unlaid_declaration x, rest) (unlaid_declaration y, left) (sym a ∙ b) in
    (ap (λ p. p.0) both, ap (λ p. p.1) both)

-- ---- a declaration at a place, and what the reader finds there

pub declaration_leads : (named : Span → Bool) (file : Bool) (ts : List Lexeme) (from to : ℕ) (d : DeclarationTree) → IsDeclaration named file ts from to d → DeclarationLeads named file 400 (drop from ts) d (drop to ts)
declaration_leads named file ts from to d h = record { tokens = leads_of_slice ts (declaration_tokens d) from to h.within.0 h.tokens; placed = h.placed; fits = h.fits; nesting = h.nesting }

pub found_of_declaration : (named : Span → Bool) (file : Bool) (ts : List Lexeme) (from to : ℕ) (d : DeclarationTree) → IsDeclaration named file ts from to d
    → declaration_at named file 400 (drop from ts) ≡ Some (unlaid_declaration d, drop to ts)
found_of_declaration named file ts from to d h = declaration_leads_read named file 400 (drop from ts) d (drop to ts) (declaration_leads named file ts from to d h)

pub declaration_of_leads : (named : Span → Bool) (file : Bool) (ts : List Lexeme) (from : ℕ) (d : DeclarationTree) (rest : List Lexeme) → from ≤ length ts → DeclarationLeads named file 400 (drop from ts) d rest
    → IsDeclaration named file ts from (length ts - length rest) d
declaration_of_leads named file ts from d rest inside h =
    let p = slice_of_leads ts (declaration_tokens d) rest from inside h.tokens in
    record { within = p.within; tokens = p.tokens_are; placed = h.placed; fits = h.fits; nesting = h.nesting }

pub declaration_of_found : (named : Span → Bool) (file : Bool) (ts : List Lexeme) (from : ℕ) (d : DeclarationTree) (rest : List Lexeme) → from ≤ length ts → declaration_at named file 400 (drop from ts) ≡ Some (d, rest)
    → IsDeclaration named file ts from (length ts - length rest) d
declaration_of_found named file ts from d rest inside e = declaration_of_leads named file ts from d rest inside (declaration_sound named file 400 (drop from ts) d rest e).0

-- what the reader finds has no record of its nodes
pub declaration_found_unlaid : (named : Span → Bool) (file : Bool) (room : ℕ) (ts : List Lexeme) (d : DeclarationTree) (rest : List Lexeme) → declaration_at named file room ts ≡ Some (d, rest) → unlaid_declaration d ≡ d
declaration_found_unlaid named file room ts d rest e = (declaration_sound named file room ts d rest e).1

-- none stands where the reader finds none
pub no_declaration_of_none : (named : Span → Bool) (file : Bool) (ts : List Lexeme) (from : ℕ) → declaration_at named file 400 (drop from ts) ≡ None → (d : DeclarationTree) (to : ℕ) → IsDeclaration named file ts from to d → ⊥
no_declaration_of_none named file ts from e d to h = let k = found_of_declaration named file ts from to d h in cc (sym e ∙ k)

pub one_declaration : OneDeclaration
one_declaration named file ts from to end x y h k =
    let p = one_declaration_leads named file 400 400 (drop from ts) x y (drop to ts) (drop end ts) (declaration_leads named file ts from to x h) (declaration_leads named file ts from end y k) in
    (p.0, same_end ts to end h.within.1 k.within.1 p.1)

-- ---- a front of a function at a place

pub front_leads : (named : Span → Bool) (ts : List Lexeme) (from to : ℕ) (d : DeclarationTree) → IsFront named ts from to d → FrontLeads named 400 (drop from ts) d (drop to ts)
front_leads named ts from to d h = record { tokens = leads_of_slice ts (front_tokens d) from to h.within.0 h.tokens; placed = h.placed; fits = h.fits; nesting = h.nesting; body = h.body }

pub found_of_front : (named : Span → Bool) (ts : List Lexeme) (from to : ℕ) (d : DeclarationTree) → IsFront named ts from to d → front_at named 400 (drop from ts) ≡ Some (unlaid_declaration d, drop to ts)
found_of_front named ts from to d h = front_leads_read named 400 (drop from ts) d (drop to ts) (front_leads named ts from to d h)

pub front_of_leads : (named : Span → Bool) (ts : List Lexeme) (from : ℕ) (d : DeclarationTree) (rest : List Lexeme) → from ≤ length ts → FrontLeads named 400 (drop from ts) d rest → IsFront named ts from (length ts - length rest) d
front_of_leads named ts from d rest inside h =
    let p = slice_of_leads ts (front_tokens d) rest from inside h.tokens in
    record { within = p.within; tokens = p.tokens_are; placed = h.placed; fits = h.fits; nesting = h.nesting; body = ap opens_body (sym p.behind) ∙ h.body }

pub front_of_found : (named : Span → Bool) (ts : List Lexeme) (from : ℕ) (d : DeclarationTree) (rest : List Lexeme) → from ≤ length ts → front_at named 400 (drop from ts) ≡ Some (d, rest) → IsFront named ts from (length ts - length rest) d
front_of_found named ts from d rest inside e = front_of_leads named ts from d rest inside (front_sound named 400 (drop from ts) d rest e).0

pub front_found_unlaid : (named : Span → Bool) (room : ℕ) (ts : List Lexeme) (d : DeclarationTree) (rest : List Lexeme) → front_at named room ts ≡ Some (d, rest) → unlaid_declaration d ≡ d
front_found_unlaid named room ts d rest e = (front_sound named room ts d rest e).1

pub no_front_of_none : (named : Span → Bool) (ts : List Lexeme) (from : ℕ) → front_at named 400 (drop from ts) ≡ None → (d : DeclarationTree) (to : ℕ) → IsFront named ts from to d → ⊥
no_front_of_none named ts from e d to h = let k = found_of_front named ts from to d h in cc (sym e ∙ k)

pub one_front : OneFront
one_front named ts from to end x y h k =
    let p = one_front_leads named 400 400 (drop from ts) x y (drop to ts) (drop end ts) (front_leads named ts from to x h) (front_leads named ts from end y k) in
    (p.0, same_end ts to end h.within.1 k.within.1 p.1)
