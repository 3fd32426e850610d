-- Each reader takes at least one token: fewer are left.
use Rattle.std.proofs.Common.{◌≡◌, ℕ, ◌<◌, Bool, true, List, length, Some, ap, arith}
use Rattle.stk_base.specs.declared.span.Span.{Span}
use Rattle.stk_tree.specs.declared.fixed.Lexeme.{Lexeme}
use Rattle.stk_tree.specs.Placed.{section_placed}
use Rattle.stk_tree.specs.Syntax.{LabelTree, PartTree, SectionTree, StmtTree}
use Rattle.stk_tree.specs.Syntax as s
use Rattle.stk_grammar.proofs.Operators.{both_true}
use Rattle.stk_grammar.specs.StatementReading.{label_at, part_at, section_at, statement_at}
use Rattle.stk_grammar.proofs.StatementPrints.{label_longer, labelled_longer, part_longer, prints_longer, prints_section}
use Rattle.stk_grammar.proofs.StatementSound.{label_is, part_is, section_at_sound, statement_sound}

pub label_shorter : (named : Span → Bool) (room : ℕ) (ts : List Lexeme) (x : LabelTree) (rest : List Lexeme) → label_at named room ts ≡ Some (x, rest) → length rest < length ts
label_shorter named room ts x rest e = omega (arith, ap length (label_is named room ts (x, rest) e).text, label_longer x rest)

section_longer : (x : SectionTree) (r : List Lexeme) → section_placed x ≡ true → length r < length (prints_section x r)
section_longer (s.section n ls body) r p = labelled_longer ls body r (both_true _ _ (both_true _ _ p).0).0

module _ (named : Span → Bool) (room : ℕ) (ts : List Lexeme) where
  pub statement_shorter : (x : StmtTree) (rest : List Lexeme) → statement_at named room ts ≡ Some (x, rest) → length rest < length ts
  statement_shorter x rest e = omega (arith, ap length (statement_sound named room ts (x, rest) e).text, prints_longer x rest)

  pub part_shorter : (x : PartTree) (rest : List Lexeme) → part_at named room (statement_at named room) ts ≡ Some (x, rest) → length rest < length ts
  part_shorter x rest e = omega (arith, ap length (part_is named room (statement_at named room) (statement_sound named room) ts (x, rest) e).text, part_longer x rest)

  pub section_shorter : (x : SectionTree) (rest : List Lexeme) → section_at named room ts ≡ Some (x, rest) → length rest < length ts
  section_shorter x rest e = let p = (section_at_sound named room ts (x, rest) e).read in omega (arith, ap length p.text, section_longer x rest p.placed)
