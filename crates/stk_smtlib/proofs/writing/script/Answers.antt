use Rattle.std.proofs.Common.{ℕ, List, length, arith, ◌<◌, ◌^◌, ◌+◌, ◌++◌, ◌∷◌, [], take, ◌≡◌, ap, subst, sym, ◌∙◌, codes}
use Rattle.stk_scripts.specs.declared.operators.TestOp.TheVariants as tests
use Rattle.stk_scripts.specs.Syntax.{literal}
use Rattle.stk_scripts.specs.Tokens.{declared_commands, defined_commands, assert_tokens}
use Rattle.stk_scripts.specs.Texts.{laid, lines}
use Rattle.stk_smtlib.specs.Written.{at, inputs_from, definitions_from}
use Rattle.stk_scripts.specs.Texts.{Spells, script_text}
use Rattle.stk_scripts.specs.Tokens.{script_tokens}
use Rattle.stk_smtlib.specs.Written.{script_of}
use Rattle.stk_smtlib.proofs.Lines.{script_lines, five_joined}
use Rattle.stk_smtlib.proofs.Whole.{formed, spelled, denotes}
use Rattle.stk_smtlib.proofs.writing.script.Goals as goal

inputs_held : (inputs widths : List ℕ) → widths ≡ inputs → length widths < 2 ^ 64 → length inputs < 2 ^ 128
inputs_held inputs widths e few = let same = ap (λ (ws : List ℕ). length ws) e in omega (arith, same, few)

pub returns : goal.returns
returns c =
    let s = c.args.terms.now in
    let ds = declared_commands (inputs_from 0 s.inputs) in
    let es = defined_commands (definitions_from s c.args.goal.0 0 (take (c.args.goal.0 + 1) s.terms)) in
    let a = assert_tokens tests.Equal (at c.args.goal.0) (literal 1 1) in
    let text : c.add-2.new.text.items ≡ script_text (script_of s c.args.goal.0) =
    c.in_ok-add-2.ensures
    ∙ ap (λ u. u ++ codes "(check-sat)\n")
    (c.in_ok-add_assertion.ensures
    ∙ ap (λ u. u ++ (laid a ++ 10 ∷ [])) (c.in_ok-add_definitions.ensures ∙ ap (λ u. u ++ lines es) (c.in_ok-add_inputs.ensures ∙ ap (λ (ws : List ℕ). c.add.new.text.items ++ lines (declared_commands (inputs_from 0 ws))) c.widths.ensures ∙ ap (λ u. u ++ lines ds) (c.in_ok-add.ensures ∙ ap (λ u. u ++ codes "(set-logic QF_BV)\n") c.new-text.ensures.items))))
    ∙ five_joined (codes "(set-logic QF_BV)\n") (lines ds) (lines es) (laid a ++ 10 ∷ []) (codes "(check-sat)\n")
    ∙ sym (script_lines ds es a)
    in
    let sound = c.count.ensures.sound in
    let counted = c.count.type_inv in
    let same = c.count.ensures.count in
    let many : length s.terms < 2 ^ 128 = omega (arith, counted, same) in
    let held : length s.inputs < 2 ^ 128 = inputs_held s.inputs c.widths.result.now c.widths.ensures c.widths.type_inv.0 in
    record {
      text = text;
      read = record { formed = formed s sound many held c.args.goal.0 c.requires.exists c.requires.one; spelled = subst (Spells (script_tokens (script_of s c.args.goal.0))) (sym text) (spelled s sound many held c.args.goal.0 c.requires.exists) };
      means = λ residues fit. denotes s sound many held c.args.goal.0 c.requires.exists residues fit;
    }
