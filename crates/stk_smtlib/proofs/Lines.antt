-- The lines of declarations and definitions, one after the other.
use Rattle.std.proofs.Common.{◌≡◌, ℕ, ◌+◌, ◌<◌, Bool, true, false, List, [], ◌∷◌, ◌++◌, take, drop, length, get_or, refl, ap, sym, ◌∙◌, append_assoc, arith, codes, if◌then◌else◌}
use Rattle.std.proofs.lemmas.List.{get_or-take, length-take-le, drop_more}
use Rattle.stk_terms.specs.declared.term.TermOp.TheVariants.{Constant}
use Rattle.stk_terms.specs.Terms.{Stored, Term, term_of, term_at}
use Rattle.stk_terms.specs.Parts.{is_part}
use Rattle.stk_scripts.specs.Tokens.{Token, declared_tokens, defined_tokens, declared_commands, defined_commands, logic_tokens, check_tokens}
use Rattle.stk_scripts.specs.Texts.{laid, lines}
use Rattle.stk_smtlib.specs.Written.{input_name, inputs_from, definition, definitions_from, wanted_line}

-- a command before others
line_first : (ts : List Token) (tss : List (List Token)) → lines (ts ∷ tss) ≡ (laid ts ++ 10 ∷ []) ++ lines tss
line_first ts tss = sym (append_assoc (laid ts) (10 ∷ []) (lines tss))

-- the lines of the inputs from a place on
abbrev pub input_lines : ℕ → List ℕ → List ℕ
input_lines k ws = lines (declared_commands (inputs_from k (drop k ws)))

pub input_first : (ws : List ℕ) (k : ℕ) (d : ℕ) → k < length ws → input_lines k ws ≡ (laid (declared_tokens (record { name = input_name k; width = get_or ws k d })) ++ 10 ∷ []) ++ input_lines (k + 1) ws
input_first ws k d below =
    ap (λ rest. lines (declared_commands (inputs_from k rest))) (drop_more ws k d below)
    ∙ line_first (declared_tokens (record { name = input_name k; width = get_or ws k d })) (declared_commands (inputs_from (k + 1) (drop (k + 1) ws)))

-- the lines of the definitions of the parts of a goal from a place on
abbrev pub part_lines : Stored → ℕ → ℕ → List ℕ
part_lines s goal j = lines (defined_commands (definitions_from s goal j (drop j (take (goal + 1) s.terms))))

module _ (s : Stored) (goal j : ℕ) (there : goal < length s.terms) (within : j < goal + 1) where
  abbrev pub rest : List Term
  rest = drop (j + 1) (take (goal + 1) s.terms)

  below_count : j < length (take (goal + 1) s.terms)
  below_count =
      let e = length-take-le (goal + 1) s.terms (omega (arith, there)) in
      omega (arith, e, within)

  pub stands : drop j (take (goal + 1) s.terms) ≡ term_at s j ∷ rest
  stands =
      drop_more (take (goal + 1) s.terms) j (term_of (Constant 0 0) []) (below_count)
      ∙ ap (λ t. t ∷ rest) (get_or-take (goal + 1) s.terms j (term_of (Constant 0 0) []) within)

  line_next : (b : Bool) → lines (defined_commands (if b then definition s j (term_at s j) ∷ definitions_from s goal (j + 1) rest else definitions_from s goal (j + 1) rest)) ≡ wanted_line s j b ++ part_lines s goal (j + 1)
  line_next true = line_first (defined_tokens (definition s j (term_at s j))) (defined_commands (definitions_from s goal (j + 1) rest))
  line_next false = refl

  pub part_next : (b : Bool) → b ≡ is_part s goal j → part_lines s goal j ≡ wanted_line s j b ++ part_lines s goal (j + 1)
  part_next b e = ap (λ ts. lines (defined_commands (definitions_from s goal j ts))) stands ∙ line_next (is_part s goal j) ∙ ap (λ c. wanted_line s j c ++ part_lines s goal (j + 1)) (sym e)

-- ---- all lines of a script

lines_append : (xs ys : List (List Token)) → lines (xs ++ ys) ≡ lines xs ++ lines ys
lines_append [] ys = refl
lines_append (x ∷ xs) ys = ap (λ u. laid x ++ 10 ∷ u) (lines_append xs ys) ∙ sym (append_assoc (laid x) (10 ∷ lines xs) (lines ys))

pub script_lines : (ds es : List (List Token)) (a : List Token) → lines (logic_tokens ∷ (ds ++ (es ++ a ∷ check_tokens ∷ []))) ≡ codes "(set-logic QF_BV)\n" ++ (lines ds ++ (lines es ++ ((laid a ++ 10 ∷ []) ++ codes "(check-sat)\n")))
script_lines ds es a =
    ap (λ u. codes "(set-logic QF_BV)\n" ++ u)
    (lines_append ds (es ++ a ∷ check_tokens ∷ []) ∙ ap (λ u. lines ds ++ u) (lines_append es (a ∷ check_tokens ∷ []) ∙ ap (λ u. lines es ++ u) (line_first a (check_tokens ∷ []))))

pub five_joined : (l d e a c : List ℕ) → (((l ++ d) ++ e) ++ a) ++ c ≡ l ++ (d ++ (e ++ (a ++ c)))
five_joined l d e a c = append_assoc ((l ++ d) ++ e) a c ∙ append_assoc (l ++ d) e (a ++ c) ∙ append_assoc l d (e ++ (a ++ c))
