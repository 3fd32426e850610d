-- The script of a goal is well formed, its text is of the subset, and it denotes the maps that make the goal 1.
use Rattle.std.proofs.Common.{◌≡◌, ℕ, zero, suc, ◌+◌, ◌^◌, ◌<◌, ◌↔◌, Bool, true, false, nat_eq, List, [], ◌∷◌, ◌++◌, take, drop, length, get_or, Some, refl, ap, sym, subst, ◌∙◌, arith, if◌then◌else◌}
use Rattle.std.proofs.lemmas.Bool.Decides.{nat_tests}
use Rattle.std.proofs.lemmas.List.{length-take-le, drop_all}
use Rattle.stk_terms.specs.Terms.{Stored, term_at, child}
use Rattle.stk_terms.specs.Fitting.{IsSound, AreWidths, AreResidues}
use Rattle.stk_terms.specs.Values.{width_at, number_at}
use Rattle.stk_terms.specs.Parts.{is_part}
use Rattle.stk_terms.proofs.Reading.{child_below, most}
use Rattle.stk_terms.proofs.Parting.{parts_closed, has_itself}
use Rattle.stk_scripts.specs.Syntax.{Defined}
use Rattle.stk_scripts.specs.declared.operators.TestOp.TheVariants as test
use Rattle.stk_scripts.specs.Syntax.{literal}
use Rattle.stk_scripts.specs.Tokens.{Token, opening, closing, word, expr_tokens, assert_tokens, check_tokens, defined_tokens, declared_commands, defined_commands, commands, script_tokens}
use Rattle.stk_scripts.specs.Texts.{Spells, script_text}
use Rattle.stk_scripts.specs.Laws.{AreWords, AllAreWords}
use Rattle.stk_scripts.specs.Scripts.{found, width_in, behind_declared, behind_defined, DeclaredFit, DefinedFit, IsWellFormed, Bits, bits, some_bits, meaning, with_inputs, with_defined, Denotes}
use Rattle.stk_scripts.proofs.LaidSpells.{written_spells}
use Rattle.stk_smtlib.specs.Written.{input_name, term_name, at, body_of, inputs_from, definition, definitions_from, script_of}
use Rattle.stk_smtlib.proofs.Lines.{stands}
use Rattle.stk_smtlib.proofs.Names.{InputsNamed, none_named, input_named, TermsNamed, terms_begin, term_named, term_passed}
use Rattle.stk_smtlib.proofs.Wording.{term_word, input_word, number_word, term_is_name, input_is_name}
use Rattle.stk_smtlib.proofs.Printed.{body_words, body_shallow, literal_words}
use Rattle.stk_smtlib.proofs.Widths.{body_wide}
use Rattle.stk_smtlib.proofs.Meanings.{body_means}

-- ---- declarations

-- these are the widths of the inputs from a place on
abbrev AreFrom : (ℕ → ℕ) → ℕ → List ℕ → Type 0
AreFrom input k ws = (i : ℕ) → i < length ws → get_or ws i 0 ≡ input (k + i)

from_next : (input : ℕ → ℕ) (k w : ℕ) (ws : List ℕ) → AreFrom input k (w ∷ ws) → AreFrom input (k + 1) ws
from_next input k w ws h = λ i l. let e : k + suc i ≡ k + 1 + i = omega arith in h (suc i) (omega (arith, l)) ∙ ap input e

from_first : (input : ℕ → ℕ) (k w : ℕ) (ws : List ℕ) → AreFrom input k (w ∷ ws) → w ≡ input k
from_first input k w ws h = let e : k + 0 ≡ k = omega arith in h 0 (omega arith) ∙ ap input e

declared_fit : (input : ℕ → ℕ) (ws : List ℕ) (k : ℕ) (g : List (List ℕ × ℕ)) → k + length ws < 2 ^ 128 → AreFrom input k ws → AreWidths ws → InputsNamed input k g → DeclaredFit g (inputs_from k ws)
declared_fit input [] k g few from wide h = tt
declared_fit input (w ∷ ws) k g few from wide h =
    let less : k + 1 + length ws < 2 ^ 128 = omega (arith, few) in
    let next = subst (λ v. InputsNamed input (k + 1) ((input_name k, v) ∷ g)) (sym (from_first input k w ws from)) (input_named input k g (omega (arith, few)) h) in
    (record { name = input_is_name k (omega (arith, few)); new = h.fresh k (omega arith) (omega (arith, few)) }, wide.0, wide.1, declared_fit input ws (k + 1) ((input_name k, w) ∷ g) less (from_next input k w ws from) wide.2 next)

declared_named : (input : ℕ → ℕ) (ws : List ℕ) (k : ℕ) (g : List (List ℕ × ℕ)) → k + length ws < 2 ^ 128 → AreFrom input k ws → InputsNamed input k g → InputsNamed input (k + length ws) (behind_declared g (inputs_from k ws))
declared_named input [] k g few from h = let e : k ≡ k + 0 = omega arith in subst (λ n. InputsNamed input n g) e h
declared_named input (w ∷ ws) k g few from h =
    let less : k + 1 + length ws < 2 ^ 128 = omega (arith, few) in
    let e : k + 1 + length ws ≡ k + suc (length ws) = omega arith in
    let next = subst (λ v. InputsNamed input (k + 1) ((input_name k, v) ∷ g)) (sym (from_first input k w ws from)) (input_named input k g (omega (arith, few)) h) in
    subst (λ n. InputsNamed input n (behind_declared ((input_name k, w) ∷ g) (inputs_from (k + 1) ws))) e (declared_named input ws (k + 1) ((input_name k, w) ∷ g) less (from_next input k w ws from) next)

-- the same with the numbers of the inputs
abbrev input_bits : (ℕ → ℕ) → (ℕ → ℕ) → ℕ → Bits
input_bits input number i = bits (input i) (number i)

given_named : (input number : ℕ → ℕ) (ws rs : List ℕ) (k : ℕ) (g : List (List ℕ × Bits)) → k + length ws < 2 ^ 128 → AreFrom input k ws → AreFrom number k rs → AreResidues ws rs → InputsNamed (input_bits input number) k g
    → InputsNamed (input_bits input number) (k + length ws) (with_inputs g (inputs_from k ws) rs)
given_named input number [] rs k g few from given fit h = let e : k ≡ k + 0 = omega arith in subst (λ n. InputsNamed (input_bits input number) n g) e h
given_named input number (w ∷ ws) [] k g few from given fit h = absurd fit
given_named input number (w ∷ ws) (r ∷ rs) k g few from given fit h =
    let less : k + 1 + length ws < 2 ^ 128 = omega (arith, few) in
    let e : k + 1 + length ws ≡ k + suc (length ws) = omega arith in
    let same : input_bits input number k ≡ bits w r = (λ i. bits (sym (from_first input k w ws from) i) (sym (from_first number k r rs given) i)) in
    let next = subst (λ v. InputsNamed (input_bits input number) (k + 1) ((input_name k, v) ∷ g)) same (input_named (input_bits input number) k g (omega (arith, few)) h) in
    subst (λ n. InputsNamed (input_bits input number) n (with_inputs ((input_name k, bits w r) ∷ g) (inputs_from (k + 1) ws) rs)) e
    (given_named input number ws rs (k + 1) ((input_name k, bits w r) ∷ g) less (from_next input k w ws from) (from_next number k r rs given) fit.1 next)

all_from : (xs : List ℕ) → AreFrom (λ i. get_or xs i 0) 0 xs
all_from xs = λ i l. let e : i ≡ 0 + i = omega arith in ap (λ n. get_or xs n 0) e

-- ---- definitions

module _ (s : Stored) (sound : IsSound s) (many : length s.terms < 2 ^ 128) (held : length s.inputs < 2 ^ 128) (goal : ℕ) (there : goal < length s.terms) where
  abbrev chosen : ℕ → Bool
  chosen = is_part s goal

  abbrev input : ℕ → ℕ
  input i = get_or s.inputs i 0

  -- the definitions from a place on
  abbrev from : ℕ → List Defined
  from j = definitions_from s goal j (drop j (take (goal + 1) s.terms))

  none_from : (j : ℕ) → j ≡ goal + 1 → from j ≡ []
  none_from j e =
      let many = length-take-le (goal + 1) s.terms (omega (arith, there)) in
      ap (λ ts. definitions_from s goal j ts) (drop_all j (take (goal + 1) s.terms) (omega (arith, many, e)))

  next_from : (j : ℕ) → j < goal + 1 → from j ≡ (if chosen j then definition s j (term_at s j) ∷ from (j + 1) else from (j + 1))
  next_from j within = ap (λ ts. definitions_from s goal j ts) (stands s goal j there within)

  children_named : {A : Type 0} (given : ℕ → A) (term : ℕ → A) (j : ℕ) (g : List (List ℕ × A)) → j < goal + 1 → chosen j ≡ true → TermsNamed given term (length s.inputs) chosen j g → (k : ℕ) → k < length (term_at s j).args
      → found g (term_name (child s j k)) ≡ Some (term (child s j k))
  children_named given term j g within c h k l = h.terms (child s j k) (child_below s sound j k (omega (arith, within, there)) l) ((parts_closed s sound goal there).closed j k c l)

  abbrev Named : ℕ → List (List ℕ × ℕ) → Type 0
  Named = TermsNamed input (width_at s) (length s.inputs) chosen

  wide_body : (j : ℕ) (g : List (List ℕ × ℕ)) → j < goal + 1 → chosen j ≡ true → Named j g → width_in g (body_of s (term_at s j)) ≡ Some (width_at s j)
  wide_body j g within c h = body_wide s sound j (omega (arith, within, there)) g h.inputs (children_named input (width_at s) j g within c h)

  fit_step : (j : ℕ) (g : List (List ℕ × ℕ)) → j < goal + 1 → Named j g → ((g2 : List (List ℕ × ℕ)) → Named (j + 1) g2 → DefinedFit g2 (from (j + 1))) → (b : Bool) → chosen j ≡ b
      → DefinedFit g (if b then definition s j (term_at s j) ∷ from (j + 1) else from (j + 1))
  fit_step j g within h rest true c =
      let few : j < 2 ^ 128 = omega (arith, within, there, many) in
      let shallow = body_shallow s sound many held j (omega (arith, within, there)) in
      (record { name = term_is_name j few; new = h.fresh j (omega arith) few }, wide_body j g within c h, omega (arith, shallow), rest ((term_name j, width_at s j) ∷ g) (term_named input (width_at s) (length s.inputs) chosen j g few h))
  fit_step j g within h rest false c = rest g (term_passed input (width_at s) (length s.inputs) chosen j g c h)

  fit_from : (n j : ℕ) (g : List (List ℕ × ℕ)) → j + n ≡ goal + 1 → Named j g → DefinedFit g (from j)
  fit_from zero j g e h = subst (DefinedFit g) (sym (none_from j (omega (arith, e)))) tt
  fit_from (suc n) j g e h =
      let within : j < goal + 1 = omega (arith, e) in
      subst (DefinedFit g) (sym (next_from j within)) (fit_step j g within h (λ g2 named. fit_from n (j + 1) g2 (omega (arith, e)) named) (chosen j) refl)

  named_step : (j : ℕ) (g : List (List ℕ × ℕ)) → j < goal + 1 → Named j g → ((g2 : List (List ℕ × ℕ)) → Named (j + 1) g2 → Named (goal + 1) (behind_defined g2 (from (j + 1)))) → (b : Bool) → chosen j ≡ b
      → Named (goal + 1) (behind_defined g (if b then definition s j (term_at s j) ∷ from (j + 1) else from (j + 1)))
  named_step j g within h rest true c = rest ((term_name j, width_at s j) ∷ g) (term_named input (width_at s) (length s.inputs) chosen j g (omega (arith, within, there, many)) h)
  named_step j g within h rest false c = rest g (term_passed input (width_at s) (length s.inputs) chosen j g c h)

  named_from : (n j : ℕ) (g : List (List ℕ × ℕ)) → j + n ≡ goal + 1 → Named j g → Named (goal + 1) (behind_defined g (from j))
  named_from zero j g e h = let last : j ≡ goal + 1 = omega (arith, e) in subst (λ ds. Named (goal + 1) (behind_defined g ds)) (sym (none_from j last)) (subst (λ n. Named n g) last h)
  named_from (suc n) j g e h =
      let within : j < goal + 1 = omega (arith, e) in
      subst (λ ds. Named (goal + 1) (behind_defined g ds)) (sym (next_from j within)) (named_step j g within h (λ g2 named. named_from n (j + 1) g2 (omega (arith, e)) named) (chosen j) refl)

  -- ---- well formed

  module _ (one : width_at s goal ≡ 1) where
    abbrev declared_names : List (List ℕ × ℕ)
    declared_names = behind_declared [] (inputs_from 0 s.inputs)

    begins : Named 0 declared_names
    begins =
        let e : 0 + length s.inputs ≡ length s.inputs = omega arith in
        terms_begin input (width_at s) (length s.inputs) chosen declared_names (subst (λ n. InputsNamed input n declared_names) e (declared_named input s.inputs 0 [] (omega (arith, held)) (all_from s.inputs) (none_named input)))

    all_names : Named (goal + 1) (behind_defined declared_names (from 0))
    all_names = named_from (goal + 1) 0 declared_names (omega arith) begins

    pub formed : IsWellFormed (script_of s goal)
    formed = record {
      declared = declared_fit input s.inputs 0 [] (omega (arith, held)) (all_from s.inputs) sound.widths_are (none_named input);
      defined = fit_from (goal + 1) 0 declared_names (omega arith) begins;
      compares = (1, all_names.terms goal (omega arith) (has_itself s sound goal) ∙ ap (λ w. Some w) one, refl);
      shallow = (omega arith, omega arith);
    }

  -- ---- its text

  declared_words : (ws : List ℕ) (k : ℕ) → k + length ws < 2 ^ 128 → AreWidths ws → AllAreWords (declared_commands (inputs_from k ws))
  declared_words [] k few wide = tt
  declared_words (w ∷ ws) k few wide =
      let n = input_word k (omega (arith, few)) in
      let most_wide = wide.1 in
      let d = number_word w (omega (arith, most_wide)) in
      ((omega arith, refl, (n.some, n.all, (omega arith, refl, (omega arith, refl, (d.some, d.all, tt))))), declared_words ws (k + 1) (omega (arith, few)) wide.2)

  words_append : (ts us : List Token) → AreWords ts → AreWords us → AreWords (ts ++ us)
  words_append [] us h l = l
  words_append (opening ∷ ts) us h l = words_append ts us h l
  words_append (closing ∷ ts) us h l = words_append ts us h l
  words_append (word w ∷ ts) us h l = (h.0, h.1, words_append ts us h.2 l)

  definition_words : (j : ℕ) → j < goal + 1 → AreWords (defined_tokens (definition s j (term_at s j)))
  definition_words j within =
      let n = term_word j (omega (arith, within, there, many)) in
      let few = most s sound j in
      let d = number_word (width_at s j) (omega (arith, few)) in
      let body = words_append (expr_tokens (body_of s (term_at s j))) (closing ∷ []) (body_words s sound many held j (omega (arith, within, there))) tt in
      (omega arith, refl, (n.some, n.all, (omega arith, refl, (omega arith, refl, (d.some, d.all, body)))))

  words_step : (j : ℕ) → j < goal + 1 → AllAreWords (defined_commands (from (j + 1))) → (b : Bool) → AllAreWords (defined_commands (if b then definition s j (term_at s j) ∷ from (j + 1) else from (j + 1)))
  words_step j within rest true = (definition_words j within, rest)
  words_step j within rest false = rest

  words_from : (n j : ℕ) → j + n ≡ goal + 1 → AllAreWords (defined_commands (from j))
  words_from zero j e = subst (λ ds. AllAreWords (defined_commands ds)) (sym (none_from j (omega (arith, e)))) tt
  words_from (suc n) j e =
      let within : j < goal + 1 = omega (arith, e) in
      subst (λ ds. AllAreWords (defined_commands ds)) (sym (next_from j within)) (words_step j within (words_from n (j + 1) (omega (arith, e))) (chosen j))

  all_append : (tss uss : List (List Token)) → AllAreWords tss → AllAreWords uss → AllAreWords (tss ++ uss)
  all_append [] uss h l = l
  all_append (ts ∷ tss) uss h l = (h.0, all_append tss uss h.1 l)

  command_words : AllAreWords (commands (script_of s goal))
  command_words =
      let g = term_word goal (omega (arith, there, many)) in
      let asserted : AreWords (assert_tokens test.Equal (at goal) (literal 1 1)) = (omega arith, refl, (omega arith, refl, (g.some, g.all, literal_words 1 1 (closing ∷ closing ∷ []) (omega arith) (omega arith) tt))) in
      let last : AllAreWords (assert_tokens test.Equal (at goal) (literal 1 1) ∷ check_tokens ∷ []) = (asserted, ((omega arith, refl, tt), tt)) in (
        (omega arith, refl, (omega arith, refl, tt)),
        all_append (declared_commands (inputs_from 0 s.inputs)) (defined_commands (from 0) ++ assert_tokens test.Equal (at goal) (literal 1 1) ∷ check_tokens ∷ []) (declared_words s.inputs 0 (omega (arith, held)) sound.widths_are)
            (all_append (defined_commands (from 0)) (assert_tokens test.Equal (at goal) (literal 1 1) ∷ check_tokens ∷ []) (words_from (goal + 1) 0 (omega arith)) last),
      )

  pub spelled : Spells (script_tokens (script_of s goal)) (script_text (script_of s goal))
  spelled = written_spells (commands (script_of s goal)) command_words

  -- ---- its meaning

  module _ (residues : List ℕ) (fit : AreResidues s.inputs residues) where
    abbrev given : ℕ → Bits
    given = input_bits input (λ i. get_or residues i 0)

    abbrev term : ℕ → Bits
    term j = bits (width_at s j) (number_at s residues j)

    abbrev Meant : ℕ → List (List ℕ × Bits) → Type 0
    Meant = TermsNamed given term (length s.inputs) chosen

    meant_body : (j : ℕ) (g : List (List ℕ × Bits)) → j < goal + 1 → chosen j ≡ true → Meant j g → meaning g (body_of s (term_at s j)) ≡ term j
    meant_body j g within c h = body_means s sound residues fit j (omega (arith, within, there)) g h.inputs (children_named given term j g within c h)

    meant_step : (j : ℕ) (g : List (List ℕ × Bits)) → j < goal + 1 → Meant j g → ((g2 : List (List ℕ × Bits)) → Meant (j + 1) g2 → Meant (goal + 1) (with_defined g2 (from (j + 1)))) → (b : Bool) → chosen j ≡ b
        → Meant (goal + 1) (with_defined g (if b then definition s j (term_at s j) ∷ from (j + 1) else from (j + 1)))
    meant_step j g within h rest true c =
        let named = term_named given term (length s.inputs) chosen j g (omega (arith, within, there, many)) h in
        rest ((term_name j, meaning g (body_of s (term_at s j))) ∷ g) (subst (λ v. Meant (j + 1) ((term_name j, v) ∷ g)) (sym (meant_body j g within c h)) named)
    meant_step j g within h rest false c = rest g (term_passed given term (length s.inputs) chosen j g c h)

    meant_from : (n j : ℕ) (g : List (List ℕ × Bits)) → j + n ≡ goal + 1 → Meant j g → Meant (goal + 1) (with_defined g (from j))
    meant_from zero j g e h = let last : j ≡ goal + 1 = omega (arith, e) in subst (λ ds. Meant (goal + 1) (with_defined g ds)) (sym (none_from j last)) (subst (λ n. Meant n g) last h)
    meant_from (suc n) j g e h =
        let within : j < goal + 1 = omega (arith, e) in
        subst (λ ds. Meant (goal + 1) (with_defined g ds)) (sym (next_from j within)) (meant_step j g within h (λ g2 named. meant_from n (j + 1) g2 (omega (arith, e)) named) (chosen j) refl)

    abbrev given_names : List (List ℕ × Bits)
    given_names = with_inputs [] (inputs_from 0 s.inputs) residues

    all_meant : Meant (goal + 1) (with_defined given_names (from 0))
    all_meant =
        let e : 0 + length s.inputs ≡ length s.inputs = omega arith in
        meant_from (goal + 1) 0 given_names (omega arith)
        (terms_begin given term (length s.inputs) chosen given_names
        (subst (λ n. InputsNamed given n given_names) e (given_named input (λ i. get_or residues i 0) s.inputs residues 0 [] (omega (arith, held)) (all_from s.inputs) (all_from residues) fit (none_named given))))

    goal_meant : meaning (with_defined given_names (from 0)) (at goal) ≡ term goal
    goal_meant = ap some_bits (all_meant.terms goal (omega arith) (has_itself s sound goal))

    is_one : (n : ℕ) → nat_eq n 1 ≡ true → n ≡ 1
    is_one n h = grind (arith, nat_tests)

    one_is : (n : ℕ) → n ≡ 1 → nat_eq n 1 ≡ true
    one_is n h = grind (arith, nat_tests)

    pub denotes : Denotes (script_of s goal) residues ↔ (number_at s residues goal ≡ 1)
    denotes =
        let same : nat_eq (meaning (with_defined given_names (from 0)) (at goal)).number 1 ≡ nat_eq (number_at s residues goal) 1 = ap (λ (b : Bits). nat_eq b.number 1) goal_meant in
        ((λ d. is_one (number_at s residues goal) (sym same ∙ d)), (λ e. same ∙ one_is (number_at s residues goal) e))
