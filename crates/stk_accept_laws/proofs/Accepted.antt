-- Tokens are one tree, and a unit is accepted or refused in one way: what its tree declares decides it.
use Rattle.std.proofs.Common.{◌≡◌, ℕ, Bool, true, false, Option, Some, None, List, take, refl, sym, ap, ◌∙◌}
use Rattle.std.proofs.lemmas.Bool.{false≢true}
use Rattle.stk_lex.specs.declared.token.Token.{Token}
use Rattle.stk_ctype.specs.declared.symbol.NameEntry.{NameEntry}
use Rattle.stk_ctype.specs.Named.{named}
use Rattle.stk_type_rules.specs.Facts.{Fact}
use Rattle.stk_type_rules.specs.Outcome.{Outcome, Good, Refused}
use Rattle.stk_grammar.specs.Lexemes.{lexemes_of, spans_of}
use Rattle.stk_tree.specs.Syntax.{UnitTree}
use Rattle.stk_nodes.specs.Rows.{unit_row}
use Rattle.stk_grammar.proofs.LaidUnits.{one_laid_unit}
use Rattle.stk_stmt.specs.Heads.{ended_lexemes, ended_spans}
use Rattle.stk_declare.specs.Declaring.{unit_declared}
use Rattle.stk_accept.specs.declared.accepting.Refusal.{Refusal}
use Rattle.stk_accept.specs.declared.accepting.Refusal.TheVariants as refusal
use Rattle.stk_accept.specs.Accepting.{IsTree, IsHeadTree, IsRefusedFor, beginning, Accepts, Refuses, Leaves, LeavesHead, no_head, refused_head, declared_head}

-- an outcome's value, or another one
value_in : List NameEntry → Outcome (List NameEntry) → List NameEntry
value_in other (Good es facts) = es
value_in other (Refused n r) = other

-- whether an outcome is a value
is_good : Outcome (List NameEntry) → Bool
is_good (Good es facts) = true
is_good (Refused n r) = false

node_in : Outcome (List NameEntry) → ℕ
node_in (Good es facts) = 0
node_in (Refused n r) = n

rule_in : Outcome (List NameEntry) → ℕ
rule_in (Good es facts) = 0
rule_in (Refused n r) = r

module _ (bytes : List ℕ) (punctuator : Bool) (es : List NameEntry) where
  -- what tokens are, laid out, is one unit
  pub one_tree : (tokens : List Token) (u v : UnitTree) → IsTree bytes es tokens u → IsTree bytes es tokens v → u ≡ v
  one_tree tokens u v h k = one_laid_unit (named bytes es) (lexemes_of bytes tokens) (spans_of tokens) u v h.is k.is h.laid_out k.laid_out

  one_head : (tokens : List Token) (u v : UnitTree) → IsHeadTree bytes es tokens u → IsHeadTree bytes es tokens v → u ≡ v
  one_head tokens u v h k = one_laid_unit (named bytes es) (ended_lexemes (lexemes_of bytes tokens)) (ended_spans (spans_of tokens)) u v h.is.is k.is.is h.laid_out k.laid_out

  good_not_refused : (u v : UnitTree) (now : List NameEntry) (facts : List Fact) (n r : ℕ) → u ≡ v → unit_declared bytes punctuator es u ≡ Good now facts → unit_declared bytes punctuator es v ≡ Refused n r → ⊥
  unfolding is_good
  good_not_refused u v now facts n r same e f = false≢true (sym (ap is_good f) ∙ ap (λ z. is_good (unit_declared bytes punctuator es z)) (sym same) ∙ ap is_good e)

  same_value : (u v : UnitTree) (now also : List NameEntry) (facts more : List Fact) → u ≡ v → unit_declared bytes punctuator es u ≡ Good now facts → unit_declared bytes punctuator es v ≡ Good also more → now ≡ also
  unfolding value_in
  same_value u v now also facts more same e f = ap (value_in now) (sym e ∙ ap (unit_declared bytes punctuator es) same ∙ f)

  one_left_head : (tokens : List Token) (now also : List NameEntry) → LeavesHead bytes punctuator es tokens now → LeavesHead bytes punctuator es tokens also → now ≡ also
  one_left_head tokens now also (no_head none) (no_head none') = refl
  one_left_head tokens now also (no_head none) (refused_head v n r k f) = refl
  one_left_head tokens now also (no_head none) (declared_head v later facts k f) = absurd (none v k.is)
  one_left_head tokens now also (refused_head u n r h e) (no_head none) = refl
  one_left_head tokens now also (refused_head u n r h e) (refused_head v m s' k f) = refl
  one_left_head tokens now also (refused_head u n r h e) (declared_head v later facts k f) = absurd (good_not_refused v u later facts n r (one_head tokens v u k h) f e)
  one_left_head tokens now also (declared_head u here facts h e) (no_head none) = absurd (none u h.is)
  one_left_head tokens now also (declared_head u here facts h e) (refused_head v n r k f) = absurd (good_not_refused u v here facts n r (one_head tokens u v h k) e f)
  one_left_head tokens now also (declared_head u here facts h e) (declared_head v later more k f) = same_value u v here later facts more (one_head tokens u v h k) e f

  pub one_left : (tokens : List Token) (body : Option ℕ) (now also : List NameEntry) → Leaves bytes punctuator es tokens body now → Leaves bytes punctuator es tokens body also → now ≡ also
  one_left tokens None now also h k = h ∙ sym k
  one_left tokens (Some n) now also h k = one_left_head (take n tokens) now also h k

  -- a unit that is accepted isn't refused
  pub not_both : (tokens : List Token) (body : Option ℕ) (u : UnitTree) (now also : List NameEntry) (cause : Refusal) → Accepts bytes punctuator es tokens u now → Refuses bytes punctuator es tokens body cause also → ⊥
  not_both tokens body u now also refusal.NoTree h k = k.because u h.tree.is
  not_both tokens body u now also (refusal.Rule at rule) h k = good_not_refused u k.because.unit now h.facts k.because.node rule (one_tree tokens u k.because.unit h.tree k.because.tree) h.declared k.because.refused

  pub one_accepted : (tokens : List Token) (u v : UnitTree) (now also : List NameEntry) → Accepts bytes punctuator es tokens u now → Accepts bytes punctuator es tokens v also → now ≡ also
  one_accepted tokens u v now also h k = same_value u v now also h.facts k.facts (one_tree tokens u v h.tree k.tree) h.declared k.declared

  pub one_cause : (tokens : List Token) (cause other : Refusal) → IsRefusedFor bytes punctuator es tokens cause → IsRefusedFor bytes punctuator es tokens other → cause ≡ other
  unfolding node_in rule_in
  one_cause tokens refusal.NoTree refusal.NoTree h k = refl
  one_cause tokens refusal.NoTree (refusal.Rule at rule) h k = absurd (h k.unit k.tree.is)
  one_cause tokens (refusal.Rule at rule) refusal.NoTree h k = absurd (k h.unit h.tree.is)
  one_cause tokens (refusal.Rule at rule) (refusal.Rule place number) h k =
      let same : h.unit ≡ k.unit = one_tree tokens h.unit k.unit h.tree k.tree in
      let outcome = sym h.refused ∙ ap (unit_declared bytes punctuator es) same ∙ k.refused in
      let place_is : at ≡ place = h.place ∙ ap (λ (u : UnitTree). beginning (unit_row u) h.node) same ∙ ap (beginning (unit_row k.unit)) (ap node_in outcome) ∙ sym k.place in
      ap (λ n. refusal.Rule n rule) place_is ∙ ap (λ n. refusal.Rule place n) (ap rule_in outcome)
