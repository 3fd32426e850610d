-- The trees of accepted functions are typed and kinded, and their numbers have the bits of their types; and units leave
-- orderly names.
use Rattle.std.proofs.Common.{◌≡◌, ℕ, Bool, List, take, Option, Some, None, sym, ap, subst}
use Rattle.stk_lex.specs.declared.token.Token.{Token}
use Rattle.stk_grammar.specs.Lexemes.{spans_of}
use Rattle.stk_ctype.specs.declared.symbol.NameEntry.{NameEntry}
use Rattle.stk_tree.specs.declared.node.Node.{Node}
use Rattle.stk_tree.specs.Syntax.{UnitTree, FunctionTree}
use Rattle.stk_tree.specs.Syntax as s
use Rattle.stk_tree.specs.Unlaid.{unlaid_unit}
use Rattle.stk_numbers.specs.declared.conditions.Kinds.{Kinds}
use Rattle.stk_address_taken.specs.Statements.{function_taken}
use Rattle.stk_type_laws.specs.Orderly.{AreOrderly}
use Rattle.stk_type_laws.proofs.Kept.{units_keep_order}
use Rattle.stk_meaning.specs.Typings.{typing_of}
use Rattle.stk_meaning.specs.Keys.{setting_of, function_visits}
use Rattle.stk_run_laws.specs.Visits.{EachVisit}
use Rattle.stk_run_laws.specs.TypedTree.{IsTypedTree}
use Rattle.stk_type_laws.proofs.Whole.{accepted_trees_are_typed}
use Rattle.stk_type_rules.specs.Facts.{Fact}
use Rattle.stk_type_rules.specs.Outcome.{Good}
use Rattle.stk_function_types.specs.Units.{facts_in, unit_typed}
use Rattle.stk_kinded.specs.KindedStatements.{KindedFunction}
use Rattle.stk_type_laws.proofs.KindedTrees.{accepted_trees_are_kinded}
use Rattle.stk_type_laws.specs.Bits.{VisitHasBits}
use Rattle.stk_type_laws.proofs.TreesHaveBits.{accepted_trees_have_bits}
use Rattle.stk_type_laws.specs.Accepted.{IsAccepted}
use Rattle.stk_accept.specs.declared.accepting.Accepted.{Accepted}
use Rattle.stk_accept.specs.declared.accepting.Accepted.TheVariants as answers
use Rattle.stk_accept.specs.Accepting.{Accepts, IsAnswered, Leaves, LeavesHead, no_head, refused_head, declared_head}
use Rattle.stk_units.specs.Functions.{IsDefinition}
use Rattle.stk_units.specs.Known.{IsTypedFunction, IsTypedWell, WasAccepted}
use Rattle.stk_units.specs.Outcomes.{UnitOutcome, IsOutcome, declaring, refusing, leaving, judging}

-- ---- names

-- the names behind a unit that is accepted, where those before it are orderly
behind_accepted : (bytes : List ℕ) (mark : Bool) (es now : List NameEntry) (tokens : List Token) (u : UnitTree) → AreOrderly es → Accepts bytes mark es tokens u now → AreOrderly now
behind_accepted bytes mark es now tokens u orderly h = units_keep_order.next bytes mark es now h.facts u h.declared orderly

behind_head : (bytes : List ℕ) (mark : Bool) (es now : List NameEntry) (tokens : List Token) → AreOrderly es → LeavesHead bytes mark es tokens now → AreOrderly now
behind_head bytes mark es now tokens orderly (no_head none) = orderly
behind_head bytes mark es now tokens orderly (refused_head u node rule tree because) = orderly
behind_head bytes mark es now tokens orderly (declared_head u after facts tree declared) = units_keep_order.next bytes mark es now facts u declared orderly

behind_refused : (bytes : List ℕ) (mark : Bool) (es now : List NameEntry) (tokens : List Token) (body : Option ℕ) → AreOrderly es → Leaves bytes mark es tokens body now → AreOrderly now
behind_refused bytes mark es now tokens None orderly h = subst AreOrderly (sym h) orderly
behind_refused bytes mark es now tokens (Some at) orderly h = behind_head bytes mark es now (take at tokens) orderly h

-- units leave orderly names
pub orderly_behind : (bytes : List ℕ) (without : Kinds) (mark : Bool) (es now : List NameEntry) (body : Option ℕ) (tokens : List Token) (x : UnitOutcome) → AreOrderly es → IsOutcome bytes without mark es body tokens x now → AreOrderly now
orderly_behind bytes without mark es now body tokens x orderly (declaring u h none) = behind_accepted bytes mark es now tokens u orderly h
orderly_behind bytes without mark es now body tokens x orderly (refusing cause h) = behind_refused bytes mark es now tokens body orderly h.leaves
orderly_behind bytes without mark es now body tokens x orderly (leaving n f cause h because) = behind_accepted bytes mark es now tokens (s.defines n f) orderly h
orderly_behind bytes without mark es now body tokens x orderly (judging n f h none) = behind_accepted bytes mark es now tokens (s.defines n f) orderly h

pub orderly_answer : (bytes : List ℕ) (mark : Bool) (es now : List NameEntry) (body : Option ℕ) (tokens : List Token) (found : Accepted) → AreOrderly es → IsAnswered bytes mark es tokens body found now → AreOrderly now
orderly_answer bytes mark es now body tokens (answers.Tree unit) orderly h = behind_accepted bytes mark es now tokens _ orderly h
orderly_answer bytes mark es now body tokens (answers.Refused cause) orderly h = behind_refused bytes mark es now tokens body orderly h.leaves

-- ---- trees

-- what the laws of typed trees, of kinds and of bits ask of a function whose body typing accepts
is_accepted : (bytes : List ℕ) (mark : Bool) (es now : List NameEntry) (tokens : List Token) (n : Node) (f : FunctionTree) (x : Fact) (facts : List Fact) → AreOrderly es → Accepts bytes mark es tokens (s.defines n f) now → unit_typed bytes now (s.defines n f) ≡ Good x facts → IsAccepted bytes now n f facts
is_accepted bytes mark es now tokens n f x facts orderly h typed = record {
  names = behind_accepted bytes mark es now tokens (s.defines n f) orderly h;
  spans = spans_of tokens;
  unit = unlaid_unit (s.defines n f);
  laid_out = sym h.tree.laid_out;
  placed = h.tree.is.placed;
  result = x;
  typed = typed;
}

-- the tree of a function that is accepted is typed and kinded and has its bits, where typing accepts its body
pub typed_well : (bytes : List ℕ) (without : Kinds) (mark : Bool) (es now : List NameEntry) (tokens : List Token) (n : Node) (f : FunctionTree) → AreOrderly es → Accepts bytes mark es tokens (s.defines n f) now → IsTypedWell bytes without now (s.defines n f) f
typed_well bytes without mark es now tokens n f orderly h x facts typed =
    let accepted = is_accepted bytes mark es now tokens n f x facts orderly h typed in
    record {
      typed = subst (λ fs. IsTypedTree (typing_of bytes now (function_taken bytes f) fs) without f) (sym (ap facts_in typed)) (accepted_trees_are_typed bytes now n f facts without accepted);
      kinded = subst (λ fs. KindedFunction (setting_of (typing_of bytes now (function_taken bytes f) fs) without f) f) (sym (ap facts_in typed)) (accepted_trees_are_kinded bytes now n f facts without accepted);
      bits = subst (λ fs. EachVisit (VisitHasBits (typing_of bytes now (function_taken bytes f) fs)) (function_visits (typing_of bytes now (function_taken bytes f) fs) f)) (sym (ap facts_in typed)) (accepted_trees_have_bits bytes now n f facts accepted);
    }

pub typed_well_of : (bytes : List ℕ) (without : Kinds) (tokens : List Token) (u : UnitTree) (now : List NameEntry) (f : FunctionTree) → IsDefinition u f → WasAccepted bytes tokens u now → IsTypedWell bytes without now u f
typed_well_of bytes without tokens u now f d h =
    subst (λ v. IsTypedWell bytes without now v f) (sym d.1) (typed_well bytes without h.mark h.before now tokens d.0 f h.orderly (subst (λ v. Accepts bytes h.mark h.before tokens v now) d.1 h.accepts))
