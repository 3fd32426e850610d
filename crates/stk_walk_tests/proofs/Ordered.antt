-- Units leave orderly names.
use Rattle.std.proofs.Common.{◌≡◌, ℕ, Bool, List, take, Option, Some, None, sym, subst}
use Rattle.stk_lex.specs.declared.token.Token.{Token}
use Rattle.stk_ctype.specs.declared.symbol.NameEntry.{NameEntry}
use Rattle.stk_tree.specs.View.{view_unit}
use Rattle.stk_type_laws.specs.Orderly.{AreOrderly}
use Rattle.stk_type_laws.proofs.Kept.{units_keep_order}
use Rattle.stk_accept.specs.declared.accepting.Accepted.{Accepted}
use Rattle.stk_accept.specs.declared.accepting.Accepted.TheVariants as answers
use Rattle.stk_accept.specs.Accepting.{IsAnswered, Leaves, LeavesHead, no_head, refused_head, declared_head}

behind_head : (bytes : List ℕ) (mark : Bool) (es now : List NameEntry) (tokens : List Token) → AreOrderly es → LeavesHead bytes mark es tokens now → AreOrderly now
behind_head bytes mark es now tokens orderly (no_head none) = orderly
behind_head bytes mark es now tokens orderly (refused_head u node rule tree because) = orderly
behind_head bytes mark es now tokens orderly (declared_head u after facts tree declared) = units_keep_order.next bytes mark es now facts u declared orderly

behind_refused : (bytes : List ℕ) (mark : Bool) (es now : List NameEntry) (tokens : List Token) (body : Option ℕ) → AreOrderly es → Leaves bytes mark es tokens body now → AreOrderly now
behind_refused bytes mark es now tokens None orderly h = subst AreOrderly (sym h) orderly
behind_refused bytes mark es now tokens (Some at) orderly h = behind_head bytes mark es now (take at tokens) orderly h

-- the names behind a unit that is accepted or isn't
pub left_orderly : (bytes : List ℕ) (mark : Bool) (es now : List NameEntry) (tokens : List Token) (body : Option ℕ) (found : Accepted) → AreOrderly es → IsAnswered bytes mark es tokens body found now → AreOrderly now
left_orderly bytes mark es now tokens body (answers.Tree unit) orderly h = units_keep_order.next bytes mark es now h.facts (view_unit unit) h.declared orderly
left_orderly bytes mark es now tokens body (answers.Refused cause) orderly h = behind_refused bytes mark es now tokens body orderly h.leaves
