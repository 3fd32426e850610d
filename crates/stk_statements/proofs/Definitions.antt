-- How the answers of a function definition's parts make its own.
use Rattle.std.proofs.Common.{ℕ, ◌≡◌, ◌∙◌, false, List, [], Option, None, Result, Ok, map, ap, subst}
use Rattle.stk_ctype.specs.declared.ctype.CType.{CType}
use Rattle.stk_ctype.specs.declared.symbol.NameEntry.{NameEntry}
use Rattle.stk_ctype.specs.Types.{TypeTree, type_of}
use Rattle.stk_tree.specs.declared.declaration.Storage.{Storage}
use Rattle.stk_tree.specs.Syntax.{BaseTree, DeclrTree, StmtTree}
use Rattle.stk_tree.specs.Syntax as s
use Rattle.stk_type_rules.specs.declared.untyped.Untyped.{Untyped}
use Rattle.stk_type_rules.specs.Facts.{Fact}
use Rattle.stk_type_rules.specs.Outcome.{Outcome, Good, Refused, and_then, finish, IsAt, Gives}
use Rattle.stk_type_rules.proofs.Steps.{goes}
use Rattle.stk_typing.specs.declared.locals.LocalName.{LocalName}
use Rattle.stk_typing.specs.Locals.{Local, local_of}
use Rattle.stk_declarators.specs.Rows.{scope_with}
use Rattle.stk_typing.specs.Typing.{base_typed}
use Rattle.stk_function_types.specs.Bodies.{Body}
use Rattle.stk_function_types.specs.Functions.{body_of, body_typed, function_typed, head_typed, outside, storage_rule}
use Rattle.stk_statements.specs.Rows.{AnyFact, IsHeaded}

-- whatever is known of a node that has its fact
pub any_ok : (o : Outcome Fact) (i : ℕ) (v : Unit {0}) (a b : List Fact) → Gives (IsAt b) o (Ok i) a b → Gives AnyFact o (Ok v) a b
any_ok (Good x t) i v a b h = (h.0, tt)
any_ok (Refused n r) i v a b h = h

-- a type that names one
abbrev pub Named : Fact → CType → Type 0
Named y t = type_of t ≡ y.ty

-- where the body of a function stands
abbrev pub body_with : List ℕ → List NameEntry → List ℕ → List Local → TypeTree → Body
body_with bytes entries taken ls t = record { scope = record { bytes = bytes; entries = entries; locals = ls; own = None }; taken = taken; outer = 0; returns = t; can_break = false; can_continue = false }

pub function_gives : (bytes : List ℕ) (entries : List NameEntry) (taken : List ℕ) (n : ℕ) (word : Option Storage) (b : BaseTree) (d : DeclrTree) (x : StmtTree) (t r : CType) (now : List Local) (v : Unit {0}) (result : Result (Unit {0}) Untyped) (a m p q c : List Fact) →
    Gives Named (base_typed (outside bytes entries) b) (Ok t) a m → Gives (IsHeaded [] now) (head_typed (outside bytes entries) (type_of t) d) (Ok r) m p →
    Gives AnyFact (body_typed (body_with bytes entries taken now (type_of r)) x) (Ok v) p q → Gives AnyFact (finish n (storage_rule word)) result q c →
    Gives AnyFact (function_typed bytes entries taken n (s.function word b d x)) result a c
function_gives bytes entries taken n word b d x t r now v result a m p q c named headed body own =
    let scope = outside bytes entries in
    goes Named AnyFact (base_typed scope b) (λ y. and_then (head_typed scope y.ty d) (λ h. and_then (body_typed (body_of scope taken h) x) (λ u. finish n (storage_rule word)))) t result a m c named
    (λ y is. goes (IsHeaded [] now) AnyFact (head_typed scope y.ty d) (λ h. and_then (body_typed (body_of scope taken h) x) (λ u. finish n (storage_rule word))) r result m p c
    (subst (λ (z : TypeTree). Gives (IsHeaded [] now) (head_typed scope z d) (Ok r) m p) is headed)
    (λ h ish. let same : body_with bytes entries taken now (type_of r) ≡ body_of scope taken h = ap (λ (z : List Local). body_with bytes entries taken z (type_of r)) ish.locals ∙ ap (λ (z : TypeTree). body_with bytes entries taken h.locals z) ish.returns in
    goes AnyFact AnyFact (body_typed (body_of scope taken h) x) (λ u. finish n (storage_rule word)) v result p q c
    (subst (λ (z : Body). Gives AnyFact (body_typed z x) (Ok v) p q) same body) (λ u any. own)))

-- the same, where no local is in force at first in other words
pub function_answers : (bytes : List ℕ) (entries : List NameEntry) (taken : List ℕ) (n : ℕ) (word : Option Storage) (b : BaseTree) (d : DeclrTree) (x : StmtTree) (ls : List LocalName) (t r : CType) (now : List Local) (v : Unit {0}) (result : Result (Unit {0}) Untyped) (a m p q c : List Fact) → ls ≡ [] →
    Gives Named (base_typed (scope_with bytes entries ls) b) (Ok t) a m → Gives (IsHeaded (map local_of ls) now) (head_typed (scope_with bytes entries ls) (type_of t) d) (Ok r) m p →
    Gives AnyFact (body_typed (body_with bytes entries taken now (type_of r)) x) (Ok v) p q → Gives AnyFact (finish n (storage_rule word)) result q c →
    Gives AnyFact (function_typed bytes entries taken n (s.function word b d x)) result a c
function_answers bytes entries taken n word b d x ls t r now v result a m p q c none named headed body own =
    function_gives bytes entries taken n word b d x t r now v result a m p q c
    (subst (λ (z : List LocalName). Gives Named (base_typed (scope_with bytes entries z) b) (Ok t) a m) none named)
    (subst (λ (z : List LocalName). Gives (IsHeaded (map local_of z) now) (head_typed (scope_with bytes entries z) (type_of t) d) (Ok r) m p) none headed) body own
