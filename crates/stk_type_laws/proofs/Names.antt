-- What a name that fits means, among the locals in force and the names of file scope.
use Rattle.std.proofs.Common.{◌≡◌, ℕ, ◌⊎◌, Bool, true, false, ◌||◌, List, [], ◌∷◌, ◌++◌, Option, Some, None, refl, sym, ap, ◌∙◌, subst, inl, inr}
use Rattle.std.specs.Prelude.{IfSome, if◌then◌else◌, ℤ}
use Rattle.stk_base.specs.declared.span.Span.{Span}
use Rattle.stk_base.specs.Text.{text_of, same_text}
use Rattle.stk_ctype.specs.declared.ctype.CType.{CType}
use Rattle.stk_ctype.specs.declared.kind.IntKind.TheVariants as kind
use Rattle.stk_ctype.specs.declared.symbol.Symbol.{Symbol}
use Rattle.stk_ctype.specs.declared.symbol.Symbol.TheVariants as symbol
use Rattle.stk_ctype.specs.declared.symbol.NameEntry.{NameEntry}
use Rattle.stk_ctype.specs.Types.{TypeTree, integer_type, type_of}
use Rattle.stk_ctype.specs.Structs.{member_of, structs_of}
use Rattle.stk_ctype.specs.Names.{later_of, find}
use Rattle.stk_tree.specs.Syntax.{DeclrTree}
use Rattle.stk_tree.specs.Syntax as s
use Rattle.stk_type_rules.specs.Facts.{Fact, fact_at, Fits, place, named, literal}
use Rattle.stk_type_rules.specs.Types.{is_scalar, is_struct}
use Rattle.stk_typing.specs.Locals.{Local, local_named, find_local}
use Rattle.stk_typing.specs.Scope.{Scope, is_one, named_as, name_rule}
use Rattle.stk_meaning.specs.Typings.{Typing, typing_of}
use Rattle.stk_meaning.specs.Visits.{Role, at_expression, Visits}
use Rattle.stk_run_laws.specs.TypedTree.{HasTypeOf, IsReadWhole}
use Rattle.stk_type_laws.proofs.Layouts.{Lies}
use Rattle.stk_type_laws.specs.Orderly.{is_object_type}
use Rattle.stk_type_laws.proofs.Rulings.{passed, not_broken, same_fact}
use Rattle.stk_type_laws.proofs.Raw.{Occurs, Ground, Origin, Means, means_local, means_outside, RawPlaceForm, RawName, Suits, read_whole}

-- ---- what a function is typed in

-- the input, the names of file scope, the declarators whose names are operands of `&`, the facts of all nodes, the
-- parameters, all that is visited; each member lies within its struct, and each object of file scope has a type that an
-- object has
pub record World : Type 0 where
  pub bytes : List ℕ
  pub entries : List NameEntry
  pub taken : List ℕ
  pub facts : List Fact
  pub params : List DeclrTree
  pub whole : Visits
  pub members : (t : TypeTree) (name : List ℕ) (found : ℕ × CType) → member_of (structs_of entries) t name ≡ Some found → Lies (structs_of entries) t found
  pub objects : (name : List ℕ) (t : CType) → find name entries ≡ Some (symbol.Object t) → is_object_type (type_of t) ≡ true

abbrev pub typing : World → Typing
typing w = typing_of w.bytes w.entries w.taken w.facts

abbrev pub ground_of : World → Ground
ground_of w = record { ty = typing w; entries = w.entries; params = w.params; whole = w.whole }

-- the names in force with these locals
abbrev pub in_force : World → List Local → Option ℕ → Scope
in_force w ls own = record { bytes = w.bytes; entries = w.entries; locals = ls; own = own }

-- ---- locals

-- a local has a declarator with its type, which an object has
pub record IsDeclared (w : World) (l : Local) : Type 0 where
  pub type : HasTypeOf l.ty ((typing w).type_at l.node)
  pub object : is_object_type l.ty ≡ true
  pub origin : Origin (ground_of w) l.node

abbrev pub AreDeclared : World → List Local → Type 0
AreDeclared w [] = Unit {0}
AreDeclared w (l ∷ ls) = IsDeclared w l × AreDeclared w ls

pub declared_append : (w : World) (a b : List Local) → AreDeclared w a → AreDeclared w b → AreDeclared w (a ++ b)
declared_append w [] b p q = q
declared_append w (l ∷ a) b p q = (p.0, declared_append w a b p.1 q)

either_declared : (w : World) (a b : Option Local) → IfSome a (IsDeclared w) → IfSome b (IsDeclared w) → IfSome (later_of a b) (IsDeclared w)
either_declared w a None p q = p
either_declared w a (Some x) p q = q

one_declared : (w : World) (l : Local) (b : Bool) → IsDeclared w l → IfSome (if b then Some l else None) (IsDeclared w)
one_declared w l true h = h
one_declared w l false h = tt

all_declared : (w : World) (name : List ℕ) (ls : List Local) → AreDeclared w ls → IfSome (find_local name ls) (IsDeclared w)
all_declared w name [] h = tt
all_declared w name (l ∷ ls) h = either_declared w (local_named name l) (find_local name ls) (one_declared w l (same_text l.name name) h.0) (all_declared w name ls h.1)

-- the local that a name means is declared
found_declared : (w : World) (name : List ℕ) (ls : List Local) (l : Local) → AreDeclared w ls → find_local name ls ≡ Some l → IsDeclared w l
found_declared w name ls l h e = subst (λ o. IfSome o (IsDeclared w)) e (all_declared w name ls h)

-- ---- the rule of a name

data NameFits (w : World) (ls : List Local) (name : List ℕ) (x : Fact) : Type 0 where
  fits_local : (l : Local) → find_local name ls ≡ Some l → x ≡ named l.ty l.node → NameFits w ls name x
  fits_outside : (t : CType) → find name w.entries ≡ Some (symbol.Object t) → x ≡ place (type_of t) → NameFits w ls name x
  fits_number : (v : ℤ) → x ≡ literal (integer_type kind.Int) v → NameFits w ls name x

name_fits_as : (w : World) (ls : List Local) (own : Option ℕ) (name : List ℕ) (x : Fact) (o : Option Local) (q : Option Symbol) → find_local name ls ≡ o → find name w.entries ≡ q → named_as own o q ≡ Fits x → NameFits w ls name x
name_fits_as w ls own name x (Some l) q p r e = fits_local l p (sym (same_fact (named l.ty l.node) x (passed (is_one own l.node) (Fits (named l.ty l.node)) 1 x e).rule))
name_fits_as w ls own name x None None p r e = absurd (not_broken 1 x e)
name_fits_as w ls own name x None (Some (symbol.TypeDef t)) p r e = absurd (not_broken 1 x e)
name_fits_as w ls own name x None (Some (symbol.Object t)) p r e = fits_outside t r (sym (same_fact (place (type_of t)) x e))
name_fits_as w ls own name x None (Some (symbol.Function f)) p r e = absurd (not_broken 8 x e)
name_fits_as w ls own name x None (Some (symbol.Enumerator v)) p r e = fits_number v (sym (same_fact (literal (integer_type kind.Int) v) x e))

name_fits : (w : World) (ls : List Local) (own : Option ℕ) (name : List ℕ) (x : Fact) → name_rule (in_force w ls own) name ≡ Fits x → NameFits w ls name x
name_fits w ls own name x e = name_fits_as w ls own name x (find_local name ls) (find name w.entries) refl refl e

-- ---- a name's node

-- a fact of a place that is stored to, or of a struct
abbrev pub IsPlace : Fact → Type 0
IsPlace x = ((x.lvalue ≡ true) × (is_scalar x.ty ≡ true)) ⊎ (is_struct x.ty ≡ true)

pub either_part : (a b : Bool) → (a ≡ true) ⊎ (b ≡ true) → (a || b) ≡ true
either_part true b h = refl
either_part false b (inl p) = absurd cc
either_part false b (inr q) = q

pub place_part : (x : Fact) → IsPlace x → (is_scalar x.ty || is_struct x.ty) ≡ true
place_part x (inl p) = either_part (is_scalar x.ty) (is_struct x.ty) (inl p.1)
place_part x (inr q) = either_part (is_scalar x.ty) (is_struct x.ty) (inr q)

-- what is known of a name's node
pub record NameKnown (w : World) (k : ℕ) (role : Role) (at : Span) (x : Fact) : Type 0 where
  pub own : Suits role.use_of x.ty → RawName (ground_of w) k role at ((typing w).number_at k)
  pub place : IsPlace x → RawPlaceForm (ground_of w) k (s.name at)

no_number : (v : ℤ) (x : Fact) → x ≡ literal (integer_type kind.Int) v → IsPlace x → ⊥
no_number v x is (inl p) = let q : false ≡ true = sym (ap (λ (z : Fact). z.lvalue) is) ∙ p.0 in absurd cc
no_number v x is (inr p) = let q : false ≡ true = sym (ap (λ (z : Fact). is_struct z.ty) is) ∙ p in absurd cc

meant : (w : World) (k : ℕ) (role : Role) (at : Span) (x : Fact) → fact_at w.facts k ≡ x → x.number ≡ None → is_object_type x.ty ≡ true → Means (ground_of w) k at → NameKnown w k role at x
meant w k role at x here number object m =
    let type : (typing w).type_at k ≡ x.ty = ap (λ (z : Fact). z.ty) here in
    let none : (typing w).number_at k ≡ None = ap (λ (z : Fact). z.number) here ∙ number in
    record {
      own = λ suits. subst (λ n. RawName (ground_of w) k role at n) (sym none) (m, subst (λ t. IsReadWhole t role.use_of) (sym type) (read_whole role.use_of x.ty object suits));
      place = λ p. (subst (λ t. (is_scalar t || is_struct t) ≡ true) (sym type) (place_part x p), m);
    }

pub name_known : (w : World) (ls : List Local) (own : Option ℕ) (k : ℕ) (role : Role) (at : Span) (x : Fact) → AreDeclared w ls → name_rule (in_force w ls own) (text_of w.bytes at) ≡ Fits x → fact_at w.facts k ≡ x
    → Occurs (at_expression k role (s.name at)) w.whole → NameKnown w k role at x
name_known w ls own k role at x declared rule here occurs = by (name_fits w ls own (text_of w.bytes at) x rule)
  where
    by : NameFits w ls (text_of w.bytes at) x → NameKnown w k role at x
    by (fits_local l found is) =
        let d = found_declared w (text_of w.bytes at) ls l declared found in
        let same : fact_at w.facts k ≡ named l.ty l.node = here ∙ is in
        let type : (typing w).type_at k ≡ l.ty = ap (λ (z : Fact). z.ty) same in
        meant w k role at x here (ap (λ (z : Fact). z.number) is) (subst (λ (z : Fact). is_object_type z.ty ≡ true) (sym is) d.object)
        (means_local l.node (ap (λ (z : Fact). z.means) same) (subst (λ t. HasTypeOf t ((typing w).type_at l.node)) (sym type) d.type) d.origin)
    by (fits_outside t found is) =
        let same : fact_at w.facts k ≡ place (type_of t) = here ∙ is in
        meant w k role at x here (ap (λ (z : Fact). z.number) is) (subst (λ (z : Fact). is_object_type z.ty ≡ true) (sym is) (w.objects (text_of w.bytes at) t found))
        (means_outside t role (ap (λ (z : Fact). z.means) same) (ap (λ (z : Fact). z.number) same) (ap (λ (z : Fact). z.ty) same) found occurs)
    by (fits_number v is) = record {
      own = λ suits. subst (λ n. RawName (ground_of w) k role at n) (sym (ap (λ (z : Fact). z.number) (here ∙ is))) tt;
      place = λ p. absurd (no_number v x is p);
    }
