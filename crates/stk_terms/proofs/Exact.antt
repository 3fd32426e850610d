-- The derived tests on operators and nodes tell equality.
use Rattle.std.proofs.Common.{◌≡◌, ℕ, Bool, true, false, ◌&&◌, List, [], ◌∷◌, refl, sym, ap, subst, true≢false, nat_eq}
use Rattle.std.specs.Cmp.Lexicographic.{pointwise}
use Rattle.std.proofs.lemmas.Bool.{eqb-true}
use mathlib.Core.Logic.{inl, inr}
use denote.Struct.Field.{Field}
use denote.Struct.Values.{Values}
use denote.Enum.Declared.{Choice, values_one}
use denote.Enum.Compared.{Each, by}
use Rattle.stk_terms.specs.declared.term.TermOp.{TermOp}
use Rattle.stk_terms.specs.declared.term.TermId.{TermId}
use Rattle.stk_terms.specs.declared.term.TermNode.{TermNode}
use Rattle.stk_terms.specs.contracts.term.TermOp as ops
use Rattle.stk_terms.specs.contracts.term.TermOpPartialEq.TheImpl as op_eq
use Rattle.stk_terms.specs.contracts.term.TermIdPartialEq.TheImpl as id_eq
use Rattle.stk_terms.specs.contracts.term.TermNodePartialEq.TheImpl as node_eq
use Rattle.stk_terms.specs.contracts.term.TermNodeEq.TheImpl.Laws as node_laws
use Rattle.stk_terms.specs.Terms.{Term, term_of}
use Rattle.stk_terms.specs.Keys.{said}

-- at each variant the test tells equality
abbrev Exacts : (Fss : List (List Field)) → Each Bool Fss → Type 0
Exacts [] each = Unit
Exacts (Fs ∷ Fss) each = ((x y : Values Fs) → each.0 x y ≡ true → x ≡ y) × Exacts Fss each.1

choices_exact : (Fss : List (List Field)) (each : Each Bool Fss) → Exacts Fss each → (c d : Choice Fss) → by false false Fss each c d ≡ true → c ≡ d
choices_exact [] each all c d h = absurd c
choices_exact (Fs ∷ Fss) each all (inl x) (inl y) h = ap inl (all.0 x y h)
choices_exact (Fs ∷ Fss) each all (inl x) (inr y) h = absurd (true≢false (sym h))
choices_exact (Fs ∷ Fss) each all (inr x) (inl y) h = absurd (true≢false (sym h))
choices_exact (Fs ∷ Fss) each all (inr x) (inr y) h = ap inr (choices_exact Fss each.1 all.1 x y h)

left_true : (a b : Bool) → (a && b) ≡ true → a ≡ true
left_true true b h = refl
left_true false b h = h

right_true : (a b : Bool) → (a && b) ≡ true → b ≡ true
right_true true b h = h
right_true false b h = absurd (true≢false (sym h))

bare : (x y : Unit {0}) → true ≡ true → x ≡ y
bare x y h = refl

one : (x y : ℕ × Unit {0}) → nat_eq x.0 y.0 ≡ true → x ≡ y
one x y h = ap (λ n. (n, tt)) (eqb-true x.0 y.0 h)

two : (x y : ℕ × (ℕ × Unit {0})) → (nat_eq x.0 y.0 && nat_eq x.1.0 y.1.0) ≡ true → x ≡ y
two x y h = λ i. (eqb-true x.0 y.0 (left_true _ _ h) i, (eqb-true x.1.0 y.1.0 (right_true _ _ h) i, tt))

pub op_exact : (a b : TermOp) → op_eq.ghosts.eq a b ≡ true → a ≡ b
op_exact a b h = values_one ops.enum a b (choices_exact ops.the_parts _ (two, (one, (bare, (bare, (bare, (bare, (bare, (bare, (bare, (bare, (bare, (bare, (bare, (bare, (bare, (bare, (bare, (bare, (two, (one, (one, (bare, (bare, tt))))))))))))))))))))))) (ops.as_values a) (ops.as_values b) h)

ids_exact : (xs ys : List TermId) → pointwise id_eq.ghosts.eq xs ys ≡ true → xs ≡ ys
ids_exact [] [] h = refl
ids_exact [] (y ∷ ys) h = absurd (true≢false (sym h))
ids_exact (x ∷ xs) [] h = absurd (true≢false (sym h))
ids_exact (x ∷ xs) (y ∷ ys) h = λ i. record { 0 = eqb-true x.0 y.0 (left_true _ _ h) i } ∷ ids_exact xs ys (right_true (id_eq.ghosts.eq x y) _ h) i

pub node_exact : (a b : TermNode) → node_eq.ghosts.eq a b ≡ true → said a ≡ said b
node_exact a b h =
    let ops = op_exact a.op b.op (left_true _ _ h) in
    let rest = right_true (op_eq.ghosts.eq a.op b.op) _ h in
    let args = ids_exact a.args.items b.args.items (left_true _ _ rest) in
    let widths = eqb-true a.width b.width (right_true (pointwise id_eq.ghosts.eq a.args.items b.args.items) _ rest) in
    λ i. (term_of (ops i) (args i), widths i)

tested : Term × ℕ → Term × ℕ → Bool
tested a b = op_eq.ghosts.eq a.0.op b.0.op && (pointwise id_eq.ghosts.eq a.0.args b.0.args && nat_eq a.1 b.1)

pub node_same : (a b : TermNode) → said a ≡ said b → node_eq.ghosts.eq a b ≡ true
unfolding tested
node_same a b e = subst (λ n. tested (said a) n ≡ true) e (node_laws.lawful.laws.refl a)
