-- What a comparison sees with its replacement.
use Rattle.std.proofs.Common.{◌≡◌, ℕ, Bool, true, false, ℤ, Option, Some, None, refl, sym, ap, ◌∙◌, subst}
use Rattle.std.specs.Prelude.{if◌then◌else◌, option_map}
use Rattle.stk_ctype.specs.declared.kind.IntKind.{IntKind}
use Rattle.stk_ctype.specs.declared.kind.IntKind.TheVariants.{Int}
use Rattle.stk_ctype.specs.Types.{TypeTree}
use Rattle.stk_numbers.specs.declared.operators.CompareOp.{CompareOp}
use Rattle.stk_numbers.specs.Kinds.{wrap}
use Rattle.stk_numbers.specs.Values.{compared}
use Rattle.stk_type_rules.specs.Types.{kind_of}
use Rattle.stk_meaning.specs.Typings.{Typing}
use Rattle.stk_meaning.specs.Operations.{truth, bit, operated, operation_of, comparing, comparison_kind}
use Rattle.stk_meaning.specs.Replacements.{Replaced, replaced_truth}
use Rattle.stk_meaning.specs.Expressions as runs
use Rattle.stk_meaning.specs.Expressions.{replaced_by, kept_number}
use Rattle.stk_eval_expr.specs.declared.asked.Replacement.{Replacement}
use Rattle.stk_eval_expr.specs.Shown.{replacement_shown}
use Rattle.stk_walking.specs.declared.operations.Operand.{Operand}
use Rattle.stk_walking.specs.Events.{seen_events}
use Rattle.stk_walking.specs.Stands.{MaybeShows}
use Rattle.stk_walk_values.specs.declared.sides.Sides.{Sides}
use Rattle.stk_walk_values.specs.Sided.{SidesShow}

pub truth_bit : (b : Bool) → truth (bit b) ≡ b
truth_bit true = refl
truth_bit false = refl

-- the operand that is kept
abbrev kept_of : {V : Type 0} → Replacement → Sides V → Sides V → Operand V
kept_of r x y = if r.sum_first then (if r.is_right then x.right else x.left) else (if r.is_right then y.right else y.left)

pub kept_made : {V : Type 0} (made : IntKind → V → Type 0) (r : Replacement) (x y : Sides V) (o : Operand V) → o ≡ kept_of r x y →
    made x.left.kind x.left.value → made x.right.kind x.right.value → made y.left.kind y.left.value → made y.right.kind y.right.value → made o.kind o.value
kept_made {V} made r x y o is a b c d = subst (λ (z : Operand V). made z.kind z.value) (sym is) (by r.sum_first r.is_right)
  where
    by : (first right : Bool) → made (if first then (if right then x.right else x.left) else (if right then y.right else y.left)).kind (if first then (if right then x.right else x.left) else (if right then y.right else y.left)).value
    by true true = b
    by true false = a
    by false true = d
    by false false = c

kept_shown : {V : Type 0} (shows : IntKind → V → ℤ → Type 0) (first right : Bool) (k j : IntKind) (x y : Sides V) (p q : runs.Sides) → SidesShow shows k x p → SidesShow shows j y q →
    shows (if first then (if right then x.right else x.left) else (if right then y.right else y.left)).kind (if first then (if right then x.right else x.left) else (if right then y.right else y.left)).value
    (if first then (if right then p.right else p.left) else (if right then q.right else q.left))
kept_shown shows true true k j x y p q a b = a.right
kept_shown shows true false k j x y p q a b = a.left
kept_shown shows false true k j x y p q a b = b.right
kept_shown shows false false k j x y p q a b = b.left

pub replaced_none : {V : Type 0} (shows : IntKind → V → ℤ → Type 0) (ty : Typing) (op : CompareOp) (r : Option Replaced) (p q : runs.Sides) → None ≡ option_map (λ f. replacement_shown ty f) r → MaybeShows {V = V} (shows Int) None (replaced_by ty op r p q)
replaced_none shows ty op None p q is = tt
replaced_none shows ty op (Some f) p q is = absurd cc

pub replaced_some : {V : Type 0} (before now : IntKind → V → ℤ → Type 0) (ty : Typing) (op : CompareOp) (r : Option Replaced) (k j : IntKind) (p q : runs.Sides) (found : Replacement) (x y : Sides V) (o : Operand V) (v : V) →
    Some found ≡ option_map (λ f. replacement_shown ty f) r → o ≡ kept_of found x y → SidesShow before k x p → SidesShow before j y q →
    ((z : ℤ) → before o.kind o.value z → now Int v (bit (replaced_truth found.zero_first op found.kind z))) → MaybeShows (now Int) (Some v) (replaced_by ty op r p q)
replaced_some before now ty op None k j p q found x y o v is same a b test = absurd cc
replaced_some {V} before now ty op (Some f) k j p q found x y o v is same a b test =
    let r = replacement_shown ty f in
    let found_is : found ≡ r = out is in
    let kept = subst (λ (z : Operand V). before z.kind z.value (kept_number f p q)) (sym (same ∙ ap (λ z. kept_of z x y) found_is)) (kept_shown before f.sum_first f.is_right k j x y p q a b) in
    subst (λ (z : Replacement). now Int v (bit (replaced_truth z.zero_first op z.kind (kept_number f p q)))) found_is (test (kept_number f p q) kept)
  where
    out : {A : Type 0} {x y : A} → Some x ≡ Some y → x ≡ y
    out h = cc

-- a replacement that there is has a third step
pub seen_replaced : (ty : Typing) (n : ℕ) (r : Option Replaced) → seen_events n (option_map (λ f. replacement_shown ty f) r) ≡ seen_events n r
seen_replaced ty n None = refl
seen_replaced ty n (Some f) = refl

-- a comparison is 1 or 0
pub compared_truth : (ty : Typing) (op : CompareOp) (t u : TypeTree) (x y : ℤ) → bit (truth (operated (operation_of ty (comparing op) t u) x y)) ≡ operated (operation_of ty (comparing op) t u) x y
compared_truth ty op t u x y = ap bit (truth_bit (compared op (wrap (comparison_kind (kind_of t) (kind_of u)) x) (wrap (comparison_kind (kind_of t) (kind_of u)) y)))
