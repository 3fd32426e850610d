-- What parts of expressions cost, beside what the whole may cost.
use Rattle.std.proofs.Common.{◌≡◌, ℕ, zero, suc, ◌+◌, ◌*◌, ◌≤◌, Bool, true, false, Option, Some, None, ℤ, refl, sym, ap, ◌∙◌, subst, arith}
use Rattle.std.specs.Prelude.{if◌then◌else◌, option_map, nat_lt, Result, Ok, Err, OnOk}
use Rattle.std.specs.Int.Count.{ones}
use Rattle.stk_ctype.specs.declared.kind.IntKind.{IntKind}
use Rattle.stk_ctype.specs.declared.kind.IntKind.TheVariants.{ULong}
use Rattle.stk_tree.specs.declared.node.Node.{Node}
use Rattle.stk_tree.specs.Syntax.{ExprTree, ExprFormTree}
use Rattle.stk_tree.specs.Syntax as s
use Rattle.stk_numbers.specs.Kinds.{width_of, is_bool}
use Rattle.stk_meaning.specs.Libraries.{Library, absolute_in, copy_bytes}
use Rattle.stk_meaning.specs.Places.{Setting, Target, target_of, form_target}
use Rattle.stk_values.specs.Charges.{wider, convert_charge, move_charge}
use Rattle.stk_spending.specs.Charges.{seen_charge, replaced_charge, read_charge, store_charge, argument_charge, call_charge}
use Rattle.stk_spending.specs.Expressions.{form_spent, name_spent, spent_value, spent_place, kind_in, kind_at}
use Rattle.stk_walking.specs.Costs.{Costs}
use Rattle.stk_walking.proofs.Costing.{costs_within, width_most}
use Rattle.stk_walk_values.specs.Arguments.{parameter_kind}
use Rattle.stk_walk_values.specs.CallCharges.{checks_charge, returned_charge}

-- ---- sums

pub zero_least : (n : ℕ) → 0 ≤ n
zero_least n = omega arith

pub none_more : (n : ℕ) → n + 0 ≤ n
none_more n = omega arith

pub more_none : (n : ℕ) → n ≤ n + 0
more_none n = omega arith

pub itself : (n : ℕ) → n ≤ n
itself n = omega arith

pub three_regrouped : (a b c : ℕ) → a + (b + c) ≤ a + b + c
three_regrouped a b c = omega arith

pub four_regrouped : (a b c d : ℕ) → a + b + (c + d) ≤ a + b + c + d
four_regrouped a b c d = omega arith

pub five_regrouped : (a b c d e : ℕ) → a + (b + c + d + e) ≤ a + b + c + d + e
five_regrouped a b c d e = omega arith

pub some_more : (n m : ℕ) → n ≤ n + m
some_more n m = omega arith

-- an operator with one condition
pub negated_within : (a t : ℕ) → a + t ≤ a + 1 * t
negated_within a t = omega arith

-- `&&` and `||`, and `?:`
pub joined_regrouped : (a b t w : ℕ) → a + t + (6 + (b + w) + 3 + 96) ≤ a + b + (t + 6 + w + 3 + 96)
joined_regrouped a b t w = omega arith

pub choice_regrouped : (a b c t p q w : ℕ) → a + t + (6 + (b + p) + (c + q) + 3 + w) ≤ a + b + c + (t + 6 + p + q + 3 + w)
choice_regrouped a b c t p q w = omega arith

-- ---- places

pub read_within : (t u : Target) (k j : IntKind) → t ≡ u → k ≡ j → read_charge t k ≤ read_charge u j
read_within t u k j e h = subst (λ (v : Target). read_charge t k ≤ read_charge v j) e (subst (λ (i : IntKind). read_charge t k ≤ read_charge t i) h (itself (read_charge t k)))

pub store_within : (kept : ℕ) (t u : Target) (k j : IntKind) → t ≡ u → k ≡ j → store_charge kept t k ≤ store_charge kept u j
store_within kept t u k j e h = subst (λ (v : Target). store_charge kept t k ≤ store_charge kept v j) e (subst (λ (i : IntKind). store_charge kept t k ≤ store_charge kept t i) h (itself (store_charge kept t k)))

-- a name that has no number is read
pub named_within : (g : Setting) (k : ℕ) (t : Target) (o : Option ℤ) (h : ℤ → ℤ) → None ≡ option_map h o → (name_spent g k t o).place + read_charge t (kind_at g.typing k) ≤ (name_spent g k t o).value
named_within g k t None h e = omega arith
named_within g k t (Some z) h e = absurd cc

-- a place pays as a value for itself and for what is read
pub placed_within : (g : Setting) (e : ExprTree) (n : Node) (f : ExprFormTree) → e ≡ s.expression n f → (form_spent g n.number f).place + read_charge (form_target g n.number f) (kind_at g.typing n.number) ≤ (form_spent g n.number f).value →
    spent_place g e + read_charge (target_of g e) (kind_in g.typing e) ≤ spent_value g e
placed_within g e n f is h = subst (λ (x : ExprTree). spent_place g x + read_charge (target_of g x) (kind_in g.typing x) ≤ spent_value g x) (sym is) h

pub placed_costs : {S T E : Type 0} (cost : S → ℕ) (kept : ℕ) (a b : S) (x y : ℕ) (r : Result T E) (g : Setting) (e : ExprTree) (n : Node) (f : ExprFormTree) → e ≡ s.expression n f →
    (form_spent g n.number f).place + read_charge (form_target g n.number f) (kind_at g.typing n.number) ≤ (form_spent g n.number f).value →
    OnOk r (Costs cost kept (spent_place g e + read_charge (target_of g e) (kind_in g.typing e)) a b x y) → OnOk r (Costs cost kept (spent_value g e) a b x y)
placed_costs cost kept a b x y (Ok v) g e n f is h p = costs_within (spent_value g e) (placed_within g e n f is h) p
placed_costs cost kept a b x y (Err v) g e n f is h p = tt

-- ---- comparisons

seen_mapped : {A B : Type 0} (f : A → B) (r : Option A) → seen_charge (option_map f r) ≡ seen_charge r
seen_mapped f None = refl
seen_mapped f (Some x) = refl

replaced_mapped : {A B : Type 0} (f : A → B) (r : Option A) → replaced_charge (option_map f r) ≡ replaced_charge r
replaced_mapped f None = refl
replaced_mapped f (Some x) = refl

pub seen_found : {A B : Type 0} (f : B → A) (x : Option A) (r : Option B) → x ≡ option_map f r → seen_charge x ≡ seen_charge r
seen_found {A} {B} f x r e = ap (λ (z : Option A). seen_charge z) e ∙ seen_mapped f r

pub replaced_found : {A B : Type 0} (f : B → A) (x : Option A) (r : Option B) → x ≡ option_map f r → replaced_charge x ≡ replaced_charge r
replaced_found {A} {B} f x r e = ap (λ (z : Option A). replaced_charge z) e ∙ replaced_mapped f r

-- ---- members

one_bit : ones 1 ≡ 1
unfolding lib.Count.ones
one_bit = refl

-- an address that is moved by bytes
pub one_move : (n : ℕ) → n ≡ 1 → move_charge n ≤ 1024
one_move n e =
    let bits = ap ones e in
    omega (arith, bits, one_bit)

-- ---- calls

wider_by : (b : Bool) (x y : ℕ) → x ≤ 64 → y ≤ 64 → (if b then y else x) ≤ 64
wider_by true x y h k = k
wider_by false x y h k = h

wider_most : (a b : IntKind) → wider a b ≤ 64
wider_most a b = wider_by (nat_lt (width_of a) (width_of b)) (width_of a) (width_of b) (width_most a) (width_most b)

if_most : (b : Bool) (n m : ℕ) → n ≤ m → (if b then n else 0) ≤ (if b then m else 0)
if_most true n m h = h
if_most false n m h = omega arith

converted_most : (a k : IntKind) → convert_charge a k ≤ (if is_bool k then 256 else 0)
converted_most a k = if_most (is_bool k) (4 * wider a k) 256 (let w = wider_most a k in omega (arith, w))

same_kind : (j k : IntKind) → Some j ≡ Some k → j ≡ k
same_kind j k e = cc

-- an argument in the kind of its parameter
pub parameter_within : (l : Library) (i : ℕ) (a k : IntKind) → parameter_kind l i ≡ Some k → convert_charge a k ≤ argument_charge (Some l)
parameter_within (absolute_in j) zero a k e = subst (λ (h : IntKind). convert_charge a h ≤ argument_charge (Some (absolute_in j))) (same_kind j k e) (converted_most a j)
parameter_within (absolute_in j) (suc i) a k e = absurd cc
parameter_within copy_bytes zero a k e = subst (λ (h : IntKind). convert_charge a h ≤ 0) (same_kind ULong k e) (omega arith)
parameter_within copy_bytes (suc zero) a k e = subst (λ (h : IntKind). convert_charge a h ≤ 0) (same_kind ULong k e) (omega arith)
parameter_within copy_bytes (suc (suc zero)) a k e = subst (λ (h : IntKind). convert_charge a h ≤ 0) (same_kind ULong k e) (omega arith)
parameter_within copy_bytes (suc (suc (suc i))) a k e = absurd cc

-- what is asked of a number that has the kind of its parameter
pub absolute_within : (k a : IntKind) → Some k ≡ Some a → 10 * width_of a + 3 ≤ 10 * width_of k + 3
absolute_within k a e = subst (λ (h : IntKind). 10 * width_of h + 3 ≤ 10 * width_of k + 3) (same_kind k a e) (itself (10 * width_of k + 3))

-- a call that returns, and one that doesn't
pub called_within : (kept : ℕ) (l : Option Library) → checks_charge l + returned_charge kept l ≤ call_charge kept l
called_within kept None = omega arith
called_within kept (Some (absolute_in k)) = omega arith
called_within kept (Some copy_bytes) = omega arith

pub checked_within : (kept : ℕ) (l : Option Library) → checks_charge l + 0 ≤ call_charge kept l
checked_within kept None = omega arith
checked_within kept (Some (absolute_in k)) = omega arith
checked_within kept (Some copy_bytes) = omega arith
