-- What is stored, and what an assignment gives.
use Rattle.std.proofs.Common.{◌≡◌, Bool, true, false, List, ℤ, pos, refl, sym, subst, Option, Some, None, ℕ}
use Rattle.std.specs.Prelude.{if◌then◌else◌}
use Rattle.stk_ctype.specs.declared.kind.IntKind.{IntKind}
use Rattle.stk_ctype.specs.declared.kind.IntKind.TheVariants.{Int}
use Rattle.stk_ctype.specs.Types.{TypeTree, integer_type}
use Rattle.stk_tree.specs.declared.expression.StepOp.{StepOp}
use Rattle.stk_numbers.specs.declared.operators.ArithOp.{ArithOp}
use Rattle.stk_type_rules.specs.Types.{kind_of}
use Rattle.stk_tree.specs.Syntax.{ExprTree, ExprFormTree}
use Rattle.stk_tree.specs.Syntax as s
use Rattle.stk_tree.specs.Parts.{bare}
use Rattle.stk_meaning.specs.Typings.{Typing, number_kind, stride_in, type_in, converted, node_of}
use Rattle.stk_meaning.specs.Operations.{Operator, arithmetic, shifting, comparing, arithmetic_of, operation_of, step_operator, step_operation, Operation, operated, gives_old}
use Rattle.stk_meaning.specs.Places.{Setting, Target, target_of}
use Rattle.stk_meaning.specs.Worlds.{Ran, after}
use Rattle.stk_meaning.specs.Paths.{KeptNumbers, InputMap, path_world}
use Rattle.stk_meaning.specs.Expressions.{breaks, number_in, stored_at}
use Rattle.stk_eval_expr.specs.Parts.{step_end, compound_end}
use Rattle.stk_guarded.specs.Standing.{Standing}
use Rattle.stk_walking.specs.declared.state.WalkState.{WalkState}
use Rattle.stk_walking.specs.Stands.{Stands}
use Rattle.stk_walking.specs.Leads.{Leads, Evaluates}
use Rattle.stk_kinded.specs.Kinds.{Suits}
use Rattle.stk_walking.specs.Operands.{IsShiftOf}
use Rattle.stk_walking.proofs.Leading.{leads_then}

-- the same part, of whose number something else is shown
pub leads_as : {V A : Type 0} (shows : IntKind → V → ℤ → Type 0) (g : Setting) (fa ha : A → Type 0) (R : Ran A KeptNumbers) (s : Standing) (w : WalkState V) → ((x : A) → fa x → ha x) → Leads shows g fa R s w → Leads shows g ha R s w
leads_as shows g fa ha R s w h a = record { number = a.number; standing = a.standing; value = h a.number a.value; stands = a.stands; goes = a.goes }

-- one of two values, with its number
pub given_shown : {V : Type 0} (f : V → ℤ → Type 0) (b : Bool) (v w : V) (x y : ℤ) → f v x → f w y → f (if b then v else w) (if b then x else y)
given_shown f true v w x y a c = a
given_shown f false v w x y a c = c

-- one of two values that were made
pub given_made : {V : Type 0} (f : V → Type 0) (b : Bool) (v w : V) → f v → f w → f (if b then v else w)
given_made f true v w a c = a
given_made f false v w a c = c

-- only a shift asks for the kind of its left operand, which is that of the operand's type
arithmetic_shifts : (k : IntKind) (op : ArithOp) (a b : Option IntKind) (l r : ℕ) → IsShiftOf k (arithmetic_of op a b l r)
arithmetic_shifts k op (Some a) (Some b) l r = tt
arithmetic_shifts k op (Some a) None l r = tt
arithmetic_shifts k op None (Some b) l r = tt
arithmetic_shifts k op None None l r = tt

pub operation_shifts : (ty : Typing) (op : Operator) (t u : TypeTree) → IsShiftOf (number_kind t) (operation_of ty op t u)
operation_shifts ty (arithmetic op) t u = arithmetic_shifts (number_kind t) op (kind_of t) (kind_of u) (stride_in ty t) (stride_in ty u)
operation_shifts ty (shifting op) t u = refl
operation_shifts ty (comparing op) t u = tt

pub step_shifts : (ty : Typing) (op : StepOp) (t : TypeTree) → IsShiftOf (number_kind t) (step_operation ty op t)
step_shifts ty op t = operation_shifts ty (step_operator op) t (integer_type Int)

-- ---- at one input map: a is where the number of the place is read, b where it is stored

-- a compound assignment
pub compound_leads : {V : Type 0} (f1 f2 : IntKind → V → ℤ → Type 0) (g : Setting) (inputs : InputMap) (k : ℕ) (f : ExprFormTree) (o : Operation) (left : ExprTree) (y : ℤ) (place : ℕ) (s0 : Standing) (w1 w2 : WalkState V) (shown1 shown2 : ℤ → Type 0) →
    (a : Leads f1 g shown1 (number_in (path_world inputs) (target_of g left) (node_of (bare left)) (number_kind (type_in g.typing left)) place s0.numbers s0.kept) s0 w1) →
    ((z : ℤ) → Leads f2 g (λ n. n ≡ z) (after (breaks g k true f a.number y (pos 0)) (stored_at (path_world inputs) (target_of g left) (number_kind (type_in g.typing left)) place (converted (type_in g.typing left) (operated o a.number y)) z a.standing.numbers a.standing.kept)) a.standing w2) →
    shown2 (converted (type_in g.typing left) (operated o a.number y)) →
    Leads f2 g shown2 (compound_end g (path_world inputs) k f o left y place s0.numbers s0.kept) s0 w2
compound_leads f1 f2 g inputs k f o left y place s0 w1 w2 shown1 shown2 a b shown =
    let t = type_in g.typing left in
    let w = path_world inputs in
    let z = converted t (operated o a.number y) in
    leads_then f1 f2 g shown1 shown2 (number_in w (target_of g left) (node_of (bare left)) (number_kind t) place s0.numbers s0.kept)
    (λ x r m. let z = converted t (operated o x y) in after (breaks g k true f x y (pos 0)) (stored_at w (target_of g left) (number_kind t) place z z r m)) s0 w1 w2 a
    (leads_as f2 g (λ n. n ≡ z) shown2 (after (breaks g k true f a.number y (pos 0)) (stored_at w (target_of g left) (number_kind t) place z z a.standing.numbers a.standing.kept)) a.standing w2 (λ n e. subst shown2 (sym e) shown) (b z))

-- `++` and `--`
pub stepped_leads : {V : Type 0} (f1 f2 : IntKind → V → ℤ → Type 0) (g : Setting) (inputs : InputMap) (k : ℕ) (op : StepOp) (o : Operation) (e : ExprTree) (place : ℕ) (s0 : Standing) (w1 w2 : WalkState V) (shown1 shown2 : ℤ → Type 0) → o ≡ step_operation g.typing op (type_in g.typing e) →
    (a : Leads f1 g shown1 (number_in (path_world inputs) (target_of g e) (node_of (bare e)) (number_kind (type_in g.typing e)) place s0.numbers s0.kept) s0 w1) →
    ((z : ℤ) → Leads f2 g (λ n. n ≡ z) (after (breaks g k true (s.step op e) a.number (pos 1) (pos 0)) (stored_at (path_world inputs) (target_of g e) (number_kind (type_in g.typing e)) place (converted (type_in g.typing e) (operated o a.number (pos 1))) z a.standing.numbers a.standing.kept)) a.standing w2) →
    shown2 (if gives_old op then a.number else converted (type_in g.typing e) (operated o a.number (pos 1))) →
    Leads f2 g shown2 (step_end g (path_world inputs) k op e place s0.numbers s0.kept) s0 w2
stepped_leads f1 f2 g inputs k op o e place s0 w1 w2 shown1 shown2 same a b shown =
    let t = type_in g.typing e in
    let w = path_world inputs in
    let how = step_operation g.typing op t in
    let y = converted t (operated how a.number (pos 1)) in
    let z = if gives_old op then a.number else y in
    let shown0 = subst (λ (u : Operation). shown2 (if gives_old op then a.number else converted t (operated u a.number (pos 1)))) same shown in
    let b0 = subst (λ (u : Operation). Leads f2 g (λ n. n ≡ z) (after (breaks g k true (s.step op e) a.number (pos 1) (pos 0)) (stored_at w (target_of g e) (number_kind t) place (converted t (operated u a.number (pos 1))) z a.standing.numbers a.standing.kept)) a.standing w2) same (b z) in
    leads_then f1 f2 g shown1 shown2 (number_in w (target_of g e) (node_of (bare e)) (number_kind t) place s0.numbers s0.kept)
    (λ x r m. let y = converted t (operated (step_operation g.typing op t) x (pos 1)) in after (breaks g k true (s.step op e) x (pos 1) (pos 0)) (stored_at w (target_of g e) (number_kind t) place y (if gives_old op then x else y) r m)) s0 w1 w2 a
    (leads_as f2 g (λ n. n ≡ z) shown2 (after (breaks g k true (s.step op e) a.number (pos 1) (pos 0)) (stored_at w (target_of g e) (number_kind t) place y z a.standing.numbers a.standing.kept)) a.standing w2 (λ n e. subst shown2 (sym e) shown0) b0)

-- ---- a place, a node and a kind by other names

pub suits_as : (g : Setting) (t u : Target) (j k : IntKind) → t ≡ u → j ≡ k → Suits g u k → Suits g t j
suits_as g t u j k et ek a = subst (λ (x : Target). Suits g x j) (sym et) (subst (Suits g u) (sym ek) a)

pub read_as : {V : Type 0} (serves : List ℤ → Type 0) (before now : List ℤ → IntKind → V → ℤ → Type 0) (g : Setting) (inputs : List ℤ → InputMap) (t u : Target) (n n2 : ℕ) (j k : IntKind) (v : V) (w1 w2 : WalkState V) → t ≡ u → n ≡ n2 → j ≡ k →
    ((a : ℕ) → Evaluates serves before now g (λ m x. now m j v x) (λ m r kept. number_in (path_world (inputs m)) t n j a r kept) w1 w2) →
    (a : ℕ) → Evaluates serves before now g (λ m x. now m k v x) (λ m r kept. number_in (path_world (inputs m)) u n2 k a r kept) w1 w2
read_as serves before now g inputs t u n n2 j k v w1 w2 et en ek h a =
    subst (λ (x : Target). Evaluates serves before now g (λ m x. now m k v x) (λ m r kept. number_in (path_world (inputs m)) x n2 k a r kept) w1 w2) et
    (subst (λ (x : ℕ). Evaluates serves before now g (λ m x. now m k v x) (λ m r kept. number_in (path_world (inputs m)) t x k a r kept) w1 w2) en
    (subst (λ (x : IntKind). Evaluates serves before now g (λ m z. now m x v z) (λ m r kept. number_in (path_world (inputs m)) t n x a r kept) w1 w2) ek (h a)))

pub stored_as : {V : Type 0} (serves : List ℤ → Type 0) (before now : List ℤ → IntKind → V → ℤ → Type 0) (g : Setting) (t u : Target) (j k : IntKind) (v : V) (w1 w2 : WalkState V) → t ≡ u → j ≡ k →
    ((m : List ℤ) (s : Standing) (inputs : InputMap) (a : ℕ) (x y : ℤ) → serves m → before m j v x → Stands (before m) g w1 s → Leads (now m) g (λ z. z ≡ y) (stored_at (path_world inputs) t j a x y s.numbers s.kept) s w2) →
    (m : List ℤ) (s : Standing) (inputs : InputMap) (a : ℕ) (x y : ℤ) → serves m → before m k v x → Stands (before m) g w1 s → Leads (now m) g (λ z. z ≡ y) (stored_at (path_world inputs) u k a x y s.numbers s.kept) s w2
stored_as serves before now g t u j k v w1 w2 et ek h m s inputs a x y served shown at =
    subst (λ (c : Target). Leads (now m) g (λ z. z ≡ y) (stored_at (path_world inputs) c k a x y s.numbers s.kept) s w2) et
    (subst (λ (c : IntKind). Leads (now m) g (λ z. z ≡ y) (stored_at (path_world inputs) t c a x y s.numbers s.kept) s w2) ek (h m s inputs a x y served (subst (λ (c : IntKind). before m c v x) (sym ek) shown) at))
