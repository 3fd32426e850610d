-- How the answers of parts make the answer of the whole: three operands, calls, and one turn of a loop.
use Rattle.std.proofs.Common.{ℕ, suc, ◌≡◌, ◌+◌, ◌<◌, ◌≤◌, Bool, true, false, ◌||◌, List, [], ◌∷◌, ◌++◌, length, drop, get_or, refl, sym, ap, subst, ◌∙◌, Result, Ok, Err, Option, Bor, Vec, Global, append_assoc, length-append, add-one, drop-cons, arith}
use Rattle.std.specs.Option.{option_map, option_copied}
use Rattle.stk_ctype.specs.Types.{SignatureTree, TypeTrees, signature_of}
use Rattle.stk_ctype.specs.declared.ctype.Signature.{Signature}
use Rattle.stk_tree.specs.Syntax.{ExprTree, ExprTrees, then_expression, DimensionTree, DimensionTrees, then_dimension}
use Rattle.stk_type_rules.specs.declared.untyped.Untyped.{Untyped}
use Rattle.stk_type_rules.specs.declared.untyped.Untyped.TheVariants.{Rule, NoMemory}
use Rattle.stk_type_rules.specs.Facts.{Fact, fact_at, Ruled}
use Rattle.stk_type_rules.specs.Outcome.{Outcome, Good, Refused, and_then, finish, IsAt, Gives}
use Rattle.stk_type_rules.proofs.Steps.{goes, stops, stays, two, second_stops}
use Rattle.stk_type_rules.specs.Types.{is_struct}
use Rattle.stk_typing.specs.declared.arrays.Size.{Size}
use Rattle.stk_typing.specs.Scope.{Scope}
use Rattle.stk_typing.specs.declared.calls.Arguments.{Arguments}
use Rattle.stk_typing.specs.Calls.{AreArguments, begin_with_struct, behind_first, call_rule, have_misfit, have_struct, misfits, parameters_in, with_behind}
use Rattle.stk_typing.specs.Typing.{expression_typed, arguments_typed, dimension_typed, dimensions_typed}

-- ---- three operands

pub three : (o p q : Outcome Fact) (rule : Fact → Fact → Fact → Ruled) (k i j l : ℕ) (result : Result ℕ Untyped) (a b c d e : List Fact) →
    Gives (IsAt b) o (Ok i) a b → Gives (IsAt c) p (Ok j) b c → Gives (IsAt d) q (Ok l) c d → Gives (IsAt e) (finish k (rule (fact_at d i) (fact_at d j) (fact_at d l))) result d e →
    Gives (IsAt e) (and_then o (λ x. and_then p (λ y. and_then q (λ z. finish k (rule x y z))))) result a e
three o p q rule k i j l result a b c d e h g m r =
    goes (IsAt b) (IsAt e) o (λ x. and_then p (λ y. and_then q (λ z. finish k (rule x y z)))) i result a b e h
    (λ x at. two p q (rule x) k j l result b c d e g m
    (subst (λ (w : Fact). Gives (IsAt e) (finish k (rule w (fact_at d j) (fact_at d l))) result d e) (stays (IsAt d) q l x i c d (stays (IsAt c) p j x i b c at g) m).is r))

pub third_stops : (o p q : Outcome Fact) (f : Fact → Fact → Fact → Outcome Fact) (i j : ℕ) (e : Untyped) (a b c d x : List Fact) →
    Gives (IsAt b) o (Ok i) a b → Gives (IsAt c) p (Ok j) b c → Gives (IsAt d) q (Err e) c d →
    Gives (IsAt x) (and_then o (λ u. and_then p (λ v. and_then q (λ w. f u v w)))) (Err e) a x
third_stops o p q f i j e a b c d x h g m =
    goes (IsAt b) (IsAt x) o (λ u. and_then p (λ v. and_then q (λ w. f u v w))) i (Err e) a b x h (λ u at. second_stops p q (f u) j e b c d x g m)

-- a place that was answered is below the number of facts, also later
pub below : (o : Outcome Fact) (i : ℕ) (a b : List Fact) → Gives (IsAt b) o (Ok i) a b → i < length b
below (Good x t) i a b h = h.1.below
below (Refused n r) i a b h = elim h [ ]

pub longer : {A V : Type 0} (P : A → V → Type 0) (o : Outcome A) (v : V) (a b : List Fact) → Gives P o (Ok v) a b → length a ≤ length b
longer P (Good x t) v a b h = let same : length b ≡ length a + length t = ap length h.0 ∙ length-append a t in omega arith
longer P (Refused n r) v a b h = elim h [ ]

-- ---- outcomes whose value is changed

pub nil : {A : Type 0} (t : List A) → t ++ [] ≡ t
nil [] = refl
nil (x ∷ t) = ap (λ (z : List _). x ∷ z) (nil t)

pub mapped : {A B V : Type 0} (P : A → V → Type 0) (Q : B → V → Type 0) (o : Outcome A) (f : A → B) (result : Result V Untyped) (a b : List Fact) →
    ((x : A) (v : V) → P x v → Q (f x) v) → Gives P o result a b → Gives Q (and_then o (λ x. Good (f x) [])) result a b
mapped P Q (Good x t) f (Ok v) a b k h = (h.0 ∙ ap (λ (z : List Fact). a ++ z) (sym (nil t)), k x v h.1)
mapped P Q (Good x t) f (Err (Rule n r)) a b k h = h
mapped P Q (Good x t) f (Err NoMemory) a b k h = tt
mapped P Q (Refused n r) f (Ok v) a b k h = h
mapped P Q (Refused n r) f (Err (Rule m s)) a b k h = h
mapped P Q (Refused n r) f (Err NoMemory) a b k h = tt

pub weaker : {A V : Type 0} (P Q : A → V → Type 0) (o : Outcome A) (result : Result V Untyped) (a b : List Fact) →
    ((x : A) (v : V) → P x v → Q x v) → Gives P o result a b → Gives Q o result a b
weaker P Q (Good x t) (Ok v) a b k h = (h.0, k x v h.1)
weaker P Q (Good x t) (Err (Rule n r)) a b k h = h
weaker P Q (Good x t) (Err NoMemory) a b k h = tt
weaker P Q (Refused n r) (Ok v) a b k h = h
weaker P Q (Refused n r) (Err (Rule m s)) a b k h = h
weaker P Q (Refused n r) (Err NoMemory) a b k h = tt

-- ---- calls

abbrev pub IsSignature : Option SignatureTree → Option (Bor Signature) → Type 0
IsSignature f r = option_map signature_of (option_copied r) ≡ f

pub call_gives : (o : Outcome (Option SignatureTree)) (p : Outcome (List Fact)) (k : ℕ) (v : Option (Bor Signature)) (ts : TypeTrees) (w : Arguments) (result : Result ℕ Untyped) (a b c d : List Fact) →
    Gives IsSignature o (Ok v) a b → ts ≡ parameters_in (option_map signature_of (option_copied v)) → Gives (AreArguments ts) p (Ok w) b c →
    ((xs : List Fact) → AreArguments (parameters_in (option_map signature_of (option_copied v))) xs w → Gives (IsAt d) (finish k (call_rule (option_map signature_of (option_copied v)) xs)) result c d) →
    Gives (IsAt d) (and_then o (λ f. and_then p (λ xs. finish k (call_rule f xs)))) result a d
call_gives o p k v ts w result a b c d h same g r =
    goes IsSignature (IsAt d) o (λ f. and_then p (λ xs. finish k (call_rule f xs))) v result a b d h
    (λ f is. goes (AreArguments ts) (IsAt d) p (λ xs. finish k (call_rule f xs)) w result b c d g
    (λ xs are. subst (λ (z : Option SignatureTree). Gives (IsAt d) (finish k (call_rule z xs)) result c d) is
    (r xs (subst (λ (z : TypeTrees). AreArguments z xs w) same are))))

pub arguments_stop : (o : Outcome (Option SignatureTree)) (p : Outcome (List Fact)) (f : Option SignatureTree → List Fact → Outcome Fact) (v : Option (Bor Signature)) (ts : TypeTrees) (e : Untyped) (a b c d : List Fact) →
    Gives IsSignature o (Ok v) a b → Gives (AreArguments ts) p (Err e) b c → Gives (IsAt d) (and_then o (λ x. and_then p (λ y. f x y))) (Err e) a d
arguments_stop o p f v ts e a b c d h g = goes IsSignature (IsAt d) o (λ x. and_then p (λ y. f x y)) v (Err e) a b d h (λ x is. stops (AreArguments ts) (IsAt d) p (λ y. f x y) e b c b d g)

-- ---- arguments, one after the other

or_assoc : (p q r : Bool) → ((p || q) || r) ≡ (p || (q || r))
or_assoc true q r = refl
or_assoc false q r = refl

or_false : (p : Bool) → (p || false) ≡ p
or_false true = refl
or_false false = refl

-- what is known of arguments behind these ones, for what is left of the parameters
pub record AreBehind (params : TypeTrees) (acc : Arguments) (xs : List Fact) (a : Arguments) : Type 0 where
  pub count : a.count ≡ acc.count + length xs
  pub misfit : a.has_misfit ≡ (acc.has_misfit || have_misfit params xs)
  pub struct : a.has_struct ≡ (acc.has_struct || have_struct xs)

-- none behind them
pub none_behind : (params : TypeTrees) (acc : Arguments) → AreBehind params acc [] acc
none_behind params acc = record { count = omega arith; misfit = sym (or_false acc.has_misfit); struct = sym (or_false acc.has_struct) }

-- all of them, from none on
pub all_behind : (params : TypeTrees) (none : Arguments) (xs : List Fact) (a : Arguments) → AreArguments params [] none → AreBehind params none xs a → AreArguments params xs a
all_behind params none xs a n b = record {
  count = let c : none.count ≡ 0 = n.count in let d : a.count ≡ none.count + length xs = b.count in omega arith;
  misfit = b.misfit ∙ ap (λ (z : Bool). z || have_misfit params xs) n.misfit;
  struct = b.struct ∙ ap (λ (z : Bool). z || have_struct xs) n.struct;
}

behind_turn : (params : TypeTrees) (acc : Arguments) (x : Fact) (xs : List Fact) (a : Arguments) → AreBehind (behind_first params) (with_behind (begin_with_struct params) acc x) xs a → AreBehind params acc (x ∷ xs) a
behind_turn params acc x xs a b = record {
  count = let c : a.count ≡ acc.count + 1 + length xs = b.count in omega arith;
  misfit = b.misfit ∙ or_assoc acc.has_misfit (misfits (begin_with_struct params) x) (have_misfit (behind_first params) xs);
  struct = b.struct ∙ or_assoc acc.has_struct (is_struct x.ty) (have_struct xs);
}

pub arguments_turn : (scope : Scope) (params : TypeTrees) (acc next : Arguments) (e : ExprTree) (es : ExprTrees) (i : ℕ) (result : Result Arguments Untyped) (a b c : List Fact) →
    Gives (IsAt b) (expression_typed scope e) (Ok i) a b → next ≡ with_behind (begin_with_struct params) acc (fact_at b i) → Gives (AreBehind (behind_first params) next) (arguments_typed scope es) result b c →
    Gives (AreBehind params acc) (arguments_typed scope (then_expression e es)) result a c
arguments_turn scope params acc next e es i result a b c h is g =
    goes (IsAt b) (AreBehind params acc) (expression_typed scope e) (λ x. and_then (arguments_typed scope es) (λ xs. Good (x ∷ xs) [])) i result a b c h
    (λ x at. mapped (AreBehind (behind_first params) next) (AreBehind params acc) (arguments_typed scope es) (λ xs. x ∷ xs) result b c
    (λ xs r m. behind_turn params acc x xs r (subst (λ (z : Arguments). AreBehind (behind_first params) z xs r) (is ∙ ap (with_behind (begin_with_struct params) acc) at.is) m)) g)

-- ---- array parts, one after the other

abbrev pub IsSize : Size → Size → Type 0
IsSize size r = r ≡ size

pub size_gives : (scope : Scope) (e : ExprTree) (i : ℕ) (f : Fact → Size) (a b : List Fact) → Gives (IsAt b) (expression_typed scope e) (Ok i) a b →
    Gives IsSize (and_then (expression_typed scope e) (λ x. Good (f x) [])) (Ok (f (fact_at b i))) a b
size_gives scope e i f a b h =
    goes (IsAt b) IsSize (expression_typed scope e) (λ x. Good (f x) []) i (Ok (f (fact_at b i))) a b b h (λ x at. (sym (nil b), ap f at.is))

-- what is left begins with the element at this place
pub next_of : {A : Type 0} (xs : List A) (i : ℕ) (d : A) → i < length xs → d ≡ get_or xs i d → drop i xs ≡ d ∷ drop (i + 1) xs
next_of xs i d h e = rw add-one (drop-cons xs i d h ∙ ap (λ (z : _). z ∷ drop (suc i) xs) (sym e))

-- the sizes of array parts behind others
abbrev pub AreSizes : List Size → List Size → Vec Size Global → Type 0
AreSizes before sizes r = r.items ≡ before ++ sizes

pub dimensions_turn : (scope : Scope) (before next : List Size) (d : DimensionTree) (ds : DimensionTrees) (size : Size) (result : Result (Vec Size Global) Untyped) (a b c : List Fact) →
    Gives IsSize (dimension_typed scope d) (Ok size) a b → next ≡ before ++ size ∷ [] → Gives (AreSizes next) (dimensions_typed scope ds) result b c →
    Gives (AreSizes before) (dimensions_typed scope (then_dimension d ds)) result a c
dimensions_turn scope before next d ds size result a b c h is g =
    goes IsSize (AreSizes before) (dimension_typed scope d) (λ x. and_then (dimensions_typed scope ds) (λ xs. Good (x ∷ xs) [])) size result a b c h
    (λ x same. mapped (AreSizes next) (AreSizes before) (dimensions_typed scope ds) (λ xs. x ∷ xs) result b c
    (λ xs r m. m ∙ ap (λ (z : List Size). z ++ xs) (is ∙ ap (λ (z : Size). before ++ z ∷ []) same) ∙ append_assoc before (x ∷ []) xs) g)

-- ---- type names

pub named_gives : (o : Outcome Fact) (p : Outcome (List Size)) (rule : Fact → List Size → Ruled) (k i : ℕ) (sizes : Vec Size Global) (result : Result ℕ Untyped) (a b c d : List Fact) →
    Gives (IsAt b) o (Ok i) a b → Gives (AreSizes []) p (Ok sizes) b c → Gives (IsAt d) (finish k (rule (fact_at c i) sizes.items)) result c d →
    Gives (IsAt d) (and_then o (λ x. and_then p (λ ss. finish k (rule x ss)))) result a d
named_gives o p rule k i sizes result a b c d h g r =
    goes (IsAt b) (IsAt d) o (λ x. and_then p (λ ss. finish k (rule x ss))) i result a b d h
    (λ x at. goes (AreSizes []) (IsAt d) p (λ ss. finish k (rule x ss)) sizes result b c d g
    (λ ss are. subst (λ (z : List Size). Gives (IsAt d) (finish k (rule x z)) result c d) are
    (subst (λ (w : Fact). Gives (IsAt d) (finish k (rule w sizes.items)) result c d) (stays (AreSizes []) p sizes x i b c at g).is r)))
