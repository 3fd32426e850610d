-- What is said of the types of nodes, from what is said of the types that are found there.
use Rattle.std.proofs.Common.{◌≡◌, ℕ, Bool, List, sym, ap, ◌∙◌}
use Rattle.stk_ctype.specs.Types.{TypeTree}
use Rattle.stk_meaning.specs.Typings.{Typing, stride_in}
use Rattle.stk_meaning.specs.Operations.{Operation, Operator, Test, operation_of}
use Rattle.stk_meaning.specs.Conditions.{index_tests}

pub operated : (ty : Typing) (op : Operator) (t u t2 u2 : TypeTree) (m n : ℕ) (r : Operation) → ((w : Typing) → stride_in w t ≡ m → stride_in w u ≡ n → r ≡ operation_of w op t u) → m ≡ stride_in ty t → n ≡ stride_in ty u → t ≡ t2 → u ≡ u2 → r ≡ operation_of ty op t2 u2
operated ty op t u t2 u2 m n r h hm hn ht hu = h ty (sym hm) (sym hn) ∙ ap (λ x. operation_of ty op x u) ht ∙ ap (λ y. operation_of ty op t2 y) hu

pub indexed : (ty : Typing) (accessed : Bool) (t t2 : TypeTree) (n : ℕ) (r : List Test) → r ≡ index_tests accessed t n → n ≡ stride_in ty t → t ≡ t2 → r ≡ index_tests accessed t2 (stride_in ty t2)
indexed ty accessed t t2 n r h hn ht = h ∙ ap (index_tests accessed t) hn ∙ ap (λ x. index_tests accessed x (stride_in ty x)) ht
