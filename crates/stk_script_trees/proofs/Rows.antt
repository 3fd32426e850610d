-- Commands in a row, one after the other.
use Rattle.std.proofs.Common.{◌≡◌, ℕ, zero, suc, ◌<◌, ◌≤◌, List, [], ◌∷◌, ◌++◌, length, length-append, refl, ap, sym, ◌∙◌, append_assoc, append-nil, map, arith}
use Rattle.std.specs.Prelude.{Some, None, codes}
use Rattle.stk_scripts.specs.Syntax.{Declared, Defined}
use Rattle.stk_scripts.specs.Tokens.{Token, declared_tokens, defined_tokens}
use Rattle.stk_scripts.specs.Reading.{Front, ◌>>=◌}
use Rattle.stk_script_trees.specs.Commands.{command_front, in_front, command_then, commands_step, commands_at, read_declared, read_defined}
use Rattle.stk_script_trees.proofs.Printed.{command_some, declared_some, defined_some}

module _ {A : Type 0} where
  -- values in front of others
  abbrev pub onto : List A → Front (List A) → Front (List A)
  onto xs None = None
  onto xs (Some y) = Some (xs ++ y.0, y.1)

  onto_front : (xs : List A) (x : A) (o : Front (List A)) → onto xs (in_front x o) ≡ onto (xs ++ x ∷ []) o
  onto_front xs x None = refl
  onto_front xs x (Some y) = ap (λ zs. Some (zs, y.1)) (sym (append_assoc xs (x ∷ []) y.0))

  pub begun : (o : Front (List A)) → onto [] o ≡ o
  begun None = refl
  begun (Some y) = refl

  module _ (w : List ℕ) (read : List Token → Front A) where
    -- so far xs, and what is left is read by so many turns
    pub record Reading (xs : List A) (ts : List Token) (whole : Front (List A)) : Type 0 where
      pub turns : ℕ
      pub enough : length ts < turns
      pub same : onto xs (commands_at w read turns ts) ≡ whole

    step_is : (n : ℕ) (xs : List A) (ts behind : List Token) → command_front w ts ≡ Some behind → onto xs (commands_at w read (suc n) ts) ≡ onto xs (command_then read (commands_at w read n) behind)
    step_is n xs ts behind e = ap (λ o. onto xs (commands_step read (commands_at w read n) ts o)) e

    turn_at : (n : ℕ) (xs : List A) (ts behind : List Token) (y : A × List Token) → command_front w ts ≡ Some behind → read behind ≡ Some y
        → onto xs (commands_at w read (suc n) ts) ≡ onto (xs ++ y.0 ∷ []) (commands_at w read n y.1)
    turn_at n xs ts behind y e r =
        step_is n xs ts behind e
        ∙ ap (λ (o : Front A). onto xs (o >>= λ x. in_front x.0 (commands_at w read n x.1))) r
        ∙ onto_front xs y.0 (commands_at w read n y.1)

    -- one command more
    pub turn : (xs : List A) (ts : List Token) (whole : Front (List A)) (behind : List Token) (y : A × List Token) → Reading xs ts whole → command_front w ts ≡ Some behind → read behind ≡ Some y → length y.1 < length ts
        → Reading (xs ++ y.0 ∷ []) y.1 whole
    turn xs ts whole behind y g e r less = by g.turns g.enough g.same
      where
        by : (n : ℕ) → length ts < n → onto xs (commands_at w read n ts) ≡ whole → Reading (xs ++ y.0 ∷ []) y.1 whole
        by zero l s = absurd (omega arith)
        by (suc n) l s = record { turns = n; enough = omega (arith, l, less); same = sym (turn_at n xs ts behind y e r) ∙ s }

    -- a command that isn't read
    pub failed : (xs : List A) (ts : List Token) (whole : Front (List A)) (behind : List Token) → Reading xs ts whole → command_front w ts ≡ Some behind → read behind ≡ None → whole ≡ None
    failed xs ts whole behind g e r = by g.turns g.enough g.same
      where
        by : (n : ℕ) → length ts < n → onto xs (commands_at w read n ts) ≡ whole → whole ≡ None
        by zero l s = absurd (omega arith)
        by (suc n) l s = sym s ∙ step_is n xs ts behind e ∙ ap (λ (o : Front A). onto xs (o >>= λ x. in_front x.0 (commands_at w read n x.1))) r

    -- no command more
    pub done : (xs : List A) (ts : List Token) (whole : Front (List A)) → Reading xs ts whole → command_front w ts ≡ None → whole ≡ Some (xs, ts)
    done xs ts whole g e = by g.turns g.enough g.same
      where
        by : (n : ℕ) → length ts < n → onto xs (commands_at w read n ts) ≡ whole → whole ≡ Some (xs, ts)
        by zero l s = absurd (omega arith)
        by (suc n) l s = sym s ∙ ap (λ o. onto xs (commands_step read (commands_at w read n) ts o)) e ∙ ap (λ zs. Some (zs, ts)) (append-nil xs)

    -- at the beginning
    pub start : (ts : List Token) → Reading [] ts (commands_at w read (suc (length ts)) ts)
    start ts = record { turns = suc (length ts); enough = omega arith; same = begun (commands_at w read (suc (length ts)) ts) }

behind_shorter : (print ts rest : List Token) → 1 ≤ length print → ts ≡ print ++ rest → length rest < length ts
behind_shorter print ts rest some e = let k = ap (λ (u : List Token). length u) e ∙ length-append print rest in omega (arith, k, some)

pub declared_shorter : (ts behind : List Token) (y : Declared × List Token) → command_front (codes "declare-fun") ts ≡ Some behind → read_declared behind ≡ Some y → length y.1 < length ts
declared_shorter ts behind y e r = behind_shorter (declared_tokens y.0) ts y.1 (omega arith) (command_some (codes "declare-fun") ts behind e ∙ declared_some behind y r)

pub defined_shorter : (most : ℕ) (ts behind : List Token) (y : Defined × List Token) → command_front (codes "define-fun") ts ≡ Some behind → read_defined most behind ≡ Some y → length y.1 < length ts
defined_shorter most ts behind y e r = behind_shorter (defined_tokens y.0) ts y.1 (omega arith) (command_some (codes "define-fun") ts behind e ∙ (defined_some most behind y r).0)

pub map_one : {X Y : Type 0} (f : X → Y) (xs : List X) (x : X) → map f (xs ++ x ∷ []) ≡ map f xs ++ f x ∷ []
map_one f [] x = refl
map_one f (y ∷ ys) x = ap (λ zs. f y ∷ zs) (map_one f ys x)
