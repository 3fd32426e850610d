-- What is read of tokens prints them.
use Rattle.std.proofs.Common.{◌≡◌, ℕ, zero, suc, ◌<◌, ◌≤◌, Bool, true, false, List, [], ◌∷◌, ◌++◌, refl, ap, sym, ◌∙◌, append_assoc, subst, inl, inr}
use Rattle.std.specs.Prelude.{Option, Some, None, codes, decimal, length}
use Rattle.stk_base.specs.Text.{same_text}
use Rattle.stk_scripts.specs.Syntax.{Expr, test_name, Declared, Defined, Script}
use Rattle.stk_scripts.specs.Tokens.{Token, opening, closing, word, expr_tokens, test_tokens, sort_tokens, declared_tokens, defined_tokens, assert_tokens, logic_tokens, check_tokens, all_tokens, declared_commands, defined_commands, logic_commands, script_tokens}
use Rattle.stk_scripts.specs.Scripts.{depth}
use Rattle.stk_scripts.specs.Numerals.{numeral}
use Rattle.stk_scripts.specs.Reading.{Front, ◌>>=◌, worded, with_rest, Test, read_term, read_test}
use Rattle.stk_scripts.proofs.Bytes.{chosen_way}
use Rattle.stk_scripts.proofs.Numerals.{numeral_is, same_is}
use Rattle.stk_scripts.proofs.Printing.{read_is_printed, both_print}
use Rattle.stk_script_trees.specs.Fronts.{closing_front, word_front}
use Rattle.stk_script_trees.specs.Commands.{opening_front, expected, command_front, empty_front, read_sort, read_named, read_declared, read_defined, in_front, commands_step, commands_at, declarations, definitions, logic_front, read_assert, ended, read_end, read_behind, read_after, read_tokens}
use Rattle.stk_script_trees.specs.Shallow.{AreShallow, IsShallow}

-- ---- parts

pub bind_some : {A B : Type 0} (o : Option A) (f : A → Option B) (y : B) → o >>= f ≡ Some y → (x : A) × (o ≡ Some x) × (f x ≡ Some y)
bind_some None f y e = absurd cc
bind_some (Some x) f y e = (x, refl, e)

some_is : {A : Type 0} (x y : A) → Some x ≡ Some y → x ≡ y
some_is x y e = cc

closing_some : (ts r : List Token) → closing_front ts ≡ Some r → ts ≡ closing ∷ r
closing_some [] r e = absurd cc
closing_some (opening ∷ ts) r e = absurd cc
closing_some (closing ∷ ts) r e = ap (λ u. closing ∷ u) (some_is ts r e)
closing_some (word w ∷ ts) r e = absurd cc

opening_some : (ts r : List Token) → opening_front ts ≡ Some r → ts ≡ opening ∷ r
opening_some [] r e = absurd cc
opening_some (opening ∷ ts) r e = ap (λ u. opening ∷ u) (some_is ts r e)
opening_some (closing ∷ ts) r e = absurd cc
opening_some (word w ∷ ts) r e = absurd cc

word_some : (ts : List Token) (y : List ℕ × List Token) → word_front ts ≡ Some y → ts ≡ word y.0 ∷ y.1
word_some [] y e = absurd cc
word_some (opening ∷ ts) y e = absurd cc
word_some (closing ∷ ts) y e = absurd cc
word_some (word w ∷ ts) y e = let k = some_is {A = List ℕ × List Token} (w, ts) y e in ap (λ (u : List ℕ × List Token). word u.0 ∷ u.1) k

expected_some : (w : List ℕ) (ts r : List Token) → expected w ts ≡ Some r → ts ≡ word w ∷ r
expected_some w [] r e = absurd cc
expected_some w (opening ∷ ts) r e = absurd cc
expected_some w (closing ∷ ts) r e = absurd cc
expected_some w (word v ∷ ts) r e = elim (chosen_way (same_text w v) (Some ts) None (Some r) e) [
  | inl h ↦ (λ i. word (sym (same_is w v h.0) i) ∷ some_is ts r h.1 i)
  | inr h ↦ absurd (let k = h.1 in cc)
]

rest_some : {A : Type 0} (ts : List Token) (o : Option A) (y : A × List Token) → with_rest ts o ≡ Some y → (o ≡ Some y.0) × (ts ≡ y.1)
rest_some ts None y e = absurd cc
rest_some {A} ts (Some x) y e = let k = some_is {A = A × List Token} (x, ts) y e in (ap (λ (u : A × List Token). Some u.0) k, ap (λ (u : A × List Token). u.1) k)

numeral_some : (ts : List Token) (y : ℕ × List Token) → worded numeral ts ≡ Some y → ts ≡ word (decimal y.0) ∷ y.1
numeral_some [] y e = absurd cc
numeral_some (opening ∷ ts) y e = absurd cc
numeral_some (closing ∷ ts) y e = absurd cc
numeral_some (word w ∷ ts) y e = let k = rest_some ts (numeral w) y e in (λ i. word (numeral_is w y.0 k.0 i) ∷ k.1 i)

pub command_some : (w : List ℕ) (ts r : List Token) → command_front w ts ≡ Some r → ts ≡ opening ∷ word w ∷ r
command_some w ts r e =
    let a = bind_some (opening_front ts) (expected w) r e in
    opening_some ts a.0 a.1 ∙ ap (λ u. opening ∷ u) (expected_some w a.0 r a.2)

empty_some : (ts r : List Token) → empty_front ts ≡ Some r → ts ≡ opening ∷ closing ∷ r
empty_some ts r e =
    let a = bind_some (opening_front ts) closing_front r e in
    opening_some ts a.0 a.1 ∙ ap (λ u. opening ∷ u) (closing_some a.0 r a.2)

sort_some : (ts : List Token) (y : ℕ × List Token) → read_sort ts ≡ Some y → ts ≡ sort_tokens y.0 y.1
sort_some ts y e =
    let a = bind_some (command_front (codes "_") ts) (λ behind. expected (codes "BitVec") behind >>= λ inside. worded numeral inside >>= λ width. closing_front width.1 >>= λ rest. Some (width.0, rest)) y e in
    let b = bind_some (expected (codes "BitVec") a.0) (λ inside. worded numeral inside >>= λ width. closing_front width.1 >>= λ rest. Some (width.0, rest)) y a.2 in
    let c = bind_some (worded numeral b.0) (λ width. closing_front width.1 >>= λ rest. Some (width.0, rest)) y b.2 in
    let d = bind_some (closing_front c.0.1) (λ rest. Some (c.0.0, rest)) y c.2 in
    let k = some_is {A = ℕ × List Token} (c.0.0, d.0) y d.2 in
    command_some (codes "_") ts a.0 a.1
    ∙ ap (λ u. opening ∷ word (codes "_") ∷ u) (expected_some (codes "BitVec") a.0 b.0 b.1 ∙ ap (λ u. word (codes "BitVec") ∷ u) (numeral_some b.0 c.0 c.1 ∙ ap (λ u. word (decimal c.0.0) ∷ u) (closing_some c.0.1 d.0 d.1)))
    ∙ ap (λ (u : ℕ × List Token). sort_tokens u.0 u.1) k

-- `NAME () SORT`
abbrev pub named_tokens : Declared → List Token → List Token
named_tokens d ts = word d.name ∷ opening ∷ closing ∷ sort_tokens d.width ts

named_some : (ts : List Token) (y : Declared × List Token) → read_named ts ≡ Some y → ts ≡ named_tokens y.0 y.1
named_some ts y e =
    let a = bind_some (word_front ts) (λ name. empty_front name.1 >>= λ behind. read_sort behind >>= λ width. Some (record { name = name.0; width = width.0 }, width.1)) y e in
    let b = bind_some (empty_front a.0.1) (λ behind. read_sort behind >>= λ width. Some (record { name = a.0.0; width = width.0 }, width.1)) y a.2 in
    let c = bind_some (read_sort b.0) (λ width. Some (record { name = a.0.0; width = width.0 }, width.1)) y b.2 in
    let k = some_is {A = Declared × List Token} (record { name = a.0.0; width = c.0.0 }, c.0.1) y c.2 in
    word_some ts a.0 a.1
    ∙ ap (λ u. word a.0.0 ∷ u) (empty_some a.0.1 b.0 b.1 ∙ ap (λ u. opening ∷ closing ∷ u) (sort_some b.0 c.0 c.1))
    ∙ ap (λ (u : Declared × List Token). named_tokens u.0 u.1) k

pub declared_some : (ts : List Token) (y : Declared × List Token) → read_declared ts ≡ Some y → opening ∷ word (codes "declare-fun") ∷ ts ≡ declared_tokens y.0 ++ y.1
declared_some ts y e =
    let a = bind_some (read_named ts) (λ d. closing_front d.1 >>= λ rest. Some (d.0, rest)) y e in
    let b = bind_some (closing_front a.0.1) (λ rest. Some (a.0.0, rest)) y a.2 in
    let k = some_is {A = Declared × List Token} (a.0.0, b.0) y b.2 in
    ap (λ u. opening ∷ word (codes "declare-fun") ∷ u) (named_some ts a.0 a.1 ∙ ap (λ u. named_tokens a.0.0 u) (closing_some a.0.1 b.0 b.1))
    ∙ ap (λ (u : Declared × List Token). declared_tokens u.0 ++ u.1) k

abbrev pub defined_of : Declared → Expr → Defined
defined_of d e = record { name = d.name; width = d.width; body = e }

pub defined_some : (most : ℕ) (ts : List Token) (y : Defined × List Token) → read_defined most ts ≡ Some y → (opening ∷ word (codes "define-fun") ∷ ts ≡ defined_tokens y.0 ++ y.1) × (depth y.0.body ≤ most)
defined_some most ts y e =
    let a = bind_some (read_named ts) (λ d. read_term most d.1 >>= λ body. closing_front body.1 >>= λ rest. Some (defined_of d.0 body.0, rest)) y e in
    let b = bind_some (read_term most a.0.1) (λ body. closing_front body.1 >>= λ rest. Some (defined_of a.0.0 body.0, rest)) y a.2 in
    let c = bind_some (closing_front b.0.1) (λ rest. Some (defined_of a.0.0 b.0.0, rest)) y b.2 in
    let k = some_is {A = Defined × List Token} (defined_of a.0.0 b.0.0, c.0) y c.2 in
    let t = read_is_printed most a.0.1 b.0.0 b.0.1 b.1 in (
      ap (λ u. opening ∷ word (codes "define-fun") ∷ u) (named_some ts a.0 a.1 ∙ ap (λ u. named_tokens a.0.0 u) (t.0 ∙ ap (λ u. expr_tokens b.0.0 ++ u) (closing_some b.0.1 c.0 c.1) ∙ sym (append_assoc (expr_tokens b.0.0) (closing ∷ []) c.0)))
          ∙ ap (λ (u : Defined × List Token). defined_tokens u.0 ++ u.1) k,
      subst (λ (u : Defined × List Token). depth u.0.body ≤ most) k t.1,
    )

-- ---- commands in a row

module _ {A : Type 0} (print : A → List Token) where
  -- what values print
  abbrev pub all_printed : List A → List Token
  all_printed [] = []
  all_printed (x ∷ xs) = print x ++ all_printed xs

  front_some : (x : A) (o : Front (List A)) (y : List A × List Token) → in_front x o ≡ Some y → (z : List A × List Token) × (o ≡ Some z) × (y.0 ≡ x ∷ z.0) × (y.1 ≡ z.1)
  front_some x None y e = absurd cc
  front_some x (Some z) y e = let k = some_is {A = List A × List Token} (x ∷ z.0, z.1) y e in (z, refl, sym (ap (λ (u : List A × List Token). u.0) k), sym (ap (λ (u : List A × List Token). u.1) k))

  module _ (w : List ℕ) (read : List Token → Front A) (P : A → Type 0) (reads : (ts : List Token) (y : A × List Token) → read ts ≡ Some y → (opening ∷ word w ∷ ts ≡ print y.0 ++ y.1) × P y.0) where
    -- each of them
    abbrev pub Each : List A → Type 0
    Each [] = Unit {0}
    Each (x ∷ xs) = P x × Each xs

    step_some : (more : List Token → Front (List A)) → ((ts : List Token) (y : List A × List Token) → more ts ≡ Some y → (ts ≡ all_printed y.0 ++ y.1) × Each y.0)
        → (ts : List Token) (y : List A × List Token) (o : Option (List Token)) → command_front w ts ≡ o → commands_step read more ts o ≡ Some y → (ts ≡ all_printed y.0 ++ y.1) × Each y.0
    step_some more h ts y None c e = let k = some_is {A = List A × List Token} ([], ts) y e in (ap (λ (u : List A × List Token). all_printed u.0 ++ u.1) k, subst (λ (u : List A × List Token). Each u.0) k tt)
    step_some more h ts y (Some behind) c e =
        let a = bind_some (read behind) (λ x. in_front x.0 (more x.1)) y e in
        let b = front_some a.0.0 (more a.0.1) y a.2 in
        let p = reads behind a.0 a.1 in
        let q = h a.0.1 b.0 b.1 in (
          command_some w ts behind c ∙ p.0 ∙ ap (λ u. print a.0.0 ++ u) q.0 ∙ sym (append_assoc (print a.0.0) (all_printed b.0.0) b.0.1) ∙ (λ i. all_printed (sym b.2 i) ++ sym b.3 i),
          subst Each (sym b.2) (p.1, q.1),
        )

    commands_some : (n : ℕ) (ts : List Token) (y : List A × List Token) → commands_at w read n ts ≡ Some y → (ts ≡ all_printed y.0 ++ y.1) × Each y.0
    commands_some zero ts y e = absurd cc
    commands_some (suc n) ts y e = step_some (commands_at w read n) (commands_some n) ts y (command_front w ts) refl e

pub all_declared : (ds : List Declared) → all_printed declared_tokens ds ≡ all_tokens (declared_commands ds)
all_declared [] = refl
all_declared (d ∷ ds) = ap (λ u. declared_tokens d ++ u) (all_declared ds)

pub all_defined : (ds : List Defined) → all_printed defined_tokens ds ≡ all_tokens (defined_commands ds)
all_defined [] = refl
all_defined (d ∷ ds) = ap (λ u. defined_tokens d ++ u) (all_defined ds)

abbrev Any : Declared → Type 0
Any d = Unit {0}

abbrev IsLow : ℕ → Defined → Type 0
IsLow most d = depth d.body ≤ most

declarations_some : (ts : List Token) (y : List Declared × List Token) → declarations ts ≡ Some y → ts ≡ all_tokens (declared_commands y.0) ++ y.1
declarations_some ts y e = (commands_some declared_tokens (codes "declare-fun") read_declared Any (λ ts y e. (declared_some ts y e, tt)) (suc (length ts)) ts y e).0 ∙ ap (λ u. u ++ y.1) (all_declared y.0)

low_ones : (most : ℕ) (ds : List Defined) → Each defined_tokens (codes "define-fun") (read_defined most) (IsLow most) (defined_some most) ds → AreShallow most ds
low_ones most [] h = tt
low_ones most (d ∷ ds) h = (h.0, low_ones most ds h.1)

definitions_some : (most : ℕ) (ts : List Token) (y : List Defined × List Token) → definitions most ts ≡ Some y → (ts ≡ all_tokens (defined_commands y.0) ++ y.1) × AreShallow most y.0
definitions_some most ts y e =
    let k = commands_some defined_tokens (codes "define-fun") (read_defined most) (IsLow most) (defined_some most) (suc (length ts)) ts y e in
    (k.0 ∙ ap (λ u. u ++ y.1) (all_defined y.0), low_ones most y.0 k.1)

-- ---- the others

test_is_printed : (n : ℕ) (ts : List Token) (y : Test × List Token) → read_test n ts ≡ Some y → (ts ≡ test_tokens y.0.op y.0.left y.0.right y.1) × (depth y.0.left < n) × (depth y.0.right < n)
test_is_printed n ts y e = (both_print n).1 ts y e

pub test_before : (t : Test) (us rest : List Token) → test_tokens t.op t.left t.right us ++ rest ≡ test_tokens t.op t.left t.right (us ++ rest)
test_before t us rest =
    ap (λ u. opening ∷ word (test_name t.op) ∷ u) (append_assoc (expr_tokens t.left) (expr_tokens t.right ++ closing ∷ us) rest ∙ ap (λ u. expr_tokens t.left ++ u) (append_assoc (expr_tokens t.right) (closing ∷ us) rest))

assert_some : (most : ℕ) (ts : List Token) (y : Test × List Token) → read_assert most ts ≡ Some y → (ts ≡ assert_tokens y.0.op y.0.left y.0.right ++ y.1) × (depth y.0.left < most) × (depth y.0.right < most)
assert_some most ts y e =
    let a = bind_some (command_front (codes "assert") ts) (λ behind. read_test most behind >>= λ t. closing_front t.1 >>= λ rest. Some (t.0, rest)) y e in
    let b = bind_some (read_test most a.0) (λ t. closing_front t.1 >>= λ rest. Some (t.0, rest)) y a.2 in
    let c = bind_some (closing_front b.0.1) (λ rest. Some (b.0.0, rest)) y b.2 in
    let k = some_is {A = Test × List Token} (b.0.0, c.0) y c.2 in
    let t = test_is_printed most a.0 b.0 b.1 in (
      command_some (codes "assert") ts a.0 a.1 ∙ ap (λ u. opening ∷ word (codes "assert") ∷ u) (t.0 ∙ ap (test_tokens b.0.0.op b.0.0.left b.0.0.right) (closing_some b.0.1 c.0 c.1) ∙ sym (test_before b.0.0 (closing ∷ []) c.0))
          ∙ ap (λ (u : Test × List Token). assert_tokens u.0.op u.0.left u.0.right ++ u.1) k,
      subst (λ (u : Test × List Token). depth u.0.left < most) k t.1,
      subst (λ (u : Test × List Token). depth u.0.right < most) k t.2,
    )

ended_some : (ts : List Token) (y : Bool) → ended ts ≡ Some y → ts ≡ []
ended_some [] y e = refl
ended_some (t ∷ ts) y e = absurd cc

end_some : (ts : List Token) (y : Bool) → read_end ts ≡ Some y → ts ≡ check_tokens
end_some ts y e =
    let a = bind_some (command_front (codes "check-sat") ts) (λ behind. closing_front behind >>= λ rest. ended rest) y e in
    let b = bind_some (closing_front a.0) ended y a.2 in
    command_some (codes "check-sat") ts a.0 a.1 ∙ ap (λ u. opening ∷ word (codes "check-sat") ∷ u) (closing_some a.0 b.0 b.1 ∙ ap (λ u. closing ∷ u) (ended_some b.0 y b.2))

logic_some : (ts r : List Token) → logic_front ts ≡ Some r → ts ≡ logic_tokens ++ r
logic_some ts r e =
    let a = bind_some (command_front (codes "set-logic") ts) (λ behind. expected (codes "QF_BV") behind >>= λ inside. closing_front inside) r e in
    let b = bind_some (expected (codes "QF_BV") a.0) closing_front r a.2 in
    command_some (codes "set-logic") ts a.0 a.1 ∙ ap (λ u. opening ∷ word (codes "set-logic") ∷ u) (expected_some (codes "QF_BV") a.0 b.0 b.1 ∙ ap (λ u. word (codes "QF_BV") ∷ u) (closing_some b.0 r b.2))

-- ---- whole scripts

pub all_append : (xs ys : List (List Token)) → all_tokens (xs ++ ys) ≡ all_tokens xs ++ all_tokens ys
all_append [] ys = refl
all_append (x ∷ xs) ys = ap (λ u. x ++ u) (all_append xs ys) ∙ sym (append_assoc x (all_tokens xs) (all_tokens ys))

-- the tokens of a script behind its logic
abbrev pub behind_tokens : Script → List Token
behind_tokens s = all_tokens (declared_commands s.declared) ++ (all_tokens (defined_commands s.defined) ++ (assert_tokens s.test s.left s.right ++ check_tokens))

pub script_is : (s : Script) → script_tokens s ≡ all_tokens (logic_commands s.has_logic) ++ behind_tokens s
script_is s =
    all_append (logic_commands s.has_logic) _
    ∙ ap (λ u. all_tokens (logic_commands s.has_logic) ++ u)
    (all_append (declared_commands s.declared) _ ∙ ap (λ u. all_tokens (declared_commands s.declared) ++ u) (all_append (defined_commands s.defined) _))

-- what is read prints itself behind its logic, and isn't deep
record Told (most : ℕ) (b : Bool) (ts : List Token) (s : Script) : Type 0 where
  logic : s.has_logic ≡ b
  tokens : ts ≡ behind_tokens s
  shallow : IsShallow most s

behind_some : (most : ℕ) (b : Bool) (ts : List Token) (s : Script) → read_behind most b ts ≡ Some s → Told most b ts s
behind_some most b ts s e =
    let made : List Declared → List Defined → Test → Script = λ ds es t. record { has_logic = b; declared = ds; defined = es; test = t.op; left = t.left; right = t.right } in
    let d = bind_some (declarations ts) (λ ds. definitions most ds.1 >>= λ es. read_assert most es.1 >>= λ t. read_end t.1 >>= λ end. Some (made ds.0 es.0 t.0)) s e in
    let f = bind_some (definitions most d.0.1) (λ es. read_assert most es.1 >>= λ t. read_end t.1 >>= λ end. Some (made d.0.0 es.0 t.0)) s d.2 in
    let t = bind_some (read_assert most f.0.1) (λ t. read_end t.1 >>= λ end. Some (made d.0.0 f.0.0 t.0)) s f.2 in
    let n = bind_some (read_end t.0.1) (λ end. Some (made d.0.0 f.0.0 t.0.0)) s t.2 in
    let k = some_is (made d.0.0 f.0.0 t.0.0) s n.2 in
    let g = definitions_some most d.0.1 f.0 f.1 in
    let h = assert_some most f.0.1 t.0 t.1 in
    subst (Told most b ts) k (record {
      logic = refl;
      tokens = declarations_some ts d.0 d.1 ∙ ap (λ u. all_tokens (declared_commands d.0.0) ++ u) (g.0 ∙ ap (λ u. all_tokens (defined_commands f.0.0) ++ u) (h.0 ∙ ap (λ u. assert_tokens t.0.0.op t.0.0.left t.0.0.right ++ u) (end_some t.0.1 n.0 n.1)));
      shallow = record { bodies = g.1; left = h.1; right = h.2 };
    })

after_some : (most : ℕ) (ts : List Token) (s : Script) (o : Option (List Token)) → logic_front ts ≡ o → read_after most ts o ≡ Some s → (ts ≡ script_tokens s) × IsShallow most s
after_some most ts s None c e =
    let k = behind_some most false ts s e in
    (k.tokens ∙ ap (λ b. all_tokens (logic_commands b) ++ behind_tokens s) (sym k.logic) ∙ sym (script_is s), k.shallow)
after_some most ts s (Some r) c e =
    let k = behind_some most true r s e in
    (logic_some ts r c ∙ ap (λ u. logic_tokens ++ u) k.tokens ∙ ap (λ b. all_tokens (logic_commands b) ++ behind_tokens s) (sym k.logic) ∙ sym (script_is s), k.shallow)

-- what is read prints itself, and isn't deep
pub read_prints : (most : ℕ) (ts : List Token) (s : Script) → read_tokens most ts ≡ Some s → (ts ≡ script_tokens s) × IsShallow most s
read_prints most ts s e = after_some most ts s (logic_front ts) refl e
