-- What parts of a walk cost, one after another.
use Rattle.std.proofs.Common.{◌≡◌, ℕ, ◌+◌, ◌*◌, ◌≤◌, Bool, true, false, refl, ◌∙◌, arith}
use Rattle.std.specs.Prelude.{if◌then◌else◌, Result, Ok, Err, OnOk}
use Rattle.stk_numbers.specs.declared.operators.ArithOp.{ArithOp}
use Rattle.stk_numbers.specs.declared.operators.ArithOp.TheVariants as arith_op
use Rattle.stk_numbers.specs.Conditions.{divides}
use Rattle.stk_ctype.specs.declared.kind.IntKind.{IntKind}
use Rattle.stk_ctype.specs.declared.kind.IntKind.TheVariants as kind
use Rattle.stk_numbers.specs.Kinds.{width_of, is_bool, common}
use Rattle.stk_meaning.specs.Operations.{may_overflow}
use Rattle.stk_values.specs.Charges.{convert_charge}
use Rattle.stk_spending.specs.Charges.{most_tests}
use Rattle.stk_walking.specs.Costs.{Costs}

-- ---- numbers

pub sum_within : (a b c n m : ℕ) → b ≤ a + n → c ≤ b + m → c ≤ a + (n + m)
sum_within a b c n m h k = omega (arith, h, k)

within_more : (a b n m : ℕ) → b ≤ a + n → n ≤ m → b ≤ a + m
within_more a b n m h k = omega (arith, h, k)

still_below : (x y n : ℕ) → y ≡ x → x ≤ n → y ≤ n
still_below x y n e h = omega (arith, e, h)

free_within : (a b : ℕ) → b ≤ a → b ≤ a + 0
free_within a b h = omega (arith, h)

pub no_charge : (a b : ℕ) → b ≤ a + 0 → b ≤ a
no_charge a b h = omega (arith, h)

pub two_within : (x y p q r : ℕ) → x ≤ p → y ≤ q → p + q ≤ r → x + y ≤ r
two_within x y p q r h k m = omega (arith, h, k, m)

pub sum_most : (a b c n m r : ℕ) → b ≤ a + n → c ≤ b + m → n + m ≤ r → c ≤ a + r
sum_most a b c n m r h k w = omega (arith, h, k, w)

behind_free : (a b c n : ℕ) → b ≤ a → c ≤ b + n → c ≤ a + n
behind_free a b c n h k = omega (arith, h, k)

free_behind : (a b c n : ℕ) → b ≤ a + n → c ≤ b → c ≤ a + n
free_behind a b c n h k = omega (arith, h, k)

counted_within : (a b n x kept : ℕ) → n ≤ x → x ≤ kept → b ≤ a + 3 * n → b ≤ a + 3 * kept
counted_within a b n x kept h k p = omega (arith, h, k, p)

-- the same, where some of the numbers are found
pub plus : (a n m : ℕ) {b c : ℕ} → b ≤ a + n → c ≤ b + m → c ≤ a + (n + m)
plus a n m {b} {c} h k = sum_within a b c n m h k

pub free_first : (n : ℕ) {a b c : ℕ} → b ≤ a → c ≤ b + n → c ≤ a + n
free_first n {a} {b} {c} h k = behind_free a b c n h k

pub free_last : (a n : ℕ) {b c : ℕ} → b ≤ a + n → c ≤ b → c ≤ a + n
free_last a n {b} {c} h k = free_behind a b c n h k

pub at_most : (a : ℕ) {b n m : ℕ} → b ≤ a + n → n ≤ m → b ≤ a + m
at_most a {b} {n} {m} h k = within_more a b n m h k

pub free_by : (a : ℕ) {b n m : ℕ} → n ≡ m → b ≤ a + n → b ≤ a + m
free_by a {b} {n} {m} e h = omega (arith, e, h)

-- what holds whatever is answered
pub on_ok_all : {T E P : Type 0} (r : Result T E) → P → OnOk r P
on_ok_all (Ok x) p = p
on_ok_all (Err e) p = tt

-- ---- parts

module _ {S : Type 0} {cost : S → ℕ} {kept : ℕ} where
  -- one that leaves the kept objects as they are
  pub costs_only : {a b : S} {x y n : ℕ} → y ≡ x → cost b ≤ cost a + n → Costs cost kept n a b x y
  costs_only e h = record { cells = e; within = λ k. h }

  pub costs_free : {a b : S} {x y : ℕ} → y ≡ x → cost b ≤ cost a → Costs cost kept 0 a b x y
  costs_free {a} {b} e h = record { cells = e; within = λ k. free_within (cost a) (cost b) h }

  pub costs_none : {a : S} {x : ℕ} → Costs cost kept 0 a a x x
  costs_none {a} = record { cells = refl; within = λ k. free_within (cost a) (cost a) (omega arith) }

  -- one behind another
  pub costs_then : {a b c : S} {x y z n m : ℕ} → Costs cost kept n a b x y → Costs cost kept m b c y z → Costs cost kept (n + m) a c x z
  costs_then {a} {b} {c} {x} {y} {z} {n} {m} p q = record { cells = q.cells ∙ p.cells; within = λ k. sum_within (cost a) (cost b) (cost c) n m (p.within k) (q.within (still_below x y kept p.cells k)) }

  -- and one that counts for more
  pub costs_within : {a b : S} {x y n : ℕ} (m : ℕ) → n ≤ m → Costs cost kept n a b x y → Costs cost kept m a b x y
  costs_within {a} {b} {x} {y} {n} m h p = record { cells = p.cells; within = λ k. within_more (cost a) (cost b) n m (p.within k) h }

  -- one that changes nothing but the store
  pub costs_store : {a b : S} {x n : ℕ} → cost b ≤ cost a + n → Costs cost kept n a b x x
  costs_store h = record { cells = refl; within = λ k. h }

  -- one that begins where the store has changed
  pub costs_cells : {a b : S} {x y z n : ℕ} → y ≡ x → Costs cost kept n a b y z → Costs cost kept n a b x z
  costs_cells {a} {b} {x} {y} e p = record { cells = p.cells ∙ e; within = λ k. p.within (still_below x y kept e k) }

  -- one behind a change of the store, or before one, that costs nothing
  pub costs_after : {a b c : S} {x y n : ℕ} → cost b ≤ cost a → Costs cost kept n b c x y → Costs cost kept n a c x y
  costs_after {a} {b} {c} {x} {y} {n} h p = record { cells = p.cells; within = λ k. behind_free (cost a) (cost b) (cost c) n h (p.within k) }

  pub costs_before : {a b c : S} {x y n : ℕ} → Costs cost kept n a b x y → cost c ≤ cost b → Costs cost kept n a c x y
  costs_before {a} {b} {c} {x} {y} {n} p h = record { cells = p.cells; within = λ k. free_behind (cost a) (cost b) (cost c) n (p.within k) h }

  -- and one that costs something
  pub costs_more : (m : ℕ) {a b c : S} {x y n : ℕ} → Costs cost kept n a b x y → cost c ≤ cost b + m → Costs cost kept (n + m) a c x y
  costs_more m {a} {b} {c} {x} {y} {n} p h = record { cells = p.cells; within = λ k. sum_within (cost a) (cost b) (cost c) n m (p.within k) h }

  -- a pass over the kept objects, 3 for each of some of them
  pub costs_counted : {a b : S} {x y : ℕ} (n : ℕ) → y ≡ x → n ≤ x → cost b ≤ cost a + 3 * n → Costs cost kept (3 * kept) a b x y
  costs_counted {a} {b} {x} {y} n e h p = record { cells = e; within = λ k. counted_within (cost a) (cost b) n x kept h k p }

  -- one that leaves the kept objects as they are, behind another: it costs something, and nothing
  pub costs_step : (m : ℕ) {a b c : S} {x y z n : ℕ} → Costs cost kept n a b x y → z ≡ y → cost c ≤ cost b + m → Costs cost kept (n + m) a c x z
  costs_step m p e h = costs_then p (costs_only e h)

  pub costs_still : {a b c : S} {x y z n : ℕ} → Costs cost kept n a b x y → z ≡ y → cost c ≤ cost b → Costs cost kept n a c x z
  costs_still {a} {b} {c} {x} {y} {z} {n} p e h = record { cells = e ∙ p.cells; within = λ k. free_behind (cost a) (cost b) (cost c) n (p.within k) h }

-- the same of what is answered, where that is no lack of memory
pub costs_on_ok : {S T E : Type 0} (cost : S → ℕ) (kept : ℕ) (a b : S) (x y n : ℕ) (r : Result T E) (m : ℕ) → n ≤ m → OnOk r (Costs cost kept n a b x y) → OnOk r (Costs cost kept m a b x y)
costs_on_ok cost kept a b x y n (Ok v) m h p = costs_within m h p
costs_on_ok cost kept a b x y n (Err v) m h p = tt

-- ---- lists

-- what the parts so far cost, and that what the rest may cost completes what all may cost
pub record SpentSoFar {S : Type 0} (cost : S → ℕ) (kept whole rest : ℕ) (a b : S) (x y : ℕ) : Type 0 where
  pub so_far : ℕ
  pub costs : Costs cost kept so_far a b x y
  pub completes : so_far + rest ≡ whole

-- the same of calls of a store alone
pub record ChargedSoFar (before after whole rest : ℕ) : Type 0 where
  pub so_far : ℕ
  pub within : after ≤ before + so_far
  pub completes : so_far + rest ≡ whole

pub one_completes : (n v r w : ℕ) → n + (v + r) ≡ w → n + v + r ≡ w
one_completes n v r w e = omega (arith, e)

pub two_complete : (n u v r w : ℕ) → n + (u + v + r) ≡ w → n + u + v + r ≡ w
two_complete n u v r w e = omega (arith, e)

pub all_complete : (n r w : ℕ) → r ≡ 0 → n + r ≡ w → n ≤ w
all_complete n r w h e = omega (arith, h, e)

pub spent_all : {S : Type 0} {cost : S → ℕ} {kept whole rest : ℕ} {a b : S} {x y : ℕ} → rest ≡ 0 → SpentSoFar cost kept whole rest a b x y → Costs cost kept whole a b x y
spent_all {S} {cost} {kept} {whole} {rest} e p = costs_within whole (all_complete p.so_far rest whole e p.completes) p.costs

pub charged_all : {before after whole rest : ℕ} → rest ≡ 0 → ChargedSoFar before after whole rest → after ≤ before + whole
charged_all {before} {after} {whole} {rest} e p = within_more before after p.so_far whole p.within (all_complete p.so_far rest whole e p.completes)

-- ---- charges

-- an operator's conditions are as many as it may have
pub tests_of_operator : (op : ArithOp) (n : ℕ) → (if may_overflow op then n else 0) + (if divides op then n else 0) ≤ most_tests op * n
tests_of_operator arith_op.Add n = omega arith
tests_of_operator arith_op.Sub n = omega arith
tests_of_operator arith_op.Mul n = omega arith
tests_of_operator arith_op.Div n = omega arith
tests_of_operator arith_op.Rem n = omega arith
tests_of_operator arith_op.And n = omega arith
tests_of_operator arith_op.Xor n = omega arith
tests_of_operator arith_op.Or n = omega arith

-- a comparison in the common kind of a kind and `int`
pub replaced_within : (a k : IntKind) → convert_charge a (common k kind.Int) + 10 * width_of (common k kind.Int) ≤ 640
replaced_within a kind.Bool = omega arith
replaced_within a kind.Char = omega arith
replaced_within a kind.SChar = omega arith
replaced_within a kind.UChar = omega arith
replaced_within a kind.Short = omega arith
replaced_within a kind.UShort = omega arith
replaced_within a kind.Int = omega arith
replaced_within a kind.UInt = omega arith
replaced_within a kind.Long = omega arith
replaced_within a kind.ULong = omega arith
replaced_within a kind.LLong = omega arith
replaced_within a kind.ULLong = omega arith

-- 64 bits are the most
pub width_most : (k : IntKind) → width_of k ≤ 64
width_most kind.Bool = omega arith
width_most kind.Char = omega arith
width_most kind.SChar = omega arith
width_most kind.UChar = omega arith
width_most kind.Short = omega arith
width_most kind.UShort = omega arith
width_most kind.Int = omega arith
width_most kind.UInt = omega arith
width_most kind.Long = omega arith
width_most kind.ULong = omega arith
width_most kind.LLong = omega arith
width_most kind.ULLong = omega arith
