-- Marks that are counted one after the other.
use Rattle.std.proofs.Common.{◌≡◌, ℕ, suc, ◌+◌, ◌-◌, ◌^◌, ◌<◌, ◌≤◌, ◌⊎◌, inl, inr, List, [], ◌∷◌, ◌++◌, refl, sym, ap, ◌∙◌, arith}
use Rattle.stk_base.specs.Causes.{Rose}
use Rattle.stk_meaning.specs.declared.finding.Finding.{Finding}
use Rattle.stk_spent_queries.specs.Marks.{marks, all_marks, AreCounted}

-- ---- a count that goes on rising, or was lower before

rose_at : (before now : ℕ) → before ≤ now → 2 ^ 64 - 1 ≤ now → before ≤ 2 ^ 64 - 1 → Rose before now
rose_at before now up high low = grind arith

rose_later : (before middle now : ℕ) → Rose before middle → before ≤ middle → middle ≤ now → Rose before now
rose_later before middle now (inl less) low up = inl (omega (arith, less, up))
rose_later before middle now (inr at) low up = rose_at before now (omega (arith, low, up)) (omega (arith, at, up)) (omega (arith, at, low))

rose_earlier : (before middle now : ℕ) → before ≤ middle → Rose middle now → Rose before now
rose_earlier before middle now low (inl less) = inl (omega (arith, less, low))
rose_earlier before middle now low (inr at) = inr at

-- ---- marks

-- no mark needs no rise
pub counted_none : (before now : ℕ) → before ≤ now → AreCounted before now 0
counted_none before now h = record { enough = inl (omega (arith, h)); rose = λ some. absurd (omega (arith, some)) }

-- a rise tells of one mark
pub counted_one : (before now : ℕ) → Rose before now → AreCounted before now 1
counted_one before now (inl less) = record { enough = inl (omega (arith, less)); rose = λ some. inl less }
counted_one before now (inr at) = record { enough = inr (omega (arith, at)); rose = λ some. inr at }

both_enough : (before middle now m n : ℕ) → (before + m ≤ middle) ⊎ (2 ^ 64 - 1 ≤ middle) → (middle + n ≤ now) ⊎ (2 ^ 64 - 1 ≤ now) → middle ≤ now → (before + (m + n) ≤ now) ⊎ (2 ^ 64 - 1 ≤ now)
both_enough before middle now m n (inl h) (inl k) up = inl (omega (arith, h, k))
both_enough before middle now m n (inl h) (inr k) up = inr k
both_enough before middle now m n (inr h) k up = inr (omega (arith, h, up))

some_of_two : (m n : ℕ) → 0 < m + n → (0 < m) ⊎ (0 < n)
some_of_two m n h = grind arith

-- marks of a first stretch and of a second one
pub counted_more : (before middle now m n : ℕ) → before ≤ middle → middle ≤ now → AreCounted before middle m → AreCounted middle now n → AreCounted before now (m + n)
counted_more before middle now m n low up h k = record {
  enough = both_enough before middle now m n h.enough k.enough up;
  rose = λ some. elim (some_of_two m n some) [
    | inl first ↦ rose_later before middle now (h.rose first) low up
    | inr second ↦ rose_earlier before middle now low (k.rose second)
  ];
}

-- marks of a part of a stretch
pub counted_later : (before middle now n : ℕ) → before ≤ middle → middle ≤ now → AreCounted before middle n → AreCounted before now n
counted_later before middle now n low up h = record {
  enough = elim h.enough [ inl a ↦ inl (omega (arith, a, up)) | inr a ↦ inr (omega (arith, a, up)) ];
  rose = λ some. rose_later before middle now (h.rose some) low up;
}

pub counted_earlier : (before middle now n : ℕ) → before ≤ middle → AreCounted middle now n → AreCounted before now n
counted_earlier before middle now n low h = record {
  enough = elim h.enough [ inl a ↦ inl (omega (arith, a, low)) | inr a ↦ inr a ];
  rose = λ some. rose_earlier before middle now low (h.rose some);
}

-- marks of lists of findings, one behind the other
pub marks_append : (xs ys : List Finding) → all_marks (xs ++ ys) ≡ all_marks xs + all_marks ys
marks_append [] ys = omega arith
marks_append (x ∷ xs) ys = omega (arith, marks_append xs ys)
