-- How often registers count behind a part of a walk: what is kept of each register, and of the branches and loops that
-- are open.
use Rattle.std.specs.Prelude.{ℕ, ◌≡◌, ◌+◌, ◌≤◌, ◌<◌, ◌==◌, List, [], ◌∷◌, length, filter, get_or}
use Rattle.stk_weights.specs.declared.events.Event.{Event}
use Rattle.stk_weights.specs.declared.counting.Register.{Register}
use Rattle.stk_weights.specs.Sums.{capped}
use Rattle.stk_weights.specs.Events.{Stand, passed}

-- a node that is no register
abbrev pub nothing : Register
nothing = record { count = 0; last = 0 }

abbrev pub count_in : List Register → ℕ → ℕ
count_in rows r = (get_or rows r nothing).count

abbrev pub last_in : List Register → ℕ → ℕ
last_in rows r = (get_or rows r nothing).last

-- how often a number is among others
abbrev pub times_in : ℕ → List ℕ → ℕ
times_in r rs = length (filter (λ j. j == r) rs)

-- numbers are below another
abbrev pub AllBelow : ℕ → List ℕ → Type 0
AllBelow n [] = Unit {0}
AllBelow n (r ∷ rs) = (r < n) × AllBelow n rs

-- a sum over numbers
abbrev pub total : (ℕ → ℕ) → List ℕ → ℕ
total f [] = 0
total f (r ∷ rs) = f r + total f rs

-- where a walk begins, nothing is open
abbrev pub begun : Stand
begun = record { depth = 0; marked = 0; sum = 0 }

-- how often a register counts in a walk
abbrev pub passed_sum : List Event → ℕ → ℕ
passed_sum es r = (passed r es begun).sum

-- of the branches and loops that are open, by the places where they began, the first m began before the last assignment
-- of a register, and the others behind it
pub record IsMarked (begins : List ℕ) (last m : ℕ) : Type 0 where
  pub few : m ≤ length begins
  pub before : (j : ℕ) → j < m → get_or begins j 0 < last
  pub behind : (j : ℕ) → m ≤ j → j < length begins → last ≤ get_or begins j 0

-- what is kept of registers tells how each stands where so much of a walk is left
pub record IsCounting (registers : List ℕ) (events rest : List Event) (place : ℕ) (rows : List Register) (begins : List ℕ) (sum : ℕ) : Type 0 where
  pub each : ℕ → ℕ
  pub marked : ℕ → ℕ
  pub ahead : (r : ℕ) → r < length rows → passed r events begun ≡ passed r rest (record { depth = length begins; marked = marked r; sum = each r })
  pub stands : (r : ℕ) → r < length rows → IsMarked begins (last_in rows r) (marked r)
  pub past : (r : ℕ) → r < length rows → last_in rows r ≤ place
  pub opened : (j : ℕ) → j < length begins → get_or begins j 0 ≤ place
  pub counted : (r : ℕ) → r < length rows → count_in rows r ≡ times_in r registers
  pub known : AllBelow (length rows) registers
  pub summed : sum ≡ capped (total each registers)
