-- Right sides of rules: what stands for a term, said before it is made.
use Rattle.std.specs.Prelude.{◌≡◌, ℕ, ◌<◌, ◌≤◌, ◌^◌, Bool, true, false, List, length}
use Rattle.stk_terms.specs.declared.term.TermOp.TheVariants.{Ite}
use Rattle.stk_terms.specs.Terms.{Stored, term_at}
use Rattle.stk_terms.specs.Fitting.{arity, WidthsFit, AreResidues}
use Rattle.stk_terms.specs.Values.{width_by, number_by, width_at, number_at}
use Rattle.stk_terms.specs.Cost.{bound, IsClosed, Grows, bound_at}
use Rattle.stk_rewrite.specs.declared.right.Right.{Right}
use Rattle.stk_rewrite.specs.declared.right.Right.TheVariants.{Old, Leaf, Number, One, Two, Last, Chosen}
use Rattle.stk_rewrite.specs.Looks.{Look, look, look_number, is_constant}
use Rattle.stk_rewrite.specs.Rules.{is_left}
use Rattle.stk_rewrite.specs.Normal.{IsNormal}

-- its width
abbrev pub right_width : Stored → Right → ℕ
right_width s (Old a) = width_at s a.0
right_width s (Leaf a) = width_at s a.0
right_width s (Number w n) = w
right_width s (One op a) = width_by s.inputs op (width_at s a.0) 0
right_width s (Two op a b) = width_by s.inputs op (width_at s a.0) (width_at s b.0)
right_width s (Last op a w n) = width_by s.inputs op (width_at s a.0) w
right_width s (Chosen t a b) = width_at s a.0

-- its number for residues of the inputs
abbrev pub right_number : Stored → List ℕ → Right → ℕ
right_number s r (Old a) = number_at s r a.0
right_number s r (Leaf a) = number_at s r a.0
right_number s r (Number w n) = n
right_number s r (One op a) = number_by r op (width_at s a.0) 0 (number_at s r a.0) 0 0
right_number s r (Two op a b) = number_by r op (width_at s a.0) (width_at s b.0) (number_at s r a.0) (number_at s r b.0) 0
right_number s r (Last op a w n) = number_by r op (width_at s a.0) w (number_at s r a.0) n 0
right_number s r (Chosen t a b) = number_by r Ite 1 (width_at s a.0) (number_at s r t.0) (number_at s r a.0) (number_at s r b.0)

-- the bounds of what is made for it
abbrev pub right_bound : Stored → Right → ℕ
right_bound s (Old a) = 0
right_bound s (Leaf a) = bound_at s a.0
right_bound s (Number w n) = 0
right_bound s (One op a) = bound op (width_at s a.0) 0
right_bound s (Two op a b) = bound op (width_at s a.0) (width_at s b.0)
right_bound s (Last op a w n) = bound op (width_at s a.0) w
right_bound s (Chosen t a b) = bound Ite 1 (width_at s a.0)

-- a constant's width and number
abbrev pub IsWritten : ℕ → ℕ → Type 0
IsWritten w n = (1 ≤ w) × (w ≤ 128) × (n < 2 ^ w)

-- it can be made, and what is made is no left side
abbrev pub CanBuild : Stored → Right → Type 0
CanBuild s (Old a) = IsNormal s a.0
CanBuild s (Leaf a) = IsNormal s a.0 × (length (term_at s a.0).args ≡ 0)
CanBuild s (Number w n) = IsWritten w n
CanBuild s (One op a) = IsNormal s a.0 × (arity op ≡ 1) × WidthsFit s.inputs op (width_at s a.0) 0 0 × ((b c : Look) → is_left op (look s a.0) b c ≡ false)
CanBuild s (Two op a b) = IsNormal s a.0 × IsNormal s b.0 × (arity op ≡ 2) × WidthsFit s.inputs op (width_at s a.0) (width_at s b.0) 0 × ((c : Look) → is_left op (look s a.0) (look s b.0) c ≡ false)
CanBuild s (Last op a w n) = IsNormal s a.0 × IsWritten w n × (arity op ≡ 2) × WidthsFit s.inputs op (width_at s a.0) w 0 × (is_constant (term_at s a.0).op ≡ false) × ((k : ℕ) (c : Look) → (k ≡ a.0 → ⊥) → is_left op (look s a.0) (look_number k w n) c ≡ false)
CanBuild s (Chosen t a b) = IsNormal s t.0 × IsNormal s a.0 × IsNormal s b.0 × (width_at s t.0 ≡ 1) × (width_at s a.0 ≡ width_at s b.0) × (is_left Ite (look s t.0) (look s a.0) (look s b.0) ≡ false)

-- the terms that it names are chosen
abbrev pub HasAll : (ℕ → Bool) → Right → Type 0
HasAll chosen (Old a) = chosen a.0 ≡ true
HasAll chosen (Leaf a) = Unit
HasAll chosen (Number w n) = Unit
HasAll chosen (One op a) = chosen a.0 ≡ true
HasAll chosen (Two op a b) = (chosen a.0 ≡ true) × (chosen b.0 ≡ true)
HasAll chosen (Last op a w n) = chosen a.0 ≡ true
HasAll chosen (Chosen t a b) = (chosen t.0 ≡ true) × (chosen a.0 ≡ true) × (chosen b.0 ≡ true)

-- the term v of new is what the right side says in old
pub record IsBuilt (old new : Stored) (r : Right) (v : ℕ) : Type 0 where
  pub normal : IsNormal new v
  pub wide : width_at new v ≡ right_width old r
  pub value : (residues : List ℕ) → AreResidues old.inputs residues → number_at new residues v ≡ right_number old residues r
  pub grows : (chosen : ℕ → Bool) → IsClosed old chosen → HasAll chosen r → Grows old new chosen (right_bound old r) v

-- the right side r may stand for q: it can be built, and has q's width and numbers at no more than q's cost
pub record Replaces (s : Stored) (q r : Right) : Type 0 where
  pub built : CanBuild s r
  pub wide : right_width s r ≡ right_width s q
  pub value : (residues : List ℕ) → AreResidues s.inputs residues → right_number s residues r ≡ right_number s residues q
  pub cheap : right_bound s r ≤ right_bound s q
  pub from : (chosen : ℕ → Bool) → IsClosed s chosen → HasAll chosen q → HasAll chosen r

-- the right side r may stand for the term i
pub record StandsFor (s : Stored) (i : ℕ) (r : Right) : Type 0 where
  pub built : CanBuild s r
  pub wide : right_width s r ≡ width_at s i
  pub value : (residues : List ℕ) → AreResidues s.inputs residues → right_number s residues r ≡ number_at s residues i
  pub cheap : right_bound s r ≤ bound_at s i
