-- Terms of their parts, made one after the other.
use Rattle.std.proofs.Common.{◌≡◌, ℕ, ◌<◌, List, length, refl, sym, ap, subst, ◌∙◌}
use Rattle.std.specs.Prelude.{Option, Some, None, Result, Err}
use Rattle.stk_terms.specs.declared.term.TermId.{TermId}
use Rattle.stk_terms.specs.Terms.{Stored}
use Rattle.stk_terms.specs.Growth.{Keeps}
use Rattle.stk_scripts.specs.declared.operators.TestOp.{TestOp}
use Rattle.stk_scripts.specs.Syntax.{Expr, chosen}
use Rattle.stk_scripts.specs.Scripts.{width_in, same_width, joined_width, tested_width}
use Rattle.stk_script_trees.specs.declared.fault.Fault.{Fault}
use Rattle.stk_script_trees.specs.declared.fault.Fault.TheVariants as fault
use Rattle.stk_script_trees.specs.Gives.{IsBad}
use Rattle.stk_script_reader.specs.declared.names.Names.{Names}
use Rattle.stk_script_reader.specs.Names.{StandsFor}
use Rattle.stk_script_reader.specs.Standing.{widths_named, AllStand, IsTerm, IsTest, Stands, Tests, Known, Makes}
use Rattle.stk_script_reader.proofs.Kept.{keeps_then, stand_kept, widths_kept, term_kept, test_kept, later, later_test}

-- ---- widths of what doesn't fit

pub same_second : (o : Option ℕ) → same_width o None ≡ None
same_second None = refl
same_second (Some w) = refl

pub joined_second : (o : Option ℕ) → joined_width o None ≡ None
joined_second None = refl
joined_second (Some w) = refl

pub tested_second : (o : Option ℕ) → tested_width o None ≡ None
tested_second None = refl
tested_second (Some w) = refl

module _ (table : Names) where
  -- a part that was made
  abbrev pub Part : Stored → Stored → Expr → ℕ → Type 0
  Part old s e j = (names : List (List ℕ × ℕ)) → StandsFor table names → AllStand old names → IsTerm s names e j

  -- what stands for nothing has no width in any names
  abbrev pub Strict : (Expr → Expr) → Type 0
  Strict F = (g : List (List ℕ × ℕ)) (e : Expr) → width_in g e ≡ None → width_in g (F e) ≡ None

  -- the place of a part is there
  pub placed : (old s : Stored) (e : Expr) (j : ℕ) → Known table old → Part old s e j → j < length s.terms
  placed old s e j k p = (p k.names k.stand k.exist).there

  pub part_kept : (old s t : Stored) (e : Expr) (j : ℕ) → Keeps s t → Part old s e j → Part old t e j
  part_kept old s t e j k p = λ names stand exist. term_kept s t k names e j (p names stand exist)

  pub part_later : (old s t : Stored) (e : Expr) (j : ℕ) → Keeps old s → Part s t e j → Part old t e j
  part_later old s t e j k p = λ names stand exist. p names stand (stand_kept old s k names exist)

  -- a part that doesn't fit
  pub failed : (F : Expr → Expr) → Strict F → (old s new : Stored) → Keeps old s → (e whole : Expr) → whole ≡ F e → (f : Fault) → Makes table s new e (Err f) → Makes table old new whole (Err f)
  failed F strict old s new keeps e whole v fault.Bad m = λ names stand exist.
      ap (width_in (widths_named old names)) v ∙ strict (widths_named old names) e (later old s keeps new names e (Err fault.Bad) exist (m names stand (stand_kept old s keeps names exist)))
  failed F strict old s new keeps e whole v fault.NoMemory m = λ names stand exist. tt

  -- an operator on one part
  pub whole_one : (F : Expr → Expr) (old s new : Stored) → Keeps old s → (e whole : Expr) (a : ℕ) (r : Result TermId Fault) → whole ≡ F e → Part old s e a
      → ((names : List (List ℕ × ℕ)) (e : Expr) → IsTerm s names e a → Stands s new names (F e) r) → Makes table old new whole r
  whole_one F old s new keeps e whole a r v p op = λ names stand exist.
      subst (λ x. Stands old new names x r) (sym v) (later old s keeps new names (F e) r exist (op names e (p names stand exist)))

  -- an operator on two parts
  pub whole_two : (F : Expr → Expr → Expr) (old s t new : Stored) → Keeps old s → Keeps s t → (e f whole : Expr) (a b : ℕ) (r : Result TermId Fault) → whole ≡ F e f → Part old s e a → Part s t f b
      → ((names : List (List ℕ × ℕ)) (e f : Expr) → IsTerm t names e a → IsTerm t names f b → Stands t new names (F e f) r) → Makes table old new whole r
  whole_two F old s t new k l e f whole a b r v p q op = λ names stand exist.
      subst (λ x. Stands old new names x r) (sym v) (later old t (keeps_then old s t k l) new names (F e f) r exist (op names e f (term_kept s t l names e a (p names stand exist)) (q names stand (stand_kept old s k names exist))))

  -- a comparison that was made
  abbrev pub Compared : Stored → Stored → TestOp → Expr → Expr → ℕ → Type 0
  Compared old s op e f j = (names : List (List ℕ × ℕ)) → StandsFor table names → AllStand old names → IsTest s names op e f j

  pub compared : (op : TestOp) (old s t u : Stored) → Keeps old s → Keeps s t → (e f : Expr) (a b j : ℕ) → Part old s e a → Part s t f b
      → ((names : List (List ℕ × ℕ)) (e f : Expr) → IsTerm t names e a → IsTerm t names f b → IsTest u names op e f j) → Compared old u op e f j
  compared op old s t u k l e f a b j p q make = λ names stand exist. make names e f (term_kept s t l names e a (p names stand exist)) (q names stand (stand_kept old s k names exist))

  -- a comparison of parts that don't fit
  pub uncompared : (op : TestOp) (old s t u : Stored) → Keeps old s → Keeps s t → (e f g h whole : Expr) (a b : ℕ) → whole ≡ chosen op e f g h → Part old s e a → Part s t f b → (fail : Fault)
      → ((names : List (List ℕ × ℕ)) (e f : Expr) → IsTerm t names e a → IsTerm t names f b → Tests t u names op e f (Err fail)) → Makes table old u whole (Err fail)
  uncompared op old s t u k l e f g h whole a b v p q fault.Bad make = λ names stand exist.
      let none = make names e f (term_kept s t l names e a (p names stand exist)) (q names stand (stand_kept old s k names exist)) in
      ap (width_in (widths_named old names)) v
      ∙ ap (λ ws. tested_width (same_width (width_in ws e) (width_in ws f)) (same_width (width_in ws g) (width_in ws h))) (sym (widths_kept old t (keeps_then old s t k l) names exist))
      ∙ ap (λ o. tested_width o (same_width (width_in (widths_named t names) g) (width_in (widths_named t names) h))) none
  uncompared op old s t u k l e f g h whole a b v p q fault.NoMemory make = λ names stand exist. tt

  -- a choice by a comparison
  pub whole_choice : (op : TestOp) (old u x y new : Stored) → Keeps old u → Keeps u x → Keeps x y → (e f g h whole : Expr) (c a b : ℕ) (r : Result TermId Fault) → whole ≡ chosen op e f g h → Compared old u op e f c → Part u x g a → Part x y h b
      → ((names : List (List ℕ × ℕ)) (op : TestOp) (e f g h : Expr) → IsTest y names op e f c → IsTerm y names g a → IsTerm y names h b → Stands y new names (chosen op e f g h) r) → Makes table old new whole r
  whole_choice op old u x y new k l m e f g h whole c a b r v p q n make = λ names stand exist.
      let there = stand_kept old u k names exist in
      let more = stand_kept u x l names there in
      let kept = keeps_then old x y (keeps_then old u x k l) m in
      subst (λ z. Stands old new names z r) (sym v) (later old y kept new names (chosen op e f g h) r exist
      (make names op e f g h (test_kept u y (keeps_then u x y l m) names op e f c (p names stand exist)) (term_kept x y m names g a (q names stand there)) (n names stand more)))

  -- a term that doesn't fit has no width
  pub bad_none : (old new : Stored) (e : Expr) (f : Fault) → f ≡ fault.Bad → Makes table old new e (Err f) → (names : List (List ℕ × ℕ)) → StandsFor table names → AllStand old names → width_in (widths_named old names) e ≡ None
  bad_none old new e fault.Bad b m names stand exist = m names stand exist
  bad_none old new e fault.NoMemory b m names stand exist = absurd cc

  -- a comparison of a part that doesn't fit
  pub left_fails : (op : TestOp) (old new : Stored) (e e' g : Expr) → e ≡ e' → (f : Fault) → Makes table old new e (Err f) → (names : List (List ℕ × ℕ)) → StandsFor table names → AllStand old names → Tests old new names op e' g (Err f)
  left_fails op old new e e' g v fault.Bad m names stand exist = ap (λ w. same_width w (width_in (widths_named old names) g)) (ap (width_in (widths_named old names)) (sym v) ∙ m names stand exist)
  left_fails op old new e e' g v fault.NoMemory m names stand exist = tt

  pub right_fails : (op : TestOp) (old s new : Stored) → Keeps old s → (e g g' : Expr) → g ≡ g' → (f : Fault) → Makes table s new g (Err f) → (names : List (List ℕ × ℕ)) → StandsFor table names → AllStand old names → Tests old new names op e g' (Err f)
  right_fails op old s new keeps e g g' v fault.Bad m names stand exist =
      ap (same_width (width_in (widths_named old names) e)) (ap (width_in (widths_named old names)) (sym v) ∙ later old s keeps new names g (Err fault.Bad) exist (m names stand (stand_kept old s keeps names exist))) ∙ same_second (width_in (widths_named old names) e)
  right_fails op old s new keeps e g g' v fault.NoMemory m names stand exist = tt

  -- a comparison of two parts
  pub whole_test : (op : TestOp) (old s t new : Stored) → Keeps old s → Keeps s t → (e e' f f' : Expr) (a b : ℕ) (r : Result TermId Fault) → e ≡ e' → f ≡ f' → Part old s e a → Part s t f b
      → ((names : List (List ℕ × ℕ)) (e f : Expr) → IsTerm t names e a → IsTerm t names f b → Tests t new names op e f r)
      → (names : List (List ℕ × ℕ)) → StandsFor table names → AllStand old names → Tests old new names op e' f' r
  whole_test op old s t new k l e e' f f' a b r v w p q make = λ names stand exist.
      later_test old t (keeps_then old s t k l) new names op e' f' r exist
      (make names e' f' (subst (λ x. IsTerm t names x a) v (term_kept s t l names e a (p names stand exist))) (subst (λ x. IsTerm t names x b) w (q names stand (stand_kept old s k names exist))))

pub is_bad : {X : Type 0} (r : Result X Fault) (f : Fault) → r ≡ Err f → IsBad r → f ≡ fault.Bad
is_bad r f e b = subst IsBad e b
