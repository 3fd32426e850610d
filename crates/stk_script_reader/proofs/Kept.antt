-- What a store's terms are stays when it grows.
use Rattle.std.proofs.Common.{◌≡◌, ℕ, ◌<◌, List, [], ◌∷◌, length, refl, sym, ap, subst, ◌∙◌, arith}
use Rattle.std.specs.Prelude.{Some, Result, Ok, Err}
use Rattle.stk_terms.specs.declared.term.TermId.{TermId}
use Rattle.stk_terms.specs.declared.term.TermOp.{TermOp}
use Rattle.stk_terms.specs.Terms.{Stored}
use Rattle.stk_terms.specs.Fitting.{AreResidues}
use Rattle.stk_terms.specs.Growth.{Keeps}
use Rattle.stk_terms.specs.Values.{Bits as StoreBits, number_at, width_by, number_by, bit}
use Rattle.stk_scripts.specs.declared.operators.TestOp.{TestOp}
use Rattle.stk_scripts.specs.Syntax.{Expr}
use Rattle.stk_scripts.specs.Table.{test_truth}
use Rattle.stk_scripts.specs.Scripts.{bits, meaning, width_in, same_width}
use Rattle.stk_script_trees.specs.declared.fault.Fault.{Fault}
use Rattle.stk_script_trees.specs.declared.fault.Fault.TheVariants as fault
use Rattle.stk_script_reader.specs.Standing.{widths_named, bits_named, AllStand, IsTerm, IsTest, Stands, Tests, Known}
use Rattle.stk_script_reader.specs.Made.{IsLeaf, IsOne, IsTwo}
use Rattle.stk_script_reader.specs.declared.names.Names.{Names}

pub keeps_same : (s : Stored) → Keeps s s
keeps_same s = record { inputs_stay = refl; longer = omega arith; stand = λ i t e. e; meant = λ r i h. refl; wide = λ i h. refl }

pub keeps_then : (s t u : Stored) → Keeps s t → Keeps t u → Keeps s u
keeps_then s t u k l = record {
  inputs_stay = l.inputs_stay ∙ k.inputs_stay;
  longer = let a = k.longer in let b = l.longer in omega (arith, a, b);
  stand = λ i x e. l.stand i x (k.stand i x e);
  meant = λ r i h. l.meant r i (let a = k.longer in omega (arith, a, h)) ∙ k.meant r i h;
  wide = λ i h. l.wide i (let a = k.longer in omega (arith, a, h)) ∙ k.wide i h;
}

module _ (old new : Stored) (keeps : Keeps old new) where
  pub number_kept : (r : List ℕ) (i : ℕ) → i < length old.terms → number_at new r i ≡ number_at old r i
  number_kept r i h = ap (λ (b : StoreBits). b.number) (keeps.meant r i h)

  pub stand_kept : (names : List (List ℕ × ℕ)) → AllStand old names → AllStand new names
  stand_kept [] h = tt
  stand_kept (x ∷ xs) h = let l = keeps.longer in let b = h.0 in (omega (arith, l, b), stand_kept xs h.1)

  pub widths_kept : (names : List (List ℕ × ℕ)) → AllStand old names → widths_named new names ≡ widths_named old names
  widths_kept [] h = refl
  widths_kept (x ∷ xs) h = λ i. (x.0, keeps.wide x.1 h.0 i) ∷ widths_kept xs h.1 i

  pub bits_kept : (r : List ℕ) (names : List (List ℕ × ℕ)) → AllStand old names → bits_named new r names ≡ bits_named old r names
  bits_kept r [] h = refl
  bits_kept r (x ∷ xs) h = λ i. (x.0, bits (keeps.wide x.1 h.0 i) (number_kept r x.1 h.0 i)) ∷ bits_kept r xs h.1 i

  pub residues_kept : (r : List ℕ) → AreResidues new.inputs r → AreResidues old.inputs r
  residues_kept r h = subst (λ ws. AreResidues ws r) keeps.inputs_stay h

  pub term_kept : (names : List (List ℕ × ℕ)) (e : Expr) (j : ℕ) → IsTerm old names e j → IsTerm new names e j
  term_kept names e j t = record {
    named = stand_kept names t.named;
    there = let l = keeps.longer in let b = t.there in omega (arith, l, b);
    wide = ap (λ g. width_in g e) (widths_kept names t.named) ∙ t.wide ∙ ap (λ w. Some w) (sym (keeps.wide j t.there));
    means = λ r h.
        ap (λ g. meaning g e) (bits_kept r names t.named) ∙ t.means r (residues_kept r h)
        ∙ (λ i. bits (sym (keeps.wide j t.there) i) (sym (number_kept r j t.there) i));
  }

  pub test_kept : (names : List (List ℕ × ℕ)) (op : TestOp) (e f : Expr) (j : ℕ) → IsTest old names op e f j → IsTest new names op e f j
  test_kept names op e f j t = record {
    named = stand_kept names t.named;
    there = let l = keeps.longer in let b = t.there in omega (arith, l, b);
    one = keeps.wide j t.there ∙ t.one;
    width = t.width;
    left = ap (λ g. width_in g e) (widths_kept names t.named) ∙ t.left;
    right = ap (λ g. width_in g f) (widths_kept names t.named) ∙ t.right;
    value = λ r h.
        number_kept r j t.there ∙ t.value r (residues_kept r h)
        ∙ ap (λ g. bit (test_truth op (meaning g e).width (meaning g e).number (meaning g f).number)) (sym (bits_kept r names t.named));
  }

  -- what is made later is made of the older store
  pub later : (s : Stored) (names : List (List ℕ × ℕ)) (e : Expr) (r : Result TermId Fault) → AllStand old names → Stands new s names e r → Stands old s names e r
  later s names e (Ok id) h t = t
  later s names e (Err fault.Bad) h t = ap (λ g. width_in g e) (sym (widths_kept names h)) ∙ t
  later s names e (Err fault.NoMemory) h t = tt

  pub later_test : (s : Stored) (names : List (List ℕ × ℕ)) (op : TestOp) (e f : Expr) (r : Result TermId Fault) → AllStand old names → Tests new s names op e f r → Tests old s names op e f r
  later_test s names op e f (Ok id) h t = t
  later_test s names op e f (Err fault.Bad) h t = ap (λ g. same_width (width_in g e) (width_in g f)) (sym (widths_kept names h)) ∙ t
  later_test s names op e f (Err fault.NoMemory) h t = tt

  pub leaf_kept : (op : TermOp) (j : ℕ) → IsLeaf old op j → IsLeaf new op j
  leaf_kept op j l = record {
    there = let m = keeps.longer in let b = l.there in omega (arith, m, b);
    wide = keeps.wide j l.there ∙ l.wide ∙ ap (λ ws. width_by ws op 0 0) (sym keeps.inputs_stay);
    value = λ r. number_kept r j l.there ∙ l.value r;
  }

  pub one_kept : (op : TermOp) (a j : ℕ) → a < length old.terms → IsOne old op a j → IsOne new op a j
  one_kept op a j h l = record {
    there = let m = keeps.longer in let b = l.there in omega (arith, m, b);
    wide = keeps.wide j l.there ∙ l.wide ∙ (λ i. width_by (sym keeps.inputs_stay i) op (sym (keeps.wide a h) i) 0);
    value = λ r. number_kept r j l.there ∙ l.value r ∙ (λ i. number_by r op (sym (keeps.wide a h) i) 0 (sym (number_kept r a h) i) 0 0);
  }

  pub two_kept : (op : TermOp) (a b j : ℕ) → a < length old.terms → b < length old.terms → IsTwo old op a b j → IsTwo new op a b j
  two_kept op a b j h k l = record {
    there = let m = keeps.longer in let n = l.there in omega (arith, m, n);
    wide = keeps.wide j l.there ∙ l.wide ∙ (λ i. width_by (sym keeps.inputs_stay i) op (sym (keeps.wide a h) i) (sym (keeps.wide b k) i));
    value = λ r. number_kept r j l.there ∙ l.value r ∙ (λ i. number_by r op (sym (keeps.wide a h) i) (sym (keeps.wide b k) i) (sym (number_kept r a h) i) (sym (number_kept r b k) i) 0);
  }

pub known_kept : (table : Names) (old new : Stored) → Keeps old new → Known table old → Known table new
known_kept table old new keeps k = record { names = k.names; stand = k.stand; exist = stand_kept old new keeps k.names k.exist }

pub longer_kept : (old new : Stored) (i : ℕ) → Keeps old new → i < length old.terms → i < length new.terms
longer_kept old new i keeps h = let m = keeps.longer in omega (arith, m, h)
