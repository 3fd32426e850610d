-- The numbers that legal words ask for are within their bounds: a budget is from 1 to 200,000, there are at most 1,000
-- functions, and candidates are counted from 1; and no words ask for two of a script, a bundle and a generated text.
use Rattle.std.proofs.Common.{◌≡◌, ◌≤◌, ℕ, Bool, true, false, List, Option, Some, None, refl, sym, subst, arith}
use Rattle.std.specs.Prelude.{unwrap_or, IfSome}
use Rattle.std.specs.Option.{option_zip}
use Rattle.stk_records.specs.declared.options.Options.{Options}
use Rattle.stk_records.specs.declared.options.AskedScript.{AskedScript}
use Rattle.stk_records.specs.declared.options.Item.{Item}
use Rattle.stk_records.specs.declared.options.Seen.{Seen}
use Rattle.stk_records.specs.declared.items.Form.{Form}
use Rattle.stk_records.specs.declared.items.Form.TheVariants as form
use Rattle.stk_records.specs.Words.{usual_budget, options_of, nothing_seen, with_item, may_stand, stand_together, item_of, IsText, IsItem, by_itself, apart, joined, AreItems, no_more, then_item, AreLegal}

-- the numbers so far
record AreBounded (seen : Seen) : Type 0 where
  least : 1 ≤ unwrap_or seen.budget usual_budget
  most : unwrap_or seen.budget usual_budget ≤ 200000
  few : IfSome seen.functions (λ n. n ≤ 1000)
  counted : IfSome seen.script (λ asked. 1 ≤ asked.number)

one_some : {x y : Item} → Some x ≡ Some y → x ≡ y
one_some e = cc

with_text : (seen : Seen) (f : Form) (text : List ℕ) (x : Item) → IsText f text x → AreBounded seen → AreBounded (with_item seen x)
with_text seen form.Json text x t so = absurd t
with_text seen form.Budget text x t so = subst (λ y. AreBounded (with_item seen y)) (sym t.1) (record { least = t.2.from; most = t.2.to; few = so.few; counted = so.counted })
with_text seen form.Without text x t so = subst (λ y. AreBounded (with_item seen y)) (sym t.1) (record { least = so.least; most = so.most; few = so.few; counted = so.counted })
with_text seen form.Generate text x t so = subst (λ y. AreBounded (with_item seen y)) (sym t.1) (record { least = so.least; most = so.most; few = so.few; counted = so.counted })
with_text seen form.Functions text x t so = subst (λ y. AreBounded (with_item seen y)) (sym t.1) (record { least = so.least; most = so.most; few = t.2.to; counted = so.counted })
with_text seen form.Smt text x t so = subst (λ y. AreBounded (with_item seen y)) (sym t.1) (record { least = so.least; most = so.most; few = so.few; counted = t.2.from })
with_text seen form.Bundle text x t so = absurd t
with_text seen form.SmtHit text x t so = subst (λ y. AreBounded (with_item seen y)) (sym t.1) (record { least = so.least; most = so.most; few = so.few; counted = t.2.from })

with_itself : (seen : Seen) (f : Form) (x : Item) → item_of f ≡ Some x → AreBounded seen → AreBounded (with_item seen x)
with_itself seen form.Json x i so = subst (λ y. AreBounded (with_item seen y)) (one_some i) (record { least = so.least; most = so.most; few = so.few; counted = so.counted })
with_itself seen form.Budget x i so = absurd cc
with_itself seen form.Without x i so = absurd cc
with_itself seen form.Generate x i so = absurd cc
with_itself seen form.Functions x i so = absurd cc
with_itself seen form.Smt x i so = absurd cc
with_itself seen form.SmtHit x i so = absurd cc
with_itself seen form.Bundle x i so = subst (λ y. AreBounded (with_item seen y)) (one_some i) (record { least = so.least; most = so.most; few = so.few; counted = so.counted })

with_one : {words left : List (List ℕ)} {x : Item} (seen : Seen) → IsItem words x left → AreBounded seen → AreBounded (with_item seen x)
with_one {x = x} seen (by_itself f e i) so = with_itself seen f x i so
with_one seen (apart f e t) so = with_text seen f _ _ t so
with_one seen (joined f text e t) so = with_text seen f text _ t so

-- what the last of them ask for
record AreWithin (o : Options) : Type 0 where
  least : 1 ≤ o.budget
  most : o.budget ≤ 200000
  few : IfSome o.generate (λ asked. asked.1 ≤ 1000)
  counted : IfSome o.script (λ asked. 1 ≤ asked.number)
  apart : (asked : AskedScript) → o.script ≡ Some asked → (o.generate ≡ None) × (o.bundle ≡ false)
  bundled : o.bundle ≡ true → o.generate ≡ None

few_of_both : (m n : Option ℕ) → IfSome n (λ n. n ≤ 1000) → IfSome (option_zip m n) (λ asked. asked.1 ≤ 1000)
few_of_both None n few = tt
few_of_both (Some m) None few = tt
few_of_both (Some m) (Some n) few = few

-- what asks for a script asks neither for a generated text nor for a bundle
no_text : (m n : Option ℕ) (script : Option AskedScript) (bundle objects : Bool) (asked : AskedScript) → may_stand m n script bundle objects ≡ true → script ≡ Some asked → (option_zip m n ≡ None) × (bundle ≡ false)
no_text (Some m) None script bundle objects asked together e = absurd cc
no_text None (Some n) script bundle objects asked together e = absurd cc
no_text (Some m) (Some n) None bundle objects asked together e = absurd cc
no_text (Some m) (Some n) (Some other) bundle objects asked together e = absurd cc
no_text None None None bundle objects asked together e = absurd cc
no_text None None (Some other) true objects asked together e = absurd cc
no_text None None (Some other) false objects asked together e = (refl, refl)

-- what asks for a bundle doesn't ask for a generated text
no_generated : (m n : Option ℕ) (script : Option AskedScript) (bundle objects : Bool) → may_stand m n script bundle objects ≡ true → bundle ≡ true → option_zip m n ≡ None
no_generated (Some m) None script bundle objects together e = refl
no_generated None n script bundle objects together e = refl
no_generated (Some m) (Some n) None false objects together e = absurd cc
no_generated (Some m) (Some n) None true objects together e = absurd cc
no_generated (Some m) (Some n) (Some other) bundle objects together e = absurd cc

within : (seen : Seen) → stand_together seen ≡ true → AreBounded seen → AreWithin (options_of seen)
within seen together so = record {
  least = so.least;
  most = so.most;
  few = few_of_both seen.generate seen.functions so.few;
  counted = so.counted;
  apart = λ asked e. no_text seen.generate seen.functions seen.script seen.bundle seen.json asked together e;
  bundled = λ e. no_generated seen.generate seen.functions seen.script seen.bundle seen.json together e;
}

with_all : {seen : Seen} {words : List (List ℕ)} {o : Options} → AreBounded seen → AreItems seen words o → AreWithin o
with_all {seen = seen} so (no_more together e) = subst AreWithin (sym e) (within seen together so)
with_all so (then_item i free others) = with_all (with_one _ i so) others

-- of no items
of_none : AreBounded nothing_seen
of_none = record { least = omega arith; most = omega arith; few = tt; counted = tt }

bounded : {words : List (List ℕ)} {o : Options} → AreLegal words o → AreWithin o
bounded legal = with_all of_none legal

pub legal_least : {words : List (List ℕ)} {o : Options} → AreLegal words o → 1 ≤ o.budget
legal_least legal = (bounded legal).least

pub legal_most : {words : List (List ℕ)} {o : Options} → AreLegal words o → o.budget ≤ 200000
legal_most legal = (bounded legal).most

pub legal_few : {words : List (List ℕ)} {o : Options} → AreLegal words o → IfSome o.generate (λ asked. asked.1 ≤ 1000)
legal_few legal = (bounded legal).few

pub legal_counted : {words : List (List ℕ)} {o : Options} → AreLegal words o → IfSome o.script (λ asked. 1 ≤ asked.number)
legal_counted legal = (bounded legal).counted

pub legal_apart : {words : List (List ℕ)} {o : Options} (asked : AskedScript) → AreLegal words o → o.script ≡ Some asked → o.generate ≡ None
legal_apart asked legal e = ((bounded legal).apart asked e).0

pub legal_bundled : {words : List (List ℕ)} {o : Options} → AreLegal words o → o.bundle ≡ true → o.generate ≡ None
legal_bundled legal e = (bounded legal).bundled e
