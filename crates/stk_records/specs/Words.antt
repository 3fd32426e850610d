-- Which words are legal: a list of items in any order, each at most once. An item is `--json` or `--bundle`; or one of
-- `--budget`, `--without`, `--generate`, `--functions`, `--smt` and `--smt-hit` with a text, which is the next word, or
-- stands behind `=` in the same word. The text of `--without` is names of kinds, and of the others a number, 1 to 20
-- decimal digits: a budget is from 1 to 200,000, what a text is generated from is from 0 to 18446744073709551615,
-- functions are from 1 to 1,000, and the candidate whose script is asked for is from 1 to 18446744073709551615.
-- `--generate` stands exactly where `--functions` does. Of `--smt`, `--smt-hit` and `--bundle` at most one stands, and
-- beside none of `--json`, `--generate` and `--functions`.
use Rattle.std.specs.Prelude.{◌≡◌, ℕ, ◌≤◌, Bool, true, false, not, ◌&&◌, nat_le, List, [], ◌∷◌, ◌++◌, length, Option, Some, None, is_some, unwrap_or}
use Rattle.std.specs.List.{list_all}
use Rattle.std.specs.Option.{option_zip}
use Rattle.stk_base.specs.Text.{decimal}
use Rattle.stk_numbers.specs.declared.conditions.Kinds.{Kinds}
use Rattle.stk_records.specs.declared.options.Options.{Options}
use Rattle.stk_records.specs.declared.options.AskedScript.{AskedScript}
use Rattle.stk_records.specs.declared.options.ConditionSet.{ConditionSet}
use Rattle.stk_records.specs.declared.options.ConditionSet.TheVariants as set
use Rattle.stk_records.specs.declared.options.Item.{Item}
use Rattle.stk_records.specs.declared.options.Item.TheVariants as item
use Rattle.stk_records.specs.declared.options.Seen.{Seen}
use Rattle.stk_records.specs.declared.items.Form.{Form}
use Rattle.stk_records.specs.declared.items.Form.TheVariants as form
use Rattle.stk_records.specs.Kinds.{no_kinds, AreNames}

-- the words that are items, or begin them
abbrev pub form_word : Form → List ℕ
form_word form.Json = 45 ∷ 45 ∷ 106 ∷ 115 ∷ 111 ∷ 110 ∷ []
form_word form.Budget = 45 ∷ 45 ∷ 98 ∷ 117 ∷ 100 ∷ 103 ∷ 101 ∷ 116 ∷ []
form_word form.Without = 45 ∷ 45 ∷ 119 ∷ 105 ∷ 116 ∷ 104 ∷ 111 ∷ 117 ∷ 116 ∷ []
form_word form.Generate = 45 ∷ 45 ∷ 103 ∷ 101 ∷ 110 ∷ 101 ∷ 114 ∷ 97 ∷ 116 ∷ 101 ∷ []
form_word form.Functions = 45 ∷ 45 ∷ 102 ∷ 117 ∷ 110 ∷ 99 ∷ 116 ∷ 105 ∷ 111 ∷ 110 ∷ 115 ∷ []
form_word form.Smt = 45 ∷ 45 ∷ 115 ∷ 109 ∷ 116 ∷ []
form_word form.SmtHit = 45 ∷ 45 ∷ 115 ∷ 109 ∷ 116 ∷ 45 ∷ 104 ∷ 105 ∷ 116 ∷ []
form_word form.Bundle = 45 ∷ 45 ∷ 98 ∷ 117 ∷ 110 ∷ 100 ∷ 108 ∷ 101 ∷ []

-- the item that such a word is by itself
abbrev pub item_of : Form → Option Item
item_of form.Json = Some item.Json
item_of form.Budget = None
item_of form.Without = None
item_of form.Generate = None
item_of form.Functions = None
item_of form.Smt = None
item_of form.SmtHit = None
item_of form.Bundle = Some item.Bundle

-- a decimal digit
abbrev pub is_digit : ℕ → Bool
is_digit b = nat_le 48 b && nat_le b 57

-- a number from the least to the most
pub record IsNumber (least most : ℕ) (text : List ℕ) (n : ℕ) : Type 0 where
  pub digits : list_all is_digit text ≡ true
  pub some : 1 ≤ length text
  pub few : length text ≤ 20
  pub is : n ≡ decimal text
  pub from : least ≤ n
  pub to : n ≤ most

-- the budget where none is given
abbrev pub usual_budget : ℕ
usual_budget = 20000

-- before the first item
abbrev pub nothing_seen : Seen
nothing_seen = record { json = false; budget = None; without = None; generate = None; functions = None; script = None; bundle = false }

-- what the items ask for
abbrev pub options_of : Seen → Options
options_of seen = record { json = seen.json; budget = unwrap_or seen.budget usual_budget; without = unwrap_or seen.without no_kinds; generate = option_zip seen.generate seen.functions; script = seen.script; bundle = seen.bundle }

-- one item more
abbrev pub with_item : Seen → Item → Seen
with_item seen item.Json = record seen { json = true }
with_item seen (item.Budget n) = record seen { budget = Some n }
with_item seen (item.Without ks) = record seen { without = Some ks }
with_item seen (item.Generate n) = record seen { generate = Some n }
with_item seen (item.Functions n) = record seen { functions = Some n }
with_item seen (item.Script asked) = record seen { script = Some asked }
with_item seen item.Bundle = record seen { bundle = true }

-- an item has come
abbrev pub has_come : Seen → Item → Bool
has_come seen item.Json = seen.json
has_come seen (item.Budget n) = is_some seen.budget
has_come seen (item.Without ks) = is_some seen.without
has_come seen (item.Generate n) = is_some seen.generate
has_come seen (item.Functions n) = is_some seen.functions
has_come seen (item.Script asked) = is_some seen.script
has_come seen item.Bundle = seen.bundle

-- whether items may stand together: `--generate` exactly where `--functions` does, and a script or a bundle beside
-- neither of them, not beside `--json`, and not beside each other
abbrev pub may_stand : Option ℕ → Option ℕ → Option AskedScript → Bool → Bool → Bool
may_stand (Some m) (Some n) script bundle objects = not (is_some script) && not bundle
may_stand (Some m) None script bundle objects = false
may_stand None (Some n) script bundle objects = false
may_stand None None (Some asked) bundle objects = not bundle && not objects
may_stand None None None true objects = not objects
may_stand None None None false objects = true

abbrev pub stand_together : Seen → Bool
stand_together seen = may_stand seen.generate seen.functions seen.script seen.bundle seen.json

-- the item that asks for a script, with this set of conditions
abbrev pub IsScriptAsked : ConditionSet → List ℕ → Item → Type 0
IsScriptAsked conditions text x = (n : ℕ) × (x ≡ item.Script (record { number = n; set = conditions })) × IsNumber 1 18446744073709551615 text n

-- the item of a form and a text
abbrev pub IsText : Form → List ℕ → Item → Type 0
IsText form.Json text x = ⊥
IsText form.Budget text x = (n : ℕ) × (x ≡ item.Budget n) × IsNumber 1 200000 text n
IsText form.Without text x = (ks : Kinds) × (x ≡ item.Without ks) × AreNames no_kinds text ks
IsText form.Generate text x = (n : ℕ) × (x ≡ item.Generate n) × IsNumber 0 18446744073709551615 text n
IsText form.Functions text x = (n : ℕ) × (x ≡ item.Functions n) × IsNumber 1 1000 text n
IsText form.Smt text x = IsScriptAsked set.All text x
IsText form.SmtHit text x = IsScriptAsked set.Empty text x
IsText form.Bundle text x = ⊥

-- it is the only one
pub record IsOnlyText (f : Form) (text : List ℕ) (x : Item) : Type 0 where
  pub is : IsText f text x
  pub alone : (y : Item) → IsText f text y → y ≡ x

-- an item stands in front of the words that are left
pub data IsItem : List (List ℕ) → Item → List (List ℕ) → Type 0 where
  by_itself : {first : List ℕ} {left : List (List ℕ)} {x : Item} (f : Form) → first ≡ form_word f → item_of f ≡ Some x → IsItem (first ∷ left) x left
  apart : {first text : List ℕ} {left : List (List ℕ)} {x : Item} (f : Form) → first ≡ form_word f → IsText f text x → IsItem (first ∷ text ∷ left) x left
  joined : {first : List ℕ} {left : List (List ℕ)} {x : Item} (f : Form) (text : List ℕ) → first ≡ form_word f ++ 61 ∷ text → IsText f text x → IsItem (first ∷ left) x left

-- it is the only one that does
pub record IsItemAlone (words : List (List ℕ)) (x : Item) (left : List (List ℕ)) : Type 0 where
  pub is : IsItem words x left
  pub alone : (y : Item) (other : List (List ℕ)) → IsItem words y other → (y ≡ x) × (other ≡ left)

-- words are items, none of them a second time, behind those that have come, and ask for these options with them
pub data AreItems : Seen → List (List ℕ) → Options → Type 0 where
  no_more : {seen : Seen} {o : Options} → stand_together seen ≡ true → o ≡ options_of seen → AreItems seen [] o
  then_item : {seen : Seen} {words left : List (List ℕ)} {x : Item} {o : Options} → IsItem words x left → has_come seen x ≡ false → AreItems (with_item seen x) left o → AreItems seen words o

-- the words are legal, and ask for these options
abbrev pub AreLegal : List (List ℕ) → Options → Type 0
AreLegal words o = AreItems nothing_seen words o
