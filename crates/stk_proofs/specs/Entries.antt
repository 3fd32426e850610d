-- Words that are literals or hints, and the lists of them that a 0 ends.
use Rattle.std.specs.Prelude.{ℕ, ◌+◌, ◌-◌, ◌*◌, ◌&&◌, nat_eq, nat_le, if◌then◌else◌, List, [], ◌∷◌, ◌++◌, Option, Some, None}
use Rattle.std.specs.Option.{option_map}
use Rattle.stk_clauses.specs.declared.literal.Lit.{Lit}
use Rattle.stk_proofs.specs.declared.entries.Entry.{Entry}
use Rattle.stk_proofs.specs.declared.entries.Entry.TheVariants.{Bad, End, Item}
use Rattle.stk_proofs.specs.Numbers.{number_in}

-- what a number without `-` is among literals: the variable v is written as v + 1, of at most `most`; 0 ends the list
abbrev pub positive_entry : ℕ → Option ℕ → Entry Lit
positive_entry most None = Bad
positive_entry most (Some n) = if nat_eq n 0 then End else (if nat_le n most then Item (record { 0 = 2 * (n - 1) }) else Bad)

-- what a number behind `-` is among literals: the negation of the variable
abbrev pub negative_entry : ℕ → Option ℕ → Entry Lit
negative_entry most None = Bad
negative_entry most (Some n) = if nat_le 1 n && nat_le n most then Item (record { 0 = 2 * (n - 1) + 1 }) else Bad

-- what a word is among literals: a number, or `-` and a number
abbrev pub literal_entry : ℕ → List ℕ → Entry Lit
literal_entry most [] = Bad
literal_entry most (b ∷ bs) = if nat_eq b 45 then negative_entry most (number_in bs) else positive_entry most (number_in (b ∷ bs))

-- what a number is among hints: the clause with number n is written as n + 1; 0 ends the list
abbrev pub hint_of : Option ℕ → Entry ℕ
hint_of None = Bad
hint_of (Some n) = if nat_eq n 0 then End else Item (n - 1)

-- what a word is among hints
abbrev pub hint_entry : List ℕ → Entry ℕ
hint_entry w = hint_of (number_in w)

-- items and the words behind their end, with other items in front
abbrev pub in_front : {A : Type 0} → List A → Option (List A × List (List ℕ)) → Option (List A × List (List ℕ))
in_front before found = option_map (λ p. (before ++ p.0, p.1)) found

-- a list whose first word is this: it is bad, it ends the list at once, or it is an item in front of the others
abbrev pub listed_from : {A : Type 0} → Entry A → List (List ℕ) → Option (List A × List (List ℕ)) → Option (List A × List (List ℕ))
listed_from Bad ws others = None
listed_from End ws others = Some ([], ws)
listed_from (Item x) ws others = in_front (x ∷ []) others

-- the items up to the first word that is the end, and the words behind it; none where a word before is bad or none ends
abbrev pub listed : {A : Type 0} → (List ℕ → Entry A) → List (List ℕ) → Option (List A × List (List ℕ))
listed f [] = None
listed f (w ∷ ws) = listed_from (f w) ws (listed f ws)
