-- Notes from a byte on.
use Rattle.std.proofs.Common.{◌≡◌, ℕ, ◌<◌, ◌≤◌, Bool, true, false, cond, ◌&&◌, ◌||◌, List, [], ◌∷◌, refl, arith}
use Rattle.std.specs.Prelude.{nat_lt, nat_le}
use Rattle.std.specs.List.{list_any}
use Rattle.std.proofs.lemmas.Bool.Decides.{nat_tests}
use Rattle.stk_lex.specs.Skimming.{ArePositions}
use Rattle.stk_lex.specs.Begun.{notes_from, is_first_before}

lt_is : (a b : ℕ) → a < b → nat_lt a b ≡ true
lt_is a b h = grind (arith, nat_tests)

lt_not : (a b : ℕ) → b ≤ a → nat_lt a b ≡ false
lt_not a b h = grind (arith, nat_tests)

lt_holds : (a b : ℕ) → nat_lt a b ≡ true → a < b
lt_holds a b h = grind (arith, nat_tests)

lt_fails : (a b : ℕ) → nat_lt a b ≡ false → b ≤ a
lt_fails a b h = grind (arith, nat_tests)

le_is : (a b : ℕ) → a ≤ b → nat_le a b ≡ true
le_is a b h = grind (arith, nat_tests)

le_not : (a b : ℕ) → b < a → nat_le a b ≡ false
le_not a b h = grind (arith, nat_tests)

-- whether a note lies from one byte on and before another
abbrev pub lies : ℕ → ℕ → ℕ → Bool
lies end byte note = nat_le end note && nat_lt note byte

-- no note lies before a byte that the first one isn't before
none_before : (end byte at : ℕ) (ns : List ℕ) → byte ≤ at → ArePositions at ns → list_any (lies end byte) ns ≡ false
none_before end byte at [] h p = refl
none_before end byte at (n ∷ ns) h p = skipped (nat_le end n) (lt_not n byte (omega (arith, p.0))) (none_before end byte n ns (omega (arith, p.0)) p.1)
  where
    skipped : (b : Bool) → nat_lt n byte ≡ false → list_any (lies end byte) ns ≡ false → (b && nat_lt n byte || list_any (lies end byte) ns) ≡ false
    skipped true e f = rw (e, f) refl
    skipped false e f = f

-- a note lies between two bytes exactly where the first one from the one on lies before the other
pub first_before : (end byte at : ℕ) (ns : List ℕ) → ArePositions at ns → is_first_before byte (notes_from end ns) ≡ list_any (lies end byte) ns
unfolding notes_from
first_before end byte at [] p = refl
first_before end byte at (n ∷ ns) p = stepped (nat_lt n end) refl (first_before end byte n ns p.1)
  where
    found : (c : Bool) → nat_lt n byte ≡ c → nat_lt n byte ≡ (nat_lt n byte || list_any (lies end byte) ns)
    found true e = rw e refl
    found false e = rw (e, none_before end byte n ns (lt_fails n byte e) p.1) refl

    stepped : (b : Bool) → nat_lt n end ≡ b → is_first_before byte (notes_from end ns) ≡ list_any (lies end byte) ns
        → is_first_before byte (cond b (notes_from end ns) (n ∷ ns)) ≡ (nat_le end n && nat_lt n byte || list_any (lies end byte) ns)
    stepped true e rest = rw (le_not end n (lt_holds n end e)) rest
    stepped false e rest = rw (le_is end n (lt_fails n end e)) (found (nat_lt n byte) refl)

-- the notes from a byte on, of those from an earlier byte on
pub notes_further : (end to : ℕ) (ns : List ℕ) → end ≤ to → notes_from to (notes_from end ns) ≡ notes_from to ns
unfolding notes_from
notes_further end to [] h = refl
notes_further end to (n ∷ ns) h = stepped (nat_lt n end) refl (notes_further end to ns h)
  where
    stepped : (b : Bool) → nat_lt n end ≡ b → notes_from to (notes_from end ns) ≡ notes_from to ns → notes_from to (cond b (notes_from end ns) (n ∷ ns)) ≡ cond (nat_lt n to) (notes_from to ns) (n ∷ ns)
    stepped true e rest = rw (lt_is n to (omega (arith, lt_holds n end e))) rest
    stepped false e rest = refl

pub notes_all : (ns : List ℕ) → notes_from 0 ns ≡ ns
unfolding notes_from
notes_all [] = refl
notes_all (n ∷ ns) = rw (lt_not n 0 (omega arith)) refl
