-- The number that bounds how many bytes a text spells never tells: the length of the text is enough.
use Rattle.std.proofs.Common.{◌≡◌, ℕ, zero, suc, ◌-◌, ◌≤◌, ◌<◌, Bool, true, false, List, [], ◌∷◌, length, drop, nat_eq, nat_lt, Option, Some, None, refl, sym, ap, subst, ◌∙◌, arith, if◌then◌else◌, length-drop}
use Rattle.std.specs.Option.{option_map, option_and_then}
use Rattle.stk_numbers.specs.Digits.{is_digit, leading, behind, written}
use Rattle.stk_numbers.specs.Integers.{is_nothing}
use Rattle.stk_numbers.specs.Characters.{simple_escape, numeric_escape, octal_digits, escape_on, escape_at, byte_at}
use Rattle.stk_numbers.specs.Strings.{spelled}

abbrev what_is_left : Option (ℕ × List ℕ) → List ℕ
what_is_left None = []
what_is_left (Some p) = p.1

chosen_left : (a b : Bool) (m n : ℕ) (rest left : List ℕ) → if◌then◌else◌ {A = Option (ℕ × List ℕ)} a None (if◌then◌else◌ {A = Option (ℕ × List ℕ)} b (Some (m, rest)) None) ≡ Some (n, left) → rest ≡ left
chosen_left true b m n rest left e = cc
chosen_left false true m n rest left e = ap what_is_left e
chosen_left false false m n rest left e = cc

numeric_left : (base n : ℕ) (digits rest left : List ℕ) → numeric_escape base digits rest ≡ Some (n, left) → rest ≡ left
numeric_left base n digits rest left e = chosen_left (is_nothing digits) (nat_lt (written base digits) 256) (written base digits) n rest left e

behind_either : (b : Bool) (c : ℕ) (cs more : List ℕ) → length more ≤ length cs → length (if b then more else c ∷ cs) ≤ suc (length cs)
behind_either true c cs more short = omega (arith, short)
behind_either false c cs more short = omega arith

behind_short : (base : ℕ) (cs : List ℕ) → length (behind base cs) ≤ length cs
behind_short base [] = omega arith
behind_short base (c ∷ cs) = behind_either (is_digit base c) c cs (behind base cs) (behind_short base cs)

dropped_short : (k : ℕ) (cs : List ℕ) → length (drop k cs) ≤ length cs
dropped_short k cs = let e : length (drop k cs) ≡ length cs - k = length-drop k cs in omega arith

short_of : (rest left : List ℕ) (most : ℕ) → rest ≡ left → length rest ≤ most → length left ≤ most
short_of rest left most e short = subst (λ l. length l ≤ most) e short

number_short : (b : Bool) (n d : ℕ) (r left : List ℕ) → if◌then◌else◌ {A = Option (ℕ × List ℕ)} b (numeric_escape 16 (leading 16 r) (behind 16 r)) (numeric_escape 8 (octal_digits (d ∷ r)) (drop (length (octal_digits (d ∷ r))) (d ∷ r))) ≡ Some (n, left) → length left ≤ suc (length r)
number_short true n d r left e =
    let short = behind_short 16 r in
    short_of (behind 16 r) left (suc (length r)) (numeric_left 16 n (leading 16 r) (behind 16 r) left e) (omega (arith, short))
number_short false n d r left e =
    short_of (drop (length (octal_digits (d ∷ r))) (d ∷ r)) left (suc (length r)) (numeric_left 8 n (octal_digits (d ∷ r)) (drop (length (octal_digits (d ∷ r))) (d ∷ r)) left e) (dropped_short (length (octal_digits (d ∷ r))) (d ∷ r))

on_short : (o : Option ℕ) (n d : ℕ) (r left : List ℕ) → escape_on o d r ≡ Some (n, left) → length left ≤ suc (length r)
on_short (Some m) n d r left e = short_of r left (suc (length r)) (ap what_is_left e) (omega arith)
on_short None n d r left e = number_short (nat_eq d 120) n d r left e

escape_short : (n : ℕ) (rest left : List ℕ) → escape_at rest ≡ Some (n, left) → length left ≤ length rest
escape_short n [] left e = cc
escape_short n (d ∷ r) left e = on_short (simple_escape d) n d r left e

plain_or_escape : (b : Bool) (n c : ℕ) (rest left : List ℕ) → if◌then◌else◌ {A = Option (ℕ × List ℕ)} b (escape_at rest) (Some (c, rest)) ≡ Some (n, left) → length left < suc (length rest)
plain_or_escape true n c rest left e = let short = escape_short n rest left e in omega (arith, short)
plain_or_escape false n c rest left e = let short : length left ≤ length rest = short_of rest left (length rest) (ap what_is_left e) (omega arith) in omega (arith, short)

-- a byte takes a byte of the text at least
pub byte_takes_one : (n c : ℕ) (cs left : List ℕ) → byte_at (c ∷ cs) ≡ Some (n, left) → length left < length (c ∷ cs)
byte_takes_one n c cs left e = plain_or_escape (nat_eq c 92) n c cs left e

by_nothing : (most : ℕ) → spelled most [] ≡ Some []
by_nothing zero = refl
by_nothing (suc most) = refl

step : (a b c : ℕ) (cs : List ℕ) (o : Option (ℕ × List ℕ)) → byte_at (c ∷ cs) ≡ o → ((left : List ℕ) → length left < length (c ∷ cs) → spelled a left ≡ spelled b left) → option_and_then (λ p. option_map (λ ns. p.0 ∷ ns) (spelled a p.1)) o ≡ option_and_then (λ p. option_map (λ ns. p.0 ∷ ns) (spelled b p.1)) o
step a b c cs None e same = refl
step a b c cs (Some p) e same = ap (option_map (λ ns. p.0 ∷ ns)) (same p.1 (byte_takes_one p.0 c cs p.1 e))

-- two numbers that are at least the length give the same
same_spelled : (a b : ℕ) (text : List ℕ) → length text ≤ a → length text ≤ b → spelled a text ≡ spelled b text
same_spelled a b [] ina inb = by_nothing a ∙ sym (by_nothing b)
same_spelled zero b (c ∷ cs) ina inb = absurd (omega arith)
same_spelled (suc a) zero (c ∷ cs) ina inb = absurd (omega arith)
same_spelled (suc a) (suc b) (c ∷ cs) ina inb = step a b c cs (byte_at (c ∷ cs)) refl (λ left short. same_spelled a b left (omega (arith, short, ina)) (omega (arith, short, inb)))

-- what a text spells is its first byte and then what is left spells, each with the length for the number
pub spelled_step : (n c : ℕ) (cs left : List ℕ) → byte_at (c ∷ cs) ≡ Some (n, left) → spelled (length (c ∷ cs)) (c ∷ cs) ≡ option_map (λ ns. n ∷ ns) (spelled (length left) left)
spelled_step n c cs left e =
    let short = byte_takes_one n c cs left e in
    ap (option_and_then (λ p. option_map (λ ns. p.0 ∷ ns) (spelled (length cs) p.1))) e
    ∙ ap (option_map (λ ns. n ∷ ns)) (same_spelled (length cs) (length left) left (omega (arith, short)) (omega arith))
