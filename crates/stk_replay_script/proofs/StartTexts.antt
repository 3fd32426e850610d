-- Starts as texts: a text gives keys one number each at most.
use Rattle.std.proofs.Common.{◌≡◌, ℕ, suc, ◌+◌, ◌<◌, Bool, true, false, MatchBool, List, [], ◌∷◌, ◌++◌, length, get_or, drop, drop-cons, add-one, append_assoc, append-nil, ℤ, refl, sym, ap, ◌∙◌, subst, arith}
use Rattle.std.specs.Prelude.{codes, ◌==◌}
use Rattle.std.specs.Fmt.{signed_decimal}
use Rattle.stk_line_reading.specs.Cuts.{begins_or_ends, IsCut}
use Rattle.stk_line_reading.proofs.Texts.{one_cut}
use Rattle.stk_records.specs.Text.{printed, printed_byte, input_text, inputs_of, more_inputs}
use Rattle.stk_replay_script.specs.Scripts.{IsOfSomeKind}
use Rattle.stk_replay_script.specs.Starts.{IsStart, AreMore, AreAdded, IsNextInput}
use Rattle.stk_replay_script.proofs.Numerals.{tail_of, one_signed, other_signed}
use Rattle.stk_replay_script.proofs.FieldTexts.{same_behind}

-- ---- a key

-- bytes of a key were passed: a text begins with the whole key exactly where the rest begins with what is left of it
pub record IsKeyPassed (key text left rest : List ℕ) : Type 0 where
  pub forth : (behind : List ℕ) → text ≡ printed key ++ behind → rest ≡ printed left ++ behind
  pub back : (behind : List ℕ) → rest ≡ printed left ++ behind → text ≡ printed key ++ behind

pub none_passed : (key text : List ℕ) → IsKeyPassed key text key text
none_passed key text = record { forth = λ behind e. e; back = λ behind e. e }

pub byte_passed : (key text : List ℕ) (byte first : ℕ) (left behind : List ℕ) → IsKeyPassed key text (byte ∷ left) (first ∷ behind) → first ≡ printed_byte byte → IsKeyPassed key text left behind
byte_passed key text byte first left behind p same = record {
  forth = λ rest e. tail_of (p.forth rest e);
  back = λ rest e. p.back rest (ap (λ b. b ∷ behind) same ∙ ap (λ t. printed_byte byte ∷ t) e);
}

-- ---- the number of a key

input_laid : (key : List ℕ) (z : ℤ) (behind : List ℕ) → input_text (record { key = key; number = z }) ++ behind ≡ printed key ++ (codes "=" ++ (signed_decimal z ++ behind))
input_laid key z behind = simp append_assoc

number_cut : (content : List ℕ) (z : ℤ) (behind : List ℕ) → content ≡ signed_decimal z ++ behind → IsOfSomeKind z → begins_or_ends 32 behind ≡ true → IsCut 32 content (signed_decimal z) behind
number_cut content z behind e is stops = record { whole = e; others = other_signed 32 z (omega arith) is; stops = stops }

-- what comes behind a key and `=` in a text that begins with the number of the key
pub content_is : (key text content : List ℕ) (z : ℤ) (behind : List ℕ) → text ≡ printed key ++ (61 ∷ content) → IsNextInput key text z behind → content ≡ signed_decimal z ++ behind
content_is key text content z behind e h = tail_of (same_behind (printed key) (61 ∷ content) (61 ∷ (signed_decimal z ++ behind)) (sym e ∙ h.same))

pub number_is : (key text content word rest : List ℕ) (z : ℤ) (behind : List ℕ) → text ≡ printed key ++ (61 ∷ content) → IsCut 32 content word rest → IsNextInput key text z behind → word ≡ signed_decimal z
number_is key text content word rest z behind e cut h =
    (one_cut 32 content word rest (signed_decimal z) behind cut (number_cut content z behind (content_is key text content z behind e h) h.is h.stops)).0

pub next_input_of : (key text content word rest : List ℕ) (z : ℤ) → text ≡ printed key ++ (61 ∷ content) → IsCut 32 content word rest → IsOfSomeKind z → word ≡ signed_decimal z → IsNextInput key text z rest
next_input_of key text content word rest z e cut is same = record {
  same = e ∙ ap (λ t. printed key ++ (61 ∷ t)) (cut.whole ∙ ap (λ t. t ++ rest) same);
  is = is;
  stops = cut.stops;
}

pub one_next_input : (key text : List ℕ) (y z : ℤ) (a b : List ℕ) → IsNextInput key text y a → IsNextInput key text z b → (y ≡ z) × (a ≡ b)
one_next_input key text y z a b h k =
    let content = signed_decimal y ++ a in
    let both = one_cut 32 content (signed_decimal y) a (signed_decimal z) b (number_cut content y a refl h.is h.stops) (number_cut content z b (content_is key text content z b h.same k) k.is k.stops) in
    (one_signed y z h.is k.is both.0, both.1)

-- ---- numbers of keys, each behind a space

more_end : (keys : List (List ℕ)) (xs : List ℤ) → begins_or_ends 32 (more_inputs (inputs_of keys xs)) ≡ true
more_end [] xs = refl
more_end (k ∷ ks) [] = refl
more_end (k ∷ ks) (x ∷ xs) = refl

-- the first of them
pub first_input : (key : List ℕ) (keys : List (List ℕ)) (content : List ℕ) (z : ℤ) (zs : List ℤ) → content ≡ input_text (record { key = key; number = z }) ++ more_inputs (inputs_of keys zs) → IsOfSomeKind z → IsNextInput key content z (more_inputs (inputs_of keys zs))
first_input key keys content z zs e is = record { same = e ∙ input_laid key z (more_inputs (inputs_of keys zs)); is = is; stops = more_end keys zs }

pub more_begin : (key : List ℕ) (keys : List (List ℕ)) (text : List ℕ) (xs : List ℤ) → AreMore (key ∷ keys) text xs
    → (content : List ℕ) × (z : ℤ) × (behind : List ℕ) × (text ≡ 32 ∷ content) × IsNextInput key content z behind
more_begin key keys text [] h = absurd (let long = h.each in omega arith)
more_begin key keys text (z ∷ zs) h =
    let content = input_text (record { key = key; number = z }) ++ more_inputs (inputs_of keys zs) in
    (content, z, more_inputs (inputs_of keys zs), h.same, first_input key keys content z zs refl h.are.0)

pub more_behind : (key : List ℕ) (keys : List (List ℕ)) (text content : List ℕ) (z : ℤ) (behind : List ℕ) (xs : List ℤ) → text ≡ 32 ∷ content → IsNextInput key content z behind → AreMore (key ∷ keys) text xs
    → (zs : List ℤ) × (xs ≡ z ∷ zs) × AreMore keys behind zs
more_behind key keys text content z behind [] e n h = absurd (let long = h.each in omega arith)
more_behind key keys text content z behind (y ∷ ys) e n h =
    let both = one_next_input key content z y behind (more_inputs (inputs_of keys ys)) n (first_input key keys content y ys (tail_of (sym e ∙ h.same)) h.are.0) in
    (ys, ap (λ a. a ∷ ys) (sym both.0), record { same = both.1; each = let long = h.each in omega arith; are = h.are.1 })

pub more_of : (key : List ℕ) (keys : List (List ℕ)) (text content : List ℕ) (z : ℤ) (behind : List ℕ) (zs : List ℤ) → text ≡ 32 ∷ content → IsNextInput key content z behind → AreMore keys behind zs → AreMore (key ∷ keys) text (z ∷ zs)
more_of key keys text content z behind zs e n h = record {
  same = e ∙ ap (λ t. 32 ∷ t) (n.same ∙ ap (λ t. printed key ++ (codes "=" ++ (signed_decimal z ++ t))) h.same ∙ sym (input_laid key z (more_inputs (inputs_of keys zs))));
  each = let long = h.each in omega arith;
  are = (n.is, h.are);
}

no_more : (text : List ℕ) → length text ≡ 0 → AreMore [] text []
no_more [] e = record { same = refl; each = refl; are = tt }
no_more (b ∷ bs) e = absurd (omega arith)

more_none : (text : List ℕ) (xs : List ℤ) → AreMore [] text xs → length text ≡ 0
more_none text xs h = ap length h.same

-- the numbers of some keys were noted behind others
pub record HasPassed (keys : List (List ℕ)) (text : List ℕ) (left : List (List ℕ)) (rest : List ℕ) (before noted : List ℤ) : Type 0 where
  pub front : (zs : List ℤ) → AreMore left rest zs → (all : List ℤ) × (noted ++ zs ≡ before ++ all) × AreMore keys text all
  pub whole : (xs : List ℤ) → AreMore keys text xs → (zs : List ℤ) × AreMore left rest zs

pub nothing_passed : (keys : List (List ℕ)) (text : List ℕ) (before : List ℤ) → HasPassed keys text keys text before before
nothing_passed keys text before = record { front = λ zs h. (zs, refl, h); whole = λ xs h. (xs, h) }

pub input_passed : (keys : List (List ℕ)) (text key : List ℕ) (left : List (List ℕ)) (rest content : List ℕ) (z : ℤ) (behind : List ℕ) (before noted : List ℤ) → HasPassed keys text (key ∷ left) rest before noted
    → rest ≡ 32 ∷ content → IsNextInput key content z behind → HasPassed keys text left behind before (noted ++ z ∷ [])
input_passed keys text key left rest content z behind before noted p e n = record {
  front = λ zs h.
      let all = p.front (z ∷ zs) (more_of key left rest content z behind zs e n h) in
      (all.0, append_assoc noted (z ∷ []) zs ∙ all.1, all.2);
  whole = λ xs h. let zs = p.whole xs h in let others = more_behind key left rest content z behind zs.0 e n zs.1 in (others.0, others.2);
}

all_noted : (keys : List (List ℕ)) (text rest : List ℕ) (before noted : List ℤ) → HasPassed keys text [] rest before noted → length rest ≡ 0 → AreAdded keys text before noted
all_noted keys text rest before noted p e =
    let all = p.front [] (no_more rest e) in
    record { numbers = all.0; added = sym (append-nil noted) ∙ all.1; are = all.2 }

-- whether all of the text was read
pub read_whole : (b : Bool) (keys : List (List ℕ)) (text : List ℕ) (left : List (List ℕ)) (rest : List ℕ) (before noted : List ℤ) → b ≡ (length rest == 0) → left ≡ [] → HasPassed keys text left rest before noted
    → MatchBool b (AreAdded keys text before noted) ((xs : List ℤ) → AreMore keys text xs → ⊥)
read_whole true keys text left rest before noted e none p =
    all_noted keys text rest before noted (subst (λ (ks : List (List ℕ)). HasPassed keys text ks rest before noted) none p) (grind (arith, e))
read_whole false keys text left rest before noted e none p = λ xs h.
    let zs = p.whole xs h in
    let nothing = more_none rest zs.0 (subst (λ (ks : List (List ℕ)). AreMore ks rest zs.0) none zs.1) in
    grind (arith, e, nothing)

-- a key and those behind it
pub key_at : (keys : List (List ℕ)) (i : ℕ) (key : List ℕ) → i < length keys → key ≡ get_or keys i key → drop i keys ≡ key ∷ drop (i + 1) keys
key_at keys i key h e = drop-cons keys i key h ∙ ap (λ k. k ∷ drop (suc i) keys) (sym e) ∙ ap (λ n. key ∷ drop n keys) (sym (add-one i))

-- ---- whole starts

-- a start is the number of the first key and those of the others
pub start_begins : (key : List ℕ) (keys : List (List ℕ)) (text : List ℕ) (xs : List ℤ) → IsStart (key ∷ keys) text xs → (z : ℤ) × (behind : List ℕ) × IsNextInput key text z behind
start_begins key keys text [] h = absurd (let long = h.each in omega arith)
start_begins key keys text (z ∷ zs) h = (z, more_inputs (inputs_of keys zs), first_input key keys text z zs h.same h.are.0)

pub start_behind : (key : List ℕ) (keys : List (List ℕ)) (text : List ℕ) (z : ℤ) (behind : List ℕ) (xs : List ℤ) → IsNextInput key text z behind → IsStart (key ∷ keys) text xs → (zs : List ℤ) × (xs ≡ z ∷ zs) × AreMore keys behind zs
start_behind key keys text z behind [] n h = absurd (let long = h.each in omega arith)
start_behind key keys text z behind (y ∷ ys) n h =
    let both = one_next_input key text z y behind (more_inputs (inputs_of keys ys)) n (first_input key keys text y ys h.same h.are.0) in
    (ys, ap (λ a. a ∷ ys) (sym both.0), record { same = both.1; each = let long = h.each in omega arith; are = h.are.1 })

pub start_of : (key : List ℕ) (keys : List (List ℕ)) (text : List ℕ) (z : ℤ) (behind : List ℕ) (zs : List ℤ) → IsNextInput key text z behind → AreMore keys behind zs → IsStart (key ∷ keys) text (z ∷ zs)
start_of key keys text z behind zs n h = record {
  same = n.same ∙ ap (λ t. printed key ++ (codes "=" ++ (signed_decimal z ++ t))) h.same ∙ sym (input_laid key z (more_inputs (inputs_of keys zs)));
  each = let long = h.each in omega arith;
  are = (n.is, h.are);
}

one_more : (keys : List (List ℕ)) (text : List ℕ) (xs ys : List ℤ) → AreMore keys text xs → AreMore keys text ys → xs ≡ ys
one_more [] text [] [] h k = refl
one_more [] text [] (y ∷ ys) h k = absurd (let long = k.each in omega arith)
one_more [] text (x ∷ xs) ys h k = absurd (let long = h.each in omega arith)
one_more (key ∷ keys) text xs ys h k =
    let first = more_begin key keys text xs h in
    let a = more_behind key keys text first.0 first.1 first.2 xs first.3 first.4 h in
    let b = more_behind key keys text first.0 first.1 first.2 ys first.3 first.4 k in
    a.1 ∙ ap (λ zs. first.1 ∷ zs) (one_more keys first.2 a.0 b.0 a.2 b.2) ∙ sym b.1

pub one_start : (keys : List (List ℕ)) (text : List ℕ) (xs ys : List ℤ) → IsStart keys text xs → IsStart keys text ys → xs ≡ ys
one_start [] text [] [] h k = refl
one_start [] text [] (y ∷ ys) h k = absurd (let long = k.each in omega arith)
one_start [] text (x ∷ xs) ys h k = absurd (let long = h.each in omega arith)
one_start (key ∷ keys) text xs ys h k =
    let first = start_begins key keys text xs h in
    let a = start_behind key keys text first.0 first.1 xs first.2 h in
    let b = start_behind key keys text first.0 first.1 ys first.2 k in
    a.1 ∙ ap (λ zs. first.0 ∷ zs) (one_more keys first.1 a.0 b.0 a.2 b.2) ∙ sym b.1

pub empty_start : (keys : List (List ℕ)) (text : List ℕ) → length keys ≡ 0 → text ≡ codes "none" → IsStart keys text []
empty_start [] text e same = record { same = same; each = refl; are = tt }
empty_start (k ∷ ks) text e same = absurd (omega arith)
