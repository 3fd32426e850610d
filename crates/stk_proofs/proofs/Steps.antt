-- Derivations that are read step by step, and are read back.
use Rattle.std.proofs.Common.{◌≡◌, ℕ, ◌+◌, ◌^◌, ◌<◌, ◌≤◌, ◌-◌, Bool, true, false, ◌&&◌, nat_eq, nat_lt, if◌then◌else◌, List, [], ◌∷◌, ◌++◌, length, map, drop, get_or, Some, None, refl, sym, ap, ◌∙◌, subst, arith, append_assoc}
use Rattle.std.specs.Prelude.{decimal}
use Rattle.std.specs.List.{All}
use Rattle.std.proofs.lemmas.List.{append-nil}
use Rattle.std.proofs.lemmas.List.Elements.{All-contains, Contains-get_or}
use Rattle.std.proofs.Math.ListN.{drop_of_length-le}
use Rattle.std.proofs.lemmas.Fmt.{decimal_nonempty}
use Rattle.stk_base.specs.Text as base
use Rattle.stk_clauses.specs.declared.literal.Lit.{Lit}
use Rattle.stk_clauses.specs.declared.derivation.Derived.{Derived}
use Rattle.stk_proofs.specs.declared.entries.Entry.TheVariants.{End, Item}
use Rattle.stk_proofs.specs.Words.{is_blank}
use Rattle.stk_proofs.specs.Numbers.{is_numeral, number_in}
use Rattle.stk_proofs.specs.Entries.{literal_entry, hint_of, hint_entry, in_front, listed, listed_from}
use Rattle.stk_proofs.specs.Dimacs.{literal_text, literals_text}
use Rattle.stk_proofs.specs.Lrat.{hints_text, step_text, steps_text, most_number, AreLratSteps, no_step, then_step, FitsLratLine}
use Rattle.stk_proofs.proofs.WrittenWords.{words_from, word_at, plain_number, number_back, AllSmall, literals_words, literals_back}

-- what a step's words are
pub record Begins (id : ℕ) (ws : List (List ℕ)) (all : List Derived) : Type 0 where
  pub clause : List Lit
  pub hints : List ℕ
  pub behind : List (List ℕ)
  pub rest : List (List ℕ)
  pub others : List Derived
  pub literals_are : listed (literal_entry most_number) ws ≡ Some (clause, behind)
  pub hints_are : listed hint_entry behind ≡ Some (hints, rest)
  pub is : all ≡ record { clause = clause; hints = hints } ∷ others
  pub steps : AreLratSteps (id + 1) rest others

tail_same : {w v : List ℕ} {ws vs : List (List ℕ)} → w ∷ ws ≡ v ∷ vs → ws ≡ vs
tail_same e = cc

head_same : {w v : List ℕ} {ws vs : List (List ℕ)} → w ∷ ws ≡ v ∷ vs → w ≡ v
head_same e = cc

-- the first step of some words
pub begins : (id : ℕ) (w : List ℕ) (ws all_words : List (List ℕ)) (all : List Derived) → all_words ≡ w ∷ ws → AreLratSteps id all_words all → (number_in w ≡ Some id) × Begins id ws all
begins id w ws all_words all e (no_step) = absurd (nothing e)
  where
    nothing : {x : List ℕ} {xs : List (List ℕ)} → ◌≡◌ {A = List (List ℕ)} [] (x ∷ xs) → ⊥
    nothing h = cc
begins id w ws all_words all e (then_step {w = v} {ws = vs} {behind = behind} {rest = rest} {clause = clause} {hints = hints} {ss = ss} n l h s) = (
  ap number_in (sym (head_same e)) ∙ n,
  record { clause = clause; hints = hints; behind = behind; rest = rest; others = ss; literals_are = ap (listed (literal_entry most_number)) (sym (tail_same e)) ∙ l; hints_are = h; is = refl; steps = s },
)

-- no step where no words are left
pub ends : (id : ℕ) (ws : List (List ℕ)) (all : List Derived) → ws ≡ [] → AreLratSteps id ws all → all ≡ []
ends id ws all e no_step = refl
ends id ws all e (then_step n l h s) = absurd (nothing e)
  where
    nothing : {x : List ℕ} {xs : List (List ℕ)} → ◌≡◌ {A = List (List ℕ)} (x ∷ xs) [] → ⊥
    nothing q = cc

pub some_of : {A : Type 0} {x y : A} → Some x ≡ Some y → x ≡ y
some_of e = cc

pub no_some : {A : Type 0} {x : A} → None ≡ Some x → ⊥
no_some e = cc

-- one step more, as the code reads it
pub onto_step : (found : List Derived) {first id next : ℕ} {whole ws behind lits rest : List (List ℕ)} {w : List ℕ} {clause : List Lit} {hints : List ℕ} {new : List Derived} → ws ≡ w ∷ behind → number_in w ≡ Some id
    → listed (literal_entry most_number) behind ≡ Some (clause, lits) → listed hint_entry lits ≡ Some (hints, rest) → next ≡ id + 1 → new ≡ found ++ record { clause = clause; hints = hints } ∷ []
    → ((ss : List Derived) → AreLratSteps id ws ss → AreLratSteps first whole (found ++ ss)) → (ss : List Derived) → AreLratSteps next rest ss → AreLratSteps first whole (new ++ ss)
onto_step found {first = first} {id = id} {whole = whole} {behind = behind} {lits = lits} {rest = rest} {w = w} {clause = clause} {hints = hints} e n l h up grown so_far ss steps =
    let step : Derived = record { clause = clause; hints = hints } in
    let one : AreLratSteps id (w ∷ behind) (record { clause = clause; hints = hints } ∷ ss) = then_step n l h (subst (λ (k : ℕ). AreLratSteps k rest ss) up steps) in
    subst (AreLratSteps first whole) (sym (ap (λ xs. xs ++ ss) grown ∙ append_assoc found (record { clause = clause; hints = hints } ∷ []) ss)) (so_far (record { clause = clause; hints = hints } ∷ ss) (subst (λ us. AreLratSteps id us (record { clause = clause; hints = hints } ∷ ss)) (sym e) one))

pub from_step : (found : List Derived) {id next : ℕ} {ws behind lits rest : List (List ℕ)} {w : List ℕ} {clause : List Lit} {hints : List ℕ} {new all : List Derived} → ws ≡ w ∷ behind
    → listed (literal_entry most_number) behind ≡ Some (clause, lits) → listed hint_entry lits ≡ Some (hints, rest) → next ≡ id + 1 → new ≡ found ++ record { clause = clause; hints = hints } ∷ []
    → (ss : List Derived) × (all ≡ found ++ ss) × AreLratSteps id ws ss → (ss : List Derived) × (all ≡ new ++ ss) × AreLratSteps next rest ss
from_step found {id = id} {next = next} {ws = ws} {behind = behind} {lits = lits} {rest = rest} {w = w} {clause = clause} {hints = hints} {new = new} {all = all} e l h up grown (ss, is, steps) =
    let b = (begins id w behind ws ss e steps).1 in
    let one : ◌≡◌ {A = List Lit × List (List ℕ)} (clause, lits) (b.clause, b.behind) = some_of (sym l ∙ b.literals_are) in
    let two : ◌≡◌ {A = List ℕ × List (List ℕ)} (hints, rest) (b.hints, b.rest) = some_of (sym h ∙ (ap (λ (p : List Lit × List (List ℕ)). listed hint_entry p.1) one ∙ b.hints_are)) in
    let step : ◌≡◌ {A = Derived} (record { clause = b.clause; hints = b.hints }) (record { clause = clause; hints = hints }) =
    ap (λ (p : List Lit × List (List ℕ)). record { clause = p.0; hints = b.hints }) (sym one) ∙ ap (λ (p : List ℕ × List (List ℕ)). record { clause = clause; hints = p.0 }) (sym two) in (
      b.others,
      is ∙ (ap (λ xs. found ++ xs) (b.is ∙ ap (λ (s : Derived). s ∷ b.others) step) ∙ (sym (append_assoc found (record { clause = clause; hints = hints } ∷ []) b.others) ∙ ap (λ xs. xs ++ b.others) (sym grown))),
      subst (λ (k : ℕ). AreLratSteps k rest b.others) (sym up) (subst (λ us. AreLratSteps (id + 1) us b.others) (ap (λ (p : List ℕ × List (List ℕ)). p.1) (sym two)) b.steps),
    )

-- a text says one derivation at most
pub one_reading : (id : ℕ) (ws : List (List ℕ)) (ss ts : List Derived) → AreLratSteps id ws ss → AreLratSteps id ws ts → ss ≡ ts
one_reading id ws ss ts no_step t = sym (ends id [] ts refl t)
one_reading id ws ss ts (then_step {w = w} {ws = us} {behind = behind} {rest = rest} {clause = clause} {hints = hints} {ss = others} n l h s) t =
    let f = from_step [] {id = id} {next = id + 1} {ws = w ∷ us} {behind = us} {lits = behind} {rest = rest} {w = w} {clause = clause} {hints = hints} {new = record { clause = clause; hints = hints } ∷ []} {all = ts}
    refl l h refl refl (ts, refl, t) in
    ap (λ xs. record { clause = clause; hints = hints } ∷ xs) (one_reading (id + 1) rest others f.0 s f.2) ∙ sym f.1

-- ---- what is written is read back

abbrev pub AllHintsSmall : List ℕ → Type 0
AllHintsSmall [] = Unit {0}
AllHintsSmall (h ∷ hs) = (h + 1 < 2 ^ 31) × AllHintsSmall hs

hint_back : (h : ℕ) → h + 1 < 2 ^ 31 → hint_entry (decimal (h + 1)) ≡ Item h
hint_back h small =
    let some : nat_eq (h + 1) 0 ≡ false = grind arith in
    let value : h + 1 - 1 ≡ h = omega arith in
    ap hint_of (number_back (h + 1) small) ∙ (ap (λ b. if b then End else Item (h + 1 - 1)) some ∙ ap Item value)

hints_words : (starts : Bool) (hs : List ℕ) (b : ℕ) (t : List ℕ) → is_blank b ≡ true → AllHintsSmall hs → words_from starts (hints_text hs ++ 48 ∷ b ∷ t) ≡ map (λ h. decimal (h + 1)) hs ++ (48 ∷ []) ∷ words_from (nat_eq b 10) t
hints_words starts [] b t k h = word_at starts (48 ∷ []) t b (omega arith) refl k
hints_words starts (x ∷ xs) b t k h =
    let wide : x + 1 < 2 ^ 64 = let g = h.0 in omega (arith, g) in
    ap (words_from starts) (append_assoc (decimal (x + 1)) (32 ∷ hints_text xs) (48 ∷ b ∷ t))
    ∙ (word_at starts (decimal (x + 1)) (hints_text xs ++ 48 ∷ b ∷ t) 32 (decimal_nonempty (x + 1) wide) (plain_number (x + 1) wide) refl
    ∙ ap (λ ws. decimal (x + 1) ∷ ws) (hints_words false xs b t k h.1))

hints_back : (hs : List ℕ) (ws : List (List ℕ)) → AllHintsSmall hs → listed hint_entry (map (λ h. decimal (h + 1)) hs ++ (48 ∷ []) ∷ ws) ≡ Some (hs, ws)
hints_back [] ws h = refl
hints_back (x ∷ xs) ws h =
    ap (λ e. listed_from e (map (λ h. decimal (h + 1)) xs ++ (48 ∷ []) ∷ ws) (listed hint_entry (map (λ h. decimal (h + 1)) xs ++ (48 ∷ []) ∷ ws))) (hint_back x h.0)
    ∙ ap (in_front (x ∷ [])) (hints_back xs ws h.1)

abbrev pub AllStepsSmall : List Derived → Type 0
AllStepsSmall [] = Unit {0}
AllStepsSmall (s ∷ ss) = AllSmall most_number s.clause × AllHintsSmall s.hints × AllStepsSmall ss

-- the text of a step, as it is read
cut : (id : ℕ) (s : Derived) (t : List ℕ) → step_text id s ++ t ≡ decimal id ++ 32 ∷ (literals_text s.clause ++ 48 ∷ 32 ∷ (hints_text s.hints ++ 48 ∷ 10 ∷ t))
cut id s t =
    append_assoc ((decimal id ++ 32 ∷ literals_text s.clause) ++ 48 ∷ 32 ∷ hints_text s.hints) (48 ∷ 10 ∷ []) t
    ∙ (append_assoc (decimal id ++ 32 ∷ literals_text s.clause) (48 ∷ 32 ∷ hints_text s.hints) (48 ∷ 10 ∷ t)
    ∙ append_assoc (decimal id) (32 ∷ literals_text s.clause) (48 ∷ 32 ∷ (hints_text s.hints ++ 48 ∷ 10 ∷ t)))

step_words : (id : ℕ) (s : Derived) (t : List ℕ) → id < 2 ^ 31 → AllSmall most_number s.clause → AllHintsSmall s.hints
    → words_from true (step_text id s ++ t) ≡ decimal id ∷ (map literal_text s.clause ++ (48 ∷ []) ∷ (map (λ h. decimal (h + 1)) s.hints ++ (48 ∷ []) ∷ words_from true t))
step_words id s t small lits hints =
    let wide : id < 2 ^ 64 = omega (arith, small) in
    ap (words_from true) (cut id s t)
    ∙ (word_at true (decimal id) (literals_text s.clause ++ 48 ∷ 32 ∷ (hints_text s.hints ++ 48 ∷ 10 ∷ t)) 32 (decimal_nonempty id wide) (plain_number id wide) refl
    ∙ ap (λ ws. decimal id ∷ ws) (literals_words most_number false s.clause 32 (hints_text s.hints ++ 48 ∷ 10 ∷ t) (omega arith) refl lits
    ∙ ap (λ ws. map literal_text s.clause ++ (48 ∷ []) ∷ ws) (hints_words false s.hints 10 t refl hints)))

pub steps_back : (id : ℕ) (ss : List Derived) → (0 < length ss → id + length ss < 2 ^ 31 + 1) → AllStepsSmall ss → AreLratSteps id (words_from true (steps_text id ss)) ss
steps_back id [] few h = no_step
steps_back id (s ∷ ss) few h =
    let fits = few (omega arith) in
    let small : id < 2 ^ 31 = omega (arith, fits) in
    subst (λ ws. AreLratSteps id ws (s ∷ ss)) (sym (step_words id s (steps_text (id + 1) ss) small h.0 h.1))
    (then_step (number_back id small) (literals_back most_number s.clause _ (omega arith) h.0) (hints_back s.hints _ h.1) (steps_back (id + 1) ss (λ some. omega (arith, fits)) h.2))

-- ---- as the code writes

-- all steps are written
pub written_all : (given id i : ℕ) (ss : List Derived) (items : List ℕ) → length ss ≤ i → items ++ steps_text (id + 1) (drop i ss) ≡ steps_text (given + 1) ss → items ≡ steps_text (given + 1) ss
written_all given id i ss items beyond same = sym (append-nil items) ∙ (ap (λ xs. items ++ steps_text (id + 1) xs) (sym (drop_of_length-le ss beyond)) ∙ same)

-- a step of a derivation that can be written
pub step_holds : (ss items : List Derived) (i : ℕ) (d : Derived) → All FitsLratLine ss → items ≡ ss → i < length items → d ≡ get_or items i d → FitsLratLine d
step_holds ss items i d all e h is = subst FitsLratLine (sym is) (All-contains FitsLratLine items (get_or items i d) (subst (All FitsLratLine) (sym e) all) (Contains-get_or items i d h))

-- ---- as the code reads

small_by : (m n : ℕ) (a b : Bool) → nat_lt m (2 ^ 31) ≡ b → (if a && b then Some m else None) ≡ Some n → n < 2 ^ 31
small_by m n true true e s =
    let same : m ≡ n = cc in
    let less : m < 2 ^ 31 = grind (arith, e) in
    subst (λ (k : ℕ). k < 2 ^ 31) same less
small_by m n true false e s = cc
small_by m n false b e s = cc

-- a number that is read is below 2^31
pub number_small : (w : List ℕ) (n : ℕ) → number_in w ≡ Some n → n < 2 ^ 31
number_small w n s = small_by (base.decimal w) n (is_numeral w) (nat_lt (base.decimal w) (2 ^ 31)) refl s

-- no words are left
pub all_read : (first id : ℕ) (whole ws : List (List ℕ)) (found result : List Derived) → ws ≡ [] → result ≡ found → ((ss : List Derived) → AreLratSteps id ws ss → AreLratSteps first whole (found ++ ss)) → AreLratSteps first whole result
all_read first id whole ws found result none is so_far =
    subst (AreLratSteps first whole) (append-nil found ∙ sym is) (so_far [] (subst (λ us. AreLratSteps id us []) (sym none) no_step))
