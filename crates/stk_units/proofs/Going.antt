-- How what is said of units is told, one unit after the other.
use Rattle.std.proofs.Common.{◌≡◌, ℕ, suc, ◌+◌, ◌*◌, ◌-◌, ◌<◌, ◌≤◌, Bool, List, [], ◌∷◌, ◌++◌, length, drop, get_or, Option, sym, ap, subst, ◌∙◌, append_assoc, arith}
use Rattle.std.proofs.Common.{drop-cons}
use Rattle.std.proofs.lemmas.List.{append-nil, length-take, length-drop, drop_all}
use Rattle.stk_base.specs.Streams.{Appended, AppendedPrefix}
use Rattle.stk_lex.specs.declared.token.Token.{Token}
use Rattle.stk_lex.specs.declared.cutting.Piece.{Piece}
use Rattle.stk_lex.specs.Units.{AreJoined}
use Rattle.stk_ctype.specs.declared.symbol.NameEntry.{NameEntry}
use Rattle.stk_type_laws.specs.Orderly.{AreOrderly}
use Rattle.stk_spent_queries.specs.Marks.{AreCounted}
use Rattle.stk_spent_queries.proofs.Counting.{counted_none, counted_more}
use Rattle.stk_records.specs.declared.counts.Counts.{Counts}
use Rattle.stk_records.specs.Counts.{nothing_counted, counts_sum, AreBelow}
use Rattle.stk_records.proofs.Written.{nothing_appended, appended_more, prefix_more}
use Rattle.stk_units.specs.Pieces.{tokens_of_piece, body_of_piece}
use Rattle.stk_units.specs.Said.{UnitSaying, UnitBeginning, AreSaid, no_unit, then_unit, AreSaidFirst, no_further, next_begun, unit_before, AreAllTold, AreToldFirst}
use Rattle.stk_units.proofs.Counts.{nothing_plus, plus_nothing, plus_plus, AreAtMost, nothing_most, below, most_sum}

-- ---- where units stand

pub joined_up : (from to : ℕ) (ps : List Piece) → AreJoined from to ps → from ≤ to
joined_up from to [] h = omega (arith, h)
joined_up from to (p ∷ ps) h = omega (arith, h.1, joined_up p.to to ps h.3)

-- a unit has a token
pub piece_some : (tokens : List Token) (p : Piece) → p.from < p.to → p.to ≤ length tokens → 0 < length (tokens_of_piece tokens p)
piece_some tokens p h within = omega (arith, h, within, length-take (p.to - p.from) (drop p.from tokens), length-drop p.from tokens)

piece_length : (tokens : List Token) (p : Piece) → length (tokens_of_piece tokens p) ≤ p.to - p.from
piece_length tokens p = omega (arith, length-take (p.to - p.from) (drop p.from tokens))

-- the next unit begins where those so far end, and its tokens are among all
pub record IsNextUnit (size at : ℕ) (p : Piece) (behind : List Piece) : Type 0 where
  pub from : p.from ≡ at
  pub some : p.from < p.to
  pub within : p.to ≤ size
  pub rest : AreJoined p.to size behind

next_joined : (size at : ℕ) (ps : List Piece) (p : Piece) (rest : List Piece) → ps ≡ p ∷ rest → AreJoined at size ps → IsNextUnit size at p rest
next_joined size at ps p rest e h =
    let k : AreJoined at size (p ∷ rest) = subst (AreJoined at size) e h in
    record { from = k.0; some = omega (arith, k.0, k.1); within = joined_up p.to size rest k.3; rest = k.3 }

pub piece_behind : (pieces : List Piece) (i : ℕ) (d : Piece) → i < length pieces → drop i pieces ≡ get_or pieces i d ∷ drop (i + 1) pieces
piece_behind pieces i d h = let e : suc i ≡ i + 1 = omega arith in drop-cons pieces i d h ∙ ap (λ n. get_or pieces i d ∷ drop n pieces) e

-- ---- what is said of units, as texts with marks

-- what is said of nothing has no text and no marks, what is said of two parts has those of both, a unit leaves orderly
-- names, and it counts for little
pub record AreTold {A : Type 0} (Says : UnitSaying A) (text : List A → List ℕ) (marks : List A → ℕ) : Type 0 where
  pub no_text : text [] ≡ []
  pub more_text : (xs ys : List A) → text (xs ++ ys) ≡ text xs ++ text ys
  pub no_marks : marks [] ≡ 0
  pub more_marks : (xs ys : List A) → marks (xs ++ ys) ≡ marks xs + marks ys
  pub leaves_orderly : (mark : Bool) (es now : List NameEntry) (body : Option ℕ) (unit : List Token) (said : List A) (counts : Counts) → AreOrderly es → Says mark es body unit said counts now → AreOrderly now
  pub counts_few : (mark : Bool) (es now : List NameEntry) (body : Option ℕ) (unit : List Token) (said : List A) (counts : Counts) → 0 < length unit → Says mark es body unit said counts now → AreAtMost (80000 * length unit) counts

-- The units before the i-th are told and leave these names in force, a count of what was given up tells of their marks,
-- and what is said of those behind it makes what is said of all.
pub record AreSoFar {A : Type 0} (Says : UnitSaying A) (Begins : UnitBeginning A) (text : List A → List ℕ) (marks : List A → ℕ) (tokens : List Token) (pieces : List Piece) (i : ℕ) (before after : Option (List ℕ)) (first last : ℕ) (counts : Counts) (now : List NameEntry) : Type 0 where
  pub at : ℕ
  pub joined : AreJoined at (length tokens) (drop i pieces)
  pub most : AreAtMost (80000 * at) counts
  pub orderly : AreOrderly now
  pub said : List A
  pub written : Appended before after (text said)
  pub counted : AreCounted first last (marks said)
  pub rises : first ≤ last
  pub goes_on : (more : List A) (others : Counts) → AreSaid Says tokens now (drop i pieces) more others → AreSaid Says tokens [] pieces (said ++ more) (counts_sum counts others)
  pub begins_on : (more : List A) → AreSaidFirst Says Begins tokens now (drop i pieces) more → AreSaidFirst Says Begins tokens [] pieces (said ++ more)

module _ {A : Type 0} (Says : UnitSaying A) (Begins : UnitBeginning A) (text : List A → List ℕ) (marks : List A → ℕ) (laws : AreTold Says text marks) (tokens : List Token) (pieces : List Piece) (before : Option (List ℕ)) (first : ℕ) where
  abbrev SoFar : ℕ → Option (List ℕ) → ℕ → Counts → List NameEntry → Type 0
  SoFar i after last counts now = AreSoFar Says Begins text marks tokens pieces i before after first last counts now

  pub none_so_far : AreJoined 0 (length tokens) pieces → AreSoFar Says Begins text marks tokens pieces 0 before before first first nothing_counted []
  none_so_far joined = record {
    at = 0;
    joined = joined;
    most = nothing_most 0;
    orderly = record { objects = tt; structs = tt };
    said = [];
    written = subst (Appended before before) (sym laws.no_text) (nothing_appended before);
    counted = subst (AreCounted first first) (sym laws.no_marks) (counted_none first first (omega arith));
    rises = omega arith;
    goes_on = λ more others are. subst (λ c. AreSaid Says tokens [] pieces more c) (sym (nothing_plus others)) are;
    begins_on = λ more are. are;
  }

  module _ (i : ℕ) (middle : Option (List ℕ)) (last : ℕ) (counts : Counts) (now : List NameEntry) (h : AreSoFar Says Begins text marks tokens pieces i before middle first last counts now) where
    pub so_far_few : length tokens ≤ 16777216 → AreBelow counts
    so_far_few few = below (80000 * h.at) counts (omega (arith, joined_up h.at (length tokens) (drop i pieces) h.joined, few)) h.most

    -- all units
    pub all_told : length pieces ≤ i → AreAllTold Says text marks tokens pieces before middle first last counts
    all_told past =
        let none : drop i pieces ≡ [] = drop_all i pieces past in
        let are = h.goes_on [] nothing_counted (subst (λ (ps : List Piece). AreSaid Says tokens now ps [] nothing_counted) (sym none) no_unit) in
        record {
          said = h.said;
          are = subst (λ c. AreSaid Says tokens [] pieces h.said c) (plus_nothing counts) (subst (λ (u : List A). AreSaid Says tokens [] pieces u (counts_sum counts nothing_counted)) (append-nil h.said) are);
          written = h.written;
          counted = h.counted;
        }

    -- nothing further is told
    pub stops_between : (after : Option (List ℕ)) → after ≡ middle → AreToldFirst Says Begins text tokens pieces before after
    stops_between after same = record {
      said = h.said;
      are = subst (λ (u : List A). AreSaidFirst Says Begins tokens [] pieces u) (append-nil h.said) (h.begins_on [] no_further);
      written = (text h.said, [], sym (append-nil (text h.said)), subst (λ (o : Option (List ℕ)). Appended before o (text h.said)) (sym same) h.written);
    }

    module _ (d : Piece) (within : i < length pieces) where
      abbrev p : Piece
      p = get_or pieces i d

      here : drop i pieces ≡ get_or pieces i d ∷ drop (i + 1) pieces
      here = piece_behind pieces i d within

      pub next_unit : IsNextUnit (length tokens) h.at (get_or pieces i d) (drop (i + 1) pieces)
      next_unit = next_joined (length tokens) h.at (drop i pieces) (get_or pieces i d) (drop (i + 1) pieces) here h.joined

      pub unit_some : 0 < length (tokens_of_piece tokens (get_or pieces i d))
      unit_some = piece_some tokens p next_unit.some next_unit.within

      -- what a unit counts for is few
      pub unit_few : (mark : Bool) (es now : List NameEntry) (body : Option ℕ) (unit : List Token) (said : List A) (more : Counts) → length tokens ≤ 16777216 → unit ≡ tokens_of_piece tokens (get_or pieces i d) → Says mark es body unit said more now → AreBelow more
      unit_few mark es now body unit said more few same are =
          let some : 0 < length unit = subst (λ (u : List Token). 0 < length u) (sym same) unit_some in
          below (80000 * length unit) more (omega (arith, ap length same, piece_length tokens p, next_unit.within, few)) (laws.counts_few mark es now body unit said more some are)

      -- one more unit
      pub one_more_told : (after : Option (List ℕ)) (later : ℕ) (left : List NameEntry) (said : List A) (more : Counts) → last ≤ later → let q = get_or pieces i d in
          Says q.no_return now (body_of_piece q) (tokens_of_piece tokens q) said more left → Appended middle after (text said) → AreCounted last later (marks said) → AreSoFar Says Begins text marks tokens pieces (i + 1) before after first later (counts_sum counts more) left
      one_more_told after later left said more up are written counted =
          let n = next_unit in
          let unit = tokens_of_piece tokens p in
          let most = laws.counts_few p.no_return now left (body_of_piece p) unit said more unit_some are in
          record {
            at = p.to;
            joined = n.rest;
            most = most_sum (80000 * h.at) (80000 * length unit) (80000 * p.to) counts more (omega (arith, n.from, n.some, piece_length tokens p)) h.most most;
            orderly = laws.leaves_orderly p.no_return now left (body_of_piece p) unit said more h.orderly are;
            said = h.said ++ said;
            written = subst (Appended before after) (sym (laws.more_text h.said said)) (appended_more before middle after (text h.said) (text said) h.written written);
            counted = subst (AreCounted first later) (sym (laws.more_marks h.said said)) (counted_more first last later (marks h.said) (marks said) h.rises up h.counted counted);
            rises = omega (arith, h.rises, up);
            goes_on = λ others rest behind.
                let all = h.goes_on (said ++ others) (counts_sum more rest) (subst (λ (ps : List Piece). AreSaid Says tokens now ps (said ++ others) (counts_sum more rest)) (sym here) (then_unit are behind)) in
                subst (λ c. AreSaid Says tokens [] pieces ((h.said ++ said) ++ others) c) (plus_plus counts more rest)
                (subst (λ (u : List A). AreSaid Says tokens [] pieces u (counts_sum counts (counts_sum more rest))) (sym (append_assoc h.said said others)) all);
            begins_on = λ others behind.
                let all = h.begins_on (said ++ others) (subst (λ (ps : List Piece). AreSaidFirst Says Begins tokens now ps (said ++ others)) (sym here) (unit_before are behind)) in
                subst (λ (u : List A). AreSaidFirst Says Begins tokens [] pieces u) (sym (append_assoc h.said said others)) all;
          }

      -- some prefix of what may be said first of the next unit
      pub stops_inside : (after : Option (List ℕ)) (said : List A) → let q = get_or pieces i d in
          Begins q.no_return now (body_of_piece q) (tokens_of_piece tokens q) said → AppendedPrefix middle after (text said) → AreToldFirst Says Begins text tokens pieces before after
      stops_inside after said begun written = record {
        said = h.said ++ said;
        are = h.begins_on said (subst (λ (ps : List Piece). AreSaidFirst Says Begins tokens now ps said) (sym here) (next_begun begun));
        written = subst (AppendedPrefix before after) (ap (λ (u : List ℕ). text h.said ++ u) (append-nil (text said)) ∙ sym (laws.more_text h.said said)) (prefix_more before middle after (text h.said) (text said) [] h.written written);
      }
