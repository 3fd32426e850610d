-- What a sink took of a bundle.
use Rattle.std.proofs.Common.{◌≡◌, ℕ, inl, inr, List, [], ◌++◌, Option, append_assoc, refl, sym, ap, subst, ◌∙◌}
use Rattle.std.proofs.lemmas.List.{append-nil}
use Rattle.stk_base.specs.declared.status.Status.{Status}
use Rattle.stk_base.specs.Streams.{Appended, AppendedPrefix, IsFlushed}
use Rattle.stk_lex.specs.declared.token.Token.{Token}
use Rattle.stk_lex.specs.declared.cutting.Piece.{Piece}
use Rattle.stk_numbers.specs.declared.conditions.Kinds.{Kinds}
use Rattle.stk_records.specs.declared.counts.Counts.{Counts}
use Rattle.stk_records.proofs.Written.{appended_more, prefix_more}
use Rattle.stk_units.specs.Counted.{status_of}
use Rattle.stk_units.specs.Pieces.{AreUnitsOf}
use Rattle.stk_units.specs.Said.{AreSaid, AreSaidFirst, no_further, AreAllTold, AreToldFirst}
use Rattle.stk_bundles.specs.Units.{FunctionPart, said_text, said_marks, IsUnitPart, IsUnitBegun}
use Rattle.stk_bundles.specs.Bundles.{head_text, end_text, IsLawfulBundle, IsBundleBegun, TookBundle, TookBundlePrefix}

module _ (bytes : List ℕ) (without : Kinds) (budget : ℕ) (kept : List Token) (pieces : List Piece) (units : AreUnitsOf bytes kept pieces) where
  abbrev head : List ℕ
  head = head_text bytes without

  lawful : (said : List FunctionPart) (counts : Counts) → AreSaid (IsUnitPart bytes without budget) kept [] pieces said counts → IsLawfulBundle bytes without budget (head_text bytes without ++ (said_text said ++ end_text)) (status_of counts.unstable counts.undecided) (said_marks said)
  lawful said counts are = record {
    said = said;
    counts = counts;
    units = record {
      tokens = units.tokens;
      cut = units.cut;
      units = rw (units.same_tokens) at (subst (λ (ps : List Piece). AreSaid (IsUnitPart bytes without budget) kept [] ps said counts) units.same_pieces are);
    };
    same_text = refl;
    same_status = refl;
    same_marks = refl;
  }

  begun : (said : List FunctionPart) → AreSaidFirst (IsUnitPart bytes without budget) (IsUnitBegun bytes without budget) kept [] pieces said → IsBundleBegun bytes without budget (head_text bytes without ++ said_text said)
  begun said are = record {
    said = said;
    units = record {
      tokens = units.tokens;
      cut = units.cut;
      units = rw (units.same_tokens) at (subst (λ (ps : List Piece). AreSaidFirst (IsUnitPart bytes without budget) (IsUnitBegun bytes without budget) kept [] ps said) units.same_pieces are);
    };
    same_text = refl;
  }

  -- the whole bundle
  pub bundle_taken : (before begin middle after : Option (List ℕ)) (flushed first last : ℕ) (counts : Counts) (status : Status) → Appended before begin (head_text bytes without)
      → AreAllTold (IsUnitPart bytes without budget) said_text said_marks kept pieces begin middle first last counts → Appended middle after end_text → IsFlushed after flushed → status ≡ status_of counts.unstable counts.undecided → TookBundle bytes without budget before after flushed first last status
  bundle_taken before begin middle after flushed first last counts status top w bottom flush e = record {
    text = head_text bytes without ++ (said_text w.said ++ end_text);
    marks = said_marks w.said;
    lawful = rw e (lawful w.said counts w.are);
    written = appended_more before begin after (head_text bytes without) (said_text w.said ++ end_text) top (appended_more begin middle after (said_text w.said) end_text w.written bottom);
    flush = flush;
    counted = w.counted;
  }

  -- it stopped in the first lines
  pub head_stops : (before after : Option (List ℕ)) → AppendedPrefix before after (head_text bytes without) → TookBundlePrefix bytes without budget before after
  head_stops before after top = record {
    text = head_text bytes without ++ said_text [];
    front = inr (begun [] no_further);
    written = subst (AppendedPrefix before after) (sym (append-nil (head_text bytes without))) top;
  }

  -- it stopped at a unit
  pub units_stop : (before begin after : Option (List ℕ)) → Appended before begin (head_text bytes without) → AreToldFirst (IsUnitPart bytes without budget) (IsUnitBegun bytes without budget) said_text kept pieces begin after → TookBundlePrefix bytes without budget before after
  units_stop before begin after top w = record {
    text = head_text bytes without ++ said_text w.said;
    front = inr (begun w.said w.are);
    written = subst (AppendedPrefix before after) (ap (λ (u : List ℕ). head_text bytes without ++ u) (append-nil (said_text w.said))) (prefix_more before begin after (head_text bytes without) (said_text w.said) [] top w.written);
  }

  -- it stopped in the last line
  pub end_stops : (before begin middle after : Option (List ℕ)) (first last : ℕ) (counts : Counts) → Appended before begin (head_text bytes without)
      → AreAllTold (IsUnitPart bytes without budget) said_text said_marks kept pieces begin middle first last counts → AppendedPrefix middle after end_text → TookBundlePrefix bytes without budget before after
  end_stops before begin middle after first last counts top w (front, back, same, taken) = record {
    text = head_text bytes without ++ (said_text w.said ++ end_text);
    front = inl (status_of counts.unstable counts.undecided, (said_marks w.said, lawful w.said counts w.are));
    written = (
      head_text bytes without ++ (said_text w.said ++ front),
      back,
      ap (λ (u : List ℕ). head_text bytes without ++ (said_text w.said ++ u)) same ∙ ap (λ (u : List ℕ). head_text bytes without ++ u) (sym (append_assoc (said_text w.said) front back)) ∙ sym (append_assoc (head_text bytes without) (said_text w.said ++ front) back),
      appended_more before begin after (head_text bytes without) (said_text w.said ++ front) top (appended_more begin middle after (said_text w.said) front w.written taken),
    );
  }
