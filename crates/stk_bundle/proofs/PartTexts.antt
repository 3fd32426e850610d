-- Parts of bundles: which line comes next, whether it may stand, and how parts follow each other.
use Rattle.std.proofs.Common.{◌≡◌, ℕ, ◌-◌, ◌<◌, ◌≤◌, true, List, [], ◌∷◌, ◌++◌, length, length-append, take, map, Option, Some, None, append_assoc, refl, sym, ap, ◌∙◌, arith}
use Rattle.std.specs.List.{AllByRecursion}
use Rattle.std.specs.Option.{option_and_then}
use Rattle.std.proofs.lemmas.Bool.{true≢false}
use Rattle.std.proofs.Math.Seq.{take-append_seam}
use Rattle.std.proofs.lemmas.List.{append-nil, map-append}
use Rattle.stk_bundle.specs.declared.line.BundleLine.{BundleLine}
use Rattle.stk_bundle.specs.declared.stage.Stage.{Stage}
use Rattle.stk_bundle.specs.declared.stage.Stage.TheVariants as stage
use Rattle.stk_bundle.specs.Lines.{line_text, IsLine}
use Rattle.stk_line_reading.specs.Lines.{IsFirst}
use Rattle.stk_bundle.specs.Blocks.{line_count, IsBlock}
use Rattle.stk_bundle.specs.Grammar.{next_stage, stage_behind, is_ended}
use Rattle.stk_bundle.specs.Bundles.{LineBlock, block_lines, part_text, parts_text, IsPart, IsNextLine, NoLineStands, IsBlockShort, IsNextPart, AreParts}
use Rattle.stk_bundle.proofs.LineTexts.{one_line}
use Rattle.stk_line_reading.proofs.FirstLines.{one_first}
use Rattle.stk_bundle.proofs.Newlines.{no_newline_in}

first_of : (at : Stage) (text : List ℕ) (l : BundleLine) (behind : List ℕ) → IsNextLine at text l behind → IsFirst text (line_text l) behind
first_of at text l behind h = record { whole = h.whole; others = no_newline_in l h.fits }

-- where no newline comes
pub no_line : (at : Stage) (text : List ℕ) → ((line behind : List ℕ) → IsFirst text line behind → ⊥) → NoLineStands at text
no_line at text none l behind h = none (line_text l) behind (first_of at text l behind h)

first_is : (at : Stage) (text first rest : List ℕ) → IsFirst text first rest → (l : BundleLine) (behind : List ℕ) → IsNextLine at text l behind → IsLine first l
first_is at text first rest f l behind h =
    record { same = (one_first text first rest (line_text l) behind f (first_of at text l behind h)).0; fits = h.fits }

-- where the first line is no line's text
pub no_text : (at : Stage) (text first rest : List ℕ) → IsFirst text first rest → ((l : BundleLine) → IsLine first l → ⊥) → NoLineStands at text
no_text at text first rest f none l behind h = none l (first_is at text first rest f l behind h)

-- where the line may not stand
pub no_place : (at : Stage) (text first rest : List ℕ) (m : BundleLine) → IsFirst text first rest → IsLine first m → next_stage at m ≡ None → NoLineStands at text
no_place at text first rest m f is none l behind h =
    let same : l ≡ m = one_line first l m (first_is at text first rest f l behind h) is in
    h.stands (ap (next_stage at) same ∙ none)

some_none : (next : Stage) → ◌≡◌ {A = Option Stage} (Some next) None → ⊥
some_none next e = cc

-- where its block isn't all there
pub block_short : (at : Stage) (text first rest : List ℕ) (m : BundleLine) (next : Stage) → IsFirst text first rest → IsLine first m → next_stage at m ≡ Some next → line_count rest < block_lines m → IsBlockShort at text
block_short at text first rest m next f is leads short =
    record {
      line = m;
      behind = rest;
      next = record { whole = f.whole ∙ ap (λ t. t ++ 10 ∷ rest) is.same; fits = is.fits; stands = λ e. some_none next (sym leads ∙ e) };
      short = short;
    }

-- where it is
pub part_read : (at : Stage) (text first rest block behind : List ℕ) (m : BundleLine) (next : Stage) → IsFirst text first rest → IsLine first m → next_stage at m ≡ Some next → rest ≡ block ++ behind → IsBlock (block_lines m) block
    → IsNextPart at text (record { line = m; block = block }) next behind
part_read at text first rest block behind m next f is leads split b =
    record {
      whole = f.whole ∙ (ap (λ t. t ++ 10 ∷ rest) is.same ∙ (ap (λ t. line_text m ++ 10 ∷ t) split ∙ sym (append_assoc (line_text m) (10 ∷ block) behind)));
      is = record { fits = is.fits; block = b };
      leads = leads;
    }

-- ---- one part after the other

parts_append : (ps : List LineBlock) (p : LineBlock) → parts_text (ps ++ p ∷ []) ≡ parts_text ps ++ part_text p
parts_append [] p = append-nil (part_text p)
parts_append (q ∷ qs) p = ap (λ t. part_text q ++ t) (parts_append qs p) ∙ sym (append_assoc (part_text q) (parts_text qs) (part_text p))

all_more : (ps : List LineBlock) (p : LineBlock) → AllByRecursion IsPart ps → IsPart p → AllByRecursion IsPart (ps ++ p ∷ [])
all_more [] p h k = (k, tt)
all_more (q ∷ qs) p h k = (h.0, all_more qs p h.1 k)

step_more : (o : Option Stage) (f g : Stage → Option Stage) (at next : Stage) → ((n : Stage) → f n ≡ Some at → g n ≡ Some next) → option_and_then f o ≡ Some at → option_and_then g o ≡ Some next
step_more None f g at next more e = absurd (some_none at (sym e))
step_more (Some n) f g at next more e = more n e

lead_more : (from : Stage) (ls : List BundleLine) (l : BundleLine) (at next : Stage) → stage_behind from ls ≡ Some at → next_stage at l ≡ Some next → stage_behind from (ls ++ l ∷ []) ≡ Some next
lead_more from [] l at next s e =
    let same : from ≡ at = cc in
    ap (option_and_then (λ n. stage_behind n [])) (ap (λ b. next_stage b l) same ∙ e)
lead_more from (x ∷ xs) l at next s e =
    step_more (next_stage from x) (λ n. stage_behind n xs) (λ n. stage_behind n (xs ++ l ∷ [])) at next (λ n t. lead_more n xs l at next t e) s

-- no part was read
pub no_parts : (text : List ℕ) → AreParts text [] stage.Start text
no_parts text = record { whole = refl; are = tt; lead = refl }

-- one part more
pub one_part : (text : List ℕ) (ps : List LineBlock) (at : Stage) (rest : List ℕ) (p : LineBlock) (next : Stage) (behind : List ℕ) → AreParts text ps at rest → IsNextPart at rest p next behind → AreParts text (ps ++ p ∷ []) next behind
one_part text ps at rest p next behind a h =
    record {
      whole = a.whole ∙ (ap (λ t. parts_text ps ++ t) h.whole ∙ (sym (append_assoc (parts_text ps) (part_text p) behind) ∙ ap (λ t. t ++ behind) (sym (parts_append ps p))));
      are = all_more ps p a.are h.is;
      lead = ap (stage_behind stage.Start) (map-append (λ (q : LineBlock). q.line) ps (p ∷ [])) ∙ lead_more stage.Start (map (λ (q : LineBlock). q.line) ps) p.line at next a.lead h.leads;
    }

-- what comes behind a part is shorter
pub shorter : (at : Stage) (text : List ℕ) (p : LineBlock) (next : Stage) (behind : List ℕ) → IsNextPart at text p next behind → length behind < length text
shorter at text p next behind h =
    let all = ap length h.whole ∙ length-append (part_text p) behind in
    let part = length-append (line_text p.line) (10 ∷ p.block) in
    omega arith

-- what stands behind is no longer than the whole
pub within : (text : List ℕ) (ps : List LineBlock) (at : Stage) (rest : List ℕ) → AreParts text ps at rest → length rest ≤ length text
within text ps at rest a = let all = ap length a.whole ∙ length-append (parts_text ps) rest in omega arith

-- what stands in front is the parts
pub passed : (text : List ℕ) (ps : List LineBlock) (at : Stage) (rest front : List ℕ) → AreParts text ps at rest → front ≡ take (length text - length rest) text → front ≡ parts_text ps
passed text ps at rest front a is =
    let all = ap length a.whole ∙ length-append (parts_text ps) rest in
    let place : length text - length rest ≡ length (parts_text ps) = omega arith in
    is ∙ (ap (λ n. take n text) place ∙ (ap (take (length (parts_text ps))) a.whole ∙ take-append_seam (parts_text ps) rest))

-- where the line `end` has come
pub ended_is : (at : Stage) → is_ended at ≡ true → at ≡ stage.Ended
ended_is stage.Ended e = refl
ended_is at e = absurd (true≢false (sym e))
