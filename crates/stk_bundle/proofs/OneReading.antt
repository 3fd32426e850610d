-- A text is a bundle in one way alone.
use Rattle.std.proofs.Common.{◌≡◌, ℕ, ◌+◌, ◌<◌, true, nat_eq, cond, List, [], ◌∷◌, ◌++◌, map, Option, Some, None, append_assoc, refl, sym, ap, ◌∙◌, arith}
use Rattle.std.specs.List.{AllByRecursion}
use Rattle.std.specs.Option.{option_and_then}
use Rattle.stk_bundle.specs.declared.line.BundleLine.{BundleLine}
use Rattle.stk_bundle.specs.declared.stage.Stage.{Stage}
use Rattle.stk_bundle.specs.declared.stage.Stage.TheVariants as stage
use Rattle.stk_bundle.specs.Lines.{line_text}
use Rattle.stk_line_reading.specs.Lines.{IsFirst}
use Rattle.stk_bundle.specs.Blocks.{line_count, ends_line}
use Rattle.stk_bundle.specs.Grammar.{next_stage, stage_behind}
use Rattle.stk_bundle.specs.Bundles.{LineBlock, block_lines, part_text, parts_text, IsPart, AreParts}
use Rattle.stk_bundle.proofs.LineTexts.{one_line}
use Rattle.stk_line_reading.proofs.FirstLines.{one_first}
use Rattle.stk_bundle.proofs.BlockTexts.{count_append}
use Rattle.stk_bundle.proofs.Newlines.{no_newline_in}

-- ---- blocks

newline_counts : (b : ℕ) → nat_eq b 10 ≡ true → line_count (b ∷ []) ≡ 1
newline_counts b e = ap (λ t. 0 + cond t 1 0) e

some_lines : (b : ℕ) (bs : List ℕ) → ends_line (b ∷ bs) ≡ true → 0 < line_count (b ∷ bs)
some_lines b [] e = let one = newline_counts b e in omega (arith, one)
some_lines b (c ∷ bs) e =
    let more = some_lines c bs e in
    let all = count_append (b ∷ []) (c ∷ bs) in
    omega (arith, more, all)

ends_tail : (b : ℕ) (bs : List ℕ) → ends_line (b ∷ bs) ≡ true → ends_line bs ≡ true
ends_tail b [] e = refl
ends_tail b (c ∷ bs) e = e

one_block : (b x c y : List ℕ) → line_count b ≡ line_count c → ends_line b ≡ true → ends_line c ≡ true → b ++ x ≡ c ++ y → (b ≡ c) × (x ≡ y)
one_block [] x [] y n h k e = (refl, e)
one_block [] x (v ∷ c) y n h k e = absurd (let some = some_lines v c k in let none : line_count (v ∷ c) ≡ 0 = sym n in omega (arith, some, none))
one_block (u ∷ b) x [] y n h k e = absurd (let some = some_lines u b h in let none : line_count (u ∷ b) ≡ 0 = n in omega (arith, some, none))
one_block (u ∷ b) x (v ∷ c) y n h k e =
    let both : u ∷ (b ++ x) ≡ v ∷ (c ++ y) = e in
    let first : u ≡ v = cc in
    let tails : b ++ x ≡ c ++ y = cc in
    let left = count_append (u ∷ []) b in
    let right = count_append (v ∷ []) c in
    let same = ap (λ i. line_count (i ∷ [])) first in
    let counts : line_count b ≡ line_count c = omega (arith, n, left, right, same) in
    let inner = one_block b x c y counts (ends_tail u b h) (ends_tail v c k) tails in
    (ap (λ i. i ∷ b) first ∙ ap (λ t. v ∷ t) inner.0, inner.1)

-- ---- parts

first_of : (text : List ℕ) (p : LineBlock) (behind : List ℕ) → text ≡ part_text p ++ behind → IsPart p → IsFirst text (line_text p.line) (p.block ++ behind)
first_of text p behind e h = record { whole = e ∙ append_assoc (line_text p.line) (10 ∷ p.block) behind; others = no_newline_in p.line h.fits }

one_part_of : (text : List ℕ) (p q : LineBlock) (x y : List ℕ) → text ≡ part_text p ++ x → text ≡ part_text q ++ y → IsPart p → IsPart q → (p ≡ q) × (x ≡ y)
one_part_of text p q x y e d h k =
    let firsts = one_first text (line_text p.line) (p.block ++ x) (line_text q.line) (q.block ++ y) (first_of text p x e h) (first_of text q y d k) in
    let line : p.line ≡ q.line = one_line (line_text p.line) p.line q.line (record { same = refl; fits = h.fits }) (record { same = firsts.0; fits = k.fits }) in
    let counts : line_count p.block ≡ line_count q.block = h.block.count ∙ (ap block_lines line ∙ sym k.block.count) in
    let blocks = one_block p.block x q.block y counts h.block.ends k.block.ends firsts.1 in
    let same : p ≡ q = ap (λ (l : BundleLine). let r : LineBlock = record { line = l; block = p.block } in r) line ∙ ap (λ (b : List ℕ). let r : LineBlock = record { line = q.line; block = b } in r) blocks.0 in
    (same, blocks.1)

some_none : (next : Stage) → ◌≡◌ {A = Option Stage} None (Some next) → ⊥
some_none next e = cc

-- ---- whole bundles

-- a stage from which parts lead to the end, and the stage behind the first of them
step_of : (o : Option Stage) (f : Stage → Option Stage) (at : Stage) → option_and_then f o ≡ Some at → (n : Stage) × (o ≡ Some n) × (f n ≡ Some at)
step_of None f at e = absurd (some_none at e)
step_of (Some n) f at e = (n, refl, e)

-- none may stand behind the end
none_behind : (from : Stage) (l : BundleLine) (f : Stage → Option Stage) → from ≡ stage.Ended → option_and_then f (next_stage from l) ≡ Some stage.Ended → ⊥
none_behind from l f is e =
    let s = step_of (next_stage from l) f stage.Ended e in
    some_none s.0 (ap (λ a. next_stage a l) (sym is) ∙ s.1)

one_bundle : (from : Stage) (text : List ℕ) (ps qs : List LineBlock) (x y : List ℕ) → text ≡ parts_text ps ++ x → text ≡ parts_text qs ++ y → AllByRecursion IsPart ps → AllByRecursion IsPart qs
    → stage_behind from (map (λ (p : LineBlock). p.line) ps) ≡ Some stage.Ended → stage_behind from (map (λ (p : LineBlock). p.line) qs) ≡ Some stage.Ended → (ps ≡ qs) × (x ≡ y)
one_bundle from text [] [] x y e d h k s t = (refl, sym e ∙ d)
one_bundle from text [] (q ∷ qs) x y e d h k s t =
    let is : from ≡ stage.Ended = cc in
    absurd (none_behind from q.line (λ n. stage_behind n (map (λ (p : LineBlock). p.line) qs)) is t)
one_bundle from text (p ∷ ps) [] x y e d h k s t =
    let is : from ≡ stage.Ended = cc in
    absurd (none_behind from p.line (λ n. stage_behind n (map (λ (q : LineBlock). q.line) ps)) is s)
one_bundle from text (p ∷ ps) (q ∷ qs) x y e d h k s t =
    let part = one_part_of text p q (parts_text ps ++ x) (parts_text qs ++ y) (e ∙ append_assoc (part_text p) (parts_text ps) x) (d ∙ append_assoc (part_text q) (parts_text qs) y) h.0 k.0 in
    let a = step_of (next_stage from p.line) (λ n. stage_behind n (map (λ (r : LineBlock). r.line) ps)) stage.Ended s in
    let b = step_of (next_stage from q.line) (λ n. stage_behind n (map (λ (r : LineBlock). r.line) qs)) stage.Ended t in
    let stages : ◌≡◌ {A = Option Stage} (Some a.0) (Some b.0) = sym a.1 ∙ (ap (λ (r : LineBlock). next_stage from r.line) part.0 ∙ b.1) in
    let same : a.0 ≡ b.0 = cc in
    let rest = one_bundle a.0 (parts_text ps ++ x) ps qs x y refl part.1 h.1 k.1 a.2 (ap (λ n. stage_behind n (map (λ (r : LineBlock). r.line) qs)) same ∙ b.2) in
    (ap (λ r. r ∷ ps) part.0 ∙ ap (λ rs. q ∷ rs) rest.0, rest.1)

pub one_reading : (text : List ℕ) (ps qs : List LineBlock) (x y : List ℕ) → AreParts text ps stage.Ended x → AreParts text qs stage.Ended y → (ps ≡ qs) × (x ≡ y)
one_reading text ps qs x y a b = one_bundle stage.Start text ps qs x y a.whole b.whole a.are b.are a.lead b.lead
