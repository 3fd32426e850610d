-- Cells and replies as texts: a text is one of them at most.
use Rattle.std.proofs.Common.{◌≡◌, ℕ, ◌<◌, ◌≤◌, true, ◌&&◌, List, [], ◌∷◌, ◌++◌, length, length-append, append_assoc, append-nil, decimal, refl, sym, ap, ◌∙◌, subst, arith}
use Rattle.std.specs.List.{list_all, AllByRecursion}
use Rattle.std.specs.Fmt.{signed_decimal}
use Rattle.std.proofs.lemmas.List.Folds.{list_all-append}
use Rattle.stk_line_reading.specs.Cuts.{is_other, begins_or_ends, IsCut}
use Rattle.stk_line_reading.specs.Numbers.{IsNext}
use Rattle.stk_line_reading.proofs.Texts.{one_cut, other_number}
use Rattle.stk_memory.specs.declared.image.Cell.{Cell}
use Rattle.stk_memory.specs.declared.image.Reply.{Reply}
use Rattle.stk_replay_script.specs.Scripts.{cell_text, cells_text, reply_text, IsCell, IsReply}
use Rattle.stk_replay_script.specs.Fields.{IsNextCell, IsCellText, AreCells, IsReplyText}
use Rattle.stk_replay_script.proofs.Numerals.{tail_of, one_next, one_signed, other_signed}

laid : (c : Cell) (behind : List ℕ) → cell_text c ++ behind ≡ 32 ∷ decimal c.at ++ (32 ∷ decimal c.byte ++ behind)
laid c behind = simp append_assoc

-- a cell is two numbers, one behind the other
pub first_number : (text : List ℕ) (c : Cell) (behind : List ℕ) → IsNextCell text c behind → IsNext text c.at (32 ∷ decimal c.byte ++ behind)
first_number text c behind h = record { same = h.same ∙ laid c behind; fits = h.is.at; stops = refl }

pub second_number : (text : List ℕ) (c : Cell) (behind : List ℕ) → IsNextCell text c behind → IsNext (32 ∷ decimal c.byte ++ behind) c.byte behind
second_number text c behind h = let small = h.is.byte in record { same = refl; fits = omega arith; stops = h.stops }

pub two_numbers : (text middle : List ℕ) (c : Cell) (behind : List ℕ) → IsNext text c.at middle → IsNext middle c.byte behind → c.byte ≤ 255 → IsNextCell text c behind
two_numbers text middle c behind h k small = record {
  same = h.same ∙ ap (λ t. 32 ∷ decimal c.at ++ t) k.same ∙ sym (laid c behind);
  is = record { at = h.fits; byte = omega arith };
  stops = k.stops;
}

-- the numbers of a cell are those that the text begins with
pub behind_first : (text middle : List ℕ) (at : ℕ) (c : Cell) (behind : List ℕ) → IsNext text at middle → IsNextCell text c behind → IsNext middle c.byte behind
behind_first text middle at c behind h k =
    let same = (one_next text at c.at middle (32 ∷ decimal c.byte ++ behind) h (first_number text c behind k)).1 in
    subst (λ (t : List ℕ). IsNext t c.byte behind) (sym same) (second_number text c behind k)

pub too_great : (text middle : List ℕ) (at byte : ℕ) (rest : List ℕ) (c : Cell) (behind : List ℕ) → IsNext text at middle → IsNext middle byte rest → 255 < byte → IsNextCell text c behind → ⊥
too_great text middle at byte rest c behind h k great n =
    let same = (one_next middle byte c.byte rest behind k (behind_first text middle at c behind h n)).0 in
    let small = n.is.byte in
    omega arith

cells_same : (c d : Cell) → c.at ≡ d.at → c.byte ≡ d.byte → c ≡ d
cells_same c d at byte = ap (λ (a : ℕ). let r : Cell = record { at = a; byte = c.byte } in r) at ∙ ap (λ (b : ℕ). let r : Cell = record { at = d.at; byte = b } in r) byte

pub one_next_cell : (text : List ℕ) (c d : Cell) (x y : List ℕ) → IsNextCell text c x → IsNextCell text d y → (c ≡ d) × (x ≡ y)
one_next_cell text c d x y h k =
    let at = (one_next text c.at d.at (32 ∷ decimal c.byte ++ x) (32 ∷ decimal d.byte ++ y) (first_number text c x h) (first_number text d y k)).0 in
    let both = one_next (32 ∷ decimal c.byte ++ x) c.byte d.byte x y (second_number text c x h) (behind_first text (32 ∷ decimal c.byte ++ x) c.at d y (first_number text c x h) k) in
    (cells_same c d at both.0, both.1)

-- ---- texts of one cell

pub alone : (text : List ℕ) (c : Cell) (behind : List ℕ) → IsNextCell text c behind → length behind ≡ 0 → IsCellText text c
alone text c [] h e = record { same = h.same ∙ append-nil (cell_text c); is = h.is }
alone text c (b ∷ bs) h e = absurd (omega arith)

pub next_alone : (text : List ℕ) (c : Cell) → IsCellText text c → IsNextCell text c []
next_alone text c h = record { same = h.same ∙ sym (append-nil (cell_text c)); is = h.is; stops = refl }

pub none_behind : (text : List ℕ) (c d : Cell) (behind : List ℕ) → IsNextCell text c behind → IsCellText text d → length behind ≡ 0
none_behind text c d behind h k = ap length (one_next_cell text c d behind [] h (next_alone text d k)).1

pub one_cell : (c d : Cell) → IsCell c → IsCell d → cell_text c ≡ cell_text d → c ≡ d
one_cell c d h k e = (one_next_cell (cell_text c) c d [] [] (next_alone (cell_text c) c (record { same = refl; is = h })) (next_alone (cell_text c) d (record { same = e; is = k }))).0

both_true : (a b : _) → a ≡ true → b ≡ true → a && b ≡ true
both_true a b p q = ap (λ x. x && b) p ∙ q

joined : (xs ys : List ℕ) → list_all (is_other 10) xs ≡ true → list_all (is_other 10) ys ≡ true → list_all (is_other 10) (xs ++ ys) ≡ true
joined xs ys a b = list_all-append (is_other 10) xs ys ∙ both_true (list_all (is_other 10) xs) (list_all (is_other 10) ys) a b

pub plain_cell : (c : Cell) → IsCell c → list_all (is_other 10) (cell_text c) ≡ true
plain_cell c h =
    let small = h.byte in
    joined (32 ∷ decimal c.at ++ 32 ∷ []) (decimal c.byte) (joined (decimal c.at) (32 ∷ []) (other_number 10 c.at (omega arith) h.at) refl) (other_number 10 c.byte (omega arith) (omega arith))

-- ---- texts of cells

pub cells_end : (cs : List Cell) → begins_or_ends 32 (cells_text cs) ≡ true
cells_end [] = refl
cells_end (c ∷ cs) = refl

plain_cells : (cs : List Cell) → AllByRecursion IsCell cs → list_all (is_other 10) (cells_text cs) ≡ true
plain_cells [] h = refl
plain_cells (c ∷ cs) h = joined (cell_text c) (cells_text cs) (plain_cell c h.0) (plain_cells cs h.1)

pub first_cell : (text : List ℕ) (c : Cell) (cs : List Cell) → AreCells text (c ∷ cs) → IsNextCell text c (cells_text cs)
first_cell text c cs h = record { same = h.same; is = h.are.0; stops = cells_end cs }

pub more_cells : (text behind : List ℕ) (c : Cell) (cs : List Cell) → IsNextCell text c behind → AreCells behind cs → AreCells text (c ∷ cs)
more_cells text behind c cs h a = record { same = h.same ∙ ap (λ t. cell_text c ++ t) a.same; are = (h.is, a.are) }

pub empty_cells : (text : List ℕ) → length text ≡ 0 → AreCells text []
empty_cells [] e = record { same = refl; are = tt }
empty_cells (b ∷ bs) e = absurd (omega arith)

pub some_next : (text : List ℕ) (cs : List Cell) → 0 < length text → AreCells text cs → (c : Cell) × (behind : List ℕ) × IsNextCell text c behind
some_next text [] some a = absurd (let none = ap length a.same in omega arith)
some_next text (c ∷ cs) some a = (c, cells_text cs, first_cell text c cs a)

pub others_behind : (text behind : List ℕ) (c : Cell) (cs : List Cell) → IsNextCell text c behind → AreCells text cs → (rest : List Cell) × AreCells behind rest
others_behind text behind c [] h a = let one = h.same ∙ laid c behind in let two = a.same in absurd cc
others_behind text behind c (d ∷ ds) h a =
    let both = one_next_cell text c d behind (cells_text ds) h (first_cell text d ds a) in
    (ds, record { same = both.1; are = a.are.1 })

pub shorter : (text : List ℕ) (c : Cell) (behind : List ℕ) → IsNextCell text c behind → length behind < length text
shorter text c behind h =
    let all = ap length (h.same ∙ laid c behind) in
    let one = length-append (decimal c.at) (32 ∷ decimal c.byte ++ behind) in
    let two = length-append (decimal c.byte) behind in
    omega arith

one_list_of_cells : (cs ds : List Cell) → AllByRecursion IsCell cs → AllByRecursion IsCell ds → cells_text cs ≡ cells_text ds → cs ≡ ds
one_list_of_cells [] [] h k e = refl
one_list_of_cells [] (d ∷ ds) h k e = absurd cc
one_list_of_cells (c ∷ cs) [] h k e = absurd cc
one_list_of_cells (c ∷ cs) (d ∷ ds) h k e =
    let both = one_next_cell (cells_text (c ∷ cs)) c d (cells_text cs) (cells_text ds) (first_cell (cells_text (c ∷ cs)) c cs (record { same = refl; are = h })) (first_cell (cells_text (c ∷ cs)) d ds (record { same = e; are = k })) in
    ap (λ a. a ∷ cs) both.0 ∙ ap (λ rest. d ∷ rest) (one_list_of_cells cs ds h.1 k.1 both.1)

-- ---- texts of replies

reply_cut : (content : List ℕ) (r : Reply) → content ≡ signed_decimal r.number ++ cells_text r.writes → IsReply r → IsCut 32 content (signed_decimal r.number) (cells_text r.writes)
reply_cut content r e h = record { whole = e; others = other_signed 32 r.number (omega arith) h.number; stops = cells_end r.writes }

-- a reply is a number and cells, behind a space
pub reply_parts : (text content word behind : List ℕ) (r : Reply) → text ≡ 32 ∷ content → IsCut 32 content word behind → IsReplyText text r → (word ≡ signed_decimal r.number) × AreCells behind r.writes
reply_parts text content word behind r e cut h =
    let both = one_cut 32 content word behind (signed_decimal r.number) (cells_text r.writes) cut (reply_cut content r (tail_of (sym e ∙ h.same)) h.is) in
    (both.0, record { same = both.1; are = h.is.writes })

pub reply_text_of : (text content word behind : List ℕ) (r : Reply) → text ≡ 32 ∷ content → IsCut 32 content word behind → IsReply r → word ≡ signed_decimal r.number → behind ≡ cells_text r.writes → IsReplyText text r
reply_text_of text content word behind r e cut is number writes = record {
  same = e ∙ ap (λ t. 32 ∷ t) (cut.whole ∙ ap (λ t. t ++ behind) number ∙ ap (λ t. signed_decimal r.number ++ t) writes);
  is = is;
}

pub plain_reply : (r : Reply) → IsReply r → list_all (is_other 10) (reply_text r) ≡ true
plain_reply r h = joined (signed_decimal r.number) (cells_text r.writes) (other_signed 10 r.number (omega arith) h.number) (plain_cells r.writes h.writes)

pub one_reply : (r q : Reply) → IsReply r → IsReply q → reply_text r ≡ reply_text q → r ≡ q
one_reply r q h k e =
    let tails : signed_decimal r.number ++ cells_text r.writes ≡ signed_decimal q.number ++ cells_text q.writes = tail_of e in
    let both = one_cut 32 (signed_decimal r.number ++ cells_text r.writes) (signed_decimal r.number) (cells_text r.writes) (signed_decimal q.number) (cells_text q.writes) (reply_cut _ r refl h) (reply_cut _ q tails k) in
    let number = one_signed r.number q.number h.number k.number both.0 in
    let writes = one_list_of_cells r.writes q.writes h.writes k.writes both.1 in
    ap (λ (n : _). let p : Reply = record { number = n; writes = r.writes } in p) number ∙ ap (λ (ws : List Cell). let p : Reply = record { number = q.number; writes = ws } in p) writes
