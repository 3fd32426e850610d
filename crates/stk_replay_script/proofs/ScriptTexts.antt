-- Inputs as texts: an input is one script and one source at most.
use Rattle.std.proofs.Common.{◌≡◌, ℕ, ◌⊎◌, inl, inr, Option, MatchOption, Bor, List, [], ◌∷◌, ◌++◌, length, length-append, append_assoc, decimal, refl, sym, ap, ◌∙◌, subst, arith}
use Rattle.std.specs.Prelude.{codes}
use Rattle.stk_line_reading.proofs.Texts.{other_number}
use Rattle.stk_memory.specs.declared.image.Cell.{Cell}
use Rattle.stk_memory.specs.declared.image.Reply.{Reply}
use Rattle.stk_replay_script.specs.declared.script.Script.{Script}
use Rattle.stk_replay_script.specs.Scripts.{line, lines, cell_text, reply_text, IsCell, IsReply, IsScript, IsInput}
use Rattle.stk_replay_script.specs.Fields.{IsField, IsNumberField, AreFields, IsEnd}
use Rattle.stk_replay_script.proofs.FieldTexts.{same_behind, one_field, one_number_field, one_list_of_fields}
use Rattle.stk_replay_script.proofs.CellTexts.{plain_cell, one_cell, plain_reply, one_reply}

abbrev pub most_turns : ℕ
most_turns = 4294967295

-- an input that is read line by line, with what comes behind each of them
pub record IsRead (bytes : List ℕ) (s : Script) (source : List ℕ) : Type 0 where
  pub named : List ℕ
  pub started : List ℕ
  pub filled : List ℕ
  pub listed : List ℕ
  pub replied : List ℕ
  pub turned : List ℕ
  pub function : IsField (codes "function ") bytes s.function named
  pub start : IsField (codes "start ") named s.start started
  pub fill : IsNumberField (codes "fill ") 255 started s.memory.fill filled
  pub cells : AreFields (codes "byte") cell_text IsCell filled s.memory.cells listed
  pub replies : AreFields (codes "reply") reply_text IsReply listed s.replies replied
  pub turns : IsNumberField (codes "turns ") most_turns replied s.turns turned
  pub ended : IsEnd turned source

-- ---- from the text to its lines

-- all lines but the last
abbrev front : Script → List ℕ
front s =
    line (codes "function ") s.function ++ line (codes "start ") s.start ++ line (codes "fill ") (decimal s.memory.fill)
    ++ lines (codes "byte") cell_text s.memory.cells ++ lines (codes "reply") reply_text s.replies ++ line (codes "turns ") (decimal s.turns)

laid : (u a v b w c x y z d tail : List ℕ) → (line u a ++ line v b ++ line w c ++ x ++ y ++ line z d) ++ tail ≡ u ++ (a ++ 10 ∷ (v ++ (b ++ 10 ∷ (w ++ (c ++ 10 ∷ (x ++ (y ++ (z ++ (d ++ 10 ∷ tail)))))))))
laid u a v b w c x y z d tail = simp append_assoc

front_laid : (s : Script) (tail : List ℕ) → front s ++ tail
    ≡ codes "function " ++ (s.function ++ 10 ∷ (codes "start " ++ (s.start ++ 10 ∷ (codes "fill " ++ (decimal s.memory.fill ++ 10 ∷ (lines (codes "byte") cell_text s.memory.cells ++ (lines (codes "reply") reply_text s.replies ++ (codes "turns " ++ (decimal s.turns ++ 10 ∷ tail)))))))))
front_laid s tail = laid (codes "function ") s.function (codes "start ") s.start (codes "fill ") (decimal s.memory.fill) (lines (codes "byte") cell_text s.memory.cells) (lines (codes "reply") reply_text s.replies) (codes "turns ") (decimal s.turns) tail

head_of : {a b : ℕ} {x y : List ℕ} → a ∷ x ≡ b ∷ y → a ≡ b
head_of e = cc

-- no line `byte` comes behind the cells, and no line `reply` behind the replies
differ : {x y : List ℕ} (a b : ℕ) → (a ≡ b → ⊥) → a ∷ x ≡ b ∷ y → ⊥
differ a b apart e = apart (head_of e)

no_byte : (rs : List Reply) (behind content rest : List ℕ) → IsField (codes "byte") (lines (codes "reply") reply_text rs ++ (codes "turns " ++ behind)) content rest → ⊥
no_byte [] behind content rest h = differ 116 98 (λ e. omega arith) h.same
no_byte (r ∷ rs) behind content rest h = differ 114 98 (λ e. omega arith) h.same

no_reply : (behind content rest : List ℕ) → IsField (codes "reply") (codes "turns " ++ behind) content rest → ⊥
no_reply behind content rest h = differ 116 114 (λ e. omega arith) h.same

read_front : (bytes : List ℕ) (s : Script) (tail source : List ℕ) → IsScript s → bytes ≡ front s ++ tail → IsEnd tail source → IsRead bytes s source
read_front bytes s tail source is e end =
    let fill = is.fill in
    let turns = is.turns in
    let replied : List ℕ = codes "turns " ++ (decimal s.turns ++ 10 ∷ tail) in
    let listed : List ℕ = lines (codes "reply") reply_text s.replies ++ replied in
    let filled : List ℕ = lines (codes "byte") cell_text s.memory.cells ++ listed in
    let started : List ℕ = codes "fill " ++ (decimal s.memory.fill ++ 10 ∷ filled) in
    record {
      named = codes "start " ++ (s.start ++ 10 ∷ started);
      started = started;
      filled = filled;
      listed = listed;
      replied = replied;
      turned = tail;
      function = record { same = e ∙ front_laid s tail; plain = is.function };
      start = record { same = refl; plain = is.start };
      fill = record { field = record { same = refl; plain = other_number 10 s.memory.fill (omega arith) (omega arith) }; fits = omega arith };
      cells = record { same = refl; are = is.cells; end = no_byte s.replies (decimal s.turns ++ 10 ∷ tail) };
      replies = record { same = refl; are = is.replies; end = no_reply (decimal s.turns ++ 10 ∷ tail) };
      turns = record { field = record { same = refl; plain = other_number 10 s.turns (omega arith) (omega arith) }; fits = omega arith };
      ended = end;
    }

last_same : (xs ys : List ℕ) → xs ++ 10 ∷ [] ≡ ys ++ 10 ∷ [] → xs ≡ ys
last_same [] [] e = refl
last_same [] (y ∷ ys) e = let long = ap length e in let more = length-append ys (10 ∷ []) in absurd (omega arith)
last_same (x ∷ xs) [] e = let long = ap length e in let more = length-append xs (10 ∷ []) in absurd (omega arith)
last_same (x ∷ xs) (y ∷ ys) e = let first : x ≡ y = cc in let tails : xs ++ 10 ∷ [] ≡ ys ++ 10 ∷ [] = cc in ap (λ a. a ∷ xs) first ∙ ap (λ t. y ∷ t) (last_same xs ys tails)

pub read_input : (bytes : List ℕ) (s : Script) (source : List ℕ) → IsInput bytes s source → IsRead bytes s source
read_input bytes s source h = by_text h.text
  where
    by_text : (bytes ≡ (front s ++ codes "end\n") ++ source) ⊎ ((bytes ++ codes "\n" ≡ front s ++ codes "end\n") × (source ≡ [])) → IsRead bytes s source
    by_text (inl e) = read_front bytes s (codes "end\n" ++ source) source h.is (e ∙ append_assoc (front s) (codes "end\n") source) (inl refl)
    by_text (inr e) = read_front bytes s (codes "end") source h.is (last_same bytes (front s ++ codes "end") (e.0 ∙ sym (append_assoc (front s) (codes "end") (codes "\n")))) (inr (refl, e.1))

-- ---- and back

pub input_read : (bytes : List ℕ) (s : Script) (source : List ℕ) → IsRead bytes s source → IsInput bytes s source
input_read bytes s source r = record { is = is; text = by_end r.ended }
  where
    is : IsScript s
    is =
        let fill = r.fill.fits in
        let turns = r.turns.fits in
        record { function = r.function.plain; start = r.start.plain; fill = omega arith; cells = r.cells.are; replies = r.replies.are; turns = omega arith }

    whole : bytes ≡ front s ++ r.turned
    whole =
        let f = λ (t : List ℕ). codes "function " ++ (s.function ++ 10 ∷ t) in
        let g = λ (t : List ℕ). codes "start " ++ (s.start ++ 10 ∷ t) in
        let k = λ (t : List ℕ). codes "fill " ++ (decimal s.memory.fill ++ 10 ∷ t) in
        let l = λ (t : List ℕ). lines (codes "byte") cell_text s.memory.cells ++ t in
        let m = λ (t : List ℕ). lines (codes "reply") reply_text s.replies ++ t in
        r.function.same ∙ ap f (r.start.same ∙ ap g (r.fill.field.same ∙ ap k (r.cells.same ∙ ap l (r.replies.same ∙ ap m r.turns.field.same)))) ∙ sym (front_laid s r.turned)

    by_end : IsEnd r.turned source → (bytes ≡ (front s ++ codes "end\n") ++ source) ⊎ ((bytes ++ codes "\n" ≡ front s ++ codes "end\n") × (source ≡ []))
    by_end (inl e) = inl (whole ∙ ap (λ t. front s ++ t) e ∙ sym (append_assoc (front s) (codes "end\n") source))
    by_end (inr e) = inr (ap (λ t. t ++ codes "\n") (whole ∙ ap (λ t. front s ++ t) e.0) ∙ append_assoc (front s) (codes "end") (codes "\n"), e.1)

-- ---- line by line: what was read of an input is what each reading of it has

module _ {bytes : List ℕ} {s : Script} {source : List ℕ} (r : IsRead bytes s source) where
  pub function_here : {a named : List ℕ} → IsField (codes "function ") bytes a named → (a ≡ s.function) × (named ≡ r.named)
  function_here {a = a} {named = named} f = one_field (codes "function ") bytes a named s.function r.named f r.function

  pub start_here : {a named : List ℕ} → IsField (codes "function ") bytes a named → IsField (codes "start ") named s.start r.started
  start_here {named = named} f = subst (λ (t : List ℕ). IsField (codes "start ") t s.start r.started) (sym (function_here f).1) r.start

  pub start_same : {a named b started : List ℕ} → IsField (codes "function ") bytes a named → IsField (codes "start ") named b started → (b ≡ s.start) × (started ≡ r.started)
  start_same {named = named} {b = b} {started = started} f g = one_field (codes "start ") named b started s.start r.started g (start_here f)

  pub fill_here : {a named b started : List ℕ} → IsField (codes "function ") bytes a named → IsField (codes "start ") named b started → IsNumberField (codes "fill ") 255 started s.memory.fill r.filled
  fill_here f g = subst (λ (t : List ℕ). IsNumberField (codes "fill ") 255 t s.memory.fill r.filled) (sym (start_same f g).1) r.fill

  pub fill_same : {a named b started filled : List ℕ} {n : ℕ} → IsField (codes "function ") bytes a named → IsField (codes "start ") named b started → IsNumberField (codes "fill ") 255 started n filled → (n ≡ s.memory.fill) × (filled ≡ r.filled)
  fill_same {started = started} {filled = filled} {n = n} f g k = one_number_field (codes "fill ") 255 started n s.memory.fill filled r.filled (omega arith) k (fill_here f g)

  pub cells_here : {filled : List ℕ} → filled ≡ r.filled → AreFields (codes "byte") cell_text IsCell filled s.memory.cells r.listed
  cells_here e = subst (λ (t : List ℕ). AreFields (codes "byte") cell_text IsCell t s.memory.cells r.listed) (sym e) r.cells

  pub cells_same : {filled listed : List ℕ} {cs : List Cell} → filled ≡ r.filled → AreFields (codes "byte") cell_text IsCell filled cs listed → (cs ≡ s.memory.cells) × (listed ≡ r.listed)
  cells_same {filled = filled} {listed = listed} {cs = cs} e l = one_list_of_fields (codes "byte") cell_text IsCell plain_cell one_cell filled cs s.memory.cells listed r.listed l (cells_here e)

  pub replies_here : {listed : List ℕ} → listed ≡ r.listed → AreFields (codes "reply") reply_text IsReply listed s.replies r.replied
  replies_here e = subst (λ (t : List ℕ). AreFields (codes "reply") reply_text IsReply t s.replies r.replied) (sym e) r.replies

  pub replies_same : {listed replied : List ℕ} {rs : List Reply} → listed ≡ r.listed → AreFields (codes "reply") reply_text IsReply listed rs replied → (rs ≡ s.replies) × (replied ≡ r.replied)
  replies_same {listed = listed} {replied = replied} {rs = rs} e l = one_list_of_fields (codes "reply") reply_text IsReply plain_reply one_reply listed rs s.replies replied r.replied l (replies_here e)

  pub turns_here : {replied : List ℕ} → replied ≡ r.replied → IsNumberField (codes "turns ") most_turns replied s.turns r.turned
  turns_here e = subst (λ (t : List ℕ). IsNumberField (codes "turns ") most_turns t s.turns r.turned) (sym e) r.turns

  pub turns_same : {replied turned : List ℕ} {n : ℕ} → replied ≡ r.replied → IsNumberField (codes "turns ") most_turns replied n turned → (n ≡ s.turns) × (turned ≡ r.turned)
  turns_same {replied = replied} {turned = turned} {n = n} e k = one_number_field (codes "turns ") most_turns replied n s.turns turned r.turned (omega arith) k (turns_here e)

  pub source_here : {turned : List ℕ} → turned ≡ r.turned → IsEnd turned source
  source_here e = subst (λ (t : List ℕ). IsEnd t source) (sym e) r.ended

-- ---- what the readers of lines find

abbrev pub CellsFound : List ℕ → Option (List Cell × Bor (List ℕ)) → Type 0
CellsFound text o = MatchOption o ((cs : List Cell) (behind : List ℕ) → AreFields (codes "byte") cell_text IsCell text cs behind → ⊥) (λ p. AreFields (codes "byte") cell_text IsCell text p.0 p.1.now)

abbrev pub RepliesFound : List ℕ → Option (List Reply × Bor (List ℕ)) → Type 0
RepliesFound text o = MatchOption o ((rs : List Reply) (behind : List ℕ) → AreFields (codes "reply") reply_text IsReply text rs behind → ⊥) (λ p. AreFields (codes "reply") reply_text IsReply text p.0 p.1.now)

-- a script of parts that were read
pub script_of : {bytes a named b started filled listed replied turned source : List ℕ} {n t : ℕ} {cs : List Cell} {rs : List Reply} (s : Script) → IsField (codes "function ") bytes a named → IsField (codes "start ") named b started → IsNumberField (codes "fill ") 255 started n filled
    → AreFields (codes "byte") cell_text IsCell filled cs listed → AreFields (codes "reply") reply_text IsReply listed rs replied → IsNumberField (codes "turns ") most_turns replied t turned → IsEnd turned source
    → s.function ≡ a → s.start ≡ b → s.memory.fill ≡ n → s.memory.cells ≡ cs → s.replies ≡ rs → s.turns ≡ t → IsInput bytes s source
script_of {bytes = bytes} {named = named} {started = started} {filled = filled} {listed = listed} {replied = replied} {turned = turned} {source = source} s f g k l m w end p q u v x y =
    input_read bytes s source (record {
      named = named;
      started = started;
      filled = filled;
      listed = listed;
      replied = replied;
      turned = turned;
      function = subst (λ (a : List ℕ). IsField (codes "function ") bytes a named) (sym p) f;
      start = subst (λ (b : List ℕ). IsField (codes "start ") named b started) (sym q) g;
      fill = subst (λ (n : ℕ). IsNumberField (codes "fill ") 255 started n filled) (sym u) k;
      cells = subst (λ (cs : List Cell). AreFields (codes "byte") cell_text IsCell filled cs listed) (sym v) l;
      replies = subst (λ (rs : List Reply). AreFields (codes "reply") reply_text IsReply listed rs replied) (sym x) m;
      turns = subst (λ (t : ℕ). IsNumberField (codes "turns ") most_turns replied t turned) (sym y) w;
      ended = end;
    })

-- ---- one reading

one_end : (text x y : List ℕ) → IsEnd text x → IsEnd text y → x ≡ y
one_end text x y (inl e) (inl d) = same_behind (codes "end\n") x y (sym e ∙ d)
one_end text x y (inl e) (inr d) = absurd (let long = ap length (sym e ∙ d.0) in omega arith)
one_end text x y (inr e) (inl d) = absurd (let long = ap length (sym d ∙ e.0) in omega arith)
one_end text x y (inr e) (inr d) = e.1 ∙ sym d.1

script : List ℕ → List ℕ → ℕ → List Cell → List Reply → ℕ → Script
script a b n cs rs t = record { function = a; start = b; memory = record { fill = n; cells = cs }; replies = rs; turns = t }

pub one_script : (bytes : List ℕ) (s t : Script) (x y : List ℕ) → IsInput bytes s x → IsInput bytes t y → (s ≡ t) × (x ≡ y)
unfolding script
one_script bytes s t x y h k =
    let q = read_input bytes s x h in
    let r = read_input bytes t y k in
    let a = function_here r q.function in
    let b = start_same r q.function q.start in
    let n = fill_same r q.function q.start q.fill in
    let c = cells_same r n.1 q.cells in
    let d = replies_same r c.1 q.replies in
    let m = turns_same r d.1 q.turns in
    let same : s ≡ t =
    ap (λ u. script u s.start s.memory.fill s.memory.cells s.replies s.turns) a.0 ∙ ap (λ u. script t.function u s.memory.fill s.memory.cells s.replies s.turns) b.0
    ∙ ap (λ u. script t.function t.start u s.memory.cells s.replies s.turns) n.0 ∙ ap (λ u. script t.function t.start t.memory.fill u s.replies s.turns) c.0
    ∙ ap (λ u. script t.function t.start t.memory.fill t.memory.cells u s.turns) d.0 ∙ ap (λ u. script t.function t.start t.memory.fill t.memory.cells t.replies u) m.0 in
    (same, one_end q.turned x y q.ended (source_here r m.1))
