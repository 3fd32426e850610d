-- How far skimming has come: what was kept and noted, in front of what is left.
use Rattle.std.proofs.Common.{◌≡◌, ℕ, zero, suc, ◌+◌, ◌-◌, ◌≤◌, true, false, cond, List, [], ◌∷◌, ◌++◌, length, take, drop, refl, ap, sym, ◌∙◌, append_assoc, arith}
use Rattle.std.proofs.lemmas.List.{length-append, length-drop, append-nil}
use Rattle.stk_lex.specs.declared.token.Token.{Token}
use Rattle.stk_lex.specs.Spelled.{opens, closes, depth_behind}
use Rattle.stk_lex.specs.Skimming.{closing, dropped, kept, noted, note_of, kept_tokens, notes_of}
use Rattle.stk_lex.specs.Ahead.{AreFound, unchanged}
use Rattle.stk_lex.proofs.Found.{found_behind, found_drop}
use Rattle.stk_lex.proofs.Kept.{kept_keep, kept_drop, noted_keep, noted_drop}

pub record Skims (bytes : List ℕ) (tokens : List Token) (ends changes : List ℕ) (so_far : List Token) (notes : List ℕ) (depth : ℕ) (rest : List Token) : Type 0 where
  pub shallow : depth + length rest ≤ length tokens
  pub few : length so_far + length rest ≤ length tokens
  pub closed : AreFound (closing bytes 1) rest ends
  pub unchanging : AreFound (unchanged bytes) rest changes
  pub all_kept : so_far ++ kept bytes rest depth 0 ≡ kept_tokens bytes tokens
  pub all_noted : notes ++ noted bytes rest depth 0 ≡ notes_of bytes tokens

pub depth_bound : (bytes : List ℕ) (depth : ℕ) (t : Token) → depth_behind bytes depth t ≤ depth + 1
unfolding depth_behind
depth_bound bytes depth t = elim (opens bytes t) as (λ o. cond o (depth + 1) (cond (closes bytes t) (depth - 1) depth) ≤ depth + 1) [
  | true ↦ omega arith
  | false ↦ elim (closes bytes t) as (λ o. cond o (depth - 1) depth ≤ depth + 1) [ true ↦ omega arith | false ↦ omega arith ]
]

pub skims_keep : (bytes : List ℕ) (tokens : List Token) (ends changes : List ℕ) (so_far : List Token) (notes : List ℕ) (depth : ℕ) (t : Token) (ts : List Token)
    → dropped bytes depth (t ∷ ts) ≡ 0 → Skims bytes tokens ends changes so_far notes depth (t ∷ ts) → Skims bytes tokens ends changes (so_far ++ t ∷ []) notes (depth_behind bytes depth t) ts
skims_keep bytes tokens ends changes so_far notes depth t ts e s = record {
  shallow = omega (arith, s.shallow, depth_bound bytes depth t);
  few = omega (arith, s.few, length-append so_far (t ∷ []));
  closed = found_behind (closing bytes 1) t ts ends s.closed;
  unchanging = found_behind (unchanged bytes) t ts changes s.unchanging;
  all_kept = append_assoc so_far (t ∷ []) (kept bytes ts (depth_behind bytes depth t) 0) ∙ ap (λ xs. so_far ++ xs) (sym (kept_keep bytes t ts depth e)) ∙ s.all_kept;
  all_noted = ap (λ ns. notes ++ ns) (sym (noted_keep bytes t ts depth e)) ∙ s.all_noted;
}

skims_drop_some : (bytes : List ℕ) (tokens : List Token) (ends changes : List ℕ) (so_far : List Token) (notes : List ℕ) (depth : ℕ) (t : Token) (ts : List Token) (n : ℕ)
    → dropped bytes depth (t ∷ ts) ≡ suc n → Skims bytes tokens ends changes so_far notes depth (t ∷ ts)
    → Skims bytes tokens ends changes so_far (notes ++ note_of bytes depth (take (suc n) (t ∷ ts))) depth (drop n ts)
skims_drop_some bytes tokens ends changes so_far notes depth t ts n e s = record {
  shallow = omega (arith, s.shallow, length-drop n ts);
  few = omega (arith, s.few, length-drop n ts);
  closed = found_drop (closing bytes 1) (suc n) (t ∷ ts) ends s.closed;
  unchanging = found_drop (unchanged bytes) (suc n) (t ∷ ts) changes s.unchanging;
  all_kept = ap (λ xs. so_far ++ xs) (sym (kept_drop bytes t ts depth n e)) ∙ s.all_kept;
  all_noted = append_assoc notes (note_of bytes depth (take (suc n) (t ∷ ts))) (noted bytes (drop n ts) depth 0)
      ∙ ap (λ ns. notes ++ ns) (sym (noted_drop bytes t ts depth n e)) ∙ s.all_noted;
}

pub skims_drop : (bytes : List ℕ) (tokens : List Token) (ends changes : List ℕ) (so_far : List Token) (notes : List ℕ) (depth : ℕ) (t : Token) (ts : List Token) (n : ℕ)
    → (n ≡ 0 → ⊥) → n ≡ dropped bytes depth (t ∷ ts) → Skims bytes tokens ends changes so_far notes depth (t ∷ ts)
    → Skims bytes tokens ends changes so_far (notes ++ note_of bytes depth (take n (t ∷ ts))) depth (drop n (t ∷ ts))
skims_drop bytes tokens ends changes so_far notes depth t ts zero some e s = absurd (some refl)
skims_drop bytes tokens ends changes so_far notes depth t ts (suc n) some e s = skims_drop_some bytes tokens ends changes so_far notes depth t ts n (sym e) s

pub skims_all : (bytes : List ℕ) (tokens : List Token) (ends changes : List ℕ) → AreFound (closing bytes 1) tokens ends → AreFound (unchanged bytes) tokens changes
    → Skims bytes tokens ends changes [] [] 0 tokens
skims_all bytes tokens ends changes e u = record { shallow = omega arith; few = omega arith; closed = e; unchanging = u; all_kept = refl; all_noted = refl }

pub skims_done : (bytes : List ℕ) (tokens : List Token) (ends changes : List ℕ) (so_far : List Token) (notes : List ℕ) (depth : ℕ) (rest : List Token) → length rest ≡ 0
    → Skims bytes tokens ends changes so_far notes depth rest → (so_far ≡ kept_tokens bytes tokens) × (notes ≡ notes_of bytes tokens)
unfolding kept noted
skims_done bytes tokens ends changes so_far notes depth [] e s = (sym (append-nil so_far) ∙ s.all_kept, sym (append-nil notes) ∙ s.all_noted)
skims_done bytes tokens ends changes so_far notes depth (t ∷ ts) e s = absurd (omega arith)
