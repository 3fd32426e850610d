-- The facts of entries with one entry more.
use Rattle.std.proofs.Common.{◌≡◌, ◌<◌, ◌≤◌, ◌+◌, ℕ, suc, zero, List, [], ◌∷◌, ◌++◌, Option, Some, None, Result, Ok, Err, OnOk, length, refl, sym, ap, subst, ◌∙◌, arith, append_assoc, append-nil, length-append, add-zero}
use mathlib.Core.Logic.{⊎_elim}
use Rattle.std.specs.Prelude.{slice_index_or, slice_set, IsSome}
use Rattle.std.specs.Option.{option_to_list}
use Rattle.std.specs.Vec.{vec_len}
use Rattle.std.specs.declared.vec.Vec.{Vec}
use Rattle.std.specs.declared.alloc.Global.{Global}
use Rattle.std.proofs.lemmas.List.{get_or-set_same, get_or-set_other, length-set}
use Rattle.std.proofs.lemmas.Bool.{cases_eq}
use Rattle.std.proofs.lemmas.List.Sums.{sum_by-append, sum_by-cons}
use Rattle.std.proofs.Math.ListN.{get_or-append}
use Rattle.std.proofs.Math.Seq.{get_or-append_seam}
use Rattle.stk_ctype.specs.declared.symbol.MemberInfo.{MemberInfo}
use Rattle.stk_ctype.specs.declared.symbol.NameEntry.{NameEntry}
use Rattle.stk_ctype.specs.declared.symbol.NameEntry.TheVariants as entry
use Rattle.stk_ctype.specs.declared.symbol.Tag.{Tag}
use Rattle.stk_ctype.specs.declared.symbol.Tag.TheVariants as tag
use Rattle.stk_ctype.specs.declared.facts.Layout.{Layout}
use Rattle.stk_ctype.specs.declared.facts.Facts.{Facts}
use Rattle.stk_ctype.specs.declared.index.Index.{Index}
use Rattle.stk_ctype.specs.declared.symbol.Symbol.{Symbol}
use Rattle.stk_ctype.specs.Structs.{Structs, StructLayout, struct_at, after, structs_behind, structs_of, laid_out}
use Rattle.stk_ctype.specs.Sound.{RestsOn}
use Rattle.stk_ctype.specs.Names.{structs_in, struct_count}
use Rattle.stk_ctype.specs.Index.{IsIndexOf}
use Rattle.stk_ctype.specs.Facts.{symbol_word, symbol_words, tag_word, tag_words, entry_at, IsKept, AreLawful, AreFactsOf, IsNewLayout}

-- ---- lists
pub default-append : {X : Type 0} (xs : List X) (d : X) (i : ℕ) → slice_index_or (xs ++ d ∷ []) i d ≡ slice_index_or xs i d
default-append [] d zero = refl
default-append [] d (suc i) = refl
default-append (x ∷ xs) d zero = refl
default-append (x ∷ xs) d (suc i) = default-append xs d i

-- ---- what is counted and collected
pub struct_count-append : (es : List NameEntry) (e : NameEntry) → struct_count (es ++ e ∷ []) ≡ struct_count es + structs_in e
struct_count-append es e = sum_by-append structs_in es (e ∷ []) ∙ ap (λ n. struct_count es + n) (sum_by-cons structs_in e [] ∙ add-zero (structs_in e))

pub symbol_words-append : (at : ℕ) (es : List NameEntry) (e : NameEntry) → symbol_words at (es ++ e ∷ []) ≡ symbol_words at es ++ symbol_word (at + length es) e
symbol_words-append at [] e = append-nil (symbol_word at e) ∙ ap (λ n. symbol_word n e) (sym (add-zero at))
symbol_words-append at (x ∷ es) e =
    let next : at + 1 + length es ≡ at + suc (length es) = omega arith in
    ap (λ t. symbol_word at x ++ t) (symbol_words-append (at + 1) es e ∙ ap (λ n. symbol_words (at + 1) es ++ symbol_word n e) next) ∙ sym (append_assoc (symbol_word at x) (symbol_words (at + 1) es) (symbol_word (at + suc (length es)) e))

pub tag_words-append : (count : ℕ) (es : List NameEntry) (e : NameEntry) → tag_words count (es ++ e ∷ []) ≡ tag_words count es ++ tag_word (count + struct_count es) e
tag_words-append count [] e = append-nil (tag_word count e) ∙ ap (λ n. tag_word n e) (sym (add-zero count))
tag_words-append count (x ∷ es) e =
    let next : count + structs_in x + struct_count es ≡ count + struct_count (x ∷ es) = omega (arith, sum_by-cons structs_in x es) in
    ap (λ t. tag_word count x ++ t) (tag_words-append (count + structs_in x) es e ∙ ap (λ n. tag_words (count + structs_in x) es ++ tag_word n e) next)
    ∙ sym (append_assoc (tag_word count x) (tag_words (count + structs_in x) es) (tag_word (count + struct_count (x ∷ es)) e))

pub structs_behind-append : (s : Structs) (es : List NameEntry) (e : NameEntry) → structs_behind s (es ++ e ∷ []) ≡ after (structs_behind s es) e
structs_behind-append s [] e = refl
structs_behind-append s (x ∷ es) e = structs_behind-append (after s x) es e

length-after : (s : Structs) (e : NameEntry) → length (after s e) ≡ length s + structs_in e
length-after s (entry.Symbol n x) = omega arith
length-after s (entry.Struct t) = omega (arith, length-append s (None ∷ []))
length-after s (entry.Members id ms) = omega (arith, length-set s id (Some (laid_out s ms)))
length-after s (entry.Enumeration t) = omega arith

lawful-append : (s : Structs) (es : List NameEntry) (e : NameEntry) → AreLawful s es → RestsOn (structs_behind s es) e → AreLawful s (es ++ e ∷ [])
lawful-append s [] e so rests = (rests, tt)
lawful-append s (x ∷ es) e so rests = (so.0, lawful-append (after s x) es e so.1 rests)

lawful-front : (s : Structs) (es : List NameEntry) (e : NameEntry) → AreLawful s (es ++ e ∷ []) → AreLawful s es × RestsOn (structs_behind s es) e
lawful-front s [] e so = (tt, so.0)
lawful-front s (x ∷ es) e so = let rest = lawful-front (after s x) es e so.1 in ((so.0, rest.0), rest.1)

-- ---- what is kept of structs
pub kept_more : (es : List NameEntry) (e : NameEntry) (id : ℕ) (k : Option Layout) (s : Option StructLayout) → IsKept es id k s → IsKept (es ++ e ∷ []) id k s
kept_more es e id None None so = so
kept_more es e id None (Some s) so = so
kept_more es e id (Some k) None so = so
kept_more es e id (Some k) (Some s) so = record {
  at = omega (arith, so.at, length-append es (e ∷ []));
  members = get_or-append es (e ∷ []) (entry.Enumeration []) k.at so.at ∙ so.members;
  places = so.places;
  offsets = so.offsets;
  size = so.size;
  some = so.some;
  within = so.within;
  alignment = so.alignment;
  least = so.least;
  greatest = so.greatest;
}

at_less : (es : List NameEntry) (e : NameEntry) (at id : ℕ) (ms : List MemberInfo) → at < length (es ++ e ∷ []) → entry_at (es ++ e ∷ []) at ≡ entry.Members id ms → (e ≡ entry.Members id ms → ⊥) → at < length es
at_less es e at id ms within is other =
    ⊎_elim
    (λ last. absurd (other (sym (get_or-append_seam es e [] (entry.Enumeration [])) ∙ ap (λ n. entry_at (es ++ e ∷ []) n) (sym last) ∙ is)))
    (λ not_last. omega (arith, within, length-append es (e ∷ []), not_last))
    (cases_eq at (length es))

pub kept_less : (es : List NameEntry) (e : NameEntry) (id : ℕ) (k : Option Layout) (s : Option StructLayout) → IsKept (es ++ e ∷ []) id k s → ((ms : List MemberInfo) → e ≡ entry.Members id ms → ⊥) → IsKept es id k s
kept_less es e id None None so other = so
kept_less es e id None (Some s) so other = so
kept_less es e id (Some k) None so other = so
kept_less es e id (Some k) (Some s) so other =
    let at = at_less es e k.at id s.members so.at so.members (other s.members) in
    record {
      at = at;
      members = sym (get_or-append es (e ∷ []) (entry.Enumeration []) k.at at) ∙ so.members;
      places = so.places;
      offsets = so.offsets;
      size = so.size;
      some = so.some;
      within = so.within;
      alignment = so.alignment;
      least = so.least;
      greatest = so.greatest;
    }

-- ---- facts of entries with one more, said of the entries and of that one
pub record AreFactsBehind (facts : Facts) (es : List NameEntry) (e : NameEntry) : Type 0 where
  pub symbols : IsIndexOf facts.symbols (symbol_words 0 es ++ symbol_word (length es) e)
  pub tags : IsIndexOf facts.tags (tag_words 0 es ++ tag_word (struct_count es) e)
  pub count : length facts.layouts.items ≡ length (after (structs_of es) e)
  pub layouts : (id : ℕ) → IsKept (es ++ e ∷ []) id (slice_index_or facts.layouts.items id None) (struct_at (after (structs_of es) e) id)
  pub lawful : AreLawful [] es
  pub rests : RestsOn (structs_of es) e

pub facts_of_more : (facts : Facts) (es : List NameEntry) (e : NameEntry) → AreFactsBehind facts es e → AreFactsOf facts (es ++ e ∷ [])
facts_of_more facts es e so = record {
  symbols = subst (IsIndexOf facts.symbols) (sym (symbol_words-append 0 es e ∙ ap (λ n. symbol_words 0 es ++ symbol_word n e) (omega arith))) so.symbols;
  tags = subst (IsIndexOf facts.tags) (sym (tag_words-append 0 es e ∙ ap (λ n. tag_words 0 es ++ tag_word n e) (omega arith))) so.tags;
  count = so.count ∙ sym (ap length (structs_behind-append [] es e));
  layouts = λ id. subst (λ s. IsKept (es ++ e ∷ []) id (slice_index_or facts.layouts.items id None) (struct_at s id)) (sym (structs_behind-append [] es e)) (so.layouts id);
  lawful = lawful-append [] es e so.lawful so.rests;
}

pub facts_of_front : (facts : Facts) (es : List NameEntry) (e : NameEntry) → AreFactsOf facts (es ++ e ∷ []) → AreFactsBehind facts es e
facts_of_front facts es e so = record {
  symbols = subst (IsIndexOf facts.symbols) (symbol_words-append 0 es e ∙ ap (λ n. symbol_words 0 es ++ symbol_word n e) (omega arith)) so.symbols;
  tags = subst (IsIndexOf facts.tags) (tag_words-append 0 es e ∙ ap (λ n. tag_words 0 es ++ tag_word n e) (omega arith)) so.tags;
  count = so.count ∙ ap length (structs_behind-append [] es e);
  layouts = λ id. subst (λ s. IsKept (es ++ e ∷ []) id (slice_index_or facts.layouts.items id None) (struct_at s id)) (structs_behind-append [] es e) (so.layouts id);
  lawful = (lawful-front [] es e so.lawful).0;
  rests = (lawful-front [] es e so.lawful).1;
}

-- how many structs there are
pub length-structs_behind : (s : Structs) (es : List NameEntry) → length (structs_behind s es) ≡ length s + struct_count es
length-structs_behind s [] = omega arith
length-structs_behind s (e ∷ es) = length-structs_behind (after s e) es ∙ omega (arith, length-after s e, sum_by-cons structs_in e es)

-- ---- one entry more, by its kind
kept_same : (es : List NameEntry) (id : ℕ) (k k' : Option Layout) (s s' : Option StructLayout) → k ≡ k' → s ≡ s' → IsKept es id k s → IsKept es id k' s'
kept_same es id k k' s s' p q so = subst (λ x. IsKept es id k' x) q (subst (λ x. IsKept es id x s) p so)

nothing_more : {M : Type 0} (i : Index M) (ws : List (List ℕ × M)) → IsIndexOf i ws → IsIndexOf i (ws ++ [])
nothing_more i ws so = subst (IsIndexOf i) (sym (append-nil ws)) so

nothing_less : {M : Type 0} (i : Index M) (ws : List (List ℕ × M)) → IsIndexOf i (ws ++ []) → IsIndexOf i ws
nothing_less i ws so = subst (IsIndexOf i) (append-nil ws) so

pub noted_symbol : (old : Facts) (i : Index ℕ) (es : List NameEntry) (name : List ℕ) (x : Symbol) → AreFactsOf old es → RestsOn (structs_of es) (entry.Symbol name x)
    → IsIndexOf i (symbol_words 0 es ++ (name, length es) ∷ []) → AreFactsOf (record { symbols = i; tags = old.tags; layouts = old.layouts }) (es ++ entry.Symbol name x ∷ [])
noted_symbol old i es name x so rests new = facts_of_more _ es (entry.Symbol name x) (record {
  symbols = new;
  tags = nothing_more old.tags (tag_words 0 es) so.tags;
  count = so.count;
  layouts = λ id. kept_more es (entry.Symbol name x) id _ _ (so.layouts id);
  lawful = so.lawful;
  rests = rests;
})

pub noted_enumeration : (old : Facts) (i : Index Tag) (es : List NameEntry) (t : List ℕ) → AreFactsOf old es → IsIndexOf i (tag_words 0 es ++ tag_word (struct_count es) (entry.Enumeration t))
    → AreFactsOf (record { symbols = old.symbols; tags = i; layouts = old.layouts }) (es ++ entry.Enumeration t ∷ [])
noted_enumeration old i es t so new = facts_of_more _ es (entry.Enumeration t) (record {
  symbols = nothing_more old.symbols (symbol_words 0 es) so.symbols;
  tags = new;
  count = so.count;
  layouts = λ id. kept_more es (entry.Enumeration t) id _ _ (so.layouts id);
  lawful = so.lawful;
  rests = tt;
})

pub noted_struct : (old : Facts) (i : Index Tag) (v : Vec (Option Layout) Global) (es : List NameEntry) (t : Option (List ℕ)) → AreFactsOf old es → v.items ≡ old.layouts.items ++ None ∷ []
    → IsIndexOf i (tag_words 0 es ++ tag_word (struct_count es) (entry.Struct t)) → AreFactsOf (record { symbols = old.symbols; tags = i; layouts = v }) (es ++ entry.Struct t ∷ [])
noted_struct old i v es t so grown new = facts_of_more _ es (entry.Struct t) (record {
  symbols = nothing_more old.symbols (symbol_words 0 es) so.symbols;
  tags = new;
  count = ap length grown ∙ length-append old.layouts.items (None ∷ []) ∙ ap (λ n. n + 1) so.count ∙ sym (length-append (structs_of es) (None ∷ []));
  layouts = λ id. kept_same (es ++ entry.Struct t ∷ []) id _ _ _ _ (sym (ap (λ l. slice_index_or l id None) grown ∙ default-append old.layouts.items None id)) (sym (default-append (structs_of es) None id)) (kept_more es (entry.Struct t) id _ _ (so.layouts id));
  lawful = so.lawful;
  rests = tt;
})

pub noted_members : (old : Facts) (v : Vec (Option Layout) Global) (es : List NameEntry) (id : ℕ) (ms : List MemberInfo) (kept : Option Layout) → AreFactsOf old es → RestsOn (structs_of es) (entry.Members id ms)
    → IsNewLayout es (entry.Members id ms) kept → v.items ≡ slice_set old.layouts.items id kept → AreFactsOf (record { symbols = old.symbols; tags = old.tags; layouts = v }) (es ++ entry.Members id ms ∷ [])
noted_members old v es id ms kept so rests is written =
    let s : Option StructLayout = Some (laid_out (structs_of es) ms) in
    let within : id < length old.layouts.items = omega (arith, so.count, rests.0) in
    facts_of_more _ es (entry.Members id ms) (record {
      symbols = nothing_more old.symbols (symbol_words 0 es) so.symbols;
      tags = nothing_more old.tags (tag_words 0 es) so.tags;
      count = ap length written ∙ length-set old.layouts.items id kept ∙ so.count ∙ sym (length-set (structs_of es) id s);
      layouts = λ j. ⊎_elim
          (λ same. kept_same (es ++ entry.Members id ms ∷ []) j kept _ s _
          (sym (ap (λ l. slice_index_or l j None) written ∙ ap (λ k. slice_index_or (slice_set old.layouts.items id kept) k None) same ∙ get_or-set_same old.layouts.items id kept None within))
          (sym (ap (λ k. slice_index_or (slice_set (structs_of es) id s) k None) same ∙ get_or-set_same (structs_of es) id s None rests.0))
          (subst (λ k. IsKept (es ++ entry.Members id ms ∷ []) k kept s) (sym same) is))
          (λ other. kept_same (es ++ entry.Members id ms ∷ []) j _ _ _ _
          (sym (ap (λ l. slice_index_or l j None) written ∙ get_or-set_other old.layouts.items id j kept None other))
          (sym (get_or-set_other (structs_of es) id j s None other))
          (kept_more es (entry.Members id ms) j _ _ (so.layouts j)))
          (cases_eq j id);
      lawful = so.lawful;
      rests = rests;
    })

-- ---- one entry less, by its kind
pub forgot_symbol : (old : Facts) (i : Index ℕ) (es : List NameEntry) (name : List ℕ) (x : Symbol) → AreFactsOf old (es ++ entry.Symbol name x ∷ [])
    → ((words : List (List ℕ × ℕ)) → (meaning : ℕ) → IsIndexOf old.symbols (words ++ (name, meaning) ∷ []) → IsIndexOf i words) → AreFactsOf (record { symbols = i; tags = old.tags; layouts = old.layouts }) es
forgot_symbol old i es name x all back =
    let so = facts_of_front old es (entry.Symbol name x) all in
    record {
      symbols = back _ _ so.symbols;
      tags = nothing_less old.tags (tag_words 0 es) so.tags;
      count = so.count;
      layouts = λ id. kept_less es (entry.Symbol name x) id _ _ (so.layouts id) (λ ms e. cc);
      lawful = so.lawful;
    }

pub forgot_enumeration : (old : Facts) (i : Index Tag) (es : List NameEntry) (t : List ℕ) → AreFactsOf old (es ++ entry.Enumeration t ∷ [])
    → ((words : List (List ℕ × Tag)) → (meaning : Tag) → IsIndexOf old.tags (words ++ (t, meaning) ∷ []) → IsIndexOf i words) → AreFactsOf (record { symbols = old.symbols; tags = i; layouts = old.layouts }) es
forgot_enumeration old i es t all back =
    let so = facts_of_front old es (entry.Enumeration t) all in
    record {
      symbols = nothing_less old.symbols (symbol_words 0 es) so.symbols;
      tags = back _ _ so.tags;
      count = so.count;
      layouts = λ id. kept_less es (entry.Enumeration t) id _ _ (so.layouts id) (λ ms e. cc);
      lawful = so.lawful;
    }

length-taken : {X : Type 0} (xs ys : List X) (x : Option X) (n : ℕ) → xs ≡ ys ++ option_to_list x → length xs ≡ n + 1 → IsSome x → length ys ≡ n
length-taken xs ys None n e size some = cc
length-taken xs ys (Some x) n e size some = omega (arith, ap length e, size, length-append ys (x ∷ []))

none_last : (es : List NameEntry) (id : ℕ) (k : Option Layout) → IsKept es id k None → k ≡ None
none_last es id None so = refl
none_last es id (Some k) so = absurd so

struct_gone : (ls ks : List (Option Layout)) (x : Option (Option Layout)) (es : List NameEntry) (S : Structs) → ls ≡ ks ++ option_to_list x → length ks ≡ length S
    → ((id : ℕ) → IsKept es id (slice_index_or ls id None) (struct_at (S ++ None ∷ []) id)) → (id : ℕ) → slice_index_or ls id None ≡ slice_index_or ks id None
struct_gone ls ks None es S e size so id = ap (λ l. slice_index_or l id None) (e ∙ append-nil ks)
struct_gone ls ks (Some x) es S e size so id =
    let here = so (length ks) in
    let last : slice_index_or ls (length ks) None ≡ x = ap (λ l. slice_index_or l (length ks) None) e ∙ get_or-append_seam ks x [] None in
    let open_ : struct_at (S ++ None ∷ []) (length ks) ≡ None = ap (struct_at (S ++ None ∷ [])) size ∙ get_or-append_seam S None [] None in
    let none : x ≡ None = sym last ∙ none_last es (length ks) _ (kept_same es (length ks) _ _ _ _ refl open_ here) in
    ap (λ l. slice_index_or l id None) (e ∙ ap (λ y. ks ++ y ∷ []) none) ∙ default-append ks None id

pub forgot_struct : (old : Facts) (i : Index Tag) (v : Vec (Option Layout) Global) (x : Option (Option Layout)) (es : List NameEntry) (t : Option (List ℕ)) → AreFactsOf old (es ++ entry.Struct t ∷ [])
    → old.layouts.items ≡ v.items ++ option_to_list x → (0 < vec_len old.layouts → IsSome x) → IsIndexOf i (tag_words 0 es) → AreFactsOf (record { symbols = old.symbols; tags = i; layouts = v }) es
forgot_struct old i v x es t all shrunk some back =
    let so = facts_of_front old es (entry.Struct t) all in
    let size : length old.layouts.items ≡ length (structs_of es) + 1 = so.count ∙ length-append (structs_of es) (None ∷ []) in
    let full : 0 < vec_len old.layouts = omega (arith, size, old.layouts.ok.0) in
    let count = length-taken old.layouts.items v.items x (length (structs_of es)) shrunk size (some full) in
    record {
      symbols = nothing_less old.symbols (symbol_words 0 es) so.symbols;
      tags = back;
      count = count;
      layouts = λ id. kept_less es (entry.Struct t) id _ _ (kept_same (es ++ entry.Struct t ∷ []) id _ _ _ _ (struct_gone old.layouts.items v.items x (es ++ entry.Struct t ∷ []) (structs_of es) shrunk count so.layouts id) (default-append (structs_of es) None id) (so.layouts id)) (λ ms e. cc);
      lawful = so.lawful;
    }

pub tags_untagged : (old : Facts) (es : List NameEntry) → AreFactsOf old (es ++ entry.Struct None ∷ []) → IsIndexOf old.tags (tag_words 0 es)
tags_untagged old es all = nothing_less old.tags (tag_words 0 es) (facts_of_front old es (entry.Struct None) all).tags

pub tags_tagged : (old : Facts) (i : Index Tag) (es : List NameEntry) (t : List ℕ) → AreFactsOf old (es ++ entry.Struct (Some t) ∷ [])
    → ((words : List (List ℕ × Tag)) → (meaning : Tag) → IsIndexOf old.tags (words ++ (t, meaning) ∷ []) → IsIndexOf i words) → IsIndexOf i (tag_words 0 es)
tags_tagged old i es t all back = back _ _ (facts_of_front old es (entry.Struct (Some t)) all).tags

same_id : (a b : ℕ) (xs ys : List MemberInfo) → entry.Members a xs ≡ entry.Members b ys → a ≡ b
same_id a b xs ys e = cc

pub members_within : (old : Facts) (es : List NameEntry) (id : ℕ) (ms : List MemberInfo) → AreFactsOf old (es ++ entry.Members id ms ∷ []) → id < length old.layouts.items
members_within old es id ms all =
    let so = facts_of_front old es (entry.Members id ms) all in
    omega (arith, so.count, so.rests.0, length-set (structs_of es) id (Some (laid_out (structs_of es) ms)))

pub forgot_members : (old : Facts) (v : Vec (Option Layout) Global) (es : List NameEntry) (id : ℕ) (ms : List MemberInfo) → AreFactsOf old (es ++ entry.Members id ms ∷ [])
    → v.items ≡ slice_set old.layouts.items id None → AreFactsOf (record { symbols = old.symbols; tags = old.tags; layouts = v }) es
forgot_members old v es id ms all written =
    let so = facts_of_front old es (entry.Members id ms) all in
    let s : Option StructLayout = Some (laid_out (structs_of es) ms) in
    let none : Option Layout = None in
    let within = members_within old es id ms all in
    record {
      symbols = nothing_less old.symbols (symbol_words 0 es) so.symbols;
      tags = nothing_less old.tags (tag_words 0 es) so.tags;
      count = ap length written ∙ length-set old.layouts.items id none ∙ so.count ∙ length-set (structs_of es) id s;
      layouts = λ j. ⊎_elim
          (λ same. kept_same es j None _ None _
          (sym (ap (λ l. slice_index_or l j None) written ∙ ap (λ k. slice_index_or (slice_set old.layouts.items id none) k None) same ∙ get_or-set_same old.layouts.items id none None within))
          (sym (ap (struct_at (structs_of es)) same ∙ so.rests.1))
          tt)
          (λ other. kept_less es (entry.Members id ms) j _ _ (kept_same (es ++ entry.Members id ms ∷ []) j _ _ _ _
          (sym (ap (λ l. slice_index_or l j None) written ∙ get_or-set_other old.layouts.items id j none None other))
          (get_or-set_other (structs_of es) id j s None other)
          (so.layouts j)) (λ xs e. other (sym (same_id id j ms xs e))))
          (cases_eq j id);
      lawful = so.lawful;
    }

-- ---- the same, as the calls say it
structs_in-least : (e : NameEntry) → structs_in e ≤ 1
structs_in-least (entry.Symbol n x) = omega arith
structs_in-least (entry.Struct t) = omega arith
structs_in-least (entry.Members id ms) = omega arith
structs_in-least (entry.Enumeration t) = omega arith

struct_count-least : (es : List NameEntry) → struct_count es ≤ length es
struct_count-least [] = omega arith
struct_count-least (e ∷ es) = omega (arith, sum_by-cons structs_in e es, structs_in-least e, struct_count-least es)

-- the structs that are kept are those that the entries declare
pub kept_count : (facts : Facts) (es : List NameEntry) → AreFactsOf facts es → vec_len facts.layouts ≡ struct_count es
kept_count facts es so = facts.layouts.ok.0 ∙ so.count ∙ length-structs_behind [] es ∙ omega arith

pub kept_few : (facts : Facts) (es : List NameEntry) → AreFactsOf facts es → vec_len facts.layouts ≤ length es
kept_few facts es so = omega (arith, kept_count facts es so, struct_count-least es)

pub symbol_noted : {T E : Type 0} (r : Result T E) (old : Facts) (i : Index ℕ) (es : List NameEntry) (e : NameEntry) (name word : List ℕ) (x : Symbol) (place : ℕ) → e ≡ entry.Symbol name x → word ≡ name → place ≡ length es
    → AreFactsOf old es → RestsOn (structs_of es) e → OnOk r ((words : List (List ℕ × ℕ)) → IsIndexOf old.symbols words → IsIndexOf i (words ++ (word, place) ∷ []))
    → OnOk r (AreFactsOf (record { symbols = i; tags = old.tags; layouts = old.layouts }) (es ++ e ∷ []))
symbol_noted (Err x) old i es e name word y place is same at so rests added = added
symbol_noted (Ok x) old i es e name word y place is same at so rests added =
    let pair = ap (λ (w : List ℕ). (w, place)) same ∙ ap (λ (n : ℕ). (name, n)) at in
    let new = subst (λ p. IsIndexOf i (symbol_words 0 es ++ p ∷ [])) pair (added (symbol_words 0 es) so.symbols) in
    subst (λ y. AreFactsOf (record { symbols = i; tags = old.tags; layouts = old.layouts }) (es ++ y ∷ [])) (sym is) (noted_symbol old i es name y so (subst (RestsOn (structs_of es)) is rests) new)

pub enumeration_noted : {T E : Type 0} (r : Result T E) (old : Facts) (i : Index Tag) (es : List NameEntry) (e : NameEntry) (name word : List ℕ) → e ≡ entry.Enumeration name → word ≡ name
    → AreFactsOf old es → OnOk r ((words : List (List ℕ × Tag)) → IsIndexOf old.tags words → IsIndexOf i (words ++ (word, tag.Enumeration) ∷ []))
    → OnOk r (AreFactsOf (record { symbols = old.symbols; tags = i; layouts = old.layouts }) (es ++ e ∷ []))
enumeration_noted (Err x) old i es e name word is same so added = added
enumeration_noted (Ok x) old i es e name word is same so added =
    let new = subst (λ w. IsIndexOf i (tag_words 0 es ++ (w, tag.Enumeration) ∷ [])) same (added (tag_words 0 es) so.tags) in
    subst (λ y. AreFactsOf (record { symbols = old.symbols; tags = i; layouts = old.layouts }) (es ++ y ∷ [])) (sym is) (noted_enumeration old i es name so new)

pub members_noted : (old : Facts) (v : Vec (Option Layout) Global) (es : List NameEntry) (e : NameEntry) (id : ℕ) (ms : List MemberInfo) (kept : Option Layout) → e ≡ entry.Members id ms → AreFactsOf old es → RestsOn (structs_of es) e
    → IsNewLayout es e kept → v.items ≡ slice_set old.layouts.items id kept → AreFactsOf (record { symbols = old.symbols; tags = old.tags; layouts = v }) (es ++ e ∷ [])
members_noted old v es e id ms kept is so rests new written =
    subst (λ y. AreFactsOf (record { symbols = old.symbols; tags = old.tags; layouts = v }) (es ++ y ∷ [])) (sym is)
    (noted_members old v es id ms kept so (subst (RestsOn (structs_of es)) is rests) (subst (λ y. IsNewLayout es y kept) is new) written)

pub untagged_noted : (old : Facts) (v : Vec (Option Layout) Global) (es : List NameEntry) (t : Option (List ℕ)) → t ≡ None → AreFactsOf old es → v.items ≡ old.layouts.items ++ None ∷ []
    → AreFactsOf (record { symbols = old.symbols; tags = old.tags; layouts = v }) (es ++ entry.Struct t ∷ [])
untagged_noted old v es t is so grown =
    subst (λ y. AreFactsOf (record { symbols = old.symbols; tags = old.tags; layouts = v }) (es ++ entry.Struct y ∷ [])) (sym is) (noted_struct old old.tags v es None so grown (nothing_more old.tags (tag_words 0 es) so.tags))

pub tagged_noted : (old : Facts) (i : Index Tag) (v : Vec (Option Layout) Global) (es : List NameEntry) (t : Option (List ℕ)) (name word : List ℕ) (id : ℕ) → t ≡ Some name → word ≡ name → id ≡ vec_len old.layouts → AreFactsOf old es
    → v.items ≡ old.layouts.items ++ None ∷ [] → ((words : List (List ℕ × Tag)) → IsIndexOf old.tags words → IsIndexOf i (words ++ (word, tag.Struct id) ∷ []))
    → AreFactsOf (record { symbols = old.symbols; tags = i; layouts = v }) (es ++ entry.Struct t ∷ [])
tagged_noted old i v es t name word id is same at so grown added =
    let pair = ap (λ (w : List ℕ). (w, tag.Struct id)) same ∙ ap (λ (n : ℕ). (name, tag.Struct n)) (at ∙ kept_count old es so) in
    let new = subst (λ p. IsIndexOf i (tag_words 0 es ++ p ∷ [])) pair (added (tag_words 0 es) so.tags) in
    subst (λ y. AreFactsOf (record { symbols = old.symbols; tags = i; layouts = v }) (es ++ entry.Struct y ∷ [])) (sym is) (noted_struct old i v es (Some name) so grown new)

pub symbol_forgot : (old : Facts) (i : Index ℕ) (es : List NameEntry) (e : NameEntry) (name word : List ℕ) (x : Symbol) → e ≡ entry.Symbol name x → word ≡ name → AreFactsOf old (es ++ e ∷ [])
    → ((words : List (List ℕ × ℕ)) → (meaning : ℕ) → IsIndexOf old.symbols (words ++ (word, meaning) ∷ []) → IsIndexOf i words) → AreFactsOf (record { symbols = i; tags = old.tags; layouts = old.layouts }) es
symbol_forgot old i es e name word x is same so back =
    forgot_symbol old i es name x (subst (λ y. AreFactsOf old (es ++ y ∷ [])) is so) (λ ws m index. back ws m (subst (λ w. IsIndexOf old.symbols (ws ++ (w, m) ∷ [])) (sym same) index))

pub enumeration_forgot : (old : Facts) (i : Index Tag) (es : List NameEntry) (e : NameEntry) (name word : List ℕ) → e ≡ entry.Enumeration name → word ≡ name → AreFactsOf old (es ++ e ∷ [])
    → ((words : List (List ℕ × Tag)) → (meaning : Tag) → IsIndexOf old.tags (words ++ (word, meaning) ∷ []) → IsIndexOf i words) → AreFactsOf (record { symbols = old.symbols; tags = i; layouts = old.layouts }) es
enumeration_forgot old i es e name word is same so back =
    forgot_enumeration old i es name (subst (λ y. AreFactsOf old (es ++ y ∷ [])) is so) (λ ws m index. back ws m (subst (λ w. IsIndexOf old.tags (ws ++ (w, m) ∷ [])) (sym same) index))

pub untagged_forgot : (old : Facts) (v : Vec (Option Layout) Global) (x : Option (Option Layout)) (es : List NameEntry) (e : NameEntry) (t : Option (List ℕ)) → e ≡ entry.Struct t → t ≡ None → AreFactsOf old (es ++ e ∷ [])
    → old.layouts.items ≡ v.items ++ option_to_list x → (0 < vec_len old.layouts → IsSome x) → AreFactsOf (record { symbols = old.symbols; tags = old.tags; layouts = v }) es
untagged_forgot old v x es e t is none so shrunk some =
    let all = subst (λ y. AreFactsOf old (es ++ y ∷ [])) (is ∙ ap entry.Struct none) so in
    forgot_struct old old.tags v x es None all shrunk some (tags_untagged old es all)

pub tagged_forgot : (old : Facts) (i : Index Tag) (v : Vec (Option Layout) Global) (x : Option (Option Layout)) (es : List NameEntry) (e : NameEntry) (t : Option (List ℕ)) (name word : List ℕ) → e ≡ entry.Struct t → t ≡ Some name → word ≡ name
    → AreFactsOf old (es ++ e ∷ []) → old.layouts.items ≡ v.items ++ option_to_list x → (0 < vec_len old.layouts → IsSome x)
    → ((words : List (List ℕ × Tag)) → (meaning : Tag) → IsIndexOf old.tags (words ++ (word, meaning) ∷ []) → IsIndexOf i words) → AreFactsOf (record { symbols = old.symbols; tags = i; layouts = v }) es
tagged_forgot old i v x es e t name word is tagged same so shrunk some back =
    let all = subst (λ y. AreFactsOf old (es ++ y ∷ [])) (is ∙ ap entry.Struct tagged) so in
    forgot_struct old i v x es (Some name) all shrunk some (tags_tagged old i es name all (λ ws m index. back ws m (subst (λ w. IsIndexOf old.tags (ws ++ (w, m) ∷ [])) (sym same) index)))

pub members_forgot : (old : Facts) (v : Vec (Option Layout) Global) (es : List NameEntry) (e : NameEntry) (id : ℕ) (ms : List MemberInfo) → e ≡ entry.Members id ms → AreFactsOf old (es ++ e ∷ [])
    → v.items ≡ slice_set old.layouts.items id None → AreFactsOf (record { symbols = old.symbols; tags = old.tags; layouts = v }) es
members_forgot old v es e id ms is so written = forgot_members old v es id ms (subst (λ y. AreFactsOf old (es ++ y ∷ [])) is so) written

pub has_place : (old : Facts) (es : List NameEntry) (e : NameEntry) (id : ℕ) (ms : List MemberInfo) → e ≡ entry.Members id ms → AreFactsOf old (es ++ e ∷ []) → id < vec_len old.layouts
has_place old es e id ms is so = omega (arith, old.layouts.ok.0, members_within old es id ms (subst (λ y. AreFactsOf old (es ++ y ∷ [])) is so))
