-- What a table of all path runs of a function tells of a query.
use Rattle.std.proofs.Common.{◌≡◌, ℕ, ◌<◌, ◌≤◌, ◌^◌, Bool, true, false, not, List, ℤ, length, slice_get, Option, Some, None, refl, sym, ap, subst, ◌∙◌, arith}
use Rattle.std.specs.Prelude.{MatchOption, is_none}
use Rattle.std.specs.Option.{is_some}
use Rattle.std.proofs.lemmas.Option.{slice_get_within}
use Rattle.stk_ctype.specs.declared.kind.IntKind.{IntKind}
use Rattle.stk_tree.specs.Syntax.{FunctionTree}
use Rattle.stk_numbers.specs.declared.conditions.Candidate.{Candidate}
use Rattle.stk_numbers.specs.declared.conditions.Condition.{Condition}
use Rattle.stk_numbers.specs.declared.conditions.Kinds.{Kinds}
use Rattle.stk_meaning.specs.declared.entry.Entry.{Entry}
use Rattle.stk_meaning.specs.Typings.{Typing}
use Rattle.stk_meaning.specs.Keys.{Object, keys_of, kept_of, objects_of, input_bits}
use Rattle.stk_meaning.specs.Maps.{are_valid, addresses_in}
use Rattle.stk_meaning.specs.Paths.{number_under, path}
use Rattle.stk_meaning.specs.Hits.{HitsFree}
use Rattle.stk_meaning.specs.Findings.{Answers, NoAnswer}
use Rattle.stk_hits.specs.InputMaps.{bits_in, map_at}
use Rattle.stk_hits.specs.Tables.{Table}
use Rattle.stk_hits.specs.PathSubjects.{kinds_of}
use Rattle.stk_hits.specs.PathTables.{IsTableOf}
use Rattle.stk_hits.specs.Queries.{NoneIsFree, IsFirstFree}
use Rattle.stk_hits.proofs.KeyKinds.{covers, in_range}
use Rattle.stk_hits.proofs.Numbering.{by_number}
use Rattle.stk_hits.proofs.Objects.{no_objects}
use Rattle.stk_audit.specs.Hands.{TellsNone}
use Rattle.stk_source_audit.specs.Functions.{audited_subject}

one_trace : (o : Option (Option (List Entry))) (x y : List Entry) → o ≡ Some (Some x) → o ≡ Some (Some y) → x ≡ y
one_trace o x y e f = let g = sym e ∙ f in cc

none_by : (some none : Bool) → some ≡ not none → not some ≡ none
none_by true true e = absurd cc
none_by true false e = refl
none_by false true e = refl
none_by false false e = absurd cc

module _ (ty : Typing) (without : Kinds) (f : FunctionTree) (few : input_bits (keys_of ty without f) ≤ 16) (table : Table) (t : IsTableOf ty without f (2 ^ bits_in (kinds_of (keys_of ty without f))) table) (c : Candidate) (set : List Condition) where
  abbrev ks : List IntKind
  ks = kinds_of (keys_of ty without f)

  no_answer : NoneIsFree t.runs c set → NoAnswer (audited_subject ty without f) c set
  no_answer none m a =
      let n = (by_number ks).numbered m (covers (keys_of ty without f) m a.valid.covers) in
      let below : n.number < length t.runs = subst (λ (size : ℕ). n.number < size) (sym t.count) n.below in
      none n.number (record { trace = path ty without f m; is = t.are.each n.number below ∙ ap (λ (x : List ℤ). Some (Some (path ty without f x))) n.is; hits = a.hits })

  -- no object has an address
  valid_there : (m : List ℤ) → are_valid (kept_of ty without f) (objects_of ty without f) (addresses_in (number_under (keys_of ty without f) m)) ≡ true
  valid_there m = ap (λ (os : List Object). are_valid (kept_of ty without f) os (addresses_in (number_under (keys_of ty without f) m))) (no_objects ty without f (omega (arith, few)))

  answer : (n : ℕ) → IsFirstFree t.runs c set n → Answers (audited_subject ty without f) c set (map_at ks n)
  answer n h =
      let within = slice_get_within t.runs n (Some h.free.trace) h.free.is in
      let below : n < 2 ^ bits_in ks = subst (λ (size : ℕ). n < size) t.count within in
      record {
        valid = record { covers = in_range (keys_of ty without f) (map_at ks n) ((by_number ks).covers n below); apart = valid_there (map_at ks n) };
        hits = subst (λ (x : List Entry). HitsFree set c x) (one_trace (slice_get t.runs n) h.free.trace (path ty without f (map_at ks n)) h.free.is (t.are.each n within)) h.free.hits;
      }

  told_none : (found : Option ℕ) → MatchOption found (NoneIsFree t.runs c set) (IsFirstFree t.runs c set) → TellsNone (audited_subject ty without f) c set (is_none found)
  told_none None h = no_answer h
  told_none (Some n) h = (map_at ks n, answer n h)

  -- by whether none was found
  pub told : (found : Option ℕ) (none : Bool) → is_some found ≡ not none → MatchOption found (NoneIsFree t.runs c set) (IsFirstFree t.runs c set) → TellsNone (audited_subject ty without f) c set none
  told found none e h = subst (λ (b : Bool). TellsNone (audited_subject ty without f) c set b) (none_by (is_some found) none e) (told_none found h)
