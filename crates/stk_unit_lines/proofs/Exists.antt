-- Each unit has lines.
use Rattle.std.proofs.Common.{◌≡◌, ℕ, ◌<◌, ◌⊎◌, inl, inr, Bool, List, [], ◌∷◌, length, Option, Some, None, Result, Ok, Err, refl, sym, subst, arith}
use Rattle.std.specs.Prelude.{OnErr}
use Rattle.stk_lex.specs.declared.token.Token.{Token}
use Rattle.stk_ctype.specs.declared.symbol.NameEntry.{NameEntry}
use Rattle.stk_tree.specs.Syntax.{UnitTree}
use Rattle.stk_tree.specs.Syntax as s
use Rattle.stk_numbers.specs.declared.conditions.Kinds.{Kinds}
use Rattle.stk_meaning.specs.Lists.{candidates}
use Rattle.stk_accept.specs.Accepting.{Accepts}
use Rattle.stk_accept.proofs.Exists.{settled, is_accepted, is_refused}
use Rattle.stk_records.specs.declared.counts.Counts.{Counts}
use Rattle.stk_records.specs.declared.line.Cause.{Cause}
use Rattle.stk_records.specs.declared.line.Line.{Line}
use Rattle.stk_records.specs.Counts.{nothing_counted}
use Rattle.stk_records.specs.declared.options.Options.{Options}
use Rattle.stk_records.specs.Form.{written_records}
use Rattle.stk_records.proofs.Written.{no_prefix}
use Rattle.stk_type_laws.specs.Orderly.{AreOrderly}
use Rattle.stk_run_laws.proofs.GatheredLaws.{what_suffices_in_paths_suffices}
use Rattle.stk_finding_laws.proofs.Paths.{function_findings}
use Rattle.stk_spent_queries.specs.Spent.{spent_at}
use Rattle.stk_units.specs.Functions.{unit_typing}
use Rattle.stk_units.specs.Causes.{cause_of, body_cause}
use Rattle.stk_units.specs.Counted.{one_skipped, one_judged}
use Rattle.stk_unit_lines.specs.UnitLines.{skip_line, function_lines, IsUnitLines, accepted, refused, unjudged, judged}
use Rattle.stk_unit_lines.specs.Wrote.{HasStopped, WroteUnitPrefix}
use Rattle.stk_units.proofs.Measures.{small}
use Rattle.stk_units.proofs.Typed.{typed_well}
use Rattle.stk_unit_lines.proofs.Typed.{stays_orderly}

pub record HasLines (bytes : List ℕ) (without : Kinds) (budget : ℕ) (mark : Bool) (es : List NameEntry) (body : Option ℕ) (tokens : List Token) : Type 0 where
  pub lines : List Line
  pub counts : Counts
  pub now : List NameEntry
  pub is : IsUnitLines bytes without budget mark es body tokens lines counts now

-- the names that are left are orderly too
pub left_orderly : {bytes : List ℕ} {without : Kinds} {budget : ℕ} {mark : Bool} {es : List NameEntry} {body : Option ℕ} {tokens : List Token} → AreOrderly es → (x : HasLines bytes without budget mark es body tokens) → AreOrderly x.now
left_orderly {bytes} {without} {budget} {mark} {es} {body} {tokens} orderly x = stays_orderly bytes without budget mark es x.now body tokens x.lines x.counts orderly x.is

module _ (bytes : List ℕ) (without : Kinds) (budget : ℕ) (mark : Bool) (es : List NameEntry) (body : Option ℕ) (orderly : AreOrderly es) where
  lines_of_tree : (t : Token) (ts : List Token) (u : UnitTree) (now : List NameEntry) → Accepts bytes mark es (t ∷ ts) u now → HasLines bytes without budget mark es body (t ∷ ts)
  lines_of_tree t ts (s.empty_unit n) now h = record { lines = []; counts = nothing_counted; now = now; is = accepted (s.empty_unit n) h refl }
  lines_of_tree t ts (s.declares n d) now h = record { lines = []; counts = nothing_counted; now = now; is = accepted (s.declares n d) h refl }
  lines_of_tree t ts (s.defines n f) now h = on (body_cause bytes without now (s.defines n f)) refl where
    on : (o : Option Cause) → body_cause bytes without now (s.defines n f) ≡ o → HasLines bytes without budget mark es body (t ∷ ts)
    on (Some cause) e = record { lines = skip_line bytes t.span.from cause ∷ []; counts = one_skipped; now = now; is = unjudged n f cause h e }
    on None e =
        let ty = unit_typing bytes now (s.defines n f) in
        let found = small bytes without now (s.defines n f) e in
        let typed = (typed_well bytes without mark es now (t ∷ ts) n f orderly h found.result found.facts found.typed).typed in
        let xs = function_findings ty without f (spent_at ty without f budget) (λ c set. what_suffices_in_paths_suffices ty without f typed c set) (candidates ty f) in
        record { lines = function_lines bytes without now (s.defines n f) f xs.0; counts = one_judged xs.0; now = now; is = judged n f xs.0 h e xs.1 }

  pub lines_of_unit : (tokens : List Token) → 0 < length tokens → HasLines bytes without budget mark es body tokens
  lines_of_unit [] some = absurd (omega arith)
  lines_of_unit (t ∷ ts) some =
      elim (settled bytes mark es (t ∷ ts) body) [
        | is_accepted u now h ↦ lines_of_tree t ts u now h
        | is_refused cause now h ↦ record { lines = skip_line bytes t.span.from (cause_of bytes cause) ∷ []; counts = one_skipped; now = now; is = refused cause h }
      ]

-- ---- what a sink took where the writing of a unit stopped

module _ (bytes : List ℕ) (o : Options) (mark : Bool) (es : List NameEntry) (body : Option ℕ) (tokens : List Token) where
  -- nothing is a prefix of what may be written of a unit
  pub no_unit_prefix : (before : Option (List ℕ)) → AreOrderly es → 0 < length tokens → WroteUnitPrefix bytes o mark es body tokens before before
  no_unit_prefix before orderly some =
      let unit = lines_of_unit bytes o.without o.budget mark es body orderly tokens some in
      record { lines = unit.lines; counts = unit.counts; now = unit.now; are = unit.is; written = no_prefix before (written_records o unit.lines) }

  pub unit_stopped : {T E : Type 0} (before after : Option (List ℕ)) (now : List NameEntry) → AreOrderly es → 0 < length tokens → (r : Result T E)
      → OnErr r (HasStopped (λ lines counts. IsUnitLines bytes o.without o.budget mark es body tokens lines counts now) o before after) → OnErr r (WroteUnitPrefix bytes o mark es body tokens before after)
  unit_stopped before after now orderly some (Ok x) h = tt
  unit_stopped before after now orderly some (Err e) (inl same) = subst (λ (u : Option (List ℕ)). WroteUnitPrefix bytes o mark es body tokens before u) (sym same) (no_unit_prefix before orderly some)
  unit_stopped before after now orderly some (Err e) (inr w) = record { lines = w.lines; counts = w.counts; now = now; are = w.are; written = w.written }
