-- The laws.
use Rattle.std.proofs.Common.{◌≡◌, ℕ, Bool, true, false, not, ◌&&◌, List, [], ◌∷◌, length, ℤ, pos, None, refl, ap, ◌∙◌, subst, inl, inr}
use Rattle.std.specs.Prelude.{map, replicate}
use Rattle.stk_tree.specs.Syntax.{FunctionTree}
use Rattle.stk_numbers.specs.declared.conditions.Condition.{Condition}
use Rattle.stk_numbers.specs.declared.conditions.Kinds.{Kinds}
use Rattle.stk_meaning.specs.declared.entry.Entry.{Entry}
use Rattle.stk_meaning.specs.Typings.{Typing, declarator_node, statement_node}
use Rattle.stk_meaning.specs.Visits.{Visits, statement_visits}
use Rattle.stk_meaning.specs.Worlds.{Ran, Went, trace_of, Flow}
use Rattle.stk_meaning.specs.Keys.{parameter_key, keys_of, kept_of, setting_of, body_of, register_parameters}
use Rattle.stk_meaning.specs.Statements.{statement_run}
use Rattle.stk_meaning.specs.Memory.{Memory}
use Rattle.stk_meaning.specs.Paths.{InputMap, KeptNumbers, path_ran, path_world, number_under, start_registers}
use Rattle.stk_meaning.specs.Executions.{Answer, Outside, ExecutionStart, execution_ran}
use Rattle.stk_meaning.specs.Maps.{IsValidStart}
use Rattle.stk_meaning.specs.Hits.{breaks, free_of}
use Rattle.stk_run_laws.proofs.Keeping.{agrees_none}
use Rattle.stk_run_laws.specs.TypedTree.{IsTypedTree}
use Rattle.stk_run_laws.specs.Shown.{AreAmong, Gathering, EndsAlike, EachEndIsShown, WhatSufficesInPathsSuffices}
use Rattle.stk_run_laws.proofs.Maps.{Ground, held, OnlyIn}
use Rattle.stk_run_laws.proofs.Join.{EndsToo, Gathered}
use Rattle.stk_run_laws.proofs.Parts.{sides}
use Rattle.stk_run_laws.proofs.GatheredStatements.{statement_part}
use Rattle.stk_run_laws.proofs.Grounds.{ground_of, all_at}
use Rattle.stk_run_laws.proofs.Agreeing.{body_good}
use Rattle.stk_run_laws.proofs.Starts.{numbers_of, under_is, parameters_same, base, base_covers, base_parameter, fit_start, valid_of}

module _ (ty : Typing) (without : Kinds) (f : FunctionTree) (h : IsTypedTree ty without f) (start : ExecutionStart) (v : IsValidStart ty without f start) where
  abbrev c : Ground
  c = ground_of ty without f start

  abbrev body : Visits
  body = statement_visits ty false (body_of f)

  -- the path run of the body from the registers of the start
  abbrev body_run : InputMap → Ran Flow KeptNumbers
  body_run m = statement_run (setting_of ty without f) (path_world m) (body_of f) (start_registers ty f start.numbers) (replicate (length (kept_of ty without f)) None)

  gathered_body : (memory : Memory) (answers : List Answer) (n : ℕ) → Gathered (sides c) body (base ty without f h start v) (execution_ran (setting_of ty without f) f start (record { memory = memory; answers = answers }) n) body_run
  gathered_body memory answers n =
      (statement_part c n false (body_of f)).gathers tt (body_good ty without f h start v) (base ty without f h start v) (start_registers ty f start.numbers) (record { memory = memory; answers = answers }) (replicate (length (kept_of ty without f)) None)
      (base_covers ty without f h start v) (fit_start ty without f h start v (statement_node (body_of f))) (agrees_none (held c) (length (kept_of ty without f)) memory)

  -- the path run of a function for the numbers of a map that differs in the body's nodes alone
  path_is : (m : InputMap) → OnlyIn c body (base ty without f h start v) m → path_ran (setting_of ty without f) f (number_under (keys_of ty without f) (numbers_of m (keys_of ty without f))) ≡ body_run m
  path_is m o =
      ap (path_ran (setting_of ty without f) f) (under_is c m (o.keeps (base_covers ty without f h start v)))
      ∙ ap (λ r. statement_run (setting_of ty without f) (path_world m) (body_of f) r (replicate (length (kept_of ty without f)) None))
      (parameters_same (map declarator_node (register_parameters ty f)) (λ k. m (parameter_key k)) start.numbers (replicate (statement_node (body_of f)) (pos 0))
      (λ k i. o.others (parameter_key k) (λ x. x) ∙ base_parameter ty without f h start v k i))

pub gathering : Gathering
gathering ty without f h start memory answers n v before e rest is =
    let a = (gathered_body ty without f h start v memory answers n).hits before e rest is in
    record {
      numbers = numbers_of a.map (keys_of ty without f);
      valid = valid_of ty without f h start v a.map (a.only.keeps (base_covers ty without f h start v));
      earlier = a.earlier;
      rest = a.rest;
      is = ap trace_of (path_is ty without f h start v a.map a.only) ∙ a.is;
      within = record { by = a.within.by };
    }

ends_shown : (ty : Typing) (without : Kinds) (f : FunctionTree) (h : IsTypedTree ty without f) (start : ExecutionStart) (v : IsValidStart ty without f start) (x : Ran Flow Outside) (flow : Flow) (registers : List ℤ) (end : Outside) (trace : List Entry) → x ≡ Went flow registers end trace → EndsToo (sides (ground_of ty without f start)) (statement_visits ty false (body_of f)) (base ty without f h start v) x (body_run ty without f h start v) → EndsAlike ty without f start flow registers end.memory trace
ends_shown ty without f h start v x flow registers end trace is a =
    let b = subst (λ z. EndsToo (sides (ground_of ty without f start)) (statement_visits ty false (body_of f)) (base ty without f h start v) z (body_run ty without f h start v)) is a in
    record {
      numbers = numbers_of b.map (keys_of ty without f);
      valid = valid_of ty without f h start v b.map (b.only.keeps (base_covers ty without f h start v));
      kept = b.kept;
      entries = b.entries;
      is = path_is ty without f h start v b.map b.only ∙ b.is;
      remembered = b.right.number;
      within = record { by = b.within.by };
    }

pub each_end_is_shown : EachEndIsShown
each_end_is_shown ty without f h start memory answers n v flow registers end trace is =
    ends_shown ty without f h start v _ flow registers end trace is (gathered_body ty without f h start v memory answers n).ends

free_part : (set : List Condition) (entries others : List Entry) → AreAmong entries others → free_of set others ≡ true → free_of set entries ≡ true
free_part set [] others a h = refl
free_part set (e ∷ entries) others a h = both (not (breaks set e)) (free_of set entries) (all_at (λ e. not (breaks set e)) e others h (a.by e (inl refl))) (free_part set entries others (record { by = λ d i. a.by d (inr i) }) h)
  where
    both : (x y : Bool) → x ≡ true → y ≡ true → x && y ≡ true
    both true true p q = refl
    both true false p q = absurd cc
    both false y p q = absurd cc

pub what_suffices_in_paths_suffices : WhatSufficesInPathsSuffices
what_suffices_in_paths_suffices ty without f h c set suffices = record {
  by = λ start memory answers n v hit.
      let a = gathering ty without f h start memory answers n v hit.before hit.entry hit.behind hit.is in
      suffices.by a.numbers a.valid (record { before = a.earlier; entry = hit.entry; behind = a.rest; is = a.is; hit = hit.hit; free = free_part set a.earlier hit.before a.within hit.free });
}
