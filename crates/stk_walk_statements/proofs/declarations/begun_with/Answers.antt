use Rattle.std.proofs.Common.{◌≡◌, ℤ, List, Some, set, sym, ap, ◌∙◌, subst, length}
use Rattle.stk_ctype.specs.declared.kind.IntKind.{IntKind}
use Rattle.stk_meaning.specs.Typings.{number_kind, converted}
use Rattle.stk_meaning.specs.Places.{Target, in_register, in_kept, target_at, in_object, unnamed}
use Rattle.stk_operators.specs.Targets.{target_shown}
use Rattle.stk_kinded.specs.Kinds.{Suits, register_kind, cell_kind}
use Rattle.stk_guarded.specs.Standing.{moved_to}
use Rattle.stk_walking.specs.Stands.{RowShows}
use Rattle.stk_walking.proofs.Carried.{is_made_still, stands_still}
use Rattle.stk_walking.proofs.Rows.{row_set, row_made_set, zero_then}
use Rattle.stk_walk_statements.proofs.Declaring.{if_same, register_with, kept_with}
use Rattle.stk_walking.proofs.Costing.{costs_none}
use Rattle.stk_walk_statements.proofs.declarations.begun_with.Goals as goal

pub returns-in-Register-clause-made : goal.returns-in-Register-clause-made
returns-in-Register-clause-made g c =
    let made = g.V.Values.made in
    let G = g.O.RunSetting.setting c.args.out.now in
    let K = number_kind (G.typing.type_at c.args.k) in
    let at = c.in-Register.at in
    let e : target_at G c.args.k ≡ in_register at = sym c.target_at.ensures ∙ ap target_shown c.in-Register.is in
    let suits : register_kind G at ≡ K = subst (λ (t : Target). Suits G t K) e c.requires.suits in
    let number = subst (λ (j : IntKind). made c.args.values.now j c.args.number) (sym (ap (register_kind G) (zero_then at) ∙ suits)) c.requires.number in
    let a = c.requires.made in
    record {
      guard = a.guard;
      broken = a.broken;
      continued = a.continued;
      registers = rw c.put_register.ensures (row_made_set (made c.args.values.now) (register_kind G) 0 c.args.state.now.registers.items at c.args.number a.registers number);
      cells = a.cells;
      steps = a.steps;
    }

pub returns-in-Register-clause-follows : goal.returns-in-Register-clause-follows
returns-in-Register-clause-follows g c = λ m s x served hv at0.
    let shows = g.V.Values.shows in
    let G = g.O.RunSetting.setting c.args.out.now in
    let K = number_kind (G.typing.type_at c.args.k) in
    let y = converted (G.typing.type_at c.args.k) x in
    let at = c.in-Register.at in
    let e : target_at G c.args.k ≡ in_register at = sym c.target_at.ensures ∙ ap target_shown c.in-Register.is in
    let suits : register_kind G at ≡ K = subst (λ (t : Target). Suits G t K) e c.requires.suits in
    let number = subst (λ (j : IntKind). shows c.args.values.now m j c.args.number y) (sym (ap (register_kind G) (zero_then at) ∙ suits)) hv in
    record {
      standing = record s { numbers = set s.numbers at y };
      stands = record {
        guard = at0.guard;
        broken = at0.broken;
        continued = at0.continued;
        numbers = rw c.put_register.ensures (row_set (shows c.args.values.now m) (register_kind G) 0 c.args.state.now.registers.items s.numbers at c.args.number y at0.numbers number);
        kept = at0.kept;
        events = at0.events;
      };
      is = register_with G (g.O.WalkSetting.under c.args.out.now m) c.args.k at x s e;
    }

pub store_cell-requires-clause-row : goal.store_cell-requires-clause-row
store_cell-requires-clause-row g c =
    let G = g.O.RunSetting.setting c.args.out.now in
    let K = number_kind (G.typing.type_at c.args.k) in
    let at = c.in-Kept.at in
    let e : target_at G c.args.k ≡ in_kept at = sym c.target_at.ensures ∙ ap target_shown c.in-Kept.is in
    let suits : cell_kind G at ≡ K = subst (λ (t : Target). Suits G t K) e c.requires.suits in
    (cell_kind G, suits ∙ sym c.kind_at-kind.ensures, c.requires.made.cells)

pub returns-in_ok-store_cell-in-Kept-clause-made : goal.returns-in_ok-store_cell-in-Kept-clause-made
returns-in_ok-store_cell-in-Kept-clause-made g c =
    let made = g.V.Values.made in
    let G = g.O.RunSetting.setting c.args.out.now in
    let K = number_kind (G.typing.type_at c.args.k) in
    let at = c.in-Kept.at in
    let e : target_at G c.args.k ≡ in_kept at = sym c.target_at.ensures ∙ ap target_shown c.in-Kept.is in
    let suits : cell_kind G at ≡ K = subst (λ (t : Target). Suits G t K) e c.requires.suits in
    let still = is_made_still (made c.args.values.now) (made c.store_cell.new.values) c.store_cell.ensures.keeps.made_still G c.args.state.now c.requires.made in
    record {
      guard = still.guard;
      broken = still.broken;
      continued = still.continued;
      registers = still.registers;
      cells = c.in_ok-store_cell-in-Kept.ensures.made (cell_kind G) (suits ∙ sym c.kind_at-kind.ensures) c.requires.made.cells;
      steps = still.steps;
    }

pub returns-in_ok-store_cell-in-Kept-clause-follows : goal.returns-in_ok-store_cell-in-Kept-clause-follows
returns-in_ok-store_cell-in-Kept-clause-follows g c = λ m s x served hv at0.
    let shows = g.V.Values.shows in
    let G = g.O.RunSetting.setting c.args.out.now in
    let K = number_kind (G.typing.type_at c.args.k) in
    let y = converted (G.typing.type_at c.args.k) x in
    let at = c.in-Kept.at in
    let e : target_at G c.args.k ≡ in_kept at = sym c.target_at.ensures ∙ ap target_shown c.in-Kept.is in
    let suits : cell_kind G at ≡ K = subst (λ (t : Target). Suits G t K) e c.requires.suits in
    let number = subst (λ (j : IntKind). shows c.args.values.now m j c.args.number y) (sym c.kind_at-kind.ensures) hv in
    let now = shows c.store_cell.new.values m in
    let still = stands_still (shows c.args.values.now m) now (c.store_cell.ensures.keeps.shown m) G c.args.state.now s at0 in
    record {
      standing = moved_to s.numbers (set s.kept at (Some y)) s;
      stands = record {
        guard = still.guard;
        broken = still.broken;
        continued = still.continued;
        numbers = subst (λ (xs : List ℤ). RowShows now (register_kind G) 0 c.args.state.now.registers.items xs) (if_same s.alive s.numbers) still.numbers;
        kept = c.in_ok-store_cell-in-Kept.ensures.shown m (cell_kind G) s.alive y s.kept served (suits ∙ sym c.kind_at-kind.ensures) at0.guard number at0.kept;
        events = still.events;
      };
      is = kept_with G (g.O.WalkSetting.under c.args.out.now m) c.args.k at x s e;
    }

pub returns-in-Register-clause-cost : goal.returns-in-Register-clause-cost
returns-in-Register-clause-cost g c =
    let G = g.O.RunSetting.setting c.args.out.now in
    let e : target_at G c.args.k ≡ in_register c.in-Register.at = sym c.target_at.ensures ∙ ap target_shown c.in-Register.is in
    rw e costs_none

pub returns-in_ok-store_cell-in-Kept-clause-cost : goal.returns-in_ok-store_cell-in-Kept-clause-cost
returns-in_ok-store_cell-in-Kept-clause-cost g c =
    let G = g.O.RunSetting.setting c.args.out.now in
    let e : target_at G c.args.k ≡ in_kept c.in-Kept.at = sym c.target_at.ensures ∙ ap target_shown c.in-Kept.is in
    let stored = rw c.kind_at-kind.ensures at c.in_ok-store_cell-in-Kept.ensures.cost in
    rw e (stored (length G.kept))

pub returns-in-Object-clause-cost : goal.returns-in-Object-clause-cost
returns-in-Object-clause-cost g c =
    let G = g.O.RunSetting.setting c.args.out.now in
    let e : target_at G c.args.k ≡ in_object c.in-Object.field-0 = sym c.target_at.ensures ∙ ap target_shown c.in-Object.is in
    rw e costs_none

pub returns-in_ok-forget-in-Unnamed-clause-cost : goal.returns-in_ok-forget-in-Unnamed-clause-cost
returns-in_ok-forget-in-Unnamed-clause-cost g c =
    let G = g.O.RunSetting.setting c.args.out.now in
    let e : target_at G c.args.k ≡ unnamed = sym c.target_at.ensures ∙ ap target_shown c.in-Unnamed.is in
    rw e (c.in_ok-forget-in-Unnamed.ensures.cost (length G.kept))
