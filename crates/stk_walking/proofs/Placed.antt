-- The state of a walk where its registers or its kept objects are others.
use Rattle.std.proofs.Common.{◌≡◌, Bool, true, false, List, ℤ, refl, sym, subst}
use Rattle.std.specs.Prelude.{if◌then◌else◌}
use Rattle.std.specs.Global.{Vec}
use Rattle.stk_ctype.specs.declared.kind.IntKind.{IntKind}
use Rattle.stk_ctype.specs.declared.kind.IntKind.TheVariants.{Int}
use Rattle.stk_meaning.specs.Operations.{bit}
use Rattle.stk_meaning.specs.Places.{Setting}
use Rattle.stk_meaning.specs.Paths.{KeptNumbers}
use Rattle.stk_kinded.specs.Kinds.{register_kind, cell_kind}
use Rattle.stk_guarded.specs.Standing.{Standing, moved_to}
use Rattle.stk_walking.specs.declared.state.KeptCell.{KeptCell}
use Rattle.stk_walking.specs.declared.state.WalkState.{WalkState}
use Rattle.stk_walking.specs.Events.{events_of}
use Rattle.stk_walking.specs.Stands.{RowShows, CellsShow, Stands, RowMade, CellsMade, IsMade}
use Rattle.stk_walking.proofs.Carried.{row_made, cells_made, steps_made, row_shown, cells_shown, live_shown}

same_if : {A : Type 0} (c : Bool) (x : A) → (if c then x else x) ≡ x
same_if true x = refl
same_if false x = refl

-- other kept objects
pub made_with_cells : {V : Type 0} (f h : IntKind → V → Type 0) → ((k : IntKind) (v : V) → f k v → h k v) → (g : Setting) (w : WalkState V) (cells : Vec (KeptCell V)) → IsMade f g w → CellsMade h (cell_kind g) 0 cells.items → IsMade h g (record w { cells = cells })
made_with_cells f h keep g w cells a n = record {
  guard = keep Int w.guard a.guard;
  broken = keep Int w.broken a.broken;
  continued = keep Int w.continued a.continued;
  registers = row_made f h keep (register_kind g) 0 w.registers.items a.registers;
  cells = n;
  steps = steps_made f h keep w.steps.items a.steps;
}

pub stands_with_cells : {V : Type 0} (f h : IntKind → V → ℤ → Type 0) → ((k : IntKind) (v : V) (z : ℤ) → f k v z → h k v z) → (g : Setting) (w : WalkState V) (cells : Vec (KeptCell V)) (s : Standing) (kept : KeptNumbers) → Stands f g w s → CellsShow h (cell_kind g) 0 cells.items (if s.alive then kept else s.kept) →
    Stands h g (record w { cells = cells }) (moved_to s.numbers kept s)
stands_with_cells f h keep g w cells s kept a n = record {
  guard = keep Int w.guard (bit s.alive) a.guard;
  broken = keep Int w.broken (bit s.broken) a.broken;
  continued = keep Int w.continued (bit s.continued) a.continued;
  numbers = subst (RowShows h (register_kind g) 0 w.registers.items) (sym (same_if s.alive s.numbers)) (row_shown f h keep (register_kind g) 0 w.registers.items s.numbers a.numbers);
  kept = n;
  events = live_shown (f Int) (h Int) (keep Int) w.steps.items (events_of s.entries) a.events;
}

-- other registers
pub made_with_registers : {V : Type 0} (f h : IntKind → V → Type 0) → ((k : IntKind) (v : V) → f k v → h k v) → (g : Setting) (w : WalkState V) (registers : Vec V) → IsMade f g w → RowMade h (register_kind g) 0 registers.items → IsMade h g (record w { registers = registers })
made_with_registers f h keep g w registers a n = record {
  guard = keep Int w.guard a.guard;
  broken = keep Int w.broken a.broken;
  continued = keep Int w.continued a.continued;
  registers = n;
  cells = cells_made f h keep (cell_kind g) 0 w.cells.items a.cells;
  steps = steps_made f h keep w.steps.items a.steps;
}

pub stands_with_registers : {V : Type 0} (f h : IntKind → V → ℤ → Type 0) → ((k : IntKind) (v : V) (z : ℤ) → f k v z → h k v z) → (g : Setting) (w : WalkState V) (registers : Vec V) (s : Standing) (r : List ℤ) → Stands f g w s → RowShows h (register_kind g) 0 registers.items (if s.alive then r else s.numbers) →
    Stands h g (record w { registers = registers }) (moved_to r s.kept s)
stands_with_registers f h keep g w registers s r a n = record {
  guard = keep Int w.guard (bit s.alive) a.guard;
  broken = keep Int w.broken (bit s.broken) a.broken;
  continued = keep Int w.continued (bit s.continued) a.continued;
  numbers = n;
  kept = subst (CellsShow h (cell_kind g) 0 w.cells.items) (sym (same_if s.alive s.kept)) (cells_shown f h keep (cell_kind g) 0 w.cells.items s.kept a.kept);
  events = live_shown (f Int) (h Int) (keep Int) w.steps.items (events_of s.entries) a.events;
}
