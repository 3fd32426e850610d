-- Path runs: each load, each call, each register without initialiser and each address takes its number from an input
-- map, but a kept object that has a kept number gives that; a loop turns once, from registers that the map gives (Wang,
-- Zeldovich, Kaashoek, Solar-Lezama, SOSP 2013, section 4.3, whose loops are unrolled once).
use Rattle.std.specs.Prelude.{ℕ, ◌+◌, ◌==◌, Bool, true, false, ◌&&◌, if◌then◌else◌, List, [], ◌∷◌, length, map, get_or, set, replicate, Option, Some, None, ℤ, pos}
use Rattle.stk_tree.specs.Syntax.{FunctionTree}
use Rattle.stk_numbers.specs.declared.conditions.Kinds.{Kinds}
use Rattle.stk_type_rules.specs.Types.{is_void}
use Rattle.stk_meaning.specs.declared.entry.Entry.{Entry}
use Rattle.stk_meaning.specs.Typings.{Typing, declarator_node, statement_node}
use Rattle.stk_meaning.specs.Operations.{to_address}
use Rattle.stk_meaning.specs.Places.{Setting, Target, in_register, in_kept, in_object, unnamed}
use Rattle.stk_meaning.specs.Worlds.{World, trace_of, Ran, Flow}
use Rattle.stk_meaning.specs.Statements.{statement_run}
use Rattle.stk_meaning.specs.Keys.{Key, parameter_key, address_key, unset_key, load_key, call_key, loop_key, KeyInfo, keys_of, setting_of, register_parameters, body_of}

-- an input map: a number for each key
abbrev pub InputMap : Type 0
InputMap = Key → ℤ

-- the numbers that are kept, by the positions of the kept objects
abbrev pub KeptNumbers : Type 0
KeptNumbers = List (Option ℤ)

abbrev pub forgotten_from : ℕ → (ℕ → Bool) → KeptNumbers → KeptNumbers
forgotten_from i test [] = []
forgotten_from i test (x ∷ xs) = (if test i then None else x) ∷ forgotten_from (i + 1) test xs

-- kept numbers without those that a test names, and without all
abbrev pub forgotten : (ℕ → Bool) → KeptNumbers → KeptNumbers
forgotten test kept = forgotten_from 0 test kept

abbrev pub all_forgotten : KeptNumbers → KeptNumbers
all_forgotten kept = forgotten (λ q. true) kept

-- the kept number of an object; or else another, which is then kept
abbrev pub kept_or : ℕ → ℤ → Option ℤ → KeptNumbers → ℤ × KeptNumbers
kept_or q x None kept = (x, set kept q (Some x))
kept_or q x (Some y) kept = (y, kept)

-- a read at a node, and a store: by the name of a place alone, and never by its address
abbrev pub path_load : InputMap → Target → ℕ → KeptNumbers → ℤ × KeptNumbers
path_load inputs (in_register i) k kept = (inputs (load_key k), kept)
path_load inputs (in_kept q) k kept = kept_or q (inputs (load_key k)) (get_or kept q None) kept
path_load inputs (in_object o) k kept = (inputs (load_key k), kept)
path_load inputs unnamed k kept = (inputs (load_key k), kept)

abbrev pub path_store : Target → ℤ → KeptNumbers → KeptNumbers
path_store (in_register i) x kept = kept
path_store (in_kept q) x kept = set kept q (Some x)
path_store (in_object o) x kept = kept
path_store unnamed x kept = all_forgotten kept

-- the registers of a loop, set to the map's numbers
abbrev pub reset_all : InputMap → ℕ → List ℕ → List ℤ → List ℤ
reset_all inputs k [] r = r
reset_all inputs k (j ∷ js) r = reset_all inputs k js (set r j (inputs (loop_key k j)))

-- the world of a path run: its state are the kept numbers
abbrev pub path_world : InputMap → World KeptNumbers
path_world inputs = record {
  address = λ o. to_address (inputs (address_key o));
  load = λ target k kind a kept. path_load inputs target k kept;
  store = λ target kind a x kept. path_store target x kept;
  call = λ k t kept. Some (if is_void t then pos 0 else inputs (call_key k), all_forgotten kept);
  write = λ kept. Some (all_forgotten kept);
  unset = λ k kind kept. Some (inputs (unset_key k), kept);
  begin_kept = λ q kept. set kept q None;
  reset = λ k js r. reset_all inputs k js r;
  forget = λ test kept. forgotten test kept;
  turns = 1;
}

-- registers by the numbers of their declarators, all of which are below the number of the body; those of parameters
-- have their numbers
abbrev pub with_parameters : List ℕ → (ℕ → ℤ) → List ℤ → List ℤ
with_parameters [] numbers r = r
with_parameters (k ∷ ks) numbers r = with_parameters ks numbers (set r k (numbers k))

abbrev pub start_registers : Typing → FunctionTree → (ℕ → ℤ) → List ℤ
start_registers ty f numbers = with_parameters (map declarator_node (register_parameters ty f)) numbers (replicate (statement_node (body_of f)) (pos 0))

-- the run of a function in a world (C11 6.9.1)
abbrev pub function_run : {S : Type 0} → Setting → World S → FunctionTree → (ℕ → ℤ) → S → Ran Flow S
function_run g w f numbers m = statement_run g w (body_of f) (start_registers g.typing f numbers) m

-- a path run: it begins with no kept number
abbrev pub path_ran : Setting → FunctionTree → InputMap → Ran Flow KeptNumbers
path_ran g f inputs = function_run g (path_world inputs) f (λ k. inputs (parameter_key k)) (replicate (length g.kept) None)

-- whether a key is the one of a form at a node
abbrev pub is_parameter : ℕ → Key → Bool
is_parameter k (parameter_key i) = k == i
is_parameter k (address_key i) = false
is_parameter k (unset_key i) = false
is_parameter k (load_key i) = false
is_parameter k (call_key i) = false
is_parameter k (loop_key i l) = false

abbrev pub is_address : ℕ → Key → Bool
is_address k (parameter_key i) = false
is_address k (address_key i) = k == i
is_address k (unset_key i) = false
is_address k (load_key i) = false
is_address k (call_key i) = false
is_address k (loop_key i l) = false

abbrev pub is_unset : ℕ → Key → Bool
is_unset k (parameter_key i) = false
is_unset k (address_key i) = false
is_unset k (unset_key i) = k == i
is_unset k (load_key i) = false
is_unset k (call_key i) = false
is_unset k (loop_key i l) = false

abbrev pub is_load : ℕ → Key → Bool
is_load k (parameter_key i) = false
is_load k (address_key i) = false
is_load k (unset_key i) = false
is_load k (load_key i) = k == i
is_load k (call_key i) = false
is_load k (loop_key i l) = false

abbrev pub is_call : ℕ → Key → Bool
is_call k (parameter_key i) = false
is_call k (address_key i) = false
is_call k (unset_key i) = false
is_call k (load_key i) = false
is_call k (call_key i) = k == i
is_call k (loop_key i l) = false

abbrev pub is_loop : ℕ → ℕ → Key → Bool
is_loop k j (parameter_key i) = false
is_loop k j (address_key i) = false
is_loop k j (unset_key i) = false
is_loop k j (load_key i) = false
is_loop k j (call_key i) = false
is_loop k j (loop_key i l) = k == i && j == l

-- whether two keys are one
abbrev pub same_key : Key → Key → Bool
same_key (parameter_key k) other = is_parameter k other
same_key (address_key k) other = is_address k other
same_key (unset_key k) other = is_unset k other
same_key (load_key k) other = is_load k other
same_key (call_key k) other = is_call k other
same_key (loop_key k j) other = is_loop k j other

-- the number of a key, where the numbers of a list are those of keys in order; 0 for a key that isn't there
abbrev pub number_under : List KeyInfo → List ℤ → InputMap
number_under [] xs key = pos 0
number_under (k ∷ ks) [] key = pos 0
number_under (k ∷ ks) (x ∷ xs) key = if same_key k.key key then x else number_under ks xs key

-- the trace of the path run of a function for these numbers of its keys
abbrev pub path : Typing → Kinds → FunctionTree → List ℤ → List Entry
path ty without f numbers = trace_of (path_ran (setting_of ty without f) f (number_under (keys_of ty without f) numbers))
