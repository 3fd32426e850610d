-- What reading a text tells of the scripts that it spells.
use Rattle.std.proofs.Common.{◌≡◌, ℕ, List, ap, sym, ◌∙◌, subst}
use Rattle.std.specs.Prelude.{Some, None, Result, Ok, Err, IfOk}
use Rattle.stk_scripts.specs.Syntax.{Script as Scripted}
use Rattle.stk_scripts.specs.Tokens.{script_tokens}
use Rattle.stk_scripts.specs.Texts.{Spells}
use Rattle.stk_scripts.specs.Lexing.{lexed, between}
use Rattle.stk_scripts.specs.Scripts.{IsScript}
use Rattle.stk_scripts.specs.Reading.{◌>>=◌}
use Rattle.stk_scripts.proofs.LexedSpells.{lexed_is_spelled, spelled_is_lexed}
use Rattle.stk_script_trees.specs.declared.fault.Fault.{Fault}
use Rattle.stk_script_trees.specs.declared.fault.Fault.TheVariants as fault
use Rattle.stk_script_trees.specs.declared.tree.Script.{Script}
use Rattle.stk_script_trees.specs.Commands.{read_tokens, read_text}
use Rattle.stk_script_trees.specs.Gives.{Gives, IsBad}
use Rattle.stk_script_trees.specs.Shallow.{IsShallow}
use Rattle.stk_script_trees.specs.View.{view_script}
use Rattle.stk_script_trees.proofs.Printed.{bind_some, read_prints}
use Rattle.stk_script_trees.proofs.ReadBack.{read_back}

some_is : {A : Type 0} (x y : A) → Some x ≡ Some y → x ≡ y
some_is x y e = cc

-- a script that a text is, is read
is_read : (bytes : List ℕ) (s : Scripted) → IsScript bytes s → read_text 400 bytes ≡ Some s
is_read bytes s i = ap (λ o. o >>= read_tokens 400) (spelled_is_lexed (script_tokens s) bytes i.spelled) ∙ read_back s i.formed

pub spelled_of : (bytes : List ℕ) (r : Result Script Fault) → Gives (view_script bytes) r (read_text 400 bytes) → IfOk r (λ t. Spells (script_tokens (view_script bytes t)) bytes)
spelled_of bytes (Ok t) e =
    let b = bind_some (lexed bytes between) (read_tokens 400) (view_script bytes t) e in
    subst (λ ts. Spells ts bytes) (read_prints 400 b.0 (view_script bytes t) b.2).0 (lexed_is_spelled b.0 bytes b.1)
spelled_of bytes (Err f) e = tt

pub shallow_of : (bytes : List ℕ) (r : Result Script Fault) → Gives (view_script bytes) r (read_text 400 bytes) → IfOk r (λ t. IsShallow 400 (view_script bytes t))
shallow_of bytes (Ok t) e =
    let b = bind_some (lexed bytes between) (read_tokens 400) (view_script bytes t) e in
    (read_prints 400 b.0 (view_script bytes t) b.2).1
shallow_of bytes (Err f) e = tt

pub only_of : (bytes : List ℕ) (r : Result Script Fault) → Gives (view_script bytes) r (read_text 400 bytes) → IfOk r (λ t. (s : Scripted) → IsScript bytes s → s ≡ view_script bytes t)
only_of bytes (Ok t) e = λ s i. some_is s (view_script bytes t) (sym (is_read bytes s i) ∙ e)
only_of bytes (Err f) e = tt

pub bad_of : (bytes : List ℕ) (r : Result Script Fault) → Gives (view_script bytes) r (read_text 400 bytes) → IsBad r → (s : Scripted) → IsScript bytes s → ⊥
bad_of bytes (Ok t) e b s i = absurd b
bad_of bytes (Err fault.Bad) e b s i = let k : None ≡ Some s = sym e ∙ is_read bytes s i in absurd cc
bad_of bytes (Err fault.NoMemory) e b s i = absurd cc
