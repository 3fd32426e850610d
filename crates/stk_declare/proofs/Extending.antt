-- Names that grow: entries with some behind them.
use Rattle.std.proofs.Common.{◌≡◌, ◌∙◌, ◌++◌, List, [], ◌∷◌, Option, Result, Ok, Err, OnOk, OnErr, refl, sym, ap, subst, append_assoc, append-nil}
use Rattle.std.specs.Prelude.{IsSome}
use Rattle.stk_ctype.specs.declared.symbol.NameEntry.{NameEntry}
use Rattle.stk_ctype.specs.declared.symbol.MemberInfo.{MemberInfo}
use Rattle.stk_ctype.specs.Types.{TypeTree, type_of}
use Rattle.stk_ctype.specs.Structs.{Structs, structs_of, size_of}
use Rattle.stk_ctype.specs.Sound.{IsSound, Keeps}
use Rattle.stk_declare.specs.Answers.{Extends}
use Rattle.stk_declare.specs.Members.{AreComplete}

pub keeps_same : (s : Structs) → Keeps s s
keeps_same s = record { sound = λ t h. h; sizes = λ t h. refl }

pub extends_same : (es now : List NameEntry) → now ≡ es → Extends es now
extends_same es now is = subst (λ (z : List NameEntry). Extends es z) (sym is) (record { behind = []; is = sym (append-nil es); keeps = keeps_same (structs_of es) })

pub extends_self : (es : List NameEntry) → Extends es es
extends_self es = extends_same es es refl

still_some : {A : Type 0} (a b : Option A) → b ≡ a → IsSome a → IsSome b
still_some a b is some = subst (λ (z : Option _). IsSome z) (sym is) some

pub extends_twice : (a b c : List NameEntry) → Extends a b → Extends b c → Extends a c
extends_twice a b c h k = record {
  behind = h.behind ++ k.behind;
  is = k.is ∙ ap (λ (z : List NameEntry). z ++ k.behind) h.is ∙ append_assoc a h.behind k.behind;
  keeps = record {
    sound = λ t so. k.keeps.sound t (h.keeps.sound t so);
    sizes = λ t some. k.keeps.sizes t (still_some (size_of (structs_of a) t) (size_of (structs_of b) t) (h.keeps.sizes t some) some) ∙ h.keeps.sizes t some;
  };
}

pub extends_one : {E : Type 0} (r : Result (Unit {0}) E) (old new : List NameEntry) (e : NameEntry) → OnOk r (new ≡ old ++ e ∷ []) → OnOk r (Keeps (structs_of old) (structs_of new)) → OnErr r (new ≡ old) → Extends old new
extends_one (Ok u) old new e added keeps kept = record { behind = e ∷ []; is = added; keeps = keeps }
extends_one (Err x) old new e added keeps kept = extends_same old new kept

-- a sound type stays so
pub sound_kept : (old new : List NameEntry) (t : TypeTree) → Extends old new → IsSound (structs_of old) t → IsSound (structs_of new) t
sound_kept old new t h so = h.keeps.sound t so

-- members that are complete stay so
pub complete_kept : (old new : List NameEntry) (ms : List MemberInfo) → Extends old new → AreComplete (structs_of old) ms → AreComplete (structs_of new) ms
complete_kept old new [] h all = tt
complete_kept old new (m ∷ ms) h all =
    ((h.keeps.sound (type_of m.ty) all.0.0, still_some (size_of (structs_of old) (type_of m.ty)) (size_of (structs_of new) (type_of m.ty)) (h.keeps.sizes (type_of m.ty) all.0.1) all.0.1), complete_kept old new ms h all.1)

pub ruleset extending = (extends_same, extends_self, extends_twice, sound_kept, complete_kept)
