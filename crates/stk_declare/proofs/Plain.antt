-- Bases without braces declare no more than the tags that they use.
use Rattle.std.proofs.Common.{◌≡◌, ◌∙◌, ◌⊎◌, inl, inr, ℕ, List, sym, ap}
use Rattle.stk_base.specs.declared.span.Span.{Span}
use Rattle.stk_ctype.specs.declared.symbol.NameEntry.{NameEntry}
use Rattle.stk_tree.specs.declared.fixed.Fixed.{Fixed}
use Rattle.stk_tree.specs.declared.declaration.Base.{Base, out-Base}
use Rattle.stk_tree.specs.declared.declaration.BaseForm.{BaseForm}
use Rattle.stk_tree.specs.declared.declaration.BaseForm.TheVariants as form
use Rattle.stk_tree.specs.Syntax.{BaseFormTree, BaseTree}
use Rattle.stk_tree.specs.Syntax as s
use Rattle.stk_tree.specs.View.{view_base, view_base_form}
use Rattle.stk_declare.specs.Bases.{base_plainly_declared, plain_declared}
use Rattle.stk_declare.specs.Structs.{base_declared, form_declared}
use Rattle.stk_declare.proofs.Views.{view_base_node, view_enum_ref, view_named, view_struct_ref, view_words}

abbrev pub IsPlain : BaseForm → Type 0
IsPlain f = ((ws : List Fixed) × (f ≡ form.Words ws)) ⊎ (((at : Span) × (f ≡ form.StructRef at)) ⊎ (((at : Span) × (f ≡ form.EnumRef at)) ⊎ ((at : Span) × (f ≡ form.Named at))))

form_plainly : (bytes : List ℕ) (es : List NameEntry) (k : ℕ) (f : BaseForm) → IsPlain f → form_declared bytes es k (view_base_form f) ≡ plain_declared bytes es k (view_base_form f)
form_plainly bytes es k f (inl (ws, is)) = let v : view_base_form f ≡ s.words ws = ap view_base_form is ∙ view_words ws in ap (λ (t : BaseFormTree). form_declared bytes es k t) v ∙ sym (ap (λ (t : BaseFormTree). plain_declared bytes es k t) v)
form_plainly bytes es k f (inr (inl (at, is))) = let v : view_base_form f ≡ s.struct_ref at = ap view_base_form is ∙ view_struct_ref at in ap (λ (t : BaseFormTree). form_declared bytes es k t) v ∙ sym (ap (λ (t : BaseFormTree). plain_declared bytes es k t) v)
form_plainly bytes es k f (inr (inr (inl (at, is)))) = let v : view_base_form f ≡ s.enum_ref at = ap view_base_form is ∙ view_enum_ref at in ap (λ (t : BaseFormTree). form_declared bytes es k t) v ∙ sym (ap (λ (t : BaseFormTree). plain_declared bytes es k t) v)
form_plainly bytes es k f (inr (inr (inr (at, is)))) = let v : view_base_form f ≡ s.named at = ap view_base_form is ∙ view_named at in ap (λ (t : BaseFormTree). form_declared bytes es k t) v ∙ sym (ap (λ (t : BaseFormTree). plain_declared bytes es k t) v)

pub plainly : (bytes : List ℕ) (es : List NameEntry) (b : Base) → IsPlain (out-Base b).form → base_declared bytes es (view_base b) ≡ base_plainly_declared bytes es (view_base b)
plainly bytes es b h =
    ap (λ (t : BaseTree). base_declared bytes es t) (view_base_node b) ∙ form_plainly bytes es (out-Base b).node.number (out-Base b).form h ∙ sym (ap (λ (t : BaseTree). base_plainly_declared bytes es t) (view_base_node b))
