-- Registers, memory objects, and what an expression is as a place by name (C11 6.3.2.1p1, 6.5.1, 6.5.2.3).
use Rattle.std.specs.Prelude.{ℕ, ◌+◌, ◌==◌, if◌then◌else◌, List, [], ◌∷◌, Option, Some, None, unwrap_or}
use Rattle.stk_base.specs.declared.span.Span.{Span}
use Rattle.stk_base.specs.Text.{text_of, same_text}
use Rattle.stk_tree.specs.Syntax.{ExprTree, ExprFormTree}
use Rattle.stk_tree.specs.Syntax as s
use Rattle.stk_numbers.specs.declared.conditions.Kinds.{Kinds}
use Rattle.stk_meaning.specs.Typings.{Typing, is_among}

-- the first evaluated name of an object of file scope: its text and its node
pub record Mention : Type 0 where
  pub name : List ℕ
  pub node : ℕ

-- What a function's runs rest on: what typing answers; the kinds of conditions that are taken out; the declarators of
-- its registers, in order; the first mentions of objects of file scope; and its kept objects, each by the node of its
-- address, in order.
pub record Setting : Type 0 where
  pub typing : Typing
  pub without : Kinds
  pub registers : List ℕ
  pub mentions : List Mention
  pub kept : List ℕ

-- the node at which a name of file scope is first mentioned
abbrev pub mentioned_in : List ℕ → List Mention → Option ℕ
mentioned_in name [] = None
mentioned_in name (m ∷ ms) = if same_text m.name name then Some m.node else mentioned_in name ms

-- the object or register that a name means: the declarator of a parameter or a local object, or else the node of the
-- first mention
abbrev pub object_named : Setting → ℕ → Span → ℕ
object_named g k at = unwrap_or (g.typing.means k) (unwrap_or (mentioned_in (text_of g.typing.bytes at) g.mentions) k)

-- what a place is by name: a register, by its declarator; a kept object, by its position among these; another object,
-- by the node of its address, or a member of it; or none of these
pub data Target : Type 0 where
  in_register : ℕ → Target
  in_kept : ℕ → Target
  in_object : ℕ → Target
  unnamed : Target

-- the position of a number among some that begin at a position
abbrev pub position_behind : ℕ → ℕ → List ℕ → Option ℕ
position_behind i k [] = None
position_behind i k (j ∷ js) = if k == j then Some i else position_behind (i + 1) k js

-- an object in memory
abbrev pub object_target : ℕ → Option ℕ → Target
object_target k None = in_object k
object_target k (Some q) = in_kept q

-- what a declarator or a first mention stands for
abbrev pub target_at : Setting → ℕ → Target
target_at g k = if is_among k g.registers then in_register k else object_target k (position_behind 0 k g.kept)

-- a member of a place: no register and no kept object has members
abbrev pub member_target : Target → Target
member_target (in_register k) = unnamed
member_target (in_kept q) = unnamed
member_target (in_object k) = in_object k
member_target unnamed = unnamed

-- a place by name is a name, or a member of a place by name, parentheses aside
abbrev mutual
  pub target_of : Setting → ExprTree → Target
  target_of g (s.expression n f) = form_target g n.number f

  pub form_target : Setting → ℕ → ExprFormTree → Target
  form_target g k (s.name at) = target_at g (object_named g k at)
  form_target g k (s.number at) = unnamed
  form_target g k (s.character at) = unnamed
  form_target g k (s.text parts) = unnamed
  form_target g k (s.paren e) = target_of g e
  form_target g k (s.index a b) = unnamed
  form_target g k (s.call e es) = unnamed
  form_target g k (s.dot e at) = member_target (target_of g e)
  form_target g k (s.arrow e at) = unnamed
  form_target g k (s.step op e) = unnamed
  form_target g k (s.unary op e) = unnamed
  form_target g k (s.size_expression e) = unnamed
  form_target g k (s.size_name t) = unnamed
  form_target g k (s.cast t e) = unnamed
  form_target g k (s.binary op a b) = unnamed
  form_target g k (s.choice a b c) = unnamed
  form_target g k (s.assign op a b) = unnamed

-- the position of the kept object that a name means, parentheses aside
abbrev pub kept_target : Target → Option ℕ
kept_target (in_register k) = None
kept_target (in_kept q) = Some q
kept_target (in_object k) = None
kept_target unnamed = None

abbrev pub kept_at : Setting → ExprTree → Option ℕ
kept_at g e = kept_target (target_of g e)
