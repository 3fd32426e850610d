-- What the code's words at the head of a term are.
use Rattle.stk_scripts.specs.Reading as reading
use Rattle.stk_script_trees.specs.declared.heads.Head.{Head}
use Rattle.stk_script_trees.specs.declared.heads.Head.TheVariants as head
use Rattle.stk_script_trees.specs.declared.heads.Index.{Index}
use Rattle.stk_script_trees.specs.declared.heads.Index.TheVariants as index

abbrev pub head_shown : Head → reading.Head
head_shown head.Literal = reading.literal_head
head_shown (head.Unary op) = reading.unary_head op
head_shown (head.Binary op) = reading.binary_head op
head_shown head.Concat = reading.concat_head
head_shown head.Ite = reading.ite_head

abbrev pub index_shown : Index → reading.Index
index_shown index.Extract = reading.extract_index
index_shown (index.Extend op) = reading.extend_index op
