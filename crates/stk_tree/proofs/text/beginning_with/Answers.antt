use Rattle.std.proofs.Common.{◌≡◌, ℕ, ap, sym, rules}
use Rattle.std.specs.List.{filter}
use Rattle.stk_tree.specs.Spelling.{begins, every}
use Rattle.stk_tree.proofs.Firsts.{none_begins}
use Rattle.stk_tree.proofs.text.beginning_with.Goals as goal

chosen : (first byte : ℕ) → first ≡ byte → filter (begins byte) every ≡ filter (begins first) every
chosen first byte same = sym (ap (λ b. filter (begins b) every) same)

pub returns-in-97 : goal.returns-in-97
returns-in-97 c = chosen _ 97 c.in-97.is

pub returns-in-98 : goal.returns-in-98
returns-in-98 c = chosen _ 98 c.in-98.is

pub returns-in-99 : goal.returns-in-99
returns-in-99 c = chosen _ 99 c.in-99.is

pub returns-in-100 : goal.returns-in-100
returns-in-100 c = chosen _ 100 c.in-100.is

pub returns-in-101 : goal.returns-in-101
returns-in-101 c = chosen _ 101 c.in-101.is

pub returns-in-102 : goal.returns-in-102
returns-in-102 c = chosen _ 102 c.in-102.is

pub returns-in-103 : goal.returns-in-103
returns-in-103 c = chosen _ 103 c.in-103.is

pub returns-in-105 : goal.returns-in-105
returns-in-105 c = chosen _ 105 c.in-105.is

pub returns-in-108 : goal.returns-in-108
returns-in-108 c = chosen _ 108 c.in-108.is

pub returns-in-114 : goal.returns-in-114
returns-in-114 c = chosen _ 114 c.in-114.is

pub returns-in-115 : goal.returns-in-115
returns-in-115 c = chosen _ 115 c.in-115.is

pub returns-in-116 : goal.returns-in-116
returns-in-116 c = chosen _ 116 c.in-116.is

pub returns-in-117 : goal.returns-in-117
returns-in-117 c = chosen _ 117 c.in-117.is

pub returns-in-118 : goal.returns-in-118
returns-in-118 c = chosen _ 118 c.in-118.is

pub returns-in-119 : goal.returns-in-119
returns-in-119 c = chosen _ 119 c.in-119.is

pub returns-in-95 : goal.returns-in-95
returns-in-95 c = chosen _ 95 c.in-95.is

pub returns-in-91 : goal.returns-in-91
returns-in-91 c = chosen _ 91 c.in-91.is

pub returns-in-93 : goal.returns-in-93
returns-in-93 c = chosen _ 93 c.in-93.is

pub returns-in-40 : goal.returns-in-40
returns-in-40 c = chosen _ 40 c.in-40.is

pub returns-in-41 : goal.returns-in-41
returns-in-41 c = chosen _ 41 c.in-41.is

pub returns-in-123 : goal.returns-in-123
returns-in-123 c = chosen _ 123 c.in-123.is

pub returns-in-125 : goal.returns-in-125
returns-in-125 c = chosen _ 125 c.in-125.is

pub returns-in-46 : goal.returns-in-46
returns-in-46 c = chosen _ 46 c.in-46.is

pub returns-in-45 : goal.returns-in-45
returns-in-45 c = chosen _ 45 c.in-45.is

pub returns-in-43 : goal.returns-in-43
returns-in-43 c = chosen _ 43 c.in-43.is

pub returns-in-38 : goal.returns-in-38
returns-in-38 c = chosen _ 38 c.in-38.is

pub returns-in-42 : goal.returns-in-42
returns-in-42 c = chosen _ 42 c.in-42.is

pub returns-in-126 : goal.returns-in-126
returns-in-126 c = chosen _ 126 c.in-126.is

pub returns-in-33 : goal.returns-in-33
returns-in-33 c = chosen _ 33 c.in-33.is

pub returns-in-47 : goal.returns-in-47
returns-in-47 c = chosen _ 47 c.in-47.is

pub returns-in-37 : goal.returns-in-37
returns-in-37 c = chosen _ 37 c.in-37.is

pub returns-in-60 : goal.returns-in-60
returns-in-60 c = chosen _ 60 c.in-60.is

pub returns-in-62 : goal.returns-in-62
returns-in-62 c = chosen _ 62 c.in-62.is

pub returns-in-61 : goal.returns-in-61
returns-in-61 c = chosen _ 61 c.in-61.is

pub returns-in-94 : goal.returns-in-94
returns-in-94 c = chosen _ 94 c.in-94.is

pub returns-in-124 : goal.returns-in-124
returns-in-124 c = chosen _ 124 c.in-124.is

pub returns-in-63 : goal.returns-in-63
returns-in-63 c = chosen _ 63 c.in-63.is

pub returns-in-58 : goal.returns-in-58
returns-in-58 c = chosen _ 58 c.in-58.is

pub returns-in-59 : goal.returns-in-59
returns-in-59 c = chosen _ 59 c.in-59.is

pub returns-in-44 : goal.returns-in-44
returns-in-44 c = chosen _ 44 c.in-44.is

pub returns-in_default : goal.returns-in_default
returns-in_default c = none_begins c.args.first (search rules)
