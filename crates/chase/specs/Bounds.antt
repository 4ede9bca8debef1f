-- The most objects of a candidate, from the limits of records (document 01, the ground of the bound of 480), and the most
-- facts of so many objects.
use Rattle.std.specs.Prelude.{ℕ, zero, suc, ◌+◌, ◌*◌}
use Rattle.records.specs.declared.schema.Signature.{Signature}
use Rattle.records.specs.Layout.{query_steps, view_steps, max_constants, max_marks}

-- 0 + 1 + .. + n
abbrev pub tri : ℕ → ℕ
tri zero = zero
tri (suc n) = tri n + suc n

-- the steps of a query, its start, and the constants
abbrev pub max_nodes : ℕ
max_nodes = query_steps + 1 + max_constants

-- those, and for each of them what is made for stretches of the view's steps
abbrev pub max_forest : ℕ
max_forest = max_nodes + max_nodes * tri view_steps

-- and the closing object
abbrev pub max_candidate : ℕ
max_candidate = max_forest + 1

-- each object is in each class at most, and has, beside the query's pairs, one value of each attribute; each constant and each
-- mark has an object
abbrev pub most_facts : Signature → ℕ → ℕ → ℕ
most_facts s objects pairs = s.classes * objects + (s.attributes * objects + pairs) + s.constants + max_marks
