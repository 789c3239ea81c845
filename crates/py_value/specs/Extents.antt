-- A means of proof: how many leaves triggers have and how deep they are, where all counts over the limits are alike.
use Rattle.std.specs.Prelude.{ℕ, ◌+◌, min, max}
use Rattle.py_value.specs.declared.limits.Extent.{Extent}
use Rattle.py_value.specs.Limits.{leaf_limit, depth_limit}
use Rattle.py_value.specs.Trigger.{Trig, Form, Trigs, form_of, form_leaves, form_depth, row_leaves, row_depth}

-- the least count over both limits
abbrev pub least_over : ℕ
least_over = max leaf_limit depth_limit + 1

abbrev pub cut : ℕ → ℕ
cut n = min n least_over

abbrev pub extent : Form → Extent
extent form = record { leaves = cut (form_leaves form); depth = cut (form_depth form) }

abbrev pub trig_extent : Trig → Extent
trig_extent t = extent (form_of t)

abbrev pub row_extent : Trigs → Extent
row_extent ts = record { leaves = cut (row_leaves ts); depth = cut (row_depth ts) }

-- around something, with so many leaves besides
abbrev pub around : Extent → ℕ → Extent
around inside n = record { leaves = cut (inside.leaves + n); depth = cut (inside.depth + 1) }

abbrev pub beside : Extent → Extent → Extent
beside a b = record { leaves = cut (a.leaves + b.leaves); depth = max a.depth b.depth }
