-- The range that is found has 1 to 128 digits.
use Rattle.v_header.proofs.ParameterLemmas.Found.{widths_wanted}
use Rattle.v_header.proofs.parameter.one.found.Goals as goal

pub returns-clause-narrow : goal.returns-clause-narrow
returns-clause-narrow c =
    widths_wanted _ _ _ c.in_ok-range.range c.in_ok-value.value c.both.result c.wants.result c.in_ok-range.ensures.narrow c.both.ensures c.wants.ensures
