-- The scene knows the values of all names of the rows' task.
use Rattle.std.proofs.Common.{◌≡◌, lit<, refl, sym, subst, arith}
use Rattle.py_evaluate.specs.Attribute.Look.{Names}
use Rattle.py_evaluate.specs.Attribute.Knows.{KnowsNames, KnowsClock}
use Rattle.value_tests.specs.Expressions.Scene.{seen}
use Rattle.value_tests.specs.Expressions.Variables.{task_names}
use Rattle.value_tests.proofs.ExpressionsLemmas.Names.{EachKnown, names_known}

-- its clock of 5 steps a half
clock_known : KnowsClock seen (record { 0 = 1 }) 5
clock_known = record { signal = (lit< tt, lit< tt); bit = refl; steps = (omega arith, omega arith) }

each_known : EachKnown seen task_names
each_known = (
  (lit< tt, lit< tt),
  (
    tt,
    (
      tt,
      (
        tt,
        (
          tt,
          (
            tt,
            (
              tt,
              (
                tt,
                (
                  (lit< tt, lit< tt),
                  (
                    (lit< tt, lit< tt),
                    (
                      tt,
                      (lit< tt, (lit< tt, (lit< tt, (lit< tt, (lit< tt, (lit< tt, (clock_known, (tt, (lit< tt, (lit< tt, tt)))))))))),
                    ),
                  ),
                ),
              ),
            ),
          ),
        ),
      ),
    ),
  ),
)

pub task_names_known : (names : Names) → names ≡ task_names → KnowsNames seen names
task_names_known names e = subst (λ ns. KnowsNames seen ns) (sym e) (names_known seen task_names each_known)
