-- The tests of a file (cocotb 1.8, `cocotb.test` and `TestFactory`).
use Rattle.std.specs.Prelude.{ℕ, suc, nat_lt, Bool, List, [], ◌∷◌, ◌++◌, map, Option, Some, None, option_map, codes, if◌then◌else◌}
use Rattle.std.specs.Fmt.{decimal}
use Rattle.std.specs.List.{flat_map, find}
use Rattle.std.specs.Option.{option_map_or, unwrap_or}
use Rattle.std.specs.Str.{bytes_eq}
use Rattle.py_syntax.specs.BlockTrees.{ModuleItem, LineAt, FunctionAt}
use Rattle.py_syntax.specs.ModuleTrees.{GenerateTests}
use Rattle.py_syntax.specs.StatementTables.{fault_of}
use Rattle.py_syntax.specs.declared.constant.Const.{Const}
use Rattle.py_syntax.specs.declared.constant.Const.TheVariants as constant
use Rattle.py_syntax.specs.declared.fault_kind.FaultKind.{FaultKind}
use Rattle.py_syntax.specs.declared.module.Parameter.{Parameter}
use Rattle.py_syntax.specs.declared.module.Setting.{Setting}
use Rattle.test_meaning.specs.Body.BodyTrees.{Case, Limit}
use Rattle.test_meaning.specs.Rules.File.{File, Definition, file_of, places, value_in, choices, made_by, is_test, further, next_function}
use Rattle.test_meaning.specs.Rules.Names.{Name, only_if}
use Rattle.test_meaning.specs.Rules.Rules.{chosen_value}
use Rattle.test_meaning.specs.Factory.Product.{Choice, Chosen, product}

-- ---- options of the decorator

-- the value of the option of this name
abbrev pub option_of : File → List Setting → Name → Option Const
option_of f ss n = option_map (chosen_value f) (find (λ s. bytes_eq s.name n) ss)

-- the limit of this time, in steps where no unit is given
abbrev pub limit : Option Const → Const → Option Limit
limit time unit = option_map (λ c. record { number = c; unit = unit }) time

abbrev pub is_set : Option Const → Bool
is_set (Some (constant.Truth b)) = b
is_set _ = Rattle.std.specs.Prelude.false

abbrev pub kind_of : Option Const → Option FaultKind
kind_of (Some (constant.Named n)) = fault_of n
kind_of _ = None

abbrev pub settings_of : Definition → List Setting
settings_of d = unwrap_or d.options []

-- a test by this name of the function of this number, which the decorator has these options for, with these arguments
abbrev pub case_of : File → ℕ → List Setting → Name → List Const → Case
case_of f k ss n args =
    let option = option_of f ss in
    record {
      name = n;
      function = k;
      arguments = args;
      time = limit (option (codes "timeout_time")) (unwrap_or (option (codes "timeout_unit")) (constant.Text (codes "step")));
      expect_fail = is_set (option (codes "expect_fail"));
      expect_error = kind_of (option (codes "expect_error"));
      skip = is_set (option (codes "skip"));
    }

-- a test of this function: the decorator's options hold for it, also where it is a factory's
abbrev pub test_of : File → Definition → Name → List Const → Case
test_of f d n args = case_of f d.number (settings_of d) n args

-- ---- arguments

abbrev pub default_value : File → Option Const → Const
default_value f d = option_map_or (value_in f.constants) d constant.Absent

-- the value that a case has for the option of this name
abbrev pub chosen_of : List Chosen → Name → Option Const
chosen_of cs n = option_map (λ (c : Chosen). c.value) (find (λ c. bytes_eq c.name n) cs)

-- the value of a parameter in a case: that of the option of its name, else its default
abbrev pub argument : File → List Chosen → Parameter → Const
argument f cs p = unwrap_or (chosen_of cs p.name) (default_value f p.default)

abbrev pub arguments : File → Definition → List Chosen → List Const
arguments f d cs = map (argument f cs) (further d.parameters)

-- ---- the tests

-- the number with three digits at least
abbrev pub three_digits : ℕ → List ℕ
three_digits k = (if nat_lt k 10 then codes "00" else (if nat_lt k 100 then codes "0" else [])) ++ decimal k

-- prefix, function, postfix, `_` and the number
abbrev pub case_name : Option Name → Name → Option Name → ℕ → Name
case_name p n q k = unwrap_or p [] ++ n ++ unwrap_or q [] ++ codes "_" ++ three_digits k

-- the cases of a factory of this function, the first of which has this number
abbrev pub numbered : File → Definition → Option Name → Option Name → ℕ → List (List Chosen) → List Case
numbered f d p q k [] = []
numbered f d p q k (cs ∷ css) = test_of f d (case_name p d.name q k) (arguments f d cs) ∷ numbered f d p q (suc k) css

abbrev pub made : File → Option Name → Option Name → List Choice → Option Definition → List Case
made f p q os None = []
made f p q os (Some d) = numbered f d p q 1 (product os)

abbrev pub own_test : File → Option Definition → List Case
own_test f None = []
own_test f (Some d) = only_if (is_test f d) (test_of f d d.name (arguments f d []))

-- the tests that stand at an item below those
abbrev pub cases_at : File → File → ModuleItem → List Case
cases_at f above (FunctionAt l g ps b) = own_test f (next_function f above)
cases_at f above (LineAt l (GenerateTests n p q)) = made f p q (choices f above n) (made_by above n)
cases_at f above _ = []

-- all tests, in the order of their items
abbrev pub cases : File → List Case
cases f = flat_map (λ p. cases_at f (file_of p.above) p.item) (places f.items)
