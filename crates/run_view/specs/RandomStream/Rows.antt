-- A means of proof: worked draws, which tools/random_rows.py reckoned, by which the definition of the generator is tried.
use Rattle.std.specs.Prelude.{◌≡◌, ℕ, zero, suc, List, [], ◌∷◌, ℤ, pos, neg_ℤ}
use Rattle.run_view.specs.RandomStream.Generator.{Generator, next, word, seeded}
use Rattle.run_view.specs.RandomStream.Draw.{drawn}

-- the next draws, all of one range
abbrev pub draws : ℕ → ℤ → ℕ → Generator → List ℤ
draws zero low span g = []
draws (suc k) low span g = drawn low span (word g.state) ∷ draws k low span (next g)

abbrev pub minus : ℕ → ℤ
minus n = neg_ℤ (pos n)

-- of seed 0 from 0 to 1,
-- of seed 1 from -100 to 100,
-- of seed 18446744073709551615 from -2147483648 to 2147483647
abbrev pub Worked_rows : Type 0
Worked_rows =
    (draws 20 (pos 0) 2 (seeded 0)
    ≡ pos 0 ∷ pos 1 ∷ pos 0 ∷ pos 0 ∷ pos 0 ∷ pos 0 ∷ pos 0 ∷ pos 1 ∷ pos 0 ∷ pos 1 ∷ pos 0 ∷ pos 0 ∷ pos 1 ∷ pos 0 ∷ pos 0 ∷ pos 0 ∷
    pos 1 ∷ pos 0 ∷ pos 1 ∷ pos 0 ∷ [])
    × (draws 20 (minus 100) 201 (seeded 1)
    ≡ minus 60 ∷ minus 2 ∷ pos 59 ∷ minus 87 ∷ pos 95 ∷ minus 68 ∷ pos 74 ∷ minus 80 ∷ pos 72 ∷ minus 90 ∷ minus 22 ∷ minus 41 ∷ pos 51 ∷
    minus 99 ∷ minus 40 ∷ pos 69 ∷ minus 96 ∷ minus 52 ∷ minus 20 ∷ pos 9 ∷ [])
    × (draws 20 (minus 2147483648) 4294967296 (seeded 18446744073709551615)
    ≡ pos 405772670 ∷ minus 784488826 ∷ pos 1612173836 ∷ pos 1219354685 ∷ pos 175711434 ∷ minus 1106674752 ∷ minus 383653059 ∷
    minus 1172130067 ∷ pos 718988346 ∷ minus 40572008 ∷ pos 860160807 ∷ pos 1913670369 ∷ minus 1730023372 ∷ minus 1205086863 ∷
    minus 1732969618 ∷ minus 2081802687 ∷ minus 2140680655 ∷ pos 1567212081 ∷ minus 848053538 ∷ pos 1559688272 ∷ [])
