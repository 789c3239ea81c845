-- The generator PCG XSH RR 64/32 (M. E. O'Neill, "PCG: A Family of Simple Fast Space-Efficient Statistically Good Algorithms for Random
-- Number Generation", 2014): a state of 64 bits, and words of 32 bits.
use Rattle.std.specs.Prelude.{ℕ, zero, suc, ◌+◌, ◌*◌, ◌/◌, ◌%◌, ◌^◌, bit_or, bit_xor}
use Rattle.std.specs.Int.{w32, rotate_right}

-- the state, and what each step adds to it
pub record Generator : Type 0 where
  pub state : ℕ
  pub increment : ℕ

-- ---- a step

abbrev pub multiplier : ℕ
multiplier = 6364136223846793005

abbrev pub next_state : ℕ → ℕ → ℕ
next_state increment state = (state * multiplier + increment) % 2 ^ 64

abbrev pub next : Generator → Generator
next g = record g { state = next_state g.increment g.state }

-- The word of a state: bits 27 to 58 of the state xor itself shifted right by 18, rotated right by the number of its top five bits.
abbrev pub word : ℕ → ℕ
word state = rotate_right w32 (bit_xor (state / 2 ^ 18) state / 2 ^ 27 % 2 ^ 32) (state / 2 ^ 59)

-- ---- a seed

abbrev pub seeding_increment : ℕ
seeding_increment = 11634580027462260723

-- a seed is a state, which steps before each word that is taken of it
abbrev pub seeding_state : ℕ → ℕ → ℕ
seeding_state zero seed = seed
seeding_state (suc n) seed = next_state seeding_increment (seeding_state n seed)

abbrev pub seed_word : ℕ → ℕ → ℕ
seed_word n seed = word (seeding_state n seed)

-- two words as one number, the low half first
abbrev pub joined : ℕ → ℕ → ℕ
joined low high = low + high * 2 ^ 32

-- the increment is odd
abbrev pub begun : ℕ → ℕ → Generator
begun state increment = record { state = next_state increment (state + increment); increment = increment }

-- The first two words of a seed give the state, and the next two the increment, whose lowest bit is set.
abbrev pub seeded : ℕ → Generator
seeded seed = begun (joined (seed_word 1 seed) (seed_word 2 seed)) (bit_or (joined (seed_word 3 seed) (seed_word 4 seed)) 1)
