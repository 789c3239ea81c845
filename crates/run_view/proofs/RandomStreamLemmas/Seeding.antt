-- The crate's generator of a number is that of the definition.
use Rattle.std.proofs.Common.{◌≡◌, ℕ, ◌+◌, ◌*◌, ◌/◌, ◌%◌, ◌^◌, ◌<◌, List, bit_or, refl, ap, ◌∙◌}
use Rattle.std.proofs.Math.Nat.{mod-add-mod}
use Rattle.std.proofs.Math.Path.{fun_ext}
use Rattle.std.proofs.lemmas.Nat.{from_le_bytes-to_le_bytes_4, mul-mod_first}
use Rattle.rand_core.specs.Steps.{u32_at, u64_at, word_bytes, fill_via_u32}
use Rattle.rand_core.specs.Pcg32Seed.{pcg32_step, pcg32_seed}
use Rattle.rand_pcg.specs.Lcg.{Lcg, started}
use Rattle.rand_pcg.specs.Pcg.{multiplier_64, pcg32_of_seed}
use Rattle.run_view.specs.RandomStream.Generator.{Generator, next_state, seeding_increment, seeding_state, word, seed_word, joined, begun, seeded}
use Rattle.run_view.proofs.RandomStreamLemmas.Words.{word_small}

-- a word by its bytes
of_bytes : (w : ℕ) → w < 2 ^ 32 → w % 256 + (w / 256 ^ 1 % 256) * 2 ^ 8 + (w / 256 ^ 2 % 256) * 2 ^ 16 + (w / 256 ^ 3 % 256) * 2 ^ 24 ≡ w
of_bytes w h = from_le_bytes-to_le_bytes_4 w h

bytes_of : (ℕ → ℕ × ℕ) → ℕ → List ℕ
bytes_of step seed = (fill_via_u32 step 16 seed).0

own_step : ℕ → ℕ × ℕ
own_step state = (word (next_state seeding_increment state), next_state seeding_increment state)

step_alike : (state : ℕ) → pcg32_step state ≡ own_step state
unfolding own_step
step_alike state = ap (λ (n : ℕ). (word n, n)) (mod-add-mod (state * 0x5851F42D4C957F2D) (2 ^ 64) seeding_increment)

bytes_alike : (seed : ℕ) → pcg32_seed 16 seed ≡ bytes_of own_step seed
unfolding pcg32_seed bytes_of
bytes_alike seed = ap (λ (step : ℕ → ℕ × ℕ). (fill_via_u32 step 16 seed).0) (fun_ext step_alike)

two_words : (a b low high : ℕ) → a ≡ low → b ≡ high → a + b * 2 ^ 32 ≡ joined low high
two_words a b low high e f = rw (e, f) refl

first_half : (seed : ℕ) → u64_at (bytes_of own_step seed) 0 ≡ joined (seed_word 1 seed) (seed_word 2 seed)
unfolding bytes_of own_step word_bytes u32_at
first_half seed =
    two_words _ _ _ _ (of_bytes (seed_word 1 seed) (word_small (seeding_state 1 seed))) (of_bytes (seed_word 2 seed) (word_small (seeding_state 2 seed)))

second_half : (seed : ℕ) → u64_at (bytes_of own_step seed) 1 ≡ joined (seed_word 3 seed) (seed_word 4 seed)
unfolding bytes_of own_step word_bytes u32_at
second_half seed =
    two_words _ _ _ _ (of_bytes (seed_word 3 seed) (word_small (seeding_state 3 seed))) (of_bytes (seed_word 4 seed) (word_small (seeding_state 4 seed)))

as_ours : Lcg → Generator
as_ours g = record { state = g.state; increment = g.increment }

begun_alike : (state increment : ℕ) → as_ours (started 64 multiplier_64 state increment) ≡ begun state increment
unfolding as_ours
begun_alike state increment =
    ap (λ (s : ℕ). record { state = s; increment = increment })
    (ap (λ (k : ℕ). (k + increment) % 2 ^ 64) (mul-mod_first (state + increment) multiplier_64 (2 ^ 64))
    ∙ mod-add-mod ((state + increment) * multiplier_64) (2 ^ 64) increment)

pub seeded_alike : (g : Lcg) (seed : ℕ) → g ≡ pcg32_of_seed (pcg32_seed 16 seed) → record { state = g.state; increment = g.increment } ≡ seeded seed
unfolding as_ours
seeded_alike g seed e =
    let bytes = bytes_of own_step seed in
    ap as_ours e
    ∙ ap (λ (bs : List ℕ). as_ours (pcg32_of_seed bs)) (bytes_alike seed)
    ∙ begun_alike (u64_at bytes 0) (bit_or (u64_at bytes 1) 1)
    ∙ ap (λ (low : ℕ). begun low (bit_or (u64_at bytes 1) 1)) (first_half seed)
    ∙ ap (λ (high : ℕ). begun (joined (seed_word 1 seed) (seed_word 2 seed)) (bit_or high 1)) (second_half seed)
