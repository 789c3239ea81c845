-- The count of a queue's items fits 32 bits.
use Rattle.std.proofs.Common.{ℕ, zero, suc, ◌^◌, ◌<◌, ◌≤◌, arith}
use Rattle.task_queue.specs.Puts.{IsWithin, capacity}

fits_below : (bound count : ℕ) → bound < 2 ^ 32 → count ≤ capacity bound → count < 2 ^ 32
fits_below zero count b h = omega arith
fits_below (suc n) count b h = omega arith

pub within_fits : (bound count : ℕ) → IsWithin bound count → count < 2 ^ 32
within_fits bound count h = fits_below bound count h.bound_fits h.count_fits
