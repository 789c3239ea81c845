-- The opening state.
use Rattle.std.proofs.Common.{◌≡◌, ℕ, zero, suc, ◌+◌, ◌<◌, ◌≤◌, Bool, true, false, if◌then◌else◌, List, [], ◌∷◌, ◌++◌, length, refl, ap, arith, append_assoc, add-one, drop, take, replicate, slice_get, Some, sym, subst, IsTrue, ◌&&◌, nat_le}
use Rattle.std.proofs.lemmas.Bool.Decides.{nat_tests}
use Rattle.std.proofs.lemmas.List.{length-replicate}
use Rattle.four_value.specs.declared.Digit.{Digit}
use Rattle.gpi.specs.Terms.{widths_of}
use Rattle.gpi.specs.declared.design.Process.{Process}
use Rattle.gpi.specs.declared.design.Signal.{Signal}
use Rattle.gpi.specs.Keys.{holds}
use Rattle.gpi.specs.declared.design.Wake.{Wake}
use Rattle.gpi.specs.Design.{Proc, proc_of, procs_of, starters, starts, start_map, is_net, nets_of, widths}
use Rattle.gpi.specs.Soundness.{AreProcesses, are_wakes, are_wide}
use Rattle.gpi.specs.Activation.{IsSound}
use Rattle.kernel_base.specs.Lists.{AreBelow, AreDistinct}
use Rattle.kernel_base.proofs.Lists.{apart}

pub procs_push : (ps : List Process) (p : Process) → procs_of (ps ++ p ∷ []) ≡ procs_of ps ++ proc_of p ∷ []
procs_push [] p = refl
procs_push (x ∷ ps) p = ap (λ (q : List Proc). proc_of x ∷ q) (procs_push ps p)

pub sound_push : (ps : List Process) (p : Process) (ws : List ℕ) → AreProcesses ps ws → IsSound p.body ws → IsTrue (are_wakes p.wakes (length ws)) → AreProcesses (ps ++ p ∷ []) ws
sound_push [] p ws h k w = (k, w, tt)
sound_push (x ∷ ps) p ws h k w = (h.0, h.1, sound_push ps p ws h.2 k w)

pub length_procs : (ps : List Process) → length (procs_of ps) ≡ length ps
length_procs [] = refl
length_procs (p ∷ ps) = ap suc (length_procs ps)

pub start_widths : (ss : List Signal) → widths_of (start_map ss) ≡ widths ss
start_widths [] = refl
start_widths (s ∷ ss) = rw (length-replicate s.width s.start, start_widths ss) refl

pub start_length : (ss : List Signal) → length (start_map ss) ≡ length ss
start_length [] = refl
start_length (s ∷ ss) = ap suc (start_length ss)

below_if : (t : Bool) (k n : ℕ) (xs : List ℕ) → n < k → AreBelow k xs → AreBelow k (if t then n ∷ xs else xs)
below_if true k n xs h b = (h, b)
below_if false k n xs h b = b

pub starters_below : (n : ℕ) (ps : List Proc) (k : ℕ) → n + length ps ≤ k → AreBelow k (starters n ps)
starters_below n [] k h = tt
starters_below n (p ∷ ps) k h = below_if (starts p.kind) k n (starters (suc n) ps) (omega arith) (starters_below (suc n) ps k (omega arith))

holds_if : (t : Bool) (m n : ℕ) (xs : List ℕ) → m < n → holds m xs ≡ false → holds m (if t then n ∷ xs else xs) ≡ false
holds_if true m n xs h b = rw (apart m n h) b
holds_if false m n xs h b = b

starters_above : (m n : ℕ) (ps : List Proc) → m < n → holds m (starters n ps) ≡ false
starters_above m n [] h = refl
starters_above m n (p ∷ ps) h = holds_if (starts p.kind) m n (starters (suc n) ps) h (starters_above m (suc n) ps (omega arith))

distinct_if : (t : Bool) (n : ℕ) (xs : List ℕ) → holds n xs ≡ false → AreDistinct xs → AreDistinct (if t then n ∷ xs else xs)
distinct_if true n xs h d = (h, d)
distinct_if false n xs h d = d

pub starters_distinct : (n : ℕ) (ps : List Proc) → AreDistinct (starters n ps)
starters_distinct n [] = tt
starters_distinct n (p ∷ ps) = distinct_if (starts p.kind) n (starters (suc n) ps) (starters_above n (suc n) ps (omega arith)) (starters_distinct (suc n) ps)

pub drop_get : {A : Type 0} (xs : List A) (n : ℕ) (x : A) → slice_get xs n ≡ Some x → drop n xs ≡ x ∷ drop (suc n) xs
drop_get [] n x h = absurd (cc)
drop_get (y ∷ xs) zero x h = let e : y ≡ x = cc in ap (λ z. z ∷ xs) e
drop_get (y ∷ xs) (suc n) x h = drop_get xs n x h

pub copied : (cs ps : List Process) (n : ℕ) (p q : Process) → slice_get ps n ≡ Some p → proc_of q ≡ proc_of p
    → procs_of cs ++ procs_of (drop n ps) ≡ procs_of ps → procs_of (cs ++ q ∷ []) ++ procs_of (drop (n + 1) ps) ≡ procs_of ps
copied cs ps n p q h f g =
    let k : procs_of cs ++ (proc_of p ∷ procs_of (drop (suc n) ps)) ≡ procs_of ps = rw (drop_get ps n p h) at g in
    rw (procs_push cs q, append_assoc, f, add-one) k

pub copied_sound : (cs ps : List Process) (n : ℕ) (p q : Process) (ws : List ℕ) → slice_get ps n ≡ Some p → q.wakes ≡ p.wakes → (IsSound p.body ws → IsSound q.body ws)
    → AreProcesses cs ws × AreProcesses (drop n ps) ws → AreProcesses (cs ++ q ∷ []) ws × AreProcesses (drop (n + 1) ps) ws
copied_sound cs ps n p q ws h e f g =
    let k : AreProcesses (p ∷ drop (suc n) ps) ws = rw (drop_get ps n p h) at g.1 in
    (sound_push cs q ws g.0 (f k.0) (subst (λ (w : List Wake). IsTrue (are_wakes w (length ws))) (sym e) k.1), rw add-one k.2)

pub wakes_more : (ws : List Wake) (n : ℕ) (w : Wake) → slice_get ws n ≡ Some w → take (n + 1) ws ≡ take n ws ++ w ∷ []
wakes_more [] n w h = absurd (cc)
wakes_more (x ∷ ws) zero w h = let e : x ≡ w = cc in ap (λ (y : Wake). y ∷ []) e
wakes_more (x ∷ ws) (suc n) w h = rw add-one (ap (λ (q : List Wake). x ∷ q) (rw add-one at (wakes_more ws n w h)))

pub ruleset wakes = (wakes_more)

pub started : (ss : List Signal) (n : ℕ) (s : Signal) → slice_get ss n ≡ Some s → start_map (drop n ss) ≡ replicate s.width s.start ∷ start_map (drop (n + 1) ss)
started ss n s h = rw (drop_get ss n s h, add-one) refl

pub start_more : (map new : List (List Digit)) (ss : List Signal) (n : ℕ) (s : Signal) (bits : List Digit) → slice_get ss n ≡ Some s → bits ≡ replicate s.width s.start
    → new ≡ map ++ bits ∷ [] → map ++ start_map (drop n ss) ≡ start_map ss → new ++ start_map (drop (n + 1) ss) ≡ start_map ss
start_more map new ss n s bits h e f g =
    let k : map ++ (replicate s.width s.start ∷ start_map (drop (n + 1) ss)) ≡ start_map ss = rw (started ss n s h) at g in
    rw (f, append_assoc, e) k

pub nets_more : (nets new : List Bool) (ss : List Signal) (n : ℕ) (s : Signal) (net : Bool) → slice_get ss n ≡ Some s → net ≡ is_net s.start
    → new ≡ nets ++ net ∷ [] → nets ++ nets_of (drop n ss) ≡ nets_of ss → new ++ nets_of (drop (n + 1) ss) ≡ nets_of ss
nets_more nets new ss n s net h e f g =
    let k : nets ++ (is_net s.start ∷ nets_of (drop (suc n) ss)) ≡ nets_of ss = rw (drop_get ss n s h) at g in
    rw (f, append_assoc, e, add-one) k

pub length_nets : (ss : List Signal) → length (nets_of ss) ≡ length ss
length_nets [] = refl
length_nets (s ∷ ss) = ap suc (length_nets ss)

wide_parts : (a b c : Bool) → ((a && b) && c) ≡ true → (a ≡ true) × (b ≡ true)
wide_parts true true c h = (refl, refl)
wide_parts true false c h = cc
wide_parts false b c h = cc

wide_rest : (a b : Bool) → (a && b) ≡ true → b ≡ true
wide_rest true b h = h
wide_rest false b h = cc

pub wide_at : (ss : List Signal) (n : ℕ) (s : Signal) → slice_get ss n ≡ Some s → IsTrue (are_wide ss) → (1 ≤ s.width) × (s.width ≤ 128)
wide_at [] n s h w = absurd (cc)
wide_at (x ∷ ss) zero s h w =
    let e : x ≡ s = cc in
    let p = wide_parts (nat_le 1 x.width) (nat_le x.width 128) (are_wide ss) w in
    subst (λ (y : Signal). (1 ≤ y.width) × (y.width ≤ 128)) e (grind (arith, nat_tests), grind (arith, nat_tests))
wide_at (x ∷ ss) (suc n) s h w = wide_at ss n s h (wide_rest (nat_le 1 x.width && nat_le x.width 128) (are_wide ss) w)

pub wide_low : (ss : List Signal) (n : ℕ) (s : Signal) → slice_get ss n ≡ Some s → IsTrue (are_wide ss) → 1 ≤ s.width
wide_low ss n s h w = (wide_at ss n s h w).0

pub wide_high : (ss : List Signal) (n : ℕ) (s : Signal) → slice_get ss n ≡ Some s → IsTrue (are_wide ss) → s.width ≤ 128
wide_high ss n s h w = (wide_at ss n s h w).1

pub ruleset wide = (wide_low, wide_high, started)
