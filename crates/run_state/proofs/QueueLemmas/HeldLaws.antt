-- The keys that the runner itself holds.
use Rattle.std.proofs.Common.{◌≡◌, ◌==◌, ℕ, ◌||◌, ◌&&◌, Bool, true, false, not, List, [], ◌∷◌, ◌++◌, length, refl, sym, ap, ◌∙◌, arith, eqb-true}
use Rattle.std.specs.Prelude.{Option, None, Some, filter}
use Rattle.gpi.specs.declared.types.Key.{Key}
use Rattle.gpi.specs.declared.types.Key.TheVariants.{At, ReadWrite}
use Rattle.gpi.specs.declared.types.SigId.{SigId}
use Rattle.gpi.specs.declared.types.Write.{Write}
use Rattle.gpi.specs.Keys.{among, same_key}
use Rattle.run_view.specs.SignalPort.Staging.{restaged}
use Rattle.run_view.specs.declared.signal_port.staged.Staged.{Staged}
use Rattle.await_tree.specs.WaitList.Keys.{AreAlike, without}
use Rattle.await_tree.specs.WaitList.Waiting.{held_keys, phase_key, time_key}
use Rattle.rig_model.specs.Run.Rig.{is_any}
use Rattle.run_state.proofs.QueueLemmas.KeyLaws.{among-append, among-without, same_is, same_sym}

-- ---- lists that have the same keys

pub alike_sym : (xs ys : List Key) → AreAlike xs ys → AreAlike ys xs
alike_sym xs ys h k = sym (h k)

pub alike_trans : (xs ys zs : List Key) → AreAlike xs ys → AreAlike ys zs → AreAlike xs zs
alike_trans xs ys zs h g k = h k ∙ g k

pub alike_more : (x : Key) (xs ys : List Key) → AreAlike xs ys → AreAlike (x ∷ xs) (x ∷ ys)
alike_more x xs ys h k = ap (λ (b : Bool). same_key k x || b) (h k)

-- a key that is there already
pub alike_there : (x : Key) (xs : List Key) → among x xs ≡ true → AreAlike (x ∷ xs) xs
alike_there x xs h k = decided (same_key k x) refl
  where
    decided : (b : Bool) → same_key k x ≡ b → (b || among k xs) ≡ among k xs
    decided true e = sym (ap (λ (y : Key). among y xs) (same_is k x e) ∙ h)
    decided false e = refl

pub alike_without : (x : Key) (xs ys : List Key) → AreAlike xs ys → AreAlike (without x xs) (without x ys)
alike_without x xs ys h k = among-without k x xs ∙ ap (λ (b : Bool). b && not (same_key x k)) (h k) ∙ sym (among-without k x ys)

-- a key is taken out that stands nowhere else
pub without_first : (x : Key) (xs : List Key) → among x xs ≡ false → AreAlike (without x (x ∷ xs)) xs
without_first x xs h k =
    among-without k x (x ∷ xs)
    ∙ ap (λ (b : Bool). (same_key k x || among k xs) && not b) (same_sym x k)
    ∙ decided (same_key k x) refl
  where
    decided : (b : Bool) → same_key k x ≡ b → ((b || among k xs) && not b) ≡ among k xs
    decided true e = sym (ap (λ (y : Key). among y xs) (same_is k x e) ∙ h)
    decided false e = yes (among k xs)
      where
        yes : (b : Bool) → (b && true) ≡ b
        yes true = refl
        yes false = refl

-- it was held, and isn't any more
pub without_alike : (x : Key) (held xs : List Key) → AreAlike held (x ∷ xs) → among x xs ≡ false → AreAlike (without x held) xs
without_alike x held xs h n = alike_trans (without x held) (without x (x ∷ xs)) xs (alike_without x held (x ∷ xs) h) (without_first x xs n)

-- it wasn't held, is held, and isn't any more
pub without_again : (x : Key) (held held' held'' : List Key) → among x held ≡ false → AreAlike held' (x ∷ held) → AreAlike held'' (without x held') → AreAlike held'' held
without_again x held held' held'' n a b = alike_trans held'' (without x held') held b (without_alike x held' held a n)

-- ---- what is held

pub among_held : (x : Key) (b : Bool) (deadline planned : Option ℕ)
    → among x (held_keys b deadline planned) ≡ ((among x (phase_key b) || among x (time_key deadline)) || among x (time_key planned))
among_held x b deadline planned =
    among-append x (phase_key b ++ time_key deadline) (time_key planned)
    ∙ ap (λ (h : Bool). h || among x (time_key planned)) (among-append x (phase_key b) (time_key deadline))

-- the read-write phase is held exactly while a write is staged
phase_time : (time : Option ℕ) → among ReadWrite (time_key time) ≡ false
phase_time None = refl
phase_time (Some t) = refl

pub phase_held : (b : Bool) (deadline planned : Option ℕ) → among ReadWrite (held_keys b deadline planned) ≡ b
phase_held b deadline planned =
    among_held ReadWrite b deadline planned
    ∙ rw (phase_time deadline, phase_time planned) (alone b)
  where
    alone : (b : Bool) → ((among ReadWrite (phase_key b) || false) || false) ≡ b
    alone true = refl
    alone false = refl

-- ---- one key more

pub staged_held : (deadline planned : Option ℕ) → AreAlike (held_keys true deadline planned) (ReadWrite ∷ held_keys false deadline planned)
staged_held deadline planned x = refl

swap : (d p t : Bool) → ((p || (d || false)) || t) ≡ (d || ((p || false) || t))
swap true true t = refl
swap true false t = refl
swap false true t = refl
swap false false t = refl

pub deadline_held : (b : Bool) (due : ℕ) (planned : Option ℕ) → AreAlike (held_keys b (Some due) planned) (At due ∷ held_keys b None planned)
deadline_held b due planned x =
    among_held x b (Some due) planned
    ∙ swap (same_key x (At due)) (among x (phase_key b)) (among x (time_key planned))
    ∙ ap (λ (h : Bool). same_key x (At due) || h) (sym (among_held x b None planned))

last : (q t : Bool) → (q || (t || false)) ≡ (t || (q || false))
last true true = refl
last true false = refl
last false true = refl
last false false = refl

pub planned_held : (b : Bool) (due : ℕ) (deadline : Option ℕ) → AreAlike (held_keys b deadline (Some due)) (At due ∷ held_keys b deadline None)
planned_held b due deadline x =
    among_held x b deadline (Some due)
    ∙ last (among x (phase_key b) || among x (time_key deadline)) (same_key x (At due))
    ∙ ap (λ (h : Bool). same_key x (At due) || h) (sym (among_held x b deadline None))

-- ---- staged writes

pub any_last : (ws : List Staged) (w : Staged) → is_any (ws ++ w ∷ []) ≡ true
any_last [] w = refl
any_last (x ∷ xs) w = refl

pub any_restaged : (sig : SigId) (act : Write) (ws : List Staged) → is_any (restaged sig act ws) ≡ true
any_restaged sig act ws = any_last (filter (λ (w : Staged). not (w.sig.0 == sig.0)) ws) (record { sig = sig; act = act })

pub none_staged : (ws : List Staged) → (length ws == 0) ≡ true → ws ≡ []
none_staged [] h = refl
none_staged (w ∷ ws) h = let e : length (w ∷ ws) ≡ 0 = eqb-true (length (w ∷ ws)) 0 h in absurd (omega arith)

pub some_staged : (ws : List Staged) → (length ws == 0) ≡ false → is_any ws ≡ true
some_staged [] h = cc
some_staged (w ∷ ws) h = refl
