-- Keys that are registered, and fired one after the other.
use Rattle.std.proofs.Common.{◌≡◌, ℕ, ◌==◌, ◌&&◌, ◌||◌, Bool, true, false, not, if◌then◌else◌, List, [], ◌∷◌, ◌++◌, length, refl, sym, ◌∙◌, ap, subst, arith}
use Rattle.std.proofs.lemmas.Bool.Decides.{nat_tests}
use Rattle.four_value.specs.declared.Digit.{Digit}
use Rattle.four_value.specs.declared.Digit.TheVariants.{Zero, One, X, Z}
use Rattle.four_value.specs.Vector.{digit_at}
use Rattle.gpi.specs.declared.types.Key.{Key}
use Rattle.gpi.specs.declared.types.Key.TheVariants.{At, Rise, Fall, Change, ReadWrite, ReadOnly, NextStep}
use Rattle.gpi.specs.declared.types.SigId.{SigId}
use Rattle.gpi.specs.declared.types.Report.{Report}
use Rattle.gpi.specs.Keys.{Keys, has, holds, is_time, among, same_key, raised, raised_by, IsWith, IsWithout}
use Rattle.gpi.specs.Events.{edge_keys, level_keys, if_has}
use Rattle.kernel_base.specs.TimeSets.{IsWithoutTime}
use Rattle.kernel_base.proofs.KeySets.{keep_all, without_both, raised_both}
use Rattle.callback_book.specs.declared.book.Book.{Book}
use Rattle.callback_book.specs.Books.{flag_of, keys_with, counts_of, signals_of, level_part, if_flag, if_there, AddsTime, DropsTime, Fires}

-- ---- a key is registered, or isn't any more

-- of the keys that are no times this one is changed alone
abbrev pub IsSet : Key → Bool → Book → Book → Type 0
IsSet key on a b = (k : Key) → is_time k ≡ false → flag_of b k ≡ (if same_key k key then on else flag_of a k)

-- a time is none of them
pub time_set : (t : ℕ) (on : Bool) (b : Book) (k : Key) → is_time k ≡ false → flag_of b k ≡ (if same_key k (At t) then on else flag_of b k)
time_set t on b (At q) h = absurd (cc)
time_set t on b (Rise s) h = refl
time_set t on b (Fall s) h = refl
time_set t on b (Change s) h = refl
time_set t on b ReadWrite h = refl
time_set t on b ReadOnly h = refl
time_set t on b NextStep h = refl

or_choice : (s a : Bool) → (if s then true else a) ≡ (s || a)
or_choice true a = refl
or_choice false a = refl

and_choice : (s a : Bool) → (if s then false else a) ≡ (a && not (s || false))
and_choice true true = refl
and_choice true false = refl
and_choice false true = refl
and_choice false false = refl

and_none : (a s : Bool) → (a && not s) ≡ (a && not (s || false))
and_none a true = refl
and_none a false = refl

times_with : (key : Key) (ts us : List ℕ) (q : ℕ) → AddsTime key ts us → holds q us ≡ (same_key (At q) key || holds q ts)
times_with (At t) ts us q h = h q
times_with (Rise s) ts us q h = rw h refl
times_with (Fall s) ts us q h = rw h refl
times_with (Change s) ts us q h = rw h refl
times_with ReadWrite ts us q h = rw h refl
times_with ReadOnly ts us q h = rw h refl
times_with NextStep ts us q h = rw h refl

times_without : (key : Key) (ts us : List ℕ) (q : ℕ) → DropsTime key ts us → holds q us ≡ (holds q ts && not (same_key (At q) key || false))
times_without (At t) ts us q h = h q ∙ and_none (holds q ts) (q == t)
times_without (Rise s) ts us q h = rw h (keep_all (holds q ts))
times_without (Fall s) ts us q h = rw h (keep_all (holds q ts))
times_without (Change s) ts us q h = rw h (keep_all (holds q ts))
times_without ReadWrite ts us q h = rw h (keep_all (holds q ts))
times_without ReadOnly ts us q h = rw h (keep_all (holds q ts))
times_without NextStep ts us q h = rw h (keep_all (holds q ts))

pub with_key : (key : Key) (a b : Book) (ts us : List ℕ) → IsSet key true a b → AddsTime key ts us → IsWith key (keys_with ts a) (keys_with us b)
with_key key a b ts us f h (At q) = times_with key ts us q h
with_key key a b ts us f h (Rise s) = f (Rise s) refl ∙ or_choice (same_key (Rise s) key) (flag_of a (Rise s))
with_key key a b ts us f h (Fall s) = f (Fall s) refl ∙ or_choice (same_key (Fall s) key) (flag_of a (Fall s))
with_key key a b ts us f h (Change s) = f (Change s) refl ∙ or_choice (same_key (Change s) key) (flag_of a (Change s))
with_key key a b ts us f h ReadWrite = f ReadWrite refl ∙ or_choice (same_key ReadWrite key) (flag_of a ReadWrite)
with_key key a b ts us f h ReadOnly = f ReadOnly refl ∙ or_choice (same_key ReadOnly key) (flag_of a ReadOnly)
with_key key a b ts us f h NextStep = f NextStep refl ∙ or_choice (same_key NextStep key) (flag_of a NextStep)

pub without_key : (key : Key) (a b : Book) (ts us : List ℕ) → IsSet key false a b → DropsTime key ts us → IsWithout (key ∷ []) (keys_with ts a) (keys_with us b)
without_key key a b ts us f h (At q) = times_without key ts us q h
without_key key a b ts us f h (Rise s) = f (Rise s) refl ∙ and_choice (same_key (Rise s) key) (flag_of a (Rise s))
without_key key a b ts us f h (Fall s) = f (Fall s) refl ∙ and_choice (same_key (Fall s) key) (flag_of a (Fall s))
without_key key a b ts us f h (Change s) = f (Change s) refl ∙ and_choice (same_key (Change s) key) (flag_of a (Change s))
without_key key a b ts us f h ReadWrite = f ReadWrite refl ∙ and_choice (same_key ReadWrite key) (flag_of a ReadWrite)
without_key key a b ts us f h ReadOnly = f ReadOnly refl ∙ and_choice (same_key ReadOnly key) (flag_of a ReadOnly)
without_key key a b ts us f h NextStep = f NextStep refl ∙ and_choice (same_key NextStep key) (flag_of a NextStep)

-- ---- one key is fired

-- a key that is no time leaves the times
stays_timed : (key : Key) (ts : List ℕ) → is_time key ≡ false → DropsTime key ts ts
stays_timed (At t) ts h = absurd (cc)
stays_timed (Rise s) ts h = refl
stays_timed (Fall s) ts h = refl
stays_timed (Change s) ts h = refl
stays_timed ReadWrite ts h = refl
stays_timed ReadOnly ts h = refl
stays_timed NextStep ts h = refl

pub one_fired : (key : Key) (a b c : Book) (ts us : List ℕ) → DropsTime key ts us → IsSet key false a b → signals_of b ≡ signals_of a
    → ((q : Key) → flag_of c q ≡ flag_of b q) → counts_of c ≡ record (counts_of a) { fired = raised (counts_of a).fired } → signals_of c ≡ signals_of b
    → Fires (key ∷ []) ts a us c
one_fired key a b c ts us d f g h k l = record {
  keys = without_key key a c ts us (λ q n. h q ∙ f q n) d;
  counts = k;
  signals = l ∙ g;
}

pub took : (key : Key) (a b c : Book) (ts : List ℕ) → is_time key ≡ false → flag_of a key ≡ true → IsSet key false a b → signals_of b ≡ signals_of a
    → ((q : Key) → flag_of c q ≡ flag_of b q) → counts_of c ≡ record (counts_of a) { fired = raised (counts_of a).fired } → signals_of c ≡ signals_of b
    → Fires (if_flag key a) ts a ts c
took key a b c ts n t f g h k l = rw t (one_fired key a b c ts ts (stays_timed key ts n) f g h k l)

pub flagged : (key : Key) (b : Book) → flag_of b key ≡ true → if_flag key b ≡ key ∷ []
flagged key b h = rw h refl

pub none_fired : (a : Book) (ts : List ℕ) → Fires [] ts a ts a
none_fired a ts = record { keys = λ k. keep_all _; counts = refl; signals = refl }

pub left : (key : Key) (a : Book) (ts : List ℕ) → flag_of a key ≡ false → Fires (if_flag key a) ts a ts a
left key a ts f = rw f (none_fired a ts)

-- ---- keys fired one after the other

fires_both : (xs ys : List Key) (ts us vs : List ℕ) (a b c : Book) → Fires xs ts a us b → Fires ys us b vs c → Fires (xs ++ ys) ts a vs c
fires_both xs ys ts us vs a b c f h = record {
  keys = without_both xs ys _ _ _ f.keys h.keys;
  counts = h.counts ∙ rw (f.counts, raised_both xs ys a.counts.fired) refl;
  signals = h.signals ∙ f.signals;
}

-- the edge keys don't hang on the times
level_any : (s : SigId) (d : Digit) (ts us : List ℕ) (b : Book) → level_keys s d (keys_with ts b) ≡ level_keys s d (keys_with us b)
level_any s One ts us b = refl
level_any s Zero ts us b = refl
level_any s X ts us b = refl
level_any s Z ts us b = refl

level_part_any : (c : Report) (ts us : List ℕ) (b : Book) → level_part c (keys_with ts b) ≡ level_part c (keys_with us b)
level_part_any c ts us b = ap (λ (ks : List Key). if length c.after == 1 then ks else []) (level_any c.sig (digit_at c.after 0) ts us b)

-- the keys of a change are fired one after the other
pub change_fires : (c : Report) (ts : List ℕ) (a b d : Book) (first second : List Key) → first ≡ level_part c (keys_with [] a) → Fires first ts a ts b
    → among (Change c.sig) first ≡ false → second ≡ if_flag (Change c.sig) b → Fires second ts b ts d
    → (first ++ second ≡ edge_keys c (keys_with ts a)) × Fires (first ++ second) ts a ts d
change_fires c ts a b d first second e f o g h =
    let same : flag_of b (Change c.sig) ≡ flag_of a (Change c.sig) = f.keys (Change c.sig) ∙ rw o (sym (keep_all _)) in
    (rw (e, g, same, level_part_any c [] ts a) refl, fires_both first second ts ts ts a b d f h)

same_number : (q t : ℕ) (ts : List ℕ) → (q == t) ≡ true → holds t ts ≡ false → holds q ts ≡ false
same_number q t ts e h = let f : q ≡ t = grind (arith, nat_tests) in rw f h

still_there : (s a : Bool) → (s ≡ true → a ≡ false) → (a && not s) ≡ (a && true)
still_there true a h = rw (h refl) refl
still_there false a h = refl

-- a time that isn't there leaves all keys
none_gone : (t : ℕ) (ts us : List ℕ) (a c : Book) → false ≡ holds t ts → IsWithoutTime t ts us → ((q : Key) → flag_of c q ≡ flag_of a q) → IsWithout [] (keys_with ts a) (keys_with us c)
none_gone t ts us a c e w h (At q) = w q ∙ still_there (q == t) (holds q ts) (λ s. same_number q t ts s (sym e))
none_gone t ts us a c e w h (Rise s) = h (Rise s) ∙ keep_all _
none_gone t ts us a c e w h (Fall s) = h (Fall s) ∙ keep_all _
none_gone t ts us a c e w h (Change s) = h (Change s) ∙ keep_all _
none_gone t ts us a c e w h ReadWrite = h ReadWrite ∙ keep_all _
none_gone t ts us a c e w h ReadOnly = h ReadOnly ∙ keep_all _
none_gone t ts us a c e w h NextStep = h NextStep ∙ keep_all _

-- a time is taken out of the times alone
pub time_fired : (t : ℕ) (there : Bool) (a c : Book) (ts us : List ℕ) → there ≡ holds t ts → IsWithoutTime t ts us
    → ((q : Key) → flag_of c q ≡ flag_of a q) → counts_of c ≡ record (counts_of a) { fired = raised_by (if_there there t) (counts_of a).fired } → signals_of c ≡ signals_of a
    → Fires (if_has (At t) (keys_with ts a)) ts a us c
time_fired t true a c ts us e w h k l =
    rw (← e) (one_fired (At t) a a c ts us w (time_set t false a) refl h k l)
time_fired t false a c ts us e w h k l =
    rw (← e) (record { keys = none_gone t ts us a c e w h; counts = k; signals = l })

-- the keys of a time step, one after the other
pub step_list : (t : ℕ) (there : Bool) (ts : List ℕ) (a : Book) (first second : List Key) → first ≡ if_flag NextStep a → second ≡ if_there there t → there ≡ holds t ts
    → first ++ second ≡ if_has NextStep (keys_with ts a) ++ if_has (At t) (keys_with ts a)
step_list t there ts a first second e g s = rw (e, g, s) refl

pub time_fires : (t : ℕ) (there : Bool) (ts us : List ℕ) (a b d : Book) (first : List Key) → first ≡ if_flag NextStep a → ((vs : List ℕ) → Fires first vs a vs b)
    → there ≡ holds t ts → IsWithoutTime t ts us → ((q : Key) → flag_of d q ≡ flag_of b q)
    → counts_of d ≡ record (counts_of b) { fired = raised_by (if_there there t) (counts_of b).fired } → signals_of d ≡ signals_of b
    → Fires (if_has NextStep (keys_with ts a) ++ if_has (At t) (keys_with ts a)) ts a us d
time_fires t there ts us a b d first e f s w h k l =
    let m = fires_both first (if_has (At t) (keys_with ts b)) ts ts us a b d (f ts) (time_fired t there b d ts us s w h k l) in
    subst (λ (ks : List Key). Fires (ks ++ if_has (At t) (keys_with ts a)) ts a us d) e m
