-- Registered keys, told by lists, and what a call of a keeper of waiting tasks does to them.
use Rattle.std.specs.Prelude.{◌≡◌, true, false, ◌||◌, ◌&&◌, List, ◌∷◌, ◌<◌, [], filter, not, length}
use Rattle.gpi.specs.declared.types.Key.{Key}
use Rattle.gpi.specs.declared.types.Key.TheVariants as key
use Rattle.gpi.specs.Keys.{Keys, has, among, same_key}
use Rattle.gpi.specs.Content.{Content, IsAsked}
use Rattle.await_tree.specs.WaitList.Counts.{count_keys, raised_times}

-- ---- lists of keys

-- the two lists have the same keys, in whatever order and however often
abbrev pub AreAlike : List Key → List Key → Type 0
AreAlike xs ys = (k : Key) → among k xs ≡ among k ys

-- the keys without this one
abbrev pub without : Key → List Key → List Key
without key keys = filter (λ other. not (same_key key other)) keys

-- the keys without each of these
abbrev pub without_all : List Key → List Key → List Key
without_all [] keys = keys
without_all (gone ∷ more) keys = without_all more (without gone keys)

-- no key stands in the list twice
abbrev pub AreApart : List Key → Type 0
AreApart [] = Unit {0}
AreApart (key ∷ keys) = (among key keys ≡ false) × AreApart keys

-- ---- registered keys

-- the registered keys are those of the list
abbrev pub AreKeys : Keys → List Key → Type 0
AreKeys keys ks = (k : Key) → has k keys ≡ among k ks

-- The registered keys are among those of a list, and each key of the list that isn't registered is one of these others.
pub record AreKeysBut (keys : Keys) (others ks : List Key) : Type 0 where
  pub within : (k : Key) → has k keys ≡ true → among k ks ≡ true
  pub rest : (k : Key) → among k ks ≡ true → has k keys ≡ false → among k others ≡ true

-- none of these keys is registered
abbrev pub AreOut : Keys → List Key → Type 0
AreOut keys ks = (k : Key) → among k ks ≡ true → has k keys ≡ false

-- each of these keys is registered or may be registered
abbrev pub AreAsked : Content → List Key → Type 0
AreAsked content ks = (k : Key) → among k ks ≡ true → has k content.keys ≡ false → IsAsked (length content.state.signals) content.state k

-- the key is of no signal, or of a signal of the design
abbrev pub IsOfDesign : Content → Key → Type 0
IsOfDesign content (key.Rise sig) = sig.0 < length content.state.signals
IsOfDesign content (key.Fall sig) = sig.0 < length content.state.signals
IsOfDesign content (key.Change sig) = sig.0 < length content.state.signals
IsOfDesign content k = Unit {0}

-- Keys fired: they differ, none of them is registered, and their signals are of the design.
pub record AreFired (content : Content) (fired : List Key) : Type 0 where
  pub apart : AreApart fired
  pub out : AreOut content.keys fired
  pub signals : (k : Key) → among k fired ≡ true → IsOfDesign content k

-- ---- what a call does

-- A call led from one list of named keys to another. Of what a simulator holds only the registered keys and the counts have changed: of
-- the keys that are named then, those are registered that were before, and those that the call asked for. The count of registrations
-- has risen by one for each key that is registered now and wasn't before, that of removals by one for each key that was and isn't.
pub record Rekeyed (before after : Content) (asked old new : List Key) : Type 0 where
  pub procs : after.procs ≡ before.procs
  pub nets : after.nets ≡ before.nets
  pub state : after.state ≡ before.state
  pub keys : (k : Key) → has k after.keys ≡ (among k new && (has k before.keys || among k asked))
  pub counts : after.counts ≡ record before.counts {
    primed = raised_times (count_keys (λ k. has k after.keys && not (has k before.keys)) new) before.counts.primed;
    removed = raised_times (count_keys (λ k. has k before.keys && not (has k after.keys)) old) before.counts.removed;
  }

-- Of what a simulator holds only the counts of registrations and removals have changed.
pub record KeepsKeys (before after : Content) : Type 0 where
  pub procs : after.procs ≡ before.procs
  pub nets : after.nets ≡ before.nets
  pub state : after.state ≡ before.state
  pub keys : (k : Key) → has k after.keys ≡ has k before.keys
  pub fired : after.counts.fired ≡ before.counts.fired
