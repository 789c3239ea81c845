-- A means of proof: what events and writes fire.
use Rattle.std.specs.Prelude.{◌≡◌, ◌≤◌, ◌<◌, true, [], ◌∷◌, length}
use Rattle.gpi.specs.Content.{Content, IsChangeOf}
use Rattle.gpi.specs.Events.{Event}
use Rattle.gpi.specs.Keys.{Keys, among, has}
use Rattle.gpi.specs.declared.types.Key.{Key}
use Rattle.gpi.specs.declared.types.Key.TheVariants as key
use Rattle.gpi.specs.declared.types.Region.TheVariants.{Settle}
use Rattle.gpi.specs.declared.types.SigId.{SigId}
use Rattle.await_tree.specs.WaitList.Keys.{AreApart, IsOfDesign}

-- the key is an edge or a change of some signal
abbrev pub IsEdge : Key → Type 0
IsEdge (key.Rise sig) = Unit {0}
IsEdge (key.Fall sig) = Unit {0}
IsEdge (key.Change sig) = Unit {0}
IsEdge k = ⊥

-- An event fires at most two keys, which differ. Where it fires ReadWrite, it fires that alone, and the region is Settle then. Where its change is of the
-- design, so are its keys.
pub record Fires (e : Event) : Type 0 where
  pub few : length e.fired ≤ 2
  pub apart : AreApart e.fired
  pub alone : among key.ReadWrite e.fired ≡ true → e.fired ≡ key.ReadWrite ∷ []
  pub settled : among key.ReadWrite e.fired ≡ true → e.state.region ≡ Settle
  pub signals : (content : Content) → IsChangeOf (length content.state.signals) e.told → (k : Key) → among k e.fired ≡ true → IsOfDesign content k

-- A write of a signal fires at most two keys, which differ, were registered, and are edges or changes of that signal.
pub record PutFires (keys : Keys) (sig : SigId) (e : Event) : Type 0 where
  pub few : length e.fired ≤ 2
  pub apart : AreApart e.fired
  pub edges : (k : Key) → among k e.fired ≡ true → IsEdge k
  pub there : (k : Key) → among k e.fired ≡ true → has k keys ≡ true
  pub signals : (content : Content) → sig.0 < length content.state.signals → (k : Key) → among k e.fired ≡ true → IsOfDesign content k
