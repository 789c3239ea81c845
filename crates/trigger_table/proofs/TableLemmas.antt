-- What the table's calls ask and promise, by the keys that its records name.
use Rattle.std.proofs.Common.{◌≡◌, Bool, true, false, List, [], ◌∷◌, ◌++◌, Option, None, get_or, refl, sym, ap, ◌∙◌}
use Rattle.std.proofs.lemmas.Bool.{false≢true}
use Rattle.std.specs.Prelude.{Result, Ok, Err, OnOk}
use Rattle.gpi.specs.Content.{Content}
use Rattle.gpi.specs.Keys.{among, has, same_key}
use Rattle.gpi.specs.declared.types.Key.{Key}
use Rattle.await_tree.specs.WaitList.Keys.{AreAlike, AreKeys, AreKeysBut, Rekeyed}
use Rattle.await_tree.specs.WaitList.Parts.{Fits, Joins}
use Rattle.await_tree.specs.WaitList.Waiting.{keys_of, named}
use Rattle.await_tree.proofs.WaitListLemmas.Members.{alike, among_first, among_right, or_right, within_both, within_self}
use Rattle.await_tree.proofs.WaitListLemmas.Rekeys.{fits_alike, fits_unfired, rekeyed_alike, rekeyed_joined}
use Rattle.trigger_table.specs.Keys.{record_keys, runner_keys}
use Rattle.trigger_table.specs.State.{Row, State}
use Rattle.trigger_table.specs.Tied.{IsKept, are_tied, waiting_in}
use Rattle.trigger_table.specs.declared.entries.CauseRecord.{CauseRecord}
use Rattle.trigger_table.proofs.TieLemmas.{names_alike, needed_of, tied_of}

abbrev pub names : State → List Key
names s = named (waiting_in s.rows) (runner_keys s.causes)

pub named_records : (s : State) → IsKept s → AreAlike (names s) (record_keys s.causes)
named_records s kept = names_alike s (needed_of s kept) (tied_of s kept)

pub but_records : (c : Content) (s : State) → IsKept s → AreKeysBut c.keys (runner_keys s.causes) (names s) → AreKeysBut c.keys (runner_keys s.causes) (record_keys s.causes)
but_records c s kept b = (fits_alike c [] (runner_keys s.causes) (names s) (record_keys s.causes) (named_records s kept) (fits_unfired c (runner_keys s.causes) (names s) b)).keys

pub fits_records : (c : Content) (s : State) → IsKept s → AreKeysBut c.keys (runner_keys s.causes) (names s) → Fits c [] (runner_keys s.causes) (record_keys s.causes)
fits_records c s kept b = fits_alike c [] (runner_keys s.causes) (names s) (record_keys s.causes) (named_records s kept) (fits_unfired c (runner_keys s.causes) (names s) b)

pub fired_records : (c : Content) (fired : List Key) (s : State) → IsKept s → AreKeysBut c.keys (fired ++ runner_keys s.causes) (names s) → AreKeysBut c.keys (fired ++ runner_keys s.causes) (record_keys s.causes)
fired_records c fired s kept b = (fits_alike c [] (fired ++ runner_keys s.causes) (names s) (record_keys s.causes) (named_records s kept) (fits_unfired c (fired ++ runner_keys s.causes) (names s) b)).keys

pub keys_records : (c : Content) (s : State) → IsKept s → AreKeys c.keys (names s) → AreKeys c.keys (record_keys s.causes)
keys_records c s kept g k = g k ∙ named_records s kept k

pub rekeyed_names : (a b : Content) (asked : List Key) (s s' : State) → IsKept s → IsKept s' → Rekeyed a b asked (record_keys s.causes) (record_keys s'.causes) → Rekeyed a b asked (names s) (names s')
rekeyed_names a b asked s s' kept kept' h =
    rekeyed_alike a b asked asked (record_keys s.causes) (names s) (record_keys s'.causes) (names s') (λ k. refl) (λ k. sym (named_records s kept k)) (λ k. sym (named_records s' kept' k)) h

-- a key that the runner doesn't hold is registered where it has a record
pub key_known : (c : Content) (s : State) (key : Key) → IsKept s → AreKeysBut c.keys (runner_keys s.causes) (names s) → among key (runner_keys s.causes) ≡ false → has key c.keys ≡ among key (record_keys s.causes)
key_known c s key kept b free = alike (has key c.keys) (among key (record_keys s.causes)) (λ h. (but_records c s kept b).within key h) (λ m. known (has key c.keys) refl m)
  where
    known : (h : Bool) → has key c.keys ≡ h → among key (record_keys s.causes) ≡ true → has key c.keys ≡ true
    known true is m = is
    known false is m = absurd (false≢true (sym free ∙ (but_records c s kept b).rest key m is))

pub held_rekeyed : (a b : Content) (key : Key) (s s' : State) → s'.rows ≡ s.rows → Joins a key b → AreKeysBut a.keys (runner_keys s.causes) (names s) → AreAlike (runner_keys s'.causes) (key ∷ runner_keys s.causes)
    → Rekeyed a b (key ∷ []) (names s) (names s')
held_rekeyed a b key s s' rows j but held =
    rekeyed_joined a b key (names s) (names s') j
    (among_right key (keys_of (waiting_in s'.rows)) (runner_keys s'.causes) (held key ∙ among_first key (runner_keys s.causes)))
    (λ k h. ap (λ (rs : List Row). among k (named (waiting_in rs) (runner_keys s'.causes))) rows
    ∙ within_both (keys_of (waiting_in s.rows)) (keys_of (waiting_in s.rows)) (runner_keys s.causes) (runner_keys s'.causes) (within_self (keys_of (waiting_in s.rows)))
    (λ i m. held i ∙ or_right (same_key i key) (among i (runner_keys s.causes)) m) k (but.within k h))

pub empty_kept : (s : State) → s.rows ≡ [] → s.causes ≡ [] → IsKept s
empty_kept s rows causes = record {
  needed = λ number some. absurd (some (ap (λ (cs : List (Option CauseRecord)). get_or cs number None) causes));
  tied = ap (are_tied s.causes) rows;
}

pub both_ok : {T E : Type 0} (r : Result T E) (P Q R : Type 0) → OnOk r P → OnOk r Q → (P → Q → R) → OnOk r R
both_ok (Ok x) P Q R p q f = f p q
both_ok (Err e) P Q R p q f = tt
