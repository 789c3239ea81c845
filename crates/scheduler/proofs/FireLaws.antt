-- What events and writes fire.
use Rattle.std.proofs.Common.{◌≡◌, ℕ, ◌<◌, ◌≤◌, ◌==◌, ◌||◌, ◌&&◌, Bool, true, false, not, if◌then◌else◌, List, [], ◌∷◌, ◌++◌, length, Option, None, Some, get_or, refl, sym, subst, arith}
use Rattle.std.specs.Prelude.{slice_set}
use Rattle.four_value.specs.declared.Digit.{Digit}
use Rattle.four_value.specs.declared.Digit.TheVariants.{Zero, One, X, Z}
use Rattle.four_value.specs.Vector.{digit_at, same_digits}
use Rattle.gpi.specs.Activation.{with_part}
use Rattle.gpi.specs.Content.{Content}
use Rattle.gpi.specs.Design.{Proc}
use Rattle.gpi.specs.Events.{Event, event, put_over, put, release_over, show, or_else, if_has, level_keys, edge_keys, tells, unseen, value_at, hidden_at, stored_at, with_hidden, write_change, report_case, due_case, active_case, later_case, settle_case, end_case, time_case}
use Rattle.gpi.specs.Keys.{Keys, has, among, least, same_key, fired_of}
use Rattle.gpi.specs.State.{State, is_end, woken, arriving, waiting_on, delayed_times}
use Rattle.gpi.specs.declared.types.Key.{Key}
use Rattle.gpi.specs.declared.types.Key.TheVariants as key
use Rattle.gpi.specs.declared.types.Region.TheVariants as region
use Rattle.gpi.specs.declared.types.Report.{Report}
use Rattle.gpi.specs.declared.types.SigId.{SigId}
use Rattle.gpi.specs.declared.types.Update.{Update}
use Rattle.gpi.specs.declared.types.Write.{Write}
use Rattle.gpi.specs.declared.types.Write.TheVariants.{Plain, Force, Freeze, Release}
use Rattle.await_tree.specs.WaitList.Keys.{AreApart, IsOfDesign}
use Rattle.await_tree.specs.WaitList.Waiting.{fired_keys}
use Rattle.run_state.proofs.QueueLemmas.KeyLaws.{same_is}
use Rattle.scheduler.specs.Fires.{Fires, IsEdge, PutFires}
use Rattle.scheduler.specs.Written.{written_in}

-- at most two keys are told whole
pub told_back : (ks : List Key) → length ks ≤ 2 → fired_keys (fired_of ks) ≡ ks
told_back [] h = refl
told_back (a ∷ []) h = refl
told_back (a ∷ b ∷ []) h = refl
told_back (a ∷ b ∷ c ∷ ks) h = absurd (let n : length (a ∷ b ∷ c ∷ ks) ≤ 2 = h in omega arith)

-- what holds of a key, and of each key of a list, holds of each where the key stands in front
all_more : (P : Key → Type 0) (x : Key) (ks : List Key) → P x → ((k : Key) → among k ks ≡ true → P k) → (k : Key) → among k (x ∷ ks) ≡ true → P k
all_more P x ks p more k h = decided (same_key k x) refl h
  where
    decided : (b : Bool) → same_key k x ≡ b → (b || among k ks) ≡ true → P k
    decided true e m = subst P (sym (same_is k x e)) p
    decided false e m = more k m

all_none : (P : Key → Type 0) (k : Key) → among k [] ≡ true → P k
all_none P k h = cc

-- ---- keys of a change

-- the key is an edge or a change of this signal
abbrev IsOfSignal : SigId → Key → Type 0
IsOfSignal sig (key.Rise s) = s ≡ sig
IsOfSignal sig (key.Fall s) = s ≡ sig
IsOfSignal sig (key.Change s) = s ≡ sig
IsOfSignal sig k = ⊥

is_edge : (sig : SigId) (k : Key) → IsOfSignal sig k → IsEdge k
is_edge sig (key.Rise s) h = tt
is_edge sig (key.Fall s) h = tt
is_edge sig (key.Change s) h = tt
is_edge sig (key.At t) h = h
is_edge sig key.ReadWrite h = h
is_edge sig key.ReadOnly h = h
is_edge sig key.NextStep h = h

of_design : (sig : SigId) (content : Content) (k : Key) → sig.0 < length content.state.signals → IsOfSignal sig k → IsOfDesign content k
of_design sig content (key.Rise s) h e = subst (λ (t : SigId). t.0 < length content.state.signals) (sym e) h
of_design sig content (key.Fall s) h e = subst (λ (t : SigId). t.0 < length content.state.signals) (sym e) h
of_design sig content (key.Change s) h e = subst (λ (t : SigId). t.0 < length content.state.signals) (sym e) h
of_design sig content (key.At t) h e = tt
of_design sig content key.ReadWrite h e = tt
of_design sig content key.ReadOnly h e = tt
of_design sig content key.NextStep h e = tt

-- the key is of this signal and registered
abbrev IsThere : SigId → Keys → Key → Type 0
IsThere sig keys k = IsOfSignal sig k × (has k keys ≡ true)

-- registered keys of a signal, at most two, which differ
record AreEdges (sig : SigId) (keys : Keys) (ks : List Key) : Type 0 where
  few : length ks ≤ 2
  apart : AreApart ks
  own : (k : Key) → among k ks ≡ true → IsThere sig keys k

edges_both : (sig : SigId) (keys : Keys) (a c : Bool) (x : Key) → IsOfSignal sig x → same_key x (key.Change sig) ≡ false → (a ≡ true → has x keys ≡ true) → (c ≡ true → has (key.Change sig) keys ≡ true)
    → AreEdges sig keys ((if a then x ∷ [] else []) ++ (if c then key.Change sig ∷ [] else []))
edges_both sig keys true true x o d h k = record {
  few = omega arith;
  apart = (rw d refl, (refl, tt));
  own = all_more (IsThere sig keys) x (key.Change sig ∷ []) (o, h refl) (all_more (IsThere sig keys) (key.Change sig) [] (refl, k refl) (all_none (IsThere sig keys)));
}
edges_both sig keys true false x o d h k = record {
  few = omega arith;
  apart = (refl, tt);
  own = all_more (IsThere sig keys) x [] (o, h refl) (all_none (IsThere sig keys));
}
edges_both sig keys false true x o d h k = record {
  few = omega arith;
  apart = (refl, tt);
  own = all_more (IsThere sig keys) (key.Change sig) [] (refl, k refl) (all_none (IsThere sig keys));
}
edges_both sig keys false false x o d h k = record { few = omega arith; apart = tt; own = all_none (IsThere sig keys) }

never : (b : Bool) → false ≡ true → b ≡ true
never b h = cc

level_edges : (sig : SigId) (d : Digit) (keys : Keys) → AreEdges sig keys (level_keys sig d keys ++ if_has (key.Change sig) keys)
level_edges sig One keys = edges_both sig keys (has (key.Rise sig) keys) (has (key.Change sig) keys) (key.Rise sig) refl refl (λ h. h) (λ h. h)
level_edges sig Zero keys = edges_both sig keys (has (key.Fall sig) keys) (has (key.Change sig) keys) (key.Fall sig) refl refl (λ h. h) (λ h. h)
level_edges sig X keys = edges_both sig keys false (has (key.Change sig) keys) (key.Rise sig) refl refl (never (has (key.Rise sig) keys)) (λ h. h)
level_edges sig Z keys = edges_both sig keys false (has (key.Change sig) keys) (key.Rise sig) refl refl (never (has (key.Rise sig) keys)) (λ h. h)

change_edges : (c : Report) (keys : Keys) → AreEdges c.sig keys (edge_keys c keys)
change_edges c keys = decided (length c.after == 1)
  where
    decided : (b : Bool) → AreEdges c.sig keys ((if b then level_keys c.sig (digit_at c.after 0) keys else []) ++ if_has (key.Change c.sig) keys)
    decided true = level_edges c.sig (digit_at c.after 0) keys
    decided false = level_edges c.sig X keys

put_change : (ps : List Proc) (s : State) (keys : Keys) (c : Report) → PutFires keys c.sig (write_change ps s keys c)
put_change ps s keys c = decided (same_digits c.before c.after) (change_edges c keys)
  where
    decided : (b : Bool) → AreEdges c.sig keys (edge_keys c keys)
        → PutFires keys c.sig (let e : Event = if b then record { state = s; told = None; fired = [] } else record {
          state = record s { signals = slice_set s.signals c.sig.0 c.after; active = s.active ++ woken 0 ps (c ∷ []) s.active };
          told = tells c;
          fired = edge_keys c keys;
        } in e)
    decided true h = record {
      few = omega arith;
      apart = tt;
      edges = all_none IsEdge;
      there = all_none (λ (k : Key). has k keys ≡ true);
      signals = λ content n. all_none (IsOfDesign content);
    }
    decided false h = record {
      few = h.few;
      apart = h.apart;
      edges = λ k m. is_edge c.sig k (h.own k m).0;
      there = λ k m. (h.own k m).1;
      signals = λ content n k m. of_design c.sig content k n (h.own k m).0;
    }

-- nothing fires
unseen_fires : (keys : Keys) (sig : SigId) (s : State) → PutFires keys sig (unseen s)
unseen_fires keys sig s = record {
  few = omega arith;
  apart = tt;
  edges = all_none IsEdge;
  there = all_none (λ (k : Key). has k keys ≡ true);
  signals = λ content n. all_none (IsOfDesign content);
}

show_fires : (ps : List Proc) (s : State) (keys : Keys) (sig : SigId) (bits : List Digit) → PutFires keys sig (show ps s keys sig bits)
show_fires ps s keys sig bits = put_change ps s keys (record { sig = sig; before = value_at s sig; after = bits })

put_over_fires : (o : Option (List Digit)) (ps : List Proc) (s : State) (keys : Keys) (sig : SigId) (bits : List Digit) → PutFires keys sig (put_over o ps s keys sig bits)
put_over_fires None ps s keys sig bits = show_fires ps s keys sig bits
put_over_fires (Some ds) ps s keys sig bits = unseen_fires keys sig (with_hidden s sig (Some bits))

-- ---- the region stays

show_region : (ps : List Proc) (s : State) (keys : Keys) (sig : SigId) (bits : List Digit) → (show ps s keys sig bits).state.region ≡ s.region
show_region ps s keys sig bits = decided (same_digits (value_at s sig) bits) refl
  where
    decided : (b : Bool) → same_digits (value_at s sig) bits ≡ b → (show ps s keys sig bits).state.region ≡ s.region
    decided true e = rw e refl
    decided false e = rw e refl

put_region : (o : Option (List Digit)) (ps : List Proc) (s : State) (keys : Keys) (sig : SigId) (bits : List Digit) → (put_over o ps s keys sig bits).state.region ≡ s.region
put_region None ps s keys sig bits = show_region ps s keys sig bits
put_region (Some ds) ps s keys sig bits = refl

release_region : (o : Option (List Digit)) (net : Bool) (ps : List Proc) (s : State) (keys : Keys) (sig : SigId) → (release_over o net ps s keys sig).state.region ≡ s.region
release_region None net ps s keys sig = refl
release_region (Some ds) true ps s keys sig = show_region ps (with_hidden s sig None) keys sig ds
release_region (Some ds) false ps s keys sig = refl

pub write_region : (k : Content) (sig : SigId) (act : Write) → (written_in k sig act).state.region ≡ k.state.region
write_region k sig (Plain bits) = put_region (hidden_at k.state sig) k.procs k.state k.keys sig bits
write_region k sig (Force bits) = show_region k.procs (with_hidden k.state sig (Some (stored_at k.state sig))) k.keys sig bits
write_region k sig Freeze = show_region k.procs (with_hidden k.state sig (Some (stored_at k.state sig))) k.keys sig (value_at k.state sig)
write_region k sig Release = release_region (hidden_at k.state sig) (get_or k.nets sig.0 false) k.procs k.state k.keys sig

-- ---- what writes fire

-- what a deposit fires
pub put_fires : (ps : List Proc) (s : State) (keys : Keys) (sig : SigId) (bits : List Digit) → PutFires keys sig (put ps s keys sig bits)
put_fires ps s keys sig bits = put_over_fires (hidden_at s sig) ps s keys sig bits

release_fires : (o : Option (List Digit)) (net : Bool) (ps : List Proc) (s : State) (keys : Keys) (sig : SigId) → PutFires keys sig (release_over o net ps s keys sig)
release_fires None net ps s keys sig = unseen_fires keys sig s
release_fires (Some ds) true ps s keys sig = show_fires ps (with_hidden s sig None) keys sig ds
release_fires (Some ds) false ps s keys sig = unseen_fires keys sig (with_hidden s sig None)

-- what a write fires
pub act_fires : (k : Content) (sig : SigId) (act : Write) → PutFires k.keys sig (written_in k sig act)
act_fires k sig (Plain bits) = put_fires k.procs k.state k.keys sig bits
act_fires k sig (Force bits) = show_fires k.procs (with_hidden k.state sig (Some (stored_at k.state sig))) k.keys sig bits
act_fires k sig Freeze = show_fires k.procs (with_hidden k.state sig (Some (stored_at k.state sig))) k.keys sig (value_at k.state sig)
act_fires k sig Release = release_fires (hidden_at k.state sig) (get_or k.nets sig.0 false) k.procs k.state k.keys sig

-- ---- events

no_phase : (sig : SigId) (keys : Keys) (ks : List Key) → AreEdges sig keys ks → among key.ReadWrite ks ≡ true → ⊥
no_phase sig keys ks h m = (h.own key.ReadWrite m).0

-- an event that tells a change
change_fires : (s : State) (c : Report) (keys : Keys) → Fires (record { state = s; told = tells c; fired = edge_keys c keys })
change_fires s c keys =
    let h : AreEdges c.sig keys (edge_keys c keys) = change_edges c keys in
    record {
      few = h.few;
      apart = h.apart;
      alone = λ m. absurd (no_phase c.sig keys (edge_keys c keys) h m);
      settled = λ m. absurd (no_phase c.sig keys (edge_keys c keys) h m);
      signals = λ content n k m. of_design c.sig content k n (h.own k m).0;
    }

-- an event that fires nothing
nothing_fires : (e : Event) → e.fired ≡ [] → Fires e
nothing_fires e h = record {
  few = rw h (omega arith);
  apart = rw h tt;
  alone = rw h (λ m. cc);
  settled = rw h (λ m. cc);
  signals = λ content n. rw h (all_none (IsOfDesign content));
}

write_fires : (ps : List Proc) (s : State) (keys : Keys) (c : Report) → Fires (write_change ps s keys c)
write_fires ps s keys c = decided (same_digits c.before c.after)
  where
    decided : (b : Bool)
        → Fires (let e : Event = if b then record { state = s; told = None; fired = [] } else record {
          state = record s { signals = slice_set s.signals c.sig.0 c.after; active = s.active ++ woken 0 ps (c ∷ []) s.active };
          told = tells c;
          fired = edge_keys c keys;
        } in e)
    decided true = nothing_fires (record { state = s; told = None; fired = [] }) refl
    decided false = change_fires (record s { signals = slice_set s.signals c.sig.0 c.after; active = s.active ++ woken 0 ps (c ∷ []) s.active }) c keys

written_fires : (o : Option (List Digit)) (ps : List Proc) (s : State) (keys : Keys) (sig : SigId) (bits : List Digit) → Fires (put_over o ps s keys sig bits)
written_fires None ps s keys sig bits = write_fires ps s keys (record { sig = sig; before = value_at s sig; after = bits })
written_fires (Some ds) ps s keys sig bits = nothing_fires (unseen (with_hidden s sig (Some bits))) refl

abbrev FiresIf : Option Event → Type 0
FiresIf None = Unit {0}
FiresIf (Some e) = Fires e

either : (a b : Option Event) → FiresIf a → FiresIf b → FiresIf (or_else a b)
either None b h k = k
either (Some e) b h k = h

report_fires : (s : State) (keys : Keys) (cs : List Report) → FiresIf (report_case s keys cs)
report_fires s keys [] = tt
report_fires s keys (c ∷ cs) = change_fires (record s { reports = cs; region = region.Active }) c keys

due_fires : (ps : List Proc) (t : State) (keys : Keys) (us : List Update) → FiresIf (due_case ps t keys us)
due_fires ps t keys [] = tt
due_fires ps t keys (u ∷ us) =
    let s : State = record t { due = us; region = region.Active } in
    written_fires (hidden_at s u.sig) ps s keys u.sig (with_part (stored_at t u.sig) u.low u.bits)

active_fires : (ps : List Proc) (s : State) (ns : List ℕ) → FiresIf (active_case ps s ns)
active_fires ps s [] = tt
active_fires ps s (p ∷ rest) = record { few = omega arith; apart = tt; alone = λ e. cc; settled = λ e. cc; signals = λ content n. all_none (IsOfDesign content) }

settle_fires : (s : State) (b : Bool) → FiresIf (let o : Option Event = if b then Some (record { state = record s { region = region.Settle }; told = None; fired = key.ReadWrite ∷ [] }) else None in o)
settle_fires s true = record {
  few = omega arith;
  apart = (refl, tt);
  alone = λ e. refl;
  settled = λ e. refl;
  signals = λ content n. all_more (IsOfDesign content) key.ReadWrite [] tt (all_none (IsOfDesign content));
}
settle_fires s false = tt

end_fires : (s : State) (b c : Bool)
    → FiresIf (let o : Option Event = if b && c then Some (record { state = record s { region = region.End }; told = None; fired = key.ReadOnly ∷ [] }) else None in o)
end_fires s true true = record {
  few = omega arith;
  apart = (refl, tt);
  alone = λ e. cc;
  settled = λ e. cc;
  signals = λ content n. all_more (IsOfDesign content) key.ReadOnly [] tt (all_none (IsOfDesign content));
}
end_fires s true false = tt
end_fires s false c = tt

time_fires : (s : State) (keys : Keys) (o : Option ℕ) → FiresIf (time_case s keys o)
time_fires s keys None = tt
time_fires s keys (Some t) = decided (has key.NextStep keys) (has (key.At t) keys)
  where
    decided : (b c : Bool) → Fires (record {
      state = record s { later = arriving t s.delayed; delayed = waiting_on t s.delayed; time = t; region = region.Begin };
      told = None;
      fired = (if b then key.NextStep ∷ [] else []) ++ (if c then key.At t ∷ [] else []);
    })
    decided true true = record {
      few = omega arith;
      apart = (refl, (refl, tt));
      alone = λ e. cc;
      settled = λ e. cc;
      signals = λ content n. all_more (IsOfDesign content) key.NextStep (key.At t ∷ []) tt (all_more (IsOfDesign content) (key.At t) [] tt (all_none (IsOfDesign content)));
    }
    decided true false = record {
      few = omega arith;
      apart = (refl, tt);
      alone = λ e. cc;
      settled = λ e. cc;
      signals = λ content n. all_more (IsOfDesign content) key.NextStep [] tt (all_none (IsOfDesign content));
    }
    decided false true = record {
      few = omega arith;
      apart = (refl, tt);
      alone = λ e. cc;
      settled = λ e. cc;
      signals = λ content n. all_more (IsOfDesign content) (key.At t) [] tt (all_none (IsOfDesign content));
    }
    decided false false = record { few = omega arith; apart = tt; alone = λ e. cc; settled = λ e. cc; signals = λ content n. all_none (IsOfDesign content) }

event_if : (ps : List Proc) (s : State) (keys : Keys) → FiresIf (event ps s keys)
event_if ps s keys =
    either (report_case s keys s.reports) _ (report_fires s keys s.reports)
    (either (due_case ps s keys s.due) _ (due_fires ps s keys s.due)
    (either (active_case ps s s.active) _ (active_fires ps s s.active)
    (either (later_case ps s keys) _ (due_fires ps (record s { later = [] }) keys s.later)
    (either (settle_case s keys) _ (settle_fires s (has key.ReadWrite keys && not (is_end s.region)))
    (either (end_case s keys) (time_case s keys (least (delayed_times s.delayed ++ keys.times))) (end_fires s (has key.ReadOnly keys) (not (is_end s.region)))
    (time_fires s keys (least (delayed_times s.delayed ++ keys.times))))))))

-- what an event fires
pub event_fires : (ps : List Proc) (s : State) (keys : Keys) (e : Event) → event ps s keys ≡ Some e → Fires e
event_fires ps s keys e h = subst FiresIf h (event_if ps s keys)
