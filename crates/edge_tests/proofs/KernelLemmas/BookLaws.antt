-- The book stays that of the simulator.
use Rattle.std.proofs.Common.{◌≡◌, ◌&&◌, ◌||◌, not, Bool, false, suc, List, [], ◌∷◌, ◌++◌, Option, Some, None, length, take, refl, ap, sym, ◌∙◌, subst}
use Rattle.std.proofs.Math.Seq.{take-append_seam}
use Rattle.std.specs.List.{list_any}
use Rattle.four_value.specs.declared.Digit.{Digit}
use Rattle.gpi.specs.Content.{Content, Answers, Does, Registers, Removes, no_design, opening}
use Rattle.gpi.specs.Design.{start_map}
use Rattle.gpi.specs.Events.{Event, event, put, force, release}
use Rattle.gpi.specs.Keys.{among, fired_of, has, no_keys, same_key}
use Rattle.gpi.specs.State.{State}
use Rattle.gpi.specs.Terms.{widths_of}
use Rattle.gpi.specs.declared.design.Flat.{Flat}
use Rattle.gpi.specs.declared.design.Signal.{Signal}
use Rattle.gpi.specs.declared.types.Advance.TheVariants as advance
use Rattle.gpi.specs.declared.types.Fired.{Fired}
use Rattle.gpi.specs.declared.types.Key.{Key}
use Rattle.gpi.specs.declared.types.Key.TheVariants.{At, Rise, Fall, Change, ReadWrite, ReadOnly, NextStep}
use Rattle.gpi.specs.declared.types.Moved.{Moved}
use Rattle.gpi.specs.declared.types.SigId.{SigId}
use Rattle.edge_tests.specs.Kernel.Calls.{IsBook}
use Rattle.edge_tests.specs.Kernel.Keys.{keys_in, without, without_all}
use Rattle.edge_tests.specs.declared.kernel.booked.Book.{Book}
use Rattle.edge_tests.proofs.KernelLemmas.KeyLaws.{AreFew, among_push, among_without_all, event_few, put_few, force_few, release_few, told_back}

pub among_any : (key : Key) (keys : List Key) → list_any (same_key key) keys ≡ among key keys
among_any key [] = refl
among_any key (k ∷ ks) = ap (λ (b : Bool). same_key key k || b) (among_any key ks)

start_length : (signals : List Signal) → length (start_map signals) ≡ length signals
start_length [] = refl
start_length (s ∷ signals) = ap suc (start_length signals)

same_length : (m n : List (List Digit)) → widths_of m ≡ widths_of n → length m ≡ length n
same_length m n w = sym (counted m) ∙ ap length w ∙ counted n
  where
    counted : (m : List (List Digit)) → length (widths_of m) ≡ length m
    counted [] = refl
    counted (bits ∷ m) = ap suc (counted m)

none_has : (key : Key) → has key no_keys ≡ false
none_has (At time) = refl
none_has (Rise sig) = refl
none_has (Fall sig) = refl
none_has (Change sig) = refl
none_has ReadWrite = refl
none_has ReadOnly = refl
none_has NextStep = refl

pub opening_book : (flat : Flat) (after : Content) (book : Book)
    → after ≡ opening flat → book.signals ≡ length flat.signals → book.keys.items ≡ [] → IsBook book after
opening_book flat after book is signals keys = record {
  signals = signals ∙ sym (ap (λ (c : Content). length c.state.signals) is ∙ start_length flat.signals);
  keys = λ key. ap (λ (c : Content). has key c.keys) is ∙ none_has key ∙ sym (ap (among key) keys);
}

-- no design
pub no_book : (after : Content) (book : Book) → after ≡ no_design → book.signals ≡ 0 → book.keys.items ≡ [] → IsBook book after
no_book after book is signals keys = record {
  signals = signals ∙ sym (ap (λ (c : Content). length c.state.signals) is);
  keys = λ key. ap (λ (c : Content). has key c.keys) is ∙ none_has key ∙ sym (ap (among key) keys);
}

-- nothing has changed
pub kept_book : (before after : Content) (book new : Book)
    → IsBook book before → after ≡ before → new.signals ≡ book.signals → new.keys.items ≡ book.keys.items → IsBook new after
kept_book before after book new b is signals keys = record {
  signals = signals ∙ b.signals ∙ sym (ap (λ (c : Content). length c.state.signals) is);
  keys = λ key. ap (λ (c : Content). has key c.keys) is ∙ b.keys key ∙ sym (ap (among key) keys);
}

-- a key was put into the book and taken out again
pub undone : (key : Key) (before after : Content) (book new : Book) (kept : List Key)
    → IsBook book before → after ≡ before → new.signals ≡ book.signals → kept ≡ book.keys.items ++ key ∷ []
    → new.keys.items ≡ take (length book.keys.items) kept → IsBook new after
undone key before after book new kept b is signals more keys =
    kept_book before after book new b is signals
    (keys ∙ ap (take (length book.keys.items)) more ∙ take-append_seam book.keys.items (key ∷ []))

-- a key is registered
pub noted : (key : Key) (before after : Content) (book new : Book)
    → IsBook book before → Registers before key after → new.signals ≡ book.signals → new.keys.items ≡ book.keys.items ++ key ∷ [] → IsBook new after
noted key before after book new b r signals keys = record {
  signals = signals ∙ b.signals ∙ ap (λ (s : State). length s.signals) (sym r.state);
  keys = λ x.
      r.keys x ∙ ap (λ (h : Bool). same_key x key || h) (b.keys x)
      ∙ sym (ap (among x) keys ∙ among_push x key book.keys.items);
}

-- a key is removed
pub struck : (key : Key) (before after : Content) (book new : Book)
    → IsBook book before → Removes before key after → new.signals ≡ book.signals → new.keys.items ≡ without key book.keys.items → IsBook new after
struck key before after book new b r signals keys = record {
  signals = signals ∙ b.signals ∙ ap (λ (s : State). length s.signals) (sym r.state);
  keys = λ x.
      r.keys x ∙ ap (λ (h : Bool). h && not (among x (key ∷ []))) (b.keys x)
      ∙ sym (ap (among x) keys ∙ among_without_all x (key ∷ []) book.keys.items);
}

-- keys fired
fired_out : (e : Event) (fired : Fired) (before after : Content) (book new : Book)
    → IsBook book before → AreFew e → fired ≡ fired_of e.fired → Does before e after
    → widths_of after.state.signals ≡ widths_of before.state.signals
    → new.signals ≡ book.signals → new.keys.items ≡ without_all (keys_in fired) book.keys.items → IsBook new after
fired_out e fired before after book new b few is does widths signals keys = record {
  signals = signals ∙ b.signals ∙ sym (same_length after.state.signals before.state.signals widths);
  keys = λ x.
      does.keys x ∙ ap (λ (h : Bool). h && not (among x e.fired)) (b.keys x)
      ∙ sym (ap (among x) keys ∙ among_without_all x (keys_in fired) book.keys.items
      ∙ ap (λ (ks : List Key). among x book.keys.items && not (among x ks)) (ap keys_in is ∙ told_back e.fired few));
}

-- by a deposit
pub put_out : (before after : Content) (sig : SigId) (bits : List Digit) (fired : Fired) (book new : Book)
    → IsBook book before
    → fired ≡ fired_of (put before.procs before.state before.keys sig bits).fired → Does before (put before.procs before.state before.keys sig bits) after
    → widths_of after.state.signals ≡ widths_of before.state.signals
    → new.signals ≡ book.signals → new.keys.items ≡ without_all (keys_in fired) book.keys.items → IsBook new after
put_out before after sig bits fired book new b is does widths signals keys =
    let e : Event = put before.procs before.state before.keys sig bits in
    fired_out e fired before after book new b (put_few before.procs before.state before.keys sig bits) is does widths signals keys

-- by a force
pub force_out : (before after : Content) (sig : SigId) (bits : List Digit) (fired : Fired) (book new : Book)
    → IsBook book before
    → fired ≡ fired_of (force before.procs before.state before.keys sig bits).fired → Does before (force before.procs before.state before.keys sig bits) after
    → widths_of after.state.signals ≡ widths_of before.state.signals
    → new.signals ≡ book.signals → new.keys.items ≡ without_all (keys_in fired) book.keys.items → IsBook new after
force_out before after sig bits fired book new b is does widths signals keys =
    let e : Event = force before.procs before.state before.keys sig bits in
    fired_out e fired before after book new b (force_few before.procs before.state before.keys sig bits) is does widths signals keys

-- by a release
pub release_out : (before after : Content) (sig : SigId) (fired : Fired) (book new : Book)
    → IsBook book before
    → fired ≡ fired_of (release before.procs before.nets before.state before.keys sig).fired → Does before (release before.procs before.nets before.state before.keys sig) after
    → widths_of after.state.signals ≡ widths_of before.state.signals
    → new.signals ≡ book.signals → new.keys.items ≡ without_all (keys_in fired) book.keys.items → IsBook new after
release_out before after sig fired book new b is does widths signals keys =
    let e : Event = release before.procs before.nets before.state before.keys sig in
    fired_out e fired before after book new b (release_few before.procs before.nets before.state before.keys sig) is does widths signals keys

-- by an event
pub event_out : (before after : Content) (m : Moved) (book new : Book)
    → IsBook book before → Answers before (event before.procs before.state before.keys) (advance.Moved m) after
    → widths_of after.state.signals ≡ widths_of before.state.signals
    → new.signals ≡ book.signals → new.keys.items ≡ without_all (keys_in m.fired) book.keys.items → IsBook new after
event_out before after m book new b answers widths signals keys = by_event (event before.procs before.state before.keys) refl answers
  where
    moved_is : (x y : Moved) → advance.Moved x ≡ advance.Moved y → x ≡ y
    moved_is x y h = cc

    by_event : (o : Option Event) → event before.procs before.state before.keys ≡ o → Answers before o (advance.Moved m) after → IsBook new after
    by_event None q h = let no : advance.Moved m ≡ advance.Idle = h.0 in cc
    by_event (Some e) q h =
        let is : m ≡ record { change = e.told; fired = fired_of e.fired } = moved_is m (record { change = e.told; fired = fired_of e.fired }) h.0 in
        fired_out e m.fired before after book new b (event_few before.procs before.state before.keys e q)
        (ap (λ (x : Moved). x.fired) is) h.1 widths signals keys

-- nothing happened
pub idle_book : (before after : Content) (book : Book)
    → IsBook book before → Answers before (event before.procs before.state before.keys) advance.Idle after → IsBook book after
idle_book before after book b answers = by_event (event before.procs before.state before.keys) answers
  where
    by_event : (o : Option Event) → Answers before o advance.Idle after → IsBook book after
    by_event None h = subst (IsBook book) (sym h.1) b
    by_event (Some e) h = let no : advance.Idle ≡ advance.Moved (record { change = e.told; fired = fired_of e.fired }) = h.0 in cc
