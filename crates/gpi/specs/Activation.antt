-- One activation of a statement (IEEE 1364-2005, clause 9): the shown and the hidden values of the signals, and the list of updates.
use Rattle.std.specs.Prelude.{◌≡◌, ℕ, zero, suc, ◌+◌, List, [], ◌∷◌, ◌++◌, length, take, drop, map, slice_index_or, slice_set, Option, Some, None}
use Rattle.four_value.specs.declared.Digit.{Digit}
use Rattle.four_value.specs.declared.Digit.TheVariants.{One}
use Rattle.gpi.specs.declared.types.Update.{Update}
use Rattle.gpi.specs.declared.acts.Act.{Act, Empty, Block', If', Case', Blocking, Nonblocking, Row_of-Act, end_of-Act, more_of-Act}
use Rattle.gpi.specs.declared.acts.Acts.{Acts}
use Rattle.gpi.specs.Operators.{truth}
use Rattle.gpi.specs.Terms as term
use Rattle.gpi.specs.Terms.{value, width, read}
use Rattle.gpi.specs.Targets.{updates_of, target_width, IsSoundTarget}
use Rattle.gpi.specs.declared.terms.Term.{Term}
use Rattle.gpi.specs.declared.acts.CaseKind.{CaseKind}
use Rattle.gpi.specs.declared.acts.Label.{Label}
use Rattle.gpi.specs.Cases.{first_match, AreLabels, AreItems}

-- the values that the signals show, by number
abbrev pub Map : Type 0
Map = List (List Digit)

-- the hidden values, by number: a signal has one while it is forced (clause 9.3.2)
abbrev pub Hidden : Type 0
Hidden = List (Option (List Digit))

-- the statements of a list
abbrev pub acts_of : Acts → List Act
acts_of a = a.list.items

-- both maps, and the updates appended so far
pub record Run : Type 0 where
  pub signals : Map
  pub hidden : Hidden
  pub updates : List Update

-- the vector with these digits from the place low on
abbrev pub with_part : List Digit → ℕ → List Digit → List Digit
with_part ds low part = take low ds ++ (part ++ drop (low + length part) ds)

-- the hidden value of a signal
abbrev pub hidden_in : Hidden → ℕ → Option (List Digit)
hidden_in h s = slice_index_or h s None

-- digits are written into the hidden value of a signal that has one, else into the one that it shows
abbrev pub written_over : Option (List Digit) → Update → Run → Run
written_over None u r = record r { signals = slice_set r.signals u.sig.0 (with_part (slice_index_or r.signals u.sig.0 []) u.low u.bits) }
written_over (Some ds) u r = record r { hidden = slice_set r.hidden u.sig.0 (Some (with_part ds u.low u.bits)) }

abbrev pub written : Update → Run → Run
written u r = written_over (hidden_in r.hidden u.sig.0) u r

-- a blocking assignment: all indices are evaluated before the first part is written, and the parts are written in order (clause 9.2.1)
abbrev pub blocking : List Update → Run → Run
blocking [] r = r
blocking (u ∷ us) r = blocking us (written u r)

-- an update so many steps later
abbrev pub after : ℕ → Update → Update
after n u = record u { delay = n }

-- a nonblocking assignment: its updates are appended, with the delay (clause 9.2.2)
abbrev pub nonblocking : ℕ → List Update → Run → Run
nonblocking n us r = record r { updates = r.updates ++ map (after n) us }

-- the branch of `if`: the first only where the condition is true (clause 9.4)
abbrev pub by_truth : Digit → Run → Run → Run
by_truth One a b = a
by_truth _ a b = b

-- the item of a case statement, or its default (clause 9.5)
abbrev pub by_item : Option ℕ → (ℕ → Run) → Run → Run
by_item (Some k) items other = items k
by_item None items other = other

abbrev mutual
  pub activation : Act → Run → Run
  activation Empty r = r
  activation (Block' shape all) r = activations all r
  activation (If' t p a q b) r = by_truth (truth (value t (read r.signals))) (activation a r) (activation b r)
  activation (Case' kind t labels shape all p other) r =
      by_item (first_match kind (value t (read r.signals)) labels (read r.signals)) (λ k. activation_at all k r) (activation other r)
  activation (Blocking target t) r = blocking (updates_of target (read r.signals) (value t (read r.signals))) r
  activation (Nonblocking target t n) r = nonblocking n (updates_of target (read r.signals) (value t (read r.signals))) r

  pub activations : {k : _} → Row_of-Act k → Run → Run
  activations end_of-Act r = r
  activations (more_of-Act a rest) r = activations rest (activation a r)

  pub activation_at : {k : _} → Row_of-Act k → ℕ → Run → Run
  activation_at end_of-Act n r = r
  activation_at (more_of-Act a rest) zero r = activation a r
  activation_at (more_of-Act a rest) (suc n) r = activation_at rest n r

-- each hidden value has the width of its signal; ws are the widths of the signals
abbrev pub IsHidden : Option (List Digit) → ℕ → Type 0
IsHidden None w = Unit {0}
IsHidden (Some ds) w = length ds ≡ w

abbrev pub AreHidden : Hidden → List ℕ → Type 0
AreHidden [] [] = Unit {0}
AreHidden (h ∷ hs) (w ∷ ws) = IsHidden h w × AreHidden hs ws
AreHidden [] (w ∷ ws) = ⊥
AreHidden (h ∷ hs) [] = ⊥

-- how many statements a row has
abbrev pub row_length : {k : _} → Row_of-Act k → ℕ
row_length end_of-Act = 0
row_length (more_of-Act a rest) = suc (row_length rest)

-- each node has its width, and each signal is one of the design; ws are the widths of the signals
abbrev mutual
  pub IsSound : Act → List ℕ → Type 0
  IsSound Empty ws = Unit {0}
  IsSound (Block' shape all) ws = AreSound all ws
  IsSound (If' t p a q b) ws = term.IsSound t ws × IsSound a ws × IsSound b ws
  IsSound (Case' kind t labels shape all p other) ws =
      term.IsSound t ws × AreLabels labels (width t) ws × AreItems labels (row_length all) × AreSound all ws × IsSound other ws
  IsSound (Blocking target t) ws = IsSoundTarget target ws × term.IsSound t ws × (width t ≡ target_width target)
  IsSound (Nonblocking target t n) ws = IsSoundTarget target ws × term.IsSound t ws × (width t ≡ target_width target)

  pub AreSound : {k : _} → Row_of-Act k → List ℕ → Type 0
  AreSound end_of-Act ws = Unit {0}
  AreSound (more_of-Act a rest) ws = IsSound a ws × AreSound rest ws

-- ---- by lists: what a row of statements does, and its soundness

abbrev pub run_list : List Act → Run → Run
run_list [] r = r
run_list (a ∷ rest) r = run_list rest (activation a r)

-- the statement at a place alone
abbrev pub run_at : List Act → ℕ → Run → Run
run_at [] n r = r
run_at (a ∷ rest) zero r = activation a r
run_at (a ∷ rest) (suc n) r = run_at rest n r

abbrev pub SoundList : List Act → List ℕ → Type 0
SoundList [] ws = Unit {0}
SoundList (a ∷ rest) ws = IsSound a ws × SoundList rest ws

-- a has this activation and soundness
pub record MakesAct (a : Act) (run : Run → Run) (Sound : List ℕ → Type 0) : Type 0 where
  pub runs : (r : Run) → activation a r ≡ run r
  pub sound : (ws : List ℕ) → Sound ws → IsSound a ws

abbrev pub MakesBlock : Acts → Act → Type 0
MakesBlock list a = MakesAct a (run_list (acts_of list)) (SoundList (acts_of list))

abbrev pub MakesIf : Term → Act → Act → Act → Type 0
MakesIf t a b c = MakesAct c (λ r. by_truth (truth (value t (read r.signals))) (activation a r) (activation b r)) (λ ws. term.IsSound t ws × IsSound a ws × IsSound b ws)

abbrev pub MakesCase : CaseKind → Term → List Label → Acts → Act → Act → Type 0
MakesCase kind t labels items other c = MakesAct c
    (λ r. by_item (first_match kind (value t (read r.signals)) labels (read r.signals)) (λ k. run_at (acts_of items) k r) (activation other r))
    (λ ws. term.IsSound t ws × AreLabels labels (width t) ws × AreItems labels (length (acts_of items)) × SoundList (acts_of items) ws × IsSound other ws)

-- b means the same as a
abbrev pub IsActCopy : Act → Act → Type 0
IsActCopy a b = MakesAct b (activation a) (IsSound a)

-- the statements mean the same, one by one
abbrev pub AreActCopies : List Act → List Act → Type 0
AreActCopies [] [] = Unit {0}
AreActCopies (a ∷ rest) (b ∷ others) = IsActCopy a b × AreActCopies rest others
AreActCopies [] (b ∷ others) = ⊥
AreActCopies (a ∷ rest) [] = ⊥
