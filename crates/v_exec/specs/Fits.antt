-- A means of proof: when instructions fit, each finding the operands that it needs, with the widths that it needs.
use Rattle.std.specs.Prelude.{◌≡◌, ℕ, zero, suc, ◌+◌, ◌*◌, ◌<◌, ◌≤◌, List, [], ◌∷◌, length, slice_index}
use Rattle.four_value.specs.Limits.{most_digits}
use Rattle.gpi.specs.Terms.{IsWidth, AreWords}
use Rattle.v_exec.specs.declared.instruction.Instruction.{Instruction}
use Rattle.v_exec.specs.declared.instruction.Instruction.TheVariants as code
use Rattle.v_exec.specs.declared.instruction.Place.{Place}
use Rattle.v_exec.specs.declared.instruction.Place.TheVariants as place
use Rattle.v_exec.specs.Machine.{on_one, on_two, on_three, below, with_top, below_store}

-- the most operands at once, and the most stores
pub record Room : Type 0 where
  pub depth : ℕ
  pub stores : ℕ

-- the widths of the operands, the top first, and how many stores were done so far
pub record Shape : Type 0 where
  pub stack : List ℕ
  pub stores : ℕ

-- ---- operands; of two the second stands on top

abbrev pub Has_one : (ℕ → Type 0) → List ℕ → Type 0
Has_one P [] = ⊥
Has_one P (a ∷ st) = P a

abbrev pub Has_two : (ℕ → ℕ → Type 0) → List ℕ → Type 0
Has_two P [] = ⊥
Has_two P (b ∷ []) = ⊥
Has_two P (b ∷ a ∷ st) = P a b

abbrev pub Has_three : (ℕ → ℕ → ℕ → Type 0) → List ℕ → Type 0
Has_three P [] = ⊥
Has_three P (c ∷ []) = ⊥
Has_three P (c ∷ b ∷ []) = ⊥
Has_three P (c ∷ b ∷ a ∷ st) = P a b c

-- a place finds its digits and above them its indices; ws are the widths of the signals
abbrev pub Takes_place : Place → List ℕ → List ℕ → Type 0
Takes_place (place.Signal s) ws st = Has_one (λ w. (s.0 < length ws) × (slice_index ws s.0 ≡ w)) st
Takes_place (place.Word words) ws st = Has_two (λ w i. AreWords words w ws) st
Takes_place (place.SignalPart s range width count) ws st =
    Has_two (λ w i. (s.0 < length ws) × (slice_index ws s.0 ≡ width) × IsWidth width × (w ≡ count) × IsWidth count) st
Takes_place (place.WordPart words range width count) ws st = Has_three (λ w j i. AreWords words width ws × (w ≡ count) × IsWidth count) st

-- an instruction finds what it needs
abbrev pub Takes : Instruction → Room → List ℕ → Shape → Type 0
Takes (code.Constant ds) room ws s = length s.stack < room.depth
Takes (code.Signal sig) room ws s = (sig.0 < length ws) × (length s.stack < room.depth)
Takes (code.Word words w) room ws s = AreWords words w ws × Has_one (λ i. Unit {0}) s.stack
Takes (code.Select range w) room ws s = IsWidth w × Has_two (λ a i. Unit {0}) s.stack
Takes (code.Unary op) room ws s = Has_one (λ a. Unit {0}) s.stack
Takes (code.Arith op) room ws s = Has_two (λ a b. a ≡ b) s.stack
Takes (code.Compare op) room ws s = Has_two (λ a b. a ≡ b) s.stack
Takes (code.Logic op) room ws s = Has_two (λ a b. Unit {0}) s.stack
Takes (code.Reduce op) room ws s = Has_one (λ a. Unit {0}) s.stack
Takes (code.Shift op) room ws s = Has_two (λ a b. Unit {0}) s.stack
Takes code.Choose room ws s = Has_three (λ t a b. a ≡ b) s.stack
Takes code.Concat room ws s = Has_two (λ a b. b + a ≤ most_digits) s.stack
Takes (code.Repeat n) room ws s = (1 ≤ n) × Has_one (λ a. n * a ≤ most_digits) s.stack
Takes (code.Resize w) room ws s = IsWidth w × Has_one (λ a. Unit {0}) s.stack
Takes (code.Part low width) room ws s = (1 ≤ width) × (length s.stack < room.depth) × Has_one (λ a. low + width ≤ a) s.stack
Takes code.Discard room ws s = Has_one (λ a. Unit {0}) s.stack
Takes (code.Unless n) room ws s = Has_one (λ a. Unit {0}) s.stack
Takes (code.Skip n) room ws s = Unit {0}
Takes (code.Match kind n) room ws s = Has_two (λ a b. a ≡ b) s.stack
Takes (code.Store place mode) room ws s = (s.stores < room.stores) × Takes_place place ws s.stack
Takes code.WriteNoted room ws s = Unit {0}
Takes code.Stop room ws s = Unit {0}

-- the widths of the operands that it leaves
abbrev pub leaves_stack : Instruction → List ℕ → List ℕ → List ℕ
leaves_stack (code.Constant ds) ws st = length ds ∷ st
leaves_stack (code.Signal sig) ws st = slice_index ws sig.0 ∷ st
leaves_stack (code.Word words w) ws st = on_one (λ i. w) st
leaves_stack (code.Select range w) ws st = on_two (λ a i. w) st
leaves_stack (code.Unary op) ws st = st
leaves_stack (code.Arith op) ws st = on_two (λ a b. a) st
leaves_stack (code.Compare op) ws st = on_two (λ a b. 1) st
leaves_stack (code.Logic op) ws st = on_two (λ a b. 1) st
leaves_stack (code.Reduce op) ws st = on_one (λ a. 1) st
leaves_stack (code.Shift op) ws st = on_two (λ a b. a) st
leaves_stack code.Choose ws st = on_three (λ t a b. a) st
leaves_stack code.Concat ws st = on_two (λ a b. b + a) st
leaves_stack (code.Repeat n) ws st = on_one (λ a. n * a) st
leaves_stack (code.Resize w) ws st = on_one (λ a. w) st
leaves_stack (code.Part low width) ws st = with_top (λ a. width) st
leaves_stack code.Discard ws st = below st
leaves_stack (code.Unless n) ws st = below st
leaves_stack (code.Skip n) ws st = st
leaves_stack (code.Match kind n) ws st = below st
leaves_stack (code.Store place mode) ws st = below_store place st
leaves_stack code.WriteNoted ws st = st
leaves_stack code.Stop ws st = st

-- how many stores were done then, after n
abbrev pub stores_after : Instruction → ℕ → ℕ
stores_after (code.Store place mode) n = suc n
stores_after _ n = n

abbrev pub leaves : Instruction → List ℕ → Shape → Shape
leaves i ws s = record { stack = leaves_stack i ws s.stack; stores = stores_after i s.stores }

-- it goes on where that fits, on both ways; rest tells that of those behind it, by how many of them are passed over
abbrev pub Follows : Instruction → (ℕ → Shape → Type 0) → Shape → Type 0
Follows (code.Unless n) rest s = rest 0 s × rest n s
Follows (code.Skip n) rest s = rest n s
Follows (code.Match kind n) rest s = rest 0 s × rest n s
Follows code.Stop rest s = Unit {0}
Follows i rest s = rest 0 s

-- the instructions, of which the first k are passed over, fit up to a stop
abbrev pub Fits : Room → List ℕ → List Instruction → ℕ → Shape → Type 0
Fits room ws [] k s = ⊥
Fits room ws (i ∷ is) zero s = Takes i room ws s × Follows i (Fits room ws is) (leaves i ws s)
Fits room ws (i ∷ is) (suc k) s = Fits room ws is k s
