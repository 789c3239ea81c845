-- The instructions of an expression put its value on top of the operands.
use Rattle.std.proofs.Common.{◌≡◌, ℕ, ◌+◌, ◌≤◌, List, [], ◌∷◌, ◌++◌, length, refl, ap, sym, subst, ◌∙◌, arith, append_assoc}
use Rattle.gpi.specs.declared.terms.Term.{Term}
use Rattle.gpi.specs.declared.terms.Term.TheVariants.{Const, Signal, Word', Select', Unary', Arith', Compare', Logic', Reduce', Shift', Cond', Concat', Repeat', Resize'}
use Rattle.gpi.specs.Terms.{value, width, read, IsSound}
use Rattle.v_exec.specs.declared.instruction.Instruction.{Instruction}
use Rattle.v_exec.specs.declared.instruction.Instruction.TheVariants as code
use Rattle.v_exec.specs.Machine.{Machine, exec, with_stack}
use Rattle.v_exec.specs.Fits.{Room, Shape, Fits}
use Rattle.v_exec.specs.Packing.{term_front, term_depth, deepest}

-- ---- what they do

pub term_runs : (t : Term) (is : List Instruction) (m : Machine)
    → exec (term_front t is) 0 m ≡ exec is 0 (with_stack (value t (read m.run.signals) ∷ m.stack) m)
term_runs (Const bits) is m = refl
term_runs (Signal s w) is m = refl
term_runs (Word' words p i w) is m = term_runs i (code.Word words w ∷ is) m
term_runs (Select' p a range q i w) is m =
    let x = value a (read m.run.signals) in
    term_runs a (term_front i (code.Select range w ∷ is)) m
    ∙ term_runs i (code.Select range w ∷ is) (with_stack (x ∷ m.stack) m)
term_runs (Unary' op p a) is m = term_runs a (code.Unary op ∷ is) m
term_runs (Arith' op p a q b) is m =
    let x = value a (read m.run.signals) in
    term_runs a (term_front b (code.Arith op ∷ is)) m
    ∙ term_runs b (code.Arith op ∷ is) (with_stack (x ∷ m.stack) m)
term_runs (Compare' op p a q b) is m =
    let x = value a (read m.run.signals) in
    term_runs a (term_front b (code.Compare op ∷ is)) m
    ∙ term_runs b (code.Compare op ∷ is) (with_stack (x ∷ m.stack) m)
term_runs (Logic' op p a q b) is m =
    let x = value a (read m.run.signals) in
    term_runs a (term_front b (code.Logic op ∷ is)) m
    ∙ term_runs b (code.Logic op ∷ is) (with_stack (x ∷ m.stack) m)
term_runs (Reduce' op p a) is m = term_runs a (code.Reduce op ∷ is) m
term_runs (Shift' op p a q b) is m =
    let x = value a (read m.run.signals) in
    term_runs a (term_front b (code.Shift op ∷ is)) m
    ∙ term_runs b (code.Shift op ∷ is) (with_stack (x ∷ m.stack) m)
term_runs (Cond' p t q a r b) is m =
    let x = value t (read m.run.signals) in
    let y = value a (read m.run.signals) in
    term_runs t (term_front a (term_front b (code.Choose ∷ is))) m
    ∙ (term_runs a (term_front b (code.Choose ∷ is)) (with_stack (x ∷ m.stack) m)
    ∙ term_runs b (code.Choose ∷ is) (with_stack (y ∷ x ∷ m.stack) m))
term_runs (Concat' p a q b) is m =
    let x = value a (read m.run.signals) in
    term_runs a (term_front b (code.Concat ∷ is)) m
    ∙ term_runs b (code.Concat ∷ is) (with_stack (x ∷ m.stack) m)
term_runs (Repeat' n p a) is m = term_runs a (code.Repeat n ∷ is) m
term_runs (Resize' p a w) is m = term_runs a (code.Resize w ∷ is) m

-- ---- that they fit

abbrev with_width : ℕ → Shape → Shape
with_width w s = record { stack = w ∷ s.stack; stores = s.stores }

-- room for what needs n operands, and then for what needs m on top of its value
room_first : (n m k d : ℕ) → k + deepest n m ≤ d → k + n ≤ d
room_first n m k d h = omega (arith, h)

room_second : (n m k d : ℕ) → k + deepest n m ≤ d → k + 1 + m ≤ d
room_second n m k d h = omega (arith, h)

room_above : (w : ℕ) (st : List ℕ) (m d : ℕ) → length st + 1 + m ≤ d → length (w ∷ st) + m ≤ d
room_above w st m d h = omega (arith, h)

pub term_fits : (t : Term) (room : Room) (ws : List ℕ) (is : List Instruction) (s : Shape) → IsSound t ws
    → length s.stack + term_depth t ≤ room.depth → Fits room ws is 0 (with_width (width t) s) → Fits room ws (term_front t is) 0 s
term_fits (Const bits) room ws is s h d f = (omega (arith, d), f)
term_fits (Signal sig w) room ws is s h d f =
    ((h.0, omega (arith, d)), subst (λ (v : ℕ). Fits room ws is 0 (with_width v s)) (sym h.1) f)
term_fits (Word' words p i w) room ws is s h d f = term_fits i room ws (code.Word words w ∷ is) s h.0 d ((h.1, tt), f)
term_fits (Select' p a range q i w) room ws is s h d f =
    let e = room_second (term_depth a) (term_depth i) (length s.stack) room.depth d in
    term_fits a room ws (term_front i (code.Select range w ∷ is)) s h.0 (room_first (term_depth a) (term_depth i) (length s.stack) room.depth d)
    (term_fits i room ws (code.Select range w ∷ is) (with_width (width a) s) h.1 (room_above (width a) s.stack (term_depth i) room.depth e) ((h.2, tt), f))
term_fits (Unary' op p a) room ws is s h d f = term_fits a room ws (code.Unary op ∷ is) s h d (tt, f)
term_fits (Arith' op p a q b) room ws is s h d f =
    let e = room_second (term_depth a) (term_depth b) (length s.stack) room.depth d in
    term_fits a room ws (term_front b (code.Arith op ∷ is)) s h.0 (room_first (term_depth a) (term_depth b) (length s.stack) room.depth d)
    (term_fits b room ws (code.Arith op ∷ is) (with_width (width a) s) h.1 (room_above (width a) s.stack (term_depth b) room.depth e) (h.2, f))
term_fits (Compare' op p a q b) room ws is s h d f =
    let e = room_second (term_depth a) (term_depth b) (length s.stack) room.depth d in
    term_fits a room ws (term_front b (code.Compare op ∷ is)) s h.0 (room_first (term_depth a) (term_depth b) (length s.stack) room.depth d)
    (term_fits b room ws (code.Compare op ∷ is) (with_width (width a) s) h.1 (room_above (width a) s.stack (term_depth b) room.depth e) (h.2, f))
term_fits (Logic' op p a q b) room ws is s h d f =
    let e = room_second (term_depth a) (term_depth b) (length s.stack) room.depth d in
    term_fits a room ws (term_front b (code.Logic op ∷ is)) s h.0 (room_first (term_depth a) (term_depth b) (length s.stack) room.depth d)
    (term_fits b room ws (code.Logic op ∷ is) (with_width (width a) s) h.1 (room_above (width a) s.stack (term_depth b) room.depth e) (tt, f))
term_fits (Reduce' op p a) room ws is s h d f = term_fits a room ws (code.Reduce op ∷ is) s h d (tt, f)
term_fits (Shift' op p a q b) room ws is s h d f =
    let e = room_second (term_depth a) (term_depth b) (length s.stack) room.depth d in
    term_fits a room ws (term_front b (code.Shift op ∷ is)) s h.0 (room_first (term_depth a) (term_depth b) (length s.stack) room.depth d)
    (term_fits b room ws (code.Shift op ∷ is) (with_width (width a) s) h.1 (room_above (width a) s.stack (term_depth b) room.depth e) (tt, f))
term_fits (Cond' p t q a r b) room ws is s h d f =
    let branches = deepest (term_depth a) (term_depth b) in
    let e = room_second (term_depth t) branches (length s.stack) room.depth d in
    let g = room_above (width t) s.stack branches room.depth e in
    let k = room_second (term_depth a) (term_depth b) (length (width t ∷ s.stack)) room.depth g in
    term_fits t room ws (term_front a (term_front b (code.Choose ∷ is))) s h.0 (room_first (term_depth t) branches (length s.stack) room.depth d)
    (term_fits a room ws (term_front b (code.Choose ∷ is)) (with_width (width t) s) h.1 (room_first (term_depth a) (term_depth b) (length (width t ∷ s.stack)) room.depth g)
    (term_fits b room ws (code.Choose ∷ is) (with_width (width a) (with_width (width t) s)) h.2
    (room_above (width a) (width t ∷ s.stack) (term_depth b) room.depth k) (h.3, f)))
term_fits (Concat' p a q b) room ws is s h d f =
    let e = room_second (term_depth a) (term_depth b) (length s.stack) room.depth d in
    term_fits a room ws (term_front b (code.Concat ∷ is)) s h.0 (room_first (term_depth a) (term_depth b) (length s.stack) room.depth d)
    (term_fits b room ws (code.Concat ∷ is) (with_width (width a) s) h.1 (room_above (width a) s.stack (term_depth b) room.depth e) (h.2, f))
term_fits (Repeat' n p a) room ws is s h d f = term_fits a room ws (code.Repeat n ∷ is) s h.0 d ((h.1, h.2), f)
term_fits (Resize' p a w) room ws is s h d f = term_fits a room ws (code.Resize w ∷ is) s h.0 d ((h.1, tt), f)

-- ---- that they stand in front

abbrev pub Front : List Instruction → List Instruction → Type 0
Front is new = (front : List Instruction) × (new ≡ front ++ is)

pub front_more : (is : List Instruction) (i : Instruction) (new : List Instruction) → Front (i ∷ is) new → Front is new
front_more is i new f = (f.0 ++ i ∷ [], f.1 ∙ sym (append_assoc f.0 (i ∷ []) is))

pub front_both : (is mid new : List Instruction) → Front is mid → Front mid new → Front is new
front_both is mid new f g = (g.0 ++ f.0, g.1 ∙ (ap (λ (xs : List Instruction). g.0 ++ xs) f.1 ∙ sym (append_assoc g.0 f.0 is)))

two_front : (a b : Term) (i : Instruction) (is : List Instruction) → Front (term_front b (i ∷ is)) (term_front a (term_front b (i ∷ is)))
    → Front (i ∷ is) (term_front b (i ∷ is)) → Front is (term_front a (term_front b (i ∷ is)))
two_front a b i is f g = front_both is (term_front b (i ∷ is)) (term_front a (term_front b (i ∷ is))) (front_more is i (term_front b (i ∷ is)) g) f

pub term_stands : (t : Term) (is : List Instruction) → Front is (term_front t is)
term_stands (Const bits) is = (code.Constant bits ∷ [], refl)
term_stands (Signal s w) is = (code.Signal s ∷ [], refl)
term_stands (Word' words p i w) is = front_more is (code.Word words w) _ (term_stands i (code.Word words w ∷ is))
term_stands (Select' p a range q i w) is = two_front a i (code.Select range w) is (term_stands a _) (term_stands i _)
term_stands (Unary' op p a) is = front_more is (code.Unary op) _ (term_stands a (code.Unary op ∷ is))
term_stands (Arith' op p a q b) is = two_front a b (code.Arith op) is (term_stands a _) (term_stands b _)
term_stands (Compare' op p a q b) is = two_front a b (code.Compare op) is (term_stands a _) (term_stands b _)
term_stands (Logic' op p a q b) is = two_front a b (code.Logic op) is (term_stands a _) (term_stands b _)
term_stands (Reduce' op p a) is = front_more is (code.Reduce op) _ (term_stands a (code.Reduce op ∷ is))
term_stands (Shift' op p a q b) is = two_front a b (code.Shift op) is (term_stands a _) (term_stands b _)
term_stands (Cond' p t q a r b) is =
    front_both is (term_front a (term_front b (code.Choose ∷ is))) _ (two_front a b code.Choose is (term_stands a _) (term_stands b _)) (term_stands t _)
term_stands (Concat' p a q b) is = two_front a b code.Concat is (term_stands a _) (term_stands b _)
term_stands (Repeat' n p a) is = front_more is (code.Repeat n) _ (term_stands a (code.Repeat n ∷ is))
term_stands (Resize' p a w) is = front_more is (code.Resize w) _ (term_stands a (code.Resize w ∷ is))
