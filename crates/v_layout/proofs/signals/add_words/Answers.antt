-- One word more.
use Rattle.std.proofs.Common.{◌≡◌, ℕ, ◌+◌, ◌-◌, ◌<◌, List, [], ◌∷◌, ◌++◌, Some, option_map, ◌∙◌, ap, arith}
use Rattle.four_value.specs.declared.Digit.{Digit}
use Rattle.gpi.specs.declared.design.Signal.{Signal}
use Rattle.v_flat.specs.Scope.Scope.{width_of}
use Rattle.v_flat.specs.Declarations.{kind_of}
use Rattle.v_flat.specs.Paths.{word_text}
use Rattle.v_flat.specs.Design.{start_of}
use Rattle.v_layout.specs.Kept.{sort_in}
use Rattle.v_layout.specs.Steps.{vector_at, words_at}
use Rattle.v_layout.proofs.Adding.{added}
use Rattle.v_layout.proofs.Turns.{word_here}
use Rattle.v_layout.proofs.signals.add_words.Goals as goal

pub loop-index-preserved : goal.loop-index-preserved
loop-index-preserved c =
    let path : List ℕ = c.args.path.now in
    let w : ℕ = width_of c.args.declared.bounds in
    let start : Digit = start_of (kind_of c.args.declared.direction (option_map sort_in c.args.declared.sort)) in
    let i : ℕ = c.loop-index.index in
    let h : ℕ = c.max-high.result + 1 in
    let s : Signal = vector_at (path ++ word_text (Some i)) c.args.declared in
    let below : i < h = omega arith in
    let made : c.in_ok-signal.field-0 ≡ s
    = c.in_ok-signal.ensures ∙ ap (λ (t : List ℕ). vector_at t c.args.declared) (c.deref.ensures.value ∙ c.in_ok-path.ensures) in
    added c.args.signals.now _ (words_at path w start i (h - i)) (words_at path w start (i + 1) (h - (i + 1))) (s ∷ []) c.loop-index.signals c.push.new.self
    c.loop-index.invariant (word_here path w start i h below) (c.in_ok-push.ensures.ok ∙ ap (λ (x : Signal). c.loop-index.signals ++ (x ∷ [])) made)
