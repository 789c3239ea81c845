-- Events one after the other.
use Rattle.std.proofs.Common.{◌≡◌, ℕ, ◌+◌, Option, None, Some, add-one, refl}
use Rattle.gpi.specs.Content.{Answers, Content}
use Rattle.gpi.specs.Events.{Event}
use Rattle.gpi.specs.declared.types.Advance.TheVariants as advance
use Rattle.gpi.specs.declared.types.Moved.{Moved}
use Rattle.design_tests.specs.Elaboration.Runs.{Comes, Events, next}

comes : (content after : Content) (moved : Moved) (o : Option Event) → next content ≡ o → Answers content o (advance.Moved moved) after → Comes content after
comes content after moved None e answer = absurd (let h = answer.0 in cc)
comes content after moved (Some last) e answer = record { last = last; is_next = e; does = answer.1 }

-- an event that comes is one more
pub events_more : (n : ℕ) (start content after : Content) (moved : Moved)
    → Events n start content → Answers content (next content) (advance.Moved moved) after → Events (n + 1) start after
events_more n start content after moved events answer =
    rw add-one (
      content,
      events,
      comes content after moved (next content) refl answer,
    )
