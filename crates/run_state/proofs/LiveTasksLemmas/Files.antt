-- Flows stay of their file.
use Rattle.std.proofs.Common.{◌≡◌, ℕ, zero, suc, List, [], ◌∷◌, ◌++◌, set, slice_get, Option, None, Some, ap, ◌∙◌}
use Rattle.test_meaning.specs.Body.BodyTrees.{Function}
use Rattle.run_state.specs.LiveTasks.Tasks.{AreOf}

module _ {F : Type 0} (functions : F → List Function) (file : List Function) where
  pub of_more : (ps : List (Option F)) (flow : F) → functions flow ≡ file → AreOf functions file ps → AreOf functions file (ps ++ Some flow ∷ [])
  of_more [] flow e h = (e, tt)
  of_more (None ∷ ps) flow e h = of_more ps flow e h
  of_more (Some m ∷ ps) flow e h = (h.0, of_more ps flow e h.1)

  pub of_stored : (ps : List (Option F)) (i : ℕ) (flow r : F) → slice_get ps i ≡ Some (Some flow) → functions r ≡ functions flow → AreOf functions file ps
      → AreOf functions file (set ps i (Some r))
  of_stored [] i flow r f e h = absurd cc
  of_stored (None ∷ ps) zero flow r f e h = absurd cc
  of_stored (Some m ∷ ps) zero flow r f e h = let q : flow ≡ m = cc in (e ∙ ap functions q ∙ h.0, h.1)
  of_stored (None ∷ ps) (suc i) flow r f e h = of_stored ps i flow r f e h
  of_stored (Some m ∷ ps) (suc i) flow r f e h = (h.0, of_stored ps i flow r f e h.1)

  pub of_emptied : (ps : List (Option F)) (i : ℕ) → AreOf functions file ps → AreOf functions file (set ps i None)
  of_emptied [] i h = tt
  of_emptied (None ∷ ps) zero h = h
  of_emptied (Some m ∷ ps) zero h = h.1
  of_emptied (None ∷ ps) (suc i) h = of_emptied ps i h
  of_emptied (Some m ∷ ps) (suc i) h = (h.0, of_emptied ps i h.1)
