use Rattle.v_layout.proofs.BuildLemmas.Whole.{built_sound}
use Rattle.v_layout.proofs.build.laws.what_is_built_is_sound.Goals as goal

pub returns : goal.returns
returns c = built_sound
