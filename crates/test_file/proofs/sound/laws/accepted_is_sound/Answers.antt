use Rattle.test_file.proofs.SoundLemmas.Files.{accepted_is_sound}
use Rattle.test_file.proofs.sound.laws.accepted_is_sound.Goals as goal

pub returns : goal.returns
returns c = accepted_is_sound
