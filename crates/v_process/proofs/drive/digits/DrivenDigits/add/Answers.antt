-- The mask of the net has the new drive's too.
use Rattle.std.proofs.Common.{ℕ, bit_or, ap, ◌∙◌}
use Rattle.v_process.specs.Drive.Digits.{drive_of}
use Rattle.v_process.specs.Drive.Masks.{mask_at}
use Rattle.v_process.proofs.DriveLemmas.Kept.{added}
use Rattle.v_process.proofs.drive.digits.DrivenDigits.add.Goals as goal

pub returns-clause-ok : goal.returns-clause-ok
returns-clause-ok c = λ ds k.
    let d = drive_of c.args.drive in
    added c.args.self.now (record { masks = c.insert.new.self }) d (bit_or c.mask.result c.mask-2.result) ds
    (ap (λ (n : ℕ). bit_or n c.mask-2.result) c.mask.ensures ∙ ap (λ (n : ℕ). bit_or (mask_at c.args.self.now d.signal) n) c.mask-2.ensures)
    c.in_ok-insert.ensures.updates.0 k
