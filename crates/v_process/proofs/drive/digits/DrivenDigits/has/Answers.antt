-- The mask of the new drive, and that of its net.
use Rattle.std.proofs.Common.{ℕ, not, nat_eq, bit_and, ap, ◌∙◌}
use Rattle.v_process.specs.Drive.Digits.{drive_of}
use Rattle.v_process.specs.Drive.Masks.{mask_at}
use Rattle.v_process.proofs.DriveLemmas.Meets.{meets_mask}
use Rattle.v_process.proofs.drive.digits.DrivenDigits.has.Goals as goal

pub returns : goal.returns
returns c = λ ds k.
    let d = drive_of c.args.drive in
    ap (λ (n : ℕ). not (nat_eq (bit_and n c.mask-2.result) 0)) c.mask.ensures
    ∙ ap (λ (n : ℕ). not (nat_eq (bit_and (mask_at c.args.self.now d.signal) n) 0)) c.mask-2.ensures
    ∙ meets_mask d ds (mask_at c.args.self.now d.signal) c.requires (λ i h. k.digits d.signal i h)
