-- A drive of some digits.
use Rattle.std.proofs.Common.{arith}
use Rattle.v_process.proofs.DriveLemmas.Bits.{mask_shifted}
use Rattle.v_process.proofs.drive.drive.Drive.mask.Goals as goal

pub returns-else-self-eq0 : goal.returns-else-self-eq0
returns-else-self-eq0 c =
    let some = c.if-self-eq0.false in
    mask_shifted c.args.self.low c.args.self.count (omega (arith, some)) c.requires
