use Rattle.std.proofs.Common.{◌≡◌, ◌+◌, ◌<◌, length, arith}
use Rattle.py_lex.proofs.Reading.{read_more, step-line, step-spaces}
use Rattle.py_lex.proofs.scan.scan.Goals as goal

pub loop-rest-preserved : goal.loop-rest-preserved
loop-rest-preserved c =
    let s = c.loop-rest.scanner in
    let p = c.in_ok-piece.piece in
    let fits = c.in_ok-piece.ensures.fits in
    let left : length c.split_at.result.1.now + c.in_ok-piece.length ≡ length c.loop-rest.rest.now = c.split_at.ensures.back_len in
    let some : 0 < length c.loop-rest.rest.now = omega (arith, fits.positive, fits.within) in
    record {
      read = rw (c.in_ok-take.ensures, c.split_at.ensures.back) (read_more _ _ s p _ some (rw c.context.ensures at c.in_ok-piece.ensures.value) c.loop-rest.invariant.read);
      lines = rw c.in_ok-take.ensures (omega (arith, step-line s p, fits.lines, c.loop-rest.invariant.lines));
      spaces = rw c.in_ok-take.ensures (omega (arith, step-spaces s p, fits.positive, c.loop-rest.invariant.spaces));
      length = omega (arith, c.loop-rest.invariant.length);
    }
