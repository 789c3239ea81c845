use Rattle.std.proofs.Common.{◌≡◌, drop, ap, sym, refl, ◌∙◌, arith}
use Rattle.v_lex.specs.Lexing.{is_taken}
use Rattle.v_lex.specs.Scan.{scan_of}
use Rattle.v_lex.specs.Pieces.{piece_at}
use Rattle.v_lex.specs.Found.{found_with, nothing, of_found}
use Rattle.v_lex.specs.States.{state_of}
use Rattle.v_lex.proofs.ScanLaws.{found_next, last_next, last_end, scan_end}
use Rattle.v_lex.proofs.scanner.scan.Goals as goal

pub loop-place-init : goal.loop-place-init
unfolding scan_of
loop-place-init c = record {
  found = rw (c.new-found.ensures, c.in_ok-state.ensures) refl;
  last = rw c.in_ok-state.ensures refl;
  within = omega arith;
}

pub loop-place-preserved : goal.loop-place-preserved
loop-place-preserved c =
    let s = state_of c.loop-place.state in
    let t = state_of c.add.new.state in
    let p = c.loop-place.place in
    let q = c.in_ok-piece.piece in
    let text = c.args.text.now in
    let e : q ≡ piece_at (is_taken s.conditionals) (drop p text) =
    rw (← c.is_taken.ensures, ← c.split_at.ensures.back) c.in_ok-piece.ensures.is in
    let k = c.in_ok-piece.ensures.some in record {
      found = found_next s t (of_found c.loop-place.found) (of_found c.add.new.self) p text q
          (found_with nothing (scan_of text)) c.loop-place-test.true e k c.in_ok-add.ensures.state c.in_ok-add.ensures.found
          c.loop-place.invariant.found;
      last = last_next s t p text q (scan_of text).last c.loop-place-test.true e k c.in_ok-add.ensures.state c.loop-place.invariant.last;
      within = omega (arith, c.in_ok-piece.ensures.within);
    }

pub returns-clause-found : goal.returns-clause-found
returns-clause-found c =
    sym (ap (found_with (of_found c.loop-place.found))
    (scan_end (state_of c.loop-place.state) c.loop-place.place c.args.text.now c.loop-place-test.false))
    ∙ c.loop-place.invariant.found

pub returns-clause-state : goal.returns-clause-state
returns-clause-state c =
    last_end (state_of c.loop-place.state) c.loop-place.place c.args.text.now _ c.loop-place-test.false c.loop-place.invariant.last
