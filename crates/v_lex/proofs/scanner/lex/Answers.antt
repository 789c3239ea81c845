use Rattle.std.proofs.Common.{◌≡◌, Some, None, length, ap, sym, ◌∙◌, arith}
use Rattle.std.proofs.lemmas.List.{length_push}
use Rattle.v_lex.specs.Lexing.{earlier, earliest, left_open}
use Rattle.v_lex.specs.Scan.{faults_of}
use Rattle.v_lex.specs.Found.{of_found}
use Rattle.v_lex.specs.States.{state_of}
use Rattle.v_lex.proofs.ScanLaws.{is_first, has_places, has_units, has_few, is_lexed, earliest_none}
use Rattle.v_lex.proofs.RowLaws.{fault_is, reads_is}
use Rattle.v_lex.proofs.scanner.lex.Goals as goal

pub returns-in-Some-clause-refused : goal.returns-in-Some-clause-refused
returns-in-Some-clause-refused c =
    let f = of_found c.in_ok-found.found in
    let s = state_of c.in_ok-found.state in
    let o : c.first_open.result ≡ earliest (left_open s.conditionals) =
    c.first_open.ensures ∙ ap (λ cs. earliest (left_open cs)) c.deref.ensures.value in
    let e : earliest (faults_of c.args.text.now) ≡ Some c.in-Some.broken =
    sym (is_first f s c.args.text.now c.in_ok-found.ensures.found) ∙ ap (earlier f.first) (sym o) ∙ sym c.earlier.ensures
    ∙ c.in-Some.is in
    rw c.from.ensures (fault_is c.args.text.now c.in-Some.broken e)

pub new-requires-clause-few : goal.new-requires-clause-few
new-requires-clause-few c =
    let h = has_few (of_found c.in_ok-found.found) (state_of c.in_ok-found.state) c.args.text.now c.in_ok-found.ensures.found in
    omega (arith, h)

pub new-requires-clause-one_each : goal.new-requires-clause-one_each
new-requires-clause-one_each c =
    has_units (of_found c.in_ok-found.found) (state_of c.in_ok-found.state) c.args.text.now c.in_ok-found.ensures.found

pub new-requires-clause-paired : goal.new-requires-clause-paired
new-requires-clause-paired c =
    let h = has_places (of_found c.in_ok-found.found) (state_of c.in_ok-found.state) c.args.text.now c.in_ok-found.ensures.found in
    let k = length_push c.in_ok-found.found.places.items (length c.args.text.now) in
    rw c.in_ok-push.ensures.items (omega arith)

pub returns-clause-tokens : goal.returns-clause-tokens
returns-clause-tokens c =
    let f = of_found c.in_ok-found.found in
    let s = state_of c.in_ok-found.state in
    let text = c.args.text.now in
    let o : c.first_open.result ≡ earliest (left_open s.conditionals) =
    c.first_open.ensures ∙ ap (λ cs. earliest (left_open cs)) c.deref.ensures.value in
    let e : earliest (faults_of text) ≡ None =
    sym (is_first f s text c.in_ok-found.ensures.found) ∙ ap (earlier f.first) (sym o) ∙ sym c.earlier.ensures ∙ c.in_default.is in
    reads_is text _ (earliest_none (faults_of text) e) (c.new.ensures
    ∙ rw (c.in_ok-push.ensures.items, c.unwrap_or-step.ensures)
    (is_lexed f s text c.in_ok-found.ensures.found c.in_ok-found.ensures.state))
