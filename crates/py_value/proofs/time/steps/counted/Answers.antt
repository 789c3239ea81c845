use Rattle.std.proofs.Common.{◌≡◌, ℕ, ◌+◌, ◌*◌, ◌^◌, nat_lt, nat_eq, ap, ◌∙◌, sym}
use Rattle.std.specs.Prelude.{◌%◌}
use Rattle.std.proofs.lemmas.Bool.{ltb-false}
use Rattle.py_value.specs.Answer.{answer_map}
use Rattle.py_value.specs.Time.Counts.{kept, some_steps}
use Rattle.py_value.proofs.TimeLemmas.Division.{parity, far_known, is_total, is_far}
use Rattle.py_value.proofs.time.steps.counted.Goals as goal

pub returns-in-Some : goal.returns-in-Some
returns-in-Some c =
    let n = c.args.turns * c.args.unit + c.args.more in
    let e : c.in-Some.count ≡ n = is_total (nat_lt n (2 ^ 128)) c.in-Some.count n c.in-Some.ensures in
    c.some_steps.ensures (ap (λ (k : ℕ). nat_eq k 1) (sym (ap (λ (k : ℕ). k % 2) e ∙ parity c.args.turns c.args.unit c.args.more)))
    ∙ ap (λ (k : ℕ). answer_map kept (some_steps k)) e

pub returns-in-None : goal.returns-in-None
returns-in-None c =
    let n = c.args.turns * c.args.unit + c.args.more in
    let odd = (c.args.turns % 2 * (c.args.unit % 2) + c.args.more % 2) % 2 in
    far_known n odd (ltb-false n (2 ^ 128) (is_far (nat_lt n (2 ^ 128)) n c.in-None.ensures)) (parity c.args.turns c.args.unit c.args.more)
