-- The first line without a form, without a block, or over a limit.
use Rattle.test_file.proofs.text.reader.form_fault.Goals as goal

pub returns-in-BadLine : goal.returns-in-BadLine
returns-in-BadLine c = λ text lines short has h. rw c.broken.ensures (short, record { lines = lines; has = has; refused = rw c.in-BadLine.is at h })

pub returns-in-NoBlock : goal.returns-in-NoBlock
returns-in-NoBlock c =
    λ text lines short has h. rw c.broken-in-NoBlock.ensures (short, record { lines = lines; has = has; refused = rw c.in-NoBlock.is at h })

pub returns-in-TooDeep : goal.returns-in-TooDeep
returns-in-TooDeep c =
    λ text lines short has h. rw c.broken-in-TooDeep.ensures (short, record { lines = lines; has = has; refused = rw c.in-TooDeep.is at h })
