use Rattle.std.proofs.Common.{ap, ◌∙◌, ℕ}
use Rattle.mls_ckpt.specs.Reading.{Cursor, number_at}
use Rattle.std.specs.Int.{w16}
use Rattle.mls_resume.proofs.Checked.{magic_read, version_read, version_few, same_value, no_refusal}
use Rattle.mls_resume.proofs.checking.version_of.Goals as goal

pub returns-in-Err : goal.returns-in-Err
returns-in-Err c = λ s rank version state read spelled.
    absurd (no_refusal _ _ _ (magic_read s rank version state c.args.bytes.now _ c.numbers_read_again.ensures spelled c.new-from.ensures) c.in-Err.ensures.exact.0)

pub returns-in-Ok-u16 : goal.returns-in-Ok-u16
returns-in-Ok-u16 c = λ s rank version state read spelled.
    let first = same_value _ _ _ c.in-Ok.ensures.exact (magic_read s rank version state c.args.bytes.now _ c.numbers_read_again.ensures spelled c.new-from.ensures) in
    let at = ap (λ (p : ℕ × Cursor). number_at w16 65535 p.1) first in
    ap (λ (p : ℕ × Cursor). p.0) (same_value _ _ _ c.in-Ok-u16.ensures.exact (at ∙ version_read s rank version state c.numbers_read_again.ensures (version_few s version read)))

pub returns-in-Err-u16 : goal.returns-in-Err-u16
returns-in-Err-u16 c = λ s rank version state read spelled.
    let first = same_value _ _ _ c.in-Ok.ensures.exact (magic_read s rank version state c.args.bytes.now _ c.numbers_read_again.ensures spelled c.new-from.ensures) in
    let at = ap (λ (p : ℕ × Cursor). number_at w16 65535 p.1) first in
    absurd (no_refusal _ _ _ (at ∙ version_read s rank version state c.numbers_read_again.ensures (version_few s version read)) c.in-Err-u16.ensures.exact.0)
