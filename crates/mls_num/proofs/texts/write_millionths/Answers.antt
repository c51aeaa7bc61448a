use Rattle.std.proofs.Common.{◌≡◌, ℕ, ◌∷◌, ap, refl, ◌∙◌, to_z-of_z}
use Rattle.std.specs.Prelude.{unsigned_abs}
use Rattle.mls_num.proofs.Millionths.{fraction, shown_negative, shown_positive}
use Rattle.mls_num.proofs.texts.write_millionths.Goals as goal
use Rattle.mls_num.proofs.texts.write_millionths.Goals.{After-copy_from_slice}

-- what is written in the front of the buffer
written : (c : After-copy_from_slice) → c.copy_from_slice.new.self ≡ 45 ∷ fraction (unsigned_abs c.args.m)
written c =
    let size : c.unsigned_abs-size.result ≡ unsigned_abs c.args.m = c.unsigned_abs-size.ensures.value ∙ ap unsigned_abs (to_z-of_z c.ranges.m) in
    let digits : c.copy_from_slice.new.self ≡ 45 ∷ fraction c.unsigned_abs-size.result =
    rw (c.copy_from_slice.ensures.after, c.last_digit.ensures, c.last_digit-2.ensures, c.last_digit-3.ensures, c.last_digit-4.ensures, c.last_digit-5.ensures, c.last_digit-6.ensures, c.last_digit-7.ensures) refl in
    digits ∙ ap (λ (n : ℕ). 45 ∷ fraction n) size

pub returns-then-m-lt0-clause-written : goal.returns-then-m-lt0-clause-written
returns-then-m-lt0-clause-written c =
    shown_negative c.args.m c.copy_from_slice.new.self _ c.requires.low (rw (to_z-of_z c.ranges.m) at c.if-m-lt0.true) (written (goal.at.returns-then-m-lt0-clause-written c).After-copy_from_slice)

pub returns-clause-written : goal.returns-clause-written
returns-clause-written c =
    shown_positive c.args.m c.copy_from_slice.new.self _ c.requires.high (rw (to_z-of_z c.ranges.m) at c.if-m-lt0.false) (written (goal.at.returns-clause-written c).After-copy_from_slice)
