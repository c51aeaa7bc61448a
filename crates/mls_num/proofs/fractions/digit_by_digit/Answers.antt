use Rattle.std.proofs.Common.{◌≡◌, ◌+◌, ◌*◌, ◌^◌, lit<, arith}
use Rattle.std.proofs.lemmas.Nat.{mod_below, pow-add}
use Rattle.std.proofs.Math.Nat.{pow-le-pow_right}
use Rattle.mls_num.proofs.Division.{digit_more, quotient_small}
use Rattle.mls_num.proofs.fractions.digit_by_digit.Goals as goal

pub loop-digit-preserved : goal.loop-digit-preserved
loop-digit-preserved c =
    let l = c.loop-digit in
    let kept = digit_more l.quotient l.rest c.args.num c.args.den l._digit l.invariant.0 in
    let power : 10 ^ (l._digit + 1) ≡ 10 ^ l._digit * 10 = pow-add 10 l._digit 1 in
    (kept, mod_below _ c.args.den c.requires.some, quotient_small _ _ c.args.num c.args.den _ kept c.requires.within c.requires.some, pow-le-pow_right {n = 10} (lit< tt) {i = l._digit + 1} {j = 12} (omega arith))
