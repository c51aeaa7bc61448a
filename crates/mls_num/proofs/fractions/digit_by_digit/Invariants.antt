use Rattle.std.proofs.Common.{◌≡◌, ◌+◌, ◌*◌, ◌^◌, ◌<◌, ◌≤◌}
use Rattle.mls_num.proofs.fractions.digit_by_digit.Given as goal

-- the division as far as it has come, and that its quotient is small
abbrev pub invariant-loop-digit : goal.invariant-loop-digit
invariant-loop-digit l = (l.quotient * l.den + l.rest ≡ l.num * 10 ^ l._digit) × (l.rest < l.den) × (l.quotient ≤ 10 ^ l._digit) × (10 ^ l._digit ≤ 10 ^ 12)
