use Rattle.std.proofs.Common.{◌≡◌, ℕ, ◌+◌, List, length, get_or}
use Rattle.mls_power.proofs.Counted.{more_by_pair}
use Rattle.mls_power.proofs.above.add_pair_above.Given as goal

-- the places that were passed have what the samples add
pub record IsPassed (size end : ℕ) (thresholds : List ℕ) (x y : ℕ) (old new : List ℕ) : Type 0 where
  pub kept : length new ≡ size
  pub each : (k : ℕ) → get_or new k 0 ≡ get_or old k 0 + more_by_pair end thresholds x y k

abbrev pub invariant-loop-i : goal.invariant-loop-i
invariant-loop-i l = IsPassed (length l.fn.numbers) l.i l.shape.thresholds l.x l.y l.fn.numbers l.numbers
