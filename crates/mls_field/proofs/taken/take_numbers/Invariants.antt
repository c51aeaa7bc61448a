use Rattle.std.proofs.Common.{◌≡◌, ℕ, ◌+◌, ◌-◌, ◌*◌, ◌<◌, ◌≤◌, take, get_or, length}
use Rattle.std.specs.Int.{w32}
use Rattle.mls_ckpt.specs.Reading.{number_at, many}
use Rattle.mls_ckpt.specs.Places.{cursor_of}
use Rattle.mls_ckpt.specs.CellParts.{most_after}
use Rattle.mls_field.specs.Answered.{before}
use Rattle.mls_field.proofs.taken.take_numbers.Given as goal

-- the numbers so far were read, and each is at most the one before it
abbrev pub invariant-loop-i : goal.invariant-loop-i
invariant-loop-i l = record {
  long : length l.numbers ≡ 8;
  read : before (take l.i l.numbers) (many (number_at w32) most_after (l.thresholds - l.i) l.most (cursor_of l.from)) ≡ many (number_at w32) most_after l.thresholds (2 * l.n) (cursor_of l.fn.from);
  few : l.most ≤ 2 * l.n;
  each : (i : ℕ) → i < l.i → get_or l.numbers i 0 ≤ 2 * l.n;
  falling : (i : ℕ) → i + 1 < l.i → get_or l.numbers (i + 1) 0 ≤ get_or l.numbers i 0;
  last : (i : ℕ) → i + 1 ≡ l.i → get_or l.numbers i 0 ≡ l.most;
  rest : (i : ℕ) → l.i ≤ i → get_or l.numbers i 0 ≡ 0;
}
