use Rattle.std.proofs.Common.{◌≡◌, ℕ, suc, ◌+◌, ◌-◌, ◌*◌, ◌<◌, List, [], ◌∷◌, ◌++◌, length, take, set, length-set, ap, ◌∙◌, sym, arith}
use Rattle.std.proofs.Math.Seq.{take-suc-set}
use Rattle.std.specs.Int.{w32}
use Rattle.mls_ckpt.specs.Reading.{number_at, many}
use Rattle.mls_ckpt.specs.Places.{cursor_of}
use Rattle.mls_ckpt.specs.CellParts.{most_after}
use Rattle.mls_field.specs.Answered.{before}
use Rattle.mls_field.proofs.ReadInOrder.{goes_on}
use Rattle.mls_field.proofs.TakenCells.{falls_on}
use Rattle.mls_field.proofs.taken.take_numbers.Goals as goal

pub loop-i-preserved : goal.loop-i-preserved
loop-i-preserved c =
    let h = c.loop-i.invariant in
    let i = c.loop-i.i in
    let xs = c.loop-i.numbers in
    let n = c.in_ok-number.number in
    let fits : i < length xs = omega (arith, h.long, c.requires.thresholds) in
    let next = falls_on xs i n c.loop-i.most (2 * c.args.n) fits c.in_ok-number.ensures.few (record { few = h.few; each = h.each; falling = h.falling; last = h.last; rest = h.rest }) in
    let front : take i xs ++ n ∷ [] ≡ take (i + 1) (set xs i n) = sym (take-suc-set xs i n fits) ∙ ap (λ m. take m (set xs i n)) (let e : suc i ≡ i + 1 = omega arith in e) in
    record {
      long = length-set xs i n ∙ h.long;
      read = ap (λ (ys : List ℕ). before ys (many (number_at w32) most_after (c.args.thresholds - (i + 1)) n (cursor_of c.u32_of.new.from))) (sym front) ∙
          goes_on (number_at w32) most_after c.args.thresholds i c.loop-i.most (take i xs) n (cursor_of c.loop-i.from) (cursor_of c.u32_of.new.from) _ (omega arith) c.in_ok-number.ensures.exact h.read;
      few = next.few;
      each = next.each;
      falling = next.falling;
      last = next.last;
      rest = next.rest;
    }
