use Rattle.std.proofs.Common.{◌+◌, ap, ◌∙◌, refl, sym, arith}
use Rattle.mls_field.specs.ColumnSums.{of_column, powers_column, most_added}
use Rattle.mls_power.specs.ColumnSteps.{cube_of, fourth_of, low_half, high_half}
use Rattle.mls_field.proofs.FourCopied.{four_grown, four_stay, room_at}
use Rattle.mls_field.proofs.copied.add_powers.Goals as goal

pub add_cubes-requires-clause-room : goal.add_cubes-requires-clause-room
add_cubes-requires-clause-room c = room_at c.args.column c.args.count c.args.sums.now c.args.sums.now (λ d. most_added (powers_column d)) c.requires.room 0 _ (omega arith) (omega arith) (λ i high. refl)

pub add_cubes-requires-2-clause-room : goal.add_cubes-requires-2-clause-room
add_cubes-requires-2-clause-room c = room_at c.args.column c.args.count c.args.sums.now c.add_cubes.new.sums (λ d. most_added (powers_column d)) c.requires.room 1 _ (omega arith) (omega arith) (λ i high. c.add_cubes.ensures.behind i (omega (arith, high, c.requires.count)))

pub add_low_fourths-requires-clause-room : goal.add_low_fourths-requires-clause-room
add_low_fourths-requires-clause-room c = room_at c.args.column c.args.count c.args.sums.now c.add_cubes-2.new.sums (λ d. most_added (powers_column d)) c.requires.room 2 _ (omega arith) (omega arith) (λ i high. c.add_cubes-2.ensures.behind i (omega (arith, high, c.requires.count)) ∙ (c.add_cubes.ensures.behind i (omega (arith, high, c.requires.count))))

pub add_high_fourths-requires-clause-room : goal.add_high_fourths-requires-clause-room
add_high_fourths-requires-clause-room c = room_at c.args.column c.args.count c.args.sums.now c.add_low_fourths.new.sums (λ d. most_added (powers_column d)) c.requires.room 3 _ (omega arith) (omega arith) (λ i high. c.add_low_fourths.ensures.behind i (omega (arith, high, c.requires.count)) ∙ (c.add_cubes-2.ensures.behind i (omega (arith, high, c.requires.count)) ∙ (c.add_cubes.ensures.behind i (omega (arith, high, c.requires.count)))))

pub returns-clause-grew : goal.returns-clause-grew
returns-clause-grew c = λ k row k_in a b.
    four_grown c.args.column c.args.count k c.args.sums.now c.add_cubes.new.sums c.add_cubes-2.new.sums c.add_low_fourths.new.sums c.add_high_fourths.new.sums _ _ _ _ (λ d. of_column (powers_column d) row) _ _ _ _ k_in c.requires.count (omega arith) (omega arith) (omega arith) (omega arith) c.add_cubes.ensures c.add_cubes-2.ensures c.add_low_fourths.ensures c.add_high_fourths.ensures
    (ap cube_of (sym a)) (ap cube_of (sym b)) (λ i. low_half (fourth_of (sym a i)) + low_half (fourth_of (sym b i))) (λ i. high_half (fourth_of (sym a i)) + high_half (fourth_of (sym b i)))

pub returns-clause-rest : goal.returns-clause-rest
returns-clause-rest c = four_stay c.args.column c.args.count c.args.sums.now c.add_cubes.new.sums c.add_cubes-2.new.sums c.add_low_fourths.new.sums c.add_high_fourths.new.sums _ _ _ _ _ _ _ _ c.requires.count (omega arith) (omega arith) (omega arith) (omega arith) c.add_cubes.ensures c.add_cubes-2.ensures c.add_low_fourths.ensures c.add_high_fourths.ensures
