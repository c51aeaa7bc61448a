use Rattle.std.proofs.Common.{◌≡◌, ℕ, suc, subst, ◌+◌, ◌*◌, ap, ◌∙◌, refl, sym, arith}
use Rattle.mls_field.specs.ColumnSums.{of_column, products_column}
use Rattle.mls_field.specs.Copied.{FourGrown}
use Rattle.mls_field.proofs.FourCopied.{four_grown, four_stay, room_at}
use Rattle.mls_field.proofs.copied.add_parameter.Goals as goal

pub add_samples-requires-clause-room : goal.add_samples-requires-clause-room
add_samples-requires-clause-room c = room_at c.args.column c.args.count c.args.sums.now c.args.sums.now (λ d. 8589934590) c.requires.room 0 _ (omega arith) (omega arith) (λ i high. refl)

pub add_products-requires-clause-room : goal.add_products-requires-clause-room
add_products-requires-clause-room c = room_at c.args.column c.args.count c.args.sums.now c.add_samples.new.sums (λ d. 8589934590) c.requires.room 1 _ (omega arith) (omega arith) (λ i high. c.add_samples.ensures.behind i (omega (arith, high, c.requires.count)))

pub add_products-requires-2-clause-room : goal.add_products-requires-2-clause-room
add_products-requires-2-clause-room c = room_at c.args.column c.args.count c.args.sums.now c.add_products.new.sums (λ d. 8589934590) c.requires.room 2 _ (omega arith) (omega arith) (λ i high. c.add_products.ensures.behind i (omega (arith, high, c.requires.count)) ∙ (c.add_samples.ensures.behind i (omega (arith, high, c.requires.count))))

pub add_products-requires-3-clause-room : goal.add_products-requires-3-clause-room
add_products-requires-3-clause-room c = room_at c.args.column c.args.count c.args.sums.now c.add_products-2.new.sums (λ d. 8589934590) c.requires.room 3 _ (omega arith) (omega arith) (λ i high. c.add_products-2.ensures.behind i (omega (arith, high, c.requires.count)) ∙ (c.add_products.ensures.behind i (omega (arith, high, c.requires.count)) ∙ (c.add_samples.ensures.behind i (omega (arith, high, c.requires.count)))))

pub returns-clause-grew : goal.returns-clause-grew
returns-clause-grew c = λ k j row k_in a b x.
    let e : suc j ≡ 1 + j = omega arith in
    subst (λ (n : ℕ). FourGrown c.args.column k c.args.sums.now c.add_products-3.new.sums (λ d. of_column (products_column n d) row)) e
    (four_grown c.args.column c.args.count k c.args.sums.now c.add_samples.new.sums c.add_products.new.sums c.add_products-2.new.sums c.add_products-3.new.sums _ _ _ _ (λ d. of_column (products_column (suc j) d) row) _ _ _ _ k_in c.requires.count (omega arith) (omega arith) (omega arith) (omega arith) c.add_samples.ensures c.add_products.ensures c.add_products-2.ensures c.add_products-3.ensures
    (sym x) (ap (λ y. y * y) (sym x)) (λ i. sym a i * sym x i) (λ i. sym b i * sym x i))

pub returns-clause-rest : goal.returns-clause-rest
returns-clause-rest c = four_stay c.args.column c.args.count c.args.sums.now c.add_samples.new.sums c.add_products.new.sums c.add_products-2.new.sums c.add_products-3.new.sums _ _ _ _ _ _ _ _ c.requires.count (omega arith) (omega arith) (omega arith) (omega arith) c.add_samples.ensures c.add_products.ensures c.add_products-2.ensures c.add_products-3.ensures
