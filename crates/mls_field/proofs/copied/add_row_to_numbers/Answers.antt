use Rattle.std.proofs.Common.{◌≡◌, ℕ, ◌+◌, ◌*◌, length, slice_index, inl, inr, ap, ◌∙◌, sym, subst, arith}
use Rattle.std.proofs.lemmas.Bool.{cases_lt}
use Rattle.mls_power.specs.ColumnSteps.{one_above}
use Rattle.mls_field.specs.OutputSteps.{numbers_step}
use Rattle.mls_field.proofs.FourCopied.{entry}
use Rattle.mls_field.proofs.copied.add_row_to_numbers.Goals as goal

pub loop-c-preserved : goal.loop-c-preserved
loop-c-preserved c =
    let ts = c.args.shape.now.thresholds in
    let d' = c.loop-c.c in
    let samples = c.args.samples.now in
    let changed = c.count_above.ensures in
    record {
      done = λ k row k_in first second d d_in. elim (cases_lt d d') [
        | inl low ↦ changed.before (d * 64 + k) (omega (arith, low, k_in, c.requires.count)) ∙ c.loop-c.invariant.done k row k_in first second d low
        | inr not ↦ (
            let last : d' ≡ d = omega (arith, not, d_in) in
            subst (λ (n : ℕ). slice_index c.count_above.new.numbers (n * 64 + k) ≡ numbers_step ts n row (slice_index c.args.numbers.now (n * 64 + k))) last
            (changed.there k k_in ∙ (λ i. c.loop-c.invariant.rest (d' * 64 + k) (omega arith) i + one_above (c.threshold.ensures.value i) (sym first i) + one_above (c.threshold.ensures.value i) (sym second i)))
            )
      ];
      rest = λ i high. changed.behind i (omega (arith, high, c.requires.count)) ∙ c.loop-c.invariant.rest i (omega (arith, high));
    }

pub returns : goal.returns
returns c = λ k row k_in first second.
    let size = length c.args.shape.now.thresholds in
    record {
      each = λ d d_in. entry size k c.loop-c.numbers d d_in ∙ (c.loop-c.invariant.done k row k_in first second d (omega (arith, d_in)) ∙ ap (numbers_step c.args.shape.now.thresholds d row) (sym (entry size k c.args.numbers.now d d_in)));
    }
