use Rattle.std.proofs.Common.{◌≡◌, ◌≤◌, eqb, length, sym, ◌∙◌, ap, arith, leb, length-take}
use Rattle.std.specs.List.{list_all}
use Rattle.mls_model.specs.Studies.{rises}
use Rattle.mls_base.proofs.Padding.{padded-from_zeros, zeros-from_padded}
use Rattle.mls_base.proofs.shape.have_thresholds.Goals as goal

pub returns-then-is_rising : goal.returns-then-is_rising
returns-then-is_rising c =
    let n = c.args.n.now in
    let front = c.split_at.ensures.front in
    let back = c.split_at.ensures.back in
    let zero = c.is_zero.ensures ∙ ap (λ xs. list_all (λ x. eqb x 0) xs) back in
    let eight : length n.threshold ≡ 8 = omega arith in
    let few : n.thresholds ≤ 8 = c.if-n-gt-MOST_THRESHOLDS.false in (
      λ all. record {
        few = few;
        thresholds = record {
          few = omega (arith, length-take n.thresholds n.threshold);
          rising = sym (ap (λ xs. rises xs) front) ∙ sym c.is_rising.ensures.value ∙ c.if-is_rising.true;
          fit = sym (ap (λ xs. list_all (λ t. leb t 65535) xs) front) ∙ c.is_rising.ensures.fit;
        };
        behind = padded-from_zeros n.thresholds n.threshold eight few (sym zero ∙ all);
      },
      λ have. zero ∙ zeros-from_padded n.thresholds n.threshold eight few have.behind,
    )
