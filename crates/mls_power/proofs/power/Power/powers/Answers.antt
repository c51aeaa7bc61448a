use Rattle.std.proofs.Common.{◌≡◌, ◌*◌, Bool, false, pos, map, ◌∙◌, ap, refl, sym, subst, to_z, w64, arith}
use Rattle.std.specs.Int.{w128}
use Rattle.std.proofs.lemmas.Int.{ints}
use Rattle.mls_model.specs.Samples.{unshifted}
use Rattle.mls_power.specs.declared.power.Powers.{Powers}
use Rattle.mls_model.specs.SumsText.{height}
use Rattle.mls_power.specs.Standing.{ArePowers, AreLowered}
use Rattle.mls_power.proofs.Values.{sum-pos}
use Rattle.mls_model.specs.Numbers.{square, cube}
use Rattle.mls_power.proofs.power.Power.powers.Goals as goal

pub returns-else-signed-clause-formulas : goal.returns-else-signed-clause-formulas
returns-else-signed-clause-formulas c =
    let p = c.args.self.now in
    let all : Powers = record { p1 = to_z w64 c.p1.result; p2 = c.p2.result; p3 = to_z w128 c.p3.result; p4 = to_z w128 c.p4.result } in
    let plain : AreLowered 0 p all = record {
      first = omega (arith, ints, c.p1.ensures);
      second = omega (arith, ints, c.p2.ensures);
      third = omega (arith, ints, c.p3.ensures);
      fourth = omega (arith, ints, c.p4.ensures);
    } in
    subst (λ (b : Bool). AreLowered (height b) p all) (sym c.if-signed.false) plain

pub returns-else-signed-clause-values : goal.returns-else-signed-clause-values
returns-else-signed-clause-values c = λ ws stands.
    let p = c.args.self.now in
    let all : Powers = record { p1 = to_z w64 c.p1.result; p2 = c.p2.result; p3 = to_z w128 c.p3.result; p4 = to_z w128 c.p4.result } in
    let small : to_z w64 c.p1.result ≡ pos c.p1.result = omega (arith, ints) in
    let third : to_z w128 c.p3.result ≡ pos c.p3.result = omega (arith, ints) in
    let fourth : to_z w128 c.p4.result ≡ pos c.p4.result = omega (arith, ints) in
    let plain : ArePowers all (map (unshifted false) ws) = record {
      first = small ∙ (ap pos (c.p1.ensures ∙ stands.first) ∙ sym (sum-pos (λ w. w) (λ w. w) (λ x. refl) ws));
      second = ap pos (c.p2.ensures ∙ stands.second) ∙ sym (sum-pos square (λ w. w * w) (λ x. refl) ws);
      third = third ∙ (ap pos (c.p3.ensures ∙ stands.third) ∙ sym (sum-pos cube (λ w. w * w * w) (λ x. ap pos (omega arith)) ws));
      fourth = fourth ∙ (ap pos (c.p4.ensures ∙ stands.fourth) ∙ sym (sum-pos (λ w. square (square w)) (λ w. w * w * (w * w)) (λ x. refl) ws));
    } in
    subst (λ (b : Bool). ArePowers all (map (unshifted b) ws)) (sym c.if-signed.false) plain
