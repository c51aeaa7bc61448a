use Rattle.std.proofs.Common.{append_assoc, FitsSigned, to_z-of_z, rules}
use Rattle.std.specs.Int.{w64, w128}
use Rattle.std.proofs.lemmas.List.{append-nil}
use Rattle.mls_result.specs.Words.{power_words}
use Rattle.mls_result.proofs.lines.add_powers.Goals as goal

pub returns-clause-text : goal.returns-clause-text
unfolding power_words
returns-clause-text c =
    let p = c.args.powers.now in
    let first : FitsSigned w64 p.p1 = search rules in
    let third : FitsSigned w128 p.p3 = search rules in
    let fourth : FitsSigned w128 p.p4 = search rules in
    rw (c.text-5.ensures.bytes, c.number-4.ensures.bytes, c.text-4.ensures.bytes, c.number-3.ensures.bytes, c.text-3.ensures.bytes, c.number-2.ensures.bytes, c.text-2.ensures.bytes, c.number.ensures.bytes, c.text.ensures.bytes) (rw (to_z-of_z first, to_z-of_z third, to_z-of_z fourth) (simp (append_assoc, append-nil)))
