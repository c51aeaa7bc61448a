use Rattle.std.proofs.Common.{append_assoc, FitsSigned, to_z-of_z, rules}
use Rattle.std.specs.Int.{w128}
use Rattle.std.proofs.lemmas.List.{append-nil}
use Rattle.mls_result.specs.Words.{parts_said}
use Rattle.mls_result.proofs.indices.add_parts.Goals as goal

pub returns : goal.returns
unfolding parts_said
returns c =
    let p = c.args.parts.now in
    let with_b : FitsSigned w128 p.cov_b = search rules in
    let with_a : FitsSigned w128 p.cov_a = search rules in
    rw (c.text-6.ensures.bytes, c.number-5.ensures.bytes, c.text-5.ensures.bytes, c.number-4.ensures.bytes, c.text-4.ensures.bytes, c.number-3.ensures.bytes, c.text-3.ensures.bytes, c.number-2.ensures.bytes, c.text-2.ensures.bytes, c.number.ensures.bytes, c.text.ensures.bytes) (rw (to_z-of_z with_b, to_z-of_z with_a) (simp (append_assoc, append-nil)))
