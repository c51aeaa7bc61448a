use Rattle.std.proofs.Common.{◌≤◌, sym, ◌∙◌, arith}
use Rattle.mls_slot.proofs.Values.{has_slot, whole_number, target_of_two}
use Rattle.mls_slot.proofs.heads.Heads.target.Goals as goal

pub returns-in-Some-Some-clause-target : goal.returns-in-Some-Some-clause-target
returns-in-Some-Some-clause-target c = λ areas known.
    let s = c.in-Some-Some in
    let a = has_slot (areas 0) s.zero (sym known.zero.slot ∙ s.is-0) in
    let b = has_slot (areas 1) s.one (sym known.one.slot ∙ s.is-1) in
    let za : s.zero.number ≤ 2 = omega (arith, a.number, whole_number (areas 0) a.whole) in
    let zb : s.one.number ≤ 2 = omega (arith, b.number, whole_number (areas 1) b.whole) in
    let e = c.later_target.ensures in
    target_of_two areas s.zero s.one a b c.later_target.result (e.one za zb) (e.zero za zb) (e.same za zb)
