use Rattle.std.proofs.Common.{◌<◌, ◌^◌, sym, ap, ◌∙◌, Some, inl, inr, arith}
use Rattle.std.proofs.lemmas.Bool.{cases_lt}
use Rattle.mls_text.proofs.Decimals.{number_within, number_beyond, number_of_none}
use Rattle.mls_text.proofs.decimal.small_canonical_number.Goals as goal

pub returns-in-Ok : goal.returns-in-Ok
returns-in-Ok c =
    let small : c.in-Some.number < 2 ^ 32 = c.in-Ok.ensures.0 in
    ap Some c.in-Ok.ensures.1 ∙ sym (number_within (2 ^ 32) (2 ^ 64) c.args.digits.now c.in-Some.number (omega arith) (sym c.in-Some.ensures) small)

pub returns-in-Err : goal.returns-in-Err
returns-in-Err c = elim (cases_lt c.in-Some.number (2 ^ 32)) [
  | inl lt ↦ absurd (c.in-Err.ensures lt)
  | inr le ↦ sym (number_beyond (2 ^ 32) (2 ^ 64) c.args.digits.now c.in-Some.number (omega arith) (sym c.in-Some.ensures) le)
]

pub returns-in-None : goal.returns-in-None
returns-in-None c = sym (number_of_none (2 ^ 32) (2 ^ 64) c.args.digits.now (omega arith) (omega arith) (sym c.in-None.ensures))
