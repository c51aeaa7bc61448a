use Rattle.std.proofs.Common.{◌<◌, ◌^◌, sym, ◌∙◌, arith}
use Rattle.mls_text.proofs.Decimals.{number_is, number_none, decimal_utf8, not_parsed, parsed_other, bytes_true, bytes_false}
use Rattle.mls_text.proofs.decimal.canonical_number.Goals as goal

pub returns-in-Err : goal.returns-in-Err
returns-in-Err c = sym (number_none (2 ^ 64) c.args.digits.now (λ n small e. c.in-Err.ensures.cases.0 (decimal_utf8 c.args.digits.now n small e)))

pub returns-in-Err-parse : goal.returns-in-Err-parse
returns-in-Err-parse c =
    sym (number_none (2 ^ 64) c.args.digits.now (not_parsed c.args.digits.now c.in-Ok.text.now c.parse.result c.in-Err-parse.field-0 c.parse.ensures.value.0 c.in-Ok.ensures.cases.0 c.in-Err-parse.is))

pub returns-then-eq : goal.returns-then-eq
returns-then-eq c =
    let small : c.in-Ok-parse.number < 2 ^ 64 = omega (arith, c.in-Ok-parse.ensures.value.0.0.1, c.in-Ok-parse.ensures.value.0.1) in
    sym (number_is (2 ^ 64) c.args.digits.now c.in-Ok-parse.number (omega arith) small
    (sym (bytes_true c.as_bytes.result.now c.args.digits.now c.eq.result c.eq.ensures c.if-eq.true) ∙ c.as_bytes.ensures.value ∙ c.format.ensures.text))

pub returns : goal.returns
returns c =
    sym (number_none (2 ^ 64) c.args.digits.now (parsed_other c.args.digits.now c.in-Ok.text.now c.parse.result c.in-Ok-parse.number c.parse.ensures.value.0 c.in-Ok.ensures.cases.0 c.in-Ok-parse.is
    (λ e. bytes_false c.as_bytes.result.now c.args.digits.now c.eq.result c.eq.ensures c.if-eq.false (c.as_bytes.ensures.value ∙ c.format.ensures.text ∙ sym e))))
