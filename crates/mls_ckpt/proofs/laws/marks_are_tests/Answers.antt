use Rattle.mls_ckpt.proofs.MarkLaws.{marks_valid, marks_bit, marks_same}
use Rattle.mls_ckpt.proofs.laws.marks_are_tests.Goals as goal

pub returns : goal.returns
returns c = record {
  valid = λ s test. marks_valid s test;
  bits = λ s test key group plane. marks_bit s test key group plane;
  only = λ s marks test valid same. marks_same s marks test valid same;
}
