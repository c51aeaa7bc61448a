use Rattle.std.proofs.Common.{arith}
use Rattle.std.proofs.lemmas.Map.Text.{text_keys}
use Rattle.mls_base.proofs.memory.MemFiles.set.Goals as goal

pub returns-clause-saved : goal.returns-clause-saved
returns-clause-saved c = record {
  own = grind (arith, text_keys);
  others = λ other apart. grind (arith, text_keys);
}
