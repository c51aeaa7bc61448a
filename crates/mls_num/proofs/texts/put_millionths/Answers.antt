use Rattle.std.proofs.Common.{to_z-of_z}
use Rattle.std.proofs.lemmas.Str.{IsUtf8-from_ascii}
use Rattle.mls_num.proofs.Millionths.{words_ascii}
use Rattle.mls_num.proofs.Read.{read_well}
use Rattle.mls_num.proofs.texts.put_millionths.Goals as goal

pub unwrap-requires : goal.unwrap-requires
unwrap-requires c =
    read_well c.from_utf8.result _ _ _ c.from_utf8.ensures.cases
    (IsUtf8-from_ascii _ (rw (c.write_millionths-start.ensures.written, to_z-of_z c.ranges.m) (words_ascii c.args.m c.requires.low c.requires.high)))
