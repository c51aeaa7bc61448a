use Rattle.std.proofs.Common.{◌-◌, drop, arith, take_all, length-drop}
use Rattle.std.proofs.lemmas.Str.{IsUtf8-from_ascii}
use Rattle.mls_num.proofs.Read.{read_well}
use Rattle.mls_num.proofs.texts.put_decimal.Goals as goal

pub unwrap-requires : goal.unwrap-requires
unwrap-requires c =
    let w = c.write-start in
    read_well c.from_utf8.result _ _ _ c.from_utf8.ensures.cases (IsUtf8-from_ascii _ (rw (take_all (40 - w.result) (drop w.result w.new.buf) (omega (arith, length-drop w.result w.new.buf)), w.ensures.written) w.ensures.ascii))
