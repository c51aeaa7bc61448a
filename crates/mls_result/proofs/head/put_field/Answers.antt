use Rattle.std.proofs.Common.{sym, ◌∙◌}
use Rattle.mls_text.proofs.Writing.{none_out, line_out, line_writes}
use Rattle.mls_result.proofs.Named.{named-some, named-none}
use Rattle.mls_result.proofs.head.put_field.Goals as goal

pub returns-then-named : goal.returns-then-named
returns-then-named g c =
    let shown = named-some c.args.study.now.field_names c.args.field c.field_name.result.now c.field_name.ensures in
    line_writes _ _ _ _ _ (sym shown) c.put_name.ensures

pub returns : goal.returns
returns g c =
    let hidden = named-none c.args.study.now.field_names c.args.field (sym c.named.ensures ∙ c.if-named.false) in
    line_out _ _ _ _ (sym hidden) (none_out _)
