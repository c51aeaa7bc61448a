use Rattle.std.proofs.Common.{◌≤◌, length, ◌∙◌, ap, arith}
use Rattle.mls_slot.specs.Disks.{over}
use Rattle.mls_slot.proofs.Torn.{torn_within}
use Rattle.mls_slot.proofs.memory.torn.Goals as goal

pub returns : goal.returns
returns c =
    let few : length c.in_ok-part.part.items ≤ c.args.range.1 = omega arith in
    torn_within c.args.old.now c.args.range.0 c.args.range.1 c.in_ok-part.part.items c.in_ok-new.new.items (omega arith) few (c.in_ok-new.ensures ∙ ap (over c.args.old.now c.args.range.0) c.deref.ensures.value)
