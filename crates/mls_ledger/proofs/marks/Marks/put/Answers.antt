use Rattle.std.proofs.Common.{◌++◌, ap, ◌∙◌}
use Rattle.mls_ledger.specs.MarkSets.{MarkSet}
use Rattle.mls_ledger.proofs.Rows.{put_begins, put_more, put_ends, whole_text}
use Rattle.mls_ledger.proofs.marks.Marks.put.Goals as goal

pub loop-byte-init : goal.loop-byte-init
loop-byte-init c =
    let m : MarkSet = record { groups = c.self.inside.groups; planes = c.self.inside.planes; bytes = c.self.inside.bytes.items } in
    put_begins m c.args.self.now c.reserve.new.self c.args.out.now c.as_slice-byte-items.result.now c.self.view_is c.in_ok-reserve.ensures c.as_slice-byte-items.ensures.value

pub loop-byte-preserved : goal.loop-byte-preserved
loop-byte-preserved c = put_more c.loop-byte.out c.put_u8.new.self _ c.as_slice-byte-items.result.now c.loop-byte.byte-index c.loop-byte-test.true c.in_ok-put_u8.ensures.ok c.loop-byte.invariant

pub returns : goal.returns
returns c =
    let m : MarkSet = record { groups = c.self.inside.groups; planes = c.self.inside.planes; bytes = c.self.inside.bytes.items } in
    put_ends c.loop-byte.out _ c.as_slice-byte-items.result.now c.loop-byte.byte-index c.loop-byte-test.false c.loop-byte.invariant
    ∙ ap (λ l. c.args.out.now ++ l) (whole_text m c.args.self.now c.self.view_is c.self.invariant.size)
