use Rattle.mls_ledger.proofs.TakingMarks.{handed_on, byte_goes_on, byte_refuses, byte_ends}
use Rattle.mls_ledger.proofs.reading.take_row.Goals as goal

pub returns-in_err-byte : goal.returns-in_err-byte
returns-in_err-byte c =
    handed_on c.from_residual.result c.in_err-byte.field-0.0 c.args.bytes.now.items c.loop-place.bytes.items _ _ c.from_residual.ensures.1
    (byte_refuses c.args.shape.now.groups c.groups-groups.result c.most_of.result c.loop-place.place _ c.loop-place.bytes.items c.args.bytes.now.items _ c.in_err-byte.field-0.0 _
    c.groups-groups.ensures.value c.most_of.ensures c.loop-place-test.true c.in_err-byte.ensures.0 c.loop-place.invariant)

pub loop-place-preserved : goal.loop-place-preserved
loop-place-preserved c =
    byte_goes_on c.args.shape.now.groups c.groups-groups.result c.most_of.result c.loop-place.place _ c.in_ok-byte.byte c.loop-place.bytes.items c.push.new.bytes.items _ _ _
    c.groups-groups.ensures.value c.most_of.ensures c.loop-place-test.true c.in_ok-push.ensures c.in_ok-byte.ensures c.loop-place.invariant

pub returns : goal.returns
returns c = byte_ends c.args.shape.now.groups c.loop-place.place _ c.loop-place.bytes.items _ _ c.loop-place-test.false c.loop-place.invariant
