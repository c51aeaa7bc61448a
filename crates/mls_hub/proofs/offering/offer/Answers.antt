use Rattle.mls_frame.specs.Views.{frame_of}
use Rattle.mls_hub.proofs.Offers.{took_of}
use Rattle.mls_hub.proofs.offering.offer.Goals as goal

pub returns-in-Ok-Taken-clause-took : goal.returns-in-Ok-Taken-clause-took
returns-in-Ok-Taken-clause-took g c =
    let t = rw c.in-Ok-Taken.field-0-is at c.in-Ok-Taken.ensures.taken in
    let event = c.decoded-event.result in
    took_of g.F.RowFold g.K.Keeper c.args.book.now c.offer.new.self event c.in-Ok-Taken.field-0-0 c.in-Ok-Taken.field-0-1 c.args.lane c.args.kind (frame_of c.args.view) c.decoded-event.ensures.place.0 c.decoded-event.ensures.event.0 c.decoded-event.ensures.event.1
    (λ start b. c.beginnings_go_on.ensures.taken start c.args.book.now c.offer.new.self event c.in-Ok-Taken.field-0-0 c.in-Ok-Taken.field-0-1 t b) t
