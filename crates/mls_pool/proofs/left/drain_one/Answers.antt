use Rattle.mls_pool.proofs.Going.{taken_of, goes_on}
use Rattle.mls_pool.proofs.left.drain_one.Goals as goal

pub returns-in-Ok-Taken-clause-goes_on : goal.returns-in-Ok-Taken-clause-goes_on
returns-in-Ok-Taken-clause-goes_on g c =
    let t = taken_of c.args.book.now c.offer.new.self c.event-event.result c.in-Ok-Taken.field-0-0 c.in-Ok-Taken.field-0-1 c.in-Ok-Taken.field-0 c.in-Ok-Taken.field-0-is c.in-Ok-Taken.ensures.taken in
    goes_on c.args.book.now c.offer.new.self c.event-event.result c.in-Ok-Taken.field-0-0 c.in-Ok-Taken.field-0-1 (λ start b. c.beginnings_go_on.ensures.taken start c.args.book.now c.offer.new.self c.event-event.result c.in-Ok-Taken.field-0-0 c.in-Ok-Taken.field-0-1 t b) t
