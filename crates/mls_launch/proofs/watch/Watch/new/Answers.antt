use Rattle.mls_launch.proofs.Made.{made_of}
use Rattle.mls_launch.proofs.watch.Watch.new.Goals as goal

pub returns-clause-stands : goal.returns-clause-stands
returns-clause-stands c =
    made_of c.args.shape.now c.ranks.result c.groups.result c.in_ok-lasts.lasts.items c.in_ok-rows.rows.items c.ranks.ensures.value c.groups.ensures.value
    (c.in_ok-lasts.ensures.items_if_clones_equal (λ y e. e))
    (c.in_ok-rows.ensures.items_if_clones_equal (λ y e. e))
