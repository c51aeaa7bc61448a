-- The keeper of the rank alone is asked.
use Rattle.std.proofs.Common.{◌<◌, length, slice_set, ap, ◌∙◌, arith}
use Rattle.std.specs.Option.{option_map}
use Rattle.mls_book.specs.Keepers.{keeper_seen}
use Rattle.mls_book.proofs.KeeperPlaces.{element_map}
use Rattle.mls_export.proofs.Places.{at_value, set_other, set_own}
use Rattle.mls_export.proofs.exporting.get_of.Goals as goal

pub returns-clause-own : goal.returns-clause-own
returns-clause-own g c =
    let see = keeper_seen g.K.Keeper in
    let old = c.args.keepers.now.items in
    let rank = c.args.rank in
    let here : rank < length old = omega (arith, c.requires.place, c.args.keepers.now.ok.0) in
    record {
      before = see c.index_mut.result.now;
      after = see c.get_from.new.keeper;
      was = element_map see old rank ∙ ap (option_map see) (at_value old rank c.index_mut.result.now here c.index_mut.ensures.value);
      is = element_map see (slice_set old rank c.get_from.new.keeper) rank ∙ ap (option_map see) (set_own old rank c.get_from.new.keeper here);
      related = c.get_from.ensures;
    }

pub returns-clause-others : goal.returns-clause-others
returns-clause-others g c = λ other ne. set_other c.args.keepers.now.items c.args.rank other c.get_from.new.keeper ne
