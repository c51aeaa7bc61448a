-- The rank's keeper is taken out of its place and put back.
use Rattle.std.proofs.Common.{◌≡◌, ◌<◌, length, Some, ap, sym, ◌∙◌, arith}
use Rattle.std.specs.List.{insert, remove}
use Rattle.std.specs.Option.{option_map}
use Rattle.mls_model.specs.Numbers.{element}
use Rattle.mls_book.specs.Keepers.{keeper_seen}
use Rattle.mls_book.proofs.KeeperPlaces.{put_own, put_other, element_map}
use Rattle.mls_result.proofs.States.{at_element}
use Rattle.mls_resumed.proofs.folding.fold_rank.Goals as goal

pub returns-in-Ok-clause-own : goal.returns-in-Ok-clause-own
returns-in-Ok-clause-own g c =
    let see = keeper_seen g.K.Keeper in
    let old = c.args.keepers.now.items in
    let rank = c.args.rank in
    let keeper = c.remove-keeper.result in
    let after = c.run_rank-answer.result.1 in
    let here : rank < length old = omega (arith, c.requires.place, c.args.keepers.now.ok.0) in
    let there : element old rank ≡ Some keeper = at_element old rank keeper here ∙ ap Some (sym c.remove-keeper.ensures.value) in
    let items : c.insert.new.self.items ≡ insert (remove old rank) rank after = c.in-Ok.ensures.items ∙ ap (λ xs. insert xs rank after) c.remove-keeper.ensures.items in
    record {
      before = see keeper;
      after = see after;
      was = element_map see old rank ∙ ap (option_map see) there;
      is = element_map see c.insert.new.self.items rank ∙ ap (option_map see) (ap (λ xs. element xs rank) items ∙ put_own old rank after here);
      related = c.run_rank-answer.ensures.keeper;
    }

pub returns-in-Ok-clause-others : goal.returns-in-Ok-clause-others
returns-in-Ok-clause-others g c = λ other ne.
    let old = c.args.keepers.now.items in
    let rank = c.args.rank in
    let after = c.run_rank-answer.result.1 in
    let here : rank < length old = omega (arith, c.requires.place, c.args.keepers.now.ok.0) in
    let items : c.insert.new.self.items ≡ insert (remove old rank) rank after = c.in-Ok.ensures.items ∙ ap (λ xs. insert xs rank after) c.remove-keeper.ensures.items in
    ap (λ xs. element xs other) items ∙ put_other old rank other after here ne
