use Rattle.std.proofs.Common.{refl, ◌∙◌}
use Rattle.mls_rank.specs.Cores.{sizes_of, rank_of}
use Rattle.mls_rank.specs.Saving.{state_of}
use Rattle.mls_rank.proofs.HeadTexts.{whole_text}
use Rattle.mls_rank.proofs.SavedCores.{checkpoint_is}
use Rattle.mls_rank.proofs.rank_core.RankCore.save_bytes.Goals as goal

pub returns-clause-spelled : goal.returns-clause-spelled
returns-clause-spelled g c =
    c.finish.ensures
    ∙ whole_text (sizes_of c.args.self.now) (rank_of c.args.self.now) (state_of c.args.self.now) c.new-out.result c.put_head.new.out c.put_counts.new.out c.put.new.out c.put-2.new.out c.put-3.new.out
    c.new-out.ensures c.in_ok-put_head.ensures c.in_ok-put_counts.ensures c.in_ok-put.ensures c.in_ok-put-2.ensures c.in_ok-put-3.ensures

pub returns-clause-history : goal.returns-clause-history
returns-clause-history g c = λ history st.
    checkpoint_is c.args.self.now history c.finish.result.items (record { marks = c.valid.ensures.rows; pending = c.valid-2.ensures.pending; rising = c.valid-2.ensures.rising }) c.part_laws.ensures.spelled (returns-clause-spelled g c) st

pub returns-clause-spells : goal.returns-clause-spells
returns-clause-spells g c = λ few. record {
  of_sizes = refl;
  of_rank = refl;
  few = few;
  kept = record { marks = c.valid.ensures.rows; pending = c.valid-2.ensures.pending; rising = c.valid-2.ensures.rising };
  version = 3;
  is_read = refl;
  spelled = returns-clause-spelled g c;
}
